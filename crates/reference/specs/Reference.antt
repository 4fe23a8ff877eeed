-- A reference: what is answered to terms and rows, computed on lists by the definitions that the engines compute by, and when an answer is right.
use Rattle.std.specs.Prelude.{◌≡◌, ℕ, zero, suc, ◌+◌, ◌*◌, Bool, true, false, ◌&&◌, List, [], ◌∷◌, ◌++◌, length, take, Some, None, Option, ℤ}
use Rattle.sheet.specs.declared.fault.Cause.{Cause}
use Rattle.sheet.specs.declared.row.Row.{Row}
use Rattle.sheet.specs.declared.term.Term.{Term}
use Rattle.engine.specs.Arrangements.{blocks}
use Rattle.engine.specs.Dates.{GreatestDates}
use Rattle.engine.specs.Fitting.{all_terms_fit}
use Rattle.engine.specs.Meaning.{numbers_in}
use Rattle.engine.specs.Placing.{placed_seats}
use Rattle.engine.specs.Refusals.{row_refusal}
use Rattle.engine.specs.Rules.{SpanAllowed, TableAllowed}
use Rattle.engine.specs.States.{State, active_rows}
use Rattle.engine.specs.Terms.{seats_of}
use Rattle.congruence.specs.declared.entry.Entry.{Entry}
use Rattle.search.specs.Verdicts
use Rattle.search.specs.Verdicts.{FirstAllowed, Judged, arranged, found_state}
use Rattle.span.specs.Dating.{counts_spans, from_zero}
use Rattle.span.specs.Decisions.{becomes_stable_of, distances_of}
use Rattle.table.specs.Apart.{blocks_apart, rows_apart}
use Rattle.table.specs.Decisions.{classes_of}
use Rattle.model.specs.PickedEntries.{entries_once}
use Rattle.model.specs.Numbering.{numbers_of}
use Rattle.model.specs.SetUps.{PickedSetUp}

-- the set-up of the first arrangement that both rules allow, with its codes; the places of the rows of a clash; or why a row is refused
pub data Answer : Type 0 where
  setup : (codes : List ℕ) (numbers : List ℤ) (entries : List Entry) → Answer
  clash : (places : List ℕ) → Answer
  refused : (cause : Cause) → Answer

-- each row was accepted when it came, with as many rows standing as come before it
abbrev pub EachAccepted : List Term → List Row → Type 0
EachAccepted ts rows = (front back : List Row) (r : Row) → rows ≡ front ++ r ∷ back → row_refusal ts (length front) r ≡ None

-- when an answer is right
module _ (ts : List Term) (rows : List Row) where
  pub record SetUpIsRight (codes : List ℕ) (numbers : List ℤ) (entries : List Entry) : Type 0 where
    pub accepted : EachAccepted ts rows
    pub first : FirstAllowed TableAllowed SpanAllowed ts rows codes
    pub picked : PickedSetUp SpanAllowed counts_spans GreatestDates (found_state ts rows (arranged codes)) numbers entries

  pub record ClashIsRight (places : List ℕ) : Type 0 where
    pub accepted : EachAccepted ts rows
    pub judged : Judged TableAllowed SpanAllowed ts rows (Verdicts.clash places)

  -- the first row that was not accepted, and why
  pub record RefusalIsRight (cause : Cause) : Type 0 where
    pub front : List Row
    pub row : Row
    pub back : List Row
    pub split : rows ≡ front ++ row ∷ back
    pub accepted : EachAccepted ts front
    pub ground : row_refusal ts (length front) row ≡ Some cause

  abbrev pub AnswerIsRight : Answer → Type 0
  AnswerIsRight (setup codes numbers entries) = SetUpIsRight codes numbers entries
  AnswerIsRight (clash places) = ClashIsRight places
  AnswerIsRight (refused cause) = RefusalIsRight cause

-- How it is computed. Each choice is by `elim`, whose cases wait: the checker computes only the one that is chosen.

-- why the first row that is refused is refused, where n rows stand before these
abbrev pub first_refusal : List Term → ℕ → List Row → Option Cause
first_refusal ts n [] = None
first_refusal ts n (r ∷ rows) = elim (row_refusal ts n r) [ Some cause ↦ Some cause | None ↦ first_refusal ts (suc n) rows ]

-- the table rule by the classes of the terms: whether it allows an arrangement that begins with the codes placed
abbrev pub keeps_apart : List ℕ → State → Bool
keeps_apart classes s = rows_apart classes (active_rows s.rows) && blocks_apart classes (placed_seats s)

-- whether each rule allows some arrangement that begins with the codes placed
abbrev pub stays_open : State → Bool
stays_open s = elim (becomes_stable_of s) [ true ↦ keeps_apart (classes_of s) s | false ↦ false ]

-- what is found by the first of k codes, from c on, by which something is found
abbrev pub first_by : (ℕ → Option (List ℕ)) → ℕ → ℕ → Option (List ℕ)
first_by find c zero = None
first_by find c (suc k) = elim (find c) [ Some codes ↦ Some codes | None ↦ first_by find (suc c) k ]

-- the first arrangement that begins with these codes and passes the test with each code more, where n seats have no code
abbrev pub descend : (List ℕ → Bool) → ℕ → List ℕ → Option (List ℕ)
descend test zero codes = elim (test codes) [ true ↦ Some codes | false ↦ None ]
descend test (suc n) codes = elim (test codes) [ true ↦ first_by (λ c. descend test n (codes ++ c ∷ [])) 0 (2 * blocks codes + 1) | false ↦ None ]

abbrev pub first_allowed : List Term → List Row → Option (List ℕ)
first_allowed ts rows = descend (λ codes. stays_open (found_state ts rows (arranged codes))) (length (seats_of ts)) []

-- the places that `Walk` leaves, by what is found of rows
abbrev pub walk : (List Row → Option (List ℕ)) → List Row → List Row → ℕ → List ℕ
walk find kept [] i = []
walk find kept (r ∷ rest) i = elim (find (kept ++ rest)) [ Some codes ↦ i ∷ walk find (kept ++ r ∷ []) rest (i + 1) | None ↦ walk find kept rest (i + 1) ]

-- the dates of the seats and the groups of the terms, every seat placed; and the set-up that they make
abbrev pub dates_of : State → List ℤ
dates_of s = from_zero (distances_of s) (seats_of s.terms)

abbrev pub groups_of : State → List ℕ
groups_of s = take (length s.terms) (classes_of s)

abbrev pub setup_of : State → Answer
setup_of s =
    let numbers : List ℤ = numbers_of (seats_of s.terms) (dates_of s) (groups_of s) in
    setup s.codes numbers (entries_once s.terms (numbers_in numbers))

abbrev pub judge : List Term → List Row → Answer
judge ts rows =
    elim (first_allowed ts rows) [
      | Some codes ↦ setup_of (found_state ts rows (arranged codes))
      | None ↦ clash (walk (first_allowed ts) [] rows 0)
    ]

abbrev pub answer_to : List Term → List Row → Answer
answer_to ts rows = elim (first_refusal ts 0 rows) [ Some cause ↦ refused cause | None ↦ judge ts rows ]

-- the answer is right, whichever terms were accepted, and whichever rows come
abbrev pub ReferenceIsRight : Type 0
ReferenceIsRight = (ts : List Term) (rows : List Row) → all_terms_fit ts ≡ true → AnswerIsRight ts rows (answer_to ts rows)
