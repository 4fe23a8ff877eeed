-- What a result knows of the arrangement that was found, and the set-up for it.
use Rattle.std.proofs.Common.{◌≡◌, sym, refl, subst, ℕ, ◌<◌, true, Bool, List, [], length, ℤ, pos, ◌≤ℤ◌, Option, Some, None, inl, inr, arith}
use Rattle.std.proofs.lemmas.Bool.{both_ways, cases_Bool, cases_eq}
use Rattle.std.proofs.lemmas.Grind.{not_there}
use Rattle.std.proofs.lemmas.List.{append-nil}
use Rattle.std.proofs.lemmas.List.Elements.{All-from_get_or, All-map}
use Rattle.sheet.specs.declared.fault.Fault.{Fault}
use Rattle.sheet.specs.declared.row.Row.{Row}
use Rattle.sheet.specs.declared.term.Term.{Term}
use Rattle.engine.specs.declared.noted.Noted.{Noted}
use Rattle.engine.specs.Arrangements.{Arrangement}
use Rattle.engine.specs.Dates.{GreatestDates, RightDates, Undated}
use Rattle.engine.specs.Equalities.{EqualityClasses}
use Rattle.engine.specs.Fitting.{row_fits}
use Rattle.engine.specs.Rows.{RowKind}
use Rattle.engine.specs.Rules.{SpanAllowed, TableAllowed}
use Rattle.engine.specs.States.{Completion, State, active_rows}
use Rattle.engine.specs.Terms.{seats_of}
use Rattle.engine.proofs.Bounds.{Bounds, bounds}
use Rattle.engine.proofs.Fitting.{each_row_fits}
use Rattle.theory.specs.Accepted.{Accepted}
use Rattle.theory.proofs.Combining.{exact_together}
use Rattle.search.specs.declared.standing.Standing.{Standing}
use Rattle.search.specs.Standing.{rows_of, terms_of}
use Rattle.search.specs.Verdicts.{Finding, FirstAllowed, Judged, arranged, clash, found_state}
use Rattle.search.proofs.Deciding.{active_of}
use Rattle.congruence.specs.declared.entry.Entry.{Entry}
use Rattle.model.specs.SetUps.{PickedSetUp, RightSetUp}
use Rattle.model.proofs.Groups.{group_at_most, group_of_name}
use Rattle.model.proofs.Right.{set_up_is_right}
use Rattle.model.proofs.SetUpsOnly.{set_up_only}
use Rattle.span.specs.Dating.{counts_spans}
use Rattle.table.proofs.Opening.{decided, is_consistent}
use Rattle.setup.specs.declared.set_up.SetUp.{SetUp}
use Rattle.setup.specs.Groups.{DatesAtMost, NamedByLeast}
use Rattle.setup.specs.Solutions.{EveryRowTrue, SetUpFound, SetUpOnly, SetUpRight, SetUpThere}

-- what stands was accepted
pub standing_accepted : (standing : Standing) → Accepted (terms_of standing) (rows_of standing)
standing_accepted standing =
    let held = bounds standing.held in
    let ts = terms_of standing in
    let fits : Row → Type 0 = λ r. row_fits ts r ≡ true in
    record {
      each_term = held.terms_fit;
      each_row = All-map fits (λ (m : Noted). m.row) standing.held.rows.items (each_row_fits ts standing.held.rows.items held.rows_fit);
    }

-- groups are named by their least terms
pub named_by_least : (s : State) (groups : List ℕ) → EqualityClasses s groups → NamedByLeast groups
named_by_least s groups classes t l =
    let low : t < length s.terms = omega (arith, classes.each) in (group_at_most s groups classes t low, group_of_name s groups classes t low)

-- no date is past its limit
pub dates_within : (counts : RowKind → Bool) (s : State) (dates : List ℤ) → RightDates counts s dates → DatesAtMost dates
dates_within counts s dates right = All-from_get_or (λ d. d ≤ℤ pos 7000000) dates (pos 0) (λ p l. (right.within p l).1)

module _ (rule : List Term → List Row → List ℕ → Type 0) (ts : List Term) (rows : List Row) (codes : List ℕ) where
  abbrev s : State
  s = found_state ts rows (arranged codes)

  -- an arrangement that was found completes the codes placed, every seat being placed
  found_completes : FirstAllowed TableAllowed rule ts rows codes → Completion rule s
  found_completes first =
      let all = sym (append-nil codes) in
      record {
        rest = [];
        full = subst (Arrangement (length (seats_of ts))) all first.allowed.arrangement;
        allowed = subst (λ cs. rule ts (active_rows s.rows) cs) all (subst (λ rs. rule ts rs codes) (sym (active_of rows)) first.allowed.by_second);
      }

  module _ (merely : ∥ FirstAllowed TableAllowed rule ts rows codes ∥₁) where
    -- so dates are not refused
    pub found_dated : (letter : ℕ) (fault : Fault) → Undated rule s letter fault → ⊥
    found_dated letter fault undated = not_there merely (λ first. undated.ground first.allowed.arrangement.full (found_completes first))

    -- A result knows merely that there is such an arrangement. That it has a code for each seat, and that the table rule allows it, can be decided, and so is known
    module _ (held : Bounds s) where
      found_full : Arrangement (length (seats_of ts)) codes
      found_full =
          elim (cases_eq (length codes) (length (seats_of ts))) [
            | inl e ↦ record { full = e; valid = held.codes_valid }
            | inr d ↦ absurd (not_there merely (λ first. d first.allowed.arrangement.full))
          ]

      found_by_tables : TableAllowed ts (active_rows s.rows) codes
      found_by_tables =
          let all = decided held (is_consistent s) refl in
          elim (cases_Bool (is_consistent s)) [
            | inl e ↦ all.fits.0 e
            | inr e ↦ absurd (not_there merely (λ first. both_ways (is_consistent s) e (all.fits.1 (subst (λ rs. TableAllowed ts rs codes) (sym (active_of rows)) first.allowed.by_first))))
          ]

      -- the set-up for it is right
      pub found_right : (counts : RowKind → Bool) (picks : List Term → List Row → List ℕ → List ℤ → Type 0) (numbers : List ℤ) (entries : List Entry) → Accepted ts rows
          → (picked : PickedSetUp rule counts picks s numbers entries) → RightSetUp counts ts rows codes picked.dates numbers entries
      found_right counts picks numbers entries accepted picked =
          subst (λ rs. RightSetUp counts ts rs codes picked.dates numbers entries) (active_of rows)
          (set_up_is_right rule picks counts s numbers entries (subst (Accepted ts) (sym (active_of rows)) accepted) found_full found_by_tables picked)

-- the set-up of a result
module _ (rule : List Term → List Row → List ℕ → Type 0) (counts : RowKind → Bool) (picks : List Term → List Row → List ℕ → List ℤ → Type 0) (ts : List Term) (rows : List Row) where
  -- where dates are refused there is none, and nothing was found that would have one
  pub none_found : (what : Finding) → ∥ Judged TableAllowed rule ts rows what ∥₁ → (letter : ℕ) (fault : Fault) → Undated rule (found_state ts rows what) letter fault
      → SetUpFound rule counts picks ts rows what None
  none_found (arranged codes) judged letter fault undated = found_dated rule ts rows codes judged letter fault undated
  none_found (clash places) judged letter fault undated = tt

  pub set_up_right : (what : Finding) (u : Option SetUp) → Bounds (found_state ts rows what) → Accepted ts rows → ∥ Judged TableAllowed rule ts rows what ∥₁
      → SetUpFound rule counts picks ts rows what u → SetUpRight rule counts picks ts rows what u
  set_up_right (arranged codes) (Some u) held accepted judged picked = (picked, found_right rule ts rows codes judged held counts picks u.numbers.items u.entries.items accepted picked)
  set_up_right (arranged codes) None held accepted judged picked = picked
  set_up_right (clash places) u held accepted judged picked = tt

  -- that there is one exactly at an arrangement can be decided
  pub set_up_there : (what : Finding) (u : Option SetUp) → ∥ SetUpFound rule counts picks ts rows what u ∥₁ → SetUpThere what u
  set_up_there (arranged codes) (Some u) found = tt
  set_up_there (arranged codes) None found = not_there found (λ x. x)
  set_up_there (clash places) (Some u) found = not_there found (λ x. x)
  set_up_there (clash places) None found = tt

  pub set_up_alone : ((us : List Term) (zs : List Row) (cs : List ℕ) (a b : List ℤ) → picks us zs cs a → picks us zs cs b → a ≡ b)
      → (what : Finding) (u : Option SetUp) → SetUpFound rule counts picks ts rows what u → SetUpOnly rule counts picks ts rows what u
  set_up_alone once (arranged codes) (Some u) picked = λ numbers entries other.
      let s = found_state ts rows (arranged codes) in
      set_up_only rule counts picks s (once s.terms (active_rows s.rows) s.codes) u.numbers.items numbers u.entries.items entries picked other
  set_up_alone once (arranged codes) None picked = picked
  set_up_alone once (clash places) u picked = tt

-- with the table engine and the span engine every row is true, or no choice makes it so
module _ (ts : List Term) (rows : List Row) (accepted : Accepted ts rows) where
  pub every_row_true : (what : Finding) (u : Option SetUp) → Judged TableAllowed SpanAllowed ts rows what → SetUpRight SpanAllowed counts_spans GreatestDates ts rows what u → EveryRowTrue ts rows what u
  every_row_true (arranged codes) (Some u) judged (picked, right) = (right.interprets, right.all_rows refl)
  every_row_true (arranged codes) None judged right = right
  every_row_true (clash places) u judged right = λ met. judged.0 ((exact_together ts rows accepted).1 met)
