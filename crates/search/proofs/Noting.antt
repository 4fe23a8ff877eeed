-- Terms and rows that stand, one more or one less of them, and an engine that is given them.
use Rattle.std.proofs.Common.{◌≡◌, ◌↔◌, ℕ, zero, suc, ◌-◌, ◌<◌, true, List, [], ◌∷◌, ◌++◌, length, take, Some, None, Option, sym, refl, ap, ◌∙◌, arith}
use Rattle.std.proofs.lemmas.Bool.{and_parts, and_from, false≢true}
use Rattle.std.proofs.lemmas.Bool.Decides.{nat_tests}
use Rattle.std.proofs.lemmas.List.{length-map, map_push, take-map}
use Rattle.std.proofs.lemmas.Option.{none-some}
use Rattle.std.specs.Prelude.{IsOk, is_ok}
use Rattle.sheet.specs.declared.fault.Cause.{Cause}
use Rattle.sheet.specs.declared.row.Row.{Row}
use Rattle.sheet.specs.declared.term.Term.{Term}
use Rattle.engine.specs.declared.noted.Noted.{Noted}
use Rattle.engine.specs.Calls.{◌or_else◌, codes_refusal, on_note_row, on_note_term, on_strike, unless_refused, without_last}
use Rattle.engine.specs.Fitting.{row_fits}
use Rattle.engine.specs.Refusals.{answer_of, row_refusal, strike_refusal, term_refusal}
use Rattle.engine.specs.States.{State, with_rows, with_terms}
use Rattle.engine.proofs.Fitting.{row_passes}
use Rattle.search.specs.Unmuted.{all_unmuted, unmarked}

or_none : (o : Option Cause) → (o or_else None) ≡ o
or_none None = refl
or_none (Some c) = refl

-- with no code placed the only grounds are those of the term, the row or the strike
pub free : (s : State) → s.codes ≡ [] → (o : Option Cause) → (o or_else codes_refusal s) ≡ o
free s bare o = ap (λ cs. o or_else codes_refusal (record { terms = s.terms; rows = s.rows; codes = cs })) bare ∙ or_none o

abbrev pub active : Row → Noted
active r = record { row = r; active = true }

-- what a call leaves, refused or not
module _ (o : Option Cause) (s t : State) where
  terms_left : (unless_refused o s t).terms ≡ unless_refused o s.terms t.terms
  terms_left = elim o as (λ x. (unless_refused x s t).terms ≡ unless_refused x s.terms t.terms) [ None ↦ refl | Some c ↦ refl ]

  rows_left : unmarked (unless_refused o s t).rows ≡ unless_refused o (unmarked s.rows) (unmarked t.rows)
  rows_left = elim o as (λ x. unmarked (unless_refused x s t).rows ≡ unless_refused x (unmarked s.rows) (unmarked t.rows)) [ None ↦ refl | Some c ↦ refl ]

  -- a fact of both holds of what is left
  left_holds : (P : State → Type 0) → P s → P t → P (unless_refused o s t)
  left_holds P p q = elim o as (λ x. P (unless_refused x s t)) [ None ↦ q | Some c ↦ p ]

unmuted_push : (ms : List Noted) (r : Row) → all_unmuted ms ≡ true → all_unmuted (ms ++ active r ∷ []) ≡ true
unmuted_push [] r e = refl
unmuted_push (m ∷ ms) r e = let p = and_parts m.active (all_unmuted ms) e in and_from m.active (all_unmuted (ms ++ active r ∷ [])) p.0 (unmuted_push ms r p.1)

unmuted_take : (n : ℕ) (ms : List Noted) → all_unmuted ms ≡ true → all_unmuted (take n ms) ≡ true
unmuted_take zero ms e = refl
unmuted_take (suc n) [] e = refl
unmuted_take (suc n) (m ∷ ms) e = let p = and_parts m.active (all_unmuted ms) e in and_from m.active (all_unmuted (take n ms)) p.0 (unmuted_take n ms p.1)

unmarked_push : (ms : List Noted) (r : Row) → unmarked (ms ++ active r ∷ []) ≡ unmarked ms ++ r ∷ []
unmarked_push ms r = map_push (λ (m : Noted). m.row) ms (active r)

pub as_many : (ms : List Noted) → length (unmarked ms) ≡ length ms
as_many ms = length-map ms (λ (m : Noted). m.row)

-- what is known of a state that stands
pub record Stands (s : State) : Type 0 where
  pub unmuted : all_unmuted s.rows ≡ true
  pub bare : s.codes ≡ []

-- a term more
module _ (s : State) (k : Stands s) (x : Term) where
  grounds : (on_note_term s x).refusal ≡ term_refusal s.terms x
  grounds = free s k.bare (term_refusal s.terms x)

  pub term_answers : (on_note_term s x).refusal ≡ term_refusal s.terms x
  term_answers = grounds

  pub term_terms : (on_note_term s x).next.terms ≡ unless_refused (term_refusal s.terms x) s.terms (s.terms ++ x ∷ [])
  term_terms = terms_left (on_note_term s x).refusal s (with_terms s (s.terms ++ x ∷ [])) ∙ ap (λ o. unless_refused o s.terms (s.terms ++ x ∷ [])) grounds

  pub term_stands : Stands (on_note_term s x).next
  term_stands = left_holds (on_note_term s x).refusal s (with_terms s (s.terms ++ x ∷ [])) Stands k (record { unmuted = k.unmuted; bare = k.bare })

  pub term_rows : unmarked (on_note_term s x).next.rows ≡ unmarked s.rows
  term_rows = left_holds (on_note_term s x).refusal s (with_terms s (s.terms ++ x ∷ [])) (λ (q : State). unmarked q.rows ≡ unmarked s.rows) refl refl

-- a row is taken exactly where there is room for it and it fits the terms
pub room_for : (ts : List Term) (n : ℕ) (r : Row) → n < 64 → row_fits ts r ≡ true → row_refusal ts n r ≡ None
room_for ts n r l f = grind (arith, nat_tests)

pub row_taken : (ts : List Term) (n : ℕ) (r : Row) → IsOk (answer_of (row_refusal ts n r)) ↔ ((n < 64) × (row_fits ts r ≡ true))
row_taken ts n r = (
  λ ok. let p = row_passes ts n r (not_refused (row_refusal ts n r) ok) in (p.room, p.fits),
  λ p. ap (λ o. is_ok (answer_of o)) (room_for ts n r p.0 p.1),
)
  where
    not_refused : (o : Option Cause) → IsOk (answer_of o) → o ≡ None
    not_refused None ok = refl
    not_refused (Some c) ok = absurd (false≢true ok)

-- a row more
module _ (s : State) (k : Stands s) (r : Row) where
  pub row_answers : (on_note_row s r).refusal ≡ row_refusal s.terms (length (unmarked s.rows)) r
  row_answers = free s k.bare (row_refusal s.terms (length s.rows) r) ∙ ap (λ n. row_refusal s.terms n r) (sym (as_many s.rows))

  pub row_rows : unmarked (on_note_row s r).next.rows ≡ unless_refused (row_refusal s.terms (length (unmarked s.rows)) r) (unmarked s.rows) (unmarked s.rows ++ r ∷ [])
  row_rows =
      rows_left (on_note_row s r).refusal s (with_rows s (s.rows ++ active r ∷ []))
      ∙ (λ i. unless_refused (row_answers i) (unmarked s.rows) (unmarked_push s.rows r i))

  pub row_stands : Stands (on_note_row s r).next
  row_stands = left_holds (on_note_row s r).refusal s (with_rows s (s.rows ++ active r ∷ [])) Stands k (record { unmuted = unmuted_push s.rows r k.unmuted; bare = k.bare })

  pub row_terms : (on_note_row s r).next.terms ≡ s.terms
  row_terms = left_holds (on_note_row s r).refusal s (with_rows s (s.rows ++ active r ∷ [])) (λ (q : State). q.terms ≡ s.terms) refl refl

-- a row less
module _ (s : State) (k : Stands s) where
  pub strike_answers : (on_strike s).refusal ≡ strike_refusal (length (unmarked s.rows))
  strike_answers = free s k.bare (strike_refusal (length s.rows)) ∙ ap strike_refusal (sym (as_many s.rows))

  without_one : unmarked (without_last s.rows) ≡ without_last (unmarked s.rows)
  without_one = sym (take-map (λ (m : Noted). m.row) (length s.rows - 1) s.rows) ∙ ap (λ n. take (n - 1) (unmarked s.rows)) (sym (as_many s.rows))

  none_is_left : (rows : List Row) (c : Cause) → strike_refusal (length rows) ≡ Some c → rows ≡ without_last rows
  none_is_left [] c e = refl
  none_is_left (r ∷ rows) c e = absurd (none-some c (sym (grind (arith, nat_tests))))

  pub strike_rows : unmarked (on_strike s).next.rows ≡ without_last (unmarked s.rows)
  strike_rows =
      rows_left (on_strike s).refusal s (with_rows s (without_last s.rows))
      ∙ (λ i. unless_refused (strike_answers i) (unmarked s.rows) (without_one i))
      ∙ settled (strike_refusal (length (unmarked s.rows))) refl
    where
      settled : (o : Option Cause) → strike_refusal (length (unmarked s.rows)) ≡ o → unless_refused o (unmarked s.rows) (without_last (unmarked s.rows)) ≡ without_last (unmarked s.rows)
      settled None e = refl
      settled (Some c) e = none_is_left (unmarked s.rows) c e

  pub strike_stands : Stands (on_strike s).next
  strike_stands = left_holds (on_strike s).refusal s (with_rows s (without_last s.rows)) Stands k (record { unmuted = unmuted_take (length s.rows - 1) s.rows k.unmuted; bare = k.bare })

  pub strike_terms : (on_strike s).next.terms ≡ s.terms
  strike_terms = left_holds (on_strike s).refusal s (with_rows s (without_last s.rows)) (λ (q : State). q.terms ≡ s.terms) refl refl
