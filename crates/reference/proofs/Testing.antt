-- The test is passed by codes that begin an arrangement which both rules allow, and by no other arrangement.
use Rattle.std.proofs.Common.{◌≡◌, ◌≤◌, Bool, true, false, List, [], ◌∷◌, ◌++◌, ℕ, length, map, All, sym, refl, subst, arith}
use Rattle.std.proofs.lemmas.Bool.{and_from}
use Rattle.std.proofs.lemmas.List.{length-map}
use Rattle.std.proofs.lemmas.List.Elements.{All-head, All-tail}
use Rattle.sheet.specs.declared.row.Row.{Row}
use Rattle.sheet.specs.declared.term.Term.{Term}
use Rattle.engine.specs.Arrangements.{Arrangement, is_valid}
use Rattle.engine.specs.Fitting.{all_rows_fit, all_terms_fit, row_fits}
use Rattle.engine.specs.Rules.{SpanAllowed, TableAllowed}
use Rattle.engine.specs.States.{Completion, State}
use Rattle.engine.specs.Terms.{seats_of}
use Rattle.engine.proofs.Bounds.{Bounds}
use Rattle.theory.specs.Combining.{AllowedByBoth}
use Rattle.search.specs.Searching.{Front}
use Rattle.search.specs.Verdicts.{arranged, found_state}
use Rattle.search.proofs.Deciding.{active_of}
use Rattle.search.proofs.Noting.{active}
use Rattle.span.specs.Decisions.{becomes_stable_of}
use Rattle.span.proofs.Opening.{decided as span_decided, open_exactly}
use Rattle.table.specs.Decisions.{classes_of}
use Rattle.table.proofs.Opening.{decided as table_decided}
use Rattle.reference.specs.Reference.{keeps_apart, stays_open}
use Rattle.reference.proofs.Accepting.{RowsFit}

noted_fit : (ts : List Term) (rows : List Row) → All (λ r. row_fits ts r ≡ true) rows → all_rows_fit ts (map active rows) ≡ true
noted_fit ts [] a = refl
noted_fit ts (r ∷ rows) a =
    and_from (row_fits ts r) (all_rows_fit ts (map active rows)) (All-head (λ x. row_fits ts x ≡ true) r rows a) (noted_fit ts rows (All-tail (λ x. row_fits ts x ≡ true) r rows a))

-- two tests, the second made only where the first is passed
both_passed : (b c : Bool) → b ≡ true → c ≡ true → elim b [ true ↦ c | false ↦ false ] ≡ true
both_passed true c e f = f
both_passed false c e f = e

each_passed : (b c : Bool) → elim b [ true ↦ c | false ↦ false ] ≡ true → (b ≡ true) × (c ≡ true)
each_passed true c e = (refl, e)
each_passed false c e = absurd (cc)

module _ (ts : List Term) (terms_fit : all_terms_fit ts ≡ true) (few_terms : length ts ≤ 32) (few_seats : length (seats_of ts) ≤ 8) (rows : List Row) (fit : RowsFit ts rows) where
  abbrev state_with : List ℕ → State
  state_with codes = found_state ts rows (arranged codes)

  pub bounds_with : (codes : List ℕ) → length codes ≤ length (seats_of ts) → is_valid 0 codes ≡ true → Bounds (state_with codes)
  bounds_with codes short valid = record {
    terms = few_terms;
    seats = few_seats;
    rows = omega (arith, length-map rows active, fit.few);
    placed = short;
    terms_fit = terms_fit;
    rows_fit = noted_fit ts rows fit.each;
    codes_valid = valid;
  }

  -- what is allowed for the rows, which are the active rows of the state
  abbrev Both : List ℕ → Type 0
  Both codes = AllowedByBoth TableAllowed SpanAllowed ts rows codes

  pub complete : (front rest : List ℕ) → Front (length (seats_of ts)) front → Both (front ++ rest) → stays_open (state_with front) ≡ true
  complete front rest f b =
      let held = bounds_with front f.short f.valid in
      let all_active = sym (active_of rows) in
      let by_spans : Completion SpanAllowed (state_with front) = record { rest = rest; full = b.arrangement; allowed = subst (λ rs. SpanAllowed ts rs (front ++ rest)) all_active b.by_second } in
      let by_tables : Completion TableAllowed (state_with front) = record { rest = rest; full = b.arrangement; allowed = subst (λ rs. TableAllowed ts rs (front ++ rest)) all_active b.by_first } in
      let stable = becomes_stable_of (state_with front) in
      let apart = keeps_apart (classes_of (state_with front)) (state_with front) in
      both_passed stable apart ((open_exactly held stable (span_decided held)).1 by_spans) ((table_decided held apart refl).exact.1 by_tables)

  pub sound : (codes : List ℕ) → Arrangement (length (seats_of ts)) codes → stays_open (state_with codes) ≡ true → Both codes
  sound codes whole passes =
      let held = bounds_with codes (omega (arith, whole.full)) whole.valid in
      let stable = becomes_stable_of (state_with codes) in
      let apart = keeps_apart (classes_of (state_with codes)) (state_with codes) in
      let p = each_passed stable apart passes in
      record {
        arrangement = whole;
        by_first = subst (λ rs. TableAllowed ts rs codes) (active_of rows) ((table_decided held apart refl).fits.0 p.1);
        by_second = subst (λ rs. SpanAllowed ts rs codes) (active_of rows) ((span_decided held).solved p.0);
      }
