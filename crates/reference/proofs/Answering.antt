-- The answer that is computed is right.
use Rattle.std.proofs.Common.{◌≡◌, ℕ, ◌≤◌, true, List, [], ◌∷◌, ◌++◌, length, Some, None, Option, sym, refl, subst, arith, length-append}
use Rattle.sheet.specs.declared.fault.Cause.{Cause}
use Rattle.sheet.specs.declared.row.Row.{Row}
use Rattle.sheet.specs.declared.term.Term.{Term}
use Rattle.engine.specs.Fitting.{all_terms_fit, row_fits}
use Rattle.engine.specs.Rules.{SpanAllowed, TableAllowed}
use Rattle.engine.specs.Terms.{seats_of}
use Rattle.engine.proofs.Fitting.{few_fit}
use Rattle.engine.proofs.Laws.{span_rule_without, table_rule_without}
use Rattle.engine.proofs.Lists.{all_without}
use Rattle.theory.specs.Combining.{AllowedByBoth, Possible}
use Rattle.search.specs.Verdicts.{FirstAllowed, arranged, found_state}
use Rattle.search.proofs.Cores.{core_of}
use Rattle.search.proofs.Deciding.{active_of}
use Rattle.reference.specs.Reference.{AnswerIsRight, EachAccepted, ReferenceIsRight, clash, first_allowed, first_refusal, judge, refused, setup_of, stays_open, walk}
use Rattle.reference.proofs.Accepting.{RowsFit, each_accepted, refusal_is_right, rows_fit}
use Rattle.reference.proofs.Searching.{Finds, descend_finds}
use Rattle.reference.proofs.SettingUp.{set_up_picked}
use Rattle.reference.proofs.Testing.{bounds_with, complete, sound}
use Rattle.reference.proofs.Walking.{Says, walked}

fewer_fit : (ts : List Term) (front back : List Row) (r : Row) → RowsFit ts (front ++ r ∷ back) → RowsFit ts (front ++ back)
fewer_fit ts front back r fit = record {
  few = omega (arith, fit.few, length-append front (r ∷ back), length-append front back);
  each = all_without (λ x. row_fits ts x ≡ true) front back r fit.each;
}

module _ (ts : List Term) (terms_fit : all_terms_fit ts ≡ true) (few_terms : length ts ≤ 32) (few_seats : length (seats_of ts) ≤ 8) where
  abbrev First : List Row → List ℕ → Type 0
  First rows codes = FirstAllowed TableAllowed SpanAllowed ts rows codes

  abbrev Any : List Row → Type 0
  Any rows = Possible TableAllowed SpanAllowed ts rows

  -- the first arrangement is found, or there is none
  abbrev FirstOrNone : List Row → Option (List ℕ) → Type 0
  FirstOrNone rows None = Any rows → ⊥
  FirstOrNone rows (Some codes) = First rows codes

  first_or_none : (rows : List Row) → RowsFit ts rows → FirstOrNone rows (first_allowed ts rows)
  first_or_none rows fit =
      told (first_allowed ts rows)
      (descend_finds (AllowedByBoth TableAllowed SpanAllowed ts rows) (length (seats_of ts)) (λ codes b. b.arrangement)
      (λ codes. stays_open (found_state ts rows (arranged codes)))
      (complete ts terms_fit few_terms few_seats rows fit) (sound ts terms_fit few_terms few_seats rows fit)
      (length (seats_of ts)) [] (omega arith) (record { short = omega arith; valid = refl }))
    where
      told : (o : Option (List ℕ)) → Finds [] (AllowedByBoth TableAllowed SpanAllowed ts rows) o → FirstOrNone rows o
      told None none = λ p. none p.0 p.1
      told (Some codes) f = subst (First rows) (sym f.1) (record { allowed = f.2; none_before = f.3 })

  says : (rows : List Row) → RowsFit ts rows → Says Any rows (first_allowed ts rows)
  says rows fit = told (first_allowed ts rows) (first_or_none rows fit)
    where
      told : (o : Option (List ℕ)) → FirstOrNone rows o → Says Any rows o
      told None none = none
      told (Some codes) f = (codes, f.allowed)

  module _ (rows : List Row) (accepted : EachAccepted ts rows) where
    fit : RowsFit ts rows
    fit = rows_fit ts rows accepted

    set_up_is_right : (codes : List ℕ) → First rows codes → AnswerIsRight ts rows (setup_of (found_state ts rows (arranged codes)))
    set_up_is_right codes first =
        let a = first.allowed.arrangement in
        let held = bounds_with ts terms_fit few_terms few_seats rows fit codes (omega (arith, a.full)) a.valid in
        let by_spans = subst (λ rs. SpanAllowed ts rs codes) (sym (active_of rows)) first.allowed.by_second in
        record { accepted = accepted; first = first; picked = set_up_picked held a.full by_spans }

    clash_is_right : (Any rows → ⊥) → AnswerIsRight ts rows (clash (walk (first_allowed ts) [] rows 0))
    clash_is_right none =
        let places = walk (first_allowed ts) [] rows 0 in
        let walks = walked Any (RowsFit ts) (first_allowed ts) (fewer_fit ts) says [] rows 0 fit in
        record { accepted = accepted; judged = (none, core_of TableAllowed SpanAllowed table_rule_without span_rule_without ts rows places none walks) }

    judged_right : AnswerIsRight ts rows (judge ts rows)
    judged_right = told (first_allowed ts rows) (first_or_none rows fit)
      where
        told : (o : Option (List ℕ)) → FirstOrNone rows o
            → AnswerIsRight ts rows (elim o [ Some codes ↦ setup_of (found_state ts rows (arranged codes)) | None ↦ clash (walk (first_allowed ts) [] rows 0) ])
        told None none = clash_is_right none
        told (Some codes) first = set_up_is_right codes first

pub answer_is_right : ReferenceIsRight
answer_is_right ts rows fit = told (first_refusal ts 0 rows) refl
  where
    few : (length ts ≤ 32) × (length (seats_of ts) ≤ 8)
    few = few_fit ts fit

    told : (o : Option Cause) → first_refusal ts 0 rows ≡ o → AnswerIsRight ts rows (elim o [ Some cause ↦ refused cause | None ↦ judge ts rows ])
    told None e = judged_right ts fit few.0 few.1 rows (each_accepted ts rows e)
    told (Some cause) e = refusal_is_right ts rows cause e
