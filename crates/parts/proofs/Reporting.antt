-- A sheet has one report, whatever the engines held before.
use Rattle.std.proofs.Common.{◌≡◌, ℕ, Bool, List, ◌++◌, ◌∷◌, ℤ, Some, None, Ok, Err, Option, Result, codes, sym, refl, ap, ◌∙◌, subst}
use Rattle.std.specs.Cmp.{both_ways}
use Rattle.arrayvec.specs.ArrayVec.{ArrayVec}
use Rattle.sheet.specs.declared.refusal.Refusal.{Refusal}
use Rattle.sheet.specs.declared.row.Row.{Row}
use Rattle.sheet.specs.declared.term.Term.{Term}
use Rattle.sheet.specs.Words.{words_of_refusal}
use Rattle.engine.specs.Dates.{Dated}
use Rattle.engine.specs.Rows.{RowKind}
use Rattle.engine.specs.States.{State, Completion, with_codes}
use Rattle.engine.specs.Terms.{seats_of}
use Rattle.parts.specs.declared.diagnosis.Findings.{Findings}
use Rattle.parts.specs.declared.seat.Seat.{Seat}
use Rattle.parts.specs.Diagnoses.{AnsweredBy, Diagnosed, InstantsDiagnosed, MetBy, UnmetBy}
use Rattle.parts.specs.First.{FirstCompletion}
use Rattle.parts.specs.Lines.{instants_lines, levels_line, report_of, seat_lines}
use Rattle.parts.specs.Seats.{seats_with}
use Rattle.parts.proofs.Deciding.{first_once, same_refusal, taken_not_refused, whole_once}

-- the levels have one answer
levels_once : (rule : List Term → List Row → List ℕ → Type 0) (letter : ℕ) (sheet : List ℕ) (t u : State) (a b : Bool) → AnsweredBy rule letter sheet t a → AnsweredBy rule letter sheet u b → a ≡ b
levels_once rule letter sheet t u a b x y =
    let held : t ≡ u = whole_once letter sheet t u x.walk y.walk in
    both_ways a b
    (λ p. y.answered.1 (subst (Completion rule) held (x.answered.0 p)))
    (λ p. x.answered.1 (subst (Completion rule) (sym held) (y.answered.0 p)))

module _ (rule : List Term → List Row → List ℕ → Type 0) (counts : RowKind → Bool) (picks : List Term → List Row → List ℕ → List ℤ → Type 0) (letter : ℕ) (sheet : List ℕ) where
  not_both : (t u : State) (seats : List Seat) → MetBy rule counts picks letter sheet t seats → UnmetBy rule counts picks letter sheet u → ⊥
  not_both t u seats x y =
      let held : x.noted ≡ u = whole_once letter sheet x.noted u x.walk y.walk in
      let k : Completion rule x.noted = record { rest = x.codes; full = x.first.full; allowed = x.first.allowed } in
      y.closed (subst (Completion rule) held k)

  -- an engine that dates picks one choice of dates
  module _ (once : (ts : List Term) (rows : List Row) (cs : List ℕ) (a b : List ℤ) → picks ts rows cs a → picks ts rows cs b → a ≡ b) where
    same_dates : (s : State) (a b : List ℤ) → Dated rule s counts picks a → Dated rule s counts picks b → a ≡ b
    same_dates s a b x y = once _ _ _ a b x.picked y.picked

    same_seats : (t u : State) (a b : List Seat) → MetBy rule counts picks letter sheet t a → MetBy rule counts picks letter sheet u b → a ≡ b
    same_seats t u a b x y =
        let held : x.noted ≡ y.noted = whole_once letter sheet x.noted y.noted x.walk y.walk in
        let placed : x.codes ≡ y.codes = first_once rule y.noted x.codes y.codes (subst (λ (s : State). FirstCompletion rule s x.codes) held x.first) y.first in
        let ends : with_codes x.noted x.codes ≡ with_codes y.noted y.codes = λ i. with_codes (held i) (placed i) in
        let dated : x.dates ≡ y.dates = same_dates (with_codes y.noted y.codes) x.dates y.dates (subst (λ (s : State). Dated rule s counts picks x.dates) ends x.dated) y.dated in
        x.listed ∙ (λ i. seats_with (seats_of (held i).terms) (placed i) (dated i)) ∙ sym y.listed

    instants_once : (t u : State) (a b : Option (ArrayVec Seat)) → InstantsDiagnosed rule counts picks letter sheet t (Ok a) → InstantsDiagnosed rule counts picks letter sheet u (Ok b) → instants_lines a ≡ instants_lines b
    instants_once t u (Some a) (Some b) x y = ap (λ seats. codes "instants met" ++ seat_lines seats) (same_seats t u a.items b.items x y)
    instants_once t u (Some a) None x y = absurd (not_both t u a.items x y)
    instants_once t u None (Some b) x y = absurd (not_both u t b.items y x)
    instants_once t u None None x y = refl

    -- the first engine holds t in the end, and the second one u, where it held u₀ before; a second time t', u₀' and u'
    module _ (levels_rule : List Term → List Row → List ℕ → Type 0) (levels_letter : ℕ) (t u₀ u t' u₀' u' : State) where
      pub report_once : (d e : Result Findings Refusal) → Diagnosed rule counts picks letter levels_rule levels_letter sheet t u₀ u d → Diagnosed rule counts picks letter levels_rule levels_letter sheet t' u₀' u' e → report_of d ≡ report_of e
      report_once (Ok f) (Ok h) x y =
          let instants = instants_once t t' f.instants h.instants x.0 y.0 in
          let levels = levels_once levels_rule levels_letter sheet u u' f.levels h.levels x.1 y.1 in
          λ i. instants i ++ 10 ∷ levels_line (levels i)
      report_once (Ok f) (Err e) x y = absurd (taken_not_refused rule counts picks letter letter sheet t t' f.instants e x.0 y.0)
      report_once (Err d) (Ok h) x y = absurd (taken_not_refused rule counts picks letter letter sheet t' t h.instants d y.0 x.0)
      report_once (Err d) (Err e) x y = ap words_of_refusal (same_refusal letter sheet d e t t' x.0 y.0)
