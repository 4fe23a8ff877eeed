-- With no code placed an engine allows an arrangement exactly where its part of the sheet can be met. So what the engines say is told in the
-- words of what sheets mean.
use Rattle.std.proofs.Common.{◌≡◌, ℕ, ◌↔◌, IsSome, IsTrue, false, List, [], ◌++◌, length, ℤ, Some, None, Ok, Err, Option, Result, sym, refl, subst, arith}
use Rattle.std.proofs.lemmas.Bool.{both_ways}
use Rattle.arrayvec.specs.ArrayVec.{ArrayVec}
use Rattle.sheet.specs.declared.refusal.Refusal.{Refusal}
use Rattle.sheet.specs.declared.row.Row.{Row}
use Rattle.sheet.specs.declared.term.Term.{Term}
use Rattle.engine.specs.Arrangements.{Arrangement}
use Rattle.engine.specs.Dates.{GreatestDates}
use Rattle.engine.specs.Parts.{InstantsMet, LevelsMet}
use Rattle.engine.specs.Rules.{SpanAllowed, TableAllowed, seat_numbers}
use Rattle.engine.specs.States.{Completion, State, active_rows}
use Rattle.engine.specs.Terms.{seats_of}
use Rattle.engine.proofs.Allowing.{instants_allowed, levels_allowed}
use Rattle.engine.proofs.Following.{front_extended, no_order}
use Rattle.span.specs.Dating.{counts_spans}
use Rattle.parts.specs.declared.diagnosis.Findings.{Findings}
use Rattle.parts.specs.declared.seat.Seat.{Seat}
use Rattle.parts.specs.Diagnoses.{Diagnosed, InstantsDiagnosed}
use Rattle.parts.specs.Noting.{FieldsNoted}
use Rattle.parts.specs.Told.{Told, span_letter, table_letter}
use Rattle.parts.proofs.Deciding.{noted_by_each, whole_once}
use Rattle.parts.proofs.Walking.{sound}

module _ (s : State) (bare : s.codes ≡ []) where
  -- with no code placed every arrangement goes on from there
  completed : (rule : List Term → List Row → List ℕ → Type 0) (rest : List ℕ) → Arrangement (length (seats_of s.terms)) rest → rule s.terms (active_rows s.rows) rest → Completion rule s
  completed rule rest a allowed =
      record {
        rest = rest;
        full = subst (λ cs. Arrangement (length (seats_of s.terms)) (cs ++ rest)) (sym bare) a;
        allowed = subst (λ cs. rule s.terms (active_rows s.rows) (cs ++ rest)) (sym bare) allowed;
      }

  spans_met : Completion SpanAllowed s ↔ InstantsMet (active_rows s.rows)
  spans_met = (
    (λ k. (k.allowed.0, k.allowed.1.hold)),
    (λ (v, hold).
        let x : ℕ → ℤ = seat_numbers s.terms v in
        let r = front_extended (length (seats_of s.terms)) [] x (omega arith) refl (no_order x) in
        completed SpanAllowed r.0 r.1 (instants_allowed s.terms (active_rows s.rows) r.0 (v, hold) r.2)),
  )

  equalities_met : Completion TableAllowed s ↔ LevelsMet s.terms (active_rows s.rows)
  equalities_met = (
    (λ k. record { tables = k.allowed.tables; numbers = k.allowed.numbers; interprets = k.allowed.interprets; hold = k.allowed.hold }),
    (λ m.
        let x : ℕ → ℤ = seat_numbers s.terms m.numbers in
        let r = front_extended (length (seats_of s.terms)) [] x (omega arith) refl (no_order x) in
        completed TableAllowed r.0 r.1 (levels_allowed s.terms (active_rows s.rows) r.0 m r.2)),
  )

module _ (sheet : List ℕ) where
  -- what is told of the instants
  record InstantsTold (seats : Option (ArrayVec Seat)) : Type 0 where
    pub noted : State
    pub walk : FieldsNoted span_letter sheet noted []
    pub met : IsSome seats ↔ InstantsMet (active_rows noted.rows)

  instants_told : (t : State) (seats : Option (ArrayVec Seat)) → InstantsDiagnosed SpanAllowed counts_spans GreatestDates span_letter sheet t (Ok seats) → InstantsTold seats
  instants_told t (Some seats) d = record { noted = d.noted; walk = d.walk; met = ((λ _. (d.first.allowed.0, d.first.allowed.1.hold)), (λ _. refl)) }
  instants_told t None d = record { noted = t; walk = d.walk; met = ((λ i. absurd (both_ways false refl i)), (λ i. absurd (d.closed ((spans_met t (sound d.walk).bare).1 i)))) }

  pub told : (t u₀ u : State) (d : Result Findings Refusal) → Diagnosed SpanAllowed counts_spans GreatestDates span_letter TableAllowed table_letter sheet t u₀ u d → Told sheet d
  told t u₀ u (Err e) p = p.0.at
  told t u₀ u (Ok f) p =
      let i = instants_told t f.instants p.0 in
      let one : u ≡ i.noted = whole_once span_letter sheet u i.noted (noted_by_each table_letter span_letter p.1.walk) i.walk in
      let levels = equalities_met u (sound p.1.walk).bare in
      record {
        noted = i.noted;
        walk = i.walk;
        instants = i.met;
        levels = subst (λ (s : State). IsTrue f.levels ↔ LevelsMet s.terms (active_rows s.rows)) one ((λ b. levels.0 (p.1.answered.0 b)), (λ m. p.1.answered.1 (levels.1 m)));
      }
