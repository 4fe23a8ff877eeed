use Rattle.std.proofs.Common.{◌≡◌, length, true, false, sym, ap, ◌∙◌, subst, arith}
use Rattle.graph.specs.Graph.{at}
use Rattle.engine.specs.Dates.{GreatestDates, RightDates}
use Rattle.engine.specs.States.{active_rows}
use Rattle.engine.specs.Holding.{state_of}
use Rattle.engine.specs.Terms.{seats_of}
use Rattle.engine.proofs.Bounds.{bounds}
use Rattle.span.specs.Dating.{counts_spans, from_zero}
use Rattle.span.specs.Decisions.{becomes_stable_of, distances_of}
use Rattle.span.proofs.Dates.{all_in_limits, fitting, picked, right, zero_in_limits}
use Rattle.span.proofs.Opening.{begun, decided, opened}
use Rattle.span.proofs.span_dating.SpanDating.dates.Goals as goal
use Rattle.span.proofs.span_dating.SpanDating.dates.Goals.{in_default-via-in-Some+else-codes-seats, in_default-via-in_default}

pub dates_from_distances-requires : goal.dates_from_distances-requires
dates_from_distances-requires c =
    let h = c.args.self.now.held in
    let stable : becomes_stable_of (state_of h) ≡ true = grind arith in
    let is : c.in-Some.distances ≡ distances_of (state_of h) = grind arith in
    record {
      few = omega (arith, (bounds h).seats, ap length c.seats-seats.ensures);
      zero = rw is (zero_in_limits (bounds h) stable);
      each = rw (is, c.seats-seats.ensures) (all_in_limits (bounds h) stable);
    }

pub returns-in-Some : goal.returns-in-Some
returns-in-Some c =
    let h = c.args.self.now.held in
    let s = state_of h in
    let stable : becomes_stable_of s ≡ true = grind arith in
    let is : c.in-Some.distances ≡ distances_of s = grind arith in
    let given : c.dates_from_distances.result.items ≡ from_zero (distances_of s) (seats_of s.terms) = c.dates_from_distances.ensures ∙ (λ i. from_zero (is i) (c.seats-seats.ensures i)) in
    record {
      placed = cc;
      allowed = opened (bounds h) (at (distances_of s), fitting (bounds h) stable);
      right = subst (RightDates counts_spans s) (sym given) (right (bounds h) stable);
      picked = subst (GreatestDates s.terms (active_rows s.rows) s.codes) (sym given) (picked (bounds h) stable);
    }

pub returns-in_default : goal.returns-in_default
returns-in_default c =
    let h = c.args.self.now.held in
    record {
      ground = λ full k.
          elim c.in_default.branch [
            | in_default-via-in-Some+else-codes-seats w ↦ absurd (w.if-codes-seats.false cc)
            | in_default-via-in_default w ↦
                let unstable : becomes_stable_of (state_of h) ≡ false = grind arith in
                let v = begun (state_of h) k in
                (decided (bounds h)).unsolved unstable v.0 v.1
          ];
      answered = c.in_layer.ensures;
    }
