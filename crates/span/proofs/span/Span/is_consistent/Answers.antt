use Rattle.std.proofs.Common.{◌≡◌, sym, subst, arith}
use Rattle.engine.specs.Holding.{state_of}
use Rattle.engine.proofs.Bounds.{bounds}
use Rattle.span.specs.Decisions.{DecisionOf, becomes_stable_of}
use Rattle.span.proofs.Opening.{decided, open_exactly}
use Rattle.span.proofs.span.Span.is_consistent.Goals as goal

pub returns : goal.returns
returns c =
    let h = c.args.self.now.held in
    let r = c.is_some.result in
    let stable : r ≡ becomes_stable_of (state_of h) = grind arith in
    let decision = subst (DecisionOf (state_of h)) (sym stable) (decided (bounds h)) in
    record { decision = decision; exact = open_exactly (bounds h) r decision }
