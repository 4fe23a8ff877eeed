use Rattle.std.proofs.Common.{◌≡◌, ◌++◌, length}
use Rattle.span.specs.Constraints.{order_edges}
use Rattle.span.proofs.constraints.list_order.Given as goal

abbrev pub invariant-loop-rest : goal.invariant-loop-rest
invariant-loop-rest l = l.list.items ++ order_edges l.rest ≡ l.initial.list.items ++ order_edges l.placed

abbrev pub decreases-loop-rest : goal.decreases-loop-rest
decreases-loop-rest l = length l.rest
