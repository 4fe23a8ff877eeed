use Rattle.std.proofs.Common.{◌≡◌, false}
use Rattle.span.proofs.Rounds.{AtRound, AtEdge}
use Rattle.span.proofs.relaxing.lower_distances.Given as goal

abbrev pub invariant-loop-edge : goal.invariant-loop-edge
invariant-loop-edge l = AtEdge l.limit l.edges l.round l.initial.distances l.edge-index l.distances l.lowered

abbrev pub invariant-rounds : goal.invariant-rounds
invariant-rounds l = AtRound l.limit l.edges l.round l.distances × (l.stable ≡ false)
