use Rattle.std.specs.List.{flat_map}
use Rattle.std.proofs.Common.{◌≡◌, ◌++◌, drop}
use Rattle.engine.specs.EachPair.{with_each}
use Rattle.span.specs.Constraints.{pair_edges}
use Rattle.span.proofs.constraints.list_pairs.Given as goal

abbrev pub invariant-loop-other : goal.invariant-loop-other
invariant-loop-other l =
    l.list.items ++ flat_map pair_edges (with_each l.first (drop l.other-index l.others)) ≡ l.initial.list.items ++ flat_map pair_edges (with_each l.first l.others)
