use Rattle.std.proofs.Common.{◌≡◌, ◌++◌, map, take, drop}
use Rattle.engine.specs.Arrangements.{rank_after}
use Rattle.engine.proofs.arrangement.open_block.Given as goal

abbrev pub invariant-loop-rank : goal.invariant-loop-rank
invariant-loop-rank l = l.ranks ≡ map (rank_after l.block) (take l.rank-index l.initial.ranks) ++ drop l.rank-index l.initial.ranks
