use Rattle.std.proofs.Common.{◌≡◌, ◌+◌, take}
use Rattle.engine.specs.Arrangements.{ranks}
use Rattle.engine.proofs.LowRanks.{Low}
use Rattle.engine.proofs.arrangement.rank_seats.Given as goal

-- the seats passed are ranked, and each rank leaves room for one block more
abbrev pub invariant-loop-code : goal.invariant-loop-code
invariant-loop-code l = let front = take l.code-index l.code-items in (l.ranks.items ≡ ranks front) × Low (127 + l.code-index) (ranks front)
