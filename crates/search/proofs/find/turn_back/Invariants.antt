use Rattle.std.proofs.Common.{length}
use Rattle.search.proofs.Turning.{Turning}
use Rattle.search.proofs.find.turn_back.Given as goal

-- nothing is under the codes that are left
abbrev pub invariant-loop-code : goal.invariant-loop-code
invariant-loop-code g l = Turning g.F.Engine g.S.Engine l.initial.first l.initial.second l.initial.codes.items l.first l.second l.codes.items

abbrev pub decreases-loop-code : goal.decreases-loop-code
decreases-loop-code g l = length l.codes.items
