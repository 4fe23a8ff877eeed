use Rattle.search.proofs.Walking.{Walking}
use Rattle.search.proofs.clash.find_clash.Given as goal

-- the rows passed are kept or left out as by the walk
abbrev pub invariant-loop-i : goal.invariant-loop-i
invariant-loop-i g l = Walking g.F.Engine g.S.Engine l.initial.first l.initial.second l.first l.second l.i l.places.items
