use Rattle.std.proofs.Common.{ℕ, List, length}
use Rattle.search.specs.Engines.{Alike}
use Rattle.search.proofs.clash.lift_all.Given as goal

-- both engines hold some codes still
abbrev pub invariant-loop-second : goal.invariant-loop-second
invariant-loop-second g l = (cs : List ℕ) × Alike g.F.Engine g.S.Engine l.initial.first l.initial.second l.first l.second cs

abbrev pub decreases-loop-second : goal.decreases-loop-second
decreases-loop-second g l = length (g.F.Engine.state l.first).codes
