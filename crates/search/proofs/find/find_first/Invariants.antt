use Rattle.std.proofs.Common.{length}
use Rattle.engine.specs.Terms.{seats_of}
use Rattle.search.specs.Searching.{steps_left}
use Rattle.search.proofs.Descending.{Descending}
use Rattle.search.proofs.find.find_first.Given as goal

-- nothing that is allowed comes before the codes
abbrev pub invariant-loop-phase : goal.invariant-loop-phase
invariant-loop-phase g l = Descending g.F.Engine g.S.Engine l.initial.first l.initial.second l.first l.second l.codes.items l.phase

abbrev pub decreases-loop-phase : goal.decreases-loop-phase
decreases-loop-phase g l = steps_left (length (seats_of (g.F.Engine.state l.initial.first).terms)) l.phase l.codes.items
