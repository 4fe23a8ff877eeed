use Rattle.std.proofs.Common.{◌-◌, length}
use Rattle.engine.specs.Terms.{seats_of}
use Rattle.parts.proofs.Placing.{Placing}
use Rattle.parts.proofs.place_first.place_first.Given as goal

-- the seats passed are placed as in the first arrangement
abbrev pub invariant-loop-code : goal.invariant-loop-code
invariant-loop-code g l = Placing g.E.Engine l.initial.engine l.engine l.codes.items

abbrev pub decreases-loop-code : goal.decreases-loop-code
decreases-loop-code g l = length (seats_of (g.E.Engine.state l.initial.engine).terms) - length (g.E.Engine.state l.engine).codes
