use Rattle.parts.proofs.Trying.{Trying}
use Rattle.parts.proofs.place_first.place_least.Given as goal

-- no code below this one keeps the engine open
abbrev pub invariant-loop-code : goal.invariant-loop-code
invariant-loop-code g l = Trying g.E.Engine l.initial.engine l.engine l.code
