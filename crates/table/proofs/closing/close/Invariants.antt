use Rattle.std.proofs.Common.{◌≡◌}
use Rattle.congruence.specs.Closure.{close_rounds}
use Rattle.table.proofs.closing.close.Given as goal

abbrev pub invariant-loop : goal.invariant-loop
invariant-loop l = l.classes.least ≡ close_rounds l.terms l.counter l.initial.classes.least
