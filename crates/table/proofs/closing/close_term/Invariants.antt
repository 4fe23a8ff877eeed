use Rattle.std.proofs.Common.{◌≡◌}
use Rattle.congruence.specs.Closure.{close_term}
use Rattle.table.proofs.closing.close_term.Given as goal

abbrev pub invariant-loop-j : goal.invariant-loop-j
invariant-loop-j l = l.classes.least ≡ close_term l.terms l.i l.j l.initial.classes.least
