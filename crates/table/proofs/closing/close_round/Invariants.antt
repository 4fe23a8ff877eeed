use Rattle.std.proofs.Common.{◌≡◌}
use Rattle.congruence.specs.Closure.{close_terms}
use Rattle.table.proofs.closing.close_round.Given as goal

abbrev pub invariant-loop-i : goal.invariant-loop-i
invariant-loop-i l = l.classes.least ≡ close_terms l.terms l.i l.initial.classes.least
