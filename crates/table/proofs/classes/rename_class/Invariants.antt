use Rattle.std.proofs.Common.{◌≡◌, ◌++◌, map, take, drop}
use Rattle.congruence.specs.Classes.{replaced}
use Rattle.table.proofs.classes.rename_class.Given as goal

abbrev pub invariant-loop-class : goal.invariant-loop-class
invariant-loop-class l = l.least ≡ map (replaced l.high l.low) (take l.class-index l.initial.least) ++ drop l.class-index l.initial.least
