use Rattle.std.proofs.Common.{◌≡◌, length}
use Rattle.engine.specs.Limits.{max_terms}
use Rattle.table.specs.Apart.{SeatsBelow, blocks_apart}
use Rattle.table.proofs.separation.blocks_apart.Given as goal

-- it depends on the seats that are left
abbrev pub invariant-loop-rest : goal.invariant-loop-rest
invariant-loop-rest l = (blocks_apart l.classes.least l.rest ≡ blocks_apart l.classes.least l.placed) × SeatsBelow max_terms l.rest

abbrev pub decreases-loop-rest : goal.decreases-loop-rest
decreases-loop-rest l = length l.rest
