use Rattle.std.proofs.Common.{◌≡◌, length}
use Rattle.congruence.specs.Classes.{merge_all}
use Rattle.engine.specs.Limits.{max_terms}
use Rattle.table.specs.Apart.{SeatsBelow}
use Rattle.table.specs.Pairs.{block_pairs}
use Rattle.table.proofs.equalities.merge_blocks.Given as goal

-- the seats that are left give what all seats give
abbrev pub invariant-loop-rest : goal.invariant-loop-rest
invariant-loop-rest l = (merge_all (block_pairs l.rest) l.classes.least ≡ merge_all (block_pairs l.placed) l.initial.classes.least) × SeatsBelow max_terms l.rest

abbrev pub decreases-loop-rest : goal.decreases-loop-rest
decreases-loop-rest l = length l.rest
