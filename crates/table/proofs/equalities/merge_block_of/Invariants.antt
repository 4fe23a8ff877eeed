use Rattle.std.proofs.Common.{◌≡◌, drop}
use Rattle.congruence.specs.Classes.{merge_all}
use Rattle.engine.specs.EachPair.{with_each}
use Rattle.table.specs.Pairs.{equated_terms}
use Rattle.table.proofs.equalities.merge_block_of.Given as goal

-- the seats that are left give what all seats give
abbrev pub invariant-loop-other : goal.invariant-loop-other
invariant-loop-other l =
    merge_all (equated_terms (with_each l.seat (drop l.other-index l.others))) l.classes.least ≡ merge_all (equated_terms (with_each l.seat l.others)) l.initial.classes.least
