use Rattle.std.specs.List.{list_all}
use Rattle.std.proofs.Common.{◌≡◌, drop}
use Rattle.engine.specs.EachPair.{with_each}
use Rattle.table.specs.Apart.{two_apart}
use Rattle.table.proofs.separation.seat_apart.Given as goal

-- it depends on the seats that are left
abbrev pub invariant-loop-other : goal.invariant-loop-other
invariant-loop-other l = list_all (two_apart l.classes.least) (with_each l.seat (drop l.other-index l.others)) ≡ list_all (two_apart l.classes.least) (with_each l.seat l.others)
