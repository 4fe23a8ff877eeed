use Rattle.std.proofs.Common.{◌≡◌, suc, map, take, pos, ◌+ℤ◌}
use Rattle.model.specs.Numbering.{greatest_date, group_number, undated_below}
use Rattle.setup.proofs.numbers.number_terms.Given as goal

-- the terms passed have their numbers, and `next` is that of the next group without a date
abbrev pub invariant-loop-term : goal.invariant-loop-term
invariant-loop-term l =
    (l.numbers.items ≡ map (group_number l.groups l.seats l.dates) (take l.term l.groups))
    × (l.next ≡ greatest_date l.dates +ℤ pos (suc (undated_below l.groups l.seats l.dates l.term)))
