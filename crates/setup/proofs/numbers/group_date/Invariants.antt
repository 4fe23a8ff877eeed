use Rattle.std.proofs.Common.{◌≡◌, drop}
use Rattle.model.specs.Numbering.{group_date}
use Rattle.setup.proofs.numbers.group_date.Given as goal

-- it depends on the seats that are left
abbrev pub invariant-loop-place : goal.invariant-loop-place
invariant-loop-place l = group_date l.groups (drop l.place l.seats) (drop l.place l.dates) l.group ≡ group_date l.groups l.seats l.dates l.group
