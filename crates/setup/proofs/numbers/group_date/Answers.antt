use Rattle.std.proofs.Common.{sym, ◌∙◌}
use Rattle.setup.proofs.Numbering.{seat_passed}
use Rattle.setup.proofs.numbers.group_date.Goals as goal

pub loop-place-preserved : goal.loop-place-preserved
loop-place-preserved c =
    sym (seat_passed c.args.groups.now c.args.seats.now c.args.dates.now c.args.group c.loop-place.place c.loop-place-test.true c.if-groups-seat.false) ∙ c.loop-place.invariant
