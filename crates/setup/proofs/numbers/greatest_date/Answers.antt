use Rattle.std.proofs.Common.{get_or, take, pos, ap, arith}
use Rattle.std.proofs.lemmas.Int.{ints, to_z-of_z}
use Rattle.std.proofs.lemmas.List.{take_more}
use Rattle.model.specs.Numbering.{greatest_date}
use Rattle.setup.proofs.Greatest.{greatest_push}
use Rattle.setup.proofs.numbers.greatest_date.Goals as goal

pub loop-date-preserved : goal.loop-date-preserved
loop-date-preserved c =
    let k = c.loop-date.date-index in
    let dates = c.args.dates.now in
    let more = ap greatest_date (take_more dates k (pos 0) c.loop-date-test.true) in
    let push = greatest_push (take k dates) (get_or dates k (pos 0)) in
    grind (arith, ints, to_z-of_z)
