use Rattle.std.proofs.Common.{sym, subst}
use Rattle.sheet.specs.Fields.{value_of}
use Rattle.sheet.specs.RoundTrips.{ReadBack}
use Rattle.sheet.proofs.Writing.{reads_back}
use Rattle.sheet.proofs.writer.write_field.Goals as goal

pub returns-clause-back : goal.returns-clause-back
returns-clause-back c =
    let value = value_of c.args.field.now in
    let before = c.args.out.now in
    let after = c.write_value.new.out in
    subst (ReadBack value before after) (sym c.in_layer.ensures) (reads_back value before after c.write_value.ensures.fits c.write_value.result c.write_value.ensures.leaves)
