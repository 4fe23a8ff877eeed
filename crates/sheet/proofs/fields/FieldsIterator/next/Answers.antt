use Rattle.std.proofs.Common.{arith}
use Rattle.sheet.specs.Fields.{value_of}
use Rattle.sheet.specs.Walks.{Took}
use Rattle.sheet.proofs.Taking.{took, left_after}
use Rattle.sheet.proofs.fields.FieldsIterator.next.Goals as goal

pub invariant_of-self : goal.invariant_of-self
invariant_of-self c =
    let s = c.args.self.now.sheet.now in
    let t = c.args.self.now.rest.now in
    let u = c.read_field.result.1.now in
    let e = c.read_field.ensures in
    let within = c.args.self.now.within in
    let k : Took t (value_of c.in-Ok.field) u = took t u c.read_field.result.0 c.in-Ok.field c.in-Ok.is e.answer e.rest e.sound e.used in
    let used = k.used in
    record { within = omega arith; left = left_after s t u (value_of c.in-Ok.field) within c.args.self.now.left k }
