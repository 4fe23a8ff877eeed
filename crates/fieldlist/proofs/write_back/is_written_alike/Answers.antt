use Rattle.std.proofs.Common.{◌≡◌, length, ap, arith}
use Rattle.std.proofs.lemmas.Slice.Eq.{slice_eq-Decides}
use Rattle.sheet.specs.Encoding.{encode}
use Rattle.sheet.specs.Fields.{value_of}
use Rattle.sheet.proofs.Writing.{written_within}
use Rattle.fieldlist.proofs.Comparing.{tells}
use Rattle.fieldlist.proofs.write_back.is_written_alike.Goals as goal
use Rattle.std.proofs.lemmas.Bool.Decides.{Decides-eqb}

pub returns-in-Ok : goal.returns-in-Ok
returns-in-Ok c =
    let w = encode (value_of c.args.field.now) c.args.part.now in
    record {
      writes = c.in-Ok.ensures.buffer;
      compares = tells w c.args.bytes.now c.write_field.new.out c.in-Ok.size c.eq.result c.in-Ok.ensures.answer c.in-Ok.ensures.buffer (written_within (value_of c.args.field.now) c.args.part.now c.in-Ok.size c.in-Ok.ensures.answer) (slice_eq-Decides Decides-eqb _ _ _ c.eq.ensures);
    }

pub slice_bounds-eq-end : goal.slice_bounds-eq-end
slice_bounds-eq-end c =
    let within = written_within (value_of c.args.field.now) c.args.part.now c.in-Ok.size c.in-Ok.ensures.answer in
    let same : length c.write_field.new.out ≡ length (encode (value_of c.args.field.now) c.args.part.now).buffer = ap length c.in-Ok.ensures.buffer in
    omega arith
