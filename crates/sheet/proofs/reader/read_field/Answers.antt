use Rattle.sheet.specs.Parsing.{outcome}
use Rattle.sheet.proofs.Reading.{read_right, reads_all, bytes_used}
use Rattle.sheet.proofs.reader.read_field.Goals as goal

pub returns : goal.returns
returns c =
    let s = c.args.sheet.now in
    let r = c.read_front.result.0 in
    let answer = c.read_front.ensures.answer in
    let rest = c.read_front.ensures.rest in
    record {
      answer = answer;
      rest = rest;
      sound = read_right s c.type_inv.sheet (outcome r) answer;
      complete = reads_all s c.type_inv.sheet (outcome r) answer;
      used = bytes_used s c.type_inv.sheet r c.read_front.result.1.now answer rest;
    }
