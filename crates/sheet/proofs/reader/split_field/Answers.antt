use Rattle.std.proofs.lemmas.Result.{err_from_is_err_and}
use Rattle.std.proofs.Common.{Ok, Err, arith, rules}
use Rattle.sheet.specs.Fields.{value_of}
use Rattle.sheet.specs.Parsing.{stated_length}
use Rattle.sheet.proofs.Reading.{field_found, rest_found}
use Rattle.sheet.proofs.reader.split_field.Goals as goal

pub returns-in_err-field : goal.returns-in_err-field
returns-in_err-field c =
    let p = err_from_is_err_and c.from_residual.result c.from_residual.ensures.1 in
    let found = field_found c.args.sheet.now (Err c.in_err-field.field-0.0) (search rules) (omega arith) c.in_err-field.ensures in
    rw (p.1, p.2) (record { field = found; rest = tt })

pub returns : goal.returns
returns c = record {
  field = field_found c.args.sheet.now (Ok (value_of c.in_ok-field.field)) (search rules) (omega arith) c.in_ok-field.ensures;
  rest = rest_found c.args.sheet.now (stated_length c.args.sheet.now);
}
