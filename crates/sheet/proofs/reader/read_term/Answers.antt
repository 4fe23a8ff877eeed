use Rattle.std.proofs.Common.{true, false}
use Rattle.sheet.proofs.Reading.{term_found}
use Rattle.sheet.proofs.reader.read_term.Goals as goal

pub returns-then-not-is_label : goal.returns-then-not-is_label
returns-then-not-is_label c =
    term_found c.args.body.now c.in_ok-kind.kind c.in_ok-form.form c.size.result false c.in_ok-kind.ensures c.in_ok-form.ensures c.size.ensures c.if-not-is_label.ensures

pub returns : goal.returns
returns c =
    term_found c.args.body.now c.in_ok-kind.kind c.in_ok-form.form c.size.result true c.in_ok-kind.ensures c.in_ok-form.ensures c.size.ensures c.if-not-is_label.ensures
