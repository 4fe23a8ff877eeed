use Rattle.std.proofs.Common.{sym, ◌∙◌, subst}
use Rattle.std.specs.Int.{w32}
use Rattle.std.specs.Str.Parse.{ParsesSigned}
use Rattle.benchrun.proofs.Numbers.{bound_parsed, no_bound}
use Rattle.benchrun.proofs.command.read_bound.Goals as goal

pub returns-in_err-number_text : goal.returns-in_err-number_text
returns-in_err-number_text c = c.from_residual.ensures ∙ sym (no_bound c.args.word.now c.in_err-number_text.ensures)

pub returns : goal.returns
returns c =
    let text = c.in_ok-number_text.ensures in
    c.ok.ensures.value ∙ bound_parsed c.args.word.now c.parse.result (subst (λ w. ParsesSigned w32 10 w c.parse.result) text.0 c.parse.ensures.value.0) text.1
