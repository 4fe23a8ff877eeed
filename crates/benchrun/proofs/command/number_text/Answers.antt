use Rattle.std.proofs.Common.{sym, subst}
use Rattle.benchrun.proofs.Numbers.{ReadAsText, text_read}
use Rattle.benchrun.proofs.command.number_text.Goals as goal

pub returns : goal.returns
returns c = subst (ReadAsText c.args.word.now) (sym c.ok.ensures.value) (text_read _ c.args.word.now c.from_utf8.result c.from_utf8.ensures.cases c.if-starts_with.ensures.value)
