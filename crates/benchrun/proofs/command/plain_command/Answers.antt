use Rattle.std.proofs.Common.{◌≡◌, codes, ap, sym, arith}
use Rattle.std.proofs.lemmas.Slice.Eq.{text_from_reads}
use Rattle.benchrun.specs.Commands.{plain_command}
use Rattle.benchrun.proofs.command.plain_command.Goals as goal

pub returns-in-strike : goal.returns-in-strike
returns-in-strike c =
    let said : c.args.word.now ≡ codes "strike" = text_from_reads c.args.word.now (codes "strike") (omega arith) (omega arith, (omega arith, (omega arith, (omega arith, (omega arith, (omega arith, tt)))))) in
    sym (ap plain_command said)

pub returns-in-judge : goal.returns-in-judge
returns-in-judge c =
    let said : c.args.word.now ≡ codes "judge" = text_from_reads c.args.word.now (codes "judge") (omega arith) (omega arith, (omega arith, (omega arith, (omega arith, (omega arith, tt))))) in
    sym (ap plain_command said)

pub returns-in-reopen : goal.returns-in-reopen
returns-in-reopen c =
    let said : c.args.word.now ≡ codes "reopen" = text_from_reads c.args.word.now (codes "reopen") (omega arith) (omega arith, (omega arith, (omega arith, (omega arith, (omega arith, (omega arith, tt)))))) in
    sym (ap plain_command said)
