use Rattle.std.proofs.Common.{◌≡◌, Some, codes, ap, sym, arith}
use Rattle.std.proofs.lemmas.Slice.Eq.{text_from_reads}
use Rattle.benchrun.specs.Commands.{pair_row}
use Rattle.benchrun.proofs.command.pair_row.Goals as goal

pub returns-in-unlike : goal.returns-in-unlike
returns-in-unlike c =
    let said : c.args.kind.now ≡ codes "unlike" = text_from_reads c.args.kind.now (codes "unlike") (omega arith) (omega arith, (omega arith, (omega arith, (omega arith, (omega arith, (omega arith, tt)))))) in
    sym (ap (λ w. pair_row w (Some c.args.left) (Some c.args.right)) said)
