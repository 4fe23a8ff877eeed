use Rattle.std.proofs.Common.{sym, subst, arith}
use Rattle.congruence.specs.Claims.{ArgumentsBelow}
use Rattle.engine.proofs.Bounds.{bounds}
use Rattle.table.specs.Apart.{RowsBelow, SeatsBelow}
use Rattle.table.proofs.Below.{arguments_below_all, rows_below, seats_below}
use Rattle.table.proofs.Merging.{merge_all_append}
use Rattle.table.proofs.table.Table.closed_classes.Goals as goal

pub merge_rows-requires : goal.merge_rows-requires
merge_rows-requires c = subst (RowsBelow 32) (sym c.rows.ensures) (rows_below (bounds c.args.self.now.held))

pub merge_blocks-requires : goal.merge_blocks-requires
merge_blocks-requires c = subst (SeatsBelow 32) (sym c.requires) (seats_below (bounds c.args.self.now.held))

pub close-requires-clause-arguments : goal.close-requires-clause-arguments
close-requires-clause-arguments c = subst (ArgumentsBelow 32) (sym c.terms.ensures) (arguments_below_all (bounds c.args.self.now.held))

pub returns : goal.returns
returns c = grind (arith, merge_all_append)
