use Rattle.std.proofs.Common.{sym, ◌∙◌, subst, arith}
use Rattle.engine.proofs.Bounds.{bounds}
use Rattle.table.specs.Apart.{RowsBelow, SeatsBelow}
use Rattle.table.proofs.Below.{rows_below, seats_below}
use Rattle.table.proofs.Opening.{decided}
use Rattle.table.proofs.table.Table.is_consistent.Goals as goal

pub rows_apart-requires : goal.rows_apart-requires
rows_apart-requires c = subst (RowsBelow 32) (sym c.rows.ensures) (rows_below (bounds c.args.self.now.held))

pub blocks_apart-requires : goal.blocks_apart-requires
blocks_apart-requires c = subst (SeatsBelow 32) (sym (c.as_slice-then-rows_apart.ensures.value ∙ c.placed_seats-placed.ensures)) (seats_below (bounds c.args.self.now.held))

pub returns-then-rows_apart : goal.returns-then-rows_apart
returns-then-rows_apart c = let all = decided (bounds c.args.self.now.held) c.blocks_apart.result (grind arith) in record { exact = all.exact; fits = all.fits; apart = all.apart }

pub returns-else-rows_apart : goal.returns-else-rows_apart
returns-else-rows_apart c = let all = decided (bounds c.args.self.now.held) c.rows_apart.result (grind arith) in record { exact = all.exact; fits = all.fits; apart = all.apart }
