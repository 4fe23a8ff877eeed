use Rattle.std.proofs.Common.{◌≡◌, drop}
use Rattle.engine.specs.States.{active_rows}
use Rattle.table.specs.Apart.{rows_apart}
use Rattle.table.proofs.separation.rows_apart.Given as goal

-- it depends on the rows that are left
abbrev pub invariant-loop-noted : goal.invariant-loop-noted
invariant-loop-noted l = rows_apart l.classes.least (active_rows (drop l.noted-index l.rows)) ≡ rows_apart l.classes.least (active_rows l.rows)
