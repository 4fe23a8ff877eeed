use Rattle.std.proofs.Common.{◌≡◌, ◌++◌, drop}
use Rattle.engine.specs.States.{active_rows}
use Rattle.span.specs.Constraints.{row_edges}
use Rattle.span.proofs.constraints.list_rows.Given as goal

abbrev pub invariant-loop-noted : goal.invariant-loop-noted
invariant-loop-noted l = l.list.items ++ row_edges (active_rows (drop l.noted-index l.rows)) ≡ l.initial.list.items ++ row_edges (active_rows l.rows)
