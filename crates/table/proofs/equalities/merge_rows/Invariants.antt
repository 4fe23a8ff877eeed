use Rattle.std.proofs.Common.{◌≡◌, drop}
use Rattle.congruence.specs.Classes.{merge_all}
use Rattle.engine.specs.States.{active_rows}
use Rattle.table.specs.Pairs.{same_pairs}
use Rattle.table.proofs.equalities.merge_rows.Given as goal

-- the rows that are left give what all rows give
abbrev pub invariant-loop-noted : goal.invariant-loop-noted
invariant-loop-noted l =
    merge_all (same_pairs (active_rows (drop l.noted-index l.rows))) l.classes.least ≡ merge_all (same_pairs (active_rows l.rows)) l.initial.classes.least
