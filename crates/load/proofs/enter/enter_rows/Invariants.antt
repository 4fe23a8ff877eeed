use Rattle.std.proofs.Common.{◌≡◌, ◌<◌, ◌≤◌, true, length}
use Rattle.bench.specs.Benches.{rows_at}
use Rattle.load.specs.Entering.{contents_at}
use Rattle.load.specs.Loading.{FieldsTaken}
use Rattle.load.specs.TermFields.{begins_term}
use Rattle.load.proofs.enter.enter_rows.Given as goal

-- the fields passed are taken, and a term that is left stands behind a row
abbrev pub invariant-loop-left : goal.invariant-loop-left
invariant-loop-left g l = FieldsTaken l.sheet (contents_at l.bench) l.left × (begins_term l.left ≡ true → 0 < length (rows_at l.bench)) × (length l.left ≤ length l.sheet) × (l.bench.first ≡ l.initial.bench.first) × (l.bench.second ≡ l.initial.bench.second)

abbrev pub decreases-loop-left : goal.decreases-loop-left
decreases-loop-left g l = length l.left
