use Rattle.std.proofs.Common.{◌≤◌, length}
use Rattle.bench.specs.Benches.{declared}
use Rattle.load.specs.TermFields.{TermsPassed}
use Rattle.load.proofs.declare.declare_terms.Given as goal

-- the fields passed are declared
abbrev pub invariant-loop-draft : goal.invariant-loop-draft
invariant-loop-draft l = TermsPassed l.input (declared l.initial.draft) l.rest (declared l.draft) × (length l.rest ≤ length l.input)

abbrev pub decreases-loop-draft : goal.decreases-loop-draft
decreases-loop-draft l = length l.rest
