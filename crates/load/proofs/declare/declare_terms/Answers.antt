use Rattle.std.proofs.Common.{rules, arith}
use Rattle.load.specs.TermFields.{begins, declares}
use Rattle.load.proofs.declare.declare_terms.Goals as goal

pub loop-draft-init : goal.loop-draft-init
loop-draft-init c = (begins, omega arith)

pub loop-draft-preserved : goal.loop-draft-preserved
loop-draft-preserved c = (declares c.loop-draft.invariant.0 (search rules) c.in-Ok.ensures, omega (arith, c.in-Ok.ensures.shorter, c.loop-draft.invariant.1))
