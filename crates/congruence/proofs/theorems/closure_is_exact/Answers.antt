use Rattle.congruence.proofs.Exact.{closure_is_exact}
use Rattle.congruence.proofs.theorems.closure_is_exact.Goals as goal

pub returns : goal.returns
returns c = closure_is_exact
