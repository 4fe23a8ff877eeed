use Rattle.theory.proofs.Refuting.{branching_is_unsound}
use Rattle.theory.proofs.unsound.branching_without_order_is_unsound.Goals as goal

pub returns : goal.returns
returns c = branching_is_unsound
