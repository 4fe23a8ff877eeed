use Rattle.theory.proofs.Refuting.{waiting_is_unsound}
use Rattle.theory.proofs.unsound.waiting_for_equalities_is_unsound.Goals as goal

pub returns : goal.returns
returns c = waiting_is_unsound
