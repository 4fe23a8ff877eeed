use Rattle.theory.proofs.Refuting.{separate_is_unsound}
use Rattle.theory.proofs.unsound.separate_arrangements_are_unsound.Goals as goal

pub returns : goal.returns
returns c = separate_is_unsound
