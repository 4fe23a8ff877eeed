use Rattle.reference.proofs.Answering.{answer_is_right}
use Rattle.reference.proofs.theorems.reference_is_right.Goals as goal

pub returns : goal.returns
returns c = answer_is_right
