use Rattle.engine.proofs.Following.{every_choice_is_followed}
use Rattle.engine.proofs.arrangement.every_choice_is_followed.Goals as goal

pub returns : goal.returns
returns c = every_choice_is_followed
