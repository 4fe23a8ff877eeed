use Rattle.theory.proofs.Together.{dated, put_together}
use Rattle.theory.proofs.models.models_are_put_together.Goals as goal

pub returns-clause-numbers : goal.returns-clause-numbers
returns-clause-numbers c = put_together

pub returns-clause-dates : goal.returns-clause-dates
returns-clause-dates c = dated
