use Rattle.theory.proofs.WithoutTheLast.{model_without_the_last}
use Rattle.theory.proofs.sheets.numbers_without_the_last.Goals as goal

pub returns-clause-model : goal.returns-clause-model
returns-clause-model c = model_without_the_last
