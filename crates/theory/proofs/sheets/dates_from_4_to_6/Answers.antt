use Rattle.theory.proofs.Between.{dated_to_6}
use Rattle.theory.proofs.sheets.dates_from_4_to_6.Goals as goal

pub returns-clause-model : goal.returns-clause-model
returns-clause-model c = dated_to_6
