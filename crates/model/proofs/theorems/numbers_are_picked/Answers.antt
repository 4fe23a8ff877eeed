use Rattle.model.proofs.NumbersOnly.{numbers_are_determined}
use Rattle.model.proofs.Limits.{numbers_are_within}
use Rattle.model.proofs.Numbering.{numbers_are_picked}
use Rattle.model.proofs.theorems.numbers_are_picked.Goals as goal

pub returns-clause-picked : goal.returns-clause-picked
returns-clause-picked c = numbers_are_picked

pub returns-clause-determined : goal.returns-clause-determined
returns-clause-determined c = numbers_are_determined

pub returns-clause-within : goal.returns-clause-within
returns-clause-within c = numbers_are_within
