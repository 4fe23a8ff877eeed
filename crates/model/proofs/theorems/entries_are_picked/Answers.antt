use Rattle.model.proofs.EntriesOnly.{entries_determined}
use Rattle.model.proofs.Picking.{entries_picked}
use Rattle.model.proofs.theorems.entries_are_picked.Goals as goal

pub returns-clause-picked : goal.returns-clause-picked
returns-clause-picked c = entries_picked

pub returns-clause-determined : goal.returns-clause-determined
returns-clause-determined c = entries_determined
