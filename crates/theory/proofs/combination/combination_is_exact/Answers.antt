use Rattle.theory.proofs.Combining.{exact_for_chosen, exact_together}
use Rattle.theory.proofs.combination.combination_is_exact.Goals as goal

pub returns-clause-whole : goal.returns-clause-whole
returns-clause-whole c = exact_together

pub returns-clause-chosen : goal.returns-clause-chosen
returns-clause-chosen c = exact_for_chosen
