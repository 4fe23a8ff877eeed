use Rattle.congruence.proofs.Interpreting.{congruence_suffices, congruence_is_needed}
use Rattle.congruence.proofs.theorems.congruent_numbers_are_interpreted.Goals as goal

pub returns-clause-suffices : goal.returns-clause-suffices
returns-clause-suffices c = congruence_suffices

pub returns-clause-needed : goal.returns-clause-needed
returns-clause-needed c = congruence_is_needed
