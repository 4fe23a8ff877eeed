use Rattle.theory.proofs.Sufficing.{classes_suffice, dates_are_equal_in_classes, dates_suffice, equalities_suffice, instants_suffice}
use Rattle.theory.proofs.models.equalities_and_instants_suffice.Goals as goal

pub returns-clause-equalities : goal.returns-clause-equalities
returns-clause-equalities c = equalities_suffice

pub returns-clause-classes : goal.returns-clause-classes
returns-clause-classes c = classes_suffice

pub returns-clause-instants : goal.returns-clause-instants
returns-clause-instants c = instants_suffice

pub returns-clause-dates : goal.returns-clause-dates
returns-clause-dates c = dates_suffice

pub returns-clause-same_dates : goal.returns-clause-same_dates
returns-clause-same_dates c = dates_are_equal_in_classes
