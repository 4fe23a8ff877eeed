use Rattle.reference.proofs.Worked.{answers_computed, worked_are_right, terms_computed}
use Rattle.reference.proofs.theorems.worked_sheets.Goals as goal

pub returns : goal.returns
returns c = record { terms = terms_computed; answers = answers_computed; right = worked_are_right }
