use Rattle.std.proofs.Common.{pos}
use Rattle.theory.specs.Sheets.{from_4_to, level_terms, without_the_last, x_with_b}
use Rattle.theory.proofs.WithoutTheLast.{accepted_without_the_last, allowed_without_the_last}
use Rattle.theory.proofs.Combining.{exact_for_chosen}
use Rattle.theory.proofs.sheets.codes_without_the_last.Goals as goal

pub returns-clause-allowed : goal.returns-clause-allowed
returns-clause-allowed c = allowed_without_the_last

pub returns-clause-met : goal.returns-clause-met
returns-clause-met c =
    (exact_for_chosen level_terms (without_the_last (from_4_to (pos 5))) accepted_without_the_last).0 (x_with_b, allowed_without_the_last)
