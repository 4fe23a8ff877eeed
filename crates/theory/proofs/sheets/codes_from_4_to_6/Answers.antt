use Rattle.std.proofs.Common.{pos, arith}
use Rattle.theory.specs.Sheets.{from_4_to, level_terms, x_between}
use Rattle.theory.proofs.Between.{accepted_to, allowed_to_6}
use Rattle.theory.proofs.Combining.{exact_together}
use Rattle.theory.proofs.sheets.codes_from_4_to_6.Goals as goal

pub returns-clause-allowed : goal.returns-clause-allowed
returns-clause-allowed c = allowed_to_6

pub returns-clause-met : goal.returns-clause-met
returns-clause-met c = (exact_together level_terms (from_4_to (pos 6)) (accepted_to 6 (omega arith))).0 (x_between, allowed_to_6)
