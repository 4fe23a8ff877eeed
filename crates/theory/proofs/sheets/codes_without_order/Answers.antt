use Rattle.theory.specs.Sheets.{in_two_ticks, three_terms}
use Rattle.theory.proofs.Combining.{exact_together}
use Rattle.theory.proofs.TwoTicks.{accepted_in_two_ticks, allowed_in_blocks, no_third_tick}
use Rattle.theory.proofs.sheets.codes_without_order.Goals as goal

pub returns-clause-without_order : goal.returns-clause-without_order
returns-clause-without_order c = allowed_in_blocks

pub returns-clause-unmet : goal.returns-clause-unmet
returns-clause-unmet c = no_third_tick

pub returns-clause-impossible : goal.returns-clause-impossible
returns-clause-impossible c p = no_third_tick ((exact_together three_terms in_two_ticks accepted_in_two_ticks).0 p)
