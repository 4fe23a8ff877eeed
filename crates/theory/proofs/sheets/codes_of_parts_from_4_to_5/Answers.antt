use Rattle.std.proofs.Common.{pos, arith}
use Rattle.theory.specs.Sheets.{from_4_to, level_terms}
use Rattle.theory.proofs.Between.{accepted_to, by_spans_to_5, by_table_to_5, equalities_satisfied, no_tick_between, nothing_implied, spans_satisfied}
use Rattle.theory.proofs.Combining.{exact_together}
use Rattle.theory.proofs.sheets.codes_of_parts_from_4_to_5.Goals as goal

pub returns-clause-instants : goal.returns-clause-instants
returns-clause-instants c = spans_satisfied

pub returns-clause-levels : goal.returns-clause-levels
returns-clause-levels c = equalities_satisfied

pub returns-clause-by_table : goal.returns-clause-by_table
returns-clause-by_table c = by_table_to_5

pub returns-clause-by_spans : goal.returns-clause-by_spans
returns-clause-by_spans c = by_spans_to_5

pub returns-clause-nothing_implied : goal.returns-clause-nothing_implied
returns-clause-nothing_implied c = nothing_implied

pub returns-clause-unmet : goal.returns-clause-unmet
returns-clause-unmet c = no_tick_between

pub returns-clause-impossible : goal.returns-clause-impossible
returns-clause-impossible c p = no_tick_between ((exact_together level_terms (from_4_to (pos 5)) (accepted_to 5 (omega arith))).0 p)
