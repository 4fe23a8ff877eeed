use Rattle.theory.proofs.Combining.{exact_together}
use Rattle.runs.proofs.Determined.{choices_determine}
use Rattle.runs.proofs.Only.{judged_truly_only}
use Rattle.runs.proofs.table_and_span.run_with_table_and_span.Goals as goal

pub returns-clause-law : goal.returns-clause-law
returns-clause-law g c = c.run_client.ensures.truth exact_together

pub returns-clause-determined : goal.returns-clause-determined
returns-clause-determined g c = choices_determine (judged_truly_only _ _ _)
