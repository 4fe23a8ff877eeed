use Rattle.std.proofs.Common.{arith}
use Rattle.std.proofs.lemmas.Grind.{common_steps}
use Rattle.table.proofs.Merging.{merge_all_append}
use Rattle.table.proofs.Below.{others_below}
use Rattle.table.proofs.equalities.merge_blocks.Goals as goal

pub loop-rest-preserved : goal.loop-rest-preserved
loop-rest-preserved c = (
  grind (arith, common_steps, merge_all_append),
  others_below _ _ c.loop-rest.invariant.1,
)
