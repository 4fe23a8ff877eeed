use Rattle.std.proofs.Common.{arith, length-append}
use Rattle.engine.proofs.Bounds.{bounds}
use Rattle.span.proofs.Parts.{few_pairs, few_rows}
use Rattle.span.proofs.span.Span.list_constraints.Goals as goal

pub list_order-requires : goal.list_order-requires
list_order-requires c = let b = bounds c.args.self.now.held in grind (arith, length-append, few_rows, few_pairs)
