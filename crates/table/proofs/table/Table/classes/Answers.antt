use Rattle.std.proofs.Common.{arith}
use Rattle.engine.proofs.Bounds.{bounds}
use Rattle.table.proofs.Equating.{classes_are}
use Rattle.table.proofs.table.Table.classes.Goals as goal

pub returns : goal.returns
returns c = classes_are (bounds c.args.self.now.held) c.truncate.new.self.items (grind arith)
