use Rattle.std.proofs.Common.{vec_items}
use Rattle.program.proofs.First.{first_bytes}
use Rattle.program.proofs.input.read_first.Goals as goal

pub returns-clause-first : goal.returns-clause-first
returns-clause-first g c =
    first_bytes g.R.Read.remaining c.args.reader c.take.result (vec_items c.new-sheet.result) (vec_items c.read_to_end.new.buf) (vec_items c.truncate.new.self)
    c.take.ensures.inner c.take.ensures.limit c.new-sheet.ensures.items c.in_ok-read_to_end.ensures.bytes c.truncate.ensures.items
