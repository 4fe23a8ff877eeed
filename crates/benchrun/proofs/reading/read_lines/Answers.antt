use Rattle.benchrun.proofs.Cutting.{line_read}
use Rattle.benchrun.proofs.reading.read_lines.Goals as goal

pub loop-line-preserved : goal.loop-line-preserved
loop-line-preserved c =
    let t = c.in-Some.ensures in
    line_read c.args.lines.now c.loop-line.rest.now c.in-Some.line.now c.in-Some.after.now c.loop-line.said.items c.push.new.self.items c.read_command.result
    c.loop-line.invariant t.0 t.1 t.2 c.read_command.ensures.answer c.in_ok-push.ensures.items
