use Rattle.std.proofs.Common.{arith}
use Rattle.sheet.proofs.Writing.{put_refused, put_both}
use Rattle.sheet.proofs.writer.put_bytes.Goals as goal

pub returns-then-out-start : goal.returns-then-out-start
returns-then-out-start c = put_refused c.args.head.now c.args.tail.now c.args.out.now (omega arith)

pub returns : goal.returns
returns c =
    put_both c.args.head.now c.args.tail.now c.args.out.now c.copy_from_slice.new.self c.copy_from_slice-2.new.self c.copy_from_slice.ensures.after c.copy_from_slice-2.ensures.after (omega arith)
