use Rattle.std.proofs.Common.{take}
use Rattle.benchrun.proofs.Replaying.{replay_noted}
use Rattle.benchrun.proofs.session.Session.note.Goals as goal

pub returns-clause-history : goal.returns-clause-history
returns-clause-history g c =
    let s = c.args.self.now in
    replay_noted (take s.passed s.said.now) s.heard.items c.push_reserved.new.self.items c.args.note s.waiting c.push_reserved.ensures.items c.requires.0 s.count
