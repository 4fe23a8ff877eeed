use Rattle.std.proofs.Common.{◌≡◌, ◌++◌, false, drop, string_bytes}
use Rattle.runs.specs.Heard.{answers_heard}
use Rattle.benchrun.specs.Sessions.{lines_printed}
use Rattle.benchrun.proofs.transcript.write_session.Given as goal

-- the lines passed are written
abbrev pub invariant-loop-line : goal.invariant-loop-line
invariant-loop-line l = string_bytes l.text ++ lines_printed l.shown (drop l.line-index l.said) (answers_heard l.rest) ≡ lines_printed false l.said (answers_heard l.notes)
