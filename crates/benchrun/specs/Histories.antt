-- The history of a session.
use Rattle.std.specs.Prelude.{◌≡◌, ◌<◌, true, false, List, take, vec_capacity, vec_len}
use Rattle.runs.specs.Events.{Event}
use Rattle.benchrun.specs.declared.said.Said.{Ghosts}
use Rattle.benchrun.specs.declared.session.Session.{Session}
use Rattle.runs.specs.Heard.{answers_heard}
use Rattle.benchrun.specs.Sessions.{replay}

module _ {S : Type 0} {g : Ghosts S} where
  -- what the lines passed ask for at a new bench, with the answers noted
  abbrev pub history_of : Session S g → List Event
  history_of s = replay false (take s.passed s.said.now) (answers_heard s.heard.items)

  -- an answer can be noted
  abbrev pub IsReady : Session S g → Type 0
  IsReady s = (s.waiting ≡ true) × (vec_len s.heard < vec_capacity s.heard)
