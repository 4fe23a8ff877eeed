-- What a client heard, as events.
use Rattle.std.specs.Prelude.{List, [], ◌∷◌, Some, None, Option, map}
use Rattle.search.specs.Verdicts.{value_of}
use Rattle.runs.specs.declared.heard.Heard.{Heard}
use Rattle.runs.specs.declared.heard.Heard.TheVariants.{Done, Refused, Judged}
use Rattle.runs.specs.Events.{Answer, Event, done, judged, refused, told}

abbrev pub answer_heard : Heard → Answer
answer_heard Done = done
answer_heard (Refused e) = refused e
answer_heard (Judged v) = judged (value_of v)

abbrev pub history_of : Option Heard → List Event
history_of None = []
history_of (Some h) = told (answer_heard h) ∷ []

abbrev pub answers_heard : List Heard → List Answer
answers_heard heard = map answer_heard heard
