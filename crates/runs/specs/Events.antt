-- What a client chooses and is told.
use Rattle.std.specs.Prelude.{Bool, true, false, List, [], ◌∷◌, Some, None, Option}
use Rattle.sheet.specs.declared.fault.Cause.{Cause}
use Rattle.sheet.specs.declared.fault.Fault.{Fault}
use Rattle.sheet.specs.declared.row.Row.{Row}
use Rattle.sheet.specs.Causes.{fault_in}
use Rattle.bench.specs.Letters.{bench_letter}
use Rattle.search.specs.Verdicts.{Finding}
use Rattle.runs.specs.declared.choice.OpenChoice.{OpenChoice}
use Rattle.runs.specs.declared.choice.OpenChoice.TheVariants as at_bench
use Rattle.runs.specs.declared.choice.ShownChoice.{ShownChoice}
use Rattle.runs.specs.declared.choice.ShownChoice.TheVariants as at_result

-- what a client chooses to do
pub data Choice : Type 0 where
  enter : Row → Choice
  strike : Choice
  judge : Choice
  reopen : Choice

-- what it is told of a choice
pub data Answer : Type 0 where
  done : Answer
  refused : Fault → Answer
  judged : Finding → Answer

-- a choice is on record before it is performed, and what came of it is after that
pub data Event : Type 0 where
  chosen : Choice → Event
  told : Answer → Event

-- what is chosen at an open bench, and while a result is shown; nothing where the choice is to stop
abbrev pub choice_at_bench : OpenChoice → Option Choice
choice_at_bench (at_bench.Enter r) = Some (enter r)
choice_at_bench at_bench.Strike = Some strike
choice_at_bench at_bench.Judge = Some judge
choice_at_bench at_bench.Stop = None

abbrev pub choice_at_result : ShownChoice → Option Choice
choice_at_result at_result.Reopen = Some reopen
choice_at_result at_result.Stop = None

-- a choice to stop leaves nothing on record
abbrev pub asked : Option Choice → List Event
asked (Some c) = chosen c ∷ []
asked None = []

abbrev pub stops : Option Choice → Bool
stops (Some c) = false
stops None = true

-- the choices among the events
abbrev pub choices : List Event → List Choice
choices [] = []
choices (chosen c ∷ es) = c ∷ choices es
choices (told a ∷ es) = choices es

-- the answer of a bench that refuses on this ground, or on none
abbrev pub answer_by : Option Cause → Answer
answer_by None = done
answer_by (Some c) = refused (fault_in bench_letter c)
