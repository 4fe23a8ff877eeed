-- What a stage of a run holds, and one choice performed there.
use Rattle.std.specs.Prelude.{◌≡◌, List, [], ◌∷◌, ◌++◌}
use Rattle.sheet.specs.declared.term.Term.{Term}
use Rattle.engine.specs.declared.engine.Engine.{Ghosts}
use Rattle.bench.specs.Benches.{found, rows_at, rows_shown, terms_at, terms_shown}
use Rattle.search.specs.Verdicts.{Judged}
use Rattle.runs.specs.declared.stage.Stage.{Stage}
use Rattle.runs.specs.declared.stage.Stage.TheVariants.{AtBench, AtResult}
use Rattle.runs.specs.Events.{Answer, Choice, Event, told}
use Rattle.runs.specs.Law.{Answered, Status, open_with, shown_with}

module _ {F S : Type 0} {f : Ghosts F} {s : Ghosts S} where
  abbrev pub status_of : Stage F S f s → Status
  status_of (AtBench b) = open_with (rows_at b)
  status_of (AtResult r) = shown_with (rows_shown r) (found r)

  abbrev pub terms_in : Stage F S f s → List Term
  terms_in (AtBench b) = terms_at b
  terms_in (AtResult r) = terms_shown r

  abbrev pub first_in : Stage F S f s → F
  first_in (AtBench b) = b.first
  first_in (AtResult r) = r.first

  abbrev pub second_in : Stage F S f s → S
  second_in (AtBench b) = b.second
  second_in (AtResult r) = r.second

-- the choice c is performed at the stage x, the stage y follows, and the answer is all that is on record then and was not before
pub record Performed {F S : Type 0} (f : Ghosts F) (s : Ghosts S) (x : Stage F S f s) (c : Choice) (y : Stage F S f s) (before after : List Event) : Type 0 where
  pub answer : Answer
  pub on_record : after ≡ before ++ told answer ∷ []
  pub answered : Answered (Judged (f.rule (f.setting (first_in x))) (s.rule (s.setting (second_in x))) (terms_in x)) (terms_in x) (status_of x) c answer (status_of y)
  pub terms : terms_in y ≡ terms_in x
  pub keeps_first : f.setting (first_in y) ≡ f.setting (first_in x)
  pub keeps_second : s.setting (second_in y) ≡ s.setting (second_in x)
