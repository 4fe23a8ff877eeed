-- The law of runs. It speaks of the rows that stand, of what the rules of the two engines allow, and of what every row means, and not of how any of it is found.
use Rattle.std.specs.Prelude.{◌≡◌, ℕ, ◌<◌, Bool, true, List, [], ◌∷◌, ◌++◌, length, ◌⊎◌}
use Rattle.sheet.specs.declared.row.Row.{Row}
use Rattle.sheet.specs.declared.term.Term.{Term}
use Rattle.engine.specs.Calls.{unless_refused, without_last}
use Rattle.engine.specs.Refusals.{row_refusal, strike_refusal}
use Rattle.search.specs.Verdicts.{Finding}
use Rattle.runs.specs.Events.{Answer, Choice, Event, answer_by, choices, chosen, told, done, judged, enter, strike, judge, reopen}

-- the rows that stand, and whether the bench is open or a result is shown, and which
pub data Status : Type 0 where
  open_with : List Row → Status
  shown_with : List Row → Finding → Status

module _ (Judge : List Row → Finding → Type 0) (ts : List Term) where
  -- Choice c at the status p is answered by a, and the status q follows. Enter is refused exactly on the grounds of its refusals, and strike where no row
  -- stands; an accepted enter puts its row last, an accepted strike takes the last row off, and nothing else changes the rows. Judge and reopen are never
  -- refused. A bench is judged while it is open, and reopened while a result is shown
  abbrev pub Answered : Status → Choice → Answer → Status → Type 0
  Answered (open_with rows) (enter r) a q =
      (a ≡ answer_by (row_refusal ts (length rows) r)) × (q ≡ open_with (unless_refused (row_refusal ts (length rows) r) rows (rows ++ r ∷ [])))
  Answered (open_with rows) strike a q = (a ≡ answer_by (strike_refusal (length rows))) × (q ≡ open_with (without_last rows))
  Answered (open_with rows) judge a q = (found : Finding) × (a ≡ judged found) × Judge rows found × (q ≡ shown_with rows found)
  Answered (open_with rows) reopen a q = ⊥
  Answered (shown_with rows found) (enter r) a q = ⊥
  Answered (shown_with rows found) strike a q = ⊥
  Answered (shown_with rows found) judge a q = ⊥
  Answered (shown_with rows found) reopen a q = (a ≡ done) × (q ≡ open_with rows)

  -- what is on record of a run from one status to another: each choice, and then what came of it
  pub data Run : Status → List Event → Status → Type 0 where
    ends : {p : Status} → Run p [] p
    goes_on : {p q r : Status} {es : List Event} (c : Choice) (a : Answer) → Answered p c a q → Run q es r → Run p (chosen c ∷ told a ∷ es) r

  -- a run ends where the client stopped before it made so many choices, or where it made them all
  abbrev pub Ended : Bool → ℕ → ℕ → Type 0
  Ended stopped limit made = ((stopped ≡ true) × (made < limit)) ⊎ (made ≡ limit)

  -- a client was served at a new bench, from one history to another
  pub record Served (before after : List Event) (stopped : Bool) (limit : ℕ) (q : Status) : Type 0 where
    pub events : List Event
    pub on_record : after ≡ before ++ events
    pub run : Run (open_with []) events q
    pub ended : Ended stopped limit (length (choices events))

  -- two runs with the same choices are told the same
  abbrev pub ChoicesDetermine : Type 0
  ChoicesDetermine = (p q r : Status) (es fs : List Event) → Run p es q → Run p fs r → choices es ≡ choices fs → (es ≡ fs) × (q ≡ r)
