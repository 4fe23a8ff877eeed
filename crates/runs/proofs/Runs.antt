-- A run and then another, what is chosen in both, and runs where more is said of what is found.
use Rattle.std.proofs.Common.{◌≡◌, List, [], ◌∷◌, ◌++◌, refl, ap}
use Rattle.sheet.specs.declared.row.Row.{Row}
use Rattle.sheet.specs.declared.term.Term.{Term}
use Rattle.search.specs.Verdicts.{Finding}
use Rattle.runs.specs.Events.{Answer, Choice, Event, choices, chosen, told, enter, strike, judge, reopen}
use Rattle.runs.specs.Law.{Answered, Run, Status, ends, goes_on, open_with, shown_with}

-- a run goes on from where another ended
pub run_on : {Judge : List Row → Finding → Type 0} {ts : List Term} {p q r : Status} {es fs : List Event} → Run Judge ts p es q → Run Judge ts q fs r → Run Judge ts p (es ++ fs) r
run_on ends w = w
run_on (goes_on c a answered v) w = goes_on c a answered (run_on v w)

-- what is chosen among events, and then among others
pub choices_on : (es fs : List Event) → choices (es ++ fs) ≡ choices es ++ choices fs
choices_on [] fs = refl
choices_on (chosen c ∷ es) fs = ap (λ cs. c ∷ cs) (choices_on es fs)
choices_on (told a ∷ es) fs = choices_on es fs

-- where whatever is found by one rule of judging is found by another, a choice that is answered under the one is answered so under the other
answered_with : {J K : List Row → Finding → Type 0} (ts : List Term) → ((rows : List Row) (f : Finding) → J rows f → K rows f)
    → (p : Status) (c : Choice) (a : Answer) (q : Status) → Answered J ts p c a q → Answered K ts p c a q
answered_with ts more (open_with rows) (enter r) a q h = h
answered_with ts more (open_with rows) strike a q h = h
answered_with ts more (open_with rows) judge a q h = let (f, said, found, next) = h in (f, said, more rows f found, next)
answered_with ts more (open_with rows) reopen a q h = h
answered_with ts more (shown_with rows found) (enter r) a q h = h
answered_with ts more (shown_with rows found) strike a q h = h
answered_with ts more (shown_with rows found) judge a q h = h
answered_with ts more (shown_with rows found) reopen a q h = h

-- and so is a whole run
pub run_with : {J K : List Row → Finding → Type 0} {ts : List Term} {p q : Status} {es : List Event}
    → ((rows : List Row) (f : Finding) → J rows f → K rows f) → Run J ts p es q → Run K ts p es q
run_with more ends = ends
run_with {ts = ts} more (goes_on {p} {q} c a answered w) = goes_on c a (answered_with ts more p c a q answered) (run_with more w)
