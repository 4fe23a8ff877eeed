-- Where only one thing can be found of the same rows, the choices of a run determine what is told and where it ends.
use Rattle.std.proofs.Common.{◌≡◌, List, ◌∷◌, refl, sym, ap, ◌∙◌, subst}
use Rattle.sheet.specs.declared.row.Row.{Row}
use Rattle.sheet.specs.declared.term.Term.{Term}
use Rattle.search.specs.Verdicts.{Finding}
use Rattle.runs.specs.Events.{Answer, Choice, Event, choices, chosen, told, judged, enter, strike, judge, reopen}
use Rattle.runs.specs.Law.{Answered, ChoicesDetermine, Run, Status, ends, goes_on, open_with, shown_with}

-- over any rows at most one thing can be found
abbrev pub OnlyOne : (List Row → Finding → Type 0) → Type 0
OnlyOne Judge = (rows : List Row) (f g : Finding) → Judge rows f → Judge rows g → f ≡ g

-- one choice has one answer, and one status follows
answered_only : {Judge : List Row → Finding → Type 0} (ts : List Term) → OnlyOne Judge
    → (p : Status) (c : Choice) (a b : Answer) (q r : Status) → Answered Judge ts p c a q → Answered Judge ts p c b r → (a ≡ b) × (q ≡ r)
answered_only ts only (open_with rows) (enter x) a b q r h k = (h.0 ∙ sym k.0, h.1 ∙ sym k.1)
answered_only ts only (open_with rows) strike a b q r h k = (h.0 ∙ sym k.0, h.1 ∙ sym k.1)
answered_only ts only (open_with rows) judge a b q r h k =
    let (f, said, found, next) = h in
    let (g, answer, seen, then) = k in
    let same : f ≡ g = only rows f g found seen in
    (said ∙ ap judged same ∙ sym answer, next ∙ ap (λ x. shown_with rows x) same ∙ sym then)
answered_only ts only (open_with rows) reopen a b q r h k = absurd h
answered_only ts only (shown_with rows found) (enter x) a b q r h k = absurd h
answered_only ts only (shown_with rows found) strike a b q r h k = absurd h
answered_only ts only (shown_with rows found) judge a b q r h k = absurd h
answered_only ts only (shown_with rows found) reopen a b q r h k = (h.0 ∙ sym k.0, h.1 ∙ sym k.1)

-- two runs from one status
same_runs : {Judge : List Row → Finding → Type 0} {ts : List Term} {p q r : Status} {es fs : List Event}
    → OnlyOne Judge → Run Judge ts p es q → Run Judge ts p fs r → choices es ≡ choices fs → (es ≡ fs) × (q ≡ r)
same_runs only ends ends same = (refl, refl)
same_runs only ends (goes_on d b k w) same = absurd cc
same_runs only (goes_on c a h v) ends same = absurd cc
same_runs {Judge} {ts} only (goes_on {p} {q} {es = es} c a h v) (goes_on {q = r} {r = o} {es = fs} d b k w) same =
    let (chose, rest) : (c ≡ d) × (choices es ≡ choices fs) = (cc, cc) in
    let (said, next) = answered_only ts only p c a b q r h (subst (λ x. Answered Judge ts p x b r) (sym chose) k) in
    let (events, last) = same_runs only v (subst (λ x. Run Judge ts x fs o) (sym next) w) rest in
    ((λ i. chosen (chose i) ∷ told (said i) ∷ events i), last)

pub choices_determine : {Judge : List Row → Finding → Type 0} {ts : List Term} → OnlyOne Judge → ChoicesDetermine Judge ts
choices_determine only p q r es fs v w same = same_runs only v w same
