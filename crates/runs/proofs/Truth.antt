-- Where two rules are exact together, what is found over accepted rows says the truth, and so does all that is found in a run.
use Rattle.std.proofs.Common.{◌≡◌, ℕ, ◌-◌, Bool, true, List, [], ◌∷◌, ◌++◌, length, All, Some, None, Option, refl, sym, subst}
use Rattle.engine.specs.Calls.{unless_refused}
use Rattle.std.proofs.lemmas.List.Elements.{All-nil, All-push, All-take}
use Rattle.sheet.specs.declared.fault.Cause.{Cause}
use Rattle.sheet.specs.declared.row.Row.{Row}
use Rattle.sheet.specs.declared.term.Term.{Term}
use Rattle.engine.specs.Fitting.{all_terms_fit, row_fits}
use Rattle.engine.specs.Refusals.{row_refusal}
use Rattle.engine.proofs.Fitting.{row_passes}
use Rattle.theory.specs.Accepted.{Accepted}
use Rattle.theory.specs.Combining.{ExactTogether}
use Rattle.search.specs.Verdicts.{Finding, Judged, arranged, clash}
use Rattle.runs.specs.Events.{Answer, Choice, Event, enter, strike, judge, reopen}
use Rattle.runs.specs.Judging.{JudgedTruly}
use Rattle.runs.specs.Law.{Answered, Run, Served, Status, ends, goes_on, open_with, shown_with}

-- the rows that stand at a status
abbrev pub rows_in : Status → List Row
rows_in (open_with rows) = rows
rows_in (shown_with rows found) = rows

-- each of them was accepted over these terms
abbrev pub EachFits : List Term → List Row → Type 0
EachFits ts rows = All (λ r. row_fits ts r ≡ true) rows

-- they still do once a row is entered, or refused
entered_fit : (ts : List Term) (n : ℕ) (rows : List Row) (r : Row) → EachFits ts rows → EachFits ts (unless_refused (row_refusal ts n r) rows (rows ++ r ∷ []))
entered_fit ts n rows r fit = go (row_refusal ts n r) (λ none. (row_passes ts n r none).fits)
  where
    go : (o : Option Cause) → (o ≡ None → row_fits ts r ≡ true) → EachFits ts (unless_refused o rows (rows ++ r ∷ []))
    go None fits = All-push (λ s. row_fits ts s ≡ true) rows r fit (fits refl)
    go (Some c) fits = fit

module _ (first second : List Term → List Row → List ℕ → Type 0) (exact : ExactTogether first second) where
  -- an arrangement found says that the rows can be met, and a clash that they cannot
  pub judged_truly : (ts : List Term) (rows : List Row) (f : Finding) → Accepted ts rows → Judged first second ts rows f → JudgedTruly first second ts rows f
  judged_truly ts rows (arranged codes) accepted h = (h, (exact ts rows accepted).0 (codes, h.allowed))
  judged_truly ts rows (clash places) accepted h = (h, λ met. h.0 ((exact ts rows accepted).1 met))

  module _ (ts : List Term) (terms_fit : all_terms_fit ts ≡ true) where
    -- one choice
    answered_truly : (p : Status) (c : Choice) (a : Answer) (q : Status) → EachFits ts (rows_in p) → Answered (Judged first second ts) ts p c a q
        → Answered (JudgedTruly first second ts) ts p c a q × EachFits ts (rows_in q)
    answered_truly (open_with rows) (enter r) a q fit h = (h, subst (λ s. EachFits ts (rows_in s)) (sym h.1) (entered_fit ts (length rows) rows r fit))
    answered_truly (open_with rows) strike a q fit h =
        (h, subst (λ s. EachFits ts (rows_in s)) (sym h.1) (All-take (λ s. row_fits ts s ≡ true) (length rows - 1) rows fit))
    answered_truly (open_with rows) judge a q fit h =
        let (f, said, found, next) = h in
        ((f, said, judged_truly ts rows f (record { each_term = terms_fit; each_row = fit }) found, next), subst (λ s. EachFits ts (rows_in s)) (sym next) fit)
    answered_truly (open_with rows) reopen a q fit h = absurd h
    answered_truly (shown_with rows found) (enter r) a q fit h = absurd h
    answered_truly (shown_with rows found) strike a q fit h = absurd h
    answered_truly (shown_with rows found) judge a q fit h = absurd h
    answered_truly (shown_with rows found) reopen a q fit h = (h, subst (λ s. EachFits ts (rows_in s)) (sym h.1) fit)

    -- a run that begins at rows which were accepted
    pub run_truly : {p q : Status} {es : List Event} → EachFits ts (rows_in p) → Run (Judged first second ts) ts p es q → Run (JudgedTruly first second ts) ts p es q
    run_truly fit ends = ends
    run_truly fit (goes_on {p} {q} c a answered w) =
        let (truly, then) = answered_truly p c a q fit answered in
        goes_on c a truly (run_truly then w)

    -- a client that was served at a new bench
    pub served_truly : {before after : List Event} {stopped : Bool} {limit : ℕ} {q : Status}
        → Served (Judged first second ts) ts before after stopped limit q → Served (JudgedTruly first second ts) ts before after stopped limit q
    served_truly s = record { events = s.events; on_record = s.on_record; run = run_truly (All-nil _) s.run; ended = s.ended }
