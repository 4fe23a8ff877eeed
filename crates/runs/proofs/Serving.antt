-- What is known while a client is served, whichever judging this is.
use Rattle.std.proofs.Common.{◌≡◌, ℕ, ◌+◌, ◌<◌, Bool, true, inl, inr, List, [], ◌∷◌, ◌++◌, length, refl, sym, ap, ◌∙◌, subst, append_assoc, append-nil, length-append}
use Rattle.sheet.specs.declared.row.Row.{Row}
use Rattle.sheet.specs.declared.term.Term.{Term}
use Rattle.search.specs.Verdicts.{Finding}
use Rattle.runs.specs.Events.{Answer, Choice, Event, choices, chosen, told}
use Rattle.runs.specs.Law.{Answered, Run, Served, Status, ends, goes_on, open_with}
use Rattle.runs.proofs.Runs.{choices_on, run_on}

one_more : (es : List Event) (c : Choice) (a : Answer) → length (choices (es ++ chosen c ∷ told a ∷ [])) ≡ length (choices es) + 1
one_more es c a = ap length (choices_on es (chosen c ∷ told a ∷ [])) ∙ length-append (choices es) (c ∷ [])

-- since `before` so many choices were made and answered, and the status q was reached
pub record Sofar (Judge : List Row → Finding → Type 0) (ts : List Term) (before now : List Event) (made : ℕ) (q : Status) : Type 0 where
  pub events : List Event
  pub on_record : now ≡ before ++ events
  pub run : Run Judge ts (open_with []) events q
  pub counted : length (choices events) ≡ made

module _ {Judge : List Row → Finding → Type 0} {ts : List Term} {before now : List Event} where
  -- the client comes to a new bench
  pub sofar_start : now ≡ before → Sofar Judge ts before now 0 (open_with [])
  sofar_start e = record { events = []; on_record = e ∙ sym (append-nil before); run = ends; counted = refl }

  -- one choice more
  pub sofar_on : {made : ℕ} {q r : Status} {later : List Event} → Sofar Judge ts before now made q → (c : Choice) (a : Answer) → Answered Judge ts q c a r
      → later ≡ (now ++ chosen c ∷ []) ++ told a ∷ [] → Sofar Judge ts before later (made + 1) r
  sofar_on s c a answered e =
      let more : List Event = chosen c ∷ told a ∷ [] in
      record {
        events = s.events ++ more;
        on_record = e ∙ append_assoc now (chosen c ∷ []) (told a ∷ []) ∙ ap (λ es. es ++ more) s.on_record ∙ append_assoc before s.events more;
        run = run_on s.run (goes_on c a answered ends);
        counted = one_more s.events c a ∙ ap (λ n. n + 1) s.counted;
      }

  -- the client stops
  pub sofar_stop : {made limit : ℕ} {q : Status} {later : List Event} {stopped : Bool} → Sofar Judge ts before now made q
      → later ≡ now ++ [] → stopped ≡ true → made < limit → Served Judge ts before later stopped limit q
  sofar_stop {limit = limit} s e stops less = record {
    events = s.events;
    on_record = e ∙ append-nil now ∙ s.on_record;
    run = s.run;
    ended = inl (stops, subst (λ n. n < limit) (sym s.counted) less);
  }

  -- or it made all its choices
  pub sofar_limit : {made limit : ℕ} {q : Status} {stopped : Bool} → Sofar Judge ts before now made q → made ≡ limit → Served Judge ts before now stopped limit q
  sofar_limit s all = record { events = s.events; on_record = s.on_record; run = s.run; ended = inr (s.counted ∙ all) }
