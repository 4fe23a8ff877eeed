-- What is known while a client is served at a bench.
use Rattle.std.proofs.Common.{◌≡◌, ℕ, ◌+◌, ◌<◌, Bool, true, List, [], ◌∷◌, ◌++◌, Some, None, Option, Err, sym, ap, ◌∙◌, subst, arith}
use Rattle.sheet.specs.declared.fault.Cause.{Cause}
use Rattle.sheet.specs.declared.fault.Fault.{Fault}
use Rattle.sheet.specs.declared.term.Term.{Term}
use Rattle.engine.specs.declared.engine.Engine.{Ghosts}
use Rattle.engine.specs.Refusals.{answer_in}
use Rattle.bench.specs.declared.bench.Bench.{Bench}
use Rattle.bench.specs.Benches.{rows_at, terms_at}
use Rattle.bench.specs.Letters.{bench_letter}
use Rattle.search.specs.Verdicts.{Judged}
use Rattle.runs.specs.declared.stage.Stage.{Stage}
use Rattle.runs.specs.declared.stage.Stage.TheVariants.{AtBench}
use Rattle.runs.specs.Events.{Choice, Event, answer_by, chosen, refused, told}
use Rattle.runs.specs.Law.{Answered, Served, open_with}
use Rattle.runs.specs.Stages.{Performed, first_in, second_in, status_of, terms_in}
use Rattle.runs.proofs.Serving.{Sofar, sofar_on, sofar_start, sofar_stop}

-- a fault that a bench answers is the answer that the client is told
pub refused_by : (o : Option Cause) (e : Fault) → Err e ≡ answer_in bench_letter o → refused e ≡ answer_by o
refused_by None e h = let z : ◌≡◌ {A = ℕ} 0 1 = cc in absurd (omega arith)
refused_by (Some c) e h = let q : e ≡ record { cause = c; layer = bench_letter } = cc in ap refused q

-- the client was served until the stage x, at a bench with these terms and engines made with these settings
module _ {F S : Type 0} (f : Ghosts F) (s : Ghosts S) (n m : ℕ) (ts : List Term) (before : List Event) where
  pub record Attending (x : Stage F S f s) (now : List Event) (made : ℕ) : Type 0 where
    pub terms : terms_in x ≡ ts
    pub keeps_first : f.setting (first_in x) ≡ n
    pub keeps_second : s.setting (second_in x) ≡ m
    pub sofar : Sofar (Judged (f.rule n) (s.rule m) ts) ts before now made (status_of x)

  pub attending_start : (b : Bench F S f s) (now : List Event) → terms_at b ≡ ts → rows_at b ≡ [] → f.setting b.first ≡ n → s.setting b.second ≡ m → now ≡ before → Attending (AtBench b) now 0
  attending_start b now terms rows keeps_first keeps_second e = record {
    terms = terms;
    keeps_first = keeps_first;
    keeps_second = keeps_second;
    sofar = subst (λ rs. Sofar (Judged (f.rule n) (s.rule m) ts) ts before now 0 (open_with rs)) (sym rows) (sofar_start e);
  }

  -- one choice more is made, performed and answered
  pub attending_on : {x y : Stage F S f s} {now mid later : List Event} {made : ℕ} (c : Choice) → Attending x now made → mid ≡ now ++ chosen c ∷ [] → Performed f s x c y mid later → Attending y later (made + 1)
  attending_on {x = x} {y = y} c a asked p =
      let at : ℕ → ℕ → List Term → Type 0 = λ i j us. Answered (Judged (f.rule i) (s.rule j) us) us (status_of x) c p.answer (status_of y) in
      let answered : at n m ts =
      subst (λ i. at i m ts) a.keeps_first (subst (λ j. at (f.setting (first_in x)) j ts) a.keeps_second (subst (at (f.setting (first_in x)) (s.setting (second_in x))) a.terms p.answered)) in
      record {
        terms = p.terms ∙ a.terms;
        keeps_first = p.keeps_first ∙ a.keeps_first;
        keeps_second = p.keeps_second ∙ a.keeps_second;
        sofar = sofar_on a.sofar c p.answer answered (p.on_record ∙ ap (λ es. es ++ told p.answer ∷ []) asked);
      }

  -- the same where the stages and the history go by other names
  pub served_on : {x x₀ y y₀ : Stage F S f s} {now mid later later₀ : List Event} {made : ℕ} (c : Choice) → Attending x₀ now made → x₀ ≡ x → mid ≡ now ++ chosen c ∷ [] → Performed f s x c y mid later → y₀ ≡ y → later₀ ≡ later → Attending y₀ later₀ (made + 1)
  served_on {x = x} {y = y} {now = now} {later = later} {later₀ = later₀} {made = made} c a at_x asked p at_y is =
      subst (λ z. Attending z later₀ (made + 1)) (sym at_y)
      (subst (λ es. Attending y es (made + 1)) (sym is) (attending_on c (subst (λ z. Attending z now made) at_x a) asked p))

  -- the client stopped, at a stage that goes by another name, or made all its choices
  pub stopped_at : {x₀ : Stage F S f s} (x : Stage F S f s) {now later : List Event} {stopped : Bool} {made limit : ℕ} → Attending x₀ now made → x₀ ≡ x → later ≡ now ++ [] → stopped ≡ true → made < limit → Served (Judged (f.rule n) (s.rule m) ts) ts before later stopped limit (status_of x)
  stopped_at x {now = now} {made = made} a at_x e stops less = sofar_stop (subst (λ z. Attending z now made) at_x a).sofar e stops less
