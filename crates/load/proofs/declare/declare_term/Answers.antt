use Rattle.std.proofs.Common.{rules, ◌≡◌, ◌++◌, ◌∷◌, [], None, inr, sym, ap, ◌∙◌}
use Rattle.bench.specs.Benches.{declared}
use Rattle.bench.specs.Letters.{draft_letter}
use Rattle.engine.specs.Calls.{unless_refused}
use Rattle.engine.specs.Refusals.{term_refusal}
use Rattle.engine.proofs.Using.{accepted_is, refused_is}
use Rattle.load.proofs.declare.declare_term.Goals as goal

pub returns-in-Ok : goal.returns-in-Ok
returns-in-Ok c =
    let ts = declared c.args.draft.now in
    let t = c.in-Ok-Term-default.term in
    let taken : term_refusal ts t ≡ None = accepted_is draft_letter (term_refusal ts t) _ c.in-Ok.ensures.answers in
    record {
      term = t;
      read = search rules;
      taken = taken;
      left = c.read_field.ensures.rest;
      shorter = search rules;
      last = c.declare.ensures.leaves ∙ ap (λ o. unless_refused o ts (ts ++ t ∷ [])) taken;
    }

pub returns-in-Err : goal.returns-in-Err
returns-in-Err c =
    let ts = declared c.args.draft.now in
    let t = c.in-Ok-Term-default.term in
    let e = c.in-Err.fault in
    let why = refused_is draft_letter (term_refusal ts t) e c.in-Err.ensures.answers in (
      c.declare.ensures.leaves ∙ ap (λ o. unless_refused o ts (ts ++ t ∷ [])) why,
      inr (t, search rules, sym c.in-Err.ensures.answers),
    )
