use Rattle.std.proofs.Common.{rules, ◌≡◌, None, MatchResult, sym, ◌∙◌, subst}
use Rattle.bench.specs.Benches.{declared, rows_at, terms_at}
use Rattle.load.specs.Loading.{LoadedAs, StopsAt, WholeSheet}
use Rattle.load.specs.TermFields.{TermsStopped}
use Rattle.load.proofs.Only.{loads_only}
use Rattle.load.proofs.Taking.{stopped_at_term}
use Rattle.load.proofs.load.load.Goals as goal
use Rattle.load.proofs.load.load.Goals.{in-Ok, in-Err}

pub returns-in-Ok-entered-clause-only : goal.returns-in-Ok-entered-clause-only
returns-in-Ok-entered-clause-only g c =
    let b = c.match-declared.bench in
    loads_only c.args.sheet.now None (terms_at b) (rows_at b) (search rules)

pub returns-in-Err-entered-clause-loads : goal.returns-in-Err-entered-clause-loads
returns-in-Err-entered-clause-loads g c =
    let sheet = c.args.sheet.now in
    let refusal = c.in-Err-entered.refusal in
    let before = declared c.clear.new.self in
    let after = declared c.declare_terms-declared.new.draft in
    let stops : StopsAt sheet refusal = elim c.match-declared.branch [
      | in-Ok w ↦ (let b = w.enter_rows-entered.new.bench in subst (λ r. MatchResult r (λ _. WholeSheet sheet (terms_at b) (rows_at b)) (StopsAt sheet)) (sym w.entered-is ∙ c.in-Err-entered.is) w.enter_rows-entered.ensures.enters)
      | in-Err w ↦
          (let e = w.in-Err.refusal in
          let same : e ≡ refusal = (let is = sym w.entered-is ∙ c.in-Err-entered.is in cc) in
          let at : TermsStopped sheet before after e = w.in-Err.ensures in
          subst (StopsAt sheet) same (stopped_at_term sheet before after e c.clear.ensures at))
    ] in
    let l = c.refused.result in
    subst (λ o. LoadedAs sheet o (terms_at l.bench) (rows_at l.bench)) (sym c.refused.ensures.refusal) (stops, c.refused.ensures.terms, c.refused.ensures.rows)

pub returns-in-Err-entered-clause-only : goal.returns-in-Err-entered-clause-only
returns-in-Err-entered-clause-only g c =
    let l = c.refused.result in
    loads_only c.args.sheet.now l.refusal (terms_at l.bench) (rows_at l.bench) (returns-in-Err-entered-clause-loads g c)
