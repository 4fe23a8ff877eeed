use Rattle.std.proofs.Common.{sym, subst}
use Rattle.engine.specs.Rules.{TableAllowed}
use Rattle.search.specs.Verdicts.{Judged}
use Rattle.bench.specs.Benches.{found, rows_at, terms_at}
use Rattle.setup.proofs.solve.solve.Goals as goal

pub returns-clause-judges : goal.returns-clause-judges
returns-clause-judges g c =
    let bench = c.args.bench in
    subst (λ r. Judged TableAllowed (g.S.Engine.rule (g.S.Engine.setting bench.second)) (terms_at bench) (rows_at bench) (found r)) (sym c.of.ensures.shown) c.judge.ensures.judges
