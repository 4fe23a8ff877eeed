use Rattle.bench.specs.Benches.{found, rows_shown, terms_shown}
use Rattle.setup.proofs.Finding.{set_up_there}
use Rattle.setup.proofs.solved.Solved.set_up.Goals as goal

pub returns-clause-there : goal.returns-clause-there
returns-clause-there g c =
    let solved = c.args.self.now in
    let shown = solved.shown in
    let d = g.S.Dating in
    let n = g.S.Engine.setting shown.second in
    set_up_there (g.S.Engine.rule n) d.counts (d.picks n) (terms_shown shown) (rows_shown shown) (found shown) solved.set_up solved.picked
