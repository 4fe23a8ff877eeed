use Rattle.std.proofs.Common.{subst}
use Rattle.engine.proofs.Bounds.{Bounds, bounds}
use Rattle.bench.specs.Benches.{found, rows_shown, terms_shown}
use Rattle.setup.proofs.Finding.{set_up_alone, set_up_right, standing_accepted}
use Rattle.setup.proofs.solved.Solved.of.Goals as goal

pub returns-clause-only : goal.returns-clause-only
returns-clause-only g c =
    let shown = c.args.shown in
    let d = g.S.Dating in
    let n = g.S.Engine.setting shown.second in
    set_up_alone (g.S.Engine.rule n) d.counts (d.picks n) (terms_shown shown) (rows_shown shown) (g.met.S.Dating.once n) (found shown) c.find_set_up-set_up.result c.find_set_up-set_up.ensures

pub returns-clause-right : goal.returns-clause-right
returns-clause-right g c =
    let shown = c.args.shown in
    let d = g.S.Dating in
    let n = g.S.Engine.setting shown.second in
    set_up_right (g.S.Engine.rule n) d.counts (d.picks n) (terms_shown shown) (rows_shown shown) (found shown) c.find_set_up-set_up.result
    (subst Bounds shown.held_by_first (bounds shown.first.held)) (standing_accepted shown.standing) shown.judged c.find_set_up-set_up.ensures
