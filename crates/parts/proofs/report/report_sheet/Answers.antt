use Rattle.std.proofs.Common.{sym, ◌∙◌}
use Rattle.parts.proofs.Reporting.{report_once}
use Rattle.parts.proofs.report.report_sheet.Goals as goal

pub returns-clause-only : goal.returns-clause-only
returns-clause-only g c =
    let d = g.D.Engine in
    let e = g.E.Engine in
    let n = d.setting c.args.instants.now in
    λ t u₀ u other said.
    report_once (d.rule n) g.D.Dating.counts (g.D.Dating.picks n) d.LETTER c.args.sheet.now (g.met.D.Dating.once n) (e.rule (e.setting c.args.levels.now)) e.LETTER
    t u₀ u (d.state c.diagnose-diagnosis.new.instants) (e.state c.args.levels.now) (e.state c.diagnose-diagnosis.new.levels)
    other c.diagnose-diagnosis.result said c.diagnose-diagnosis.ensures.tells ∙ sym c.in_ok-text.ensures
