use Rattle.parts.proofs.Deciding.{taken_not_refused}
use Rattle.parts.proofs.diagnosis.diagnose.Goals as goal

-- the first engine took the sheet, so the second does not refuse it, and control does not come here
pub returns-in_err-open-clause-tells : goal.returns-in_err-open-clause-tells
returns-in_err-open-clause-tells g c =
    let d = g.D.Engine in
    let e = g.E.Engine in
    let n = d.setting c.args.instants.now in
    absurd (taken_not_refused (d.rule n) g.D.Dating.counts (g.D.Dating.picks n) d.LETTER e.LETTER c.args.sheet.now (d.state c.place_instants.new.engine) (e.state c.ask_levels.new.engine) c.in_ok-seats.seats c.in_err-open.field-0.0 c.in_ok-seats.ensures.tells c.in_err-open.ensures.tells)
