use Rattle.std.proofs.Common.{◌≡◌, Some, ◌∙◌, subst}
use Rattle.engine.specs.Dates.{Dated, Undated}
use Rattle.parts.specs.First.{FirstPlaced}
use Rattle.parts.specs.Seats.{seats_with}
use Rattle.parts.proofs.Diagnosing.{dates_are, met}
use Rattle.parts.proofs.instants.place_instants.Goals as goal

pub returns-in-Ok-clause-tells : goal.returns-in-Ok-clause-tells
returns-in-Ok-clause-tells g c =
    let f = g.E.Engine in
    let s = f.state c.note_sheet.new.engine in
    let t = f.state c.place_first.new.engine in
    let codes = c.in-Some.codes in
    let dates = c.in-Ok.dates.items in
    let n = f.setting c.args.engine.now in
    let same = c.place_first.ensures.keeps ∙ c.note_sheet.ensures.keeps in
    let p : FirstPlaced (f.rule n) s t (Some codes) = subst (λ m. FirstPlaced (f.rule m) s t (Some codes)) c.note_sheet.ensures.keeps c.in-Some.ensures.places in
    let d : Dated (f.rule n) t g.E.Dating.counts (g.E.Dating.picks n) dates = subst (λ m. Dated (f.rule m) t g.E.Dating.counts (g.E.Dating.picks m) dates) same c.in-Ok.ensures in
    let listed : c.list_seats.result.items ≡ seats_with c.in_ok-terms.terms.items codes.items dates = c.list_seats.ensures ∙ (λ i. seats_with c.in_ok-terms.terms.items (c.as_slice.ensures.value i) (c.as_slice-in-Ok.ensures.value i)) in
    met (f.rule n) s t codes g.E.Dating.counts (g.E.Dating.picks n) f.LETTER c.args.sheet.now c.in_ok-terms.terms.items c.in_ok-terms.ensures.notes dates c.list_seats.result.items p d listed

-- the dates are not refused, so control does not come here
pub returns-in-Err : goal.returns-in-Err
returns-in-Err g c =
    let f = g.E.Engine in
    let s = f.state c.note_sheet.new.engine in
    let t = f.state c.place_first.new.engine in
    let n = f.setting c.note_sheet.new.engine in
    let u : Undated (f.rule n) t f.LETTER c.in-Err.field-0 = subst (λ m. Undated (f.rule m) t f.LETTER c.in-Err.field-0) c.place_first.ensures.keeps c.in-Err.ensures in
    absurd (dates_are (f.rule n) s t c.in-Some.codes f.LETTER c.in-Err.field-0 c.in-Some.ensures.places u)
