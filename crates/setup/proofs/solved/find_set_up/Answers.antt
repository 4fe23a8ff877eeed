use Rattle.std.proofs.Common.{sym, subst}
use Rattle.engine.specs.Dates.{Undated}
use Rattle.engine.specs.States.{State}
use Rattle.bench.specs.Benches.{found, rows_shown, terms_shown}
use Rattle.setup.specs.Groups.{NamedByLeast}
use Rattle.setup.proofs.Finding.{named_by_least, none_found}
use Rattle.setup.proofs.solved.find_set_up.Goals as goal

pub assign-requires-clause-named : goal.assign-requires-clause-named
assign-requires-clause-named g c = subst NamedByLeast (sym c.as_slice-2.ensures.value) (named_by_least _ _ c.classes-groups.ensures)

pub returns-in_default-dates : goal.returns-in_default-dates
returns-in_default-dates g c =
    let shown = c.args.shown.now in
    let d = g.S.Dating in
    let e = g.S.Engine in
    let fault = c.in_default-dates.field-0 in
    let undated = subst (λ x. Undated (e.rule (e.setting x)) (e.state c.second.result.now) e.LETTER fault) c.second.ensures.engine c.in_default-dates.ensures in
    none_found (e.rule (e.setting shown.second)) d.counts (d.picks (e.setting shown.second)) (terms_shown shown) (rows_shown shown) (found shown) shown.judged e.LETTER fault
    (subst (λ (t : State). Undated (e.rule (e.setting shown.second)) t e.LETTER fault) c.second.ensures.holds undated)
