use Rattle.std.proofs.Common.{◌<◌, length, sym, ap, ◌∙◌, subst}
use Rattle.std.specs.Result.{is_ok}
use Rattle.engine.specs.Calls.{on_lift, without_last}
use Rattle.engine.specs.States.{State}
use Rattle.search.proofs.Lifting.{lift_both, lift_fewer, lift_refused, taken, turned_away}
use Rattle.search.proofs.clash.lift_all.Goals as goal

pub loop-second-smaller : goal.loop-second-smaller
loop-second-smaller g c =
    let f = g.F.Engine in
    let s = f.state c.loop-second.first in
    let ok = taken f.LETTER (on_lift s).refusal (ap is_ok (sym c.lift.ensures.answers) ∙ sym c.is_ok.ensures.value ∙ c.loop-second-test.true) in
    subst (λ (t : State). length t.codes < length s.codes) (sym c.lift.ensures.leaves) (lift_fewer s ok)

pub loop-second-preserved : goal.loop-second-preserved
loop-second-preserved g c = (
  without_last c.loop-second.invariant.0,
  lift_both c.loop-second.invariant.1 c.lift.ensures.leaves c.lift-in-loop-second.ensures.leaves c.lift.ensures.keeps c.lift-in-loop-second.ensures.keeps,
)

pub returns : goal.returns
returns g c =
    let f = g.F.Engine in
    let away = turned_away f.LETTER (on_lift (f.state c.loop-second.first)).refusal (ap is_ok (sym c.lift.ensures.answers) ∙ sym c.is_ok.ensures.value ∙ c.loop-second-test.false) in
    lift_refused c.loop-second.invariant.1 away.0 away.1 c.lift.ensures.leaves c.lift.ensures.keeps
