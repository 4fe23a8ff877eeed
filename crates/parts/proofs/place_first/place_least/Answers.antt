use Rattle.std.proofs.Common.{sym, ap, ◌∙◌, subst, arith}
use Rattle.std.proofs.lemmas.Bool.{both_ways}
use Rattle.std.specs.Result.{result_ok}
use Rattle.engine.specs.Calls.{on_place}
use Rattle.engine.proofs.Codes.{blocks_le}
use Rattle.parts.specs.First.{LeastPlaced}
use Rattle.parts.proofs.Trying.{found, next, refused, room, taken, turned_away}
use Rattle.parts.proofs.place_first.place_least.Goals as goal

pub returns-in_err-ok-clause-places : goal.returns-in_err-ok-clause-places
returns-in_err-ok-clause-places g c =
    let f = g.E.Engine in
    let a = c.args.engine.now in
    let x = c.loop-code.engine in
    let code = c.loop-code.code in
    let away = turned_away f.LETTER (on_place (f.state x) code).refusal (ap result_ok (sym c.place.ensures.answers) ∙ sym c.ok.ensures.value ∙ c.in_err-ok.was) in
    subst (LeastPlaced (f.rule (f.setting a)) (f.state a) (f.state c.place.new.self)) (sym c.from_residual.ensures) (refused f a x code c.loop-code.invariant c.place.new.self away.0 away.1 c.place.ensures.leaves)

pub returns-then-open : goal.returns-then-open
returns-then-open g c =
    let f = g.E.Engine in
    let x = c.loop-code.engine in
    let code = c.loop-code.code in
    let ok = taken f.LETTER (on_place (f.state x) code).refusal c.in_ok-ok.field-0 (ap result_ok (sym c.place.ensures.answers) ∙ sym c.ok.ensures.value ∙ c.in_ok-ok.was) in
    record {
      places = found f c.args.engine.now x code c.loop-code.invariant c.place.new.self ok c.place.ensures.leaves c.place.ensures.keeps (c.open.ensures.0 c.if-open.true);
      keeps = c.place.ensures.keeps ∙ c.loop-code.invariant.kept;
    }

pub loop-code-preserved : goal.loop-code-preserved
loop-code-preserved g c =
    let f = g.E.Engine in
    let x = c.loop-code.engine in
    let code = c.loop-code.code in
    let ok = taken f.LETTER (on_place (f.state x) code).refusal c.in_ok-ok.field-0 (ap result_ok (sym c.place.ensures.answers) ∙ sym c.ok.ensures.value ∙ c.in_ok-ok.was) in
    next f c.args.engine.now x code c.loop-code.invariant c.place.new.self ok c.place.ensures.leaves c.place.ensures.keeps c.lift.new.self (λ k. both_ways c.open.result c.if-open.false (c.open.ensures.1 k)) c.lift.ensures.leaves c.lift.ensures.keeps

-- no code is so high, so control does not come here
pub returns-else-open-clause-places : goal.returns-else-open-clause-places
returns-else-open-clause-places g c =
    let f = g.E.Engine in
    let a = c.args.engine.now in
    let x = c.loop-code.engine in
    let code = c.loop-code.code in
    let ok = taken f.LETTER (on_place (f.state x) code).refusal c.in_ok-ok.field-0 (ap result_ok (sym c.place.ensures.answers) ∙ sym c.ok.ensures.value ∙ c.in_ok-ok.was) in
    let w = room f a x code c.loop-code.invariant c.place.new.self ok c.place.ensures.leaves c.place.ensures.keeps in
    let few = c.requires in
    let less = blocks_le (f.state a).codes in
    absurd (omega (arith, w.0, w.1))
