use Rattle.std.proofs.Common.{◌≤◌, length, sym, refl, ◌∙◌, subst, arith}
use Rattle.std.proofs.lemmas.Bool.{both_ways}
use Rattle.engine.specs.Terms.{seats_of}
use Rattle.parts.proofs.Placing.{Placing, fewer_left, placing_end, placing_next, placing_start, room_left, same_terms}
use Rattle.parts.proofs.place_first.place_first.Goals as goal

pub returns-then-not-open : goal.returns-then-not-open
returns-then-not-open g c = record {
  places = ((λ k. both_ways c.open.result c.if-not-open.true (c.open.ensures.1 k)), refl);
  keeps = refl;
}

pub loop-code-init : goal.loop-code-init
loop-code-init g c = subst (Placing g.E.Engine c.args.engine.now c.args.engine.now) (sym c.new-codes.ensures) (placing_start g.E.Engine c.args.engine.now (c.open.ensures.0 c.if-not-open.false))

pub place_least-requires : goal.place_least-requires
place_least-requires g c =
    let e = same_terms g.E.Engine c.args.engine.now c.loop-code.engine c.loop-code.codes c.loop-code.invariant in
    subst (λ ts. length (seats_of ts) ≤ 8) (sym e) c.requires

pub push-requires : goal.push-requires
push-requires g c = (omega arith, room_left g.E.Engine c.args.engine.now c.loop-code.engine c.loop-code.codes c.loop-code.invariant c.place_least.new.engine c.in-Some.code c.in-Some.ensures.places c.requires)

pub loop-code-preserved : goal.loop-code-preserved
loop-code-preserved g c = placing_next g.E.Engine c.args.engine.now c.loop-code.engine c.loop-code.codes c.loop-code.invariant c.place_least.new.engine c.in-Some.code c.in-Some.ensures.places c.push.new.self.items c.place_least.ensures.keeps c.push.ensures.items

pub loop-code-smaller : goal.loop-code-smaller
loop-code-smaller g c = fewer_left g.E.Engine c.args.engine.now c.loop-code.engine c.loop-code.codes c.loop-code.invariant c.place_least.new.engine c.in-Some.code c.in-Some.ensures.places

pub returns : goal.returns
returns g c = record {
  places = placing_end g.E.Engine c.args.engine.now c.loop-code.engine c.loop-code.codes c.loop-code.invariant c.place_least.new.engine c.in_default.ensures.places;
  keeps = c.place_least.ensures.keeps ∙ c.loop-code.invariant.kept;
}
