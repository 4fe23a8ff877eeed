use Rattle.std.proofs.Common.{◌+◌, ◌<◌, ◌≤◌, length, sym, refl, ap, ◌∙◌, subst, arith}
use Rattle.std.proofs.lemmas.Bool.{false≢true}
use Rattle.engine.specs.Terms.{seats_of}
use Rattle.search.proofs.Walking.{Walking, walking_drops, walking_ends, walking_first, walking_keeps, walking_second, walking_starts}
use Rattle.search.proofs.clash.find_clash.Goals as goal
use Rattle.search.proofs.clash.find_clash.Goals.{then-mute_unless_needed, else-mute_unless_needed}

pub loop-i-init : goal.loop-i-init
loop-i-init g c =
    subst (Walking g.F.Engine g.S.Engine c.args.first.now c.args.second.now c.args.first.now c.args.second.now 0) (sym c.new-places.ensures)
    (walking_starts g.F.Engine g.S.Engine c.args.first.now c.args.second.now c.requires.alike c.requires.unmuted)

pub mute_unless_needed-requires-clause-few : goal.mute_unless_needed-requires-clause-few
mute_unless_needed-requires-clause-few g c = subst (λ ts. length (seats_of ts) ≤ 8) (sym c.loop-i.invariant.terms) c.requires.few

pub loop-i-preserved : goal.loop-i-preserved
loop-i-preserved g c =
    let f = g.F.Engine in
    let s = g.S.Engine in
    let a = c.args.first.now in
    let b = c.args.second.now in
    let l : c.loop-i.i < length (f.state a).rows = omega (arith, c.requires.count, c.loop-i-test.true) in
    elim c.if-mute_unless_needed.branch [
      | then-mute_unless_needed w ↦
          subst (Walking f s a b c.mute_unless_needed.new.first c.mute_unless_needed.new.second (c.loop-i.i + 1)) (sym (ap (λ v. v.items) w.places-is ∙ w.push.ensures.items))
          (walking_keeps f s a b c.loop-i.invariant l w.if-mute_unless_needed.ensures.marked (w.if-mute_unless_needed.ensures.tells.0 refl))
      | else-mute_unless_needed w ↦
          subst (Walking f s a b c.mute_unless_needed.new.first c.mute_unless_needed.new.second (c.loop-i.i + 1)) (sym (ap (λ v. v.items) w.places-is))
          (walking_drops f s a b c.loop-i.invariant l w.if-mute_unless_needed.ensures.marked (λ p. false≢true (w.if-mute_unless_needed.ensures.tells.1 p)))
    ]

pub returns-clause-core : goal.returns-clause-core
returns-clause-core g c =
    let f = g.F.Engine in
    let s = g.S.Engine in
    let a = c.args.first.now in
    let b = c.args.second.now in
    let l : length (f.state a).rows ≤ c.loop-i.i = omega (arith, c.requires.count, c.loop-i-test.false) in
    walking_ends f s a b c.loop-i.invariant l (g.met.F.Engine.fewer (f.setting a)) (g.met.S.Engine.fewer (s.setting b)) c.requires.clash

pub returns-clause-leaves_first : goal.returns-clause-leaves_first
returns-clause-leaves_first g c =
    let l : length (g.F.Engine.state c.args.first.now).rows ≤ c.loop-i.i = omega (arith, c.requires.count, c.loop-i-test.false) in
    walking_first g.F.Engine g.S.Engine c.args.first.now c.args.second.now c.loop-i.invariant l

pub returns-clause-leaves_second : goal.returns-clause-leaves_second
returns-clause-leaves_second g c =
    let l : length (g.F.Engine.state c.args.first.now).rows ≤ c.loop-i.i = omega (arith, c.requires.count, c.loop-i-test.false) in
    walking_second g.F.Engine g.S.Engine c.args.first.now c.args.second.now c.loop-i.invariant l
