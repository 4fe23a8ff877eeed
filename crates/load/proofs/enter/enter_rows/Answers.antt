use Rattle.std.proofs.Common.{refl, ◌∙◌}
use Rattle.bench.specs.Benches.{rows_at, terms_at}
use Rattle.load.specs.Entering.{contents_at}
use Rattle.load.proofs.Taking.{behind_terms, taken_too, within}
use Rattle.load.proofs.enter.enter_rows.Goals as goal

pub loop-left-init : goal.loop-left-init
loop-left-init g c =
    let begun = behind_terms c.args.sheet.now c.args.left.now (terms_at c.args.bench.now) (rows_at c.args.bench.now) c.requires.terms c.requires.no_row in
    (begun.0, begun.1, within begun.0, refl, refl)

pub loop-left-preserved : goal.loop-left-preserved
loop-left-preserved g c =
    let held = c.loop-left.invariant in
    let step = c.in-Ok.ensures.enters in
    let walk = taken_too c.args.sheet.now c.loop-left.left.now c.in-Ok.after.now (contents_at c.loop-left.bench) (contents_at c.enter_front.new.bench) held.0 step in
    let kept = c.enter_front.ensures.engines in
    (walk, λ begun. step.some_row, within walk, kept.0 ∙ held.3, kept.1 ∙ held.4)
