use Rattle.std.proofs.Common.{map, ap, ◌∙◌}
use Rattle.std.proofs.lemmas.Iterator.{YieldsList-from_slice, YieldsList-from_zip}
use Rattle.std.proofs.lemmas.Iterator.Consumers.{YieldsList-end}
use Rattle.engine.specs.Placing.{placed_at}
use Rattle.engine.proofs.placed.place_seats.Goals as goal

pub returns : goal.returns
returns c =
    let pairs = YieldsList-from_zip {s = c.into_iter-term-iterator.result} (YieldsList-from_slice c.args.seats.now cc) (YieldsList-from_slice c.args.ranks.now cc) in
    let all = YieldsList-end pairs c.loop-term.yielded c.loop-term.term-iterator c.loop-term.yielded_by _ c.next.new.self c.in-None.is c.next.ensures.steps in
    c.loop-term.invariant ∙ ap (map placed_at) all.0
