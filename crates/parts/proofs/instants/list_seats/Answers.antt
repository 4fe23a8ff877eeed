use Rattle.std.proofs.Common.{map, ap, ◌∙◌}
use Rattle.std.proofs.lemmas.Iterator.{YieldsList-from_slice, YieldsList-from_zip}
use Rattle.std.proofs.lemmas.Iterator.Consumers.{YieldsList-end, YieldsList-from_enumerate}
use Rattle.parts.specs.Seats.{seat_at}
use Rattle.parts.proofs.instants.list_seats.Goals as goal

pub returns : goal.returns
returns c =
    let pairs = YieldsList-from_zip (YieldsList-from_slice c.args.terms.now.items cc) (YieldsList-from_slice c.args.codes.now cc) in
    let items = YieldsList-from_enumerate {s = c.into_iter-place-iterator.result} (YieldsList-from_zip pairs (YieldsList-from_slice c.args.dates.now cc)) cc in
    let all = YieldsList-end items c.loop-place.yielded c.loop-place.place-iterator c.loop-place.yielded_by _ c.next.new.self c.in-None.is c.next.ensures.steps in
    c.loop-place.invariant ∙ ap (map seat_at) all.0
