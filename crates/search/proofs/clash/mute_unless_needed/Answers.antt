use Rattle.std.proofs.Common.{◌<◌, sym, subst}
use Rattle.search.specs.Engines.{Marked}
use Rattle.search.proofs.Alike.{alike_here, alike_on}
use Rattle.search.proofs.Marking.{marked_again, marked_length, marked_on}
use Rattle.search.proofs.clash.mute_unless_needed.Goals as goal

pub lift_all-requires : goal.lift_all-requires
lift_all-requires g c = (_, alike_here c.find_first.ensures.alike)

pub mark_row-requires-then-needed-clause-within : goal.mark_row-requires-then-needed-clause-within
mark_row-requires-then-needed-clause-within g c =
    let m = marked_on c.mark_row.ensures c.requires.alike (alike_on c.find_first.ensures.alike c.lift_all.ensures) in
    subst (λ n. c.args.i < n) (sym (marked_length m)) c.requires.within

pub returns-then-needed-clause-marked : goal.returns-then-needed-clause-marked
returns-then-needed-clause-marked g c =
    let m = marked_on c.mark_row.ensures c.requires.alike (alike_on c.find_first.ensures.alike c.lift_all.ensures) in
    subst (Marked g.F.Engine g.S.Engine c.args.first.now c.args.second.now c.mark_row-then-needed.new.first c.mark_row-then-needed.new.second c.args.i)
    (sym c.if-needed.true)
    (marked_again m c.mark_row-then-needed.ensures)
