use Rattle.std.proofs.Common.{◌∙◌}
use Rattle.std.proofs.lemmas.List.Elements.{All-get_or}
use Rattle.span.specs.Dating.{InLimits}
use Rattle.span.proofs.Dates.{date_next}
use Rattle.span.proofs.span_dating.dates_from_distances.Goals as goal

pub date_of-requires : goal.date_of-requires
date_of-requires c =
    record { zero = c.requires.zero; low = All-get_or (InLimits c.args.distances.now) c.args.seats.now c.loop-term.term-index 0 c.loop-term-test.true c.requires.each }

pub loop-term-preserved : goal.loop-term-preserved
loop-term-preserved c = c.push.ensures.items ∙ date_next c.args.distances.now c.args.seats.now c.loop-term.dates.items c.loop-term.term-index c.requires.zero c.requires.each c.loop-term-test.true c.loop-term.invariant c.date_of.result c.date_of.ensures
