use Rattle.std.proofs.Common.{◌≡◌, length, sym, ap, ◌∙◌, arith}
use Rattle.std.specs.Cmp.Lexicographic.{same_text}
use Rattle.congruence.specs.Closure.{close_round}
use Rattle.congruence.proofs.Closing.{rounds_more, rounds_settled}
use Rattle.table.proofs.closing.close.Goals as goal

-- the round changed nothing, and neither would another
pub returns-then-eq : goal.returns-then-eq
returns-then-eq c =
    let ts = c.args.terms.now in
    let start = c.args.classes.now.least in
    let k = c.loop.counter in
    let same : c.close_round.new.classes.least ≡ c.loop.classes.least = same_text c.close_round.new.classes.least c.loop.classes.least (sym c.if-eq.true ∙ c.eq.ensures) in
    let still = ap (close_round ts) (sym c.loop.invariant) ∙ sym c.close_round.ensures ∙ same ∙ c.loop.invariant in
    same ∙ c.loop.invariant ∙ sym (rounds_settled ts k (length ts) start (omega (arith, c.loop-test.true)) still)

pub loop-preserved : goal.loop-preserved
loop-preserved c =
    let ts = c.args.terms.now in
    c.close_round.ensures ∙ ap (close_round ts) c.loop.invariant ∙ sym (rounds_more ts c.loop.counter c.args.classes.now.least)
