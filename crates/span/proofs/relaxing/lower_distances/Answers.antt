use Rattle.std.proofs.Common.{◌+◌, ◌*◌, ◌≤◌, true, false, get_or, sym, refl, arith, w32, SFits, rules}
use Rattle.span.proofs.Rounds.{none, first_round, next_round, stable_end, unstable_end, edge_done}
use Rattle.span.proofs.relaxing.lower_distances.Goals as goal
use Rattle.span.proofs.relaxing.lower_distances.Goals.{then-through-distances+else-round-limit, else-through-distances}

pub rounds-init : goal.rounds-init
rounds-init c = (rw c.requires.start (first_round c.args.limit c.args.edges.now), refl)

pub loop-edge-preserved : goal.loop-edge-preserved
loop-edge-preserved c =
    let small : 128 * c.rounds.round + c.loop-edge.edge-index ≤ 1152 = omega arith in
    let fits : SFits w32 (get_or c.args.edges.now c.loop-edge.edge-index none).weight = search rules in
    let done = edge_done c.loop-edge.invariant small c.loop-edge-test.true fits c.from.result c.from.ensures c.requires.within in
    elim c.if-through-distances.branch [
      | then-through-distances+else-round-limit w ↦ rw (w.distances-is, w.lowered-is) (done true w.if-through-distances.true (λ _. omega arith))
      | else-through-distances w ↦ rw (w.distances-is, w.lowered-is) (done false w.if-through-distances.false (λ on. absurd cc))
    ]

pub rounds-preserved : goal.rounds-preserved
rounds-preserved c =
    (next_round c.loop-edge.invariant c.rounds.invariant.0 c.requires.few c.loop-edge.auto.edge-index-end c.loop-edge-test.false c.if-not-lowered.false, c.rounds.invariant.1)

pub returns-then-round-limit : goal.returns-then-round-limit
returns-then-round-limit c =
    let small : 128 * c.rounds.round + c.loop-edge.edge-index ≤ 1152 = omega arith in
    let fits : SFits w32 (get_or c.args.edges.now c.loop-edge.edge-index none).weight = search rules in
    let unstable = unstable_end c.loop-edge.invariant small c.loop-edge-test.true fits c.from.result c.from.ensures c.rounds.invariant.0 c.if-round-limit.true c.if-through-distances.true in
    record { made = unstable.0; told = rw unstable.1 c.rounds.invariant.1 }

pub returns-then-not-lowered : goal.returns-then-not-lowered
returns-then-not-lowered c =
    let end = stable_end c.loop-edge.invariant c.rounds.invariant.0 c.loop-edge-test.false c.if-not-lowered.true in
    record { made = sym end.0; told = rw end.1 refl }
