-- The edges of two placed seats hold of numbers that are in the order of their ranks, and of no others.
use Rattle.std.specs.Prelude.{◌≡◌, ◌<◌, pos, ◌<ℤ◌, All}
use Rattle.std.proofs.Common.{arith}
use Rattle.std.proofs.lemmas.Int.{ints}
use Rattle.graph.specs.Graph.{EdgeHolds}
use Rattle.engine.specs.declared.placed.Placed.{Placed}
use Rattle.engine.specs.Meaning.{Numbers}
use Rattle.span.specs.Constraints.{edge, pair_edges}

pub record PairInOrder (v : Numbers) (p q : Placed) : Type 0 where
  pub same : p.rank ≡ q.rank → v p.term ≡ v q.term
  pub less : p.rank < q.rank → v p.term <ℤ v q.term
  pub more : q.rank < p.rank → v q.term <ℤ v p.term

pub pair_order : (v : Numbers) (p q : Placed) → All (EdgeHolds v) (pair_edges (p, q)) → PairInOrder v p q
pair_order v p q a =
    let first = a 0 (edge p.term q.term (pos 0)) in
    let second = a 1 (edge p.term q.term (pos 0)) in
    record { same = λ e. grind (arith, ints); less = λ l. grind (arith, ints); more = λ l. grind (arith, ints) }

pub order_pair : (v : Numbers) (p q : Placed) → PairInOrder v p q → All (EdgeHolds v) (pair_edges (p, q))
order_pair v p q o = λ k d l. grind (arith, ints)
