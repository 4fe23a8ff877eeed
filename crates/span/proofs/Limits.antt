-- The edges of the constraints join seats, and none weighs less than the least bound.
use Rattle.std.specs.Prelude.{◌≡◌, ℕ, ◌<◌, Bool, true, false, cond, List, [], ◌∷◌, length, pos, negsuc, neg_ℤ, ◌≤ℤ◌, nat_lt, All, Contains}
use Rattle.std.proofs.Common.{arith}
use Rattle.std.proofs.lemmas.List.Elements.{All-nil, All-cons, All-head, All-tail, All-append, All-weaker, All-contains, Contains-get_or}
use Rattle.std.proofs.lemmas.Int.{ints}
use Rattle.graph.specs.declared.Edge.{Edge}
use Rattle.graph.specs.Graph.{Within}
use Rattle.graph.specs.Claims.{Among, WeightsAtLeast}
use Rattle.sheet.specs.declared.row.Row.{Row}
use Rattle.sheet.specs.declared.row.Row.TheVariants.{Span, Same, Unlike}
use Rattle.sheet.specs.declared.term.Term.{Term}
use Rattle.engine.specs.declared.placed.Placed.{Placed}
use Rattle.engine.specs.EachPair.{each_pair}
use Rattle.engine.specs.Fitting.{row_fits}
use Rattle.engine.specs.Placing.{placed_seats}
use Rattle.engine.specs.States.{State, active_rows}
use Rattle.engine.specs.Terms.{is_dated_at, seats_of}
use Rattle.engine.proofs.Bounds.{Bounds}
use Rattle.engine.proofs.Fitting.{all_active, each_row_fits}
use Rattle.engine.proofs.Lists.{all_flat_map}
use Rattle.engine.proofs.Placing.{all_placed_pairs, placed_seat}
use Rattle.engine.proofs.Ranks.{length_ranks}
use Rattle.engine.proofs.Seats.{seats_have, seats_within}
use Rattle.span.specs.Constraints.{edge, order_edges, pair_edges, row_edges}
use Rattle.span.specs.Decisions.{constraints_of}

-- both ends are seats, and the weight is a bound
abbrev pub EdgeFits : List ℕ → Edge → Type 0
EdgeFits ss e = Contains ss e.to × Contains ss e.from × (neg_ℤ (pos 1000000) ≤ℤ e.weight)

row_edges_fit : (ts : List Term) (r : Row) (rows : List Row) → row_fits ts r ≡ true → All (EdgeFits (seats_of ts)) (row_edges rows) → All (EdgeFits (seats_of ts)) (row_edges (r ∷ rows))
row_edges_fit ts (Span i j c) rows f a =
    let i_low : i < length ts = grind arith in
    let j_low : j < length ts = grind arith in
    let i_dated : is_dated_at ts i ≡ true = grind arith in
    let j_dated : is_dated_at ts j ≡ true = grind arith in
    let heavy : neg_ℤ (pos 1000000) ≤ℤ c = grind (arith, ints) in
    All-cons (EdgeFits (seats_of ts)) _ _ (seats_have ts i i_low i_dated, seats_have ts j j_low j_dated, heavy) a
row_edges_fit ts (Same i j) rows f a = a
row_edges_fit ts (Unlike i j) rows f a = a

rows_fit : (ts : List Term) (rows : List Row) → All (λ r. row_fits ts r ≡ true) rows → All (EdgeFits (seats_of ts)) (row_edges rows)
rows_fit ts [] f = All-nil _
rows_fit ts (r ∷ rows) f = row_edges_fit ts r rows (All-head (λ r. row_fits ts r ≡ true) r rows f) (rows_fit ts rows (All-tail (λ r. row_fits ts r ≡ true) r rows f))

pair_fits : (ss : List ℕ) (p q : Placed) → Contains ss p.term → Contains ss q.term → All (EdgeFits ss) (pair_edges (p, q))
pair_fits ss p q h k = go (nat_lt p.rank q.rank) (nat_lt q.rank p.rank)
  where
    go : (a b : Bool) → All (EdgeFits ss) (cond a (edge p.term q.term (negsuc 0) ∷ []) (cond b (edge q.term p.term (negsuc 0) ∷ []) (edge p.term q.term (pos 0) ∷ edge q.term p.term (pos 0) ∷ [])))
    go true b = All-cons (EdgeFits ss) (edge p.term q.term (negsuc 0)) [] (h, k, omega (arith, ints)) (All-nil _)
    go false true = All-cons (EdgeFits ss) (edge q.term p.term (negsuc 0)) [] (k, h, omega (arith, ints)) (All-nil _)
    go false false = All-cons (EdgeFits ss) (edge p.term q.term (pos 0)) (edge q.term p.term (pos 0) ∷ []) (h, k, omega (arith, ints)) (All-cons (EdgeFits ss) (edge q.term p.term (pos 0)) [] (k, h, omega (arith, ints)) (All-nil _))

-- of what an engine holds
pub edges_fit : {s : State} (held : Bounds s) → All (EdgeFits (seats_of s.terms)) (constraints_of s)
edges_fit {s} held =
    let ss = seats_of s.terms in
    let placed = held.placed in
    let few = length_ranks s.codes in
    let pairs = each_pair (placed_seats s) in
    All-append (EdgeFits ss) (row_edges (active_rows s.rows)) (order_edges (placed_seats s)) (rows_fit s.terms (active_rows s.rows) (all_active (λ r. row_fits s.terms r ≡ true) s.rows (each_row_fits s.terms s.rows held.rows_fit)))
    (all_flat_map (EdgeFits ss) pair_edges pairs
    (all_placed_pairs s.terms s.codes placed (λ x. All (EdgeFits ss) (pair_edges x))
    (λ p q b l. pair_fits ss (placed_seat s.terms s.codes p) (placed_seat s.terms s.codes q) (Contains-get_or ss p 0 (omega arith)) (Contains-get_or ss q 0 (omega arith)))))

pub within : {s : State} (held : Bounds s) → Within 32 (constraints_of s)
within {s} held =
    let ts = s.terms in
    let few = held.terms in
    All-weaker (EdgeFits (seats_of ts)) (λ e. (e.to < 32) × (e.from < 32))
    (λ e f. let x = All-contains (λ s. s < length ts) (seats_of ts) e.to (seats_within ts) f.0 in let y = All-contains (λ s. s < length ts) (seats_of ts) e.from (seats_within ts) f.1 in (omega arith, omega arith))
    (constraints_of s) (edges_fit held)

pub edges_among : (ss : List ℕ) (es : List Edge) → All (EdgeFits ss) es → Among ss es
edges_among ss es a = All-weaker (EdgeFits ss) (λ e. Contains ss e.to × Contains ss e.from) (λ e f. (f.0, f.1)) es a

pub edges_heavier : (ss : List ℕ) (es : List Edge) → All (EdgeFits ss) es → WeightsAtLeast 1000000 es
edges_heavier ss es a = All-weaker (EdgeFits ss) (λ e. neg_ℤ (pos 1000000) ≤ℤ e.weight) (λ e f. f.2) es a
