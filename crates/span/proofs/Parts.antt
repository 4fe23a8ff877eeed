-- How many edges are listed at most.
use Rattle.std.specs.Prelude.{suc, ◌*◌, ◌≤◌, Bool, true, false, cond, List, [], ◌∷◌, length}
use Rattle.std.specs.List.{flat_map}
use Rattle.std.proofs.Common.{arith, length-append, mul-le-mul_right}
use Rattle.sheet.specs.declared.row.Row.{Row}
use Rattle.sheet.specs.declared.row.Row.TheVariants.{Span, Same, Unlike}
use Rattle.engine.specs.declared.noted.Noted.{Noted}
use Rattle.engine.specs.declared.placed.Placed.{Placed}
use Rattle.engine.specs.EachPair.{each_pair}
use Rattle.engine.specs.States.{active_rows}
use Rattle.engine.proofs.EachPair.{each_pair_counted}
use Rattle.span.specs.Constraints.{row_edges, pair_edges, order_edges}

row_few : (b : Bool) (r : Row) (rows : List Row) → length (row_edges (cond b (r ∷ rows) rows)) ≤ suc (length (row_edges rows))
row_few true (Span i j c) rows = omega arith
row_few true (Same i j) rows = omega arith
row_few true (Unlike i j) rows = omega arith
row_few false r rows = omega arith

pub few_rows : (ms : List Noted) → length (row_edges (active_rows ms)) ≤ length ms
few_rows [] = omega arith
few_rows (m ∷ ms) = omega (arith, row_few m.active m.row (active_rows ms), few_rows ms)

pair_few : (p : Placed × Placed) → length (pair_edges p) ≤ 2
pair_few p = grind arith

pairs_few : (ps : List (Placed × Placed)) → length (flat_map pair_edges ps) ≤ 2 * length ps
pairs_few [] = omega arith
pairs_few (p ∷ ps) = omega (arith, length-append (pair_edges p) (flat_map pair_edges ps), pair_few p, pairs_few ps)

pub few_pairs : (ps : List Placed) → length ps ≤ 8 → length (order_edges ps) ≤ 56
few_pairs ps l = omega (arith, pairs_few (each_pair ps), each_pair_counted ps, mul-le-mul_right (length ps) l)
