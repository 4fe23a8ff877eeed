-- The difference constraints of an engine: those of the active span rows, and those of the order of the placed blocks.
-- A vertex is a term, by its index. An edge says that the number of `to` is at most that of `from` plus the weight.
use Rattle.std.specs.Prelude.{ℕ, if◌then◌else◌, List, [], ◌∷◌, ◌++◌, ℤ, pos, neg_ℤ, nat_lt}
use Rattle.std.specs.List.{flat_map}
use Rattle.graph.specs.declared.Edge.{Edge}
use Rattle.sheet.specs.declared.row.Row.{Row}
use Rattle.sheet.specs.declared.row.Row.TheVariants.{Span, Same, Unlike}
use Rattle.sheet.specs.declared.term.Term.{Term}
use Rattle.engine.specs.declared.placed.Placed.{Placed}
use Rattle.engine.specs.EachPair.{each_pair}
use Rattle.engine.specs.Placing.{placed_seats_of}

abbrev pub edge : ℕ → ℕ → ℤ → Edge
edge to from weight = record { to = to; from = from; weight = weight }

-- each span row is an edge; the other rows do not count
abbrev pub row_edges : List Row → List Edge
row_edges [] = []
row_edges (Span i j c ∷ rows) = edge i j c ∷ row_edges rows
row_edges (Same i j ∷ rows) = row_edges rows
row_edges (Unlike i j ∷ rows) = row_edges rows

-- two placed seats: the number of the lower rank is smaller by 1 at least, and in one block both are equal
abbrev pub pair_edges : Placed × Placed → List Edge
pair_edges (p, q) =
    if nat_lt p.rank q.rank then edge p.term q.term (neg_ℤ (pos 1)) ∷ []
    else (if nat_lt q.rank p.rank then edge q.term p.term (neg_ℤ (pos 1)) ∷ []
    else edge p.term q.term (pos 0) ∷ edge q.term p.term (pos 0) ∷ [])

-- each placed seat with each later one
abbrev pub order_edges : List Placed → List Edge
order_edges ps = flat_map pair_edges (each_pair ps)

abbrev pub constraints : List Term → List Row → List ℕ → List Edge
constraints ts rows codes = row_edges rows ++ order_edges (placed_seats_of ts codes)
