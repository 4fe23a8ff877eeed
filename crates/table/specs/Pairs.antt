-- The pairs of terms that the same rows and the blocks equate.
use Rattle.std.specs.Prelude.{ℕ, Bool, List, [], ◌∷◌, map, ◌==◌}
use Rattle.std.specs.List.{filter}
use Rattle.sheet.specs.declared.row.Row.{Row}
use Rattle.sheet.specs.declared.row.Row.TheVariants.{Span, Same, Unlike}
use Rattle.engine.specs.declared.placed.Placed.{Placed}
use Rattle.engine.specs.EachPair.{each_pair}

abbrev pub same_pairs : List Row → List (ℕ × ℕ)
same_pairs [] = []
same_pairs (Span i j c ∷ rows) = same_pairs rows
same_pairs (Same i j ∷ rows) = (i, j) ∷ same_pairs rows
same_pairs (Unlike i j ∷ rows) = same_pairs rows

-- two placed seats have one rank
abbrev pub in_one_block : Placed × Placed → Bool
in_one_block (p, q) = q.rank == p.rank

abbrev pub terms_of : Placed × Placed → ℕ × ℕ
terms_of (p, q) = (p.term, q.term)

-- the terms of those pairs that are in one block
abbrev pub equated_terms : List (Placed × Placed) → List (ℕ × ℕ)
equated_terms ps = map terms_of (filter in_one_block ps)

-- each placed seat with each later one of its block
abbrev pub block_pairs : List Placed → List (ℕ × ℕ)
block_pairs ps = equated_terms (each_pair ps)
