-- What the code computes of what the engine holds.
use Rattle.std.specs.Prelude.{ℕ, List, ◌++◌}
use Rattle.congruence.specs.Closure.{closure}
use Rattle.engine.specs.Limits.{max_terms}
use Rattle.engine.specs.Placing.{placed_seats}
use Rattle.engine.specs.States.{State, active_rows}
use Rattle.table.specs.Pairs.{block_pairs, same_pairs}

abbrev pub equal_pairs : State → List (ℕ × ℕ)
equal_pairs s = same_pairs (active_rows s.rows) ++ block_pairs (placed_seats s)

-- the classes of the terms. The list has a place for each term that there can be
abbrev pub classes_of : State → List ℕ
classes_of s = closure max_terms s.terms (equal_pairs s)
