-- What is to be of different classes.
use Rattle.std.specs.Prelude.{◌≡◌, ℕ, ◌<◌, Bool, true, not, ◌||◌, List, All}
use Rattle.std.specs.List.{list_all}
use Rattle.sheet.specs.declared.row.Row.{Row}
use Rattle.sheet.specs.declared.row.Row.TheVariants.{Span, Same, Unlike}
use Rattle.congruence.specs.Closure.{in_one_class}
use Rattle.engine.specs.declared.noted.Noted.{Noted}
use Rattle.engine.specs.declared.placed.Placed.{Placed}
use Rattle.engine.specs.EachPair.{each_pair}
use Rattle.engine.specs.Rows.{terms_below}
use Rattle.table.specs.Pairs.{in_one_block}

-- the terms of an unlike row; nothing else is asked of a row
abbrev pub row_apart : List ℕ → Row → Bool
row_apart cl (Span i j c) = true
row_apart cl (Same i j) = true
row_apart cl (Unlike i j) = not (in_one_class cl i j)

abbrev pub rows_apart : List ℕ → List Row → Bool
rows_apart cl rows = list_all (row_apart cl) rows

-- two placed seats, unless they are in one block
abbrev pub two_apart : List ℕ → Placed × Placed → Bool
two_apart cl (p, q) = in_one_block (p, q) || not (in_one_class cl p.term q.term)

-- each placed seat and each later one
abbrev pub blocks_apart : List ℕ → List Placed → Bool
blocks_apart cl ps = list_all (two_apart cl) (each_pair ps)

-- the terms of the rows, and of the seats, are among the first n
abbrev pub RowsBelow : ℕ → List Noted → Type 0
RowsBelow n rows = All (λ m. terms_below n m.row ≡ true) rows

abbrev pub SeatsBelow : ℕ → List Placed → Type 0
SeatsBelow n ps = All (λ p. p.term < n) ps
