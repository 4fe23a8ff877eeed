-- What the same rows and the blocks keep apart.
use Rattle.std.specs.Prelude.{◌≡◌, ℕ, ◌<◌, length, slice_index, All}
use Rattle.sheet.specs.declared.row.Row.{Row}
use Rattle.sheet.specs.declared.row.Row.TheVariants.{Span, Same, Unlike}
use Rattle.engine.specs.Arrangements.{ranks}
use Rattle.engine.specs.Equalities.{AlwaysEqual}
use Rattle.engine.specs.States.{State, active_rows}
use Rattle.engine.specs.Terms.{seats_of}

-- the terms of an unlike row are not always equal; of the other rows nothing is asked
abbrev pub RowKeptApart : (ℕ → ℕ → Type 0) → Row → Type 0
RowKeptApart equal (Span i j c) = Unit {0}
RowKeptApart equal (Same i j) = Unit {0}
RowKeptApart equal (Unlike i j) = equal i j → ⊥

-- and so for seats of different blocks
pub record KeptApart (s : State) : Type 0 where
  pub rows : All (RowKeptApart (AlwaysEqual s.terms (active_rows s.rows) s.codes)) (active_rows s.rows)
  pub blocks : (p q : ℕ) → p < length (ranks s.codes) → q < length (ranks s.codes) → (slice_index (ranks s.codes) p ≡ slice_index (ranks s.codes) q → ⊥) → AlwaysEqual s.terms (active_rows s.rows) s.codes (slice_index (seats_of s.terms) p) (slice_index (seats_of s.terms) q) → ⊥
