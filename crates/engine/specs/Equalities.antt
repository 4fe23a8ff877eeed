-- Which terms the same rows and the blocks make equal, and the classes of such terms.
use Rattle.std.specs.Prelude.{◌≡◌, ◌↔◌, ℕ, ◌<◌, ◌≤◌, List, length, slice_index, All}
use Rattle.sheet.specs.declared.row.Row.{Row}
use Rattle.sheet.specs.declared.row.Row.TheVariants.{Span, Same, Unlike}
use Rattle.sheet.specs.declared.term.Term.{Term}
use Rattle.engine.specs.Arrangements.{OneInEachBlock, ranks}
use Rattle.engine.specs.Meaning.{Numbers, Tables, Interprets, Holds}
use Rattle.engine.specs.Rules.{seat_numbers}
use Rattle.engine.specs.States.{State, active_rows}

-- of the rows only the same rows are asked to hold
abbrev pub SameHolds : Numbers → Row → Type 0
SameHolds v (Span i j c) = Unit {0}
SameHolds v (Same i j) = Holds v (Same i j)
SameHolds v (Unlike i j) = Unit {0}

-- a choice of tables and numbers interprets the terms, makes each same row true and gives the seats of each block one number
pub record Equates (ts : List Term) (rows : List Row) (codes : List ℕ) (m : Tables) (v : Numbers) : Type 0 where
  pub interprets : Interprets m ts v
  pub hold : All (SameHolds v) rows
  pub blocks : OneInEachBlock (ranks codes) (seat_numbers ts v)

-- the terms a and b have one number in every such choice
abbrev pub AlwaysEqual : List Term → List Row → List ℕ → ℕ → ℕ → Type 0
AlwaysEqual ts rows codes a b = (m : Tables) (v : Numbers) → Equates ts rows codes m v → v a ≡ v b

-- c is the least of the terms that are always equal to t
pub record LeastEqual (ts : List Term) (rows : List Row) (codes : List ℕ) (t c : ℕ) : Type 0 where
  pub equal : AlwaysEqual ts rows codes c t
  pub least : (b : ℕ) → b < length ts → AlwaysEqual ts rows codes b t → c ≤ b

-- the class of each term of the state is named by the least term that is always equal to it; so two terms have one class exactly where
-- they are always equal
pub record EqualityClasses (s : State) (classes : List ℕ) : Type 0 where
  pub each : length classes ≡ length s.terms
  pub named : (t : ℕ) → t < length s.terms → LeastEqual s.terms (active_rows s.rows) s.codes t (slice_index classes t)
  pub exact : (a b : ℕ) → a < length s.terms → b < length s.terms → (slice_index classes a ≡ slice_index classes b) ↔ AlwaysEqual s.terms (active_rows s.rows) s.codes a b
