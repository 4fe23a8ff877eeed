-- The rules of the two engines: which arrangements each allows, by the terms and the active rows alone.
use Rattle.std.specs.Prelude.{ℕ, List, ℤ, slice_index, All}
use Rattle.sheet.specs.declared.row.Row.{Row}
use Rattle.sheet.specs.declared.row.Row.TheVariants.{Span, Same, Unlike}
use Rattle.sheet.specs.declared.term.Term.{Term}
use Rattle.engine.specs.Terms.{seats_of}
use Rattle.engine.specs.Meaning.{Numbers, Tables, Interprets, Holds}
use Rattle.engine.specs.Arrangements.{ranks, InOrder, EqualInBlocks}

-- the number of each seat, where v has the number of each term
abbrev pub seat_numbers : List Term → Numbers → ℕ → ℤ
seat_numbers ts v p = v (slice_index (seats_of ts) p)

-- of the rows only those of some kinds are asked to hold
abbrev pub SpanHolds : Numbers → Row → Type 0
SpanHolds v (Span i j c) = Holds v (Span i j c)
SpanHolds v (Same i j) = Unit {0}
SpanHolds v (Unlike i j) = Unit {0}

abbrev pub EqualityHolds : Numbers → Row → Type 0
EqualityHolds v (Span i j c) = Unit {0}
EqualityHolds v (Same i j) = Holds v (Same i j)
EqualityHolds v (Unlike i j) = Holds v (Unlike i j)

-- the table rule: some numbers and tables make the same and unlike rows true, and seats are equal exactly when they share a block
pub record TableAllowed (ts : List Term) (rows : List Row) (codes : List ℕ) : Type 0 where
  pub tables : Tables
  pub numbers : Numbers
  pub interprets : Interprets tables ts numbers
  pub hold : All (EqualityHolds numbers) rows
  pub blocks : EqualInBlocks (ranks codes) (seat_numbers ts numbers)

-- numbers that fit the span rows and the codes placed, whether all seats have one or not. That zero's is 0 is not asked: spans and order
-- see only differences, so that it can be subtracted from all
pub record SpanFits (ts : List Term) (rows : List Row) (codes : List ℕ) (v : Numbers) : Type 0 where
  pub hold : All (SpanHolds v) rows
  pub ordered : InOrder (ranks codes) (seat_numbers ts v)

-- the span rule: some numbers, in the order of the arrangement, make the span rows true
abbrev pub SpanAllowed : List Term → List Row → List ℕ → Type 0
SpanAllowed ts rows codes = (v : Numbers) × SpanFits ts rows codes v
