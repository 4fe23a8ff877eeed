-- Numbers that make rows true and follow codes are what the rules ask for; and what the table rule allows makes the same rows true and equates
-- the seats of each block.
use Rattle.std.proofs.Common.{ℕ, List}
use Rattle.std.proofs.lemmas.List.Elements.{All-weaker}
use Rattle.sheet.specs.declared.row.Row.{Row}
use Rattle.sheet.specs.declared.row.Row.TheVariants.{Span, Same, Unlike}
use Rattle.sheet.specs.declared.term.Term.{Term}
use Rattle.engine.specs.Arrangements.{InOrder, ranks}
use Rattle.engine.specs.Equalities.{Equates, SameHolds}
use Rattle.engine.specs.Meaning.{Numbers}
use Rattle.engine.specs.Parts.{InstantsMet, LevelsMet}
use Rattle.engine.specs.Rules.{EqualityHolds, SpanAllowed, TableAllowed, seat_numbers}
use Rattle.engine.proofs.Following.{order_blocks}

same_holds : (v : Numbers) (r : Row) → EqualityHolds v r → SameHolds v r
same_holds v (Span i j c) h = tt
same_holds v (Same i j) h = h
same_holds v (Unlike i j) h = tt

module _ (ts : List Term) (rows : List Row) (codes : List ℕ) where
  pub levels_allowed : (m : LevelsMet ts rows) → InOrder (ranks codes) (seat_numbers ts m.numbers) → TableAllowed ts rows codes
  levels_allowed m o =
      record {
        tables = m.tables;
        numbers = m.numbers;
        interprets = m.interprets;
        hold = m.hold;
        blocks = order_blocks (ranks codes) (seat_numbers ts m.numbers) o;
      }

  pub instants_allowed : (m : InstantsMet rows) → InOrder (ranks codes) (seat_numbers ts m.0) → SpanAllowed ts rows codes
  instants_allowed (v, hold) o = (v, record { hold = hold; ordered = o })

  pub allowed_equates : (a : TableAllowed ts rows codes) → Equates ts rows codes a.tables a.numbers
  allowed_equates a =
      record {
        interprets = a.interprets;
        hold = All-weaker (EqualityHolds a.numbers) (SameHolds a.numbers) (same_holds a.numbers) rows a.hold;
        blocks = a.blocks.same;
      }
