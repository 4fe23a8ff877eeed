-- The two parts of a sheet, each by itself. Either can be met where the whole sheet cannot.
use Rattle.std.specs.Prelude.{List, All}
use Rattle.sheet.specs.declared.row.Row.{Row}
use Rattle.sheet.specs.declared.term.Term.{Term}
use Rattle.engine.specs.Meaning.{Numbers, Tables, Interprets}
use Rattle.engine.specs.Rules.{EqualityHolds, SpanHolds}

-- the instants: some numbers make every span true. That zero's is 0 is not asked: spans see only differences, so that it can be subtracted from all
abbrev pub InstantsMet : List Row → Type 0
InstantsMet rows = (v : Numbers) × All (SpanHolds v) rows

-- the levels: some numbers and tables make every same and unlike row true
pub record LevelsMet (ts : List Term) (rows : List Row) : Type 0 where
  pub tables : Tables
  pub numbers : Numbers
  pub interprets : Interprets tables ts numbers
  pub hold : All (EqualityHolds numbers) rows
