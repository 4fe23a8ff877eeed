-- The fields behind the terms, taken at a bench.
use Rattle.std.specs.Prelude.{◌≡◌, ◌<◌, ℕ, List, length, Ok}
use Rattle.engine.specs.declared.engine.Engine.{Ghosts}
use Rattle.bench.specs.declared.bench.Bench.{Bench}
use Rattle.bench.specs.Benches.{rows_at, terms_at}
use Rattle.sheet.specs.Fields.{FieldValue, row_field, term_field}
use Rattle.sheet.specs.Parsing.{parse, remaining}
use Rattle.load.specs.Loading.{Contents, field_answer, with_field}

module _ {F S : Type 0} {f : Ghosts F} {s : Ghosts S} where
  abbrev pub contents_at : Bench F S f s → Contents
  contents_at b = record { terms = terms_at b; rows = rows_at b }

-- a term that comes now stands behind a row
abbrev pub RowStandsFor : Contents → FieldValue → Type 0
RowStandsFor c (term_field t label) = 0 < length c.rows
RowStandsFor c (row_field r) = Unit {0}

-- the field at the front is taken, and d stands then, a row in it
pub record FieldTaken (bytes : List ℕ) (c : Contents) (rest : List ℕ) (d : Contents) : Type 0 where
  pub field : FieldValue
  pub read : parse bytes ≡ Ok field
  pub taken : field_answer c field ≡ Ok tt
  pub left : rest ≡ remaining bytes
  pub shorter : length rest < length bytes
  pub next : d ≡ with_field c field
  pub some_row : 0 < length d.rows
