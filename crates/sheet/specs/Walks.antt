-- Walks over the fields of a sheet, from the first on.
use Rattle.std.specs.Prelude.{◌≡◌, ℕ, ◌+◌, ◌-◌, List, [], length, take, Some, None, Ok, Err, Option, Result}
use Rattle.sheet.specs.declared.fields.Fields.{Fields}
use Rattle.sheet.specs.declared.fields.PlacedField.{PlacedField}
use Rattle.sheet.specs.declared.refusal.Refusal.{Refusal}
use Rattle.sheet.specs.Fields.{FieldValue, value_of}
use Rattle.sheet.specs.Parsing.{parse, remaining, stated_length}
use Rattle.sheet.specs.RoundTrips.{WrittenAgain}

-- the field f was taken from the front of t, and u is left
pub record Took (t : List ℕ) (f : FieldValue) (u : List ℕ) : Type 0 where
  pub read : parse t ≡ Ok f
  pub rest : u ≡ remaining t
  pub used : length u + (3 + stated_length t) ≡ length t
  pub again : WrittenAgain t f (3 + stated_length t)

-- where t is left of the sheet s, this comes next, and u is left then: a field with its place and its bytes; a refusal with its place, and nothing
-- is left; or nothing, at the end of s
abbrev pub Next : List ℕ → List ℕ → Option (Result PlacedField Refusal) → List ℕ → Type 0
Next s t (Some (Ok p)) u = Took t (value_of p.field) u × (p.place ≡ length s - length t) × (p.bytes.now ≡ take (length t - length u) t)
Next s t (Some (Err e)) u = (length t ≡ 0 → ⊥) × (parse t ≡ Err e.fault) × (e.place ≡ length s - length t) × (u ≡ [])
Next s t None u = (t ≡ []) × (u ≡ [])

-- a call of the iterator
abbrev pub Step : Fields → Option (Result PlacedField Refusal) → Fields → Type 0
Step a r b = (b.sheet.now ≡ a.sheet.now) × Next a.sheet.now a.rest.now r b.rest.now
