-- The lines of the fields of a sheet.
use Rattle.std.specs.Prelude.{◌≡◌, ℕ, ◌+◌, ◌-◌, Bool, true, false, if◌then◌else◌, List, [], ◌∷◌, ◌++◌, length, Ok, Err}
use Rattle.sheet.specs.declared.fault.Fault.{Fault}
use Rattle.sheet.specs.Fields.{FieldValue, term_field, row_field}
use Rattle.sheet.specs.Parsing.{parse, remaining}
use Rattle.fieldlist.specs.Lines.{field_line}

abbrev pub is_term : FieldValue → Bool
is_term (term_field t l) = true
is_term (row_field r) = false

-- a field's index, after `terms` term fields and `rows` row fields: the first term is term 1, the first row is row 0
abbrev pub index_after : ℕ → ℕ → FieldValue → ℕ
index_after terms rows f = if is_term f then terms + 1 else rows

-- the fields at the front of the sheet s, so many terms and so many rows, have the lines `text`, and t is left of s
pub data Lines (s : List ℕ) : ℕ → ℕ → List ℕ → List ℕ → Type 0 where
  none : Lines s 0 0 [] s
  more : {terms rows : ℕ} {text t : List ℕ} {f : FieldValue} → Lines s terms rows text t → parse t ≡ Ok f → Lines s (terms + (if is_term f then 1 else 0)) (rows + (if is_term f then 0 else 1)) (text ++ (field_line (length s - length t) (index_after terms rows f) f ++ (10 ∷ []))) (remaining t)

-- these are the lines of all fields of s, up to its end or to the first field that is refused
pub record Listing (s text : List ℕ) : Type 0 where
  pub terms : ℕ
  pub rows : ℕ
  pub left : List ℕ
  pub fault : Fault
  pub lines : Lines s terms rows text left
  pub stops : parse left ≡ Err fault
