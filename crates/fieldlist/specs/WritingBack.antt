-- How reading the fields of a sheet and writing them back ends.
use Rattle.std.specs.Prelude.{◌≡◌, ℕ, ◌<◌, List, [], ◌∷◌, length, take, drop, Ok, Err, Result}
use Rattle.sheet.specs.declared.fault.Fault.{Fault}
use Rattle.sheet.specs.declared.refusal.Refusal.{Refusal}
use Rattle.sheet.specs.Encoding.{Written}
use Rattle.sheet.specs.Fields.{FieldValue}
use Rattle.sheet.specs.Parsing.{parse, remaining}
use Rattle.fieldlist.specs.declared.write_back.Tally.{Tally}

-- the writer answered the length of these bytes, and its buffer begins with them
abbrev pub Alike : Written Fault → List ℕ → Type 0
Alike w bytes = (w.answer ≡ Ok (length bytes)) × (take (length bytes) w.buffer ≡ bytes)

-- the fields stand one after another at the front of the sheet s, the last one first in the list, and t is left of s
pub data Front (s : List ℕ) : List FieldValue → List ℕ → Type 0 where
  none : Front s [] s
  more : {fs : List FieldValue} {f : FieldValue} {t : List ℕ} → Front s fs t → parse t ≡ Ok f → Front s (f ∷ fs) (remaining t)

-- the sheet s was read, and the buffer holds b then
abbrev pub Ended : List ℕ → List ℕ → Result Tally Refusal → Type 0
-- every byte of s belongs to a field, every field was found alike, and b is s
Ended s b (Ok t) = (fs : List FieldValue) × Front s fs [] × (t.fields ≡ length fs) × (t.bytes ≡ length s) × (t.fields_alike ≡ t.fields) × (t.bytes_alike ≡ t.bytes) × (b ≡ s)
-- fields stand before the place, and b has their bytes; what starts there is refused
Ended s b (Err e) = (fs : List FieldValue) × Front s fs (drop e.place s) × (parse (drop e.place s) ≡ Err e.fault) × (e.place < length s) × (take e.place b ≡ take e.place s)
