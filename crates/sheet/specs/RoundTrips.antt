-- Reading and writing undo each other.
use Rattle.std.specs.Prelude.{◌≡◌, ℕ, ◌+◌, ◌≤◌, true, List, ◌++◌, length, take, drop, Ok, Err, Result, FitsSigned}
use Rattle.std.specs.Int.{w32}
use Rattle.sheet.specs.declared.fault.Fault.{Fault}
use Rattle.sheet.specs.declared.row.Row.TheVariants.{Span, Same, Unlike}
use Rattle.sheet.specs.Fields.{FieldValue, term_field, row_field, bytes_of, is_label}
use Rattle.sheet.specs.Parsing.{parse, remaining, stated_length}
use Rattle.sheet.specs.Encoding.{encode}
use Rattle.sheet.specs.Terms.{well_lettered}

-- a field that a sheet can hold: its table letter is from A to Z, its label is one, its bound has 32 bits.
-- That the terms it names fit a byte is not asked here: the code's types say it
abbrev pub WellFormed : FieldValue → Type 0
WellFormed (term_field t l) = (well_lettered t.form ≡ true) × (is_label l ≡ true)
WellFormed (row_field (Span i j c)) = FitsSigned w32 c
WellFormed (row_field (Same i j)) = Unit {0}
WellFormed (row_field (Unlike i j)) = Unit {0}

-- what a row's type says of its bound, for the lemma on reading back
abbrev pub RowFits : FieldValue → Type 0
RowFits (term_field t l) = Unit {0}
RowFits (row_field r) = WellFormed (row_field r)

-- the field f was read from the front of s: written again, it gives back its very bytes
abbrev pub WrittenAgain : List ℕ → FieldValue → ℕ → Type 0
WrittenAgain s f n = (out : List ℕ) → n ≤ length out → encode f out ≡ record { answer = Ok n; buffer = take n s ++ drop n out }

-- what was read from s is a well-formed field, which gives back its very bytes
abbrev pub ReadRight : List ℕ → Result FieldValue Fault → Type 0
ReadRight s (Ok f) = WellFormed f × WrittenAgain s f (3 + stated_length s)
ReadRight s (Err e) = Unit {0}

-- no sheet that begins with a well-formed field is refused, or read as another
abbrev pub ReadsAll : List ℕ → Result FieldValue Fault → Type 0
ReadsAll s r = (f : FieldValue) (rest : List ℕ) → WellFormed f → s ≡ bytes_of f ++ rest → r ≡ Ok f

-- the field f was written over `before`, which is `after` now: it is read back, and the bytes after it are the rest
abbrev pub ReadBack : FieldValue → List ℕ → List ℕ → Result ℕ Fault → Type 0
ReadBack f before after (Ok n) = (parse after ≡ Ok f) × (remaining after ≡ drop n before)
ReadBack f before after (Err e) = Unit {0}
