-- What the writer does with a field and the caller's buffer.
use Rattle.std.specs.Prelude.{ℕ, if◌then◌else◌, List, ◌++◌, length, drop, Ok, Err, Result, nat_lt}
use Rattle.sheet.specs.declared.fault.Cause.{Cause}
use Rattle.sheet.specs.declared.fault.Cause.TheVariants.{MalformedTerm, BadLabel, BufferTooShort}
use Rattle.sheet.specs.declared.fault.Fault.{Fault}
use Rattle.sheet.specs.Causes.{in_layer, reader_letter}
use Rattle.sheet.specs.Fields.{FieldValue, term_field, row_field, bytes_of, is_label}
use Rattle.sheet.specs.Terms.{well_lettered}

-- what a call answers, the length written or why it refuses, and what the whole buffer holds then
pub record Written (E : Type 0) : Type 0 where
  pub answer : Result ℕ E
  pub buffer : List ℕ

abbrev pub leaving : {E : Type 0} → Result ℕ E → List ℕ → Written E
leaving r out = record { answer = r; buffer = out }

-- a refusal leaves the buffer as it was
abbrev pub refused : Cause → List ℕ → Written Cause
refused c out = leaving (Err c) out

-- the bytes at the front of the buffer, and what stood after them as it was
abbrev pub put : List ℕ → List ℕ → Written Cause
put bytes out =
    if nat_lt (length out) (length bytes) then refused BufferTooShort out
    else leaving (Ok (length bytes)) (bytes ++ drop (length bytes) out)

-- the table's letter is tested first, then the label, then the room
abbrev pub written : FieldValue → List ℕ → Written Cause
written (term_field t l) out =
    if well_lettered t.form then (if is_label l then put (bytes_of (term_field t l)) out else refused BadLabel out)
    else refused MalformedTerm out
written (row_field r) out = put (bytes_of (row_field r)) out

abbrev pub encode : FieldValue → List ℕ → Written Fault
encode f out = leaving (in_layer reader_letter (written f out).answer) (written f out).buffer
