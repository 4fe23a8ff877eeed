-- What the bytes at the front of a sheet say. The tests stand in the order in which they are made.
use Rattle.std.specs.Prelude.{ℕ, ◌+◌, ◌*◌, if◌then◌else◌, List, length, take, drop, ℤ, Ok, Err, Result, ◌==◌, nat_lt, slice_index}
use Rattle.std.specs.Borrow.{Bor}
use Rattle.std.proofs.Common.{to_z}
use Rattle.std.specs.Int.{w32}
use Rattle.sheet.specs.declared.fault.Cause.{Cause}
use Rattle.sheet.specs.declared.fault.Cause.TheVariants.{CutShort, UnknownTag, WrongLength, MalformedTerm, BadLabel}
use Rattle.sheet.specs.declared.fault.Fault.{Fault}
use Rattle.sheet.specs.declared.field.Field.{Field}
use Rattle.sheet.specs.declared.row.Row.TheVariants.{Span, Same, Unlike}
use Rattle.sheet.specs.declared.term.Form.{Form}
use Rattle.sheet.specs.declared.term.Form.TheVariants.{Name, One, Two}
use Rattle.sheet.specs.declared.term.Kind.{Kind}
use Rattle.sheet.specs.declared.term.Kind.TheVariants.{Dated, Level}
use Rattle.sheet.specs.Causes.{in_layer, reader_letter}
use Rattle.sheet.specs.Fields.{FieldValue, term_field, row_field, value_of, term_tag, span_tag, same_tag, unlike_tag, kind_byte, name_byte, one_byte, two_byte, form_bytes, is_label}
use Rattle.sheet.specs.Terms.{is_table_letter}

-- goes on with a value, or hands a cause on
abbrev pub and_then : {X Y : Type 0} → Result X Cause → (X → Result Y Cause) → Result Y Cause
and_then (Ok x) f = f x
and_then (Err c) f = Err c

-- the length that the second and the third byte state
abbrev pub stated_length : List ℕ → ℕ
stated_length s = slice_index s 1 * 256 + slice_index s 2

abbrev pub kind_of : ℕ → Result Kind Cause
kind_of b =
    if b == kind_byte Dated then Ok Dated
    else (if b == kind_byte Level then Ok Level
    else Err MalformedTerm)

-- the form f, if the content has `size` bytes at least and the third is a table's letter
abbrev pub applied_at : List ℕ → ℕ → Form → Result Form Cause
applied_at b size f =
    if nat_lt (length b) size then Err MalformedTerm
    else (if is_table_letter (slice_index b 2) then Ok f
    else Err MalformedTerm)

-- the form, in the second byte of a term's content
abbrev pub form_at : List ℕ → Result Form Cause
form_at b =
    if slice_index b 1 == name_byte then Ok Name
    else (if slice_index b 1 == one_byte then applied_at b 4 (One (slice_index b 2) (slice_index b 3))
    else (if slice_index b 1 == two_byte then applied_at b 5 (Two (slice_index b 2) (slice_index b 3) (slice_index b 4))
    else Err MalformedTerm))

abbrev pub label_at : List ℕ → Result (List ℕ) Cause
label_at l = if is_label l then Ok l else Err BadLabel

-- the kind takes one byte, the form the bytes that it is written in, and the label the rest
abbrev pub term_in : List ℕ → Result FieldValue Cause
term_in b =
    and_then (kind_of (slice_index b 0)) (λ k.
    and_then (form_at b) (λ f.
    and_then (label_at (drop (1 + length (form_bytes f)) b)) (λ l.
    Ok (term_field (record { kind = k; form = f }) l))))

-- four bytes, high byte first, as a number in two's complement
abbrev pub bound_in : List ℕ → ℤ
bound_in b = to_z w32 (slice_index b 2 * 16777216 + slice_index b 3 * 65536 + slice_index b 4 * 256 + slice_index b 5)

-- the content b of a field with this tag
abbrev pub content_in : ℕ → List ℕ → Result FieldValue Cause
content_in tag b =
    if tag == term_tag then (if nat_lt (length b) 2 then Err WrongLength else term_in b)
    else (if tag == span_tag then (if length b == 6 then Ok (row_field (Span (slice_index b 0) (slice_index b 1) (bound_in b))) else Err WrongLength)
    else (if tag == same_tag then (if length b == 2 then Ok (row_field (Same (slice_index b 0) (slice_index b 1))) else Err WrongLength)
    else (if tag == unlike_tag then (if length b == 2 then Ok (row_field (Unlike (slice_index b 0) (slice_index b 1))) else Err WrongLength)
    else Err UnknownTag)))

abbrev pub field_in : List ℕ → Result FieldValue Cause
field_in s =
    if nat_lt (length s) 3 then Err CutShort
    else (if nat_lt (length s) (3 + stated_length s) then Err CutShort
    else content_in (slice_index s 0) (take (stated_length s) (drop 3 s)))

-- the field at the front of a sheet, or why there is none
abbrev pub parse : List ℕ → Result FieldValue Fault
parse s = in_layer reader_letter (field_in s)

-- the bytes after the field; the whole sheet where it is refused
abbrev pub rest_after : {X : Type 0} → Result X Fault → List ℕ → List ℕ
rest_after (Ok f) s = drop (3 + stated_length s) s
rest_after (Err e) s = s

abbrev pub remaining : List ℕ → List ℕ
remaining s = rest_after (parse s) s

-- what was read, by its values
abbrev pub outcome : {E : Type 0} → Result Field E → Result FieldValue E
outcome (Ok f) = Ok (value_of f)
outcome (Err e) = Err e

-- the same of a field together with the bytes after it
abbrev pub field_part : Result (Field × Bor (List ℕ)) Cause → Result FieldValue Cause
field_part (Ok p) = Ok (value_of p.0)
field_part (Err c) = Err c
