-- The grounds for a refusal, by their numbers.
use Rattle.std.specs.Prelude.{ℕ, Ok, Err, Result}
use Rattle.sheet.specs.declared.fault.Fault.{Fault}
use Rattle.sheet.specs.declared.fault.Cause.{Cause}
use Rattle.sheet.specs.declared.fault.Cause.TheVariants.{CutShort, UnknownTag, WrongLength, MalformedTerm, BadLabel, TermsFull, DatedTermsFull, ArgumentNotEarlier, OtherArgumentCount, TermAfterRow, RowsFull, NoSuchTerm, SpanOnLevel, BoundPastLimit, NoRowToStrike, OtherVerdict, NotInResult, BufferTooShort, EverySeatPlaced, CodeTooHigh, NoCodeToLift, NoSuchRow, CodesPlaced, NoDates}

abbrev pub cause_number : Cause → ℕ
-- fewer than three bytes are left, or fewer than the length states
cause_number CutShort = 1
-- the tag is none of T, S, E and U
cause_number UnknownTag = 2
-- the length is none that a field with this tag has
cause_number WrongLength = 3
-- a term's kind, form or table letter is wrong, or its letter or an argument is missing
cause_number MalformedTerm = 4
-- the label is not 1 to 12 visible bytes
cause_number BadLabel = 5
-- there are 32 terms
cause_number TermsFull = 6
-- there are 8 dated terms, and this is one more
cause_number DatedTermsFull = 7
-- an argument is no earlier term
cause_number ArgumentNotEarlier = 8
-- the table is in use with the other count of arguments
cause_number OtherArgumentCount = 9
-- a term field stands after a row field
cause_number TermAfterRow = 10
-- there are 64 rows
cause_number RowsFull = 11
-- a row names a term that there is not
cause_number NoSuchTerm = 12
-- a span names a level
cause_number SpanOnLevel = 13
-- a span's bound lies past its limits
cause_number BoundPastLimit = 14
-- there is no row to strike
cause_number NoRowToStrike = 15
-- what is asked for belongs to the other verdict
cause_number OtherVerdict = 16
-- the result has no such term, seat or row, or lacks a number or an entry that is needed
cause_number NotInResult = 17
-- the caller's buffer is too short
cause_number BufferTooShort = 18
-- every seat is placed already
cause_number EverySeatPlaced = 19
-- the code is above twice the number of blocks
cause_number CodeTooHigh = 20
-- there is no code to lift
cause_number NoCodeToLift = 21
-- the engine has no such row
cause_number NoSuchRow = 22
-- a term, a row or its muting is touched while codes are placed
cause_number CodesPlaced = 23
-- there are no dates before every seat is placed, or where open says no
cause_number NoDates = 24

-- a cause as a fault of the layer with the letter l
abbrev pub fault_in : ℕ → Cause → Fault
fault_in l c = record { cause = c; layer = l }

-- what a layer answers
abbrev pub in_layer : {X : Type 0} → ℕ → Result X Cause → Result X Fault
in_layer l (Ok x) = Ok x
in_layer l (Err c) = Err (fault_in l c)

-- R, the letter of the reader and the writer
abbrev pub reader_letter : ℕ
reader_letter = 82
