-- What is read off a result with its set-up.
use Rattle.std.specs.Prelude.{ℕ, if◌then◌else◌, List, ◌++◌, length, drop, Option, Some, None, Result, Ok, Err, ℤ, nat_lt, slice_get}
use Rattle.std.specs.Option.{ok_or}
use Rattle.sheet.specs.declared.fault.Cause.{Cause}
use Rattle.sheet.specs.declared.fault.Cause.TheVariants.{BufferTooShort, NotInResult, OtherVerdict}
use Rattle.congruence.specs.declared.entry.Entry.{Entry}
use Rattle.setup.specs.declared.set_up.SetUp.{SetUp}

-- what a recount answers
abbrev pub recounted : Option ℤ → Result ℤ Cause
recounted number = ok_or number NotInResult

-- the number of a term. That it is a clash is tested first
abbrev pub number_in : Option SetUp → ℕ → Result ℤ Cause
number_in (Some u) term = ok_or (slice_get u.numbers.items term) NotInResult
number_in None term = Err OtherVerdict

-- how many records are copied into a buffer with so much room, or why none is
abbrev pub copied : ℕ → ℕ → Result ℕ Cause
copied count room = if nat_lt room count then Err BufferTooShort else Ok count

-- the buffer then: the entries, and behind them the records that stood there. Where there is no room for all, none is written
abbrev pub with_front : List Entry → List Entry → List Entry
with_front es buffer = if nat_lt (length buffer) (length es) then buffer else es ++ drop (length es) buffer

-- the same for the entries of a set-up. That it is a clash is tested first, and changes nothing
abbrev pub entries_written : Option SetUp → ℕ → Result ℕ Cause
entries_written (Some u) room = copied (length u.entries.items) room
entries_written None room = Err OtherVerdict

abbrev pub buffer_with : Option SetUp → List Entry → List Entry
buffer_with (Some u) buffer = with_front u.entries.items buffer
buffer_with None buffer = buffer
