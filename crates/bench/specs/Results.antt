-- What is read off a result.
use Rattle.std.specs.Prelude.{ℕ, List, Result, Err, slice_get}
use Rattle.std.specs.Option.{ok_or}
use Rattle.sheet.specs.declared.fault.Cause.{Cause}
use Rattle.sheet.specs.declared.fault.Cause.TheVariants.{OtherVerdict, NotInResult}
use Rattle.search.specs.Verdicts.{Finding, arranged, clash}

abbrev pub item_of : List ℕ → ℕ → Result ℕ Cause
item_of xs place = ok_or (slice_get xs place) NotInResult

-- the code of the seat with this place among the seats
abbrev pub code_of : Finding → ℕ → Result ℕ Cause
code_of (arranged codes) seat = item_of codes seat
code_of (clash rows) seat = Err OtherVerdict

-- the row with this place among the rows of the clash
abbrev pub clash_row_of : Finding → ℕ → Result ℕ Cause
clash_row_of (arranged codes) place = Err OtherVerdict
clash_row_of (clash rows) place = item_of rows place
