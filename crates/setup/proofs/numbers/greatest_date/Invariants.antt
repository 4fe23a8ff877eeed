use Rattle.std.proofs.Common.{◌≡◌, take}
use Rattle.model.specs.Numbering.{greatest_date}
use Rattle.setup.proofs.numbers.greatest_date.Given as goal

-- it is the greatest of the dates passed
abbrev pub invariant-loop-date : goal.invariant-loop-date
invariant-loop-date l = l.greatest ≡ greatest_date (take l.date-index l.dates)
