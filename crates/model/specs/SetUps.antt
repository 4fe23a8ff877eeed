-- Set-ups: which one is picked for an arrangement, and what is true of it.
use Rattle.std.specs.Prelude.{◌≡◌, ℕ, ◌<◌, Bool, true, List, length, Some, ℤ, pos, neg_ℤ, ◌+ℤ◌, ◌≤ℤ◌, All}
use Rattle.sheet.specs.declared.row.Row.{Row}
use Rattle.sheet.specs.declared.term.Term.{Term}
use Rattle.engine.specs.Dates.{CountedHolds, Dated}
use Rattle.engine.specs.Equalities.{EqualityClasses}
use Rattle.engine.specs.Limits.{date_limit}
use Rattle.engine.specs.Meaning.{Holds, Interprets, numbers_in}
use Rattle.engine.specs.Rows.{RowKind, span_kind}
use Rattle.engine.specs.Rules.{EqualityHolds}
use Rattle.engine.specs.States.{State}
use Rattle.engine.specs.Terms.{seats_of}
use Rattle.congruence.specs.declared.entry.Entry.{Entry}
use Rattle.congruence.specs.Entries.{tables_of}
use Rattle.model.specs.PickedEntries.{PickedEntries, entries_once}
use Rattle.model.specs.Naming.{PickedNumbers}
use Rattle.model.specs.Numbering.{numbers_of}
use Rattle.model.specs.Recounting.{names_of, recount}

-- All numbers lie between −7,000,000 and 7,000,031: a date is within 7,000,000, and at most 31 groups have none
abbrev pub WithinLimits : ℤ → Type 0
WithinLimits n = (neg_ℤ date_limit ≤ℤ n) × (n ≤ℤ (date_limit +ℤ pos 31))

-- The set-up that is picked where an engine holds s, every seat placed: by the dates of the engine that dates, whose rule, kinds of rows and choice of dates
-- these are, and by the groups of the terms that are always equal
pub record PickedSetUp (rule : List Term → List Row → List ℕ → Type 0) (counts : RowKind → Bool) (picks : List Term → List Row → List ℕ → List ℤ → Type 0) (s : State) (numbers : List ℤ) (entries : List Entry) : Type 0 where
  pub dates : List ℤ
  pub dated : Dated rule s counts picks dates
  pub groups : List ℕ
  pub grouped : EqualityClasses s groups
  pub numbered : numbers ≡ numbers_of (seats_of s.terms) dates groups
  pub listed : entries ≡ entries_once s.terms (numbers_in numbers)

-- What is true of it. With the tables that its entries make, its numbers interpret the terms; every same and unlike row is true, and every row that the
-- engine which dates counts, so that with one that counts spans every row is true. A recount from its own names and entries gives each number
pub record RightSetUp (counts : RowKind → Bool) (ts : List Term) (rows : List Row) (codes : List ℕ) (dates : List ℤ) (numbers : List ℤ) (entries : List Entry) : Type 0 where
  pub each : length numbers ≡ length ts
  pub picked : PickedNumbers ts rows codes dates (numbers_in numbers)
  pub within : All WithinLimits numbers
  pub entries_picked : PickedEntries ts (numbers_in numbers) entries
  pub interprets : Interprets (tables_of entries) ts (numbers_in numbers)
  pub equalities : All (EqualityHolds (numbers_in numbers)) rows
  pub counted : All (CountedHolds counts ts (numbers_in numbers)) rows
  pub all_rows : counts span_kind ≡ true → All (Holds (numbers_in numbers)) rows
  pub recounted : (t : ℕ) → t < length ts → recount ts (names_of ts (numbers_in numbers)) entries t ≡ Some (numbers_in numbers t)
