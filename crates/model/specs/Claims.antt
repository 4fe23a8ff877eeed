-- What is proved of numbers, entries and recounts.
use Rattle.std.specs.Prelude.{◌≡◌, ◌↔◌, ℕ, ◌<◌, Bool, true, List, length, Some, ℤ, pos, All}
use Rattle.sheet.specs.declared.term.Term.{Term}
use Rattle.engine.specs.Arrangements.{Arrangement}
use Rattle.engine.specs.Dates.{RightDates}
use Rattle.engine.specs.Equalities.{EqualityClasses}
use Rattle.engine.specs.Fitting.{all_terms_fit}
use Rattle.engine.specs.Meaning.{Numbers, numbers_in}
use Rattle.engine.specs.Rows.{RowKind}
use Rattle.engine.specs.Rules.{TableAllowed}
use Rattle.engine.specs.States.{State, active_rows}
use Rattle.engine.specs.Terms.{seats_of}
use Rattle.congruence.specs.declared.entry.Entry.{Entry}
use Rattle.congruence.specs.Congruence.{Congruent}
use Rattle.congruence.specs.Entries.{NeededEntries}
use Rattle.theory.specs.Accepted.{Accepted}
use Rattle.model.specs.PickedEntries.{PickedEntries, entries_once}
use Rattle.model.specs.Naming.{PickedNumbers}
use Rattle.model.specs.Numbering.{numbers_of}
use Rattle.model.specs.Recounting.{Recounted, names_of, recount}
use Rattle.model.specs.SetUps.{WithinLimits}

-- an arrangement of all seats that the table rule allows, with dates
pub record Arranged (counts : RowKind → Bool) (s : State) (dates : List ℤ) : Type 0 where
  pub accepted : Accepted s.terms (active_rows s.rows)
  pub arrangement : Arrangement (length (seats_of s.terms)) s.codes
  pub by_tables : TableAllowed s.terms (active_rows s.rows) s.codes
  pub right : RightDates counts s dates

-- the numbers that are computed are those that a set-up has
abbrev pub NumbersArePicked : Type 0
NumbersArePicked = (counts : RowKind → Bool) (s : State) (dates : List ℤ) (groups : List ℕ) → Arranged counts s dates → EqualityClasses s groups
    → PickedNumbers s.terms (active_rows s.rows) s.codes dates (numbers_in (numbers_of (seats_of s.terms) dates groups))

-- and no others are
abbrev pub NumbersAreDetermined : Type 0
NumbersAreDetermined = (s : State) (dates : List ℤ) (groups : List ℕ) (v w : Numbers) → EqualityClasses s groups
    → PickedNumbers s.terms (active_rows s.rows) s.codes dates v → PickedNumbers s.terms (active_rows s.rows) s.codes dates w
    → (t : ℕ) → t < length s.terms → v t ≡ w t

-- and they are within the limits
abbrev pub NumbersAreWithin : Type 0
NumbersAreWithin = (counts : RowKind → Bool) (s : State) (dates : List ℤ) (groups : List ℕ) → Arranged counts s dates → EqualityClasses s groups
    → All WithinLimits (numbers_of (seats_of s.terms) dates groups)

-- the entries that are computed are those that a set-up has
abbrev pub EntriesArePicked : Type 0
EntriesArePicked = (ts : List Term) (v : Numbers) → Congruent ts v → PickedEntries ts v (entries_once ts v)

abbrev pub EntriesAreDetermined : Type 0
EntriesAreDetermined = (ts : List Term) (v : Numbers) (es fs : List Entry) → PickedEntries ts v es → PickedEntries ts v fs → es ≡ fs

-- a recount gives just the number that the names and entries lead to
abbrev pub RecountIsExact : Type 0
RecountIsExact = (ts : List Term) (names : List ℤ) (es : List Entry) → all_terms_fit ts ≡ true → (t : ℕ) (n : ℤ) → (recount ts names es t ≡ Some n) ↔ Recounted ts names es t n

-- and from the names and any list of the entries that are needed it gives back the numbers
abbrev pub RecountGivesBack : Type 0
RecountGivesBack = (ts : List Term) (v : Numbers) (es : List Entry) → all_terms_fit ts ≡ true → v 0 ≡ pos 0 → Congruent ts v → NeededEntries ts v es
    → (t : ℕ) → t < length ts → recount ts (names_of ts v) es t ≡ Some (v t)
