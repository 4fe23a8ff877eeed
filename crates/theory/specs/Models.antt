-- Models: numbers that come with tables and make rows true. They are put together from the numbers that the table rule found and from numbers for
-- the instants, whatever engine these come from.
use Rattle.std.specs.Prelude.{◌≡◌, ◌↔◌, ℕ, ◌<◌, Bool, true, List, length, ℤ, pos, ◌-ℤ◌, All}
use Rattle.sheet.specs.declared.row.Row.{Row}
use Rattle.sheet.specs.declared.term.Term.{Term}
use Rattle.engine.specs.Arrangements.{Arrangement, InOrder, ranks}
use Rattle.engine.specs.Dates.{CountedHolds, RightDates, date_at}
use Rattle.engine.specs.Equalities.{AlwaysEqual}
use Rattle.engine.specs.Meaning.{Numbers, Holds}
use Rattle.engine.specs.Rows.{RowKind, on_dated}
use Rattle.engine.specs.Rules.{EqualityHolds, TableAllowed, seat_numbers}
use Rattle.engine.specs.States.{State, active_rows}
use Rattle.engine.specs.Terms.{is_dated_at, seats_of}
use Rattle.congruence.specs.Claims.{Interpreted}
use Rattle.congruence.specs.Congruence.{EqualExactlyWhere}
use Rattle.theory.specs.Accepted.{Accepted}

-- Of tables, and of same and unlike rows. The numbers come with tables, which may be any list of the entries that the applications need, and make
-- every same and unlike row true
pub record EqualityModel (ts : List Term) (rows : List Row) (w : Numbers) : Type 0 where
  pub interpreted : Interpreted ts w
  pub hold : All (EqualityHolds w) rows

-- two of the first n terms have one number by w exactly where they have one by v
abbrev pub SameEqualities : ℕ → Numbers → Numbers → Type 0
SameEqualities n v w = EqualExactlyWhere n (λ i j. v i ≡ v j) w

-- Where the table rule allows codes, numbers are such a model if zero's is 0 and two terms are equal by them exactly where they are by the
-- numbers found
abbrev pub EqualitiesSuffice : Type 0
EqualitiesSuffice = (ts : List Term) (rows : List Row) (codes : List ℕ) (w : Numbers) → Accepted ts rows → (found : TableAllowed ts rows codes)
    → w 0 ≡ pos 0 → SameEqualities (length ts) found.numbers w → EqualityModel ts rows w

-- and so are they if two terms are equal by them exactly where the same rows and the blocks make them so
abbrev pub ClassesSuffice : Type 0
ClassesSuffice = (ts : List Term) (rows : List Row) (codes : List ℕ) (w : Numbers) → Accepted ts rows → TableAllowed ts rows codes
    → w 0 ≡ pos 0 → EqualExactlyWhere (length ts) (AlwaysEqual ts rows codes) w → EqualityModel ts rows w

-- Of rows on instants. Each instant has its number by x, counted from zero's, since zero has to have 0
abbrev pub AtInstants : List Term → Numbers → Numbers → Type 0
AtInstants ts x w = (i : ℕ) → i < length ts → is_dated_at ts i ≡ true → w i ≡ x i -ℤ x 0

-- if the row is on instants and x makes it true, then so does w
abbrev pub StillHolds : List Term → Numbers → Numbers → Row → Type 0
StillHolds ts x w r = on_dated ts r ≡ true → Holds x r → Holds w r

-- rows on instants ask only for the numbers of the instants
abbrev pub InstantsSuffice : Type 0
InstantsSuffice = (ts : List Term) (rows : List Row) (x w : Numbers) → Accepted ts rows → AtInstants ts x w → All (StillHolds ts x w) rows

-- A model put together of v and x
pub record PutTogether (ts : List Term) (rows : List Row) (v x : Numbers) : Type 0 where
  pub numbers : Numbers
  pub at_instants : AtInstants ts x numbers
  pub equal : SameEqualities (length ts) v numbers
  pub model : EqualityModel ts rows numbers
  pub on_instants : All (StillHolds ts x numbers) rows

-- there is one for each arrangement that the table rule allows, and any numbers for the instants in its order
abbrev pub ModelsArePutTogether : Type 0
ModelsArePutTogether = (ts : List Term) (rows : List Row) (codes : List ℕ) (x : Numbers) → Accepted ts rows → Arrangement (length (seats_of ts)) codes
    → (found : TableAllowed ts rows codes) → InOrder (ranks codes) (seat_numbers ts x) → PutTogether ts rows found.numbers x

-- With dates. Each instant has its date
abbrev pub AtDates : List Term → List ℤ → Numbers → Type 0
AtDates ts dates w = (i : ℕ) → i < length ts → is_dated_at ts i ≡ true → w i ≡ date_at (seats_of ts) dates i

-- then every row is true that is counted by the engine which gave the dates, whichever kinds of row it counts
abbrev pub DatesSuffice : Type 0
DatesSuffice = (counts : RowKind → Bool) (s : State) (dates : List ℤ) (w : Numbers) → Accepted s.terms (active_rows s.rows)
    → RightDates counts s dates → AtDates s.terms dates w → All (CountedHolds counts s.terms w) (active_rows s.rows)

-- and two instants have one date exactly where the same rows and the blocks make them equal
abbrev pub DatesAreEqualInClasses : Type 0
DatesAreEqualInClasses = (counts : RowKind → Bool) (s : State) (dates : List ℤ) → Arrangement (length (seats_of s.terms)) s.codes
    → TableAllowed s.terms (active_rows s.rows) s.codes → RightDates counts s dates
    → (i j : ℕ) → i < length s.terms → j < length s.terms → is_dated_at s.terms i ≡ true → is_dated_at s.terms j ≡ true
    → AlwaysEqual s.terms (active_rows s.rows) s.codes i j ↔ (date_at (seats_of s.terms) dates i ≡ date_at (seats_of s.terms) dates j)

-- a model put together of v and dates, in which all that is so
pub record DatedModel (counts : RowKind → Bool) (s : State) (v : Numbers) (dates : List ℤ) : Type 0 where
  pub together : PutTogether s.terms (active_rows s.rows) v (λ i. date_at (seats_of s.terms) dates i)
  pub dated : AtDates s.terms dates together.numbers
  pub counted : All (CountedHolds counts s.terms together.numbers) (active_rows s.rows)

-- there is one with the dates of each engine that dates
abbrev pub ModelsAreDated : Type 0
ModelsAreDated = (counts : RowKind → Bool) (s : State) (dates : List ℤ) → Accepted s.terms (active_rows s.rows)
    → Arrangement (length (seats_of s.terms)) s.codes → (found : TableAllowed s.terms (active_rows s.rows) s.codes)
    → RightDates counts s dates → DatedModel counts s found.numbers dates
