-- Dates: a number for each seat, from an engine that gives them.
use Rattle.std.specs.Prelude.{◌≡◌, ℕ, ◌<◌, Bool, true, if◌then◌else◌, ◌&&◌, List, [], ◌∷◌, length, ℤ, pos, neg_ℤ, ◌-ℤ◌, ◌≤ℤ◌, ◌==◌, slice_index_or, All}
use Rattle.sheet.specs.declared.fault.Cause.TheVariants.{NoDates}
use Rattle.sheet.specs.declared.fault.Fault.{Fault}
use Rattle.sheet.specs.declared.row.Row.{Row}
use Rattle.sheet.specs.declared.term.Term.{Term}
use Rattle.sheet.specs.Causes.{fault_in}
use Rattle.engine.specs.Limits.{date_limit}
use Rattle.engine.specs.Terms.{seats_of}
use Rattle.engine.specs.Rows.{RowKind, kind_of, on_dated}
use Rattle.engine.specs.Meaning.{Numbers, Holds}
use Rattle.engine.specs.Arrangements.{ranks, InOrder}
use Rattle.engine.specs.Rules.{seat_numbers, SpanFits}
use Rattle.engine.specs.States.{State, active_rows, Completion}

-- the number of term i is the date of its seat; 0 where it has none
abbrev pub date_at : List ℕ → List ℤ → Numbers
date_at [] dates i = pos 0
date_at (s ∷ ss) [] i = pos 0
date_at (s ∷ ss) (d ∷ dates) i = if s == i then d else date_at ss dates i

-- the row holds of the numbers, if it is of a kind that counts and stands on dated terms alone
abbrev pub CountedHolds : (RowKind → Bool) → List Term → Numbers → Row → Type 0
CountedHolds counts ts v r = (counts (kind_of r) && on_dated ts r) ≡ true → Holds v r

-- dates from −7,000,000 to 7,000,000, one a seat, in the order of the arrangement, zero's being 0, that make the counted rows true
pub record RightDates (counts : RowKind → Bool) (s : State) (dates : List ℤ) : Type 0 where
  pub each : length dates ≡ length (seats_of s.terms)
  pub within : (p : ℕ) → p < length dates → (neg_ℤ date_limit ≤ℤ slice_index_or dates p (pos 0)) × (slice_index_or dates p (pos 0) ≤ℤ date_limit)
  pub zero_first : slice_index_or dates 0 (pos 0) ≡ pos 0
  pub ordered : InOrder (ranks s.codes) (λ p. slice_index_or dates p (pos 0))
  pub hold : All (CountedHolds counts s.terms (date_at (seats_of s.terms) dates)) (active_rows s.rows)

module _ (rule : List Term → List Row → List ℕ → Type 0) (s : State) where
  -- every seat is placed and open says yes: these are the dates. `picks` says which ones the engine gives
  pub record Dated (counts : RowKind → Bool) (picks : List Term → List Row → List ℕ → List ℤ → Type 0) (dates : List ℤ) : Type 0 where
    pub placed : length s.codes ≡ length (seats_of s.terms)
    pub allowed : Completion rule s
    pub right : RightDates counts s dates
    pub picked : picks s.terms (active_rows s.rows) s.codes dates

  -- otherwise the call is refused
  pub record Undated (letter : ℕ) (fault : Fault) : Type 0 where
    pub ground : length s.codes ≡ length (seats_of s.terms) → Completion rule s → ⊥
    pub answered : fault ≡ fault_in letter NoDates

-- The dates of the span engine. Of all numbers that fit and are not above 0 at a seat, g has the greatest at each seat
pub record Greatest (ts : List Term) (rows : List Row) (codes : List ℕ) (g : ℕ → ℤ) : Type 0 where
  pub reached : (p : ℕ) → p < length (seats_of ts) → (v : Numbers) × SpanFits ts rows codes v × ((q : ℕ) → q < length (seats_of ts) → seat_numbers ts v q ≤ℤ pos 0) × (seat_numbers ts v p ≡ g p)
  pub greatest : (v : Numbers) → SpanFits ts rows codes v → ((q : ℕ) → q < length (seats_of ts) → seat_numbers ts v q ≤ℤ pos 0) → (p : ℕ) → p < length (seats_of ts) → seat_numbers ts v p ≤ℤ g p

-- and zero's is subtracted from all
pub record GreatestDates (ts : List Term) (rows : List Row) (codes : List ℕ) (dates : List ℤ) : Type 0 where
  pub numbers : ℕ → ℤ
  pub greatest : Greatest ts rows codes numbers
  pub each : length dates ≡ length (seats_of ts)
  pub from_zero : (p : ℕ) → p < length (seats_of ts) → slice_index_or dates p (pos 0) ≡ numbers p -ℤ numbers 0
