-- What the numbering asks of its lists.
use Rattle.std.specs.Prelude.{◌≡◌, ℕ, ◌<◌, ◌≤◌, List, length, ℤ, ◌≤ℤ◌, slice_index, All}
use Rattle.engine.specs.Limits.{date_limit}

-- each term's group goes by a term that is not above it, and that is in the same group
abbrev pub NamedByLeast : List ℕ → Type 0
NamedByLeast groups = (t : ℕ) → t < length groups → (slice_index groups t ≤ t) × (slice_index groups (slice_index groups t) ≡ slice_index groups t)

-- each seat is a term with a group
abbrev pub SeatsAmong : List ℕ → List ℕ → Type 0
SeatsAmong groups seats = All (λ s. s < length groups) seats

-- no date is above its limit
abbrev pub DatesAtMost : List ℤ → Type 0
DatesAtMost dates = All (λ d. d ≤ℤ date_limit) dates
