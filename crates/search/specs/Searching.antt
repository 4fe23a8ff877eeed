-- What the search knows where it goes down, where it turns back and where it rests, and how many steps are left.
use Rattle.std.specs.Prelude.{◌≡◌, ℕ, zero, suc, ◌+◌, ◌-◌, ◌*◌, ◌<◌, ◌≤◌, Bool, true, false, List, [], ◌∷◌, ◌++◌, length, Option, Some, None}
use Rattle.arrayvec.specs.ArrayVec.{ArrayVec}
use Rattle.engine.specs.Arrangements.{Before, blocks, is_valid}
use Rattle.search.specs.declared.phase.Phase.{Phase}
use Rattle.search.specs.declared.phase.Phase.TheVariants.{Descend, Found, Exhausted}

-- codes for the first of n seats
pub record Front (n : ℕ) (cs : List ℕ) : Type 0 where
  pub short : length cs ≤ n
  pub valid : is_valid 0 cs ≡ true

module _ (Allowed : List ℕ → Type 0) where
  -- nothing that is allowed comes before these codes
  abbrev pub NoneBefore : List ℕ → Type 0
  NoneBefore cs = (ds : List ℕ) → Allowed ds → Before ds cs → ⊥

  -- these codes begin nothing that is allowed, and nothing that is allowed comes before them: the search turns back
  pub record NothingUnder (n : ℕ) (cs : List ℕ) : Type 0 where
    pub front : Front n cs
    pub before : NoneBefore cs
    pub under : (rest : List ℕ) → Allowed (cs ++ rest) → ⊥

  abbrev pub Known : ℕ → Phase → List ℕ → Type 0
  Known n Descend cs = Front n cs × NoneBefore cs
  Known n Found cs = Allowed cs × NoneBefore cs
  Known n Exhausted cs = ((ds : List ℕ) → Allowed ds → ⊥) × (cs ≡ [])

  -- the first that is allowed, or that there is none
  abbrev pub Finds : Option (ArrayVec ℕ) → Type 0
  Finds (Some codes) = Allowed codes.items × NoneBefore codes.items
  Finds None = (ds : List ℕ) → Allowed ds → ⊥

-- the steps that the whole tree below takes, of m seats with at most k codes each
abbrev pub steps : ℕ → ℕ → ℕ
steps k zero = 2
steps k (suc m) = k * steps k m + 2

-- the steps that are left once these codes are placed, of n seats: r of the seats that have none, and then, for each code that is placed, the codes above it, with
-- the whole tree below each, and one step back
unfoldable pub left : ℕ → ℕ → (ℕ → ℕ) → List ℕ → ℕ
left k n r [] = r n
left k n r (c ∷ cs) = left k (n - 1) r cs + ((k - 1 - c) * steps k (n - 1) + 1)

-- with the whole tree below these codes still to come
abbrev pub left_down : ℕ → List ℕ → ℕ
left_down n cs = left (2 * n + 1) n (steps (2 * n + 1)) cs

abbrev pub steps_left : ℕ → Phase → List ℕ → ℕ
steps_left n Descend cs = left_down n cs
steps_left n Found cs = 0
steps_left n Exhausted cs = 0

-- what follows in a step: the search that goes down has fewer steps left, and the search that rests stays as it is
abbrev pub GoesOn : ℕ → Phase → List ℕ → Phase → List ℕ → Type 0
GoesOn n Descend cs next ds = steps_left n next ds < left_down n cs
GoesOn n Found cs next ds = (next ≡ Found) × (ds ≡ cs)
GoesOn n Exhausted cs next ds = (next ≡ Exhausted) × (ds ≡ cs)

-- a code that was offered: it stands last, or it was not taken
abbrev pub PlacedIf : ℕ → List ℕ → ℕ → Bool → List ℕ → Type 0
PlacedIf n old c true new = (length old < n) × (c ≤ 2 * blocks old) × (new ≡ old ++ c ∷ [])
PlacedIf n old c false new = (length old < n → 2 * blocks old < c) × (new ≡ old)
