-- Arrangements: the seats divided into blocks, and the blocks in a line. A block has one number, and numbers grow along
-- the line. An arrangement is written as one code a seat: while b blocks stand, numbered from 0, the code 2k puts a new
-- block before block k (or last, where k is b), and 2k + 1 puts the seat into block k.
use Rattle.std.specs.Prelude.{◌≡◌, ℕ, ◌+◌, ◌*◌, ◌/◌, ◌%◌, ◌<◌, ◌≤◌, Bool, true, if◌then◌else◌, ◌&&◌, ◌⊎◌, List, [], ◌∷◌, ◌++◌, map, length, ℤ, ◌<ℤ◌, ◌==◌, nat_le, slice_index}

abbrev pub opens_block : ℕ → Bool
opens_block c = c % 2 == 0

-- how many blocks the codes open
abbrev pub blocks : List ℕ → ℕ
blocks [] = 0
blocks (c ∷ cs) = (if opens_block c then 1 else 0) + blocks cs

-- with b blocks standing, each code is at most twice the blocks that stand when it comes
abbrev pub is_valid : ℕ → List ℕ → Bool
is_valid b [] = true
is_valid b (c ∷ cs) = nat_le c (2 * b) && is_valid (b + (if opens_block c then 1 else 0)) cs

-- an arrangement of n seats
pub record Arrangement (n : ℕ) (codes : List ℕ) : Type 0 where
  pub full : length codes ≡ n
  pub valid : is_valid 0 codes ≡ true

-- the rank of a seat is its block, counted from 0: a block that is opened at k moves those from k on
abbrev pub rank_after : ℕ → ℕ → ℕ
rank_after k r = if nat_le k r then r + 1 else r

-- the ranks once a seat more is placed by the code c
abbrev pub ranks_with : List ℕ → ℕ → List ℕ
ranks_with rs c = (if opens_block c then map (rank_after (c / 2)) rs else rs) ++ (c / 2) ∷ []

abbrev pub ranks_from : List ℕ → List ℕ → List ℕ
ranks_from rs [] = rs
ranks_from rs (c ∷ cs) = ranks_from (ranks_with rs c) cs

-- the rank of each seat that has a code
abbrev pub ranks : List ℕ → List ℕ
ranks codes = ranks_from [] codes

-- each block has one number, by the numbers x of the seats, whose ranks are rs
abbrev pub OneInEachBlock : List ℕ → (ℕ → ℤ) → Type 0
OneInEachBlock rs x = (p q : ℕ) → p < length rs → q < length rs → slice_index rs p ≡ slice_index rs q → x p ≡ x q

-- the numbers x, one for each seat, follow the ranks rs: equal in a block, and smaller in an earlier block
pub record InOrder (rs : List ℕ) (x : ℕ → ℤ) : Type 0 where
  pub same : OneInEachBlock rs x
  pub less : (p q : ℕ) → p < length rs → q < length rs → slice_index rs p < slice_index rs q → x p <ℤ x q

-- the numbers x are equal exactly for seats of one block; the order of the blocks is not asked
pub record EqualInBlocks (rs : List ℕ) (x : ℕ → ℤ) : Type 0 where
  pub same : OneInEachBlock rs x
  pub apart : (p q : ℕ) → p < length rs → q < length rs → x p ≡ x q → slice_index rs p ≡ slice_index rs q

-- lexicographic order: at the first place where the codes differ the earlier arrangement has the smaller one
abbrev pub Before : List ℕ → List ℕ → Type 0
Before [] ds = ⊥
Before (c ∷ cs) [] = ⊥
Before (c ∷ cs) (d ∷ ds) = (c < d) ⊎ ((c ≡ d) × Before cs ds)

-- every choice of numbers for n seats follows exactly one arrangement, and codes placed in agreement with the numbers begin it
pub record Followed (n : ℕ) (x : ℕ → ℤ) : Type 0 where
  pub codes : List ℕ
  pub arrangement : Arrangement n codes
  pub followed : InOrder (ranks codes) x
  pub only : (ds : List ℕ) → Arrangement n ds → InOrder (ranks ds) x → ds ≡ codes
  pub extends : (front : List ℕ) → length front ≤ n → is_valid 0 front ≡ true → InOrder (ranks front) x → (rest : List ℕ) × (codes ≡ front ++ rest)

abbrev pub EveryChoiceIsFollowed : Type 0
EveryChoiceIsFollowed = (n : ℕ) (x : ℕ → ℤ) → Followed n x
