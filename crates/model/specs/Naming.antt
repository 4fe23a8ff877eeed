-- The numbers of a set-up, in the words of what a sheet means.
use Rattle.std.specs.Prelude.{◌≡◌, ◌↔◌, ℕ, suc, ◌<◌, true, List, length, ℤ, pos, ◌+ℤ◌, ◌≤ℤ◌, All, slice_index}
use Rattle.std.specs.List.{AllPairs, Contains}
use Rattle.sheet.specs.declared.row.Row.{Row}
use Rattle.sheet.specs.declared.term.Term.{Term}
use Rattle.engine.specs.Equalities.{AlwaysEqual}
use Rattle.engine.specs.Meaning.{Numbers}
use Rattle.engine.specs.Terms.{is_dated_at}
use Rattle.congruence.specs.Congruence.{EqualExactlyWhere}
use Rattle.theory.specs.Models.{AtDates}

-- m is one of the dates, and none is greater
pub record GreatestDate (dates : List ℤ) (m : ℤ) : Type 0 where
  pub among : Contains dates m
  pub none_above : All (λ d. d ≤ℤ m) dates

module _ (ts : List Term) (rows : List Row) (codes : List ℕ) where
  -- t is the least term of its group, and no term of the group is dated
  pub record LeadsUndated (t : ℕ) : Type 0 where
    pub there : t < length ts
    pub least : (b : ℕ) → b < t → AlwaysEqual ts rows codes b t → ⊥
    pub undated : (i : ℕ) → i < length ts → is_dated_at ts i ≡ true → AlwaysEqual ts rows codes i t → ⊥

  -- the least terms of the groups without a dated term, in rising order
  pub record UndatedGroups (leaders : List ℕ) : Type 0 where
    pub rising : AllPairs (λ x y. x < y) leaders
    pub just : (t : ℕ) → Contains leaders t ↔ LeadsUndated t

  -- The numbers that a set-up has: dated terms have their dates, two terms have one number exactly where they are always equal, and the groups without a
  -- dated term have, by their least terms, the numbers M + 1, M + 2 and so on, where M is the greatest date
  pub record PickedNumbers (dates : List ℤ) (v : Numbers) : Type 0 where
    pub dated : AtDates ts dates v
    pub equal : EqualExactlyWhere (length ts) (AlwaysEqual ts rows codes) v
    pub greatest : ℤ
    pub is_greatest : GreatestDate dates greatest
    pub leaders : List ℕ
    pub undated : UndatedGroups leaders
    pub counted_on : (k : ℕ) → k < length leaders → v (slice_index leaders k) ≡ greatest +ℤ pos (suc k)
