-- Two engines that hold the same.
use Rattle.std.specs.Prelude.{◌≡◌, ℕ, Bool, false, List, Option, Some, None, []}
use Rattle.arrayvec.specs.ArrayVec.{ArrayVec}
use Rattle.engine.specs.declared.engine.Engine.{Ghosts}
use Rattle.engine.specs.Calls.{rows_with_mark}
use Rattle.engine.specs.States.{active_rows, with_codes, with_rows}
use Rattle.theory.specs.Combining.{AllowedByBoth, Possible}
use Rattle.search.specs.Verdicts.{Core}

module _ {F S : Type 0} (f : Ghosts F) (s : Ghosts S) (a : F) (b : S) where
  -- the engines x and y hold what the engine a holds, with the codes cs in place of its codes. No setting has changed since a and b
  pub record Alike (x : F) (y : S) (cs : List ℕ) : Type 0 where
    pub by_first : f.state x ≡ with_codes (f.state a) cs
    pub by_second : s.state y ≡ with_codes (f.state a) cs
    pub keeps_first : f.setting x ≡ f.setting a
    pub keeps_second : s.setting y ≡ s.setting b

  -- and the same with the mark of row i set
  pub record Marked (x : F) (y : S) (i : ℕ) (v : Bool) : Type 0 where
    pub by_first : f.state x ≡ with_rows (f.state a) (rows_with_mark i v (f.state a).rows)
    pub by_second : s.state y ≡ with_rows (f.state a) (rows_with_mark i v (f.state a).rows)
    pub keeps_first : f.setting x ≡ f.setting a
    pub keeps_second : s.setting y ≡ s.setting b

  -- what both rules allow for the terms and the active rows that a holds
  abbrev pub AllowedIn : List ℕ → Type 0
  AllowedIn cs = AllowedByBoth (f.rule (f.setting a)) (s.rule (s.setting b)) (f.state a).terms (active_rows (f.state a).rows) cs

  abbrev pub PossibleIn : Type 0
  PossibleIn = Possible (f.rule (f.setting a)) (s.rule (s.setting b)) (f.state a).terms (active_rows (f.state a).rows)

  -- some arrangement is allowed with row i muted
  abbrev pub PossibleWithout : ℕ → Type 0
  PossibleWithout i = Possible (f.rule (f.setting a)) (s.rule (s.setting b)) (f.state a).terms (active_rows (rows_with_mark i false (f.state a).rows))

  abbrev pub CoreIn : List ℕ → Type 0
  CoreIn places = Core (f.rule (f.setting a)) (s.rule (s.setting b)) (f.state a).terms (active_rows (f.state a).rows) places

-- the codes that were found
abbrev pub codes_found : Option (ArrayVec ℕ) → List ℕ
codes_found (Some codes) = codes.items
codes_found None = []
