-- The first arrangement that an engine allows, and what placing the seats comes to.
use Rattle.std.specs.Prelude.{◌≡◌, ℕ, ◌<◌, List, ◌++◌, length, Some, None, Option}
use Rattle.arrayvec.specs.ArrayVec.{ArrayVec}
use Rattle.sheet.specs.declared.row.Row.{Row}
use Rattle.sheet.specs.declared.term.Term.{Term}
use Rattle.engine.specs.Arrangements.{Arrangement, Before}
use Rattle.engine.specs.States.{State, Completion, active_rows, with_code, with_codes}
use Rattle.engine.specs.Terms.{seats_of}

module _ (rule : List Term → List Row → List ℕ → Type 0) (s : State) where
  -- the codes placed and then `rest` are an arrangement that the rule allows, and no allowed one that begins alike comes before it
  pub record FirstCompletion (rest : List ℕ) : Type 0 where
    pub full : Arrangement (length (seats_of s.terms)) (s.codes ++ rest)
    pub allowed : rule s.terms (active_rows s.rows) (s.codes ++ rest)
    pub first : (other : List ℕ) → Arrangement (length (seats_of s.terms)) (s.codes ++ other) → rule s.terms (active_rows s.rows) (s.codes ++ other) → Before (s.codes ++ other) (s.codes ++ rest) → ⊥

  -- an engine that holds s tries codes for the next seat, and holds t then: the least code that keeps it open is placed; or there is none,
  -- and nothing is placed
  abbrev pub LeastPlaced : State → Option ℕ → Type 0
  LeastPlaced t None = ((c : ℕ) → Completion rule (with_code s c) → ⊥) × (t ≡ s)
  LeastPlaced t (Some c) = Completion rule (with_code s c) × ((d : ℕ) → d < c → Completion rule (with_code s d) → ⊥) × (t ≡ with_code s c)

  -- the seats that are left are placed by the first arrangement, with these codes; or there is none. The engine holds t then
  abbrev pub FirstPlaced : State → Option (ArrayVec ℕ) → Type 0
  FirstPlaced t None = (Completion rule s → ⊥) × (t ≡ s)
  FirstPlaced t (Some codes) = FirstCompletion codes.items × (t ≡ with_codes s (s.codes ++ codes.items))
