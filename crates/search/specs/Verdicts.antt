-- What is found of terms and rows over two rules: the first arrangement that both allow, or the rows of a clash.
use Rattle.std.specs.Prelude.{◌≡◌, ℕ, suc, ◌+◌, ◌<◌, true, false, ◌⊎◌, List, [], ◌∷◌, ◌++◌, length, map, All, slice_index_or, ◌==◌}
use Rattle.std.specs.List.{list_any}
use Rattle.sheet.specs.declared.row.Row.{Row}
use Rattle.sheet.specs.declared.row.Row.TheVariants.{Same}
use Rattle.sheet.specs.declared.term.Term.{Term}
use Rattle.engine.specs.declared.noted.Noted.{Noted}
use Rattle.engine.specs.Arrangements.{Before}
use Rattle.engine.specs.States.{State, active_rows, with_codes}
use Rattle.theory.specs.Combining.{AllowedByBoth, Possible}
use Rattle.search.specs.Unmuted.{standing_state, unmarked}
use Rattle.search.specs.declared.verdict.Verdict.{Verdict}
use Rattle.search.specs.declared.verdict.Verdict.TheVariants.{Arrangement, Clash}

-- a verdict with its lists
pub data Finding : Type 0 where
  arranged : List ℕ → Finding
  clash : List ℕ → Finding

abbrev pub value_of : Verdict → Finding
value_of (Arrangement codes) = arranged codes.items
value_of (Clash rows) = clash rows.items

-- The walk from row 0 up. `kept` are the rows kept so far, then comes row i and then those after it. Each row in turn is left out; it stays out
-- where the others still allow nothing, and is otherwise kept. The list at the end has the places of the rows kept, in rising order.
pub data Walk (Allow : List Row → Type 0) : List Row → List Row → ℕ → List ℕ → Type 0 where
  ends : {kept : List Row} {i : ℕ} → Walk Allow kept [] i []
  drops : {kept rest : List Row} {i : ℕ} {places : List ℕ} (r : Row) → (Allow (kept ++ rest) → ⊥) → Walk Allow kept rest (i + 1) places → Walk Allow kept (r ∷ rest) i places
  keeps : {kept rest : List Row} {i : ℕ} {places : List ℕ} (r : Row) → Allow (kept ++ rest) → Walk Allow (kept ++ r ∷ []) rest (i + 1) places → Walk Allow kept (r ∷ rest) i (i ∷ places)

-- the rows at these places
abbrev pub chosen_rows : List Row → List ℕ → List Row
chosen_rows rows places = map (λ p. slice_index_or rows p (Same 0 0)) places

-- rows, of which each is active exactly where its number is among these places. The first of them is row i
abbrev pub marked_from : ℕ → List ℕ → List Row → List Noted
marked_from i places [] = []
marked_from i places (r ∷ rows) = record { row = r; active = list_any (λ p. p == i) places } ∷ marked_from (i + 1) places rows

-- two choices of the same rows: at the first row whose marks differ the first has it muted and the second active
abbrev pub LeavesOutFirst : List Noted → List Noted → Type 0
LeavesOutFirst [] ns = ⊥
LeavesOutFirst (m ∷ ms) [] = ⊥
LeavesOutFirst (m ∷ ms) (n ∷ ns) = ((m.active ≡ false) × (n.active ≡ true)) ⊎ ((m.active ≡ n.active) × LeavesOutFirst ms ns)

-- what an engine holds that was given these terms and rows, once this was found: at an arrangement its codes are placed, and at a clash just its
-- rows are active
abbrev pub found_state : List Term → List Row → Finding → State
found_state ts rows (arranged codes) = with_codes (standing_state ts rows) codes
found_state ts rows (clash places) = record { terms = ts; rows = marked_from 0 places rows; codes = [] }

module _ (first second : List Term → List Row → List ℕ → Type 0) (ts : List Term) where
  -- both rules allow the arrangement with these codes, and none with codes that come before them
  pub record FirstAllowed (rows : List Row) (codes : List ℕ) : Type 0 where
    pub allowed : AllowedByBoth first second ts rows codes
    pub none_before : (others : List ℕ) → AllowedByBoth first second ts rows others → Before others codes → ⊥

  -- The places of the rows of a clash: those that the walk leaves. They rise. These rows allow nothing together, and each is needed for that. Of all
  -- choices of rows that allow nothing together this one leaves out the earliest.
  pub record Core (rows : List Row) (places : List ℕ) : Type 0 where
    pub walk : Walk (Possible first second ts) [] rows 0 places
    pub rising : (k : ℕ) → suc k < length places → slice_index_or places k 0 < slice_index_or places (suc k) 0
    pub within : All (λ p. p < length rows) places
    pub nothing : Possible first second ts (chosen_rows rows places) → ⊥
    pub each_needed : (front back : List ℕ) (p : ℕ) → places ≡ front ++ p ∷ back → Possible first second ts (chosen_rows rows (front ++ back))
    pub drops_first : (ms : List Noted) → unmarked ms ≡ rows → (Possible first second ts (active_rows ms) → ⊥)
        → (ms ≡ marked_from 0 places rows) ⊎ LeavesOutFirst (marked_from 0 places rows) ms

  -- what is found: the first arrangement that both allow; or, exactly where there is none, the rows of the clash
  abbrev pub Judged : List Row → Finding → Type 0
  Judged rows (arranged codes) = FirstAllowed rows codes
  Judged rows (clash places) = (Possible first second ts rows → ⊥) × Core rows places
