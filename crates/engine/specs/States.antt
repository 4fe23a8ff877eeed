-- What an engine holds, and when it is open.
use Rattle.std.specs.Prelude.{ℕ, if◌then◌else◌, List, [], ◌∷◌, ◌++◌, length}
use Rattle.sheet.specs.declared.row.Row.{Row}
use Rattle.sheet.specs.declared.term.Term.{Term}
use Rattle.engine.specs.declared.noted.Noted.{Noted}
use Rattle.engine.specs.Terms.{zero_term, seats_of}
use Rattle.engine.specs.Arrangements.{Arrangement}

-- the terms and rows noted, in order, and the codes placed
pub record State : Type 0 where
  pub terms : List Term
  pub rows : List Noted
  pub codes : List ℕ

-- a new engine: zero is its only term
abbrev pub new_state : State
new_state = record { terms = zero_term ∷ []; rows = []; codes = [] }

abbrev pub with_terms : State → List Term → State
with_terms s ts = record { terms = ts; rows = s.rows; codes = s.codes }

abbrev pub with_rows : State → List Noted → State
with_rows s rs = record { terms = s.terms; rows = rs; codes = s.codes }

abbrev pub with_codes : State → List ℕ → State
with_codes s cs = record { terms = s.terms; rows = s.rows; codes = cs }

-- the state with one code more
abbrev pub with_code : State → ℕ → State
with_code s c = with_codes s (s.codes ++ c ∷ [])

-- the rows that are not muted, in order
abbrev pub active_rows : List Noted → List Row
active_rows [] = []
active_rows (m ∷ ms) = if m.active then m.row ∷ active_rows ms else active_rows ms

-- an arrangement that begins with the codes placed, and that the rule allows for the active rows
pub record Completion (rule : List Term → List Row → List ℕ → Type 0) (s : State) : Type 0 where
  pub rest : List ℕ
  pub full : Arrangement (length (seats_of s.terms)) (s.codes ++ rest)
  pub allowed : rule s.terms (active_rows s.rows) (s.codes ++ rest)
