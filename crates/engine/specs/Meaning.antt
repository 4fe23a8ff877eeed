-- What terms and rows mean: whole numbers, and tables over them.
use Rattle.std.specs.Prelude.{◌≡◌, ℕ, List, ℤ, pos, ◌-ℤ◌, ◌≤ℤ◌, slice_index_or, All}
use Rattle.sheet.specs.declared.row.Row.{Row}
use Rattle.sheet.specs.declared.row.Row.TheVariants.{Span, Same, Unlike}
use Rattle.sheet.specs.declared.term.Form.{Form}
use Rattle.sheet.specs.declared.term.Form.TheVariants.{One, Two}
use Rattle.sheet.specs.declared.term.Term.{Term}
use Rattle.engine.specs.Terms.{zero_term}

-- a whole number for each term, by the term's index
abbrev pub Numbers : Type 0
Numbers = ℕ → ℤ

-- the numbers of a list, one for each term; 0 past its end
abbrev pub numbers_in : List ℤ → Numbers
numbers_in xs i = slice_index_or xs i (pos 0)

-- for each letter a function of one whole number, and one of two. A sheet uses one of the two
pub record Tables : Type 0 where
  pub unary : ℕ → ℤ → ℤ
  pub binary : ℕ → ℤ → ℤ → ℤ

-- the form of term i; past the end, a name
abbrev pub form_at : List Term → ℕ → Form
form_at ts i = (slice_index_or ts i zero_term).form

-- term 0 is zero, and an application is its table's answer at the numbers of its arguments
pub record Interprets (m : Tables) (ts : List Term) (v : Numbers) : Type 0 where
  pub zeroth : v 0 ≡ pos 0
  pub unary : (i a x : ℕ) → form_at ts i ≡ One a x → v i ≡ m.unary a (v x)
  pub binary : (i a x y : ℕ) → form_at ts i ≡ Two a x y → v i ≡ m.binary a (v x) (v y)

-- the row is true
abbrev pub Holds : Numbers → Row → Type 0
Holds v (Span i j c) = (v i -ℤ v j) ≤ℤ c
Holds v (Same i j) = v i ≡ v j
Holds v (Unlike i j) = v i ≡ v j → ⊥

-- some numbers and tables make every row true
pub record Satisfiable (ts : List Term) (rows : List Row) : Type 0 where
  pub tables : Tables
  pub numbers : Numbers
  pub interprets : Interprets tables ts numbers
  pub hold : All (Holds numbers) rows
