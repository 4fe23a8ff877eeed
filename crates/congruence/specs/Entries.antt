-- Tables as lists of entries, of which the first that fits answers.
use Rattle.std.specs.Prelude.{◌≡◌, ℕ, suc, Bool, false, if◌then◌else◌, ◌&&◌, List, [], ◌∷◌, ◌++◌, ℤ, pos, ◌==◌, All}
use Rattle.std.specs.List.{Contains}
use Rattle.std.specs.Ordering.{int_eq}
use Rattle.sheet.specs.declared.term.Form.{Form}
use Rattle.sheet.specs.declared.term.Form.TheVariants.{Name, One, Two}
use Rattle.sheet.specs.declared.term.Term.{Term}
use Rattle.engine.specs.Meaning.{Numbers, Tables, form_at}
use Rattle.congruence.specs.declared.entry.Arguments.{Arguments}
use Rattle.congruence.specs.declared.entry.Arguments.TheVariants.{Unary, Binary}
use Rattle.congruence.specs.declared.entry.Entry.{Entry}

abbrev pub entry : ℕ → Arguments → ℤ → Entry
entry a asked r = record { table = a; arguments = asked; answer = r }

abbrev pub same_arguments : Arguments → Arguments → Bool
same_arguments (Unary n) (Unary x) = int_eq n x
same_arguments (Unary n) (Binary x y) = false
same_arguments (Binary n m) (Unary x) = false
same_arguments (Binary n m) (Binary x y) = int_eq n x && int_eq m y

-- the entry is of the table a, at these numbers
abbrev pub fits : ℕ → Arguments → Entry → Bool
fits a asked e = a == e.table && same_arguments asked e.arguments

-- the answer of the first entry that passes the test; 0 where none does
abbrev pub first_answer : (Entry → Bool) → List Entry → ℤ
first_answer test [] = pos 0
first_answer test (e ∷ es) = if test e then e.answer else first_answer test es

abbrev pub tables_of : List Entry → Tables
tables_of es = record { unary = λ a n. first_answer (fits a (Unary n)) es; binary = λ a n m. first_answer (fits a (Binary n m)) es }

-- where the terms have the numbers v, an application asks the table a at these numbers, and its own number is r
abbrev pub Asks : List Term → Numbers → ℕ → ℤ → Arguments → Type 0
Asks ts v a r (Unary n) = (i x : ℕ) × (form_at ts i ≡ One a x) × (v x ≡ n) × (v i ≡ r)
Asks ts v a r (Binary n m) = (i x y : ℕ) × (form_at ts i ≡ Two a x y) × (v x ≡ n) × (v y ≡ m) × (v i ≡ r)

-- so it needs the entry
abbrev pub NeededBy : List Term → Numbers → Entry → Type 0
NeededBy ts v e = Asks ts v e.table e.answer e.arguments

-- the entries are just those that the applications need, in any order, and each once at least
pub record NeededEntries (ts : List Term) (v : Numbers) (es : List Entry) : Type 0 where
  pub unary : (i a x : ℕ) → form_at ts i ≡ One a x → Contains es (entry a (Unary (v x)) (v i))
  pub binary : (i a x y : ℕ) → form_at ts i ≡ Two a x y → Contains es (entry a (Binary (v x) (v y)) (v i))
  pub only : All (NeededBy ts v) es

-- the entry that a term of this form with the number r needs, where the terms have the numbers v
abbrev pub entry_for : Numbers → ℤ → Form → List Entry
entry_for v r Name = []
entry_for v r (One a x) = entry a (Unary (v x)) r ∷ []
entry_for v r (Two a x y) = entry a (Binary (v x) (v y)) r ∷ []

-- an entry for each application, in the order of the terms, where the first term has the index k
abbrev pub entries_from : ℕ → Numbers → List Term → List Entry
entries_from k v [] = []
entries_from k v (t ∷ ts) = entry_for v (v k) t.form ++ entries_from (suc k) v ts

abbrev pub entries_of : List Term → Numbers → List Entry
entries_of ts v = entries_from 0 v ts
