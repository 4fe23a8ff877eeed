-- What is proved of congruence.
use Rattle.std.specs.Prelude.{◌≡◌, ℕ, ◌<◌, ◌≤◌, true, List, length, pos, All}
use Rattle.sheet.specs.declared.term.Term.{Term}
use Rattle.engine.specs.Meaning.{Numbers, Tables, Interprets}
use Rattle.engine.specs.Terms.{arguments_below}
use Rattle.congruence.specs.declared.entry.Entry.{Entry}
use Rattle.congruence.specs.Congruence.{Congruent}
use Rattle.congruence.specs.Entries.{NeededEntries, entries_of, tables_of}
use Rattle.congruence.specs.Classes.{class_numbers, class_of}
use Rattle.congruence.specs.Closure.{closure}

-- tables for the numbers v: any list of the entries that the applications need makes them, and there is one
pub record Interpreted (ts : List Term) (v : Numbers) : Type 0 where
  pub first_fit : (es : List Entry) → NeededEntries ts v es → Interprets (tables_of es) ts v
  pub entries : NeededEntries ts v (entries_of ts v)

abbrev pub CongruenceSuffices : Type 0
CongruenceSuffices = (ts : List Term) (v : Numbers) → v 0 ≡ pos 0 → Congruent ts v → Interpreted ts v

abbrev pub CongruenceIsNeeded : Type 0
CongruenceIsNeeded = (ts : List Term) (m : Tables) (v : Numbers) → Interprets m ts v → (v 0 ≡ pos 0) × Congruent ts v

-- the terms of the pair have one number
abbrev pub Equal : Numbers → ℕ × ℕ → Type 0
Equal v p = v p.0 ≡ v p.1

-- a and b have one number in every choice of numbers and tables that interprets the terms and makes the terms of each pair equal
abbrev pub EqualBy : List Term → List (ℕ × ℕ) → ℕ → ℕ → Type 0
EqualBy ts pairs a b = (m : Tables) (v : Numbers) → Interprets m ts v → All (Equal v) pairs → v a ≡ v b

-- each argument, and each term of a pair, is one of the first n terms
abbrev pub ArgumentsBelow : ℕ → List Term → Type 0
ArgumentsBelow n ts = All (λ t. arguments_below n t.form ≡ true) ts

abbrev pub PairsBelow : ℕ → List (ℕ × ℕ) → Type 0
PairsBelow n pairs = All (λ p. (p.0 < n) × (p.1 < n)) pairs

-- the classes cl of n terms, each by its least term, hold just the terms that the pairs make equal. That no class is too small is so because
-- the class numbers are themselves such a choice
pub record ExactClasses (n : ℕ) (ts : List Term) (pairs : List (ℕ × ℕ)) (cl : List ℕ) : Type 0 where
  pub each : length cl ≡ n
  pub least : (t : ℕ) → t < n → (class_of cl t ≤ t) × (class_of cl (class_of cl t) ≡ class_of cl t)
  pub equal : (a b : ℕ) → a < n → b < n → class_of cl a ≡ class_of cl b → EqualBy ts pairs a b
  pub whole : (a b : ℕ) → a < n → b < n → EqualBy ts pairs a b → class_of cl a ≡ class_of cl b
  pub interprets : Interprets (tables_of (entries_of ts (class_numbers cl))) ts (class_numbers cl)
  pub chosen : All (Equal (class_numbers cl)) pairs

abbrev pub ClosureIsExact : Type 0
ClosureIsExact = (n : ℕ) (ts : List Term) (pairs : List (ℕ × ℕ)) → length ts ≤ n → ArgumentsBelow n ts → PairsBelow n pairs → ExactClasses n ts pairs (closure n ts pairs)
