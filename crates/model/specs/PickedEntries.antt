-- The entries of a set-up: each that an application needs, once, in the order of the first terms that need them.
use Rattle.std.specs.Prelude.{◌≡◌, ℕ, ◌<◌, Bool, if◌then◌else◌, ◌&&◌, List, [], ◌∷◌, ◌++◌, ◌==◌}
use Rattle.std.specs.List.{AllPairs, list_any}
use Rattle.std.specs.Ordering.{int_eq}
use Rattle.sheet.specs.declared.term.Term.{Term}
use Rattle.engine.specs.Meaning.{Numbers, form_at}
use Rattle.congruence.specs.declared.entry.Arguments.{Arguments}
use Rattle.congruence.specs.declared.entry.Entry.{Entry}
use Rattle.congruence.specs.Entries.{NeededEntries, entries_of, entry_for, same_arguments}

abbrev pub same_entry : Entry → Entry → Bool
same_entry d e = d.table == e.table && (same_arguments d.arguments e.arguments && int_eq d.answer e.answer)

-- the entry e behind the others, unless it stands among them
abbrev pub with_entry : List Entry → Entry → List Entry
with_entry es e = if list_any (same_entry e) es then es else es ++ e ∷ []

abbrev pub with_entries : List Entry → List Entry → List Entry
with_entries es [] = es
with_entries es (f ∷ fs) = with_entries (with_entry es f) fs

-- of the entries of all applications, in the order of the terms, each once
abbrev pub entries_once : List Term → Numbers → List Entry
entries_once ts v = with_entries [] (entries_of ts v)

-- what the table is asked
abbrev pub asked_of : Entry → ℕ × Arguments
asked_of e = (e.table, e.arguments)

module _ (ts : List Term) (v : Numbers) where
  -- term t needs the entry, and no term before it does
  pub record FirstNeeds (e : Entry) (t : ℕ) : Type 0 where
    pub needs : entry_for v (v t) (form_at ts t) ≡ e ∷ []
    pub first : (s : ℕ) → s < t → entry_for v (v s) (form_at ts s) ≡ e ∷ [] → ⊥

  -- Just the entries that the applications need. Each stands once, and no table is asked the same twice. They are in the order of the first terms that need them
  pub record PickedEntries (es : List Entry) : Type 0 where
    pub needed : NeededEntries ts v es
    pub once : AllPairs (λ d e. asked_of d ≡ asked_of e → ⊥) es
    pub ordered : AllPairs (λ d e. (s t : ℕ) → FirstNeeds d s → FirstNeeds e t → s < t) es
