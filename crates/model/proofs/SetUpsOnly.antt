-- One set-up is picked where the dates are.
use Rattle.std.proofs.Common.{◌≡◌, ◌∙◌, ap, sym, ℕ, Bool, List, ℤ}
use Rattle.sheet.specs.declared.row.Row.{Row}
use Rattle.sheet.specs.declared.term.Term.{Term}
use Rattle.engine.specs.Meaning.{numbers_in}
use Rattle.engine.specs.Rows.{RowKind}
use Rattle.engine.specs.States.{State, active_rows}
use Rattle.engine.specs.Terms.{seats_of}
use Rattle.congruence.specs.declared.entry.Entry.{Entry}
use Rattle.model.specs.PickedEntries.{entries_once}
use Rattle.model.specs.Numbering.{numbers_of}
use Rattle.model.specs.SetUps.{PickedSetUp}
use Rattle.model.proofs.Groups.{groups_only}

module _ (rule : List Term → List Row → List ℕ → Type 0) (counts : RowKind → Bool) (picks : List Term → List Row → List ℕ → List ℤ → Type 0) (s : State) where
  pub set_up_only : ((a b : List ℤ) → picks s.terms (active_rows s.rows) s.codes a → picks s.terms (active_rows s.rows) s.codes b → a ≡ b)
      → (ns ms : List ℤ) (es fs : List Entry) → PickedSetUp rule counts picks s ns es → PickedSetUp rule counts picks s ms fs → (ms ≡ ns) × (fs ≡ es)
  set_up_only once ns ms es fs p q =
      let dates : q.dates ≡ p.dates = once q.dates p.dates q.dated.picked p.dated.picked in
      let groups : q.groups ≡ p.groups = groups_only s q.groups p.groups q.grouped p.grouped in
      let numbers : ms ≡ ns = q.numbered ∙ (λ i. numbers_of (seats_of s.terms) (dates i) (groups i)) ∙ sym p.numbered in
      (numbers, q.listed ∙ ap (λ xs. entries_once s.terms (numbers_in xs)) numbers ∙ sym p.listed)
