-- Groups of terms that are always equal, each named by its least term.
use Rattle.std.proofs.Common.{◌≡◌, ◌↔◌, ℕ, ◌<◌, ◌≤◌, List, length, get_or, sym, refl, ◌∙◌, inl, inr, arith}
use Rattle.std.proofs.lemmas.Bool.{cases_lt}
use Rattle.std.proofs.lemmas.Grind.{same_number_lists}
use Rattle.engine.specs.Equalities.{AlwaysEqual, EqualityClasses}
use Rattle.engine.specs.States.{State, active_rows}

module _ (s : State) (groups : List ℕ) (classes : EqualityClasses s groups) where
  abbrev Always : ℕ → ℕ → Type 0
  Always a b = AlwaysEqual s.terms (active_rows s.rows) s.codes a b

  pub group_at_most : (t : ℕ) → t < length s.terms → get_or groups t 0 ≤ t
  group_at_most t l = (classes.named t l).least t l (λ m v e. refl)

  -- the term that names a group is of the group
  pub group_of_name : (t : ℕ) → t < length s.terms → get_or groups (get_or groups t 0) 0 ≡ get_or groups t 0
  group_of_name t l = let low = group_at_most t l in (classes.exact (get_or groups t 0) t (omega arith) l).1 (classes.named t l).equal

  -- a term names its group exactly where none before it is always equal to it
  pub names_its_group : (t : ℕ) → t < length s.terms → (get_or groups t 0 ≡ t) ↔ ((b : ℕ) → b < t → Always b t → ⊥)
  names_its_group t l = (
    (λ e b lb always. let low = (classes.named t l).least b (omega arith) always in absurd (omega arith)),
    (λ none.
        let low = group_at_most t l in
        elim (cases_lt (get_or groups t 0) t) [ inl lt ↦ absurd (none (get_or groups t 0) lt (classes.named t l).equal) | inr le ↦ omega arith ]),
  )

-- no other list names the groups
names_at_most : (s : State) (gs hs : List ℕ) → EqualityClasses s gs → EqualityClasses s hs → (t : ℕ) → t < length s.terms → get_or gs t 0 ≤ get_or hs t 0
names_at_most s gs hs cg ch t l = let low = group_at_most s hs ch t l in (cg.named t l).least (get_or hs t 0) (omega arith) (ch.named t l).equal

pub groups_only : (s : State) (gs hs : List ℕ) → EqualityClasses s gs → EqualityClasses s hs → gs ≡ hs
groups_only s gs hs cg ch =
    same_number_lists gs hs (cg.each ∙ sym ch.each)
    (λ t l.
    let n = cg.each in
    let lt : t < length s.terms = omega arith in
    let below = names_at_most s gs hs cg ch t lt in
    let above = names_at_most s hs gs ch cg t lt in
    omega arith)
