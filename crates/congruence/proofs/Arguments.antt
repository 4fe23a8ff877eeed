-- Applications and their arguments are among the terms, and numbers are congruent where their equalities there are.
use Rattle.std.proofs.Common.{◌≡◌, ℕ, ◌<◌, true, List, length, sym, ap, ◌∙◌, subst, inl, inr, arith}
use Rattle.std.proofs.lemmas.Bool.{cases_lt}
use Rattle.std.proofs.lemmas.Bool.Decides.{nat_tests}
use Rattle.std.proofs.lemmas.List.{get_or_past}
use Rattle.sheet.specs.declared.term.Form.{Form}
use Rattle.sheet.specs.declared.term.Form.TheVariants.{Name, One, Two}
use Rattle.sheet.specs.declared.term.Term.{Term}
use Rattle.engine.specs.Meaning.{Numbers, form_at}
use Rattle.engine.specs.Terms.{arguments_below, zero_term}
use Rattle.congruence.specs.Claims.{ArgumentsBelow}
use Rattle.congruence.specs.Congruence.{Congruent, CongruentRelation, EqualExactlyWhere}

-- a term whose form is not a name is one of the terms
pub application_within : (ts : List Term) (i : ℕ) → (form_at ts i ≡ Name → ⊥) → i < length ts
application_within ts i n = elim (cases_lt i (length ts)) [ inl l ↦ l | inr l ↦ absurd (n (ap (λ (t : Term). t.form) (get_or_past ts i zero_term l))) ]

module _ (n : ℕ) (ts : List Term) (within : ArgumentsBelow n ts) where
  arguments_within : (i : ℕ) (f : Form) → form_at ts i ≡ f → (f ≡ Name → ⊥) → (i < length ts) × (arguments_below n f ≡ true)
  arguments_within i f e applied =
      let l : i < length ts = application_within ts i (λ h. applied (sym e ∙ h)) in
      (l, subst (λ g. arguments_below n g ≡ true) e (within i zero_term l))

  unary_within : (i a x : ℕ) → form_at ts i ≡ One a x → (i < length ts) × (x < n)
  unary_within i a x e = let (l, b) = arguments_within i (One a x) e (λ h. cc) in (l, grind (arith, nat_tests))

  binary_within : (i a x y : ℕ) → form_at ts i ≡ Two a x y → (i < length ts) × (x < n) × (y < n)
  binary_within i a x y e = let (l, b) = arguments_within i (Two a x y) e (λ h. cc) in (l, grind (arith, nat_tests), grind (arith, nat_tests))

-- numbers that are equal exactly where a congruent relation holds respect congruence
pub congruent_by : (ts : List Term) (equal : ℕ → ℕ → Type 0) (w : Numbers) → ArgumentsBelow (length ts) ts
    → EqualExactlyWhere (length ts) equal w → CongruentRelation ts equal → Congruent ts w
congruent_by ts equal w within same c =
    record {
      unary = λ i j a x y p q e.
          let (li, lx) = unary_within (length ts) ts within i a x p in
          let (lj, ly) = unary_within (length ts) ts within j a y q in
          (same i j li lj).0 (c.unary i j a x y p q ((same x y lx ly).1 e));
      binary = λ i j a x y z u p q d e.
          let (li, lx, ly) = binary_within (length ts) ts within i a x y p in
          let (lj, lz, lu) = binary_within (length ts) ts within j a z u q in
          (same i j li lj).0 (c.binary i j a x y z u p q ((same x z lx lz).1 d) ((same y u ly lu).1 e));
    }
