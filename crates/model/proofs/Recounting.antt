-- What a recount gives for each form of a term.
use Rattle.std.proofs.Common.{◌≡◌, ℕ, zero, suc, ◌<◌, ◌≤◌, true, ltb, eqb, List, [], ◌∷◌, length, get_or, Some, None, Option, ℤ, pos, slice_get, sym, refl, ap, ◌∙◌, subst, inl, inr, arith}
use Rattle.std.proofs.lemmas.Bool.{cases_eq, cases_lt, cond-true, cond-false, lt-ltb, le-ltb, ne_eqb}
use Rattle.std.proofs.lemmas.Bool.Decides.{nat_tests}
use Rattle.std.proofs.lemmas.List.{get_or_append_left, get_or_push, length_push}
use Rattle.std.proofs.lemmas.Option.{none-some}
use Rattle.sheet.specs.declared.term.Form.{Form}
use Rattle.sheet.specs.declared.term.Form.TheVariants.{Name, One, Two}
use Rattle.sheet.specs.declared.term.Term.{Term}
use Rattle.engine.specs.Fitting.{all_terms_fit}
use Rattle.engine.specs.Meaning.{form_at}
use Rattle.engine.specs.Terms.{arguments_below}
use Rattle.engine.proofs.Fitting.{arguments_earlier}
use Rattle.congruence.specs.declared.entry.Entry.{Entry}
use Rattle.congruence.proofs.Arguments.{application_within}
use Rattle.model.specs.Recounting.{answer_binary, answer_unary, known_at, names_before, number_by, recount, recounts}

-- no more names stand before a term than terms do
pub names_before_few : (ts : List Term) (t : ℕ) → names_before ts t ≤ t
names_before_few ts zero = omega arith
names_before_few ts (suc t) = grind (arith, nat_tests, names_before_few ts t)

any_terms : (ts : List Term) → all_terms_fit ts ≡ true → 0 < length ts
any_terms [] fit = cc
any_terms (t ∷ ts) fit = omega arith

pub known_is : (known : List (Option ℤ)) (i : ℕ) → known_at known i ≡ get_or known i None
known_is [] i = refl
known_is (n ∷ known) zero = refl
known_is (n ∷ known) (suc i) = known_is known i

module _ (ts : List Term) (names : List ℤ) (es : List Entry) where
  -- one number, or none, for each of the first t terms
  pub recounts_long : (t : ℕ) → length (recounts ts names es t) ≡ t
  recounts_long zero = refl
  recounts_long (suc t) = omega (arith, length_push (recounts ts names es t) (number_by ts names es (recounts ts names es t) t (form_at ts t)), recounts_long t)

  -- what is found for a term stays
  abbrev found : ℕ → Option ℤ
  found t = number_by ts names es (recounts ts names es t) t (form_at ts t)

  found_at : (t k : ℕ) → k < t → get_or (recounts ts names es t) k None ≡ found k
  found_at zero k l = absurd (omega arith)
  found_at (suc t) k l =
      elim (cases_eq k t) [
        | inl e ↦ get_or_push (recounts ts names es t) (found t) None k (recounts_long t ∙ sym e) ∙ ap found (sym e)
        | inr d ↦
            let m : k < length (recounts ts names es t) = omega (arith, recounts_long t) in
            get_or_append_left (recounts ts names es t) (found t ∷ []) None k m ∙ found_at t k (omega arith)
      ]

  recount_found : (t : ℕ) → t < length ts → recount ts names es t ≡ found t
  recount_found t l =
      cond-true (ltb t (length ts)) (known_at (recounts ts names es (suc t)) t) None (lt-ltb t (length ts) l)
      ∙ known_is (recounts ts names es (suc t)) t ∙ found_at (suc t) t (omega arith)

  recount_known : (t k : ℕ) → k < t → t < length ts → known_at (recounts ts names es t) k ≡ recount ts names es k
  recount_known t k l m = known_is (recounts ts names es t) k ∙ found_at t k l ∙ sym (recount_found k (omega arith))

  pub recount_within : (t : ℕ) (n : ℤ) → recount ts names es t ≡ Some n → t < length ts
  recount_within t n e =
      elim (cases_lt t (length ts)) [
        | inl l ↦ l
        | inr l ↦ absurd (none-some n (sym (cond-false (ltb t (length ts)) (known_at (recounts ts names es (suc t)) t) None (le-ltb t (length ts) l)) ∙ e))
      ]

  -- a name but zero has its place among the numbers of the names
  pub recount_name : (t : ℕ) → 0 < t → t < length ts → form_at ts t ≡ Name → recount ts names es t ≡ slice_get names (names_before ts t)
  recount_name t z l e =
      recount_found t l ∙ ap (number_by ts names es (recounts ts names es t) t) e
      ∙ cond-false (eqb t 0) (Some (pos 0)) (slice_get names (names_before ts t)) (ne_eqb t 0 (omega arith))

  module _ (fit : all_terms_fit ts ≡ true) where
    arguments_first : (t : ℕ) (f : Form) → form_at ts t ≡ f → t < length ts → arguments_below t f ≡ true
    arguments_first t f e l = subst (λ g. arguments_below t g ≡ true) e (arguments_earlier ts t fit l)

    -- an application has what the entries answer at the numbers of its arguments
    pub recount_one : (t a x : ℕ) → form_at ts t ≡ One a x → (x < t) × (recount ts names es t ≡ answer_unary ts names es a (recount ts names es x))
    recount_one t a x e =
        let l : t < length ts = application_within ts t (λ h. cc) in
        let b = arguments_first t (One a x) e l in
        let m : x < t = grind (arith, nat_tests) in (
          m,
          recount_found t l ∙ ap (number_by ts names es (recounts ts names es t) t) e ∙ ap (answer_unary ts names es a) (recount_known t x m l),
        )

    pub recount_two : (t a x y : ℕ) → form_at ts t ≡ Two a x y
        → (x < t) × (y < t) × (recount ts names es t ≡ answer_binary ts names es a (recount ts names es x) (recount ts names es y))
    recount_two t a x y e =
        let l : t < length ts = application_within ts t (λ h. cc) in
        let b = arguments_first t (Two a x y) e l in
        let m : x < t = grind (arith, nat_tests) in
        let o : y < t = grind (arith, nat_tests) in
        let known = known_at (recounts ts names es t) in (
          m,
          o,
          recount_found t l ∙ ap (number_by ts names es (recounts ts names es t) t) e
              ∙ ap (λ n. answer_binary ts names es a n (known y)) (recount_known t x m l)
              ∙ ap (answer_binary ts names es a (recount ts names es x)) (recount_known t y o l),
        )

    zero_named : (f : Form) → form_at ts 0 ≡ f → form_at ts 0 ≡ Name
    zero_named Name e = e
    zero_named (One a x) e = let l = (recount_one 0 a x e).0 in absurd (omega arith)
    zero_named (Two a x y) e = let l = (recount_two 0 a x y e).0 in absurd (omega arith)

    pub recount_zero : recount ts names es 0 ≡ Some (pos 0)
    recount_zero = recount_found 0 (any_terms ts fit) ∙ ap (number_by ts names es [] 0) (zero_named (form_at ts 0) refl)
