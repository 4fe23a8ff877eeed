-- What merging two classes does: it keeps terms of one class together, and the names and the numbers of classes stay right.
use Rattle.std.proofs.Common.{◌≡◌, ℕ, zero, suc, ◌<◌, ◌≤◌, min, max, ◌⊎◌, List, [], ◌∷◌, length, pos, All, sym, refl, ap, ◌∙◌, subst, inl, inr, arith}
use Rattle.std.proofs.lemmas.Bool.{cases_lt}
use Rattle.std.proofs.lemmas.Bool.Decides.{nat_tests}
use Rattle.std.proofs.lemmas.List.{get_or_past, length-map}
use Rattle.std.proofs.lemmas.List.Elements.{All-nil, All-cons, All-head, All-tail}
use Rattle.std.proofs.lemmas.List.FromFn.{get_or-range_with_len, length-range_with_len}
use Rattle.engine.specs.Meaning.{Numbers}
use Rattle.congruence.specs.Classes.{class_of, singletons, replaced, rename_class, merge, merge_all, class_numbers}
use Rattle.congruence.specs.Claims.{Equal, PairsBelow}

-- what class c becomes where the classes x and y become one
abbrev pub merged_to : ℕ → ℕ → ℕ → ℕ
merged_to x y c = replaced (max x y) (min x y) c

merged_below : (x y c : ℕ) → merged_to x y c ≤ c
merged_below x y c = grind (arith, nat_tests)

merged_twice : (x y c : ℕ) → merged_to x y (merged_to x y c) ≡ merged_to x y c
merged_twice x y c = grind (arith, nat_tests)

-- that is x, y or c
pub merged_one : (P : ℕ → Type 0) (x y c : ℕ) → P x → P y → P c → P (merged_to x y c)
merged_one P x y c p q r =
    elim (one x y c) [ inl e ↦ subst P (sym e) p | inr h ↦ elim h [ inl e ↦ subst P (sym e) q | inr e ↦ subst P (sym e) r ] ]
  where
    one : (x y c : ℕ) → (merged_to x y c ≡ x) ⊎ ((merged_to x y c ≡ y) ⊎ (merged_to x y c ≡ c))
    one x y c = grind (arith, nat_tests)

merged_number : (v : Numbers) (x y c : ℕ) → v x ≡ v y → v (merged_to x y c) ≡ v c
merged_number v x y c e = grind (arith, nat_tests)

rename_at : (high low : ℕ) (cl : List ℕ) (t : ℕ) → low ≤ high → class_of (rename_class high low cl) t ≡ replaced high low (class_of cl t)
rename_at high low [] t l = grind (arith, nat_tests)
rename_at high low (c ∷ cl) zero l = refl
rename_at high low (c ∷ cl) (suc t) l = rename_at high low cl t l

module _ (a b : ℕ) (cl : List ℕ) where
  pub merge_at : (t : ℕ) → class_of (merge a b cl) t ≡ merged_to (class_of cl a) (class_of cl b) (class_of cl t)
  merge_at t = rename_at _ _ cl t (omega arith)

  pub merge_length : length (merge a b cl) ≡ length cl
  merge_length = length-map cl _

  -- terms of one class stay in one class
  pub merge_keeps : (s t : ℕ) → class_of cl s ≡ class_of cl t → class_of (merge a b cl) s ≡ class_of (merge a b cl) t
  merge_keeps s t e = merge_at s ∙ ap (merged_to (class_of cl a) (class_of cl b)) e ∙ sym (merge_at t)

  -- and the two terms come into one
  pub merge_joins : class_of (merge a b cl) a ≡ class_of (merge a b cl) b
  merge_joins = merge_at a ∙ joined (class_of cl a) (class_of cl b) ∙ sym (merge_at b)
    where
      joined : (x y : ℕ) → merged_to x y x ≡ merged_to x y y
      joined x y = grind (arith, nat_tests)

-- a class renamed to itself stays as it is
rename_self : (c : ℕ) (cl : List ℕ) → rename_class c c cl ≡ cl
rename_self c [] = refl
rename_self c (d ∷ cl) = let e : replaced c c d ≡ d = grind (arith, nat_tests) in let r = rename_self c cl in cc

pub merge_same : (a b : ℕ) (cl : List ℕ) → class_of cl a ≡ class_of cl b → merge a b cl ≡ cl
merge_same a b cl e =
    let h : max (class_of cl a) (class_of cl b) ≡ class_of cl a = omega arith in
    let l : min (class_of cl a) (class_of cl b) ≡ class_of cl a = omega arith in
    (λ i. rename_class (h i) (l i) cl) ∙ rename_self (class_of cl a) cl

-- each class is named by a term of its own that no term of it comes before
pub record NamedByLeast (cl : List ℕ) : Type 0 where
  pub least : (t : ℕ) → class_of cl t ≤ t
  pub own : (t : ℕ) → class_of cl (class_of cl t) ≡ class_of cl t

pub merge_named : (a b : ℕ) (cl : List ℕ) → NamedByLeast cl → NamedByLeast (merge a b cl)
merge_named a b cl n = record {
  least = λ t. omega (arith, merge_at a b cl t, n.least t, merged_below (class_of cl a) (class_of cl b) (class_of cl t));
  own = λ t.
      let x = class_of cl a in
      let y = class_of cl b in
      let c = class_of cl t in
      let m = merge_at a b cl t in
      let d = merged_to x y c in
      let o = merged_one (λ k. class_of cl k ≡ k) x y c (n.own a) (n.own b) (n.own t) in
      ap (class_of (merge a b cl)) m ∙ merge_at a b cl d ∙ ap (merged_to x y) o ∙ merged_twice x y c ∙ sym m;
}

-- each of n terms has the number of the term that names its class
abbrev pub Sound : ℕ → Numbers → List ℕ → Type 0
Sound n v cl = (t : ℕ) → t < n → v (class_of cl t) ≡ v t

pub sound_equal : (n : ℕ) (v : Numbers) (cl : List ℕ) → Sound n v cl → (a b : ℕ) → a < n → b < n → class_of cl a ≡ class_of cl b → v a ≡ v b
sound_equal n v cl s a b la lb e = sym (s a la) ∙ ap v e ∙ s b lb

pub merge_sound : (n : ℕ) (v : Numbers) (a b : ℕ) (cl : List ℕ) → a < n → b < n → v a ≡ v b → Sound n v cl → Sound n v (merge a b cl)
merge_sound n v a b cl la lb e s t l = ap v (merge_at a b cl t) ∙ merged_number v (class_of cl a) (class_of cl b) (class_of cl t) (s a la ∙ e ∙ sym (s b lb)) ∙ s t l

-- at the start each of n terms is by itself
singletons_at : (n t : ℕ) → t < n → class_of (singletons n) t ≡ t
singletons_at n t l = omega (arith, get_or-range_with_len 0 n t 0 l)

singletons_past : (n t : ℕ) → n ≤ t → class_of (singletons n) t ≡ 0
singletons_past n t l = get_or_past (singletons n) t 0 (omega (arith, length-range_with_len 0 n))

singletons_zero : (n : ℕ) → class_of (singletons n) 0 ≡ 0
singletons_zero n = elim (cases_lt 0 n) [ inl l ↦ singletons_at n 0 l | inr l ↦ singletons_past n 0 l ]

pub singletons_named : (n : ℕ) → NamedByLeast (singletons n)
singletons_named n = record {
  least = λ t. elim (cases_lt t n) [ inl l ↦ omega (arith, singletons_at n t l) | inr l ↦ omega (arith, singletons_past n t l) ];
  own = λ t. elim (cases_lt t n) [
    | inl l ↦ ap (class_of (singletons n)) (singletons_at n t l)
    | inr l ↦ let e = singletons_past n t l in ap (class_of (singletons n)) e ∙ singletons_zero n ∙ sym e
  ];
}

pub singletons_sound : (n : ℕ) (v : Numbers) → Sound n v (singletons n)
singletons_sound n v t l = ap v (singletons_at n t l)

pub merge_all_length : (pairs : List (ℕ × ℕ)) (cl : List ℕ) → length (merge_all pairs cl) ≡ length cl
merge_all_length [] cl = refl
merge_all_length (p ∷ ps) cl = merge_all_length ps (merge p.0 p.1 cl) ∙ merge_length p.0 p.1 cl

pub merge_all_named : (pairs : List (ℕ × ℕ)) (cl : List ℕ) → NamedByLeast cl → NamedByLeast (merge_all pairs cl)
merge_all_named [] cl n = n
merge_all_named (p ∷ ps) cl n = merge_all_named ps (merge p.0 p.1 cl) (merge_named p.0 p.1 cl n)

pub merge_all_sound : (n : ℕ) (v : Numbers) (pairs : List (ℕ × ℕ)) (cl : List ℕ) → PairsBelow n pairs → All (Equal v) pairs → Sound n v cl → Sound n v (merge_all pairs cl)
merge_all_sound n v [] cl w e s = s
merge_all_sound n v (p ∷ ps) cl w e s =
    let here = All-head (λ p. (p.0 < n) × (p.1 < n)) p ps w in
    merge_all_sound n v ps (merge p.0 p.1 cl) (All-tail (λ p. (p.0 < n) × (p.1 < n)) p ps w) (All-tail (Equal v) p ps e)
    (merge_sound n v p.0 p.1 cl here.0 here.1 (All-head (Equal v) p ps e) s)

merge_all_keeps : (pairs : List (ℕ × ℕ)) (cl : List ℕ) (s t : ℕ) → class_of cl s ≡ class_of cl t → class_of (merge_all pairs cl) s ≡ class_of (merge_all pairs cl) t
merge_all_keeps [] cl s t e = e
merge_all_keeps (p ∷ ps) cl s t e = merge_all_keeps ps (merge p.0 p.1 cl) s t (merge_keeps p.0 p.1 cl s t e)

-- the terms of each pair are in one class
pub merge_all_joins : (pairs : List (ℕ × ℕ)) (cl : List ℕ) → All (Equal (class_numbers (merge_all pairs cl))) pairs
merge_all_joins [] cl = All-nil _
merge_all_joins (p ∷ ps) cl =
    All-cons (Equal (class_numbers (merge_all ps (merge p.0 p.1 cl)))) p ps
    (ap pos (merge_all_keeps ps (merge p.0 p.1 cl) p.0 p.1 (merge_joins p.0 p.1 cl)))
    (merge_all_joins ps (merge p.0 p.1 cl))
