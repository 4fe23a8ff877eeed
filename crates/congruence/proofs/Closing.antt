-- What rounds of closure do: each leaves all as it was, and then the classes are closed, or it leaves fewer classes.
use Rattle.std.proofs.Common.{◌≡◌, ℕ, zero, suc, ◌+◌, ◌<◌, ◌≤◌, Bool, true, false, cond, eqb, ◌⊎◌, List, length, sym, refl, ap, ◌∙◌, subst, inl, inr, add-one, arith}
use Rattle.std.proofs.lemmas.Bool.{cases_eq, cases_order, cond_both, eqb-true, eq-eqb, ne_eqb}
use Rattle.std.proofs.lemmas.Bool.Decides.{nat_tests}
use Rattle.sheet.specs.declared.term.Term.{Term}
use Rattle.engine.specs.Meaning.{form_at}
use Rattle.congruence.specs.Classes.{class_of, merge}
use Rattle.congruence.specs.Closure.{is_congruent, close_pair, close_term, close_terms, close_round, close_rounds}
use Rattle.congruence.proofs.Merging.{NamedByLeast, merged_to, merged_one, merge_at, merge_length, merge_named, merge_same}

-- how many numbers below n pass the test
abbrev count_below : (ℕ → Bool) → ℕ → ℕ
count_below test zero = 0
count_below test (suc n) = cond (test n) 1 0 + count_below test n

count_at_most : (test : ℕ → Bool) (n : ℕ) → count_below test n ≤ n
count_at_most test zero = omega arith
count_at_most test (suc n) = let c = count_at_most test n in grind arith

count_le : (p q : ℕ → Bool) (n : ℕ) → ((k : ℕ) → p k ≡ true → q k ≡ true) → count_below p n ≤ count_below q n
count_le p q zero f = omega arith
count_le p q (suc n) f = let c = count_le p q n f in let g = f n in grind arith

-- fewer numbers pass a test that is no weaker and that one of them fails
count_less : (p q : ℕ → Bool) (n h : ℕ) → ((k : ℕ) → p k ≡ true → q k ≡ true) → h < n → p h ≡ false → q h ≡ true → count_below p n < count_below q n
count_less p q zero h f l a b = absurd (omega arith)
count_less p q (suc n) h f l a b =
    elim (cases_eq h n) [
      | inl e ↦ let c = count_le p q n f in let x : p n ≡ false = ap p (sym e) ∙ a in let y : q n ≡ true = ap q (sym e) ∙ b in grind arith
      | inr d ↦ let c = count_less p q n h f (omega arith) a b in let g = f n in grind arith
    ]

-- the number of classes with terms among the first n
abbrev class_count : ℕ → List ℕ → ℕ
class_count n cl = count_below (λ t. eqb (class_of cl t) t) n

-- a merge of two classes leaves fewer
merge_fewer : (n a b : ℕ) (cl : List ℕ) → NamedByLeast cl → a < n → b < n → (class_of cl a ≡ class_of cl b → ⊥) → class_count n (merge a b cl) < class_count n cl
merge_fewer n a b cl named la lb d =
    elim (cases_order (class_of cl a) (class_of cl b)) [
      | inl e ↦ absurd (d e)
      | inr h ↦ elim h [
        | inl l ↦ without (class_of cl b) (omega (arith, named.least b)) (named.own b) (grind (arith, nat_tests))
        | inr l ↦ without (class_of cl a) (omega (arith, named.least a)) (named.own a) (grind (arith, nat_tests))
      ]
    ]
  where
    still : (k : ℕ) → eqb (class_of (merge a b cl) k) k ≡ true → eqb (class_of cl k) k ≡ true
    still k h =
        eq-eqb (class_of cl k) k
        (merged_one (λ c. c ≡ k → class_of cl k ≡ k) (class_of cl a) (class_of cl b) (class_of cl k)
        (λ e. subst (λ c. class_of cl c ≡ c) e (named.own a))
        (λ e. subst (λ c. class_of cl c ≡ c) e (named.own b))
        (λ e. e)
        (sym (merge_at a b cl k) ∙ eqb-true (class_of (merge a b cl) k) k h))

    without : (k : ℕ) → k < n → class_of cl k ≡ k → (merged_to (class_of cl a) (class_of cl b) k ≡ k → ⊥) → class_count n (merge a b cl) < class_count n cl
    without k l o g =
        count_less (λ t. eqb (class_of (merge a b cl) t) t) (λ t. eqb (class_of cl t) t) n k still l
        (ne_eqb (class_of (merge a b cl) k) k (λ e. g (ap (merged_to (class_of cl a) (class_of cl b)) (sym o) ∙ sym (merge_at a b cl k) ∙ e)))
        (eq-eqb (class_of cl k) k o)

-- what each merge that closure asks for keeps, rounds keep
module _ (ts : List Term) (P : List ℕ → Type 0) (keep : (i j : ℕ) (cl : List ℕ) → i < length ts → j < length ts → is_congruent cl (form_at ts i) (form_at ts j) ≡ true → P cl → P (merge i j cl)) where
  pair_keeps : (i j : ℕ) (cl : List ℕ) → i < length ts → j < length ts → P cl → P (close_pair ts i j cl)
  pair_keeps i j cl l m p = cond_both (is_congruent cl (form_at ts i) (form_at ts j)) (merge i j cl) cl P (λ e. keep i j cl l m e p) (λ _. p)

  term_keeps : (i j : ℕ) (cl : List ℕ) → i < length ts → j ≤ i → P cl → P (close_term ts i j cl)
  term_keeps i zero cl l m p = p
  term_keeps i (suc j) cl l m p = pair_keeps i j (close_term ts i j cl) l (omega arith) (term_keeps i j cl l (omega arith) p)

  terms_keep : (i : ℕ) (cl : List ℕ) → i ≤ length ts → P cl → P (close_terms ts i cl)
  terms_keep zero cl l p = p
  terms_keep (suc i) cl l p = term_keeps i i (close_terms ts i cl) (omega arith) (omega arith) (terms_keep i cl (omega arith) p)

  pub round_keeps : (cl : List ℕ) → P cl → P (close_round ts cl)
  round_keeps cl p = terms_keep (length ts) cl (omega arith) p

  pub rounds_keep : (k : ℕ) (cl : List ℕ) → P cl → P (close_rounds ts k cl)
  rounds_keep zero cl p = p
  rounds_keep (suc k) cl p = rounds_keep k (close_round ts cl) (round_keeps cl p)

-- terms i and j are in one class if they are congruent
abbrev Joined : List Term → ℕ → ℕ → List ℕ → Type 0
Joined ts i j cl = is_congruent cl (form_at ts i) (form_at ts j) ≡ true → class_of cl i ≡ class_of cl j

-- so are term i and each congruent one of the first j terms
abbrev JoinedBelow : List Term → ℕ → ℕ → List ℕ → Type 0
JoinedBelow ts i j cl = (k : ℕ) → k < j → Joined ts i k cl

-- so are each of the first n terms and each congruent one before it
abbrev pub Closed : List Term → ℕ → List ℕ → Type 0
Closed ts n cl = (i : ℕ) → i < n → JoinedBelow ts i i cl

-- from the classes cl come new ones: they are the same, and F holds, or they are fewer
abbrev Outcome : ℕ → List ℕ → List ℕ → Type 0 → Type 0
Outcome n cl new F = ((new ≡ cl) × F) ⊎ (class_count n new < class_count n cl)

-- two outcomes, one after the other
in_turn : (n : ℕ) (cl mid new : List ℕ) (F : Type 0) (G : List ℕ → Type 0) (H : Type 0) → (F → G cl → H) → Outcome n cl mid F → Outcome n mid new (G mid) → Outcome n cl new H
in_turn n cl mid new F G H f (inl (e, x)) (inl (d, y)) = inl (d ∙ e, f x (subst G e y))
in_turn n cl mid new F G H f (inl (e, x)) (inr l) = let c = ap (class_count n) e in inr (omega arith)
in_turn n cl mid new F G H f (inr l) (inl (d, y)) = let c = ap (class_count n) d in inr (omega arith)
in_turn n cl mid new F G H f (inr l) (inr m) = inr (omega arith)

module _ (ts : List Term) where
  keeps_named : (i j : ℕ) (cl : List ℕ) → i < length ts → j < length ts → is_congruent cl (form_at ts i) (form_at ts j) ≡ true → NamedByLeast cl → NamedByLeast (merge i j cl)
  keeps_named i j cl l m e n = merge_named i j cl n

  pair_outcome : (i j : ℕ) (cl : List ℕ) → NamedByLeast cl → i < length ts → j < length ts → Outcome (length ts) cl (close_pair ts i j cl) (Joined ts i j cl)
  pair_outcome i j cl n l m = grind (arith, nat_tests, merge_same, merge_fewer (length ts) i j cl n l m)

  term_outcome : (i j : ℕ) (cl : List ℕ) → NamedByLeast cl → i < length ts → j ≤ i → Outcome (length ts) cl (close_term ts i j cl) (JoinedBelow ts i j cl)
  term_outcome i zero cl n l m = inl (refl, λ k h. absurd (omega arith))
  term_outcome i (suc j) cl n l m =
      let mid = close_term ts i j cl in
      in_turn (length ts) cl mid (close_term ts i (suc j) cl) (JoinedBelow ts i j cl) (Joined ts i j) (JoinedBelow ts i (suc j) cl)
      (λ f g k h. elim (cases_eq k j) [ inl e ↦ subst (λ k. Joined ts i k cl) (sym e) g | inr d ↦ f k (omega arith) ])
      (term_outcome i j cl n l (omega arith))
      (pair_outcome i j mid (term_keeps ts NamedByLeast keeps_named i j cl l (omega arith) n) l (omega arith))

  terms_outcome : (i : ℕ) (cl : List ℕ) → NamedByLeast cl → i ≤ length ts → Outcome (length ts) cl (close_terms ts i cl) (Closed ts i cl)
  terms_outcome zero cl n l = inl (refl, λ k h. absurd (omega arith))
  terms_outcome (suc i) cl n l =
      let mid = close_terms ts i cl in
      in_turn (length ts) cl mid (close_terms ts (suc i) cl) (Closed ts i cl) (JoinedBelow ts i i) (Closed ts (suc i) cl)
      (λ f g k h. elim (cases_eq k i) [ inl e ↦ subst (λ k. JoinedBelow ts k k cl) (sym e) g | inr d ↦ f k (omega arith) ])
      (terms_outcome i cl n (omega arith))
      (term_outcome i i mid (terms_keep ts NamedByLeast keeps_named i cl (omega arith) n) (omega arith) (omega arith))

  rounds_next : (k : ℕ) (cl : List ℕ) → close_rounds ts (suc k) cl ≡ close_round ts (close_rounds ts k cl)
  rounds_next zero cl = refl
  rounds_next (suc k) cl = rounds_next k (close_round ts cl)

  -- one round more
  pub rounds_more : (k : ℕ) (cl : List ℕ) → close_rounds ts (k + 1) cl ≡ close_round ts (close_rounds ts k cl)
  rounds_more k cl = rw (add-one k) (rounds_next k cl)

  -- after a round that changes nothing no round changes anything
  pub rounds_settled : (k n : ℕ) (cl : List ℕ) → k ≤ n → close_round ts (close_rounds ts k cl) ≡ close_rounds ts k cl → close_rounds ts n cl ≡ close_rounds ts k cl
  rounds_settled k zero cl l e = let z : k ≡ 0 = omega arith in ap (λ n. close_rounds ts n cl) (sym z)
  rounds_settled k (suc n) cl l e =
      elim (cases_eq k (suc n)) [
        | inl s ↦ ap (λ n. close_rounds ts n cl) (sym s)
        | inr d ↦ rounds_next n cl ∙ ap (close_round ts) (rounds_settled k n cl (omega arith) e) ∙ e
      ]

  -- as many rounds as there are classes close them
  rounds_close : (k : ℕ) (cl : List ℕ) → NamedByLeast cl → class_count (length ts) cl ≤ k → Closed ts (length ts) (close_rounds ts k cl)
  rounds_close zero cl n l = elim (terms_outcome (length ts) cl n (omega arith)) [ inl (e, c) ↦ c | inr f ↦ absurd (omega arith) ]
  rounds_close (suc k) cl n l =
      elim (terms_outcome (length ts) cl n (omega arith)) [
        | inl (e, c) ↦ subst (Closed ts (length ts)) (sym (rounds_settled 0 (suc k) cl (omega arith) e)) c
        | inr f ↦ rounds_close k (close_round ts cl) (round_keeps ts NamedByLeast keeps_named cl n) (omega arith)
      ]

  -- and so do as many as there are terms
  pub rounds_suffice : (cl : List ℕ) → NamedByLeast cl → Closed ts (length ts) (close_rounds ts (length ts) cl)
  rounds_suffice cl n = rounds_close (length ts) cl n (count_at_most (λ t. eqb (class_of cl t) t) (length ts))

  pub rounds_named : (k : ℕ) (cl : List ℕ) → NamedByLeast cl → NamedByLeast (close_rounds ts k cl)
  rounds_named k cl n = rounds_keep ts NamedByLeast keeps_named k cl n

  keeps_length : (n i j : ℕ) (cl : List ℕ) → i < length ts → j < length ts → is_congruent cl (form_at ts i) (form_at ts j) ≡ true → length cl ≡ n → length (merge i j cl) ≡ n
  keeps_length n i j cl l m e s = merge_length i j cl ∙ s

  pub rounds_length : (k : ℕ) (cl : List ℕ) → length (close_rounds ts k cl) ≡ length cl
  rounds_length k cl = rounds_keep ts (λ new. length new ≡ length cl) (keeps_length (length cl)) k cl refl
