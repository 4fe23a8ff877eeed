-- Ranks: what a code more does to them, which codes are valid, and which blocks have a seat.
use Rattle.std.proofs.Common.{◌≡◌, ℕ, ◌+◌, ◌-◌, ◌*◌, ◌/◌, ◌%◌, ◌<◌, ◌≤◌, true, cond, leb, ◌⊎◌, List, [], ◌∷◌, ◌++◌, map, length, get_or, take, drop, sym, refl, ap, ◌∙◌, subst, inl, inr, add-zero, add_assoc, zero-add, arith}
use Rattle.std.proofs.lemmas.List.{take-append-drop, get_or_append_left, get_or-map, get_or_push, length-map, length_push}
use Rattle.std.proofs.lemmas.Bool.Decides.{nat_tests}
use Rattle.std.proofs.lemmas.Bool.{and_from, and_parts, cases_eq, cases_lt, cases_order, cond-false, cond-true, eq-eqb, le-leb, leb-true, lt-leb, ne_eqb}
use Rattle.engine.specs.Arrangements.{opens_block, blocks, is_valid, rank_after, ranks_with, ranks_from, ranks}

pub opens_one : (c : ℕ) → c % 2 ≡ 0 → ◌≡◌ {A = ℕ} (cond (opens_block c) 1 0) 1
opens_one c e = cond-true (opens_block c) 1 0 (eq-eqb (c % 2) 0 e)

pub opens_none : (c : ℕ) → c % 2 ≡ 1 → ◌≡◌ {A = ℕ} (cond (opens_block c) 1 0) 0
opens_none c e = cond-false (opens_block c) 1 0 (ne_eqb (c % 2) 0 (λ z. omega arith))

pub moved_up : (k r : ℕ) → k ≤ r → rank_after k r ≡ r + 1
moved_up k r l = cond-true (leb k r) (r + 1) r (le-leb k r l)

pub moved_not : (k r : ℕ) → r < k → rank_after k r ≡ r
moved_not k r l = cond-false (leb k r) (r + 1) r (lt-leb k r l)

pub with_opens : (rs : List ℕ) (c : ℕ) → c % 2 ≡ 0 → ranks_with rs c ≡ map (rank_after (c / 2)) rs ++ (c / 2) ∷ []
with_opens rs c e = ap (λ (ys : List ℕ). ys ++ (c / 2) ∷ []) (cond-true (opens_block c) (map (rank_after (c / 2)) rs) rs (eq-eqb (c % 2) 0 e))

pub with_joins : (rs : List ℕ) (c : ℕ) → (c % 2 ≡ 0 → ⊥) → ranks_with rs c ≡ rs ++ (c / 2) ∷ []
with_joins rs c e = ap (λ (ys : List ℕ). ys ++ (c / 2) ∷ []) (cond-false (opens_block c) (map (rank_after (c / 2)) rs) rs (ne_eqb (c % 2) 0 e))

pub length_with : (rs : List ℕ) (c : ℕ) → length (ranks_with rs c) ≡ length rs + 1
length_with rs c = let m = length-map rs (rank_after (c / 2)) in grind (arith, nat_tests, length_push {X = ℕ})

pub length_from : (rs cs : List ℕ) → length (ranks_from rs cs) ≡ length rs + length cs
length_from rs [] = omega arith
length_from rs (c ∷ cs) = omega (arith, length_from (ranks_with rs c) cs, length_with rs c)

pub length_ranks : (cs : List ℕ) → length (ranks cs) ≡ length cs
length_ranks cs = length_from [] cs ∙ zero-add (length cs)

pub ranks_append : (rs cs ds : List ℕ) → ranks_from rs (cs ++ ds) ≡ ranks_from (ranks_from rs cs) ds
ranks_append rs [] ds = refl
ranks_append rs (c ∷ cs) ds = ranks_append (ranks_with rs c) cs ds

-- the rank r of a seat becomes s once a seat more is placed by the code c
pub data Becomes (c r s : ℕ) : Type 0 where
  up : c % 2 ≡ 0 → c / 2 ≤ r → s ≡ r + 1 → Becomes c r s
  kept : c % 2 ≡ 0 → r < c / 2 → s ≡ r → Becomes c r s
  joined : c % 2 ≡ 1 → s ≡ r → Becomes c r s

pub rank_becomes : (rs : List ℕ) (c p : ℕ) → p < length rs → Becomes c (get_or rs p 0) (get_or (ranks_with rs c) p 0)
rank_becomes rs c p h =
    elim (cases_eq (c % 2) 0) [
      | inl e ↦
          let k : ℕ = c / 2 in
          let r : ℕ = get_or rs p 0 in
          let l = length-map rs (rank_after k) in
          let is : get_or (ranks_with rs c) p 0 ≡ rank_after k r = ap (λ (ys : List ℕ). get_or ys p 0) (with_opens rs c e) ∙ (get_or_append_left (map (rank_after k) rs) (k ∷ []) 0 p (omega arith) ∙ get_or-map (rank_after k) rs p 0 0 h) in
          elim (cases_lt r k) [ inl l ↦ kept e l (is ∙ moved_not k r l) | inr l ↦ up e l (is ∙ moved_up k r l) ]
      | inr e ↦ joined (omega arith) (ap (λ (ys : List ℕ). get_or ys p 0) (with_joins rs c e) ∙ get_or_append_left rs ((c / 2) ∷ []) 0 p h)
    ]

pub new_rank : (rs : List ℕ) (c : ℕ) → get_or (ranks_with rs c) (length rs) 0 ≡ c / 2
new_rank rs c =
    elim (cases_eq (c % 2) 0) [
      | inl e ↦ ap (λ (ys : List ℕ). get_or ys (length rs) 0) (with_opens rs c e) ∙ get_or_push (map (rank_after (c / 2)) rs) (c / 2) 0 (length rs) (length-map rs (rank_after (c / 2)))
      | inr e ↦ ap (λ (ys : List ℕ). get_or ys (length rs) 0) (with_joins rs c e) ∙ get_or_push rs (c / 2) 0 (length rs) refl
    ]

-- a seat that was placed before, or the new one
pub before_or_new : (rs : List ℕ) (c p : ℕ) → p < length (ranks_with rs c) → (p < length rs) ⊎ (p ≡ length rs)
before_or_new rs c p h = let l = length_with rs c in elim (cases_lt p (length rs)) [ inl i ↦ inl i | inr i ↦ inr (omega arith) ]

-- ranks keep their order and stay apart
pub becomes_less : {c r s t u : ℕ} → Becomes c r s → Becomes c t u → r < t → s < u
becomes_less (up a b e) (up d f g) l = omega arith
becomes_less (up a b e) (kept d f g) l = omega arith
becomes_less (up a b e) (joined d g) l = omega arith
becomes_less (kept a b e) (up d f g) l = omega arith
becomes_less (kept a b e) (kept d f g) l = omega arith
becomes_less (kept a b e) (joined d g) l = omega arith
becomes_less (joined a e) (up d f g) l = omega arith
becomes_less (joined a e) (kept d f g) l = omega arith
becomes_less (joined a e) (joined d g) l = omega arith

pub becomes_same : {c r s t u : ℕ} → Becomes c r s → Becomes c t u → r ≡ t → s ≡ u
becomes_same (up a b e) (up d f g) l = omega arith
becomes_same (up a b e) (kept d f g) l = omega arith
becomes_same (up a b e) (joined d g) l = omega arith
becomes_same (kept a b e) (up d f g) l = omega arith
becomes_same (kept a b e) (kept d f g) l = omega arith
becomes_same (kept a b e) (joined d g) l = omega arith
becomes_same (joined a e) (up d f g) l = omega arith
becomes_same (joined a e) (kept d f g) l = omega arith
becomes_same (joined a e) (joined d g) l = omega arith

pub same_before : {c r s t u : ℕ} → Becomes c r s → Becomes c t u → s ≡ u → r ≡ t
same_before {c} {r} {s} {t} {u} x y e =
    elim (cases_order r t) [
      | inl h ↦ h
      | inr h ↦ elim h [
        | inl l ↦ let a = becomes_less x y l in absurd (omega arith)
        | inr l ↦ let a = becomes_less y x l in absurd (omega arith)
      ]
    ]

pub less_before : {c r s t u : ℕ} → Becomes c r s → Becomes c t u → s < u → r < t
less_before {c} {r} {s} {t} {u} x y l =
    elim (cases_order r t) [
      | inl h ↦ let a = becomes_same x y h in absurd (omega arith)
      | inr h ↦ elim h [
        | inl k ↦ k
        | inr k ↦ let a = becomes_less y x k in absurd (omega arith)
      ]
    ]

-- valid codes
pub valid_first : (b c : ℕ) (cs : List ℕ) → is_valid b (c ∷ cs) ≡ true → c ≤ 2 * b
valid_first b c cs h = leb-true c (2 * b) (and_parts (leb c (2 * b)) (is_valid (b + cond (opens_block c) 1 0) cs) h).0

pub valid_rest : (b c : ℕ) (cs : List ℕ) → is_valid b (c ∷ cs) ≡ true → is_valid (b + cond (opens_block c) 1 0) cs ≡ true
valid_rest b c cs h = (and_parts (leb c (2 * b)) (is_valid (b + cond (opens_block c) 1 0) cs) h).1

pub valid_cons : (b c : ℕ) (cs : List ℕ) → c ≤ 2 * b → is_valid (b + cond (opens_block c) 1 0) cs ≡ true → is_valid b (c ∷ cs) ≡ true
valid_cons b c cs l h = and_from (leb c (2 * b)) (is_valid (b + cond (opens_block c) 1 0) cs) (le-leb c (2 * b) l) h

pub valid_front : (b : ℕ) (front back : List ℕ) → is_valid b (front ++ back) ≡ true → is_valid b front ≡ true
valid_front b [] back h = refl
valid_front b (c ∷ cs) back h = valid_cons b c cs (valid_first b c (cs ++ back) h) (valid_front (b + cond (opens_block c) 1 0) cs back (valid_rest b c (cs ++ back) h))

pub valid_append : (b : ℕ) (cs ds : List ℕ) → is_valid b cs ≡ true → is_valid (b + blocks cs) ds ≡ true → is_valid b (cs ++ ds) ≡ true
valid_append b [] ds h k = subst (λ (n : ℕ). is_valid n ds ≡ true) (add-zero b) k
valid_append b (c ∷ cs) ds h k =
    let o : ℕ = cond (opens_block c) 1 0 in
    valid_cons b c (cs ++ ds) (valid_first b c cs h)
    (valid_append (b + o) cs ds (valid_rest b c cs h) (subst (λ (n : ℕ). is_valid n ds ≡ true) (sym (add_assoc b o (blocks cs))) k))

pub valid_push : (cs : List ℕ) (c : ℕ) → is_valid 0 cs ≡ true → c ≤ 2 * blocks cs → is_valid 0 (cs ++ c ∷ []) ≡ true
valid_push cs c h l = valid_append 0 cs (c ∷ []) h (valid_cons (0 + blocks cs) c [] (omega arith) refl)

pub valid_take : (n : ℕ) (cs : List ℕ) → is_valid 0 cs ≡ true → is_valid 0 (take n cs) ≡ true
valid_take n cs h = valid_front 0 (take n cs) (drop n cs) (ap (is_valid 0) (take-append-drop n cs) ∙ h)

-- b blocks stand, and each has a seat
pub record HasBlocks (b : ℕ) (rs : List ℕ) : Type 0 where
  pub below : (p : ℕ) → p < length rs → get_or rs p 0 < b
  pub seat : (k : ℕ) → k < b → (p : ℕ) × (p < length rs) × (get_or rs p 0 ≡ k)

pub no_blocks : HasBlocks 0 []
no_blocks = record { below = λ p l. absurd (omega arith); seat = λ k l. absurd (omega arith) }

becomes_below : {c r s : ℕ} (b : ℕ) → Becomes c r s → r < b → s < b + cond (opens_block c) 1 0
becomes_below {c} {r} {s} b (up a l e) h = let o = opens_one c a in omega arith
becomes_below {c} {r} {s} b (kept a l e) h = omega arith
becomes_below {c} {r} {s} b (joined a e) h = omega arith

stays : {c r s : ℕ} → Becomes c r s → (c % 2 ≡ 0 → r < c / 2) → s ≡ r
stays (up a l e) h = let m = h a in absurd (omega arith)
stays (kept a l e) h = e
stays (joined a e) h = e

rises : {c r s : ℕ} → Becomes c r s → c % 2 ≡ 0 → c / 2 ≤ r → s ≡ r + 1
rises (up a l e) h m = e
rises (kept a l e) h m = absurd (omega arith)
rises (joined a e) h m = absurd (omega arith)

module _ (b c : ℕ) (rs : List ℕ) (most : c ≤ 2 * b) (has : HasBlocks b rs) where
  with_below : (p : ℕ) → p < length (ranks_with rs c) → get_or (ranks_with rs c) p 0 < b + cond (opens_block c) 1 0
  with_below p h =
      elim (before_or_new rs c p h) [
        | inl l ↦ becomes_below b (rank_becomes rs c p l) (has.below p l)
        | inr e ↦
            let n : get_or (ranks_with rs c) p 0 ≡ c / 2 = ap (λ (k : ℕ). get_or (ranks_with rs c) k 0) e ∙ new_rank rs c in
            elim (cases_eq (c % 2) 0) [ inl a ↦ let o = opens_one c a in omega arith | inr a ↦ omega arith ]
      ]

  with_seat : (k : ℕ) → k < b + cond (opens_block c) 1 0 → (p : ℕ) × (p < length (ranks_with rs c)) × (get_or (ranks_with rs c) p 0 ≡ k)
  with_seat k h =
      let l = length_with rs c in
      elim (cases_eq (c % 2) 0) [
        | inl a ↦
            let o = opens_one c a in
            elim (cases_order k (c / 2)) [
              | inl e ↦ (length rs, omega arith, new_rank rs c ∙ sym e)
              | inr f ↦ elim f [
                | inl m ↦ let s = has.seat k (omega arith) in let i = s.1 in let e = s.2 in (s.0, omega arith, stays (rank_becomes rs c s.0 i) (λ z. omega arith) ∙ e)
                | inr m ↦
                    let s = has.seat (k - 1) (omega arith) in
                    let i = s.1 in
                    let e = s.2 in
                    let r = rises (rank_becomes rs c s.0 i) a (omega arith) in
                    (s.0, omega arith, omega arith)
              ]
            ]
        | inr a ↦
            let o = opens_none c (omega arith) in
            let s = has.seat k (omega arith) in
            let i = s.1 in
            (s.0, omega arith, stays (rank_becomes rs c s.0 i) (λ z. absurd (a z)) ∙ s.2)
      ]

  pub blocks_with : HasBlocks (b + cond (opens_block c) 1 0) (ranks_with rs c)
  blocks_with = record { below = with_below; seat = with_seat }

pub blocks_from : (b : ℕ) (rs cs : List ℕ) → is_valid b cs ≡ true → HasBlocks b rs → HasBlocks (b + blocks cs) (ranks_from rs cs)
blocks_from b rs [] v h = subst (λ (n : ℕ). HasBlocks n rs) (sym (add-zero b)) h
blocks_from b rs (c ∷ cs) v h =
    let o : ℕ = cond (opens_block c) 1 0 in
    subst (λ (n : ℕ). HasBlocks n (ranks_from (ranks_with rs c) cs)) (add_assoc b o (blocks cs))
    (blocks_from (b + o) (ranks_with rs c) cs (valid_rest b c cs v) (blocks_with b c rs (valid_first b c cs v) h))

pub blocks_of_ranks : (cs : List ℕ) → is_valid 0 cs ≡ true → HasBlocks (blocks cs) (ranks cs)
blocks_of_ranks cs v = subst (λ (n : ℕ). HasBlocks n (ranks cs)) (zero-add (blocks cs)) (blocks_from 0 [] cs v no_blocks)
