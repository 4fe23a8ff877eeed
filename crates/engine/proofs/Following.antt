-- Every choice of numbers for the seats follows exactly one arrangement.
use Rattle.std.proofs.Common.{◌≡◌, ℕ, zero, suc, ◌+◌, ◌-◌, ◌*◌, ◌/◌, ◌<◌, ◌≤◌, true, cond, ◌⊎◌, List, [], ◌∷◌, ◌++◌, length, get_or, ℤ, ◌<ℤ◌, sym, refl, ap, ◌∙◌, subst, inl, inr, zero-add, arith}
use Rattle.std.proofs.lemmas.List.{length-append}
use Rattle.std.proofs.lemmas.Int.{ints, by_lt_z}
use Rattle.std.proofs.lemmas.Bool.{cases_eq, cases_lt, cases_order}
use Rattle.engine.specs.Arrangements.{opens_block, blocks, is_valid, Arrangement, ranks_with, ranks_from, ranks, InOrder, EqualInBlocks, EveryChoiceIsFollowed}
use Rattle.engine.proofs.Ranks.{Becomes, up, kept, joined, rank_becomes, new_rank, before_or_new, becomes_less, becomes_same, same_before, less_before, length_with, ranks_append, valid_first, valid_rest, valid_cons, valid_append, HasBlocks, no_blocks, blocks_with, blocks_of_ranks}

z_cases : (x y : ℤ) → (x <ℤ y) ⊎ ((x ≡ y) ⊎ (y <ℤ x))
z_cases x y = by_lt_z x y (λ h. inl h) (λ h. by_lt_z y x (λ k. inr (inr k)) (λ k. inr (inl (omega (arith, ints)))))

z_same : (x y : ℤ) → x ≡ y → x <ℤ y → ⊥
z_same x y e h = omega (arith, ints)

z_both : (x y : ℤ) → x <ℤ y → y <ℤ x → ⊥
z_both x y h k = omega (arith, ints)

z_trans : (x y z : ℤ) → x <ℤ y → y <ℤ z → x <ℤ z
z_trans x y z h k = omega (arith, ints)

z_left : (x y z : ℤ) → x ≡ y → y <ℤ z → x <ℤ z
z_left x y z e h = omega (arith, ints)

z_right : (x y z : ℤ) → x <ℤ y → y ≡ z → x <ℤ z
z_right x y z h e = omega (arith, ints)

-- a later code keeps the order of the seats placed before
with_back : (rs : List ℕ) (c : ℕ) (x : ℕ → ℤ) → InOrder (ranks_with rs c) x → InOrder rs x
with_back rs c x o =
    let l = length_with rs c in
    record {
      same = λ p q lp lq e. o.same p q (omega arith) (omega arith) (becomes_same (rank_becomes rs c p lp) (rank_becomes rs c q lq) e);
      less = λ p q lp lq e. o.less p q (omega arith) (omega arith) (becomes_less (rank_becomes rs c p lp) (rank_becomes rs c q lq) e);
    }

order_back : (rs cs : List ℕ) (x : ℕ → ℤ) → InOrder (ranks_from rs cs) x → InOrder rs x
order_back rs [] x o = o
order_back rs (c ∷ cs) x o = with_back rs c x (order_back (ranks_with rs c) cs x o)

pub in_order_front : (cs ds : List ℕ) (x : ℕ → ℤ) → InOrder (ranks (cs ++ ds)) x → InOrder (ranks cs) x
in_order_front cs ds x o = order_back (ranks cs) ds x (subst (λ (rs : List ℕ). InOrder rs x) (ranks_append [] cs ds) o)

-- the same without the order of the blocks
with_blocks_back : (rs : List ℕ) (c : ℕ) (x : ℕ → ℤ) → EqualInBlocks (ranks_with rs c) x → EqualInBlocks rs x
with_blocks_back rs c x o =
    let l = length_with rs c in
    record {
      same = λ p q lp lq e. o.same p q (omega arith) (omega arith) (becomes_same (rank_becomes rs c p lp) (rank_becomes rs c q lq) e);
      apart = λ p q lp lq e. same_before (rank_becomes rs c p lp) (rank_becomes rs c q lq) (o.apart p q (omega arith) (omega arith) e);
    }

blocks_back : (rs cs : List ℕ) (x : ℕ → ℤ) → EqualInBlocks (ranks_from rs cs) x → EqualInBlocks rs x
blocks_back rs [] x o = o
blocks_back rs (c ∷ cs) x o = with_blocks_back rs c x (blocks_back (ranks_with rs c) cs x o)

-- the same of equality alone, which is what the table rule asks
pub blocks_front : (cs ds : List ℕ) (x : ℕ → ℤ) → EqualInBlocks (ranks (cs ++ ds)) x → EqualInBlocks (ranks cs) x
blocks_front cs ds x o = blocks_back (ranks cs) ds x (subst (λ (rs : List ℕ). EqualInBlocks rs x) (ranks_append [] cs ds) o)

-- numbers in the order of the blocks are equal in one block only
pub order_blocks : (rs : List ℕ) (x : ℕ → ℤ) → InOrder rs x → EqualInBlocks rs x
order_blocks rs x o =
    record {
      same = o.same;
      apart = λ p q lp lq e.
          elim (cases_order (get_or rs p 0) (get_or rs q 0)) [
            | inl h ↦ h
            | inr h ↦ elim h [
              | inl k ↦ absurd (z_same (x p) (x q) e (o.less p q lp lq k))
              | inr k ↦ absurd (z_same (x q) (x p) (sym e) (o.less q p lq lp k))
            ]
          ];
    }

-- numbers that agree at the seats are in one order, and numbers that grow with the ranks are in theirs
pub in_order_by : (rs : List ℕ) (x y : ℕ → ℤ) → ((p : ℕ) → p < length rs → x p ≡ y p) → InOrder rs y → InOrder rs x
in_order_by rs x y agree o =
    record {
      same = λ p q lp lq e. agree p lp ∙ o.same p q lp lq e ∙ sym (agree q lq);
      less = λ p q lp lq e. z_left (x p) (y p) (x q) (agree p lp) (z_right (y p) (y q) (x q) (o.less p q lp lq e) (sym (agree q lq)));
    }

pub ranks_in_order : (rs : List ℕ) (f : ℕ → ℤ) → ((r s : ℕ) → r < s → f r <ℤ f s) → InOrder rs (λ p. f (get_or rs p 0))
ranks_in_order rs f grows = record { same = λ p q lp lq e. ap f e; less = λ p q lp lq e. grows (get_or rs p 0) (get_or rs q 0) e }

-- the code 2k + 1 is that of block k, and a code tells where the new seat lies to it
meets : {c r s : ℕ} → Becomes c r s → c ≡ 2 * r + 1 → s ≡ c / 2
meets (up a l e) h = omega arith
meets (kept a l e) h = omega arith
meets (joined a e) h = omega arith

passes : {c r s : ℕ} → Becomes c r s → 2 * r + 1 < c → s < c / 2
passes (up a l e) h = omega arith
passes (kept a l e) h = omega arith
passes (joined a e) h = omega arith

precedes : {c r s : ℕ} → Becomes c r s → c < 2 * r + 1 → c / 2 < s
precedes (up a l e) h = omega arith
precedes (kept a l e) h = omega arith
precedes (joined a e) h = omega arith

met : {c r s : ℕ} → Becomes c r s → s ≡ c / 2 → c ≡ 2 * r + 1
met (up a l e) h = omega arith
met (kept a l e) h = omega arith
met (joined a e) h = omega arith

passed : {c r s : ℕ} → Becomes c r s → s < c / 2 → 2 * r + 1 < c
passed (up a l e) h = omega arith
passed (kept a l e) h = omega arith
passed (joined a e) h = omega arith

preceded : {c r s : ℕ} → Becomes c r s → c / 2 < s → c < 2 * r + 1
preceded (up a l e) h = omega arith
preceded (kept a l e) h = omega arith
preceded (joined a e) h = omega arith

-- a new seat of number y lies by the code c as y does to the numbers of the seats placed
record Fits (rs : List ℕ) (x : ℕ → ℤ) (y : ℤ) (c : ℕ) : Type 0 where
  pub equal : (q : ℕ) → q < length rs → c ≡ 2 * get_or rs q 0 + 1 → x q ≡ y
  pub after : (q : ℕ) → q < length rs → 2 * get_or rs q 0 + 1 < c → x q <ℤ y
  pub before : (q : ℕ) → q < length rs → c < 2 * get_or rs q 0 + 1 → y <ℤ x q

order_fits : (rs : List ℕ) (c : ℕ) (x : ℕ → ℤ) → InOrder (ranks_with rs c) x → Fits rs x (x (length rs)) c
order_fits rs c x o =
    let l = length_with rs c in
    let n = new_rank rs c in
    record {
      equal = λ q h e. o.same q (length rs) (omega arith) (omega arith) (meets (rank_becomes rs c q h) e ∙ sym n);
      after = λ q h e. let k = passes (rank_becomes rs c q h) e in o.less q (length rs) (omega arith) (omega arith) (omega arith);
      before = λ q h e. let k = precedes (rank_becomes rs c q h) e in o.less (length rs) q (omega arith) (omega arith) (omega arith);
    }

fits_order : (rs : List ℕ) (c : ℕ) (x : ℕ → ℤ) → InOrder rs x → Fits rs x (x (length rs)) c → InOrder (ranks_with rs c) x
fits_order rs c x o f =
    record {
      same = λ p q lp lq e.
          elim (before_or_new rs c p lp) [
            | inl i ↦ elim (before_or_new rs c q lq) [
              | inl j ↦ o.same p q i j (same_before (rank_becomes rs c p i) (rank_becomes rs c q j) e)
              | inr j ↦ f.equal p i (met (rank_becomes rs c p i) (e ∙ new q j)) ∙ sym (ap x j)
            ]
            | inr i ↦ elim (before_or_new rs c q lq) [
              | inl j ↦ ap x i ∙ sym (f.equal q j (met (rank_becomes rs c q j) (sym e ∙ new p i)))
              | inr j ↦ ap x (i ∙ sym j)
            ]
          ];
      less = λ p q lp lq e.
          elim (before_or_new rs c p lp) [
            | inl i ↦ elim (before_or_new rs c q lq) [
              | inl j ↦ o.less p q i j (less_before (rank_becomes rs c p i) (rank_becomes rs c q j) e)
              | inr j ↦ let n = new q j in z_right (x p) (x (length rs)) (x q) (f.after p i (passed (rank_becomes rs c p i) (omega arith))) (sym (ap x j))
            ]
            | inr i ↦ elim (before_or_new rs c q lq) [
              | inl j ↦ let n = new p i in z_left (x p) (x (length rs)) (x q) (ap x i) (f.before q j (preceded (rank_becomes rs c q j) (omega arith)))
              | inr j ↦ let m = new p i in let n = new q j in absurd (omega arith)
            ]
          ];
    }
  where
    new : (p : ℕ) → p ≡ length rs → get_or (ranks_with rs c) p 0 ≡ c / 2
    new p e = ap (λ (k : ℕ). get_or (ranks_with rs c) k 0) e ∙ new_rank rs c

-- Uniqueness. Between two different codes lies a block, and its seat tells them apart
module _ (b : ℕ) (rs : List ℕ) (x : ℕ → ℤ) (y : ℤ) (has : HasBlocks b rs) where
  not_smaller : (c d : ℕ) → d ≤ 2 * b → Fits rs x y c → Fits rs x y d → c < d → ⊥
  not_smaller c d most f g l =
      let s = has.seat (c / 2) (omega arith) in
      let q = s.0 in
      let h : q < length rs = s.1 in
      let e : get_or rs q 0 ≡ c / 2 = s.2 in
      elim (cases_eq c (2 * get_or rs q 0 + 1)) [
        | inl i ↦ z_same (x q) y (f.equal q h i) (g.after q h (omega arith))
        | inr i ↦
            let low : y <ℤ x q = f.before q h (omega arith) in
            elim (cases_eq d (2 * get_or rs q 0 + 1)) [
              | inl j ↦ z_same y (x q) (sym (g.equal q h j)) low
              | inr j ↦ z_both (x q) y (g.after q h (omega arith)) low
            ]
      ]

  same_code : (c d : ℕ) → c ≤ 2 * b → d ≤ 2 * b → Fits rs x y c → Fits rs x y d → c ≡ d
  same_code c d m n f g =
      elim (cases_order c d) [
        | inl e ↦ e
        | inr h ↦ elim h [ inl l ↦ absurd (not_smaller c d n f g l) | inr l ↦ absurd (not_smaller d c m g f l) ]
      ]

same_codes : (b : ℕ) (rs cs ds : List ℕ) (x : ℕ → ℤ) → HasBlocks b rs → length cs ≡ length ds → is_valid b cs ≡ true → is_valid b ds ≡ true → InOrder (ranks_from rs cs) x → InOrder (ranks_from rs ds) x → cs ≡ ds
same_codes b rs [] [] x has l v w o q = refl
same_codes b rs [] (d ∷ ds) x has l v w o q = absurd (omega arith)
same_codes b rs (c ∷ cs) [] x has l v w o q = absurd (omega arith)
same_codes b rs (c ∷ cs) (d ∷ ds) x has l v w o q =
    let m = valid_first b c cs v in
    let e : c ≡ d = same_code b rs x (x (length rs)) has c d m (valid_first b d ds w) (order_fits rs c x (order_back (ranks_with rs c) cs x o)) (order_fits rs d x (order_back (ranks_with rs d) ds x q)) in
    let rest : cs ≡ ds = same_codes (b + cond (opens_block c) 1 0) (ranks_with rs c) cs ds x (blocks_with b c rs m has) (omega arith) (valid_rest b c cs v)
    (subst (λ (k : ℕ). is_valid (b + cond (opens_block k) 1 0) ds ≡ true) (sym e) (valid_rest b d ds w))
    o
    (subst (λ (k : ℕ). InOrder (ranks_from (ranks_with rs k) ds) x) (sym e) q) in
    cc

-- Existence. The code of the next seat, of number y: past the blocks of smaller numbers, and into the block of an equal one
module _ (rs : List ℕ) (x : ℕ → ℤ) (y : ℤ) where
  abbrev Met : ℕ → ℕ → Type 0
  Met m c = (c ≡ 0) ⊎ ((q : ℕ) × (q < m) × (((x q ≡ y) × (c ≡ 2 * get_or rs q 0 + 1)) ⊎ ((x q <ℤ y) × (c ≡ 2 * get_or rs q 0 + 2))))

  -- c is the least code that the seats below m allow
  record Least (m c : ℕ) : Type 0 where
    pub equal : (q : ℕ) → q < m → x q ≡ y → 2 * get_or rs q 0 + 1 ≤ c
    pub after : (q : ℕ) → q < m → x q <ℤ y → 2 * get_or rs q 0 + 2 ≤ c
    pub attained : Met m c

  met_more : (m c : ℕ) → Met m c → Met (suc m) c
  met_more m c (inl e) = inl e
  met_more m c (inr h) = inr (h.0, let l = h.1 in omega arith, h.2)

  least_more : (m c d : ℕ) → Least m c → c ≤ d → (x m ≡ y → 2 * get_or rs m 0 + 1 ≤ d) → (x m <ℤ y → 2 * get_or rs m 0 + 2 ≤ d) → Met (suc m) d → Least (suc m) d
  least_more m c d k l f g t =
      record {
        equal = λ q h e.
            elim (cases_eq q m) [
              | inl i ↦ let n = f (ap x (sym i) ∙ e) in let r = ap (λ (j : ℕ). get_or rs j 0) i in omega arith
              | inr i ↦ let n = k.equal q (omega arith) e in omega arith
            ];
        after = λ q h e.
            elim (cases_eq q m) [
              | inl i ↦ let n = g (z_left (x m) (x q) y (ap x (sym i)) e) in let r = ap (λ (j : ℕ). get_or rs j 0) i in omega arith
              | inr i ↦ let n = k.after q (omega arith) e in omega arith
            ];
        attained = t;
      }

  least_next : (m c : ℕ) → Least m c → (d : ℕ) × Least (suc m) d
  least_next m c k =
      let r : ℕ = get_or rs m 0 in
      elim (z_cases (x m) y) [
        | inl l ↦ elim (cases_lt c (2 * r + 2)) [
          | inl i ↦ (2 * r + 2, least_more m c (2 * r + 2) k (omega arith) (λ e. omega arith) (λ e. omega arith) (inr (m, omega arith, inr (l, refl))))
          | inr i ↦ (c, least_more m c c k (omega arith) (λ e. omega arith) (λ e. omega arith) (met_more m c k.attained))
        ]
        | inr h ↦ elim h [
          | inl e ↦ elim (cases_lt c (2 * r + 1)) [
            | inl i ↦ (2 * r + 1, least_more m c (2 * r + 1) k (omega arith) (λ z. omega arith) (λ z. absurd (z_same (x m) y e z)) (inr (m, omega arith, inl (e, refl))))
            | inr i ↦ (c, least_more m c c k (omega arith) (λ z. omega arith) (λ z. absurd (z_same (x m) y e z)) (met_more m c k.attained))
          ]
          | inr l ↦ (c, least_more m c c k (omega arith) (λ z. absurd (z_same y (x m) (sym z) l)) (λ z. absurd (z_both (x m) y z l)) (met_more m c k.attained))
        ]
      ]

  least : (m : ℕ) → (c : ℕ) × Least m c
  least zero = (0, record { equal = λ q h e. absurd (omega arith); after = λ q h e. absurd (omega arith); attained = inl refl })
  least (suc m) = let k = least m in least_next m k.0 k.1

  least_most : (b c : ℕ) → ((p : ℕ) → p < length rs → get_or rs p 0 < b) → Met (length rs) c → c ≤ 2 * b
  least_most b c h (inl e) = omega arith
  least_most b c h (inr t) = let l = h t.0 t.1 in elim t.2 [ inl k ↦ let e = k.1 in omega arith | inr k ↦ let e = k.1 in omega arith ]

  module _ (c : ℕ) (o : InOrder rs x) (k : Least (length rs) c) where
    equal_at : Met (length rs) c → (q : ℕ) → q < length rs → c ≡ 2 * get_or rs q 0 + 1 → x q ≡ y
    equal_at (inl z) q h e = absurd (omega arith)
    equal_at (inr t) q h e = elim t.2 [ inl s ↦ let i = s.1 in o.same q t.0 h t.1 (omega arith) ∙ s.0 | inr s ↦ let i = s.1 in absurd (omega arith) ]

    after_at : Met (length rs) c → (q : ℕ) → q < length rs → 2 * get_or rs q 0 + 1 < c → x q <ℤ y
    after_at (inl z) q h e = absurd (omega arith)
    after_at (inr t) q h e =
        elim t.2 [
          | inl s ↦ let i = s.1 in z_right (x q) (x t.0) y (o.less q t.0 h t.1 (omega arith)) s.0
          | inr s ↦
              let i = s.1 in
              elim (cases_eq (get_or rs q 0) (get_or rs t.0 0)) [
                | inl j ↦ z_left (x q) (x t.0) y (o.same q t.0 h t.1 j) s.0
                | inr j ↦ z_trans (x q) (x t.0) y (o.less q t.0 h t.1 (omega arith)) s.0
              ]
        ]

    before_at : (q : ℕ) → q < length rs → c < 2 * get_or rs q 0 + 1 → y <ℤ x q
    before_at q h e =
        elim (z_cases (x q) y) [
          | inl l ↦ let n = k.after q h l in absurd (omega arith)
          | inr t ↦ elim t [ inl i ↦ let n = k.equal q h i in absurd (omega arith) | inr l ↦ l ]
        ]

    least_fits : Fits rs x y c
    least_fits = record { equal = equal_at k.attained; after = after_at k.attained; before = before_at }

next_code : (b : ℕ) (rs : List ℕ) (x : ℕ → ℤ) → HasBlocks b rs → InOrder rs x → (c : ℕ) × (c ≤ 2 * b) × InOrder (ranks_with rs c) x
next_code b rs x has o =
    let y : ℤ = x (length rs) in
    let s = least rs x y (length rs) in
    let c : ℕ = s.0 in
    (c, least_most rs x y b c has.below s.1.attained, fits_order rs c x o (least_fits rs x y c o s.1))

abbrev Extended : ℕ → ℕ → List ℕ → (ℕ → ℤ) → Type 0
Extended m b rs x = (rest : List ℕ) × (length rest ≡ m) × (is_valid b rest ≡ true) × InOrder (ranks_from rs rest) x

-- m seats more are placed by their numbers
extended : (m b : ℕ) (rs : List ℕ) (x : ℕ → ℤ) → HasBlocks b rs → InOrder rs x → Extended m b rs x
extended zero b rs x has o = ([], refl, refl, o)
extended (suc m) b rs x has o =
    let s = next_code b rs x has o in
    let c : ℕ = s.0 in
    let r = extended m (b + cond (opens_block c) 1 0) (ranks_with rs c) x (blocks_with b c rs s.1 has) s.2 in
    (c ∷ r.0, ap suc r.1, valid_cons b c r.0 s.1 r.2, r.3)

-- valid codes that agree with the numbers begin an arrangement of n seats that the numbers follow
pub front_extended : (n : ℕ) (front : List ℕ) (x : ℕ → ℤ) → length front ≤ n → is_valid 0 front ≡ true → InOrder (ranks front) x
    → (rest : List ℕ) × Arrangement n (front ++ rest) × InOrder (ranks (front ++ rest)) x
front_extended n front x l v o =
    let r = extended (n - length front) (blocks front) (ranks front) x (blocks_of_ranks front v) o in
    let m = r.1 in
    let a = length-append front r.0 in (
      r.0,
      record {
        full = omega arith;
        valid = valid_append 0 front r.0 v (subst (λ (k : ℕ). is_valid k r.0 ≡ true) (sym (zero-add (blocks front))) r.2);
      },
      subst (λ (rs : List ℕ). InOrder rs x) (sym (ranks_append [] front r.0)) r.3,
    )

pub one_arrangement : (n : ℕ) (cs ds : List ℕ) (x : ℕ → ℤ) → Arrangement n cs → Arrangement n ds → InOrder (ranks cs) x → InOrder (ranks ds) x → cs ≡ ds
one_arrangement n cs ds x a b o q = same_codes 0 [] cs ds x no_blocks (a.full ∙ sym b.full) a.valid b.valid o q

pub no_order : (x : ℕ → ℤ) → InOrder (ranks []) x
no_order x = record { same = λ p q lp lq e. absurd (omega arith); less = λ p q lp lq e. absurd (omega arith) }

pub every_choice_is_followed : EveryChoiceIsFollowed
every_choice_is_followed n x =
    let r = front_extended n [] x (omega arith) refl (no_order x) in
    record {
      codes = r.0;
      arrangement = r.1;
      followed = r.2;
      only = λ ds a o. one_arrangement n ds r.0 x a r.1 o r.2;
      extends = λ front l v o.
          let s = front_extended n front x l v o in
          (s.0, one_arrangement n r.0 (front ++ s.0) x r.1 s.1 r.2 s.2);
    }
