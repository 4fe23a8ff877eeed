-- The search gives the first arrangement that is allowed, or none where there is none.
use Rattle.std.proofs.Common.{◌≡◌, ℕ, zero, suc, ◌+◌, ◌*◌, ◌<◌, ◌≤◌, Bool, true, false, ◌⊎◌, List, [], ◌∷◌, ◌++◌, length, Some, None, Option, sym, refl, ap, ◌∙◌, subst, inl, inr, ⊎_elim, append_assoc, append-nil, arith}
use Rattle.std.proofs.lemmas.Bool.{both_ways, cases_eq}
use Rattle.std.proofs.lemmas.List.{length_push}
use Rattle.engine.specs.Arrangements.{Arrangement, Before, blocks}
use Rattle.engine.proofs.Codes.{before_front, valid_low}
use Rattle.search.specs.Searching.{Front}
use Rattle.search.proofs.Knowing.{front_longer}
use Rattle.reference.specs.Reference.{descend, first_by}

-- what holds of each of two, by a test, holds of the one that the test chooses
by_test : {X : Type 0} (P : X → Type 0) (b : Bool) (x y : X) → (b ≡ true → P x) → (b ≡ false → P y) → P (elim b [ true ↦ x | false ↦ y ])
by_test P true x y f g = f refl
by_test P false x y f g = g refl

-- of the lists of codes that go on from `front` by what P holds of, these are found: the first, or none where there is none
abbrev pub Finds : List ℕ → (List ℕ → Type 0) → Option (List ℕ) → Type 0
Finds front P None = (rest : List ℕ) → P rest → ⊥
Finds front P (Some codes) = (rest : List ℕ) × (codes ≡ front ++ rest) × P rest × ((other : List ℕ) → P other → Before other rest → ⊥)

-- codes of which the first is c at least
abbrev From : ℕ → List ℕ → Type 0
From c [] = ⊥
From c (x ∷ codes) = c ≤ x

from_lower : (c : ℕ) (codes : List ℕ) → From (suc c) codes → From c codes
from_lower c [] h = h
from_lower c (x ∷ codes) h = omega (arith, h)

-- none of those comes before codes of which the first is lower
not_before : (c : ℕ) (codes rest : List ℕ) → From (suc c) codes → Before codes (c ∷ rest) → ⊥
not_before c [] rest h b = h
not_before c (x ∷ codes) rest h b = ⊎_elim (λ l. omega (arith, h, l)) (λ q. omega (arith, h, q.0)) b

module _ (Allowed : List ℕ → Type 0) (n : ℕ) (arranged : (codes : List ℕ) → Allowed codes → Arrangement n codes) where
  abbrev pub Under : List ℕ → List ℕ → Type 0
  Under front rest = Allowed (front ++ rest)

  module _ (front : List ℕ) where
    abbrev UnderFrom : ℕ → List ℕ → Type 0
    UnderFrom c rest = From c rest × Allowed (front ++ rest)

    -- no code is left
    none_higher : (c : ℕ) → 2 * blocks front < c → (rest : List ℕ) → UnderFrom c rest → ⊥
    none_higher c l [] p = p.0
    none_higher c l (x ∷ rest) p = let low : x ≤ 2 * (0 + blocks front) = valid_low 0 front x rest (arranged (front ++ x ∷ rest) p.1).valid in omega (arith, p.0)

    -- the next code is c, or a higher one
    by_next : (c : ℕ) (rest : List ℕ) → UnderFrom c rest → ((more : List ℕ) × (rest ≡ c ∷ more) × Under (front ++ c ∷ []) more) ⊎ UnderFrom (suc c) rest
    by_next c [] p = absurd p.0
    by_next c (x ∷ rest) p =
        let l : c ≤ x = p.0 in
        elim (cases_eq x c) [
          | inl e ↦
              let same : front ++ x ∷ rest ≡ (front ++ c ∷ []) ++ rest = ap (λ y. front ++ y ∷ rest) e ∙ sym (append_assoc front (c ∷ []) rest) in
              inl (rest, ap (λ y. y ∷ rest) e, subst Allowed same p.1)
          | inr d ↦ inr (omega arith, p.1)
        ]

    -- nothing goes on by the code c: what is found goes on by a higher one
    none_by : (c : ℕ) → ((more : List ℕ) → Under (front ++ c ∷ []) more → ⊥) → (o : Option (List ℕ)) → Finds front (UnderFrom (suc c)) o → Finds front (UnderFrom c) o
    none_by c none o =
        elim o as (λ x. Finds front (UnderFrom (suc c)) x → Finds front (UnderFrom c) x) [
          | None ↦ λ f rest p. ⊎_elim (λ q. none q.0 q.2) (λ q. f rest q) (by_next c rest p)
          | Some codes ↦ λ f. (f.0, f.1, (from_lower c f.0 f.2.0, f.2.1), λ other p b. ⊎_elim (λ q. none q.0 q.2) (λ q. f.3 other q b) (by_next c other p))
        ]

    -- or the first that does is found
    some_by : (c : ℕ) (codes : List ℕ) → Finds (front ++ c ∷ []) (Under (front ++ c ∷ [])) (Some codes) → Finds front (UnderFrom c) (Some codes)
    some_by c codes (rest, is, allowed, first) =
        let next = append_assoc front (c ∷ []) rest in (
          c ∷ rest,
          is ∙ next,
          (omega arith, subst Allowed next allowed),
          λ other p b.
              ⊎_elim
              (λ q. ⊎_elim (λ l. omega (arith, l)) (λ r. first q.0 q.2 r.1) (subst (λ ds. Before ds (c ∷ rest)) q.1 b))
              (λ q. not_before c other rest q.0 b)
              (by_next c other p),
        )

    -- what is found by the code c if something is, and else by a higher one
    or_higher : (c : ℕ) (o later : Option (List ℕ)) → Finds (front ++ c ∷ []) (Under (front ++ c ∷ [])) o → Finds front (UnderFrom (suc c)) later
        → Finds front (UnderFrom c) (elim o [ Some codes ↦ Some codes | None ↦ later ])
    or_higher c o later =
        elim o as (λ x. Finds (front ++ c ∷ []) (Under (front ++ c ∷ [])) x → Finds front (UnderFrom (suc c)) later → Finds front (UnderFrom c) (elim x [ Some codes ↦ Some codes | None ↦ later ])) [
          | None ↦ λ none found. none_by c none later found
          | Some codes ↦ λ found _. some_by c codes found
        ]

    first_by_finds : (find : ℕ → Option (List ℕ)) (k c : ℕ) → c + k ≡ 2 * blocks front + 1
        → ((x : ℕ) → x ≤ 2 * blocks front → Finds (front ++ x ∷ []) (Under (front ++ x ∷ [])) (find x)) → Finds front (UnderFrom c) (first_by find c k)
    first_by_finds find zero c e f = none_higher c (omega arith)
    first_by_finds find (suc k) c e f = or_higher c (find c) (first_by find (suc c) k) (f c (omega arith)) (first_by_finds find k (suc c) (omega arith) f)

    -- with a seat left some code follows
    some_next : length front < n → (rest : List ℕ) → Under front rest → From 0 rest
    some_next l [] p = let full : length (front ++ []) ≡ n = (arranged (front ++ []) p).full in omega (arith, ap length (append-nil front))
    some_next l (x ∷ rest) p = omega arith

    from_lowest : length front < n → (o : Option (List ℕ)) → Finds front (UnderFrom 0) o → Finds front (Under front) o
    from_lowest l o =
        elim o as (λ x. Finds front (UnderFrom 0) x → Finds front (Under front) x) [
          | None ↦ λ none rest p. none rest (some_next l rest p, p)
          | Some codes ↦ λ f. (f.0, f.1, f.2.1, λ other p b. f.3 other (some_next l other p, p) b)
        ]

  -- a test that codes pass where they begin an allowed arrangement, and that no other arrangement passes
  module _ (test : List ℕ → Bool)
      (complete : (front rest : List ℕ) → Front n front → Allowed (front ++ rest) → test front ≡ true)
      (sound : (codes : List ℕ) → Arrangement n codes → test codes ≡ true → Allowed codes) where
    not_passed : (front : List ℕ) → Front n front → test front ≡ false → (rest : List ℕ) → Under front rest → ⊥
    not_passed front f fails rest p = both_ways (test front) fails (complete front rest f p)

    pub descend_finds : (m : ℕ) (front : List ℕ) → length front + m ≡ n → Front n front → Finds front (Under front) (descend test m front)
    descend_finds zero front e f =
        let whole = append-nil front in
        by_test (Finds front (Under front)) (test front) (Some front) None
        (λ passes. ([], sym whole, subst Allowed (sym whole) (sound front (record { full = omega arith; valid = f.valid }) passes), λ other p b. before_front [] other b))
        (λ fails. not_passed front f fails)
    descend_finds (suc m) front e f =
        let find : ℕ → Option (List ℕ) = λ c. descend test m (front ++ c ∷ []) in
        let found = first_by find 0 (2 * blocks front + 1) in
        by_test (Finds front (Under front)) (test front) found None
        (λ passes.
        from_lowest front (omega arith) found
        (first_by_finds front find (2 * blocks front + 1) 0 (omega arith)
        (λ x l. descend_finds m (front ++ x ∷ []) (omega (arith, length_push front x)) (front_longer Allowed n front x f (omega arith) l))))
        (λ fails. not_passed front f fails)
