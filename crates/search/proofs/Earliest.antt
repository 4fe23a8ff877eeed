-- Where the rows of a clash stand: their places rise, and of all rows that allow nothing together they leave out the earliest.
use Rattle.std.proofs.Common.{◌≡◌, ℕ, zero, suc, ◌+◌, ◌<◌, ◌≤◌, Bool, true, false, cond, ◌||◌, List, [], ◌∷◌, ◌++◌, length, get_or, ◌⊎◌, inl, inr, ⊎_elim, All, sym, refl, subst, append_assoc, arith}
use Rattle.std.proofs.lemmas.List.Elements.{All-cons, All-nil, All-weaker}
use Rattle.std.proofs.lemmas.Bool.{eq-eqb}
use Rattle.sheet.specs.declared.row.Row.{Row}
use Rattle.engine.specs.declared.noted.Noted.{Noted}
use Rattle.engine.specs.States.{active_rows}
use Rattle.search.specs.Unmuted.{unmarked}
use Rattle.search.specs.Verdicts.{LeavesOutFirst, Walk, ends, drops, keeps, marked_from}
use Rattle.search.proofs.Chosen.{is_among, not_among, place_before}

-- the places that are left are numbers of the rows from i on
pub places_within : {Allow : List Row → Type 0} {kept rows : List Row} {i : ℕ} {places : List ℕ} → Walk Allow kept rows i places → All (λ p. (i ≤ p) × (p < i + length rows)) places
places_within ends = All-nil _
places_within {i} {places} (drops {rest} r nothing w) =
    All-weaker (λ p. (i + 1 ≤ p) × (p < i + 1 + length rest)) (λ p. (i ≤ p) × (p < i + length (r ∷ rest))) (λ p q. (omega (arith, q.0), omega (arith, q.1))) places (places_within w)
places_within {i} (keeps {rest} {places} r some w) =
    All-cons (λ p. (i ≤ p) × (p < i + length (r ∷ rest))) i places (omega arith, omega arith)
    (All-weaker (λ p. (i + 1 ≤ p) × (p < i + 1 + length rest)) (λ p. (i ≤ p) × (p < i + length (r ∷ rest))) (λ p q. (omega (arith, q.0), omega (arith, q.1))) places (places_within w))

pub places_rise : {Allow : List Row → Type 0} {kept rows : List Row} {i : ℕ} {places : List ℕ} → Walk Allow kept rows i places → (k : ℕ) → suc k < length places → get_or places k 0 < get_or places (suc k) 0
places_rise ends k l = absurd (omega arith)
places_rise (drops r nothing w) k l = places_rise w k l
places_rise (keeps r some w) zero l = let h = (places_within w 0 0 (omega arith)).0 in omega (arith, h)
places_rise (keeps r some w) (suc k) l = places_rise w k (omega arith)

-- the second are the first, or the first leave out the earlier rows
abbrev EqualOrLater : List Noted → List Noted → Type 0
EqualOrLater walked ms = (ms ≡ walked) ⊎ LeavesOutFirst walked ms

module _ (Allow : List Row → Type 0) (fewer : (front back : List Row) (r : Row) → Allow (front ++ r ∷ back) → Allow (front ++ back)) where
  -- what some rows allow stays allowed with the muted ones left out
  active_allowed : (kept : List Row) (ms : List Noted) → Allow (kept ++ unmarked ms) → Allow (kept ++ active_rows ms)
  active_allowed kept [] p = p
  active_allowed kept (m ∷ ms) p =
      elim m.active as (λ b. Allow (kept ++ active_rows (record { row = m.row; active = b } ∷ ms))) [
        | true ↦
            subst Allow (append_assoc kept (m.row ∷ []) (active_rows ms))
            (active_allowed (kept ++ m.row ∷ []) ms (subst Allow (sym (append_assoc kept (m.row ∷ []) (unmarked ms))) p))
        | false ↦ active_allowed kept ms (fewer kept (unmarked ms) m.row p)
      ]

  -- row r is marked the same, or it is muted by the walk alone, or by the others alone
  same_mark : (r : Row) (b : Bool) (m : Noted) (ms walked : List Noted) → m.row ≡ r → m.active ≡ b → EqualOrLater walked ms → EqualOrLater (record { row = r; active = b } ∷ walked) (m ∷ ms)
  same_mark r b m ms walked is mark h = ⊎_elim (λ q. inl (λ k. record { row = is k; active = mark k } ∷ q k)) (λ q. inr (inr (sym mark, q))) h

  out_passed : (kept : List Row) (r : Row) (m : Noted) (ms walked : List Noted) → m.row ≡ r → (Allow (kept ++ active_rows (m ∷ ms)) → ⊥) → ((Allow (kept ++ active_rows ms) → ⊥) → EqualOrLater walked ms)
      → EqualOrLater (record { row = r; active = false } ∷ walked) (m ∷ ms)
  out_passed kept r m ms walked is none later = by m.active refl
    where
      by : (b : Bool) → m.active ≡ b → EqualOrLater (record { row = r; active = false } ∷ walked) (m ∷ ms)
      by true e = inr (inl (refl, e))
      by false e = same_mark r false m ms walked is e (later (λ p. none (subst (λ b. Allow (kept ++ cond b (m.row ∷ active_rows ms) (active_rows ms))) (sym e) p)))

  in_passed : (kept : List Row) (r : Row) (m : Noted) (ms walked : List Noted) → m.row ≡ r → Allow (kept ++ unmarked ms) → (Allow (kept ++ active_rows (m ∷ ms)) → ⊥)
      → ((Allow ((kept ++ r ∷ []) ++ active_rows ms) → ⊥) → EqualOrLater walked ms) → EqualOrLater (record { row = r; active = true } ∷ walked) (m ∷ ms)
  in_passed kept r m ms walked is some none later = by m.active refl
    where
      without : (b : Bool) → m.active ≡ b → Allow (kept ++ cond b (m.row ∷ active_rows ms) (active_rows ms)) → ⊥
      without b e p = none (subst (λ b. Allow (kept ++ cond b (m.row ∷ active_rows ms) (active_rows ms))) (sym e) p)

      by : (b : Bool) → m.active ≡ b → EqualOrLater (record { row = r; active = true } ∷ walked) (m ∷ ms)
      by true e = same_mark r true m ms walked is e (later (λ p. without true e (subst (λ x. Allow (kept ++ x ∷ active_rows ms)) (sym is) (subst Allow (append_assoc kept (r ∷ []) (active_rows ms)) p))))
      by false e = absurd (without false e (active_allowed kept ms some))

  -- of all marks of these rows with which those active and the kept ones allow nothing, those by the walk leave out the earliest
  pub leaves_out_first : {kept rows : List Row} {i : ℕ} {places : List ℕ} → Walk Allow kept rows i places → (ms : List Noted) → unmarked ms ≡ rows → (Allow (kept ++ active_rows ms) → ⊥)
      → EqualOrLater (marked_from i places rows) ms
  leaves_out_first ends [] e none = inl refl
  leaves_out_first ends (m ∷ ms) e none = absurd (cc)
  leaves_out_first (drops r nothing w) [] e none = absurd (cc)
  leaves_out_first (keeps r some w) [] e none = absurd (cc)
  leaves_out_first {kept} {i} {places} (drops {rest} r nothing w) (m ∷ ms) e none =
      let is : m.row ≡ r = cc in
      let these : unmarked ms ≡ rest = cc in
      let out : is_among places i ≡ false = not_among i places (All-weaker (λ p. (i + 1 ≤ p) × (p < i + 1 + length rest)) (λ p. p ≡ i → ⊥) (λ p q s. omega (arith, q.0, s)) places (places_within w)) in
      subst (λ b. EqualOrLater (record { row = r; active = b } ∷ marked_from (i + 1) places rest) (m ∷ ms)) (sym out)
      (out_passed kept r m ms (marked_from (i + 1) places rest) is none (λ n. leaves_out_first w ms these n))
  leaves_out_first {kept} {i} (keeps {rest} {places} r some w) (m ∷ ms) e none =
      let is : m.row ≡ r = cc in
      let these : unmarked ms ≡ rest = cc in
      let walked : marked_from i (i ∷ places) (r ∷ rest) ≡ record { row = r; active = true } ∷ marked_from (i + 1) places rest =
      λ k. record { row = r; active = eq-eqb i i refl k || is_among places i } ∷ place_before (i + 1) i places rest (omega arith) k in
      subst (λ xs. EqualOrLater xs (m ∷ ms)) (sym walked)
      (in_passed kept r m ms (marked_from (i + 1) places rest) is (subst (λ rs. Allow (kept ++ rs)) (sym these) some) none (λ n. leaves_out_first w ms these n))
