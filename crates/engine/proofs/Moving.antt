-- Two choices of numbers for the seats, x and y, both equal exactly within blocks: the numbers x can be moved to the numbers y, and all
-- other whole numbers past these, so that what was apart stays apart.
use Rattle.std.proofs.Common.{◌≡◌, ℕ, zero, suc, ◌+◌, ◌*◌, ◌<◌, ◌⊎◌, List, length, max, ℤ, ◌<ℤ◌, pos, negsuc, int_eq, sym, refl, ap, ◌∙◌, inl, inr, arith}
use Rattle.std.proofs.lemmas.Int.{ints}
use Rattle.std.proofs.lemmas.Bool.{cases_Bool, cases_eq}
use Rattle.std.proofs.lemmas.Bool.Decides.{Decides-int_eq, not_from_Decides}
use Rattle.engine.specs.Arrangements.{EqualInBlocks}

-- all whole numbers, moved past 0 .. b - 1 and still apart
abbrev past : ℕ → ℤ → ℤ
past b (pos m) = pos (b + 2 * m)
past b (negsuc m) = pos (b + 2 * m + 1)

past_apart : (b : ℕ) (z w : ℤ) → past b z ≡ past b w → z ≡ w
past_apart b (pos m) (pos n) e = omega (arith, ints)
past_apart b (pos m) (negsuc n) e = absurd (omega (arith, ints))
past_apart b (negsuc m) (pos n) e = absurd (omega (arith, ints))
past_apart b (negsuc m) (negsuc n) e = omega (arith, ints)

below_not_past : (b : ℕ) (y z : ℤ) → y <ℤ pos b → y ≡ past b z → ⊥
below_not_past b y (pos m) l e = omega (arith, ints)
below_not_past b y (negsuc m) l e = omega (arith, ints)

-- above each of the first k numbers
abbrev size : ℤ → ℕ
size (pos n) = n
size (negsuc n) = 0

abbrev above : (ℕ → ℤ) → ℕ → ℕ
above y zero = 0
above y (suc k) = max (size (y k) + 1) (above y k)

below_size : (z : ℤ) (n : ℕ) → size z < n → z <ℤ pos n
below_size (pos m) n l = omega (arith, ints)
below_size (negsuc m) n l = omega (arith, ints)

size_below : (y : ℕ → ℤ) (k p : ℕ) → p < k → size (y p) < above y k
size_below y zero p l = absurd (omega arith)
size_below y (suc k) p l =
    elim (cases_eq p k) [
      | inl e ↦ let s = ap (λ (q : ℕ). size (y q)) e in omega arith
      | inr n ↦ let s = size_below y k p (omega arith) in omega arith
    ]

-- one of the first k seats has the number z, or none has
abbrev HasNumber : (ℕ → ℤ) → ℤ → ℕ → Type 0
HasNumber x z k = ((q : ℕ) × (q < k) × (x q ≡ z)) ⊎ ((q : ℕ) → q < k → x q ≡ z → ⊥)

has_number_next : (x : ℕ → ℤ) (z : ℤ) (k : ℕ) → HasNumber x z k → HasNumber x z (suc k)
has_number_next x z k (inl h) = let l = h.1 in inl (h.0, omega arith, h.2)
has_number_next x z k (inr h) =
    let d = Decides-int_eq (x k) z in
    elim (cases_Bool (int_eq (x k) z)) [
      | inl t ↦ inl (k, omega arith, d.0 t)
      | inr t ↦ inr (λ q l e. elim (cases_eq q k) [ inl i ↦ not_from_Decides (int_eq (x k) z) d t (ap x (sym i) ∙ e) | inr i ↦ h q (omega arith) e ])
    ]

has_number : (x : ℕ → ℤ) (z : ℤ) (k : ℕ) → HasNumber x z k
has_number x z zero = inr (λ q l e. omega arith)
has_number x z (suc k) = has_number_next x z k (has_number x z k)

-- the numbers x of the seats go to their numbers y, and what was apart stays apart
pub record Moved (n : ℕ) (x y : ℕ → ℤ) : Type 0 where
  pub move : ℤ → ℤ
  pub apart : (z w : ℤ) → move z ≡ move w → z ≡ w
  pub seat : (p : ℕ) → p < n → move (x p) ≡ y p

module _ (rs : List ℕ) (x y : ℕ → ℤ) (o : EqualInBlocks rs x) (u : EqualInBlocks rs y) where
  -- a number that no seat has goes past all of these
  abbrev move_by : (z : ℤ) → HasNumber x z (length rs) → ℤ
  move_by z (inl h) = y h.0
  move_by z (inr h) = past (above y (length rs)) z

  no_seat_past : (q : ℕ) (z : ℤ) → q < length rs → y q ≡ past (above y (length rs)) z → ⊥
  no_seat_past q z l e = below_not_past (above y (length rs)) (y q) z (below_size (y q) (above y (length rs)) (size_below y (length rs) q l)) e

  move_apart : (z w : ℤ) (s : HasNumber x z (length rs)) (t : HasNumber x w (length rs)) → move_by z s ≡ move_by w t → z ≡ w
  move_apart z w (inl h) (inl k) e = sym h.2 ∙ o.same h.0 k.0 h.1 k.1 (u.apart h.0 k.0 h.1 k.1 e) ∙ k.2
  move_apart z w (inl h) (inr k) e = absurd (no_seat_past h.0 w h.1 e)
  move_apart z w (inr h) (inl k) e = absurd (no_seat_past k.0 z k.1 (sym e))
  move_apart z w (inr h) (inr k) e = past_apart (above y (length rs)) z w e

  move_seat : (p : ℕ) → p < length rs → (s : HasNumber x (x p) (length rs)) → move_by (x p) s ≡ y p
  move_seat p l (inl h) = u.same h.0 p h.1 l (o.apart h.0 p h.1 l h.2)
  move_seat p l (inr h) = absurd (h p l refl)

  pub all_moved : Moved (length rs) x y
  all_moved =
      record {
        move = λ z. move_by z (has_number x z (length rs));
        apart = λ z w e. move_apart z w (has_number x z (length rs)) (has_number x w (length rs)) e;
        seat = λ p l. move_seat p l (has_number x (x p) (length rs));
      }
