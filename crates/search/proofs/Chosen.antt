-- Rows marked by their places.
use Rattle.std.proofs.Common.{◌≡◌, ℕ, ◌+◌, ◌<◌, ◌≤◌, Bool, true, false, ◌||◌, eqb, List, [], ◌∷◌, ◌++◌, length, All, sym, refl, ap, ◌∙◌, arith}
use Rattle.std.specs.List.{list_any}
use Rattle.std.proofs.lemmas.Bool.{eq-eqb, ne_eqb}
use Rattle.std.proofs.lemmas.List.{map_push, length-map}
use Rattle.std.proofs.lemmas.List.Folds.{list_any_none}
use Rattle.sheet.specs.declared.row.Row.{Row}
use Rattle.engine.specs.declared.noted.Noted.{Noted}
use Rattle.search.specs.Unmuted.{unmarked}
use Rattle.search.specs.Verdicts.{marked_from}

-- the number i is among the places, or not
abbrev pub is_among : List ℕ → ℕ → Bool
is_among places i = list_any (λ p. eqb p i) places

pub not_among : (i : ℕ) (places : List ℕ) → All (λ p. p ≡ i → ⊥) places → is_among places i ≡ false
not_among i places a = list_any_none (λ p. eqb p i) places (λ k d l. ne_eqb _ _ (a k d l))

-- the place n stands last
among_push : (places : List ℕ) (n i : ℕ) → is_among (places ++ n ∷ []) i ≡ (eqb n i || is_among places i)
among_push [] n i = refl
among_push (p ∷ places) n i =
    ap (λ b. eqb p i || b) (among_push places n i) ∙ swap (eqb p i) (eqb n i) (is_among places i)
  where
    swap : (a b c : Bool) → (a || (b || c)) ≡ (b || (a || c))
    swap true true c = refl
    swap true false c = refl
    swap false b c = refl

pub last_among : (places : List ℕ) (i : ℕ) → is_among (places ++ i ∷ []) i ≡ true
last_among places i = among_push places i i ∙ ap (λ b. b || is_among places i) (eq-eqb i i refl)

-- a place past these rows marks none of them
pub place_after : (i n : ℕ) (places : List ℕ) (rows : List Row) → i + length rows ≤ n → marked_from i (places ++ n ∷ []) rows ≡ marked_from i places rows
place_after i n places [] l = refl
place_after i n places (r ∷ rows) l =
    let e : is_among (places ++ n ∷ []) i ≡ is_among places i = among_push places n i ∙ ap (λ b. b || is_among places i) (ne_eqb n i (λ q. omega (arith, q, l))) in
    λ k. record { row = r; active = e k } ∷ place_after (i + 1) n places rows (omega (arith, l)) k

-- and neither does one before them
pub place_before : (i n : ℕ) (places : List ℕ) (rows : List Row) → n < i → marked_from i (n ∷ places) rows ≡ marked_from i places rows
place_before i n places [] l = refl
place_before i n places (r ∷ rows) l =
    let e : (eqb n i || is_among places i) ≡ is_among places i = ap (λ b. b || is_among places i) (ne_eqb n i (λ q. omega (arith, q, l))) in
    λ k. record { row = r; active = e k } ∷ place_before (i + 1) n places rows (omega (arith, l)) k

marked_push : (i : ℕ) (places : List ℕ) (rows : List Row) (r : Row) → marked_from i places (rows ++ r ∷ []) ≡ marked_from i places rows ++ record { row = r; active = is_among places (i + length rows) } ∷ []
marked_push i places [] r = ap (λ n. record { row = r; active = is_among places n } ∷ []) (omega arith)
marked_push i places (x ∷ rows) r =
    let n : i + 1 + length rows ≡ i + length (x ∷ rows) = omega arith in
    ap (λ ms. record { row = x; active = is_among places i } ∷ ms)
    (marked_push (i + 1) places rows r ∙ ap (λ m. marked_from (i + 1) places rows ++ record { row = r; active = is_among places m } ∷ []) n)

-- one row more, whose mark is by its place too
pub marks_push : (places : List ℕ) (front : List Noted) (m : Noted) → front ≡ marked_from 0 places (unmarked front) → m.active ≡ is_among places (length front)
    → front ++ m ∷ [] ≡ marked_from 0 places (unmarked (front ++ m ∷ []))
marks_push places front m e mark =
    let n : length front ≡ 0 + length (unmarked front) = omega (arith, length-map front (λ (x : Noted). x.row)) in
    let last : m ≡ record { row = m.row; active = is_among places (0 + length (unmarked front)) } = ap (λ b. record { row = m.row; active = b }) (mark ∙ ap (is_among places) n) in
    (λ k. e k ++ last k ∷ []) ∙ sym (marked_push 0 places (unmarked front) m.row) ∙ ap (marked_from 0 places) (sym (map_push (λ (x : Noted). x.row) front m))
