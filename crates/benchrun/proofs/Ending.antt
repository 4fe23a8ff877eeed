-- The carriage return at the end of a line.
use Rattle.std.proofs.Common.{◌≡◌, ℕ, suc, ◌+◌, ◌-◌, Bool, true, false, cond, ◌&&◌, List, [], ◌∷◌, length, take, drop, get_or, Some, None, Option, nat_eq, ◌==◌, sym, refl, ap, ◌∙◌, arith, drop-cons, Bor, MatchOption}
use Rattle.std.proofs.Math.ListN.{drop_of_length-le}
use Rattle.std.specs.Cmp.Lexicographic.{pointwise}
use Rattle.std.specs.Option.{unwrap_or}
use Rattle.std.specs.Str.Lines.{strip_carriage_return}

and_true : (b : Bool) → (b && true) ≡ b
and_true true = refl
and_true false = refl

-- the test of `strip_suffix`
abbrev ends : List ℕ → Bool
ends l = pointwise nat_eq (drop (length l - 1) l) (13 ∷ [])

ends_in_return : (l : List ℕ) → ends l ≡ (get_or l (length l - 1) 0 == 13)
ends_in_return [] = refl
ends_in_return (b ∷ l) =
    let n = length (b ∷ l) - 1 in
    let last : drop n (b ∷ l) ≡ get_or (b ∷ l) n 0 ∷ drop (suc n) (b ∷ l) = drop-cons (b ∷ l) n 0 (omega arith) in
    let end : drop (suc n) (b ∷ l) ≡ [] = drop_of_length-le (b ∷ l) {i = suc n} (omega arith) in
    ap (λ x. pointwise nat_eq x (13 ∷ [])) (last ∙ ap (λ x. get_or (b ∷ l) n 0 ∷ x) end) ∙ and_true (get_or (b ∷ l) n 0 == 13)

-- what `strip_suffix` leaves of a line, or the whole line
pub stripped : (line : Bor (List ℕ)) (o : Option (Bor (List ℕ))) → MatchOption o (ends line.now ≡ false) (λ x. (ends line.now ≡ true) × (x.now ≡ take (length line.now - 1) line.now) × (length x.now + 1 ≡ length line.now)) → (unwrap_or o line).now ≡ strip_carriage_return line.now
stripped line None h = let l = line.now in sym (ap (λ b. cond b (take (length l - 1) l) l) (sym (ends_in_return l) ∙ h))
stripped line (Some x) h = let l = line.now in h.1 ∙ sym (ap (λ b. cond b (take (length l - 1) l) l) (sym (ends_in_return l) ∙ h.0))
