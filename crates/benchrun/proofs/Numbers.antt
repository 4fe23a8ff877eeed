-- What `parse` answers, in the words of the definitions.
use Rattle.std.proofs.Common.{◌≡◌, ◌≢◌, ℕ, ◌^◌, ◌<◌, ◌≤◌, Bool, true, false, cond, ◌&&◌, List, [], ◌∷◌, length, drop, get_or, ℤ, pos, neg_ℤ, Some, None, Ok, Err, Option, Result, nat_lt, nat_le, ◌==◌, sym, refl, ap, ◌∙◌, arith, inl, inr, nat_eq, decimal, Bor, MatchOption, MatchResult}
use Rattle.std.specs.List.{starts_with}
use Rattle.std.specs.Int.{IsInRange, w32}
use Rattle.std.specs.Option.{option_map}
use Rattle.std.specs.Result.{OkIff, result_ok}
use Rattle.std.specs.Str.{IsAscii, IsUtf8, all_ascii_digits}
use Rattle.std.specs.Str.Parse.{ParsesSigned, ParsesUnsigned, digits_value, starts_with_minus}
use Rattle.std.proofs.lemmas.Bool.{and_from, and_parts, both_ways, cases_Bool, eq-eqb, eqb-false, eqb-true, le-leb, leb-true, lt-ltb, ltb-true}
use Rattle.std.proofs.lemmas.Iterator.Adapters.{option_map_id}
use Rattle.std.proofs.lemmas.Fmt.{IsAscii-from_digits, decimal_nonempty, digits_decimal, digits_value-decimal}
use Rattle.std.proofs.lemmas.Str.Ascii.{IsAscii-cons, IsAscii-nil}
use Rattle.std.proofs.lemmas.Str.{IsUtf8-from_ascii}
use Rattle.std.proofs.lemmas.Str.Parse.{IsNumeralModel, digit_at, numerals_by_value, parse_plain, parse_signed_minus, parse_signed_plain, tells_all_ascii_digits}
use Rattle.benchrun.specs.Commands.{bound_in, index_in, is_number, number_in}

pub own : IsNumeralModel (λ ds. all_ascii_digits ds ≡ true) (digits_value 10)
own = numerals_by_value _ tells_all_ascii_digits

-- r is the value where Q holds, which b tells
answer_is : {E X Y : Type 0} (f : X → Y) (b : Bool) (Q : Type 0) (v : X) (r : Result Y E) → (b ≡ true → Q) → (Q → b ≡ true) → OkIff r Q (f v) → result_ok r ≡ option_map f (cond b (Some v) None)
answer_is f true Q v (Ok y) to from h = ap Some h.1
answer_is f false Q v (Ok y) to from h = absurd (both_ways false refl (from h.0))
answer_is f true Q v (Err e) to from h = absurd (h (to refl))
answer_is f false Q v (Err e) to from h = refl

-- what the test of `number_in` tells
module _ (most : ℕ) (ds : List ℕ) where
  told : (is_number ds && nat_le (digits_value 10 ds) most) ≡ true → (all_ascii_digits ds ≡ true) × (0 < length ds) × (digits_value 10 ds ≤ most)
  told h =
      let parts = and_parts (is_number ds) (nat_le (digits_value 10 ds) most) h in
      let digits = and_parts (nat_lt 0 (length ds)) (all_ascii_digits ds) parts.0 in
      (digits.1, ltb-true 0 (length ds) digits.0, leb-true (digits_value 10 ds) most parts.1)

  tells : (all_ascii_digits ds ≡ true) × (0 < length ds) × (digits_value 10 ds ≤ most) → (is_number ds && nat_le (digits_value 10 ds) most) ≡ true
  tells h = and_from (is_number ds) (nat_le (digits_value 10 ds) most) (and_from (nat_lt 0 (length ds)) (all_ascii_digits ds) (lt-ltb 0 (length ds) h.1) h.0) (le-leb (digits_value 10 ds) most h.2)

  no_number : (all_ascii_digits ds ≡ true → 0 < length ds → ⊥) → number_in most ds ≡ None
  no_number h = elim (cases_Bool (is_number ds && nat_le (digits_value 10 ds) most)) [
    | inl passed ↦ let t = told passed in absurd (h t.0 t.1)
    | inr failed ↦ ap (λ b. cond b (Some (digits_value 10 ds)) None) failed
  ]

-- a word that is parsed, and begins with no plus
pub index_parsed : {E : Type 0} (w : List ℕ) (r : Result ℕ E) → ParsesUnsigned 8 10 w r → get_or w 0 0 ≢ 43 → result_ok r ≡ index_in w
index_parsed w r h plain =
    answer_is (λ n. n) _ _ (digits_value 10 w) r
    (λ b. let t = told 255 w b in (t.0, t.1, omega arith))
    (λ q. tells 255 w (q.0, q.1, omega arith))
    (parse_plain own 8 w r h plain)
    ∙ option_map_id (index_in w)

pub bound_parsed : {E : Type 0} (w : List ℕ) (r : Result ℤ E) → ParsesSigned w32 10 w r → get_or w 0 0 ≢ 43 → result_ok r ≡ bound_in w
bound_parsed w r h plain =
    let below : Option ℤ = option_map (λ n. neg_ℤ (pos n)) (number_in 2147483648 (drop 1 w)) in
    let above : Option ℤ = option_map (λ n. pos n) (number_in 2147483647 w) in
    elim (cases_Bool (starts_with_minus w)) [
      | inl minus ↦
          answer_is (λ n. neg_ℤ (pos n)) _ _ (digits_value 10 (drop 1 w)) r
          (told 2147483648 (drop 1 w))
          (tells 2147483648 (drop 1 w))
          (parse_signed_minus own w32 w r h (eqb-true (get_or w 0 0) 45 minus))
          ∙ sym (ap (λ b. cond b below above) minus)
      | inr bare ↦
          answer_is (λ n. pos n) _ _ (digits_value 10 w) r
          (λ b. let t = told 2147483647 w b in (t.0, t.1, omega arith))
          (λ q. tells 2147483647 w (q.0, q.1, omega arith))
          (parse_signed_plain own w32 w r h plain (eqb-false (get_or w 0 0) 45 bare))
          ∙ sym (ap (λ b. cond b below above) bare)
    ]

first_no_plus : (w : List ℕ) → false ≡ starts_with nat_eq w (43 ∷ []) → get_or w 0 0 ≢ 43
first_no_plus [] h e = absurd (omega arith)
first_no_plus (b ∷ w) h e = both_ways _ (sym h) (and_from (43 == b) true (eq-eqb 43 b (sym e)) refl)

ascii_behind : (w : List ℕ) → get_or w 0 0 < 128 → IsAscii (drop 1 w) → IsAscii w
ascii_behind [] low rest = IsAscii-nil
ascii_behind (b ∷ w) low rest = IsAscii-cons b w low rest

-- a word that begins with a plus, or is not ASCII
module _ (w : List ℕ) (odd : IsAscii w → get_or w 0 0 ≡ 43) where
  no_digits : all_ascii_digits w ≡ true → 0 < length w → ⊥
  no_digits p some =
      let digits = own.to w p in
      let first : IsInRange 48 57 (get_or w 0 0) = digit_at w 0 digits some in
      let plus : get_or w 0 0 ≡ 43 = odd (IsAscii-from_digits w digits) in
      absurd (omega (arith, first.0))

  no_digits_behind : get_or w 0 0 ≡ 45 → all_ascii_digits (drop 1 w) ≡ true → 0 < length (drop 1 w) → ⊥
  no_digits_behind minus p some =
      let plus : get_or w 0 0 ≡ 43 = odd (ascii_behind w (omega arith) (IsAscii-from_digits (drop 1 w) (own.to (drop 1 w) p))) in
      absurd (omega arith)

  pub no_index : index_in w ≡ None
  no_index = no_number 255 w no_digits

  pub no_bound : bound_in w ≡ None
  no_bound =
      let below : Option ℤ = option_map (λ n. neg_ℤ (pos n)) (number_in 2147483648 (drop 1 w)) in
      let above : Option ℤ = option_map (λ n. pos n) (number_in 2147483647 w) in
      elim (cases_Bool (starts_with_minus w)) [
        | inl minus ↦
            ap (λ b. cond b below above) minus
            ∙ ap (option_map (λ n. neg_ℤ (pos n))) (no_number 2147483648 (drop 1 w) (no_digits_behind (eqb-true (get_or w 0 0) 45 minus)))
        | inr bare ↦
            ap (λ b. cond b below above) bare
            ∙ ap (option_map (λ n. pos n)) (no_number 2147483647 w no_digits)
      ]

-- a text with these bytes, which do not begin with a plus; or they do, or are not ASCII
abbrev pub ReadAsText : List ℕ → Option (Bor (List ℕ)) → Type 0
ReadAsText w o = MatchOption o (IsAscii w → get_or w 0 0 ≡ 43) (λ text. (text.now ≡ w) × (get_or w 0 0 ≢ 43))

pub text_read : {E : Type 0} (F : E → Type 0) (w : List ℕ) (r : Result (Bor (List ℕ)) E) → MatchResult r (λ s. (s.now ≡ w) × IsUtf8 w) (λ e. (IsUtf8 w → ⊥) × F e) → false ≡ starts_with nat_eq w (43 ∷ []) → ReadAsText w (result_ok r)
text_read F w (Ok s) h plain = (h.0, first_no_plus w plain)
text_read F w (Err e) h plain = λ ascii. absurd (h.0 (IsUtf8-from_ascii w ascii))

-- the digits of n are read as n
pub number_spelled : (most n : ℕ) → n ≤ most → n < 2 ^ 64 → number_in most (decimal n) ≡ Some n
number_spelled most n fits small =
    let value : digits_value 10 (decimal n) ≡ n = digits_value-decimal own n small in
    let passes : (is_number (decimal n) && nat_le (digits_value 10 (decimal n)) most) ≡ true = tells most (decimal n) (digits_decimal own n small, decimal_nonempty n small, omega arith) in
    λ i. cond (passes i) (Some (value i)) None
