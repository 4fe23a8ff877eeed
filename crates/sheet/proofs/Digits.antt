-- A number in four bytes, and a length in two.
use Rattle.std.proofs.Common.{◌≡◌, ℕ, ◌+◌, ◌*◌, ◌/◌, ◌%◌, ◌^◌, ◌<◌, [], ◌∷◌, ℤ, ap, ◌∙◌, mod-eq_of_lt, arith, w32, SFits, to_z, of_z}
use native.Mathlib.Nat.{div-div-eq-div-mul}
use Rattle.std.proofs.lemmas.Int.{to_z-of_z, of_z-to_z, ints}
use Rattle.sheet.specs.Fields.{four_bytes, bound_bytes}

-- four bytes make up the number that they were taken from
pub from_digits : (n : ℕ) → n < 2 ^ 32 → n / 16777216 % 256 * 16777216 + n / 65536 % 256 * 65536 + n / 256 % 256 * 256 + n % 256 ≡ n
from_digits n h =
    let two : n / 256 / 256 ≡ n / 65536 = div-div-eq-div-mul n 256 256 in
    let three : n / 65536 / 256 ≡ n / 16777216 = div-div-eq-div-mul n 65536 256 in
    let p : n ≡ n / 256 * 256 + n % 256 = omega arith in
    let q : n / 256 ≡ n / 256 / 256 * 256 + n / 256 % 256 = omega arith in
    let r : n / 65536 ≡ n / 65536 / 256 * 256 + n / 65536 % 256 = omega arith in
    let t : n / 16777216 < 256 = omega arith in
    let u : n / 16777216 % 256 ≡ n / 16777216 = mod-eq_of_lt t in
    omega (arith, p, q, r, two, three, u)

pub bound_from_digits : (c : ℤ) → SFits w32 c → to_z w32 (of_z w32 c / 16777216 % 256 * 16777216 + of_z w32 c / 65536 % 256 * 65536 + of_z w32 c / 256 % 256 * 256 + of_z w32 c % 256) ≡ c
bound_from_digits c f =
    let small : of_z w32 c < 2 ^ 32 = omega (arith, ints) in
    ap (to_z w32) (from_digits (of_z w32 c) small) ∙ to_z-of_z w32 c f

-- a number made up of four bytes has those bytes
pub to_digits : (p q r t : ℕ) → p < 256 → q < 256 → r < 256 → t < 256 → four_bytes (p * 16777216 + q * 65536 + r * 256 + t) ≡ p ∷ q ∷ r ∷ t ∷ []
to_digits p q r t hp hq hr ht =
    let n = p * 16777216 + q * 65536 + r * 256 + t in
    let a : n / 16777216 % 256 ≡ p = omega arith in
    let b : n / 65536 % 256 ≡ q = omega arith in
    let c : n / 256 % 256 ≡ r = omega arith in
    let d : n % 256 ≡ t = omega arith in
    cc

pub bound_to_digits : (p q r t : ℕ) → p < 256 → q < 256 → r < 256 → t < 256 → bound_bytes (to_z w32 (p * 16777216 + q * 65536 + r * 256 + t)) ≡ p ∷ q ∷ r ∷ t ∷ []
bound_to_digits p q r t hp hq hr ht =
    let small : p * 16777216 + q * 65536 + r * 256 + t < 2 ^ 32 = omega arith in
    ap four_bytes (of_z-to_z w32 (p * 16777216 + q * 65536 + r * 256 + t) small) ∙ to_digits p q r t hp hq hr ht
