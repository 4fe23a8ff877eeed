-- Laws of the rules and of the dates, which engines answer to their interfaces.
use Rattle.std.specs.Prelude.{◌≡◌, ℕ, ◌<◌, List, ◌∷◌, ◌++◌, length, ℤ, pos, ◌-ℤ◌, ◌≤ℤ◌}
use Rattle.std.proofs.Common.{sym, ◌∙◌, arith}
use Rattle.std.proofs.lemmas.List.{ext_get_or}
use Rattle.std.proofs.lemmas.Int.{ints}
use Rattle.sheet.specs.declared.row.Row.{Row}
use Rattle.sheet.specs.declared.term.Term.{Term}
use Rattle.engine.specs.Dates.{Greatest, GreatestDates}
use Rattle.engine.specs.Rules.{EqualityHolds, SpanAllowed, SpanHolds, TableAllowed, seat_numbers}
use Rattle.engine.specs.Terms.{seats_of}
use Rattle.engine.proofs.Lists.{all_without}

-- what is allowed stays allowed when a row is left out
pub span_rule_without : (ts : List Term) (front back : List Row) (r : Row) (codes : List ℕ) → SpanAllowed ts (front ++ r ∷ back) codes → SpanAllowed ts (front ++ back) codes
span_rule_without ts front back r codes (v, f) = (v, record { hold = all_without (SpanHolds v) front back r f.hold; ordered = f.ordered })

pub table_rule_without : (ts : List Term) (front back : List Row) (r : Row) (codes : List ℕ) → TableAllowed ts (front ++ r ∷ back) codes → TableAllowed ts (front ++ back) codes
table_rule_without ts front back r codes a =
    record { tables = a.tables; numbers = a.numbers; interprets = a.interprets; hold = all_without (EqualityHolds a.numbers) front back r a.hold; blocks = a.blocks }

-- a greatest number is not above another
not_above : (ts : List Term) (rows : List Row) (codes : List ℕ) (g h : ℕ → ℤ) → Greatest ts rows codes g → Greatest ts rows codes h → (p : ℕ) → p < length (seats_of ts) → g p ≤ℤ h p
not_above ts rows codes g h a b p l =
    let r = a.reached p l in
    let e : seat_numbers ts r.0 p ≡ g p = r.3 in
    let m : seat_numbers ts r.0 p ≤ℤ h p = b.greatest r.0 r.1 r.2 p l in
    omega (arith, ints)

pub same_greatest_dates : (ts : List Term) (rows : List Row) (codes : List ℕ) (a b : List ℤ) → GreatestDates ts rows codes a → GreatestDates ts rows codes b → a ≡ b
same_greatest_dates ts rows codes a b x y =
    let l = x.each in
    let m = y.each in
    let same : (p : ℕ) → p < length (seats_of ts) → x.numbers p ≡ y.numbers p =
    λ p i.
    let u : x.numbers p ≤ℤ y.numbers p = not_above ts rows codes x.numbers y.numbers x.greatest y.greatest p i in
    let w : y.numbers p ≤ℤ x.numbers p = not_above ts rows codes y.numbers x.numbers y.greatest x.greatest p i in
    omega (arith, ints) in
    ext_get_or (pos 0) a b (omega arith) (λ p i.
    let j : p < length (seats_of ts) = omega arith in
    let z : 0 < length (seats_of ts) = omega arith in
    x.from_zero p j ∙ (λ k. same p j k -ℤ same 0 z k) ∙ sym (y.from_zero p j))
