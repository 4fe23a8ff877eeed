-- What a client of an engine reads off a call's outcome.
use Rattle.std.proofs.Common.{◌≡◌, ℕ, ◌-◌, ◌*◌, ◌<◌, ◌≤◌, List, [], ◌∷◌, ◌++◌, length, Some, None, Ok, Err, Option, sym, refl, ap, arith}
use Rattle.std.proofs.lemmas.List.{length_push, take_at}
use Rattle.std.proofs.lemmas.Bool.Decides.{nat_tests}
use Rattle.sheet.specs.declared.fault.Cause.{Cause}
use Rattle.sheet.specs.declared.fault.Fault.{Fault}
use Rattle.engine.specs.Arrangements.{blocks}
use Rattle.engine.specs.Calls.{on_lift, on_place, unless_refused, without_last}
use Rattle.engine.specs.Refusals.{answer_in}
use Rattle.engine.specs.States.{State, with_code}
use Rattle.engine.specs.Terms.{seats_of}

-- an answer tells whether the call was refused, and why
pub accepted_is : (letter : ℕ) (o : Option Cause) (u : Unit {0}) → Ok u ≡ answer_in letter o → o ≡ None
accepted_is letter None u e = refl
accepted_is letter (Some c) u e = cc

pub refused_is : (letter : ℕ) (o : Option Cause) (f : Fault) → Err f ≡ answer_in letter o → o ≡ Some f.cause
refused_is letter None f e = let z : ◌≡◌ {A = ℕ} 0 1 = cc in absurd (omega arith)
refused_is letter (Some c) f e = let q : f ≡ record { cause = c; layer = letter } = cc in ap (λ (g : Fault). Some g.cause) (sym q)

-- place, accepted and refused
pub placed : (s : State) (c : ℕ) → (on_place s c).refusal ≡ None → (on_place s c).next ≡ with_code s c
placed s c e = ap (λ (o : Option Cause). unless_refused o s (with_code s c)) e

pub not_placed : (s : State) (c : ℕ) (x : Cause) → (on_place s c).refusal ≡ Some x → (on_place s c).next ≡ s
not_placed s c x e = ap (λ (o : Option Cause). unless_refused o s (with_code s c)) e

without_last_push : {X : Type 0} (xs : List X) (x : X) → without_last (xs ++ x ∷ []) ≡ xs
without_last_push xs x = take_at xs (x ∷ []) (length (xs ++ x ∷ []) - 1) (omega (arith, length_push xs x))

-- lift takes back what place did
pub lifted : (s : State) (c : ℕ) → (on_lift (with_code s c)).next ≡ s
lifted s c = let one = length_push s.codes c in let e : without_last (s.codes ++ c ∷ []) ≡ s.codes = without_last_push s.codes c in grind (arith, nat_tests)

-- a code that is accepted, and one that is not although a seat is left
pub fits : (s : State) (c : ℕ) → (on_place s c).refusal ≡ None → (length s.codes < length (seats_of s.terms)) × (c ≤ 2 * blocks s.codes)
fits s c e = (grind (arith, nat_tests), grind (arith, nat_tests))

pub fits_not : (s : State) (c : ℕ) (z : Cause) → (on_place s c).refusal ≡ Some z → length s.codes < length (seats_of s.terms) → 2 * blocks s.codes < c
fits_not s c z e l = grind (arith, nat_tests)
