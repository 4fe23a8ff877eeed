-- Codes tried one after another at the next seat.
use Rattle.std.proofs.Common.{◌≡◌, ℕ, ◌+◌, ◌*◌, ◌<◌, ◌≤◌, true, List, [], ◌∷◌, ◌++◌, length, Some, None, Option, sym, refl, ap, ◌∙◌, subst, ⊎_elim, append_assoc, arith, length-append}
use Rattle.std.proofs.lemmas.List.{length_push}
use Rattle.std.proofs.lemmas.Bool.{cases_order}
use Rattle.std.proofs.lemmas.Option.{none-some}
use Rattle.std.specs.Result.{result_ok}
use Rattle.sheet.specs.declared.fault.Cause.{Cause}
use Rattle.sheet.specs.declared.row.Row.{Row}
use Rattle.sheet.specs.declared.term.Term.{Term}
use Rattle.engine.specs.declared.engine.Engine.{Ghosts}
use Rattle.engine.specs.Arrangements.{blocks, is_valid}
use Rattle.engine.specs.Calls.{on_lift, on_place}
use Rattle.engine.specs.Refusals.{answer_in}
use Rattle.engine.specs.States.{State, Completion, with_code}
use Rattle.engine.specs.Terms.{seats_of}
use Rattle.parts.specs.First.{LeastPlaced}
use Rattle.engine.proofs.Codes.{valid_low}
use Rattle.engine.proofs.Using.{fits, fits_not, lifted, not_placed, placed}

-- whether a call answers something tells whether it was refused
pub taken : (letter : ℕ) (o : Option Cause) (u : Unit {0}) → result_ok (answer_in letter o) ≡ Some u → o ≡ None
taken letter None u e = refl
taken letter (Some c) u e = absurd (none-some u e)

pub turned_away : (letter : ℕ) (o : Option Cause) → result_ok (answer_in letter o) ≡ None → (z : Cause) × (o ≡ Some z)
turned_away letter None e = absurd (none-some tt (sym e))
turned_away letter (Some c) e = (c, refl)

-- a code that keeps an engine open finds a seat left, and is not too high
pub fitting : (rule : List Term → List Row → List ℕ → Type 0) (s : State) (c : ℕ) → Completion rule (with_code s c) → (length s.codes < length (seats_of s.terms)) × (c ≤ 2 * blocks s.codes)
fitting rule s c k =
    let long : length ((s.codes ++ c ∷ []) ++ k.rest) ≡ length (seats_of s.terms) = k.full.full in
    let low = valid_low 0 s.codes c k.rest (subst (λ ds. is_valid 0 ds ≡ true) (append_assoc s.codes (c ∷ []) k.rest) k.full.valid) in
    (omega (arith, length-append (s.codes ++ c ∷ []) k.rest, length_push s.codes c), omega arith)

-- the engine x holds what the engine a holds, and no code below this one keeps it open
pub record Trying {X : Type 0} (f : Ghosts X) (a x : X) (code : ℕ) : Type 0 where
  pub held : f.state x ≡ f.state a
  pub kept : f.setting x ≡ f.setting a
  pub low : code ≤ 2 * blocks (f.state a).codes + 1
  pub tried : (d : ℕ) → d < code → Completion (f.rule (f.setting a)) (with_code (f.state a) d) → ⊥

pub start : {X : Type 0} (f : Ghosts X) (a : X) → Trying f a a 0
start f a = record { held = refl; kept = refl; low = omega arith; tried = λ d l k. omega (arith, l) }

module _ {X : Type 0} (f : Ghosts X) (a x : X) (code : ℕ) (t : Trying f a x code) where
  -- the code is refused: there is no higher one
  pub refused : (y : X) (z : Cause) → (on_place (f.state x) code).refusal ≡ Some z → f.state y ≡ (on_place (f.state x) code).next → LeastPlaced (f.rule (f.setting a)) (f.state a) (f.state y) None
  refused y z no_room e = (
    λ c k.
        let s = f.state a in
        let w = fitting (f.rule (f.setting a)) s c k in
        let why : (on_place s code).refusal ≡ Some z = ap (λ (q : State). (on_place q code).refusal) (sym t.held) ∙ no_room in
        let high = fits_not s code z why w.0 in
        t.tried c (omega (arith, w.1, high)) k,
    e ∙ not_placed (f.state x) code z no_room ∙ t.held,
  )

  -- the code is placed in y
  module _ (y : X) (ok : (on_place (f.state x) code).refusal ≡ None) (e : f.state y ≡ (on_place (f.state x) code).next) (same : f.setting y ≡ f.setting x) where
    pub holds_code : f.state y ≡ with_code (f.state a) code
    holds_code = e ∙ placed (f.state x) code ok ∙ ap (λ (q : State). with_code q code) t.held

    pub room : (length (f.state a).codes < length (seats_of (f.state a).terms)) × (code ≤ 2 * blocks (f.state a).codes)
    room = fits (f.state a) code (ap (λ (q : State). (on_place q code).refusal) (sym t.held) ∙ ok)

    pub here : Completion (f.rule (f.setting y)) (f.state y) → Completion (f.rule (f.setting a)) (with_code (f.state a) code)
    here k = subst (λ n. Completion (f.rule n) (with_code (f.state a) code)) (same ∙ t.kept) (subst (Completion (f.rule (f.setting y))) holds_code k)

    pub there : Completion (f.rule (f.setting a)) (with_code (f.state a) code) → Completion (f.rule (f.setting y)) (f.state y)
    there k = subst (λ n. Completion (f.rule n) (f.state y)) (sym (same ∙ t.kept)) (subst (Completion (f.rule (f.setting a))) (sym holds_code) k)

    -- and y is open
    pub found : Completion (f.rule (f.setting y)) (f.state y) → LeastPlaced (f.rule (f.setting a)) (f.state a) (f.state y) (Some code)
    found k = (here k, t.tried, holds_code)

    -- y is not open, and z is y with the code lifted
    pub next : (z : X) → (Completion (f.rule (f.setting y)) (f.state y) → ⊥) → f.state z ≡ (on_lift (f.state y)).next → f.setting z ≡ f.setting y → Trying f a z (code + 1)
    next z shut back again = record {
      held = back ∙ ap (λ (q : State). (on_lift q).next) holds_code ∙ lifted (f.state a) code;
      kept = again ∙ same ∙ t.kept;
      low = omega (arith, room.1);
      tried = λ d l k.
          ⊎_elim
          (λ q. shut (there (subst (λ n. Completion (f.rule (f.setting a)) (with_code (f.state a) n)) q k)))
          (λ q. ⊎_elim (λ less. t.tried d less k) (λ more. omega (arith, more, l)) q)
          (cases_order d code);
    }
