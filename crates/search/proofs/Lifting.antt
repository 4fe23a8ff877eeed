-- Codes lifted off two engines that hold the same, until none is left.
use Rattle.std.proofs.Common.{◌≡◌, ℕ, ◌<◌, true, false, cond, List, [], ◌∷◌, length, Some, None, Option, sym, refl, ap, ◌∙◌, subst, arith}
use Rattle.std.proofs.lemmas.Bool.{false≢true, ne_eqb}
use Rattle.std.proofs.lemmas.List.{length-take}
use Rattle.std.proofs.lemmas.Option.{none-some}
use Rattle.std.specs.Result.{is_ok}
use Rattle.sheet.specs.declared.fault.Cause.{Cause}
use Rattle.sheet.specs.declared.fault.Cause.TheVariants.{NoCodeToLift}
use Rattle.engine.specs.declared.engine.Engine.{Ghosts}
use Rattle.engine.specs.Calls.{on_lift, unless_refused, without_last}
use Rattle.engine.specs.Refusals.{answer_in}
use Rattle.engine.specs.States.{State, with_codes}
use Rattle.search.specs.Engines.{Alike}

-- an answer tells whether the call was refused
pub taken : (letter : ℕ) (o : Option Cause) → is_ok (answer_in letter o) ≡ true → o ≡ None
taken letter None e = refl
taken letter (Some c) e = absurd (false≢true e)

pub turned_away : (letter : ℕ) (o : Option Cause) → is_ok (answer_in letter o) ≡ false → (c : Cause) × (o ≡ Some c)
turned_away letter None e = absurd (false≢true (sym e))
turned_away letter (Some c) e = (c, refl)

-- a lift is refused exactly where no code is placed
not_refused : (s : State) (c : ℕ) (cs : List ℕ) → (on_lift (with_codes s (c ∷ cs))).refusal ≡ None
not_refused s c cs = ap (λ b. cond b (Some NoCodeToLift) None) (ne_eqb (length (c ∷ cs)) 0 (λ e. omega arith))

refused_of : (s : State) (cs : List ℕ) (c : Cause) → (on_lift (with_codes s cs)).refusal ≡ Some c → cs ≡ []
refused_of s [] c e = refl
refused_of s (x ∷ cs) c e = absurd (none-some c (sym (not_refused s x cs) ∙ e))

lift_of : (s : State) (cs : List ℕ) → (on_lift (with_codes s cs)).next ≡ with_codes s (without_last cs)
lift_of s [] = refl
lift_of s (c ∷ cs) = ap (λ o. unless_refused o (with_codes s (c ∷ cs)) (with_codes s (without_last (c ∷ cs)))) (not_refused s c cs)

taken_of : (s : State) (cs : List ℕ) → (on_lift (with_codes s cs)).refusal ≡ None → length (without_last cs) < length cs
taken_of s [] e = absurd (none-some NoCodeToLift (sym e))
taken_of s (x ∷ cs) e = omega (arith, length-take {A = ℕ})

pub lift_fewer : (s : State) → (on_lift s).refusal ≡ None → length (on_lift s).next.codes < length s.codes
lift_fewer s e = subst (λ (t : State). length t.codes < length s.codes) (sym (lift_of s s.codes)) (taken_of s s.codes e)

module _ {F S : Type 0} {f : Ghosts F} {s : Ghosts S} {a x : F} {b y : S} {cs : List ℕ} (h : Alike f s a b x y cs) where
  -- the last code is lifted off both, if there is one
  pub lift_both : {v : F} {w : S} → f.state v ≡ (on_lift (f.state x)).next → s.state w ≡ (on_lift (s.state y)).next → f.setting v ≡ f.setting x → s.setting w ≡ s.setting y
      → Alike f s a b v w (without_last cs)
  lift_both p q k l = record {
    by_first = p ∙ ap (λ (t : State). (on_lift t).next) h.by_first ∙ lift_of (f.state a) cs;
    by_second = q ∙ ap (λ (t : State). (on_lift t).next) h.by_second ∙ lift_of (f.state a) cs;
    keeps_first = k ∙ h.keeps_first;
    keeps_second = l ∙ h.keeps_second;
  }

  -- the first refuses: no code is left
  pub lift_refused : {v : F} (c : Cause) → (on_lift (f.state x)).refusal ≡ Some c → f.state v ≡ (on_lift (f.state x)).next → f.setting v ≡ f.setting x → Alike f s a b v y []
  lift_refused c e p k =
      let none : cs ≡ [] = refused_of (f.state a) cs c (ap (λ (t : State). (on_lift t).refusal) (sym h.by_first) ∙ e) in
      record {
        by_first = p ∙ ap (λ (t : State). (on_lift t).next) h.by_first ∙ lift_of (f.state a) cs ∙ ap (λ ds. with_codes (f.state a) (without_last ds)) none;
        by_second = h.by_second ∙ ap (with_codes (f.state a)) none;
        keeps_first = k ∙ h.keeps_first;
        keeps_second = h.keeps_second;
      }
