-- What is said of a sheet is said of no other answer: the walk, the refusal and the first arrangement are the only ones, and a sheet that one
-- engine takes no engine refuses.
use Rattle.std.proofs.Common.{◌≡◌, ℕ, ◌<◌, Bool, List, [], ◌++◌, length, drop, ℤ, Some, None, Ok, Err, Option, Result, sym, refl, ap, ◌∙◌, subst, ⊎_elim, arith, length-drop}
use Rattle.std.proofs.lemmas.List.{append_cancel_left}
use Rattle.arrayvec.specs.ArrayVec.{ArrayVec}
use Rattle.sheet.specs.declared.fault.Cause.TheVariants.{CutShort}
use Rattle.sheet.specs.declared.fault.Fault.{Fault}
use Rattle.sheet.specs.declared.row.Row.{Row}
use Rattle.sheet.specs.declared.term.Term.{Term}
use Rattle.sheet.specs.Causes.{fault_in, reader_letter}
use Rattle.sheet.specs.Fields.{FieldValue}
use Rattle.sheet.specs.Parsing.{parse, remaining}
use Rattle.engine.proofs.Codes.{codes_ordered}
use Rattle.engine.specs.Rows.{RowKind}
use Rattle.engine.specs.States.{State, new_state}
use Rattle.sheet.specs.declared.refusal.Refusal.{Refusal}
use Rattle.parts.specs.declared.seat.Seat.{Seat}
use Rattle.parts.specs.Diagnoses.{InstantsDiagnosed}
use Rattle.parts.specs.First.{FirstCompletion}
use Rattle.parts.specs.Noting.{RefusedAt, FieldsNoted, after_field, field_answer, front_answer, more, none}
use Rattle.parts.proofs.Accepting.{accepted_by_each}

-- fields noted from the state s on, where `left` is left, up to the state t, where `right` is left
data Onward (letter : ℕ) : State → List ℕ → State → List ℕ → Type 0 where
  here : {s : State} {left : List ℕ} → Onward letter s left s left
  on : {s t : State} {left right : List ℕ} (f : FieldValue) → parse left ≡ Ok f → field_answer letter s f ≡ Ok tt → Onward letter (after_field s f) (remaining left) t right → Onward letter s left t right

join : {letter : ℕ} {s t u : State} {left right end : List ℕ} → Onward letter s left t right → Onward letter t right u end → Onward letter s left u end
join here w = w
join (on f read ok v) w = on f read ok (join v w)

from_start : {letter : ℕ} {sheet left : List ℕ} {s : State} → FieldsNoted letter sheet s left → Onward letter new_state sheet s left
from_start none = here
from_start (more {f = f} w read ok) = join (from_start w) (on f read ok here)

-- what is left is refused, or nothing is left
abbrev Stops : ℕ → State → List ℕ → Type 0
Stops letter s left = (e : Fault) × (front_answer letter s (parse left) ≡ Err e)

goes : (letter : ℕ) (s : State) (left : List ℕ) (f : FieldValue) → parse left ≡ Ok f → field_answer letter s f ≡ Ok tt → Stops letter s left → ⊥
goes letter s left f read ok stop =
    let e = stop.0 in
    let q : front_answer letter s (Ok f) ≡ Err e = ap (front_answer letter s) (sym read) ∙ stop.1 in
    let both : ◌≡◌ {A = Result (Unit {0}) Fault} (Ok tt) (Err e) = sym ok ∙ q in
    let z : ◌≡◌ {A = ℕ} 0 1 = cc in omega arith

same_field : (r : Result FieldValue Fault) (f h : FieldValue) → r ≡ Ok f → r ≡ Ok h → f ≡ h
same_field r f h p q = cc

-- two ways from one start that stop come to one end
one_end : {letter : ℕ} {q s t : State} {from left right : List ℕ} → Onward letter q from s left → Onward letter q from t right → Stops letter s left → Stops letter t right → (s ≡ t) × (left ≡ right)
one_end here here stop halt = (refl, refl)
one_end {letter} {q} {from = from} here (on f read ok w) stop halt = absurd (goes letter q from f read ok stop)
one_end {letter} {q} {from = from} (on f read ok w) here stop halt = absurd (goes letter q from f read ok halt)
one_end {letter} {q} {s} {t} {from} {left} {right} (on f read ok v) (on h read' ok' w) stop halt =
    one_end v (subst (λ x. Onward letter (after_field q x) (remaining from) t right) (sym (same_field (parse from) f h read read')) w) stop halt

pub noted_by_each : (a b : ℕ) {sheet left : List ℕ} {s : State} → FieldsNoted a sheet s left → FieldsNoted b sheet s left
noted_by_each a b none = none
noted_by_each a b (more {s = s} {f = f} w read ok) = more (noted_by_each a b w) read (accepted_by_each a b s f ok)

module _ (letter : ℕ) (sheet : List ℕ) where
  at_end : (s : State) → Stops letter s []
  at_end s = (fault_in reader_letter CutShort, refl)

  one_place : (p q : ℕ) → p < length sheet → q < length sheet → drop p sheet ≡ drop q sheet → p ≡ q
  one_place p q a b e = omega (arith, length-drop p sheet, length-drop q sheet, ap length e)

  not_at_end : (p : ℕ) → p < length sheet → drop p sheet ≡ [] → ⊥
  not_at_end p a e = let none_left : length (drop p sheet) ≡ 0 = ap length e in omega (arith, length-drop p sheet)

  pub whole_once : (s t : State) → FieldsNoted letter sheet s [] → FieldsNoted letter sheet t [] → s ≡ t
  whole_once s t x y = (one_end (from_start x) (from_start y) (at_end s) (at_end t)).0

  -- a sheet that an engine with one letter noted whole is not refused with another
  pub not_refused : (other : ℕ) (s t : State) (e : Refusal) → FieldsNoted other sheet s [] → RefusedAt letter sheet t e → ⊥
  not_refused other s t e x y = not_at_end e.place y.at.within (sym (one_end (from_start (noted_by_each other letter x)) (from_start y.at.walk) (at_end s) (e.fault, y.at.stops)).1)

  pub same_refusal : (a b : Refusal) (s t : State) → RefusedAt letter sheet s a → RefusedAt letter sheet t b → a ≡ b
  same_refusal a b s t x y =
      let w = one_end (from_start x.at.walk) (from_start y.at.walk) (a.fault, x.at.stops) (b.fault, y.at.stops) in
      let place : a.place ≡ b.place = one_place a.place b.place x.at.within y.at.within w.1 in
      let front : front_answer letter x.at.held (parse (drop a.place sheet)) ≡ front_answer letter y.at.held (parse (drop b.place sheet)) = λ i. front_answer letter (w.0 i) (parse (w.1 i)) in
      let faults : ◌≡◌ {A = Result (Unit {0}) Fault} (Err a.fault) (Err b.fault) = sym x.at.stops ∙ front ∙ y.at.stops in
      let fault : a.fault ≡ b.fault = cc in
      λ i. record { fault = fault i; place = place i }

-- nor is one that an engine took, whether its instants are met or not
pub taken_not_refused : (rule : List Term → List Row → List ℕ → Type 0) (counts : RowKind → Bool) (picks : List Term → List Row → List ℕ → List ℤ → Type 0) (letter other : ℕ) (sheet : List ℕ) (s t : State) (seats : Option (ArrayVec Seat)) (e : Refusal) → InstantsDiagnosed rule counts picks letter sheet s (Ok seats) → RefusedAt other sheet t e → ⊥
taken_not_refused rule counts picks letter other sheet s t (Some seats) e x y = not_refused other sheet letter x.noted t e x.walk y
taken_not_refused rule counts picks letter other sheet s t None e x y = not_refused other sheet letter s t e x.walk y

-- there is only one first completion
pub first_once : (rule : List Term → List Row → List ℕ → Type 0) (s : State) (cs ds : List ℕ) → FirstCompletion rule s cs → FirstCompletion rule s ds → cs ≡ ds
first_once rule s cs ds x y =
    append_cancel_left s.codes cs ds
    (⊎_elim
    (λ e. e)
    (λ q. absurd (⊎_elim (λ b. y.first cs x.full x.allowed b) (λ b. x.first ds y.full y.allowed b) q))
    (codes_ordered (s.codes ++ cs) (s.codes ++ ds) (x.full.full ∙ sym y.full.full)))
