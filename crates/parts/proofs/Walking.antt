-- A walk over the fields of a sheet, each noted in an engine.
use Rattle.std.proofs.Common.{◌≡◌, ℕ, ◌+◌, ◌-◌, ◌<◌, ◌≤◌, Bool, true, false, cond, List, [], ◌∷◌, ◌++◌, length, Ok, Err, Result, sym, refl, ap, ◌∙◌, subst, arith, length-append}
use Rattle.std.specs.Result.{is_ok}
use Rattle.sheet.specs.declared.fault.Fault.{Fault}
use Rattle.sheet.specs.declared.refusal.Refusal.{Refusal}
use Rattle.sheet.specs.declared.fault.Cause.TheVariants.{TermAfterRow}
use Rattle.sheet.specs.declared.term.Term.{Term}
use Rattle.sheet.specs.Causes.{fault_in}
use Rattle.sheet.specs.Fields.{FieldValue, term_field}
use Rattle.sheet.specs.Parsing.{parse}
use Rattle.sheet.specs.Left.{IsLeft}
use Rattle.sheet.specs.Walks.{Took}
use Rattle.engine.specs.Calls.{on_note_term}
use Rattle.engine.specs.Refusals.{answer_in}
use Rattle.engine.specs.States.{State, new_state}
use Rattle.engine.specs.Terms.{seats_of}
use Rattle.parts.specs.Noting.{FieldsNoted, StopsAt, WholeNoted, after_field, field_answer, front_answer, load_letter, row_stands, more, none}
use Rattle.parts.proofs.Accepting.{Accepted, Sound, accepted, is_row, seat_of}

-- no more than 8 seats and 32 terms, and no code is placed
pub sound : {letter : ℕ} {sheet : List ℕ} {s : State} {left : List ℕ} → FieldsNoted letter sheet s left → Sound s
sound none = record { few = omega arith; short = omega arith; bare = refl }
sound {letter = letter} (more {s = t} {f = f} w read ok) = (accepted letter t f (sound w) ok).sound

-- t is left of the sheet s: the engine holds the state q, and the counts and the list of seats say so
pub record Walked (letter : ℕ) (s t : List ℕ) (q : State) (terms : ℕ) (rowed : Bool) (seats : List ℕ) : Type 0 where
  pub walk : FieldsNoted letter s q t
  pub long : length t ≤ length s
  pub count : terms ≡ length q.terms
  pub rows : rowed ≡ row_stands q
  pub listed : seats ≡ seats_of q.terms

pub start : (letter : ℕ) (s : List ℕ) (q : State) (seats : List ℕ) → q ≡ new_state → seats ≡ 0 ∷ [] → Walked letter s s q 1 false seats
start letter s q seats e listed =
    record {
      walk = subst (λ x. FieldsNoted letter s x s) (sym e) none;
      long = omega arith;
      count = ap (λ (x : State). length x.terms) (sym e);
      rows = ap row_stands (sym e);
      listed = listed ∙ ap (λ (x : State). seats_of x.terms) (sym e);
    }

module _ (letter : ℕ) (s t : List ℕ) (q : State) (terms : ℕ) (rowed : Bool) (seats : List ℕ) (w : Walked letter s t q terms rowed seats) where
  pub short : terms ≤ 32
  short = omega (arith, w.count, (sound w.walk).short)

  -- the field f is noted
  module _ (f : FieldValue) (ok : Ok tt ≡ field_answer letter q f) where
    now_accepted : Accepted q f
    now_accepted = accepted letter q f (sound w.walk) (sym ok)

    seats_then : seats_of (after_field q f).terms ≡ seats ++ seat_of terms f
    seats_then = now_accepted.seats ∙ (λ i. sym w.listed i ++ seat_of (sym w.count i) f)

    -- its seat finds room
    pub room : length seats + length (seat_of terms f) ≤ 8
    room = omega (arith, now_accepted.sound.few, ap length seats_then, length-append seats (seat_of terms f))

    pub step : (u : List ℕ) (p : State) (terms' : ℕ) (rowed' : Bool) (seats' : List ℕ) → Took t f u → p ≡ after_field q f → terms' ≡ terms + cond (is_row f) 0 1 → rowed' ≡ is_row f → seats' ≡ seats ++ seat_of terms f → Walked letter s u p terms' rowed' seats'
    step u p terms' rowed' seats' k e counted row listed =
        let used = k.used in
        let long = w.long in
        record {
          walk = subst (λ x. FieldsNoted letter s x u) (sym e) (subst (FieldsNoted letter s (after_field q f)) (sym k.rest) (more w.walk k.read (sym ok)));
          long = omega arith;
          count = counted ∙ ap (λ n. n + cond (is_row f) 0 1) w.count ∙ sym now_accepted.counted ∙ ap (λ (x : State). length x.terms) (sym e);
          rows = row ∙ sym now_accepted.rows ∙ ap row_stands (sym e);
          listed = listed ∙ sym seats_then ∙ ap (λ (x : State). seats_of x.terms) (sym e);
        }

  -- no byte is left
  pub whole : t ≡ [] → WholeNoted letter s q seats
  whole none_left = record { walk = subst (FieldsNoted letter s q) none_left w.walk; listed = w.listed }

  -- what is left is refused
  pub stops_at : (fault : Fault) (e : Refusal) → (length t ≡ 0 → ⊥) → IsLeft s t → front_answer letter q (parse t) ≡ Err fault → e ≡ record { fault = fault; place = length s - length t } → StopsAt letter s e
  stops_at fault e some left stops is =
      let long = w.long in
      let more : 0 < length t = omega arith in
      let at : StopsAt letter s (record { fault = fault; place = length s - length t }) = record {
        held = q;
        walk = subst (FieldsNoted letter s q) left w.walk;
        within = omega arith;
        stops = ap (λ x. front_answer letter q (parse x)) (sym left) ∙ stops;
      } in
      subst (StopsAt letter s) (sym is) at

-- a call that answered Ok was not refused
pub ok_is : (r : Result (Unit {0}) Fault) → is_ok r ≡ true → r ≡ Ok tt
ok_is (Ok u) e = refl
ok_is (Err f) e = cc

-- a term that was noted stands before every row
pub no_row : (letter : ℕ) (q : State) (t : Term) (l : List ℕ) → Ok tt ≡ field_answer letter q (term_field t l) → row_stands q ≡ false
no_row letter q t l ok =
    let go : (b : Bool) → Ok tt ≡ cond b (Err (fault_in load_letter TermAfterRow)) (answer_in letter (on_note_term q t).refusal) → b ≡ false =
    elim [ true ↦ λ e. absurd (let z : ◌≡◌ {A = ℕ} 0 1 = cc in omega arith) | false ↦ λ e. refl ] in
    go (row_stands q) ok

-- a row does not count as a term
pub row_counts : (n : ℕ) (b : Bool) → b ≡ true → n ≡ n + cond b 0 1
row_counts n true e = omega arith
row_counts n false e = cc

pub term_counts : (n : ℕ) (b : Bool) → b ≡ false → n + 1 ≡ n + cond b 0 1
term_counts n true e = cc
term_counts n false e = refl
