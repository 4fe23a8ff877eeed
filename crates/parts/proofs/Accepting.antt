-- What is known of a field that was noted, and of the state that follows.
use Rattle.std.proofs.Common.{◌≡◌, ℕ, ◌+◌, ◌<◌, ◌≤◌, Bool, true, false, cond, List, [], ◌∷◌, ◌++◌, length, Some, None, Ok, Err, Option, sym, refl, ap, ◌∙◌, subst, append-nil, add-zero, arith}
use Rattle.std.proofs.lemmas.List.{length_push}
use Rattle.std.proofs.lemmas.Bool.{lt-ltb}
use Rattle.sheet.specs.declared.fault.Cause.{Cause}
use Rattle.sheet.specs.declared.fault.Cause.TheVariants.{TermAfterRow}
use Rattle.sheet.specs.declared.fault.Fault.{Fault}
use Rattle.sheet.specs.declared.term.Term.{Term}
use Rattle.sheet.specs.Causes.{fault_in}
use Rattle.sheet.specs.Fields.{FieldValue, term_field, row_field}
use Rattle.engine.specs.Calls.{◌or_else◌, codes_refusal, on_note_row, on_note_term, unless_refused}
use Rattle.engine.specs.Refusals.{answer_in, term_refusal}
use Rattle.engine.specs.States.{State, with_rows, with_terms}
use Rattle.sheet.specs.Terms.{is_dated}
use Rattle.engine.specs.Terms.{seats_of}
use Rattle.engine.proofs.Fitting.{few_seats, term_passes}
use Rattle.engine.proofs.Seats.{seats_push}
use Rattle.parts.specs.Noting.{after_field, field_answer, row_stands, load_letter}
use Rattle.engine.proofs.Using.{accepted_is}

abbrev pub is_row : FieldValue → Bool
is_row (term_field t l) = false
is_row (row_field r) = true

-- the seat that a field adds, as term n
abbrev pub seat_of : ℕ → FieldValue → List ℕ
seat_of n (term_field t l) = cond (is_dated t.kind) (n ∷ []) []
seat_of n (row_field r) = []

or_none : (a b : Option Cause) → (a or_else b) ≡ None → a ≡ None
or_none None b e = refl
or_none (Some c) b e = e

-- what every state of a walk keeps
pub record Sound (s : State) : Type 0 where
  pub few : length (seats_of s.terms) ≤ 8
  pub short : length s.terms ≤ 32
  pub bare : s.codes ≡ []

-- what a field that is accepted does
pub record Accepted (s : State) (f : FieldValue) : Type 0 where
  pub sound : Sound (after_field s f)
  pub counted : length (after_field s f).terms ≡ length s.terms + cond (is_row f) 0 1
  pub rows : row_stands (after_field s f) ≡ is_row f
  pub seats : seats_of (after_field s f).terms ≡ seats_of s.terms ++ seat_of (length s.terms) f

-- the state t follows a term that was accepted, where s has no row
term_accepted : (s t : State) (x : Term) → Sound s → row_stands s ≡ false → term_refusal s.terms x ≡ None → t ≡ with_terms s (s.terms ++ x ∷ []) → Sound t × (length t.terms ≡ length s.terms + 1) × (row_stands t ≡ false) × (seats_of t.terms ≡ seats_of s.terms ++ cond (is_dated x.kind) (length s.terms ∷ []) [])
term_accepted s t x k bare ok e =
    let ts = s.terms in
    let new : t.terms ≡ ts ++ x ∷ [] = ap (λ (q : State). q.terms) e in
    let room = (term_passes ts x ok).room in
    let long : length t.terms ≡ length ts + 1 = ap length new ∙ length_push ts x in
    let seats : seats_of t.terms ≡ seats_of ts ++ cond (is_dated x.kind) (length ts ∷ []) [] = ap seats_of new ∙ seats_push ts x in
    let few : length (seats_of t.terms) ≤ 8 = subst (λ us. length (seats_of us) ≤ 8) (sym new) (few_seats ts x ok k.few).1 in
    (record { few = few; short = omega (arith, room, long); bare = ap (λ (q : State). q.codes) e ∙ k.bare }, long, ap row_stands e ∙ bare, seats)

cond_ok : (b : Bool) (letter : ℕ) (o : Option Cause) (e : Fault) → cond b (Err e) (answer_in letter o) ≡ Ok tt → (b ≡ false) × (o ≡ None)
cond_ok true letter o e h = let z : ◌≡◌ {A = ℕ} 0 1 = cc in absurd (omega arith)
cond_ok false letter o e h = (refl, accepted_is letter o tt (sym h))

-- what is accepted with one letter is accepted with each: letters stand in refusals alone
pub accepted_by_each : (a b : ℕ) (s : State) (f : FieldValue) → field_answer a s f ≡ Ok tt → field_answer b s f ≡ Ok tt
accepted_by_each a b s (term_field x l) ok =
    let late = fault_in load_letter TermAfterRow in
    let w = cond_ok (row_stands s) a (on_note_term s x).refusal late ok in
    λ i. cond (w.0 i) (Err late) (answer_in b (w.1 i))
accepted_by_each a b s (row_field r) ok = ap (answer_in b) (accepted_is a (on_note_row s r).refusal tt (sym ok))

pub accepted : (letter : ℕ) (s : State) (f : FieldValue) → Sound s → field_answer letter s f ≡ Ok tt → Accepted s f
accepted letter s (term_field x l) k ok =
    let w = cond_ok (row_stands s) letter (on_note_term s x).refusal (fault_in load_letter TermAfterRow) ok in
    let e : after_field s (term_field x l) ≡ with_terms s (s.terms ++ x ∷ []) = ap (λ b. cond b s (on_note_term s x).next) w.0 ∙ ap (λ (o : Option Cause). unless_refused o s (with_terms s (s.terms ++ x ∷ []))) w.1 in
    let r = term_accepted s (after_field s (term_field x l)) x k w.0 (or_none (term_refusal s.terms x) (codes_refusal s) w.1) e in
    record { sound = r.0; counted = r.1; rows = r.2; seats = r.3 }
accepted letter s (row_field r) k ok =
    let taken : (on_note_row s r).refusal ≡ None = accepted_is letter (on_note_row s r).refusal tt (sym ok) in
    let e : after_field s (row_field r) ≡ with_rows s (s.rows ++ record { row = r; active = true } ∷ []) = ap (λ (o : Option Cause). unless_refused o s (with_rows s (s.rows ++ record { row = r; active = true } ∷ []))) taken in
    let same : (after_field s (row_field r)).terms ≡ s.terms = ap (λ (q : State). q.terms) e in
    let some : 0 < length (s.rows ++ record { row = r; active = true } ∷ []) = omega (arith, length_push s.rows (record { row = r; active = true })) in
    record {
      sound = record { few = subst (λ ts. length (seats_of ts) ≤ 8) (sym same) k.few; short = subst (λ ts. length ts ≤ 32) (sym same) k.short; bare = ap (λ (q : State). q.codes) e ∙ k.bare };
      counted = ap length same ∙ sym (add-zero (length s.terms));
      rows = ap row_stands e ∙ lt-ltb 0 (length (s.rows ++ record { row = r; active = true } ∷ [])) some;
      seats = ap seats_of same ∙ sym (append-nil (seats_of s.terms));
    }
