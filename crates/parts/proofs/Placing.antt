-- Seats placed one after another, each by the least code that keeps the engine open.
use Rattle.std.proofs.Common.{◌≡◌, ℕ, ◌-◌, ◌<◌, ◌≤◌, List, [], ◌∷◌, ◌++◌, length, Some, None, sym, refl, ap, ◌∙◌, subst, ⊎_elim, append_assoc, append-nil, arith, length-append}
use Rattle.std.proofs.lemmas.List.{length_push}
use Rattle.arrayvec.specs.ArrayVec.{ArrayVec}
use Rattle.sheet.specs.declared.row.Row.{Row}
use Rattle.sheet.specs.declared.term.Term.{Term}
use Rattle.engine.specs.declared.engine.Engine.{Ghosts}
use Rattle.engine.specs.Arrangements.{Arrangement, Before}
use Rattle.engine.specs.States.{State, Completion, active_rows, with_codes, with_code}
use Rattle.engine.specs.Terms.{seats_of}
use Rattle.parts.specs.First.{FirstCompletion, FirstPlaced, LeastPlaced}
use Rattle.engine.proofs.Codes.{before_front, before_push}
use Rattle.parts.proofs.Trying.{fitting}

-- the engine holds s with the codes `more` placed on top: it is open, and nothing that is allowed comes before
pub record Begun (rule : List Term → List Row → List ℕ → Type 0) (s : State) (more : List ℕ) : Type 0 where
  pub completed : Completion rule (with_codes s (s.codes ++ more))
  pub none_before : (other : List ℕ) → Arrangement (length (seats_of s.terms)) (s.codes ++ other) → rule s.terms (active_rows s.rows) (s.codes ++ other) → Before (s.codes ++ other) (s.codes ++ more) → ⊥

module _ (rule : List Term → List Row → List ℕ → Type 0) (s : State) where
  pub begin : Completion rule s → Begun rule s []
  begin k = record {
    completed = subst (λ ds. Completion rule (with_codes s ds)) (sym (append-nil s.codes)) k;
    none_before = λ other a r b. before_front s.codes other b;
  }

  -- one code more, the least that keeps the engine open
  pub go_on : (more : List ℕ) (c : ℕ) → Begun rule s more → Completion rule (with_codes s ((s.codes ++ more) ++ c ∷ [])) → ((d : ℕ) → d < c → Completion rule (with_codes s ((s.codes ++ more) ++ d ∷ [])) → ⊥) → Begun rule s (more ++ c ∷ [])
  go_on more c b k least = record {
    completed = subst (λ ds. Completion rule (with_codes s ds)) (append_assoc s.codes more (c ∷ [])) k;
    none_before = λ other a r h.
        ⊎_elim
        (λ q. b.none_before other a r q)
        (λ q.
        let e : s.codes ++ other ≡ ((s.codes ++ more) ++ q.0 ∷ []) ++ q.1 = q.3 ∙ sym (append_assoc (s.codes ++ more) (q.0 ∷ []) q.1) in
        least q.0 q.2 (record {
          rest = q.1;
          full = subst (Arrangement (length (seats_of s.terms))) e a;
          allowed = subst (rule s.terms (active_rows s.rows)) e r;
        }))
        (before_push (s.codes ++ other) (s.codes ++ more) c (subst (Before (s.codes ++ other)) (sym (append_assoc s.codes more (c ∷ []))) h));
  }

  -- no code keeps the engine open, so every seat is placed
  pub end : (more : List ℕ) → Begun rule s more → ((c : ℕ) → Completion rule (with_codes s ((s.codes ++ more) ++ c ∷ [])) → ⊥) → FirstCompletion rule s more
  end more b None-more =
      let stop : (rest : List ℕ) → Arrangement (length (seats_of s.terms)) ((s.codes ++ more) ++ rest) → rule s.terms (active_rows s.rows) ((s.codes ++ more) ++ rest) → Arrangement (length (seats_of s.terms)) (s.codes ++ more) × rule s.terms (active_rows s.rows) (s.codes ++ more) =
      λ rest. elim rest as (λ x. Arrangement (length (seats_of s.terms)) ((s.codes ++ more) ++ x) → rule s.terms (active_rows s.rows) ((s.codes ++ more) ++ x) → Arrangement (length (seats_of s.terms)) (s.codes ++ more) × rule s.terms (active_rows s.rows) (s.codes ++ more)) [
        | [] ↦ λ a r. (subst (Arrangement (length (seats_of s.terms))) (append-nil (s.codes ++ more)) a, subst (rule s.terms (active_rows s.rows)) (append-nil (s.codes ++ more)) r)
        | d ∷ ds ↦ λ a r.
            let e : (s.codes ++ more) ++ (d ∷ ds) ≡ ((s.codes ++ more) ++ d ∷ []) ++ ds = sym (append_assoc (s.codes ++ more) (d ∷ []) ds) in
            absurd (None-more d (record {
              rest = ds;
              full = subst (Arrangement (length (seats_of s.terms))) e a;
              allowed = subst (rule s.terms (active_rows s.rows)) e r;
            }))
      ] in
      let w = stop b.completed.rest b.completed.full b.completed.allowed in
      record { full = w.0; allowed = w.1; first = b.none_before }

-- the engine a was open; the engine x holds what it holds with these codes on top
pub record Placing {X : Type 0} (f : Ghosts X) (a x : X) (codes : List ℕ) : Type 0 where
  pub state_is : f.state x ≡ with_codes (f.state a) ((f.state a).codes ++ codes)
  pub kept : f.setting x ≡ f.setting a
  pub begun : Begun (f.rule (f.setting a)) (f.state a) codes

pub placing_start : {X : Type 0} (f : Ghosts X) (a : X) → Completion (f.rule (f.setting a)) (f.state a) → Placing f a a []
placing_start f a k = record {
  state_is = ap (with_codes (f.state a)) (sym (append-nil (f.state a).codes));
  kept = refl;
  begun = begin (f.rule (f.setting a)) (f.state a) k;
}

module _ {X : Type 0} (f : Ghosts X) (a x : X) (codes : ArrayVec ℕ) (p : Placing f a x codes.items) where
  pub same_terms : (f.state x).terms ≡ (f.state a).terms
  same_terms = ap (λ (q : State). q.terms) p.state_is

  now_codes : (f.state x).codes ≡ (f.state a).codes ++ codes.items
  now_codes = ap (λ (q : State). q.codes) p.state_is

  moved : (c : ℕ) → with_code (f.state x) c ≡ with_codes (f.state a) (((f.state a).codes ++ codes.items) ++ c ∷ [])
  moved c = ap (λ (q : State). with_code q c) p.state_is

  here : (c : ℕ) → Completion (f.rule (f.setting x)) (with_code (f.state x) c) → Completion (f.rule (f.setting a)) (with_codes (f.state a) (((f.state a).codes ++ codes.items) ++ c ∷ []))
  here c k = subst (λ n. Completion (f.rule n) (with_codes (f.state a) (((f.state a).codes ++ codes.items) ++ c ∷ []))) p.kept (subst (Completion (f.rule (f.setting x))) (moved c) k)

  there : (c : ℕ) → Completion (f.rule (f.setting a)) (with_codes (f.state a) (((f.state a).codes ++ codes.items) ++ c ∷ [])) → Completion (f.rule (f.setting x)) (with_code (f.state x) c)
  there c k = subst (λ n. Completion (f.rule n) (with_code (f.state x) c)) (sym p.kept) (subst (Completion (f.rule (f.setting a))) (sym (moved c)) k)

  -- place_least answered None
  pub placing_end : (y : X) → LeastPlaced (f.rule (f.setting x)) (f.state x) (f.state y) None → FirstPlaced (f.rule (f.setting a)) (f.state a) (f.state y) (Some codes)
  placing_end y h = (end (f.rule (f.setting a)) (f.state a) codes.items p.begun (λ c k. h.0 c (there c k)), h.1 ∙ p.state_is)

  -- place_least answered a code, which was pushed
  module _ (y : X) (c : ℕ) (h : LeastPlaced (f.rule (f.setting x)) (f.state x) (f.state y) (Some c)) where
    pub placing_next : (longer : List ℕ) → f.setting y ≡ f.setting x → longer ≡ codes.items ++ c ∷ [] → Placing f a y longer
    placing_next longer same pushed = subst (Placing f a y) (sym pushed) (record {
      state_is = h.2 ∙ moved c ∙ ap (with_codes (f.state a)) (append_assoc (f.state a).codes codes.items (c ∷ []));
      kept = same ∙ p.kept;
      begun = go_on (f.rule (f.setting a)) (f.state a) codes.items c p.begun (here c h.0) (λ d l k. h.1 d l (there d k));
    })

    -- a seat was left
    pub seat_left : length (f.state x).codes < length (seats_of (f.state a).terms)
    seat_left = subst (λ ts. length (f.state x).codes < length (seats_of ts)) same_terms (fitting (f.rule (f.setting x)) (f.state x) c h.0).0

    pub room_left : length (seats_of (f.state a).terms) ≤ 8 → length codes.items < 8
    room_left few = omega (arith, seat_left, ap length now_codes, length-append (f.state a).codes codes.items)

    pub fewer_left : length (seats_of (f.state a).terms) - length (f.state y).codes < length (seats_of (f.state a).terms) - length (f.state x).codes
    fewer_left = omega (arith, seat_left, ap (λ (q : State). length q.codes) h.2, length_push (f.state x).codes c)
