-- What follows for a sheet once its fields are noted and its seats are placed.
use Rattle.std.proofs.Common.{◌≡◌, ℕ, ◌≤◌, Bool, List, [], ◌++◌, length, ℤ, Some, None, sym, ap, ◌∙◌, subst, append-nil}
use Rattle.arrayvec.specs.ArrayVec.{ArrayVec}
use Rattle.sheet.specs.declared.fault.Fault.{Fault}
use Rattle.sheet.specs.declared.row.Row.{Row}
use Rattle.sheet.specs.declared.term.Term.{Term}
use Rattle.engine.specs.Arrangements.{Arrangement}
use Rattle.engine.specs.Dates.{Dated, Undated}
use Rattle.engine.specs.Rows.{RowKind}
use Rattle.engine.specs.States.{State, Completion, active_rows, with_codes}
use Rattle.engine.specs.Terms.{seats_of}
use Rattle.parts.specs.declared.seat.Seat.{Seat}
use Rattle.parts.specs.Diagnoses.{MetBy, UnmetBy}
use Rattle.parts.specs.First.{FirstPlaced}
use Rattle.parts.specs.Noting.{FieldsNoted, WholeNoted}
use Rattle.parts.specs.Seats.{seats_with}
use Rattle.parts.proofs.Walking.{sound}

-- as placing the seats asks
pub few_seats : (letter : ℕ) (sheet : List ℕ) (s : State) (seats : List ℕ) → WholeNoted letter sheet s seats → length (seats_of s.terms) ≤ 8
few_seats letter sheet s seats n = (sound n.walk).few

module _ (rule : List Term → List Row → List ℕ → Type 0) (s t : State) (codes : ArrayVec ℕ) where
  -- the first arrangement is a completion of itself
  pub completed : FirstPlaced rule s t (Some codes) → (length t.codes ≡ length (seats_of t.terms)) × Completion rule t
  completed p =
      let k = p.0 in
      let more = codes.items in
      let all : (s.codes ++ more) ++ [] ≡ s.codes ++ more = append-nil (s.codes ++ more) in
      let here : Completion rule (with_codes s (s.codes ++ more)) = record {
        rest = [];
        full = subst (Arrangement (length (seats_of s.terms))) (sym all) k.full;
        allowed = subst (rule s.terms (active_rows s.rows)) (sym all) k.allowed;
      } in
      subst (λ (x : State). (length x.codes ≡ length (seats_of x.terms)) × Completion rule x) (sym p.1) (k.full.full, here)

  -- so its dates are not refused
  pub dates_are : (letter : ℕ) (e : Fault) → FirstPlaced rule s t (Some codes) → Undated rule t letter e → ⊥
  dates_are letter e p u = let w = completed p in u.ground w.0 w.1

  module _ (counts : RowKind → Bool) (picks : List Term → List Row → List ℕ → List ℤ → Type 0) (letter : ℕ) (sheet terms : List ℕ) (n : WholeNoted letter sheet s terms) where
    pub met : (dates : List ℤ) (seats : List Seat) → FirstPlaced rule s t (Some codes) → Dated rule t counts picks dates → seats ≡ seats_with terms codes.items dates → MetBy rule counts picks letter sheet t seats
    met dates seats p d listed =
        let bare : s.codes ≡ [] = (sound n.walk).bare in
        let ends : t ≡ with_codes s codes.items = p.1 ∙ ap (λ ds. with_codes s (ds ++ codes.items)) bare in
        record {
          noted = s;
          codes = codes.items;
          dates = dates;
          walk = n.walk;
          bare = bare;
          first = p.0;
          dated = subst (λ (x : State). Dated rule x counts picks dates) ends d;
          listed = listed ∙ ap (λ ts. seats_with ts codes.items dates) n.listed;
          leaves = ends;
        }

pub unmet : (rule : List Term → List Row → List ℕ → Type 0) (s t : State) (counts : RowKind → Bool) (picks : List Term → List Row → List ℕ → List ℤ → Type 0) (letter : ℕ) (sheet terms : List ℕ) → WholeNoted letter sheet s terms → FirstPlaced rule s t None → UnmetBy rule counts picks letter sheet t
unmet rule s t counts picks letter sheet terms n p = record {
  walk = subst (λ (x : State). FieldsNoted letter sheet x []) (sym p.1) n.walk;
  closed = λ k. p.0 (subst (Completion rule) p.1 k);
}
