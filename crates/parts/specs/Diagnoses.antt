-- What the engines say of a whole sheet.
use Rattle.std.specs.Prelude.{◌≡◌, ◌↔◌, ℕ, Bool, IsTrue, List, [], ℤ, Some, None, Ok, Err, Option, Result}
use Rattle.arrayvec.specs.ArrayVec.{ArrayVec}
use Rattle.sheet.specs.declared.refusal.Refusal.{Refusal}
use Rattle.sheet.specs.declared.row.Row.{Row}
use Rattle.sheet.specs.declared.term.Term.{Term}
use Rattle.engine.specs.Dates.{Dated}
use Rattle.engine.specs.Rows.{RowKind}
use Rattle.engine.specs.States.{State, Completion, with_codes}
use Rattle.engine.specs.Terms.{seats_of}
use Rattle.parts.specs.declared.diagnosis.Findings.{Findings}
use Rattle.parts.specs.declared.seat.Seat.{Seat}
use Rattle.parts.specs.First.{FirstCompletion}
use Rattle.parts.specs.Noting.{RefusedAt, FieldsNoted}
use Rattle.parts.specs.Seats.{seats_with}

-- an engine that dates was given the sheet, and holds t then
module _ (rule : List Term → List Row → List ℕ → Type 0) (counts : RowKind → Bool) (picks : List Term → List Row → List ℕ → List ℤ → Type 0) (letter : ℕ) (sheet : List ℕ) (t : State) where
  -- the whole sheet is noted, the codes are the first arrangement that is allowed, and the dates are right for it
  pub record MetBy (seats : List Seat) : Type 0 where
    pub noted : State
    pub codes : List ℕ
    pub dates : List ℤ
    pub walk : FieldsNoted letter sheet noted []
    pub bare : noted.codes ≡ []
    pub first : FirstCompletion rule noted codes
    pub dated : Dated rule (with_codes noted codes) counts picks dates
    pub listed : seats ≡ seats_with (seats_of noted.terms) codes dates
    pub leaves : t ≡ with_codes noted codes

  -- the whole sheet is noted, and no arrangement is allowed
  pub record UnmetBy : Type 0 where
    pub walk : FieldsNoted letter sheet t []
    pub closed : Completion rule t → ⊥

  -- the seats in that arrangement, or nothing, or why the sheet is refused
  abbrev pub InstantsDiagnosed : Result (Option (ArrayVec Seat)) Refusal → Type 0
  InstantsDiagnosed (Ok (Some seats)) = MetBy seats.items
  InstantsDiagnosed (Ok None) = UnmetBy
  InstantsDiagnosed (Err e) = RefusedAt letter sheet t e

-- any engine was given the sheet, and holds t then
module _ (rule : List Term → List Row → List ℕ → Type 0) (letter : ℕ) (sheet : List ℕ) (t : State) where
  -- the whole sheet is noted, which places no code, and the answer says whether any arrangement is allowed
  pub record AnsweredBy (b : Bool) : Type 0 where
    pub walk : FieldsNoted letter sheet t []
    pub answered : IsTrue b ↔ Completion rule t

  -- that answer, or why the sheet is refused
  abbrev pub LevelsDiagnosed : Result Bool Refusal → Type 0
  LevelsDiagnosed (Ok b) = AnsweredBy b
  LevelsDiagnosed (Err e) = RefusedAt letter sheet t e

-- an engine that dates was given the sheet, and holds t then; and after it a second engine, which held u₀ before and holds u then. Either each
-- tells what it allows, or the first refuses the sheet and the second is not touched
module _ (rule : List Term → List Row → List ℕ → Type 0) (counts : RowKind → Bool) (picks : List Term → List Row → List ℕ → List ℤ → Type 0) (letter : ℕ) (levels_rule : List Term → List Row → List ℕ → Type 0) (levels_letter : ℕ) (sheet : List ℕ) (t u₀ u : State) where
  abbrev pub Diagnosed : Result Findings Refusal → Type 0
  Diagnosed (Ok f) = InstantsDiagnosed rule counts picks letter sheet t (Ok f.instants) × LevelsDiagnosed levels_rule levels_letter sheet u (Ok f.levels)
  Diagnosed (Err e) = RefusedAt letter sheet t e × (u ≡ u₀)
