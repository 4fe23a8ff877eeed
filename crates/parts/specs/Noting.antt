-- The fields of a sheet, noted one after another in a new engine.
use Rattle.std.specs.Prelude.{◌≡◌, ℕ, ◌<◌, Bool, if◌then◌else◌, List, [], length, drop, Ok, Err, Result, nat_lt}
use Rattle.arrayvec.specs.ArrayVec.{ArrayVec}
use Rattle.sheet.specs.declared.fault.Cause.TheVariants.{TermAfterRow}
use Rattle.sheet.specs.declared.fault.Fault.{Fault}
use Rattle.sheet.specs.declared.refusal.Refusal.{Refusal}
use Rattle.sheet.specs.Causes.{fault_in}
use Rattle.sheet.specs.Fields.{FieldValue, term_field, row_field}
use Rattle.sheet.specs.Parsing.{parse, remaining}
use Rattle.engine.specs.Calls.{on_note_row, on_note_term}
use Rattle.engine.specs.Refusals.{answer_in}
use Rattle.engine.specs.States.{State, new_state}
use Rattle.engine.specs.Terms.{seats_of}

-- L, the letter of the layer that takes a whole sheet
abbrev pub load_letter : ℕ
load_letter = 76

-- a row field stands before: each one that is noted adds a row
abbrev pub row_stands : State → Bool
row_stands s = nat_lt 0 (length s.rows)

-- what noting a field answers, in an engine with this letter that holds s. That a term stands after a row is tested before the engine is asked
abbrev pub field_answer : ℕ → State → FieldValue → Result (Unit {0}) Fault
field_answer letter s (term_field t l) = if row_stands s then Err (fault_in load_letter TermAfterRow) else answer_in letter (on_note_term s t).refusal
field_answer letter s (row_field r) = answer_in letter (on_note_row s r).refusal

-- the state that follows
abbrev pub after_field : State → FieldValue → State
after_field s (term_field t l) = if row_stands s then s else (on_note_term s t).next
after_field s (row_field r) = (on_note_row s r).next

-- the same for what the reader found: its fault goes before any other
abbrev pub front_answer : ℕ → State → Result FieldValue Fault → Result (Unit {0}) Fault
front_answer letter s (Ok f) = field_answer letter s f
front_answer letter s (Err e) = Err e

-- the fields at the front of the sheet were noted in a new engine, which holds s then, and `left` is left of the sheet
pub data FieldsNoted (letter : ℕ) (sheet : List ℕ) : State → List ℕ → Type 0 where
  none : FieldsNoted letter sheet new_state sheet
  more : {s : State} {left : List ℕ} {f : FieldValue} → FieldsNoted letter sheet s left → parse left ≡ Ok f → field_answer letter s f ≡ Ok tt → FieldsNoted letter sheet (after_field s f) (remaining left)

-- every byte belongs to a field that was noted: the engine holds t then, and `seats` lists its dated terms
pub record WholeNoted (letter : ℕ) (sheet : List ℕ) (t : State) (seats : List ℕ) : Type 0 where
  pub walk : FieldsNoted letter sheet t []
  pub listed : seats ≡ seats_of t.terms

-- the fields before the place are accepted in a new engine, and the one that starts there is refused
pub record StopsAt (letter : ℕ) (sheet : List ℕ) (e : Refusal) : Type 0 where
  pub held : State
  pub walk : FieldsNoted letter sheet held (drop e.place sheet)
  pub within : e.place < length sheet
  pub stops : front_answer letter held (parse (drop e.place sheet)) ≡ Err e.fault

-- and the engine is new then
pub record RefusedAt (letter : ℕ) (sheet : List ℕ) (t : State) (e : Refusal) : Type 0 where
  pub at : StopsAt letter sheet e
  pub new : t ≡ new_state

abbrev pub SheetNoted : ℕ → List ℕ → State → Result (ArrayVec ℕ) Refusal → Type 0
SheetNoted letter sheet t (Ok seats) = WholeNoted letter sheet t seats.items
SheetNoted letter sheet t (Err e) = RefusedAt letter sheet t e
