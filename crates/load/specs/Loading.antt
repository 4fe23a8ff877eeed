-- A sheet that is loaded: its fields are taken in turn, to the last byte or to the first that is refused.
use Rattle.std.specs.Prelude.{◌≡◌, ℕ, ◌+◌, ◌<◌, if◌then◌else◌, List, [], ◌∷◌, ◌++◌, length, Some, None, Ok, Err, Option, Result, nat_lt}
use Rattle.sheet.specs.declared.fault.Cause.TheVariants.{TermAfterRow}
use Rattle.sheet.specs.declared.fault.Fault.{Fault}
use Rattle.sheet.specs.declared.refusal.Refusal.{Refusal}
use Rattle.sheet.specs.declared.row.Row.{Row}
use Rattle.sheet.specs.declared.term.Term.{Term}
use Rattle.sheet.specs.Causes.{fault_in}
use Rattle.sheet.specs.Fields.{FieldValue, row_field, term_field}
use Rattle.sheet.specs.Parsing.{parse, remaining}
use Rattle.engine.specs.Refusals.{answer_in, row_refusal, term_refusal}
use Rattle.engine.specs.Terms.{zero_term}
use Rattle.bench.specs.Letters.{bench_letter, draft_letter}

-- L, the letter of the layer that takes a whole sheet
abbrev pub load_letter : ℕ
load_letter = 76

-- what the fields taken so far have declared and entered
pub record Contents : Type 0 where
  pub terms : List Term
  pub rows : List Row

-- zero is there without a field
abbrev pub nothing_loaded : Contents
nothing_loaded = record { terms = zero_term ∷ []; rows = [] }

-- What taking a field answers. That a term stands behind a row is tested before the draft is asked; else a term is refused as a draft refuses it, and
-- a row as a bench does
abbrev pub field_answer : Contents → FieldValue → Result (Unit {0}) Fault
field_answer c (term_field t label) = if nat_lt 0 (length c.rows) then Err (fault_in load_letter TermAfterRow) else answer_in draft_letter (term_refusal c.terms t)
field_answer c (row_field r) = answer_in bench_letter (row_refusal c.terms (length c.rows) r)

-- the same for what the reader found: its fault goes before any other
abbrev pub front_answer : Contents → Result FieldValue Fault → Result (Unit {0}) Fault
front_answer c (Ok f) = field_answer c f
front_answer c (Err e) = Err e

-- a term is declared last, and a row entered last
abbrev pub with_field : Contents → FieldValue → Contents
with_field c (term_field t label) = record { terms = c.terms ++ t ∷ []; rows = c.rows }
with_field c (row_field r) = record { terms = c.terms; rows = c.rows ++ r ∷ [] }

module _ (sheet : List ℕ) where
  -- the fields at the front of the sheet were taken, and `left` is left of it
  pub data FieldsTaken : Contents → List ℕ → Type 0 where
    none : FieldsTaken nothing_loaded sheet
    more : {c : Contents} {left : List ℕ} {f : FieldValue} → FieldsTaken c left → parse left ≡ Ok f → field_answer c f ≡ Ok tt → FieldsTaken (with_field c f) (remaining left)

  -- every byte belongs to a field that was taken
  abbrev pub WholeSheet : List Term → List Row → Type 0
  WholeSheet ts rows = FieldsTaken (record { terms = ts; rows = rows }) []

  -- the fields before the place were taken, and the one that starts there is refused
  pub record StopsAt (e : Refusal) : Type 0 where
    pub taken : Contents
    pub left : List ℕ
    pub walk : FieldsTaken taken left
    pub placed : e.place + length left ≡ length sheet
    pub more_left : 0 < length left
    pub refused : front_answer taken (parse left) ≡ Err e.fault

  -- the terms and rows of the whole sheet stand; or it is refused, and zero alone stands and no row
  abbrev pub LoadedAs : Option Refusal → List Term → List Row → Type 0
  LoadedAs None ts rows = WholeSheet ts rows
  LoadedAs (Some e) ts rows = StopsAt e × (ts ≡ zero_term ∷ []) × (rows ≡ [])

  -- nothing else can be loaded of the sheet
  abbrev pub LoadsOnly : Option Refusal → List Term → List Row → Type 0
  LoadsOnly e ts rows = (f : Option Refusal) (us : List Term) (others : List Row) → LoadedAs f us others → (f ≡ e) × (us ≡ ts) × (others ≡ rows)
