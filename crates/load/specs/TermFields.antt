-- The term fields that an input begins with, declared one after another.
use Rattle.std.specs.Prelude.{◌≡◌, ℕ, ◌+◌, ◌<◌, ◌==◌, Bool, true, false, List, [], ◌∷◌, ◌++◌, length, Some, None, Option, Ok, Err, Result, ◌⊎◌}
use Rattle.sheet.specs.declared.fault.Fault.{Fault}
use Rattle.sheet.specs.declared.refusal.Refusal.{Refusal}
use Rattle.sheet.specs.declared.term.Term.{Term}
use Rattle.sheet.specs.Fields.{FieldValue, row_field, term_field}
use Rattle.sheet.specs.Parsing.{parse, remaining}
use Rattle.engine.specs.Refusals.{answer_in, term_refusal}
use Rattle.bench.specs.Letters.{draft_letter}

-- T, the tag of a term field, is 84
abbrev pub begins_term : List ℕ → Bool
begins_term [] = false
begins_term (b ∷ bs) = b == 84

-- the term of a field
abbrev pub term_in : Result FieldValue Fault → Option Term
term_in (Ok (term_field t label)) = Some t
term_in (Ok (row_field r)) = None
term_in (Err e) = None

-- the field at the front is declared, behind the terms ts
pub record TermDeclared (bytes : List ℕ) (ts : List Term) (rest : List ℕ) (longer : List Term) : Type 0 where
  pub term : Term
  pub read : term_in (parse bytes) ≡ Some term
  pub taken : term_refusal ts term ≡ None
  pub left : rest ≡ remaining bytes
  pub shorter : length rest < length bytes
  pub last : longer ≡ ts ++ term ∷ []

-- or it is refused: it is malformed, or cannot be declared
abbrev pub TermRefused : List ℕ → List Term → Fault → Type 0
TermRefused bytes ts fault = (parse bytes ≡ Err fault)
    ⊎ ((t : Term) × (term_in (parse bytes) ≡ Some t) × (answer_in draft_letter (term_refusal ts t) ≡ Err fault))

module _ (input : List ℕ) (before : List Term) where
  -- the fields passed, what is left of the input, and the terms declared then
  pub data TermsPassed : List ℕ → List Term → Type 0 where
    begins : TermsPassed input before
    declares : {bytes rest : List ℕ} {ts longer : List Term} → TermsPassed bytes ts → begins_term bytes ≡ true → TermDeclared bytes ts rest longer → TermsPassed rest longer

  -- all are declared
  pub record TermsDeclared (rest : List ℕ) (ts : List Term) : Type 0 where
    pub passed : TermsPassed rest ts
    pub ended : begins_term rest ≡ false

  -- or one is refused
  pub record TermsStopped (ts : List Term) (refusal : Refusal) : Type 0 where
    pub rest : List ℕ
    pub passed : TermsPassed rest ts
    pub begun : begins_term rest ≡ true
    pub placed : refusal.place + length rest ≡ length input
    pub refused : TermRefused rest ts refusal.fault
