-- The fields of a sheet taken one after another.
use Rattle.std.proofs.Common.{◌≡◌, ℕ, ◌+◌, ◌<◌, ◌≤◌, Bool, true, false, List, [], ◌∷◌, length, Some, Ok, Err, Result, inl, inr, sym, ap, ◌∙◌, subst, arith}
use Rattle.std.proofs.lemmas.List.{length-drop}
use Rattle.sheet.specs.declared.fault.Fault.{Fault}
use Rattle.sheet.specs.declared.refusal.Refusal.{Refusal}
use Rattle.sheet.specs.declared.row.Row.{Row}
use Rattle.sheet.specs.declared.term.Term.{Term}
use Rattle.sheet.specs.Fields.{FieldValue, row_field, term_field}
use Rattle.sheet.specs.Parsing.{parse, rest_after, stated_length}
use Rattle.engine.specs.Refusals.{answer_in}
use Rattle.engine.specs.Terms.{zero_term}
use Rattle.bench.specs.Letters.{draft_letter}
use Rattle.load.specs.Entering.{FieldTaken}
use Rattle.load.specs.Loading.{Contents, FieldsTaken, StopsAt, front_answer, more, none}
use Rattle.load.specs.TermFields.{TermDeclared, TermRefused, TermsPassed, TermsStopped, begins, TermsDeclared, begins_term, declares, term_in}

-- what is left behind a field is no longer than what was there before it
left_within : (bytes : List ℕ) (r : Result FieldValue Fault) → length (rest_after r bytes) ≤ length bytes
left_within bytes (Ok f) = let n = length-drop (3 + stated_length bytes) bytes in omega arith
left_within bytes (Err e) = omega arith

-- nor is what is left longer than the sheet
pub within : {sheet : List ℕ} {c : Contents} {left : List ℕ} → FieldsTaken sheet c left → length left ≤ length sheet
within none = omega arith
within (more {left = bytes} w read ok) = let before = within w in let after = left_within bytes (parse bytes) in omega arith

-- one field more
pub taken_too : (sheet bytes rest : List ℕ) (c d : Contents) → FieldsTaken sheet c bytes → FieldTaken bytes c rest d → FieldsTaken sheet d rest
taken_too sheet bytes rest c d w t = subst (λ x. FieldsTaken sheet x rest) (sym t.next) (subst (FieldsTaken sheet _) (sym t.left) (more w t.read t.taken))

-- zero and the terms declared, and no row
abbrev only_terms : List Term → Contents
only_terms ts = record { terms = ts; rows = [] }

-- a term's field has a label too
labelled : (r : Result FieldValue Fault) (t : Term) → term_in r ≡ Some t → (label : List ℕ) × (r ≡ Ok (term_field t label))
labelled (Ok (term_field u label)) t e = (label, cc)
labelled (Ok (row_field r)) t e = cc
labelled (Err f) t e = cc

-- fields that are declared are taken
declared_too : (sheet bytes rest : List ℕ) (ts longer : List Term) → FieldsTaken sheet (only_terms ts) bytes → TermDeclared bytes ts rest longer → FieldsTaken sheet (only_terms longer) rest
declared_too sheet bytes rest ts longer w d =
    let read = labelled (parse bytes) d.term d.read in
    subst (λ us. FieldsTaken sheet (only_terms us) rest) (sym d.last) (subst (FieldsTaken sheet _) (sym d.left) (more w read.1 (ap (answer_in draft_letter) d.taken)))

terms_taken : {sheet left : List ℕ} {ts : List Term} → TermsPassed sheet (zero_term ∷ []) left ts → FieldsTaken sheet (record { terms = ts; rows = [] }) left
terms_taken begins = none
terms_taken {sheet} {left} {ts} (declares {bytes = bytes} {ts = us} w begun d) = declared_too sheet bytes left us ts (terms_taken w) d

-- behind the terms, at a bench without a row
pub behind_terms : (sheet left : List ℕ) (ts : List Term) (rows : List Row) → TermsDeclared sheet (zero_term ∷ []) left ts → rows ≡ [] → FieldsTaken sheet (record { terms = ts; rows = rows }) left × (begins_term left ≡ true → 0 < length rows)
behind_terms sheet left ts rows d no_row = (
  subst (λ x. FieldsTaken sheet (record { terms = ts; rows = x }) left) (sym no_row) (terms_taken d.passed),
  λ begun. absurd (let no : ◌≡◌ {A = Bool} true false = sym begun ∙ d.ended in cc),
)

-- a refused term is a refused field
refused_too : (bytes : List ℕ) (ts : List Term) (fault : Fault) → TermRefused bytes ts fault → front_answer (only_terms ts) (parse bytes) ≡ Err fault
refused_too bytes ts fault (inl malformed) = ap (front_answer (only_terms ts)) malformed
refused_too bytes ts fault (inr (t, read, refused)) = ap (front_answer (only_terms ts)) (labelled (parse bytes) t read).1 ∙ refused

some_byte : (bytes : List ℕ) → begins_term bytes ≡ true → 0 < length bytes
some_byte [] e = cc
some_byte (b ∷ bs) e = omega arith

pub stopped_at_term : (sheet : List ℕ) (before ts : List Term) (refusal : Refusal) → before ≡ zero_term ∷ [] → TermsStopped sheet before ts refusal → StopsAt sheet refusal
stopped_at_term sheet before ts refusal new s = record {
  taken = only_terms ts;
  left = s.rest;
  walk = terms_taken (subst (λ us. TermsPassed sheet us s.rest ts) new s.passed);
  placed = s.placed;
  more_left = some_byte s.rest s.begun;
  refused = refused_too s.rest ts refusal.fault s.refused;
}
