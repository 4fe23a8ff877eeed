-- A field taken from the front of what is left of a sheet.
use Rattle.std.proofs.Common.{◌≡◌, ℕ, ◌+◌, ◌-◌, ◌≤◌, List, length, drop, Some, Ok, Result, sym, ap, ◌∙◌, subst, arith, MatchResult}
use Rattle.std.proofs.lemmas.List.{drop-drop}
use Rattle.sheet.specs.declared.fault.Fault.{Fault}
use Rattle.sheet.specs.declared.field.Field.{Field}
use Rattle.sheet.specs.declared.fields.Fields.{Fields}
use Rattle.sheet.specs.declared.fields.PlacedField.{PlacedField}
use Rattle.sheet.specs.declared.refusal.Refusal.{Refusal}
use Rattle.sheet.specs.Fields.{FieldValue, value_of}
use Rattle.sheet.specs.Left.{IsLeft}
use Rattle.sheet.specs.Parsing.{outcome, parse, remaining, rest_after, stated_length}
use Rattle.sheet.specs.RoundTrips.{ReadRight}
use Rattle.sheet.specs.Walks.{Next, Took}

-- from what the reader promises
pub took : (t u : List ℕ) (r : Result Field Fault) (field : Field) → r ≡ Ok field → outcome r ≡ parse t → u ≡ remaining t → ReadRight t (outcome r) → MatchResult r (λ _. length u + (3 + stated_length t) ≡ length t) (λ _. u ≡ t) → Took t (value_of field) u
took t u r field is answer rest sound used = record {
  read = sym answer ∙ ap outcome is;
  rest = rest;
  used = subst (λ x. MatchResult x (λ _. length u + (3 + stated_length t) ≡ length t) (λ _. u ≡ t)) is used;
  again = (subst (λ x. ReadRight t (outcome x)) is sound).1;
}

pub left_after : (s t u : List ℕ) (f : FieldValue) → length t ≤ length s → IsLeft s t → Took t f u → IsLeft s u
left_after s t u f long left k =
    let used = k.used in
    let size = 3 + stated_length t in
    let sum : length s - length t + size ≡ length s - length u = omega arith in
    k.rest ∙ ap (λ r. rest_after r t) k.read ∙ ap (drop size) left ∙ drop-drop size (length s - length t) s ∙ ap (λ x. drop x s) sum

-- a step over the sheet s that gave y
pub stepped : (s s' t u : List ℕ) (x y : Result PlacedField Refusal) → s' ≡ s → Next s' t (Some x) u → x ≡ y → Next s t (Some y) u
stepped s s' t u x y sheet next is = subst (λ v. Next v t (Some y) u) sheet (subst (λ x. Next s' t (Some x) u) is next)

-- a loop over the fields of s begins with all of it
pub begun : (s : List ℕ) (made it : Fields) → it ≡ made → made.sheet.now ≡ s → made.rest.now ≡ s → (it.sheet.now ≡ s) × (s ≡ it.rest.now)
begun s made it same sheet rest = (ap (λ (x : Fields). x.sheet.now) same ∙ sheet, sym (ap (λ (x : Fields). x.rest.now) same ∙ rest))
