-- Which way `parse` goes, from what the code has tested.
use Rattle.std.proofs.Common.{◌≡◌, ℕ, ◌+◌, ◌-◌, ◌<◌, ◌≤◌, Bool, true, false, cond, List, length, get_or, take, drop, Ok, Err, Result, sym, ap, ◌∙◌, arith, w8, Fits, MatchResult}
use Rattle.std.proofs.lemmas.List.{take_rest, drop-drop, length-drop}
use Rattle.sheet.specs.declared.fault.Cause.{Cause}
use Rattle.sheet.specs.declared.fault.Cause.TheVariants.{BadLabel}
use Rattle.sheet.specs.declared.fault.Fault.{Fault}
use Rattle.sheet.specs.declared.field.Field.{Field}
use Rattle.sheet.specs.declared.term.Form.{Form}
use Rattle.sheet.specs.declared.term.Kind.{Kind}
use Rattle.sheet.specs.Fields.{FieldValue, term_field, value_of, form_bytes, is_label}
use Rattle.sheet.specs.Causes.{in_layer, reader_letter}
use Rattle.sheet.specs.Parsing.{and_then, kind_of, form_at, label_at, term_in, content_in, field_in, outcome, parse, remaining, rest_after, stated_length}
use Rattle.sheet.specs.RoundTrips.{ReadRight, ReadsAll}
use Rattle.sheet.proofs.Accepting.{field_by_content, field_read, term_by_label}
use Rattle.sheet.proofs.Inverting.{FieldBack, field_back}
use Rattle.sheet.proofs.Writing.{found, gives_back}

byte : {n : ℕ} → Fits w8 n → n < 256
byte f = omega arith

-- a label is handed on, and anything else refused
tested : (l : List ℕ) (finish : List ℕ → Result FieldValue Cause) (t : Bool) → t ≡ is_label l → cond t (finish l) (Err BadLabel) ≡ and_then (label_at l) finish
tested l finish true h = rw (← h)
tested l finish false h = rw (← h)

-- kind and form are read, and the label is tested. `&b[i..]` is `take (length b - i) (drop i b)`
pub term_found : (b : List ℕ) (k : Kind) (f : Form) (n : ℕ) (t : Bool) → Ok k ≡ kind_of (get_or b 0 0) → Ok f ≡ form_at b → n ≡ length (form_bytes f) → t ≡ is_label (take (length b - (1 + n)) (drop (1 + n) b)) → cond t (Ok (term_field (record { kind = k; form = f }) (take (length b - (1 + n)) (drop (1 + n) b)))) (Err BadLabel) ≡ term_in b
term_found b k f n t hk hf hn ht =
    let finish : List ℕ → Result FieldValue Cause = λ l. Ok (term_field (record { kind = k; form = f }) l) in
    tested (take (length b - (1 + n)) (drop (1 + n) b)) finish t ht
    ∙ ap (λ l. and_then (label_at l) finish) (take_rest b (1 + n) ∙ ap (λ m. drop (1 + m) b) hn)
    ∙ sym (term_by_label b k f (sym hk) (sym hf))

-- the lengths are tested: the content decides. `&s[3..]` is `take (length s - 3) (drop 3 s)`
pub field_found : (s : List ℕ) (r : Result FieldValue Cause) → 3 ≤ length s → stated_length s ≤ length (take (length s - 3) (drop 3 s)) → r ≡ content_in (get_or s 0 0) (take (stated_length s - 0) (take (length s - 3) (drop 3 s))) → r ≡ field_in s
field_found s r h k e =
    let all : take (length s - 3) (drop 3 s) ≡ drop 3 s = take_rest s 3 in
    let far : 3 + stated_length s ≤ length s = omega (arith, simp length-drop at (ap length all)) in
    let n : stated_length s - 0 ≡ stated_length s = omega arith in
    e ∙ (λ i. content_in (get_or s 0 0) (take (n i) (all i))) ∙ sym (field_by_content s h far)

pub rest_found : (s : List ℕ) (n : ℕ) → take (length (take (length s - 3) (drop 3 s)) - n) (drop n (take (length s - 3) (drop 3 s))) ≡ drop (3 + n) s
rest_found s n = take_rest (take (length s - 3) (drop 3 s)) n ∙ ap (drop n) (take_rest s 3) ∙ drop-drop n 3 s

-- what the reader promises above `parse`
module _ (s : List ℕ) (typed : (i : ℕ) → Fits w8 (get_or s i 0)) where
  back : (f : FieldValue) → Ok f ≡ parse s → FieldBack s f
  back f e = field_back s f (λ i. byte (typed i)) (found reader_letter (field_in s) e)

  pub read_right : (r : Result FieldValue Fault) → r ≡ parse s → ReadRight s r
  read_right (Ok f) e = ((back f e).sound, gives_back s f (3 + stated_length s) (back f e).sound (back f e).long (back f e).bytes)
  read_right (Err c) e = tt

  pub reads_all : (r : Result FieldValue Fault) → r ≡ parse s → ReadsAll s r
  reads_all r e f rest w front = e ∙ ap parse front ∙ ap (in_layer reader_letter) (field_read f rest w)

  pub bytes_used : (r : Result Field Fault) (rest : List ℕ) → outcome r ≡ parse s → rest ≡ remaining s → MatchResult r (λ _. length rest + (3 + stated_length s) ≡ length s) (λ _. rest ≡ s)
  bytes_used (Ok field) rest e h =
      let ends : rest ≡ drop (3 + stated_length s) s = h ∙ ap (λ r. rest_after r s) (sym e) in
      let long : 3 + stated_length s ≤ length s = (back (value_of field) e).long in
      omega (arith, simp length-drop at (ap length ends))
  bytes_used (Err c) rest e h = h ∙ ap (λ r. rest_after r s) (sym e)
