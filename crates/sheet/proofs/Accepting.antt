-- The bytes of a well-formed field are read as that field.
use Rattle.std.proofs.Common.{◌≡◌, ℕ, suc, ◌+◌, ◌≤◌, true, false, ltb, List, ◌∷◌, ◌++◌, length, get_or, take, drop, Ok, Result, refl, ap, ◌∙◌, arith, length-append, le-ltb}
use Rattle.std.proofs.lemmas.List.{take_at, drop_at}
use Rattle.sheet.specs.declared.fault.Cause.{Cause}
use Rattle.sheet.specs.declared.row.Row.TheVariants.{Span, Same, Unlike}
use Rattle.sheet.specs.declared.term.Form.{Form}
use Rattle.sheet.specs.declared.term.Form.TheVariants.{Name, One, Two}
use Rattle.sheet.specs.declared.term.Kind.{Kind}
use Rattle.sheet.specs.declared.term.Kind.TheVariants.{Dated, Level}
use Rattle.sheet.specs.Causes.{in_layer, reader_letter}
use Rattle.sheet.specs.Fields.{FieldValue, term_field, row_field, kind_byte, form_bytes, tag_of, body_of, bytes_of, is_label}
use Rattle.sheet.specs.Parsing.{and_then, stated_length, kind_of, form_at, label_at, term_in, content_in, field_in, rest_after, remaining}
use Rattle.sheet.specs.RoundTrips.{WellFormed}
use Rattle.sheet.specs.Terms.{well_lettered}
use Rattle.sheet.proofs.Digits.{bound_from_digits}

kind_read : (k : Kind) → kind_of (kind_byte k) ≡ Ok k
kind_read Dated = refl
kind_read Level = refl

form_read : (b : ℕ) (g : Form) (l : List ℕ) → well_lettered g ≡ true → form_at (b ∷ (form_bytes g ++ l)) ≡ Ok g
form_read b Name l h = refl
form_read b (One a x) l h =
    let long : ltb (length (b ∷ 49 ∷ a ∷ x ∷ l)) 4 ≡ false = le-ltb _ _ (omega arith) in
    rw (long, h)
form_read b (Two a x y) l h =
    let long : ltb (length (b ∷ 50 ∷ a ∷ x ∷ y ∷ l)) 5 ≡ false = le-ltb _ _ (omega arith) in
    rw (long, h)

label_left : (b : ℕ) (g : Form) (l : List ℕ) → drop (1 + length (form_bytes g)) (b ∷ (form_bytes g ++ l)) ≡ l
label_left b Name l = refl
label_left b (One a x) l = refl
label_left b (Two a x y) l = refl

two_bytes : (b : ℕ) (g : Form) (l : List ℕ) → 2 ≤ length (b ∷ (form_bytes g ++ l))
two_bytes b Name l = omega arith
two_bytes b (One a x) l = omega arith
two_bytes b (Two a x y) l = omega arith

-- kind and form are read: the label decides
pub term_by_label : (b : List ℕ) (k : Kind) (g : Form) → kind_of (get_or b 0 0) ≡ Ok k → form_at b ≡ Ok g → term_in b ≡ and_then (label_at (drop (1 + length (form_bytes g)) b)) (λ l. Ok (term_field (record { kind = k; form = g }) l))
term_by_label b k g hk hg =
    ap (λ r. and_then r (λ k. and_then (form_at b) (λ g. and_then (label_at (drop (1 + length (form_bytes g)) b)) (λ l. Ok (term_field (record { kind = k; form = g }) l))))) hk
    ∙ ap (λ r. and_then r (λ g. and_then (label_at (drop (1 + length (form_bytes g)) b)) (λ l. Ok (term_field (record { kind = k; form = g }) l)))) hg

term_read : (k : Kind) (g : Form) (l : List ℕ) → well_lettered g ≡ true → is_label l ≡ true → term_in (kind_byte k ∷ (form_bytes g ++ l)) ≡ Ok (term_field (record { kind = k; form = g }) l)
term_read k g l letter label =
    let finish : List ℕ → Result FieldValue Cause = λ l. Ok (term_field (record { kind = k; form = g }) l) in
    let labelled : label_at l ≡ Ok l = rw label in
    term_by_label (kind_byte k ∷ (form_bytes g ++ l)) k g (kind_read k) (form_read (kind_byte k) g l letter)
    ∙ ap (λ r. and_then (label_at r) finish) (label_left (kind_byte k) g l)
    ∙ ap (λ r. and_then r finish) labelled

pub content_read : (f : FieldValue) → WellFormed f → content_in (tag_of f) (body_of f) ≡ Ok f
content_read (term_field t l) w =
    let long : ltb (length (body_of (term_field t l))) 2 ≡ false = le-ltb _ _ (two_bytes (kind_byte t.kind) t.form l) in
    rw long (term_read t.kind t.form l w.0 w.1)
content_read (row_field (Span i j c)) w = ap (λ z. Ok (row_field (Span i j z))) (bound_from_digits c w)
content_read (row_field (Same i j)) w = refl
content_read (row_field (Unlike i j)) w = refl

-- past the tests of the lengths
pub field_by_content : (s : List ℕ) → 3 ≤ length s → 3 + stated_length s ≤ length s → field_in s ≡ content_in (get_or s 0 0) (take (stated_length s) (drop 3 s))
field_by_content s h k =
    let a : ltb (length s) 3 ≡ false = le-ltb _ _ h in
    let b : ltb (length s) (3 + stated_length s) ≡ false = le-ltb _ _ k in
    rw (a, b)

stated_right : (f : FieldValue) (rest : List ℕ) → stated_length (bytes_of f ++ rest) ≡ length (body_of f)
stated_right f rest = omega arith

pub field_read : (f : FieldValue) (rest : List ℕ) → WellFormed f → field_in (bytes_of f ++ rest) ≡ Ok f
field_read f rest w =
    let s = bytes_of f ++ rest in
    let n : stated_length s ≡ length (body_of f) = stated_right f rest in
    let long : length (body_of f ++ rest) ≡ length (body_of f) + length rest = length-append (body_of f) rest in
    field_by_content s (omega arith) (omega (arith, n, long))
    ∙ ap (λ m. content_in (tag_of f) (take m (body_of f ++ rest))) n
    ∙ ap (content_in (tag_of f)) (take_at (body_of f) rest (length (body_of f)) refl)
    ∙ content_read f w

-- and what follows them is left
pub rest_left : (f : FieldValue) (rest : List ℕ) → WellFormed f → remaining (bytes_of f ++ rest) ≡ rest
rest_left f rest w =
    let s = bytes_of f ++ rest in
    ap (λ r. rest_after (in_layer reader_letter r) s) (field_read f rest w)
    ∙ ap (λ m. drop m s) (let n : 3 + stated_length s ≡ suc (suc (suc (length (body_of f)))) = omega (arith, stated_right f rest) in n)
    ∙ drop_at (body_of f) rest (length (body_of f)) refl
