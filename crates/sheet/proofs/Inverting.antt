-- What is read is well-formed, and its bytes are those that it was read from.
use Rattle.std.proofs.Common.{◌≡◌, ℕ, zero, suc, ◌+◌, ◌/◌, ◌%◌, ◌<◌, ◌≤◌, Bool, true, false, cond, eqb, ltb, ◌⊎◌, List, [], ◌∷◌, ◌++◌, length, get_or, take, drop, Ok, Err, Result, sym, refl, ap, ◌∙◌, subst, inl, inr, ⊎_elim, arith, w32}
use borrow.Author.Gap.{read_sfits}
use Rattle.std.proofs.lemmas.List.{drop_more, drop_all, length-take, length-drop, get_or-take, get_or-drop, get_or_past}
use Rattle.std.proofs.lemmas.Bool.{eqb-true, ltb-false, cases_lt}
use Rattle.sheet.specs.declared.fault.Cause.{Cause}
use Rattle.sheet.specs.declared.fault.Cause.TheVariants.{CutShort, UnknownTag, WrongLength, MalformedTerm, BadLabel}
use Rattle.sheet.specs.declared.row.Row.{Row}
use Rattle.sheet.specs.declared.row.Row.TheVariants.{Span, Same, Unlike}
use Rattle.sheet.specs.declared.term.Form.{Form}
use Rattle.sheet.specs.declared.term.Form.TheVariants.{Name, One, Two}
use Rattle.sheet.specs.declared.term.Kind.{Kind}
use Rattle.sheet.specs.Fields.{FieldValue, term_field, row_field, kind_byte, form_bytes, tag_of, body_of, bytes_of, is_label}
use Rattle.sheet.specs.Parsing.{and_then, stated_length, kind_of, applied_at, form_at, label_at, term_in, bound_in, content_in, field_in}
use Rattle.sheet.specs.RoundTrips.{WellFormed}
use Rattle.sheet.specs.Terms.{well_lettered, is_table_letter}
use Rattle.sheet.proofs.Digits.{bound_to_digits}

-- the two ways of a test
ways : {X : Type 0} (t : Bool) {x y z : X} → cond t x y ≡ z → ((t ≡ true) × (x ≡ z)) ⊎ ((t ≡ false) × (y ≡ z))
ways true e = inl (refl, e)
ways false e = inr (refl, e)

-- a refusal is no answer
never : {X : Type 0} {P : Type 0} {c : Cause} {x : X} → ◌≡◌ {A = Result X Cause} (Err c) (Ok x) → P
never e = let z : ◌≡◌ {A = ℕ} 0 1 = cc in absurd (omega arith)

-- a test whose other way refuses
passed : {X : Type 0} (t : Bool) (c : Cause) {r : Result X Cause} {x : X} → cond t r (Err c) ≡ Ok x → (t ≡ true) × (r ≡ Ok x)
passed true c e = (refl, e)
passed false c e = never e

failed : {X : Type 0} (t : Bool) (c : Cause) {r : Result X Cause} {x : X} → cond t (Err c) r ≡ Ok x → (t ≡ false) × (r ≡ Ok x)
failed true c e = never e
failed false c e = (refl, e)

-- the value that was gone on with
between : {X Y : Type 0} (r : Result X Cause) {f : X → Result Y Cause} {y : Y} → and_then r f ≡ Ok y → (x : X) × (r ≡ Ok x) × (f x ≡ Ok y)
between (Ok x) e = (x, refl, e)
between (Err c) e = never e

same_ok : {X : Type 0} {x y : X} → ◌≡◌ {A = Result X Cause} (Ok x) (Ok y) → x ≡ y
same_ok e = cc

-- k elements, from place i on
abbrev elements_at : ℕ → ℕ → List ℕ → List ℕ
elements_at zero i b = []
elements_at (suc k) i b = get_or b i 0 ∷ elements_at k (i + 1) b

-- a list from its place i on, by its next k elements
unrolled : (k i : ℕ) (b : List ℕ) → i + k ≤ length b → drop i b ≡ elements_at k i b ++ drop (i + k) b
unrolled zero i b h = let e : i ≡ i + 0 = omega arith in ap (λ n. drop n b) e
unrolled (suc k) i b h =
    let e : i + 1 + k ≡ i + suc k = omega arith in
    drop_more b i 0 (omega arith) ∙ ap (λ x. get_or b i 0 ∷ x) (unrolled k (i + 1) b (omega arith) ∙ ap (λ n. elements_at k (i + 1) b ++ drop n b) e)

-- a list of k elements, by its elements
all_of : (k : ℕ) (b : List ℕ) → length b ≡ k → b ≡ elements_at k 0 b ++ []
all_of k b h = unrolled k 0 b (omega arith) ∙ ap (λ x. elements_at k 0 b ++ x) (drop_all (0 + k) b (omega arith))

kind_back : (b : ℕ) (k : Kind) → kind_of b ≡ Ok k → kind_byte k ≡ b
kind_back b k e =
    ⊎_elim
    (λ d. ap kind_byte (sym (same_ok d.1)) ∙ sym (eqb-true b 68 d.0))
    (λ m. let l = passed (eqb b 76) MalformedTerm m.1 in ap kind_byte (sym (same_ok l.1)) ∙ sym (eqb-true b 76 l.0))
    (ways (eqb b 68) e)

-- a form that was read: its letter is right, and its bytes stand after the kind
record FormBack (b : List ℕ) (g : Form) : Type 0 where
  letter : well_lettered g ≡ true
  bytes : drop 1 b ≡ form_bytes g ++ drop (1 + length (form_bytes g)) b

name_back : (b : List ℕ) → 2 ≤ length b → get_or b 1 0 ≡ 78 → FormBack b Name
name_back b h e = record { letter = refl; bytes = unrolled 1 1 b h ∙ ap (λ x. x ∷ drop 2 b) e }

one_back : (b : List ℕ) → 4 ≤ length b → get_or b 1 0 ≡ 49 → is_table_letter (get_or b 2 0) ≡ true → FormBack b (One (get_or b 2 0) (get_or b 3 0))
one_back b h e t = record { letter = t; bytes = unrolled 3 1 b h ∙ ap (λ x. x ∷ get_or b 2 0 ∷ get_or b 3 0 ∷ drop 4 b) e }

two_back : (b : List ℕ) → 5 ≤ length b → get_or b 1 0 ≡ 50 → is_table_letter (get_or b 2 0) ≡ true → FormBack b (Two (get_or b 2 0) (get_or b 3 0) (get_or b 4 0))
two_back b h e t = record { letter = t; bytes = unrolled 4 1 b h ∙ ap (λ x. x ∷ get_or b 2 0 ∷ get_or b 3 0 ∷ get_or b 4 0 ∷ drop 5 b) e }

-- a table's letter and its arguments are there
applied_back : (b : List ℕ) (size : ℕ) (f g : Form) → applied_at b size f ≡ Ok g → (size ≤ length b) × (is_table_letter (get_or b 2 0) ≡ true) × (f ≡ g)
applied_back b size f g e =
    let long = failed (ltb (length b) size) MalformedTerm e in
    let lettered = passed (is_table_letter (get_or b 2 0)) MalformedTerm long.1 in
    (ltb-false (length b) size long.0, lettered.0, same_ok lettered.1)

applied_form_back : (b : List ℕ) (g : Form) → cond (eqb (get_or b 1 0) 49) (applied_at b 4 (One (get_or b 2 0) (get_or b 3 0))) (cond (eqb (get_or b 1 0) 50) (applied_at b 5 (Two (get_or b 2 0) (get_or b 3 0) (get_or b 4 0))) (Err MalformedTerm)) ≡ Ok g → FormBack b g
applied_form_back b g e =
    ⊎_elim
    (λ o. let a = applied_back b 4 (One (get_or b 2 0) (get_or b 3 0)) g o.1 in subst (FormBack b) a.2 (one_back b a.0 (eqb-true (get_or b 1 0) 49 o.0) a.1))
    (λ m. let t = passed (eqb (get_or b 1 0) 50) MalformedTerm m.1 in let a = applied_back b 5 (Two (get_or b 2 0) (get_or b 3 0) (get_or b 4 0)) g t.1 in subst (FormBack b) a.2 (two_back b a.0 (eqb-true (get_or b 1 0) 50 t.0) a.1))
    (ways (eqb (get_or b 1 0) 49) e)

form_back : (b : List ℕ) (g : Form) → 2 ≤ length b → form_at b ≡ Ok g → FormBack b g
form_back b g h e =
    ⊎_elim
    (λ n. subst (FormBack b) (same_ok n.1) (name_back b h (eqb-true (get_or b 1 0) 78 n.0)))
    (λ m. applied_form_back b g m.1)
    (ways (eqb (get_or b 1 0) 78) e)

-- a content that was read: it is well-formed, and it stands there
record ContentBack (tag : ℕ) (b : List ℕ) (f : FieldValue) : Type 0 where
  sound : WellFormed f
  tagged : tag_of f ≡ tag
  body : body_of f ≡ b

term_back : (b : List ℕ) (f : FieldValue) → 2 ≤ length b → term_in b ≡ Ok f → ContentBack 84 b f
term_back b f h e =
    let kinded = between (kind_of (get_or b 0 0)) e in
    let formed = between (form_at b) kinded.2 in
    let k = kinded.0 in
    let g = formed.0 in
    let back = form_back b g h formed.1 in
    let tail = drop (1 + length (form_bytes g)) b in
    let labelled = between (label_at tail) formed.2 in
    let l = labelled.0 in
    let is = passed (is_label tail) BadLabel labelled.1 in
    let made : term_field (record { kind = k; form = g }) l ≡ f = same_ok labelled.2 in
    let body : kind_byte k ∷ (form_bytes g ++ l) ≡ b =
    (λ i. kind_back (get_or b 0 0) k kinded.1 i ∷ (form_bytes g ++ sym (same_ok is.1) i))
    ∙ ap (λ x. get_or b 0 0 ∷ x) (sym back.bytes) ∙ sym (unrolled 1 0 b (omega arith)) in
    subst (ContentBack 84 b) made (record {
      sound = (back.letter, ap is_label (sym (same_ok is.1)) ∙ is.0);
      tagged = refl;
      body = body;
    })

span_back : (b : List ℕ) → ((i : ℕ) → get_or b i 0 < 256) → length b ≡ 6 → ContentBack 83 b (row_field (Span (get_or b 0 0) (get_or b 1 0) (bound_in b)))
span_back b small h = record {
  sound = read_sfits w32 _;
  tagged = refl;
  body = ap (λ x. get_or b 0 0 ∷ get_or b 1 0 ∷ x) (bound_to_digits (get_or b 2 0) (get_or b 3 0) (get_or b 4 0) (get_or b 5 0) (small 2) (small 3) (small 4) (small 5)) ∙ sym (all_of 6 b h);
}

same_back : (b : List ℕ) → length b ≡ 2 → ContentBack 69 b (row_field (Same (get_or b 0 0) (get_or b 1 0)))
same_back b h = record { sound = tt; tagged = refl; body = sym (all_of 2 b h) }

unlike_back : (b : List ℕ) → length b ≡ 2 → ContentBack 85 b (row_field (Unlike (get_or b 0 0) (get_or b 1 0)))
unlike_back b h = record { sound = tt; tagged = refl; body = sym (all_of 2 b h) }

-- a row of the length that its tag asks for
row_back : (tag n : ℕ) (b : List ℕ) (r : Row) (f : FieldValue) → cond (eqb (length b) n) (Ok (row_field r)) (Err WrongLength) ≡ Ok f → (length b ≡ n → ContentBack tag b (row_field r)) → ContentBack tag b f
row_back tag n b r f e back =
    let long = passed (eqb (length b) n) WrongLength e in
    subst (ContentBack tag b) (same_ok long.1) (back (eqb-true (length b) n long.0))

module _ (tag : ℕ) (b : List ℕ) (f : FieldValue) (small : (i : ℕ) → get_or b i 0 < 256) where
  at : (n : ℕ) → eqb tag n ≡ true → ContentBack n b f → ContentBack tag b f
  at n h = subst (λ m. ContentBack m b f) (sym (eqb-true tag n h))

  pair_back : cond (eqb tag 69) (cond (eqb (length b) 2) (Ok (row_field (Same (get_or b 0 0) (get_or b 1 0)))) (Err WrongLength)) (cond (eqb tag 85) (cond (eqb (length b) 2) (Ok (row_field (Unlike (get_or b 0 0) (get_or b 1 0)))) (Err WrongLength)) (Err UnknownTag)) ≡ Ok f → ContentBack tag b f
  pair_back e =
      ⊎_elim
      (λ t. at 69 t.0 (row_back 69 2 b (Same (get_or b 0 0) (get_or b 1 0)) f t.1 (same_back b)))
      (λ m. let t = passed (eqb tag 85) UnknownTag m.1 in at 85 t.0 (row_back 85 2 b (Unlike (get_or b 0 0) (get_or b 1 0)) f t.1 (unlike_back b)))
      (ways (eqb tag 69) e)

  content_back : content_in tag b ≡ Ok f → ContentBack tag b f
  content_back e =
      ⊎_elim
      (λ t. let long = failed (ltb (length b) 2) WrongLength t.1 in at 84 t.0 (term_back b f (ltb-false (length b) 2 long.0) long.1))
      (λ m. ⊎_elim (λ t. at 83 t.0 (row_back 83 6 b (Span (get_or b 0 0) (get_or b 1 0) (bound_in b)) f t.1 (span_back b small))) (λ m. pair_back m.1) (ways (eqb tag 83) m.1))
      (ways (eqb tag 84) e)

-- a part of a run of bytes is one too
part_small : (s : List ℕ) (n i : ℕ) → ((i : ℕ) → get_or s i 0 < 256) → get_or (take n (drop 3 s)) i 0 < 256
part_small s n i small =
    ⊎_elim
    (λ (h : i < n). rw (get_or-take, get_or-drop) (small (3 + i)))
    (λ (h : n ≤ i). rw (get_or_past (take n (drop 3 s)) i 0 (simp length-take (omega arith))) (omega arith))
    (cases_lt i n)

-- the front of a sheet by its first three bytes
front_of : (s : List ℕ) (n : ℕ) → 3 ≤ length s → take (3 + n) s ≡ get_or s 0 0 ∷ get_or s 1 0 ∷ get_or s 2 0 ∷ take n (drop 3 s)
front_of s n h =
    let m : 3 + n ≡ suc (suc (suc n)) = omega arith in
    let headed : s ≡ get_or s 0 0 ∷ get_or s 1 0 ∷ get_or s 2 0 ∷ drop 3 s = unrolled 3 0 s h in
    (λ i. take (m i) (headed i))

-- a field that was read: it is well-formed, and its bytes are the front of the sheet
pub record FieldBack (s : List ℕ) (f : FieldValue) : Type 0 where
  pub sound : WellFormed f
  pub long : 3 + stated_length s ≤ length s
  pub bytes : bytes_of f ≡ take (3 + stated_length s) s

pub field_back : (s : List ℕ) (f : FieldValue) → ((i : ℕ) → get_or s i 0 < 256) → field_in s ≡ Ok f → FieldBack s f
field_back s f small e =
    let headed = failed (ltb (length s) 3) CutShort e in
    let whole = failed (ltb (length s) (3 + stated_length s)) CutShort headed.1 in
    let three : 3 ≤ length s = ltb-false (length s) 3 headed.0 in
    let far : 3 + stated_length s ≤ length s = ltb-false (length s) (3 + stated_length s) whole.0 in
    let b = take (stated_length s) (drop 3 s) in
    let n : length b ≡ stated_length s = simp (length-take, length-drop) (omega arith) in
    let back = content_back (get_or s 0 0) b f (λ i. part_small s (stated_length s) i small) whole.1 in
    let low : get_or s 2 0 < 256 = small 2 in
    let high : stated_length s / 256 ≡ get_or s 1 0 = omega arith in
    let rest : stated_length s % 256 ≡ get_or s 2 0 = omega arith in
    let size : length (body_of f) ≡ stated_length s = ap length back.body ∙ n in
    let front : take (3 + stated_length s) s ≡ get_or s 0 0 ∷ get_or s 1 0 ∷ get_or s 2 0 ∷ b = front_of s (stated_length s) three in
    record {
      sound = back.sound;
      long = far;
      bytes = (λ i. back.tagged i ∷ (size i / 256) ∷ (size i % 256) ∷ back.body i) ∙ (λ i. get_or s 0 0 ∷ high i ∷ rest i ∷ b) ∙ sym front;
    }
