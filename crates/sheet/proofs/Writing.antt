-- What the writer leaves of a well-formed field.
use Rattle.std.proofs.Common.{◌≡◌, ℕ, ◌+◌, ◌-◌, ◌<◌, ◌≤◌, Bool, true, false, cond, ltb, List, ◌++◌, length, take, drop, Ok, Err, Result, sym, refl, ap, ◌∙◌, arith, length-append, le-ltb, lt-ltb}
use borrow.Rule.Slice.PartMut.{put_mid, post_of}
use Rattle.std.proofs.lemmas.List.{append_assoc, drop_at, drop-drop, length-take-le, take_at}
use Rattle.sheet.specs.declared.fault.Cause.{Cause}
use Rattle.sheet.specs.declared.fault.Cause.TheVariants.{BadLabel, BufferTooShort, MalformedTerm}
use Rattle.sheet.specs.declared.row.Row.TheVariants.{Span, Same, Unlike}
use Rattle.sheet.specs.Causes.{in_layer, reader_letter}
use Rattle.sheet.specs.Encoding.{Written, encode, leaving, refused, put, written}
use Rattle.sheet.specs.Fields.{FieldValue, term_field, row_field, bytes_of, is_label}
use Rattle.sheet.specs.Parsing.{parse, remaining}
use Rattle.sheet.specs.RoundTrips.{WellFormed, RowFits, WrittenAgain, ReadBack}
use Rattle.sheet.specs.Terms.{well_lettered}
use Rattle.sheet.proofs.Accepting.{field_read, rest_left}

-- its bytes are put down
pub well_formed_put : (f : FieldValue) (out : List ℕ) → WellFormed f → written f out ≡ put (bytes_of f) out
well_formed_put (term_field t l) out w = rw (w.0, w.1)
well_formed_put (row_field (Span i j c)) out w = refl
well_formed_put (row_field (Same i j)) out w = refl
well_formed_put (row_field (Unlike i j)) out w = refl

-- where there is room, they stand at the front
put_with_room : (bytes out : List ℕ) → length bytes ≤ length out → put bytes out ≡ record { answer = Ok (length bytes); buffer = bytes ++ drop (length bytes) out }
put_with_room bytes out h =
    let t : ltb (length out) (length bytes) ≡ false = le-ltb _ _ h in
    rw t

-- so a field whose bytes are the front of s gives them back
pub gives_back : (s : List ℕ) (f : FieldValue) (n : ℕ) → WellFormed f → n ≤ length s → bytes_of f ≡ take n s → WrittenAgain s f n
gives_back s f n w long e out room =
    let size : length (take n s) ≡ n = length-take-le n s long in
    let same : written f out ≡ record { answer = Ok n; buffer = take n s ++ drop n out } =
    well_formed_put f out w ∙ ap (λ b. put b out) e ∙ put_with_room (take n s) out (omega arith) ∙ ap (λ m. record { answer = Ok m; buffer = take n s ++ drop m out }) size in
    ap (λ (x : Written _). record { answer = in_layer reader_letter x.answer; buffer = x.buffer }) same

-- two runs of bytes with no room for both
pub put_refused : (head tail out : List ℕ) → length out < length head + length tail → refused BufferTooShort out ≡ put (head ++ tail) out
put_refused head tail out h =
    let t : ltb (length out) (length (head ++ tail)) ≡ true = lt-ltb _ _ (simp length-append (omega arith)) in
    rw t

-- one after the other, as two writes to parts of the buffer leave them
pub put_both : (head tail out x y : List ℕ) → x ≡ head → y ≡ tail → length head + length tail ≤ length out → leaving (Ok (length head + length tail)) (put_mid (length head) (length head + length tail - length head) (x ++ post_of 0 (length head - 0) out) y) ≡ put (head ++ tail) out
put_both head tail out x y ex ey h =
    let n : length (head ++ tail) ≡ length head + length tail = length-append head tail in
    let k : length head + length tail - length head ≡ length tail = omega arith in
    let z : length head - 0 ≡ length head = omega arith in
    let rest : List ℕ = drop (length head) out in
    let laid : put_mid (length head) (length head + length tail - length head) (x ++ post_of 0 (length head - 0) out) y ≡ (head ++ tail) ++ drop (length (head ++ tail)) out =
    (λ i. put_mid (length head) (k i) (ex i ++ drop (z i) out) (ey i))
    ∙ (λ i. take_at head rest (length head) refl i ++ (tail ++ drop (length tail) (drop_at head rest (length head) refl i)))
    ∙ ap (λ w. head ++ (tail ++ w)) (drop-drop (length tail) (length head) out ∙ ap (λ m. drop m out) (sym n))
    ∙ sym (append_assoc head tail (drop (length (head ++ tail)) out)) in
    (λ i. leaving (Ok (sym n i)) (laid i)) ∙ sym (put_with_room (head ++ tail) out (omega arith))

-- a refusal leaves no length
no_length : {P : Type 0} {n : ℕ} {c : Cause} {after out : List ℕ} → leaving (Ok n) after ≡ refused c out → P
no_length e =
    let z : ◌≡◌ {A = ℕ} 0 1 = cc (ap (λ (w : Written Cause). w.answer) e) in
    absurd (omega arith)

-- so where a length is left, the tests were passed
both_passed : (p q : Bool) (n : ℕ) (after out : List ℕ) (w : Written Cause) → leaving (Ok n) after ≡ cond p (cond q w (refused BadLabel out)) (refused MalformedTerm out) → (p ≡ true) × (q ≡ true) × (leaving (Ok n) after ≡ w)
both_passed true true n after out w e = (refl, refl, e)
both_passed true false n after out w e = no_length e
both_passed false q n after out w e = no_length e

had_room : (t : Bool) (n : ℕ) (after bytes out : List ℕ) → leaving (Ok n) after ≡ cond t (refused BufferTooShort out) (leaving (Ok (length bytes)) (bytes ++ drop (length bytes) out)) → (n ≡ length bytes) × (after ≡ bytes ++ drop n out)
had_room true n after bytes out e = no_length e
had_room false n after bytes out e =
    let m : n ≡ length bytes = cc (ap (λ (w : Written Cause). w.answer) e) in
    (m, ap (λ (w : Written Cause). w.buffer) e ∙ ap (λ k. bytes ++ drop k out) (sym m))

-- a length is left: the bytes of the field were put down
was_put : (f : FieldValue) (n : ℕ) (before after : List ℕ) → leaving (Ok n) after ≡ written f before → leaving (Ok n) after ≡ put (bytes_of f) before
was_put (term_field t l) n before after e = (both_passed (well_lettered t.form) (is_label l) n after before (put (bytes_of (term_field t l)) before) e).2
was_put (row_field r) n before after e = e

written_bytes : (f : FieldValue) (n : ℕ) (before after : List ℕ) → leaving (Ok n) after ≡ written f before → (n ≡ length (bytes_of f)) × (after ≡ bytes_of f ++ drop n before)
written_bytes f n before after e = had_room (ltb (length before) (length (bytes_of f))) n after (bytes_of f) before (was_put f n before after e)

written_sound : (f : FieldValue) (n : ℕ) (before after : List ℕ) → RowFits f → leaving (Ok n) after ≡ written f before → WellFormed f
written_sound (term_field t l) n before after fits e =
    let p = both_passed (well_lettered t.form) (is_label l) n after before (put (bytes_of (term_field t l)) before) e in
    (p.0, p.1)
written_sound (row_field r) n before after fits e = fits

-- what a layer accepts was found
pub found : {X : Type 0} {x : X} (l : ℕ) (q : Result X Cause) → Ok x ≡ in_layer l q → q ≡ Ok x
found l (Ok y) e = cc
found l (Err c) e = let z : ◌≡◌ {A = ℕ} 0 1 = cc in absurd (omega arith)

-- the length that the writer answers lies within the buffer
pub written_within : (f : FieldValue) (before : List ℕ) (n : ℕ) → Ok n ≡ (encode f before).answer → n ≤ length (encode f before).buffer
written_within f before n e =
    let after = (written f before).buffer in
    let left : leaving (Ok n) after ≡ written f before = ap (λ r. leaving r after) (sym (found reader_letter (written f before).answer e)) in
    let bytes = written_bytes f n before after left in
    let long : n ≡ length (bytes_of f) = bytes.0 in
    omega (arith, simp length-append at (ap length bytes.1))

-- what was written is read back
pub read_back : (f : FieldValue) (n : ℕ) (before after : List ℕ) → RowFits f → leaving (Ok n) after ≡ written f before → ReadBack f before after (Ok n)
read_back f n before after fits e =
    let sound = written_sound f n before after fits e in
    let bytes = written_bytes f n before after e in
    (ap parse bytes.1 ∙ ap (in_layer reader_letter) (field_read f (drop n before) sound), ap remaining bytes.1 ∙ rest_left f (drop n before) sound)

-- the same of what the writer's layer answers
pub reads_back : (f : FieldValue) (before after : List ℕ) → RowFits f → (r : Result ℕ Cause) → leaving r after ≡ written f before → ReadBack f before after (in_layer reader_letter r)
reads_back f before after fits (Ok n) e = read_back f n before after fits e
reads_back f before after fits (Err c) e = tt
