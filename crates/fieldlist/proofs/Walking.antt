-- A walk over the fields of a sheet, one field at a time.
use Rattle.std.proofs.Common.{◌≡◌, ℕ, ◌+◌, ◌-◌, ◌≤◌, List, [], ◌∷◌, ◌++◌, length, take, drop, Ok, sym, refl, ap, ◌∙◌, subst, arith, take-add}
use borrow.Rule.Slice.PartMut.{put_mid}
use Rattle.std.proofs.lemmas.List.{append_assoc, length-append, length-drop, length-take, length-take-le, take_at}
use Rattle.sheet.specs.declared.fault.Fault.{Fault}
use Rattle.sheet.specs.Encoding.{Written, encode}
use Rattle.sheet.specs.Fields.{FieldValue}
use Rattle.sheet.specs.Parsing.{stated_length}
use Rattle.sheet.specs.Walks.{Took}
use Rattle.fieldlist.specs.WritingBack.{Alike, Front, none, more}

-- t is left of s after n fields
pub record Walked (s t : List ℕ) (n : ℕ) : Type 0 where
  pub fields : List FieldValue
  pub front : Front s fields t
  pub count : n ≡ length fields
  pub long : n + length t ≤ length s

pub start : (s : List ℕ) → Walked s s 0
start s = record { fields = []; front = none; count = refl; long = omega arith }

-- one field more
pub step : (s t u : List ℕ) (n m : ℕ) (f : FieldValue) → Walked s t n → Took t f u → m ≡ n + 1 → Walked s u m
step s t u n m f w k more_one =
    let long = w.long in
    let count = w.count in
    let used = k.used in
    record {
      fields = f ∷ w.fields;
      front = subst (λ x. Front s (f ∷ w.fields) x) (sym k.rest) (more w.front k.read);
      count = omega arith;
      long = omega arith;
    }

-- written again with room for it, it is found alike
pub alike : (t u part : List ℕ) (f : FieldValue) (m : ℕ) → Took t f u → m ≡ length t - length u → m ≤ length part → Alike (encode f part) (take m t)
alike t u part f m k e room =
    let used = k.used in
    let size = 3 + stated_length t in
    let taken : m ≡ size = omega arith in
    let fits : size ≤ length t = omega arith in
    let long : length (take m t) ≡ size = ap (λ x. length (take x t)) taken ∙ length-take-le size t fits in
    let held = k.again part (omega arith) in (
      ap (λ (w : Written Fault). w.answer) held ∙ ap Ok (sym long),
      (λ i. take (long i) (held i).buffer) ∙ take_at (take size t) (drop size part) size (length-take-le size t fits) ∙ ap (λ x. take x t) (sym taken),
    )

-- the buffer b is as long as the sheet s, and alike up to where u is left of s
pub record Copied (s u b : List ℕ) : Type 0 where
  pub long : length b ≡ length s
  pub same : take (length s - length u) b ≡ take (length s - length u) s

-- written to the buffer from place p on, its bytes stand where they stand in the sheet. `old` was there, and `part` is there now
pub copy : (s t u b old part : List ℕ) (f : FieldValue) (p : ℕ) → Took t f u → t ≡ drop p s → length t ≤ length s → p ≡ length s - length t → Copied s t b → old ≡ drop p b → part ≡ (encode f old).buffer → Copied s u (put_mid p (length b - p) b part)
copy s t u b old part f p k ends fits place before is after =
    let used = k.used in
    let b_long = before.long in
    let size = 3 + stated_length t in
    let sum : length s - length u ≡ p + size = omega arith in
    let room : size ≤ length old = rw is (simp length-drop (omega arith)) in
    let past : List ℕ = drop (length b - p) (drop p b) in
    let gone : length past ≡ 0 = simp length-drop (omega arith) in
    let held : part ≡ take size t ++ drop size old = after ∙ ap (λ (w : Written Fault). w.buffer) (k.again old room) in
    let old_long : length old ≡ length b - p = ap length is ∙ length-drop p b in
    let part_long : length part ≡ length b - p = ap length held ∙ simp (length-append, length-take, length-drop) (omega arith) in
    let front : length (take p b ++ take size t) ≡ p + size = simp (length-append, length-take) (omega arith) in
    let joined : take p b ++ (part ++ past) ≡ (take p b ++ take size t) ++ (drop size old ++ past) =
    ap (λ x. take p b ++ (x ++ past)) held ∙ ap (λ x. take p b ++ x) (append_assoc (take size t) (drop size old) past) ∙ sym (append_assoc (take p b) (take size t) (drop size old ++ past)) in
    let first : take p b ≡ take p s = ap (λ n. take n b) place ∙ before.same ∙ ap (λ n. take n s) (sym place) in
    record {
      long = simp (length-append, length-take) (omega arith);
      same = (λ i. take (sum i) (joined i))
          ∙ take_at (take p b ++ take size t) (drop size old ++ past) (p + size) front
          ∙ (λ i. first i ++ take size (ends i))
          ∙ sym (take-add p size s)
          ∙ ap (λ n. take n s) (sym sum);
    }

pub none_copied : (s b : List ℕ) → length b ≡ length s → Copied s s b
none_copied s b e =
    let z : length s - length s ≡ 0 = omega arith in
    record { long = e; same = ap (λ n. take n b) z ∙ ap (λ n. take n s) (sym z) }
