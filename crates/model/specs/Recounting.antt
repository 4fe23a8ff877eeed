-- A recount: a term's number, from a number for each name but zero, in the order of the terms, and a list of entries.
use Rattle.std.specs.Prelude.{◌≡◌, ℕ, zero, suc, ◌+◌, ◌<◌, Bool, if◌then◌else◌, ◌&&◌, List, [], ◌∷◌, ◌++◌, length, drop, Some, None, Option, ℤ, pos, ◌==◌, nat_lt, slice_get}
use Rattle.sheet.specs.declared.term.Form.{Form}
use Rattle.sheet.specs.declared.term.Form.TheVariants.{Name, One, Two}
use Rattle.sheet.specs.declared.term.Term.{Term}
use Rattle.engine.specs.Fitting.{is_name}
use Rattle.engine.specs.Meaning.{Numbers, form_at}
use Rattle.congruence.specs.declared.entry.Arguments.TheVariants.{Unary, Binary}
use Rattle.congruence.specs.declared.entry.Entry.{Entry}
use Rattle.congruence.specs.Entries.{fits}

-- the numbers of the names among these terms, where the first of them has the index k
abbrev pub names_from : ℕ → Numbers → List Term → List ℤ
names_from k v [] = []
names_from k v (t ∷ ts) = if is_name t.form then v k ∷ names_from (suc k) v ts else names_from (suc k) v ts

-- and of all names but zero
abbrev pub names_of : List Term → Numbers → List ℤ
names_of ts v = names_from 1 v (drop 1 ts)

-- how many names but zero stand before term t
abbrev pub names_before : List Term → ℕ → ℕ
names_before ts zero = 0
names_before ts (suc t) = (if nat_lt 0 t && is_name (form_at ts t) then 1 else 0) + names_before ts t

-- the answer of the first entry that passes the test, if one does
abbrev pub first_fit : (Entry → Bool) → List Entry → Option ℤ
first_fit test [] = None
first_fit test (e ∷ es) = if test e then Some e.answer else first_fit test es

-- what is known of term i, where `known` has for each of the first terms its number, if it has one
abbrev pub known_at : List (Option ℤ) → ℕ → Option ℤ
known_at [] i = None
known_at (n ∷ known) zero = n
known_at (n ∷ known) (suc i) = known_at known i

module _ (ts : List Term) (names : List ℤ) (es : List Entry) where
  -- Term t has the number n: zero has 0, a name has its place among the numbers of the names, and an application what the first entry answers
  -- that fits the numbers of its arguments
  pub data Recounted : ℕ → ℤ → Type 0 where
    zeroth : Recounted 0 (pos 0)
    named : {t : ℕ} {n : ℤ} → 0 < t → t < length ts → form_at ts t ≡ Name → slice_get names (names_before ts t) ≡ Some n → Recounted t n
    unary : {t a x : ℕ} {n r : ℤ} → form_at ts t ≡ One a x → Recounted x n → first_fit (fits a (Unary n)) es ≡ Some r → Recounted t r
    binary : {t a x y : ℕ} {n m r : ℤ} → form_at ts t ≡ Two a x y → Recounted x n → Recounted y m → first_fit (fits a (Binary n m)) es ≡ Some r → Recounted t r

  -- the same computed, where `known` has the numbers of the terms before t
  abbrev pub answer_unary : ℕ → Option ℤ → Option ℤ
  answer_unary a None = None
  answer_unary a (Some n) = first_fit (fits a (Unary n)) es

  abbrev pub answer_binary : ℕ → Option ℤ → Option ℤ → Option ℤ
  answer_binary a None m = None
  answer_binary a (Some n) None = None
  answer_binary a (Some n) (Some m) = first_fit (fits a (Binary n m)) es

  abbrev pub number_by : List (Option ℤ) → ℕ → Form → Option ℤ
  number_by known t Name = if t == 0 then Some (pos 0) else slice_get names (names_before ts t)
  number_by known t (One a x) = answer_unary a (known_at known x)
  number_by known t (Two a x y) = answer_binary a (known_at known x) (known_at known y)

  -- the numbers of the first t terms
  abbrev pub recounts : ℕ → List (Option ℤ)
  recounts zero = []
  recounts (suc t) = recounts t ++ number_by (recounts t) t (form_at ts t) ∷ []

  -- the number of term t, if there is such a term and nothing is missing
  abbrev pub recount : ℕ → Option ℤ
  recount t = if nat_lt t (length ts) then known_at (recounts (suc t)) t else None
