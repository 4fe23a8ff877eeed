-- From the names and the entries of numbers that come with tables a recount gives back the numbers.
use Rattle.std.proofs.Common.{◌≡◌, ℕ, zero, suc, ◌+◌, ◌<◌, ◌≤◌, Bool, true, false, cond, List, [], ◌∷◌, ◌++◌, length, get_or, take, drop, Some, ℤ, pos, slice_get, Contains, sym, refl, ap, ◌∙◌, take-append-drop, arith, length-append}
use Rattle.std.proofs.lemmas.Bool.{cond-true}
use Rattle.std.proofs.lemmas.Bool.Decides.{nat_tests}
use Rattle.std.proofs.lemmas.List.{drop_more, get_or_at, length-take-le, take_more}
use Rattle.std.proofs.lemmas.Option.{slice_get-get_or}
use Rattle.sheet.specs.declared.term.Form.{Form}
use Rattle.sheet.specs.declared.term.Form.TheVariants.{Name, One, Two}
use Rattle.sheet.specs.declared.term.Term.{Term}
use Rattle.engine.specs.Fitting.{all_terms_fit, is_name}
use Rattle.engine.specs.Meaning.{Interprets, Numbers, form_at}
use Rattle.engine.specs.Terms.{zero_term}
use Rattle.congruence.specs.declared.entry.Arguments.TheVariants.{Unary, Binary}
use Rattle.congruence.specs.declared.entry.Entry.{Entry}
use Rattle.congruence.specs.Congruence.{Congruent}
use Rattle.congruence.specs.Entries.{NeededEntries, entry, first_answer, fits, tables_of}
use Rattle.congruence.proofs.Interpreting.{congruence_suffices, it_fits}
use Rattle.model.specs.Claims.{RecountGivesBack}
use Rattle.model.specs.Recounting.{answer_binary, answer_unary, first_fit, names_before, names_from, names_of, recount}
use Rattle.model.proofs.Recounting.{recount_name, recount_one, recount_two, recount_zero}

-- the numbers of the names among two lists of terms
names_append : (k : ℕ) (v : Numbers) (ts us : List Term) → names_from k v (ts ++ us) ≡ names_from k v ts ++ names_from (k + length ts) v us
names_append k v [] us = let e : k ≡ k + 0 = omega arith in ap (λ i. names_from i v us) e
names_append k v (t ∷ ts) us =
    let all : List ℤ = names_from (suc k) v (ts ++ us) in
    let front : List ℤ = names_from (suc k) v ts in
    let back : List ℤ = names_from (k + suc (length ts)) v us in
    let e : suc k + length ts ≡ k + suc (length ts) = omega arith in
    let rest : all ≡ front ++ back = names_append (suc k) v ts us ∙ ap (λ i. front ++ names_from i v us) e in
    elim (is_name t.form) as (λ b. cond b (v k ∷ all) all ≡ cond b (v k ∷ front) front ++ back) [ true ↦ ap (λ ns. v k ∷ ns) rest | false ↦ rest ]

names_counted : (v : Numbers) (t : Term) (us : List Term) (i : ℕ) → i ≤ length us → names_before (t ∷ us) (suc i) ≡ length (names_from 1 v (take i us))
names_counted v t us zero l = refl
names_counted v t us (suc i) l =
    let u : Term = get_or us i zero_term in
    let j : ℕ = 1 + length (take i us) in
    let last : List ℤ = names_from j v (u ∷ []) in
    let e : i + 1 ≡ suc i = omega arith in
    let split : take (suc i) us ≡ take i us ++ u ∷ [] = ap (λ n. take n us) (sym e) ∙ take_more us i zero_term (omega arith) in
    let more : names_from 1 v (take (suc i) us) ≡ names_from 1 v (take i us) ++ last = ap (names_from 1 v) split ∙ names_append 1 v (take i us) (u ∷ []) in
    let long = ap length more ∙ length-append (names_from 1 v (take i us)) last in
    let one : length last ≡ cond (is_name u.form) 1 0 = elim (is_name u.form) as (λ b. length (cond b (v j ∷ []) []) ≡ cond b 1 0) [ true ↦ refl | false ↦ refl ] in
    let before = names_counted v t us i (omega arith) in
    grind (arith, nat_tests)

get_at : (xs ys : List ℤ) (y : ℤ) (n : ℕ) → length xs ≡ n → slice_get (xs ++ y ∷ ys) n ≡ Some y
get_at xs ys y n e =
    let l : n < length (xs ++ y ∷ ys) = omega (arith, length-append xs (y ∷ ys)) in
    slice_get-get_or (xs ++ y ∷ ys) n y l ∙ ap (λ z. Some z) (get_or_at xs y ys y n e)

-- a name finds its number among them
name_found : (ts : List Term) (v : Numbers) (t : ℕ) → 0 < t → t < length ts → form_at ts t ≡ Name → slice_get (names_of ts v) (names_before ts t) ≡ Some (v t)
name_found [] v t z l e = absurd (omega arith)
name_found (u ∷ us) v zero z l e = absurd (omega arith)
name_found (u ∷ us) v (suc i) z l e =
    let w : Term = get_or us i zero_term in
    let rest : List Term = drop (i + 1) us in
    let m : i < length us = omega arith in
    let before : List ℤ = names_from 1 v (take i us) in
    let j : ℕ = 1 + length (take i us) in
    let here : j ≡ suc i = omega (arith, length-take-le i us) in
    let after : List ℤ = names_from (suc j) v rest in
    let split : us ≡ take i us ++ w ∷ rest = sym (take-append-drop i us) ∙ ap (λ xs. take i us ++ xs) (drop_more us i zero_term m) in
    let own : names_from j v (w ∷ rest) ≡ v j ∷ after = cond-true (is_name w.form) (v j ∷ after) after (ap is_name e) in
    let all : names_from 1 v us ≡ before ++ v j ∷ after = ap (names_from 1 v) split ∙ names_append 1 v (take i us) (w ∷ rest) ∙ ap (λ ns. before ++ ns) own in
    ap (λ ns. slice_get ns (names_before (u ∷ us) (suc i))) all
    ∙ get_at before after (v j) (names_before (u ∷ us) (suc i)) (sym (names_counted v u us i (omega arith)))
    ∙ ap (λ k. Some (v k)) here

-- where some entry fits, the first that does answers
fit_answers : (test : Entry → Bool) (es : List Entry) (e : Entry) → Contains es e → test e ≡ true → first_fit test es ≡ Some (first_answer test es)
fit_answers test [] e (k, l, q) h = absurd (omega arith)
fit_answers test (d ∷ es) e (zero, l, q) h = let p : test d ≡ true = ap test q ∙ h in grind arith
fit_answers test (d ∷ es) e (suc k, l, q) h = let p = fit_answers test es e (k, omega arith, q) h in grind arith

module _ (ts : List Term) (v : Numbers) (es : List Entry) (fit : all_terms_fit ts ≡ true) (z : v 0 ≡ pos 0) (c : Congruent ts v) (need : NeededEntries ts v es) where
  abbrev names : List ℤ
  names = names_of ts v

  interpreted : Interprets (tables_of es) ts v
  interpreted = (congruence_suffices ts v z c).first_fit es need

  given_back : (t : ℕ) → t < length ts → ((x : ℕ) → x < t → recount ts names es x ≡ Some (v x)) → (f : Form) → form_at ts t ≡ f → recount ts names es t ≡ Some (v t)
  given_back zero l before Name e = recount_zero ts names es fit ∙ ap (λ n. Some n) (sym z)
  given_back (suc t) l before Name e = recount_name ts names es (suc t) (omega arith) l e ∙ name_found ts v (suc t) (omega arith) l e
  given_back t l before (One a x) e =
      let (m, q) = recount_one ts names es fit t a x e in
      q ∙ ap (answer_unary ts names es a) (before x m)
      ∙ fit_answers (fits a (Unary (v x))) es (entry a (Unary (v x)) (v t)) (need.unary t a x e) (it_fits a (Unary (v x)) (v t))
      ∙ ap (λ n. Some n) (sym (interpreted.unary t a x e))
  given_back t l before (Two a x y) e =
      let (m, o, q) = recount_two ts names es fit t a x y e in
      q ∙ ap (λ n. answer_binary ts names es a n (recount ts names es y)) (before x m) ∙ ap (answer_binary ts names es a (Some (v x))) (before y o)
      ∙ fit_answers (fits a (Binary (v x) (v y))) es (entry a (Binary (v x) (v y)) (v t)) (need.binary t a x y e) (it_fits a (Binary (v x) (v y)) (v t))
      ∙ ap (λ n. Some n) (sym (interpreted.binary t a x y e))

  all_given_back : (k t : ℕ) → t < k → t < length ts → recount ts names es t ≡ Some (v t)
  all_given_back zero t l m = absurd (omega arith)
  all_given_back (suc k) t l m = given_back t m (λ x o. all_given_back k x (omega arith) (omega arith)) (form_at ts t) refl

pub recount_gives_back : RecountGivesBack
recount_gives_back ts v es fit z c need t l = all_given_back ts v es fit z c need (suc t) t (omega arith) l
