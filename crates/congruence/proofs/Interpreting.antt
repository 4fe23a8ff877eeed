-- Numbers come with tables exactly where they respect congruence, and the entries that the applications need are such tables.
use Rattle.std.proofs.Common.{◌≡◌, ℕ, zero, suc, ◌+◌, Bool, true, List, [], ◌∷◌, ℤ, pos, eqb, All, Contains, Decides, sym, refl, ap, ◌∙◌, subst, arith}
use Rattle.std.proofs.lemmas.Bool.{and_from, and_parts, cond-true, cond_both, eq-eqb, eqb-true}
use Rattle.std.proofs.lemmas.Bool.Decides.{Decides-int_eq}
use Rattle.std.proofs.lemmas.List.Elements.{All-nil, All-cons, All-head, All-tail, All-append, All-weaker, Contains-append_left, Contains-append_right}
use Rattle.sheet.specs.declared.term.Form.{Form}
use Rattle.sheet.specs.declared.term.Form.TheVariants.{Name, One, Two}
use Rattle.sheet.specs.declared.term.Term.{Term}
use Rattle.engine.specs.Meaning.{Numbers, Interprets, form_at}
use Rattle.congruence.specs.declared.entry.Arguments.{Arguments}
use Rattle.congruence.specs.declared.entry.Arguments.TheVariants.{Unary, Binary}
use Rattle.congruence.specs.declared.entry.Entry.{Entry}
use Rattle.congruence.specs.Congruence.{Congruent}
use Rattle.congruence.specs.Entries.{NeededBy, NeededEntries, entries_from, entries_of, entry, entry_for, first_answer, fits, same_arguments, tables_of}
use Rattle.congruence.specs.Claims.{CongruenceSuffices, CongruenceIsNeeded}

-- where an entry of the list passes the test, and all that pass have one answer, the first that passes has it
first_answer_is : (test : Entry → Bool) (es : List Entry) (e : Entry) (r : ℤ) → Contains es e → test e ≡ true → All (λ e. test e ≡ true → e.answer ≡ r) es → first_answer test es ≡ r
first_answer_is test [] e r (k, l, q) h all = absurd (omega arith)
first_answer_is test (d ∷ es) e r (zero, l, q) h all = cond-true (test d) d.answer (first_answer test es) (ap test q ∙ h) ∙ All-head (λ e. test e ≡ true → e.answer ≡ r) d es all (ap test q ∙ h)
first_answer_is test (d ∷ es) e r (suc k, l, q) h all =
    cond_both (test d) d.answer (first_answer test es) (λ z. z ≡ r)
    (All-head (λ e. test e ≡ true → e.answer ≡ r) d es all)
    (λ _. first_answer_is test es e r (k, omega arith, q) h (All-tail (λ e. test e ≡ true → e.answer ≡ r) d es all))

-- the tests tell what is the same
same_arguments_is : (a b : Arguments) → same_arguments a b ≡ true → a ≡ b
same_arguments_is (Unary n) (Unary x) h = grind (arith, Decides-int_eq)
same_arguments_is (Unary n) (Binary x y) h = absurd cc
same_arguments_is (Binary n m) (Unary x) h = absurd cc
same_arguments_is (Binary n m) (Binary x y) h = grind (arith, Decides-int_eq)

arguments_same : (a : Arguments) → same_arguments a a ≡ true
arguments_same (Unary n) = grind (arith, Decides-int_eq)
arguments_same (Binary n m) = grind (arith, Decides-int_eq)

pub arguments_decide : (a b : Arguments) → Decides (same_arguments a b) (a ≡ b)
arguments_decide a b = (same_arguments_is a b, (λ e. ap (same_arguments a) (sym e) ∙ arguments_same a))

-- what fits is an entry of that table at those numbers
fits_is : (a : ℕ) (asked : Arguments) (e : Entry) → fits a asked e ≡ true → e ≡ entry a asked e.answer
fits_is a asked e h =
    let (letter, numbers) = and_parts (eqb a e.table) (same_arguments asked e.arguments) h in
    let table : e.table ≡ a = sym (eqb-true a e.table letter) in
    let arguments : e.arguments ≡ asked = sym (same_arguments_is asked e.arguments numbers) in
    (λ i. entry (table i) (arguments i) e.answer)

pub it_fits : (a : ℕ) (asked : Arguments) (r : ℤ) → fits a asked (entry a asked r) ≡ true
it_fits a asked r = and_from (eqb a a) (same_arguments asked asked) (eq-eqb a a refl) (arguments_same asked)

module _ (ts : List Term) (v : Numbers) where
  -- an application's entry answers by the application's number, whichever entry comes first
  interprets : v 0 ≡ pos 0 → Congruent ts v → (es : List Entry) → NeededEntries ts v es → Interprets (tables_of es) ts v
  interprets z c es need = record {
    zeroth = z;
    unary = λ i a x f.
        sym (first_answer_is (fits a (Unary (v x))) es (entry a (Unary (v x)) (v i)) (v i) (need.unary i a x f) (it_fits a (Unary (v x)) (v i))
        (All-weaker (NeededBy ts v) (λ e. fits a (Unary (v x)) e ≡ true → e.answer ≡ v i)
        (λ e n h. let (j, y, g, p, q) = subst (NeededBy ts v) (fits_is a (Unary (v x)) e h) n in sym q ∙ c.unary j i a y x g f p)
        es need.only));
    binary = λ i a x y f.
        sym (first_answer_is (fits a (Binary (v x) (v y))) es (entry a (Binary (v x) (v y)) (v i)) (v i) (need.binary i a x y f) (it_fits a (Binary (v x) (v y)) (v i))
        (All-weaker (NeededBy ts v) (λ e. fits a (Binary (v x) (v y)) e ≡ true → e.answer ≡ v i)
        (λ e n h. let (j, z, w, g, p, q, r) = subst (NeededBy ts v) (fits_is a (Binary (v x) (v y)) e h) n in sym r ∙ c.binary j i a z w x y g f p q)
        es need.only));
  }

  -- the entry of term i is among the entries
  has_entry : (k : ℕ) (us : List Term) (i : ℕ) (e : Entry) → Contains (entry_for v (v (k + i)) (form_at us i)) e → Contains (entries_from k v us) e
  has_entry k [] i e c = absurd (omega (arith, c.1))
  has_entry k (u ∷ us) zero e c = Contains-append_left (entry_for v (v k) u.form) (entries_from (suc k) v us) e (let q : k + 0 ≡ k = omega arith in subst (λ (j : ℕ). Contains (entry_for v (v j) u.form) e) q c)
  has_entry k (u ∷ us) (suc i) e c = Contains-append_right (entry_for v (v k) u.form) (entries_from (suc k) v us) e (has_entry (suc k) us i e (let q : k + suc i ≡ suc k + i = omega arith in subst (λ (j : ℕ). Contains (entry_for v (v j) (form_at us i)) e) q c))

  pub entry_needed : (k : ℕ) (f : Form) → form_at ts k ≡ f → All (NeededBy ts v) (entry_for v (v k) f)
  entry_needed k Name h = All-nil _
  entry_needed k (One a x) h = All-cons (NeededBy ts v) (entry a (Unary (v x)) (v k)) [] (k, x, h, refl, refl) (All-nil _)
  entry_needed k (Two a x y) h = All-cons (NeededBy ts v) (entry a (Binary (v x) (v y)) (v k)) [] (k, x, y, h, refl, refl, refl) (All-nil _)

  entries_needed : (k : ℕ) (us : List Term) → ((i : ℕ) → form_at ts (k + i) ≡ form_at us i) → All (NeededBy ts v) (entries_from k v us)
  entries_needed k [] h = All-nil _
  entries_needed k (u ∷ us) h =
      All-append (NeededBy ts v) (entry_for v (v k) u.form) (entries_from (suc k) v us)
      (entry_needed k u.form (let q : k ≡ k + 0 = omega arith in ap (form_at ts) q ∙ h 0))
      (entries_needed (suc k) us (λ i. let q : suc k + i ≡ k + suc i = omega arith in ap (form_at ts) q ∙ h (suc i)))

  entries : NeededEntries ts v (entries_of ts v)
  entries =
      record {
        unary = λ i a x f. listed i (entry a (Unary (v x)) (v i)) (subst (λ (g : Form). Contains (entry_for v (v i) g) (entry a (Unary (v x)) (v i))) (sym f) (0, omega arith, refl));
        binary = λ i a x y f. listed i (entry a (Binary (v x) (v y)) (v i)) (subst (λ (g : Form). Contains (entry_for v (v i) g) (entry a (Binary (v x) (v y)) (v i))) (sym f) (0, omega arith, refl));
        only = entries_needed 0 ts (λ i. let q : 0 + i ≡ i = omega arith in ap (form_at ts) q);
      }
    where
      listed : (i : ℕ) (e : Entry) → Contains (entry_for v (v i) (form_at ts i)) e → Contains (entries_of ts v) e
      listed i e c = has_entry 0 ts i e (let q : i ≡ 0 + i = omega arith in subst (λ (j : ℕ). Contains (entry_for v (v j) (form_at ts i)) e) q c)

pub congruence_suffices : CongruenceSuffices
congruence_suffices ts v z c = record { first_fit = interprets ts v z c; entries = entries ts v }

pub congruence_is_needed : CongruenceIsNeeded
congruence_is_needed ts m v i = (
  i.zeroth,
  record {
    unary = λ j k a x y f g e. i.unary j a x f ∙ (ap (m.unary a) e ∙ sym (i.unary k a y g));
    binary = λ j k a x y z w f g d e. let p = i.binary j a x y f in let q = i.binary k a z w g in cc;
  },
)
