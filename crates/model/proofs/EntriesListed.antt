-- The entries as they are listed, term after term.
use Rattle.std.proofs.Common.{◌≡◌, ℕ, suc, ◌+◌, ◌<◌, ◌≤◌, true, ◌&&◌, eqb, int_eq, List, [], ◌∷◌, ◌++◌, length, get_or, take, ℤ, Contains, Decides, sym, refl, ap, ◌∙◌, subst, append_assoc, append-nil, arith, length-append}
use Rattle.std.specs.List.{list_any}
use Rattle.std.proofs.lemmas.Bool.{and_from, and_parts, eq-eqb, eqb-true, cond_both, cond-true, cond-false, false_from_ne_true}
use Rattle.std.proofs.lemmas.Bool.Decides.{Decides-int_eq}
use Rattle.std.proofs.lemmas.List.{length-take-le, length_push, take_more}
use Rattle.std.proofs.lemmas.List.Folds.{Any-from_list_any, list_any_at}
use Rattle.sheet.specs.declared.term.Form.{Form}
use Rattle.sheet.specs.declared.term.Form.TheVariants.{Name, One, Two}
use Rattle.sheet.specs.declared.term.Term.{Term}
use Rattle.engine.specs.Meaning.{Numbers, form_at}
use Rattle.engine.specs.Terms.{zero_term}
use Rattle.congruence.specs.declared.entry.Entry.{Entry}
use Rattle.congruence.specs.Entries.{entries_from, entry, entry_for, same_arguments}
use Rattle.congruence.proofs.Interpreting.{arguments_decide}
use Rattle.model.specs.PickedEntries.{entries_once, same_entry, with_entries, with_entry}

-- the test tells which entries are equal
same_entry_is : (d e : Entry) → same_entry d e ≡ true → d ≡ e
same_entry_is d e h =
    let (letter, others) = and_parts (eqb d.table e.table) (same_arguments d.arguments e.arguments && int_eq d.answer e.answer) h in
    let (numbers, answers) = and_parts (same_arguments d.arguments e.arguments) (int_eq d.answer e.answer) others in
    let table : d.table ≡ e.table = eqb-true d.table e.table letter in
    let asked : d.arguments ≡ e.arguments = (arguments_decide d.arguments e.arguments).0 numbers in
    let answer : d.answer ≡ e.answer = (Decides-int_eq d.answer e.answer).0 answers in
    (λ i. entry (table i) (asked i) (answer i))

entry_same : (e : Entry) → same_entry e e ≡ true
entry_same e =
    and_from (eqb e.table e.table) (same_arguments e.arguments e.arguments && int_eq e.answer e.answer) (eq-eqb e.table e.table refl)
    (and_from (same_arguments e.arguments e.arguments) (int_eq e.answer e.answer) ((arguments_decide e.arguments e.arguments).1 refl) ((Decides-int_eq e.answer e.answer).1 refl))

pub same_decides : (d e : Entry) → Decides (same_entry d e) (d ≡ e)
same_decides d e = (same_entry_is d e, (λ q. ap (same_entry d) (sym q) ∙ entry_same d))

pub contained : (es : List Entry) (e : Entry) → Decides (list_any (same_entry e) es) (Contains es e)
contained es e = (
  (λ y. let (k, d, l, q, h) = Any-from_list_any (same_entry e) es y in subst (Contains es) (sym (same_entry_is e d h)) (k, l, q)),
  (λ c. list_any_at (same_entry e) es c.0 e c.1 (ap (same_entry e) c.2 ∙ entry_same e)),
)

-- an entry that stands among the others is not put behind them, and one that does not is
pub entry_kept : (es : List Entry) (e : Entry) → Contains es e → with_entry es e ≡ es
entry_kept es e c = cond-true (list_any (same_entry e) es) es (es ++ e ∷ []) ((contained es e).1 c)

pub entry_put : (es : List Entry) (e : Entry) → (Contains es e → ⊥) → with_entry es e ≡ es ++ e ∷ []
entry_put es e new =
    let test = list_any (same_entry e) es in
    cond-false test es (es ++ e ∷ []) (false_from_ne_true test (λ h. new ((contained es e).0 h)))

with_entries_append : (es fs gs : List Entry) → with_entries es (fs ++ gs) ≡ with_entries (with_entries es fs) gs
with_entries_append es [] gs = refl
with_entries_append es (f ∷ fs) gs = with_entries_append (with_entry es f) fs gs

-- one term more
entries_push : (k : ℕ) (v : Numbers) (us : List Term) (t : Term) → entries_from k v (us ++ t ∷ []) ≡ entries_from k v us ++ entry_for v (v (k + length us)) t.form
entries_push k v [] t =
    let e : k ≡ k + 0 = omega arith in
    append-nil (entry_for v (v k) t.form) ∙ ap (λ i. entry_for v (v i) t.form) e
entries_push k v (u ∷ us) t =
    let e : suc k + length us ≡ k + suc (length us) = omega arith in
    let last : ℕ → List Entry = λ i. entry_for v (v i) t.form in
    let first : List Entry = entry_for v (v k) u.form in
    let rest : List Entry = entries_from (suc k) v us in
    ap (λ fs. first ++ fs) (entries_push (suc k) v us t ∙ ap (λ i. rest ++ last i) e) ∙ sym (append_assoc first rest (last (k + suc (length us))))

-- the entries of the first terms: one term more puts its entry behind them, unless it is a name or the entry stands among them
pub entries_more : (ts : List Term) (v : Numbers) (k : ℕ) → k < length ts
    → entries_once (take (k + 1) ts) v ≡ with_entries (entries_once (take k ts) v) (entry_for v (v k) (form_at ts k))
entries_more ts v k l =
    let front : List Term = take k ts in
    let t : Term = get_or ts k zero_term in
    let e : 0 + length front ≡ k = omega (arith, length-take-le k ts) in
    ap (λ us. entries_once us v) (take_more ts k zero_term l)
    ∙ ap (with_entries []) (entries_push 0 v front t ∙ ap (λ i. entries_from 0 v front ++ entry_for v (v i) t.form) e)
    ∙ with_entries_append [] (entries_from 0 v front) (entry_for v (v k) t.form)

-- an application makes one entry at most, and a name none
with_entry_few : (es : List Entry) (e : Entry) → length (with_entry es e) ≤ suc (length es)
with_entry_few es e =
    cond_both (list_any (same_entry e) es) es (es ++ e ∷ []) (λ (fs : List Entry). length fs ≤ suc (length es)) (λ h. omega arith) (λ h. omega (arith, length_push es e))

with_entries_few : (es fs : List Entry) → length (with_entries es fs) ≤ length es + length fs
with_entries_few es [] = omega arith
with_entries_few es (f ∷ fs) = omega (arith, with_entries_few (with_entry es f) fs, with_entry_few es f)

entry_few : (v : Numbers) (r : ℤ) (f : Form) → length (entry_for v r f) ≤ 1
entry_few v r Name = omega arith
entry_few v r (One a x) = omega arith
entry_few v r (Two a x y) = omega arith

entries_from_few : (k : ℕ) (v : Numbers) (us : List Term) → length (entries_from k v us) ≤ length us
entries_from_few k v [] = omega arith
entries_from_few k v (u ∷ us) =
    let first : List Entry = entry_for v (v k) u.form in
    let rest : List Entry = entries_from (suc k) v us in
    omega (arith, entries_from_few (suc k) v us, entry_few v (v k) u.form, length-append first rest)

pub entries_few : (ts : List Term) (v : Numbers) → length (entries_once ts v) ≤ length ts
entries_few ts v = omega (arith, with_entries_few [] (entries_from 0 v ts), entries_from_few 0 v ts)
