-- Which terms need an entry, and that the list of all entries has each where the first of them puts it.
use Rattle.std.proofs.Common.{◌≡◌, ℕ, zero, suc, ◌+◌, ◌<◌, ◌≤◌, List, [], ◌∷◌, ◌++◌, length, take, ℤ, All, AllPairs, Contains, sym, refl, ap, ◌∙◌, subst, inl, inr, take_all, arith}
use Rattle.std.specs.List.{list_any}
use Rattle.std.proofs.lemmas.Bool.{cases_Bool, cases_eq, cases_order}
use Rattle.std.proofs.lemmas.Bool.Decides.{not_from_Decides}
use Rattle.std.proofs.lemmas.List.Elements.{All-contains, All-head, All-nil, All-push, All-weaker, Contains-append_left, Contains-push}
use Rattle.std.proofs.lemmas.List.Quantifiers.{all_pairs_push}
use Rattle.sheet.specs.declared.term.Form.{Form}
use Rattle.sheet.specs.declared.term.Form.TheVariants.{Name, One, Two}
use Rattle.sheet.specs.declared.term.Term.{Term}
use Rattle.engine.specs.Meaning.{Numbers, form_at}
use Rattle.congruence.specs.declared.entry.Arguments.{Arguments}
use Rattle.congruence.specs.declared.entry.Arguments.TheVariants.{Unary, Binary}
use Rattle.congruence.specs.declared.entry.Entry.{Entry}
use Rattle.congruence.specs.Entries.{Asks, NeededBy, entry, entry_for}
use Rattle.congruence.proofs.Arguments.{application_within}
use Rattle.congruence.proofs.Interpreting.{entry_needed}
use Rattle.model.specs.PickedEntries.{FirstNeeds, entries_once, same_entry, with_entries, with_entry}
use Rattle.model.proofs.EntriesListed.{contained, entries_more, entry_kept, entry_put}

module _ (ts : List Term) (v : Numbers) where
  -- term t needs the entry e
  abbrev pub Needs : ℕ → Entry → Type 0
  Needs t e = entry_for v (v t) (form_at ts t) ≡ e ∷ []

  pub needs_within : (t : ℕ) (e : Entry) → Needs t e → t < length ts
  needs_within t e m = application_within ts t (λ n. let none : entry_for v (v t) (form_at ts t) ≡ [] = ap (entry_for v (v t)) n in cc)

  pub needed_by : (t : ℕ) (e : Entry) → Needs t e → NeededBy ts v e
  needed_by t e m = All-head (NeededBy ts v) e [] (subst (All (NeededBy ts v)) m (entry_needed ts v t (form_at ts t) refl))

  needing : (e : Entry) → NeededBy ts v e → (t : ℕ) × Needs t e
  needing e n = asking e.table e.answer e.arguments n
    where
      asking : (a : ℕ) (r : ℤ) (asked : Arguments) → Asks ts v a r asked → (t : ℕ) × Needs t (entry a asked r)
      asking a r (Unary n) (i, x, f, p, q) = (i, ap (entry_for v (v i)) f ∙ (λ k. entry a (Unary (p k)) (q k) ∷ []))
      asking a r (Binary n m) (i, x, y, f, p, q, s) = (i, ap (entry_for v (v i)) f ∙ (λ k. entry a (Binary (p k) (q k)) (s k) ∷ []))

  -- one term is the first
  pub first_once : (e : Entry) (s t : ℕ) → FirstNeeds ts v e s → FirstNeeds ts v e t → s ≡ t
  first_once e s t f g =
      elim (cases_order s t) [
        | inl p ↦ p
        | inr o ↦ elim o [ inl l ↦ absurd (g.first s l f.needs) | inr l ↦ absurd (f.first t l g.needs) ]
      ]

  -- the first term that needs d stands before the first that needs e
  abbrev pub NeededBefore : Entry → Entry → Type 0
  NeededBefore d e = (s t : ℕ) × FirstNeeds ts v d s × FirstNeeds ts v e t × (s < t)

  -- what is true of the entries of the first n terms
  record ListedUpTo (n : ℕ) (es : List Entry) : Type 0 where
    pub listed : (t : ℕ) (e : Entry) → t < n → Needs t e → Contains es e
    pub needed : All (λ e. (t : ℕ) × (t < n) × FirstNeeds ts v e t) es
    pub ordered : AllPairs NeededBefore es

  listed_none : ListedUpTo 0 []
  listed_none = record { listed = λ t e l m. absurd (omega arith); needed = All-nil _; ordered = λ i j d l m. absurd (omega arith) }

  -- where term n needs nothing that is not there
  listed_same : (n : ℕ) (es : List Entry) → ((e : Entry) → Needs n e → Contains es e) → ListedUpTo n es → ListedUpTo (suc n) es
  listed_same n es there u =
      record {
        listed = λ t e l m. elim (cases_eq t n) [ inl q ↦ there e (subst (λ i. Needs i e) q m) | inr d ↦ u.listed t e (omega arith) m ];
        needed = All-weaker (λ e. (t : ℕ) × (t < n) × FirstNeeds ts v e t) (λ e. (t : ℕ) × (t < suc n) × FirstNeeds ts v e t) (λ e p. let (t, l, f) = p in (t, omega arith, f)) es u.needed;
        ordered = u.ordered;
      }

  -- and where it needs an entry that is not there
  listed_new : (n : ℕ) (es : List Entry) (e : Entry) → Needs n e → (Contains es e → ⊥) → ListedUpTo n es → ListedUpTo (suc n) (es ++ e ∷ [])
  listed_new n es e needs new u =
      let first : FirstNeeds ts v e n = record { needs = needs; first = λ s l m. new (u.listed s e l m) } in
      record {
        listed = λ t d l m.
            elim (cases_eq t n) [
              | inl q ↦ let own : Needs n d = subst (λ i. Needs i d) q m in let p : e ≡ d = cc in subst (Contains (es ++ e ∷ [])) p (Contains-push es e)
              | inr q ↦ Contains-append_left es (e ∷ []) d (u.listed t d (omega arith) m)
            ];
        needed = All-push (λ e. (t : ℕ) × (t < suc n) × FirstNeeds ts v e t) es e (λ k d l. let (t, m, f) = u.needed k d l in (t, omega arith, f)) (n, omega arith, first);
        ordered = all_pairs_push NeededBefore es e u.ordered (λ k d l. let (s, m, f) = u.needed k d l in (s, n, f, first, m));
      }

  listed_entry : (n : ℕ) (es : List Entry) (e : Entry) → Needs n e → ListedUpTo n es → ListedUpTo (suc n) (with_entry es e)
  listed_entry n es e needs u =
      let test = list_any (same_entry e) es in
      elim (cases_Bool test) [
        | inl y ↦
            let c : Contains es e = (contained es e).0 y in
            subst (ListedUpTo (suc n)) (sym (entry_kept es e c)) (listed_same n es (λ d m. let p : e ≡ d = cc in subst (Contains es) p c) u)
        | inr y ↦
            let new : Contains es e → ⊥ = not_from_Decides test (contained es e) y in
            subst (ListedUpTo (suc n)) (sym (entry_put es e new)) (listed_new n es e needs new u)
      ]

  listed_next : (n : ℕ) (es : List Entry) (f : Form) → form_at ts n ≡ f → ListedUpTo n es → ListedUpTo (suc n) (with_entries es (entry_for v (v n) f))
  listed_next n es Name q u = listed_same n es (λ e m. let none : entry_for v (v n) (form_at ts n) ≡ [] = ap (entry_for v (v n)) q in cc) u
  listed_next n es (One a x) q u = listed_entry n es (entry a (Unary (v x)) (v n)) (ap (entry_for v (v n)) q) u
  listed_next n es (Two a x y) q u = listed_entry n es (entry a (Binary (v x) (v y)) (v n)) (ap (entry_for v (v n)) q) u

  listed_up_to : (n : ℕ) → n ≤ length ts → ListedUpTo n (entries_once (take n ts) v)
  listed_up_to zero l = listed_none
  listed_up_to (suc n) l =
      let e : n + 1 ≡ suc n = omega arith in
      let more = entries_more ts v n (omega arith) in
      subst (λ k. ListedUpTo (suc n) (entries_once (take k ts) v)) e
      (subst (ListedUpTo (suc n)) (sym more) (listed_next n (entries_once (take n ts) v) (form_at ts n) refl (listed_up_to n (omega arith))))

  all_listed : ListedUpTo (length ts) (entries_once ts v)
  all_listed = subst (λ us. ListedUpTo (length ts) (entries_once us v)) (take_all (length ts) ts (omega arith)) (listed_up_to (length ts) (omega arith))

  pub each_listed : (t : ℕ) (e : Entry) → Needs t e → Contains (entries_once ts v) e
  each_listed t e m = all_listed.listed t e (needs_within t e m) m

  pub listed_needed : All (NeededBy ts v) (entries_once ts v)
  listed_needed = λ k d l. let (t, m, f) = all_listed.needed k d l in needed_by t _ f.needs

  pub listed_in_order : AllPairs NeededBefore (entries_once ts v)
  listed_in_order = all_listed.ordered

  -- some term is the first that needs an entry
  pub first_needing : (e : Entry) → NeededBy ts v e → (t : ℕ) × FirstNeeds ts v e t
  first_needing e n =
      let (i, m) = needing e n in
      let (t, l, f) = All-contains (λ e. (t : ℕ) × (t < length ts) × FirstNeeds ts v e t) (entries_once ts v) e all_listed.needed (each_listed i e m) in
      (t, f)
