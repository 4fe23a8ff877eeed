-- The entries that are computed are those that a set-up has.
use Rattle.std.proofs.Common.{◌≡◌, ℕ, List, get_or, ℤ, ap, ◌∙◌, sym, subst, arith}
use Rattle.sheet.specs.declared.term.Term.{Term}
use Rattle.engine.specs.Meaning.{Numbers}
use Rattle.congruence.specs.declared.entry.Arguments.{Arguments}
use Rattle.congruence.specs.declared.entry.Arguments.TheVariants.{Unary, Binary}
use Rattle.congruence.specs.declared.entry.Entry.{Entry}
use Rattle.congruence.specs.Congruence.{Congruent}
use Rattle.congruence.specs.Entries.{Asks, NeededBy, entry, entry_for}
use Rattle.model.specs.Claims.{EntriesArePicked}
use Rattle.model.specs.PickedEntries.{FirstNeeds, asked_of, entries_once}
use Rattle.model.proofs.Needing.{each_listed, first_once, listed_in_order, listed_needed, needed_by}

-- what a table is asked has one answer
one_answer : (ts : List Term) (v : Numbers) → Congruent ts v → (a : ℕ) (asked : Arguments) (r s : ℤ) → Asks ts v a r asked → Asks ts v a s asked → r ≡ s
one_answer ts v c a (Unary n) r s (i, x, f, p, q) (j, y, g, h, k) = sym q ∙ c.unary i j a x y f g (p ∙ sym h) ∙ k
one_answer ts v c a (Binary n m) r s (i, x, y, f, p, q, t) (j, z, w, g, h, k, u) = sym t ∙ c.binary i j a x y z w f g (p ∙ sym h) (q ∙ sym k) ∙ u

asked_once : (ts : List Term) (v : Numbers) → Congruent ts v → (d e : Entry) → NeededBy ts v d → NeededBy ts v e → asked_of d ≡ asked_of e → d ≡ e
asked_once ts v c d e n m same =
    let table : d.table ≡ e.table = ap (λ (x : ℕ × Arguments). x.0) same in
    let asked : d.arguments ≡ e.arguments = ap (λ (x : ℕ × Arguments). x.1) same in
    let first : Asks ts v e.table d.answer e.arguments = subst (Asks ts v e.table d.answer) asked (subst (λ a. Asks ts v a d.answer d.arguments) table n) in
    let answer = one_answer ts v c e.table e.arguments d.answer e.answer first m in
    (λ i. entry (table i) (asked i) (answer i))

pub entries_picked : EntriesArePicked
entries_picked ts v c =
    record {
      needed = record {
        unary = λ i a x f. each_listed ts v i (entry a (Unary (v x)) (v i)) (ap (entry_for v (v i)) f);
        binary = λ i a x y f. each_listed ts v i (entry a (Binary (v x) (v y)) (v i)) (ap (entry_for v (v i)) f);
        only = listed_needed ts v;
      };
      once = λ i j z l m same.
          let es = entries_once ts v in
          let d : Entry = get_or es i z in
          let e : Entry = get_or es j z in
          let (s, t, f, g, before) = listed_in_order ts v i j z l m in
          let one : d ≡ e = asked_once ts v c d e (needed_by ts v s d f.needs) (needed_by ts v t e g.needs) same in
          let late = first_once ts v d s t f (subst (λ x. FirstNeeds ts v x t) (sym one) g) in
          absurd (omega arith);
      ordered = λ i j z l m s t f g.
          let es = entries_once ts v in
          let (p, q, h, k, before) = listed_in_order ts v i j z l m in
          let first = first_once ts v (get_or es i z) p s h f in
          let second = first_once ts v (get_or es j z) q t k g in
          omega arith;
    }
