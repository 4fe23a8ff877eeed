-- No other list has what the entries of a set-up have.
use Rattle.std.proofs.Common.{ℕ, ◌<◌, List, length, get_or, ℤ, AllPairs, Contains, subst, arith}
use Rattle.std.proofs.lemmas.List.Elements.{All-contains}
use Rattle.sheet.specs.declared.term.Term.{Term}
use Rattle.engine.specs.Meaning.{Numbers}
use Rattle.congruence.specs.declared.entry.Arguments.{Arguments}
use Rattle.congruence.specs.declared.entry.Arguments.TheVariants.{Unary, Binary}
use Rattle.congruence.specs.declared.entry.Entry.{Entry}
use Rattle.congruence.specs.Entries.{Asks, NeededBy, NeededEntries, entry}
use Rattle.model.specs.Claims.{EntriesAreDetermined}
use Rattle.model.specs.PickedEntries.{PickedEntries}
use Rattle.model.proofs.Ordered.{same_in_order}
use Rattle.model.proofs.Needing.{NeededBefore, first_needing, first_once}

module _ (ts : List Term) (v : Numbers) where
  before_one_way : (d e : Entry) → NeededBefore ts v d e → NeededBefore ts v e d → ⊥
  before_one_way d e (s, t, f, g, l) (p, q, h, k, m) =
      let first = first_once ts v d s q f k in
      let second = first_once ts v e t p g h in
      absurd (omega arith)

  has_needed : (es : List Entry) → NeededEntries ts v es → (e : Entry) → NeededBy ts v e → Contains es e
  has_needed es has e n = has_asked e.table e.answer e.arguments n
    where
      has_asked : (a : ℕ) (r : ℤ) (asked : Arguments) → Asks ts v a r asked → Contains es (entry a asked r)
      has_asked a r (Unary n) (i, x, f, p, q) = subst (Contains es) (λ k. entry a (Unary (p k)) (q k)) (has.unary i a x f)
      has_asked a r (Binary n m) (i, x, y, f, p, q, s) = subst (Contains es) (λ k. entry a (Binary (p k) (q k)) (s k)) (has.binary i a x y f)

  in_order : (es : List Entry) → PickedEntries ts v es → AllPairs (NeededBefore ts v) es
  in_order es picked i j d l m =
      let low : i < length es = omega arith in
      let (s, f) = first_needing ts v (get_or es i d) (picked.needed.only i d low) in
      let (t, g) = first_needing ts v (get_or es j d) (picked.needed.only j d m) in
      (s, t, f, g, picked.ordered i j d l m s t f g)

pub entries_determined : EntriesAreDetermined
entries_determined ts v es fs p q =
    same_in_order (NeededBefore ts v) (before_one_way ts v) es fs (in_order ts v es p) (in_order ts v fs q)
    (λ e c. has_needed ts v fs q.needed e (All-contains (NeededBy ts v) es e p.needed.only c))
    (λ e c. has_needed ts v es p.needed e (All-contains (NeededBy ts v) fs e q.needed.only c))
