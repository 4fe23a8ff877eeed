-- A choice equates the pairs exactly where it makes the same rows true and gives the seats of each block one number. So the classes are
-- those of the terms that are always equal.
use Rattle.std.proofs.Common.{◌≡◌, ℕ, ◌<◌, List, length, get_or, take, All, sym, refl, ap, ◌∙◌, subst, arith}
use Rattle.std.proofs.lemmas.List.Elements.{All-append}
use Rattle.std.proofs.lemmas.List.{get_or-take, length-take}
use Rattle.std.proofs.lemmas.Bool.{eq-eqb, eqb-true}
use Rattle.congruence.specs.Claims.{Equal, EqualBy, ExactClasses}
use Rattle.congruence.specs.Classes.{class_of}
use Rattle.congruence.proofs.Exact.{closure_is_exact}
use Rattle.engine.specs.declared.placed.Placed.{Placed}
use Rattle.engine.specs.Arrangements.{ranks}
use Rattle.engine.specs.Equalities.{AlwaysEqual, EqualityClasses, Equates}
use Rattle.engine.specs.Meaning.{Numbers, Tables, Interprets}
use Rattle.engine.specs.EachPair.{each_pair}
use Rattle.engine.specs.Placing.{placed_seats}
use Rattle.engine.specs.Rules.{seat_numbers}
use Rattle.engine.specs.States.{State, active_rows}
use Rattle.engine.proofs.Bounds.{Bounds}
use Rattle.engine.proofs.EachPair.{either_way}
use Rattle.engine.proofs.Lists.{all_front, all_back}
use Rattle.engine.proofs.Placing.{all_placed_pairs, placed_pair_at}
use Rattle.table.specs.Decisions.{classes_of, equal_pairs}
use Rattle.table.specs.Pairs.{block_pairs, same_pairs}
use Rattle.table.proofs.Below.{arguments_below_all, pairs_below}
use Rattle.table.proofs.Pairs.{IfInOneBlock, all_equated, equated_at, pairs_give_rows, rows_give_pairs}

module _ {s : State} (held : Bounds s) where
  abbrev rs : List ℕ
  rs = ranks s.codes

  abbrev ps : List Placed
  ps = placed_seats s

  module _ (m : Tables) (v : Numbers) where
    pub equates_pairs : Equates s.terms (active_rows s.rows) s.codes m v → All (Equal v) (equal_pairs s)
    equates_pairs e =
        All-append (Equal v) (same_pairs (active_rows s.rows)) (block_pairs ps) (rows_give_pairs v (active_rows s.rows) e.hold)
        (all_equated (Equal v) (each_pair ps)
        (all_placed_pairs s.terms s.codes held.placed (IfInOneBlock (Equal v))
        (λ p q b l t. e.blocks p q (omega arith) l (sym (eqb-true (get_or rs q 0) (get_or rs p 0) t)))))

    pub pairs_equate : Interprets m s.terms v → All (Equal v) (equal_pairs s) → Equates s.terms (active_rows s.rows) s.codes m v
    pairs_equate i a =
        record {
          interprets = i;
          hold = pairs_give_rows v (active_rows s.rows) (all_front (Equal v) (same_pairs (active_rows s.rows)) (block_pairs ps) a);
          blocks =
              let pairs : All (IfInOneBlock (Equal v)) (each_pair ps) = equated_at (Equal v) (each_pair ps) (all_back (Equal v) (same_pairs (active_rows s.rows)) (block_pairs ps) a) in
              either_way (λ p q. get_or rs p 0 ≡ get_or rs q 0 → seat_numbers s.terms v p ≡ seat_numbers s.terms v q) (length rs) (λ p e. refl) (λ p q f e. sym (f (sym e)))
              (λ p q b l t. placed_pair_at s.terms s.codes held.placed (IfInOneBlock (Equal v)) pairs p q b l (eq-eqb (get_or rs q 0) (get_or rs p 0) (sym t)));
        }

  -- the pairs make equal just the terms that are always equal
  pub by_pairs : (a b : ℕ) → AlwaysEqual s.terms (active_rows s.rows) s.codes a b → EqualBy s.terms (equal_pairs s) a b
  by_pairs a b e = λ m v i p. e m v (pairs_equate m v i p)

  pub by_choices : (a b : ℕ) → EqualBy s.terms (equal_pairs s) a b → AlwaysEqual s.terms (active_rows s.rows) s.codes a b
  by_choices a b e = λ m v q. e m v q.interprets (equates_pairs m v q)

  pub exact : ExactClasses 32 s.terms (equal_pairs s) (classes_of s)
  exact = closure_is_exact 32 s.terms (equal_pairs s) held.terms (arguments_below_all held) (pairs_below held)

  -- the classes of the terms that there are
  pub classes_are : (classes : List ℕ) → classes ≡ take (length s.terms) (classes_of s) → EqualityClasses s classes
  classes_are classes is =
      let n = length s.terms in
      let cl = classes_of s in
      let few = held.terms in
      let at : (t : ℕ) → t < n → get_or classes t 0 ≡ class_of cl t = λ t l. ap (λ (xs : List ℕ). get_or xs t 0) is ∙ get_or-take n cl t 0 l in
      record {
        each = ap length is ∙ length-take n cl ∙ omega (arith, exact.each);
        named = λ t l.
            let lt : t < 32 = omega arith in
            let c = class_of cl t in
            let lc : c < 32 = omega (arith, (exact.least t lt).0) in
            record {
              equal = subst (λ k. AlwaysEqual s.terms (active_rows s.rows) s.codes k t) (sym (at t l)) (by_choices c t (exact.equal c t lc lt (exact.least t lt).1));
              least = λ b lb e.
                  let same = exact.whole b t (omega arith) lt (by_pairs b t e) in
                  omega (arith, at t l, same, (exact.least b (omega arith)).0);
            };
        exact = λ a b la lb. (
          (λ e. by_choices a b (exact.equal a b (omega arith) (omega arith) (sym (at a la) ∙ e ∙ at b lb))),
          (λ e. at a la ∙ exact.whole a b (omega arith) (omega arith) (by_pairs a b e) ∙ sym (at b lb)),
        );
      }
