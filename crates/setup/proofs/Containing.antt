-- An entry is put behind the others by what `contains` tells.
use Rattle.std.proofs.Common.{◌≡◌, ℕ, ℤ, Bool, cond, refl, sym, List, [], ◌∷◌, ◌++◌, Contains, Decides, ap, subst}
use Rattle.std.specs.List.{IsAnyAnswer, list_any}
use Rattle.std.proofs.lemmas.Bool.Decides.{same_from_decides}
use Rattle.std.proofs.lemmas.List.Elements.{contains_decides, Decides-contains}
use Rattle.congruence.specs.contracts.entry.EntryPartialEq.TheImpl.{ghosts}
use Rattle.congruence.specs.declared.entry.Arguments.{Arguments}
use Rattle.congruence.specs.declared.entry.Arguments.TheVariants.{Unary, Binary}
use Rattle.congruence.specs.declared.entry.Entry.{Entry}
use Rattle.congruence.specs.Entries.{entry}
use Rattle.model.specs.PickedEntries.{same_entry, with_entry}
use Rattle.model.proofs.EntriesListed.{contained, same_decides}

-- the derived `==` tells which entries are equal
equal_is : (a b : ℕ) (p q : Arguments) (r s : ℤ) → ghosts.eq (entry a p r) (entry b q s) ≡ same_entry (entry a p r) (entry b q s)
equal_is a b (Unary n) (Unary x) r s = refl
equal_is a b (Unary n) (Binary x y) r s = refl
equal_is a b (Binary n m) (Unary x) r s = refl
equal_is a b (Binary n m) (Binary x y) r s = refl

equal_decides : (d e : Entry) → Decides (ghosts.eq d e) (d ≡ e)
equal_decides d e = subst (λ b. Decides b (d ≡ e)) (sym (equal_is d.table e.table d.arguments e.arguments d.answer e.answer)) (same_decides d e)

pub with_entry_told : (xs es : List Entry) (e : Entry) (r : Bool) → xs ≡ es → IsAnyAnswer (λ y t. ghosts.eq y e ≡ t) xs r → with_entry es e ≡ cond r es (es ++ e ∷ [])
with_entry_told xs es e r q h =
    let among : Decides r (Contains es e) = subst (λ ys. Decides r (Contains ys e)) q (Decides-contains xs e r (contains_decides ghosts.eq equal_decides xs e r h)) in
    ap (λ b. cond b es (es ++ e ∷ [])) (same_from_decides (list_any (same_entry e) es) r (contained es e) among)
