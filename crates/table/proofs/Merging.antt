-- Merging by one list of pairs and then by another.
use Rattle.std.proofs.Common.{◌≡◌, ℕ, List, [], ◌∷◌, ◌++◌, refl}
use Rattle.congruence.specs.Classes.{merge, merge_all}

pub merge_all_append : (ps qs : List (ℕ × ℕ)) (cl : List ℕ) → merge_all (ps ++ qs) cl ≡ merge_all qs (merge_all ps cl)
merge_all_append [] qs cl = refl
merge_all_append (p ∷ ps) qs cl = merge_all_append ps qs (merge p.0 p.1 cl)
