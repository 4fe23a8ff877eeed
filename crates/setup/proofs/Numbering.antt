-- The numbers of the groups, as they are counted.
use Rattle.std.proofs.Common.{◌≡◌, ℕ, zero, suc, ◌+◌, ◌<◌, ◌≤◌, false, true, eqb, List, [], ◌∷◌, length, get_or, map, take, drop, Some, None, ℤ, pos, sym, refl, ap, ◌∙◌, inl, inr, add-one, arith}
use Rattle.std.proofs.lemmas.Bool.{and_from, and_left, and_right, cases_eq, cond-false, eq-eqb, ne_eqb}
use Rattle.std.proofs.lemmas.Bool.Decides.{nat_tests}
use Rattle.std.proofs.lemmas.List.{drop-drop, drop_more, get_or-map, get_or-take, length-take-le}
use Rattle.model.specs.Numbering.{group_date, group_number, has_none, leads_undated, undated_below}

-- a seat that is not in the group is passed
next_seat : (groups : List ℕ) (s : ℕ) (ss : List ℕ) (dates : List ℤ) (g : ℕ) → (get_or groups s 0 ≡ g → ⊥) → group_date groups (s ∷ ss) dates g ≡ group_date groups ss (drop 1 dates) g
next_seat groups s [] [] g n = refl
next_seat groups s (r ∷ ss) [] g n = refl
next_seat groups s ss (d ∷ dates) g n = cond-false (eqb (get_or groups s 0) g) (Some d) (group_date groups ss dates g) (ne_eqb (get_or groups s 0) g n)

pub seat_passed : (groups ss : List ℕ) (dates : List ℤ) (g k : ℕ) → k < length ss → (get_or groups (get_or ss k 0) 0 ≡ g → ⊥)
    → group_date groups (drop k ss) (drop k dates) g ≡ group_date groups (drop (k + 1) ss) (drop (k + 1) dates) g
seat_passed groups ss dates g k l n =
    let s : ℕ = get_or ss k 0 in
    let later : List ℕ = drop (k + 1) ss in
    ap (λ rs. group_date groups rs (drop k dates) g) (drop_more ss k 0 l)
    ∙ next_seat groups s later (drop k dates) g n
    ∙ ap (λ ds. group_date groups later ds g) (drop-drop 1 k dates)

module _ (groups ss : List ℕ) (dates : List ℤ) where
  pub undated_few : (t : ℕ) → undated_below groups ss dates t ≤ t
  undated_few zero = omega arith
  undated_few (suc t) = let few = undated_few t in grind (arith, nat_tests)

  -- the term that a group goes by, once passed, has its number
  pub number_passed : (t g : ℕ) → t ≤ length groups → g < t → get_or groups g 0 ≡ g → get_or (map (group_number groups ss dates) (take t groups)) g (pos 0) ≡ group_number groups ss dates g
  number_passed t g l m e =
      let there : g < length (take t groups) = omega (arith, length-take-le t groups) in
      get_or-map (group_number groups ss dates) (take t groups) g 0 (pos 0) there ∙ ap (group_number groups ss dates) (get_or-take t groups g 0 m ∙ e)

  -- a term that no group without a date goes by is not counted, and each other one is
  not_counted : (t : ℕ) → leads_undated groups ss dates t ≡ false → undated_below groups ss dates (t + 1) ≡ undated_below groups ss dates t
  not_counted t e = rw (add-one t) (grind arith)

  pub counted : (t : ℕ) → get_or groups t 0 ≡ t → group_date groups ss dates t ≡ None → undated_below groups ss dates (t + 1) ≡ suc (undated_below groups ss dates t)
  counted t e f =
      let leads : leads_undated groups ss dates t ≡ true = and_from (eqb (get_or groups t 0) t) (has_none (group_date groups ss dates t)) (eq-eqb (get_or groups t 0) t e) (ap has_none f) in
      rw (add-one t) (grind arith)

  pub not_least : (t : ℕ) → (get_or groups t 0 ≡ t → ⊥) → undated_below groups ss dates (t + 1) ≡ undated_below groups ss dates t
  not_least t n = not_counted t (and_left (eqb (get_or groups t 0) t) (has_none (group_date groups ss dates t)) (ne_eqb (get_or groups t 0) t n))

  pub has_date : (t : ℕ) (d : ℤ) → group_date groups ss dates (get_or groups t 0) ≡ Some d → undated_below groups ss dates (t + 1) ≡ undated_below groups ss dates t
  has_date t d e =
      elim (cases_eq (get_or groups t 0) t) [
        | inl q ↦ not_counted t (and_right (eqb (get_or groups t 0) t) (has_none (group_date groups ss dates t)) (ap (λ g. has_none (group_date groups ss dates g)) (sym q) ∙ ap has_none e))
        | inr n ↦ not_least t n
      ]
