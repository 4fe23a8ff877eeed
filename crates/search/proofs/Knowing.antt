-- What the search knows, from one step to the next.
use Rattle.std.proofs.Common.{◌≡◌, ℕ, ◌+◌, ◌*◌, ◌<◌, ◌≤◌, List, [], ◌∷◌, ◌++◌, length, sym, refl, ap, ◌∙◌, subst, inl, inr, ⊎_elim, append_assoc, append-nil, arith}
use Rattle.std.proofs.lemmas.Bool.{cases_order}
use Rattle.std.proofs.lemmas.List.{length_push}
use Rattle.engine.specs.Arrangements.{Arrangement, Before, blocks}
use Rattle.engine.proofs.Codes.{before_front, before_push, valid_low}
use Rattle.engine.proofs.Ranks.{valid_front, valid_push}
use Rattle.search.specs.Searching.{Front, Known, NoneBefore, NothingUnder}
use Rattle.search.specs.declared.phase.Phase.TheVariants.{Descend, Exhausted}

-- what comes before some codes, or goes on from them by a smaller code, comes before one code more
before_longer : (ds cs : List ℕ) (c : ℕ) → Before ds cs → Before ds (cs ++ c ∷ [])
before_longer [] cs c h = absurd h
before_longer (d ∷ ds) [] c h = absurd h
before_longer (d ∷ ds) (x ∷ cs) c h = ⊎_elim (λ l. inl l) (λ p. inr (p.0, before_longer ds cs c p.1)) h

before_higher : (cs : List ℕ) (d c : ℕ) (rest : List ℕ) → d < c → Before (cs ++ d ∷ rest) (cs ++ c ∷ [])
before_higher [] d c rest l = inl l
before_higher (x ∷ cs) d c rest l = inr (refl, before_higher cs d c rest l)

module _ (Allowed : List ℕ → Type 0) (n : ℕ) where
  pub known_start : Known Allowed n Descend []
  known_start = (record { short = omega arith; valid = refl }, λ ds p q. before_front [] ds q)

  pub front_longer : (cs : List ℕ) (c : ℕ) → Front n cs → length cs < n → c ≤ 2 * blocks cs → Front n (cs ++ c ∷ [])
  front_longer cs c f l w = record { short = omega (arith, length_push cs c, l); valid = valid_push cs c f.valid w }

  -- the code 0 is placed
  pub known_first : (cs : List ℕ) → Known Allowed n Descend cs → length cs < n → Known Allowed n Descend (cs ++ 0 ∷ [])
  known_first cs k l = (
    front_longer cs 0 k.0 l (omega arith),
    λ ds p q. ⊎_elim (λ b. k.1 ds p b) (λ w. omega (arith, w.2)) (before_push ds cs 0 q),
  )

  -- no code is left
  pub known_none : NothingUnder Allowed n [] → Known Allowed n Exhausted []
  known_none k = (λ ds p. k.under ds p, refl)

  -- the last code is lifted
  module _ (arranged : (ds : List ℕ) → Allowed ds → Arrangement n ds) (cs : List ℕ) (c : ℕ) (k : NothingUnder Allowed n (cs ++ c ∷ [])) where
    pub seat_freed : length cs < n
    seat_freed = omega (arith, length_push cs c, k.front.short)

    pub code_lifted : c ≤ 2 * blocks cs
    code_lifted = let h = valid_low 0 cs c [] k.front.valid in omega arith

    front_left : Front n cs
    front_left = record { short = omega (arith, seat_freed); valid = valid_front 0 cs (c ∷ []) k.front.valid }

    -- nothing allowed goes on by a code that is not higher
    none_lower : (d : ℕ) (rest : List ℕ) → d < c + 1 → Allowed (cs ++ d ∷ rest) → ⊥
    none_lower d rest l p =
        ⊎_elim
        (λ e. k.under rest (subst Allowed (ap (λ x. cs ++ x ∷ rest) e ∙ sym (append_assoc cs (c ∷ []) rest)) p))
        (λ q. ⊎_elim (λ less. k.before (cs ++ d ∷ rest) p (before_higher cs d c rest less)) (λ more. omega (arith, more, l)) q)
        (cases_order d c)

    none_shorter : NoneBefore Allowed cs
    none_shorter ds p b = k.before ds p (before_longer ds cs c b)

    -- the next code is placed
    pub known_next : c + 1 ≤ 2 * blocks cs → Known Allowed n Descend (cs ++ (c + 1) ∷ [])
    known_next l = (
      front_longer cs (c + 1) front_left seat_freed l,
      λ ds p b. ⊎_elim (λ q. none_shorter ds p q) (λ w. none_lower w.0 w.1 w.2 (subst Allowed w.3 p)) (before_push ds cs (c + 1) b),
    )

    -- or it is too high
    pub known_lifted : 2 * blocks cs < c + 1 → NothingUnder Allowed n cs
    known_lifted l =
        let none : (rest : List ℕ) → Allowed (cs ++ rest) → ⊥ =
        λ rest. elim rest as (λ r. Allowed (cs ++ r) → ⊥) [
          | [] ↦ λ p. let full : length (cs ++ []) ≡ n = (arranged (cs ++ []) p).full in omega (arith, seat_freed, full, ap length (append-nil cs))
          | d ∷ r ↦ λ p.
              let low : d ≤ 2 * (0 + blocks cs) = valid_low 0 cs d r (arranged (cs ++ d ∷ r) p).valid in
              none_lower d r (omega (arith, low, l)) p
        ] in
        record { front = front_left; before = none_shorter; under = none }
