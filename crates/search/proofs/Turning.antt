-- Codes lifted until a seat can take a higher one.
use Rattle.std.proofs.Common.{◌≡◌, ℕ, ◌+◌, ◌*◌, ◌<◌, true, false, List, [], ◌∷◌, ◌++◌, length, sym, ◌∙◌, subst, append-nil, arith}
use Rattle.engine.specs.declared.engine.Engine.{Ghosts}
use Rattle.engine.specs.Arrangements.{blocks}
use Rattle.engine.specs.Terms.{seats_of}
use Rattle.engine.proofs.Codes.{blocks_le}
use Rattle.search.specs.declared.phase.Phase.TheVariants.{Descend, Exhausted}
use Rattle.search.specs.Engines.{Alike, AllowedIn}
use Rattle.search.specs.Searching.{Known, NothingUnder, PlacedIf, left_down}
use Rattle.search.proofs.Alike.{alike_on, same_seats}
use Rattle.search.proofs.Falling.{falls_lifted, falls_next, falls_up, left_up}
use Rattle.search.proofs.Knowing.{code_lifted, known_lifted, known_next, known_none, seat_freed}

abbrev seats_in : {F : Type 0} → Ghosts F → F → ℕ
seats_in f a = length (seats_of (f.state a).terms)

-- the engines began as a and b, with the codes `start`, and are x and y now: nothing is under their codes, and less is left
pub record Turning {F S : Type 0} (f : Ghosts F) (s : Ghosts S) (a : F) (b : S) (start : List ℕ) (x : F) (y : S) (codes : List ℕ) : Type 0 where
  pub alike : Alike f s a b x y codes
  pub nothing : NothingUnder (AllowedIn f s a b) (seats_in f a) codes
  pub less : left_up (seats_in f a) codes < left_down (seats_in f a) start

module _ {F S : Type 0} {f : Ghosts F} {s : Ghosts S} {a : F} {b : S} {start : List ℕ} where
  pub turning_start : Alike f s a b a b start → NothingUnder (AllowedIn f s a b) (seats_in f a) start → Turning f s a b start a b start
  turning_start h k = record { alike = h; nothing = k; less = falls_up (seats_in f a) start }

  module _ {x : F} {y : S} {codes : List ℕ} (t : Turning f s a b start x y codes) where
    -- no code is left
    pub known_turned_out : (new : List ℕ) → codes ≡ new ++ [] → new ≡ [] → Known (AllowedIn f s a b) (seats_in f a) Exhausted new
    known_turned_out new same none =
        subst (Known (AllowedIn f s a b) (seats_in f a) Exhausted) (sym none)
        (known_none (AllowedIn f s a b) (seats_in f a) (subst (NothingUnder (AllowedIn f s a b) (seats_in f a)) (same ∙ append-nil new ∙ none) t.nothing))

    -- the last code is lifted, so that the engines are v and w
    module _ {v : F} {w : S} {cs : List ℕ} (c : ℕ) (h : Alike f s x y v w cs) (lifted : codes ≡ cs ++ c ∷ []) where
      nothing_at : NothingUnder (AllowedIn f s a b) (seats_in f a) (cs ++ c ∷ [])
      nothing_at = subst (NothingUnder (AllowedIn f s a b) (seats_in f a)) lifted t.nothing

      less_at : left_up (seats_in f a) (cs ++ c ∷ []) < left_down (seats_in f a) start
      less_at = subst (λ ds. left_up (seats_in f a) ds < left_down (seats_in f a) start) lifted t.less

      pub same_seats_lifted : seats_in f v ≡ seats_in f a
      same_seats_lifted = same_seats (alike_on t.alike h)

      pub code_low : c < 2 * seats_in f a
      code_low =
          let room = seat_freed (AllowedIn f s a b) (seats_in f a) (λ ds p. p.arrangement) cs c nothing_at in
          let low = code_lifted (AllowedIn f s a b) (seats_in f a) (λ ds p. p.arrangement) cs c nothing_at in
          omega (arith, blocks_le cs, room, low)

      -- the next code is placed
      module _ {new : List ℕ} (p : PlacedIf (seats_in f v) cs (c + 1) true new) where
        pub known_turned : Known (AllowedIn f s a b) (seats_in f a) Descend new
        known_turned =
            subst (Known (AllowedIn f s a b) (seats_in f a) Descend) (sym p.2)
            (known_next (AllowedIn f s a b) (seats_in f a) (λ ds q. q.arrangement) cs c nothing_at p.1)

        pub falls_turned : left_down (seats_in f a) new < left_down (seats_in f a) start
        falls_turned =
            subst (λ ds. left_down (seats_in f a) ds < left_down (seats_in f a) start) (sym p.2)
            (omega (arith, falls_next (seats_in f a) cs c code_low, less_at))

      -- or it was not taken
      pub turning_on : {i : F} {j : S} {new : List ℕ} → PlacedIf (seats_in f v) cs (c + 1) false new → Alike f s v w i j new → Turning f s a b start i j new
      turning_on p k =
          let room = seat_freed (AllowedIn f s a b) (seats_in f a) (λ ds q. q.arrangement) cs c nothing_at in
          let high : 2 * blocks cs < c + 1 = p.0 (subst (λ m. length cs < m) (sym same_seats_lifted) room) in
          record {
            alike = alike_on (alike_on t.alike h) k;
            nothing = subst (NothingUnder (AllowedIn f s a b) (seats_in f a)) (sym p.1) (known_lifted (AllowedIn f s a b) (seats_in f a) (λ ds q. q.arrangement) cs c nothing_at high);
            less = subst (λ ds. left_up (seats_in f a) ds < left_down (seats_in f a) start) (sym p.1) (omega (arith, falls_lifted (seats_in f a) cs c, less_at));
          }
