-- The search where it goes down.
use Rattle.std.proofs.Common.{◌≡◌, ℕ, ◌<◌, true, List, [], length, sym, refl, subst, arith}
use Rattle.engine.specs.declared.engine.Engine.{Ghosts}
use Rattle.engine.specs.Terms.{seats_of}
use Rattle.search.specs.declared.phase.Phase.{Phase}
use Rattle.search.specs.declared.phase.Phase.TheVariants.{Descend, Found}
use Rattle.search.specs.Engines.{Alike, AllowedIn}
use Rattle.search.specs.Searching.{GoesOn, Known, PlacedIf, left_down}
use Rattle.search.proofs.Falling.{falls_first, falls_up}
use Rattle.search.proofs.Knowing.{known_first, known_start}

module _ {n : ℕ} {phase : Phase} {new : List ℕ} (old : List ℕ) (down : phase ≡ Descend) where
  -- the code 0 is placed
  pub known_descended : (Allowed : List ℕ → Type 0) → Known Allowed n phase old → PlacedIf n old 0 true new → Known Allowed n Descend new
  known_descended Allowed k p =
      subst (Known Allowed n Descend) (sym p.2) (known_first Allowed n old (subst (λ q. Known Allowed n q old) down k) p.0)

  pub falls_descended : PlacedIf n old 0 true new → GoesOn n phase old Descend new
  falls_descended p =
      subst (λ q. GoesOn n q old Descend new) (sym down) (subst (λ ds. left_down n ds < left_down n old) (sym p.2) (falls_first n old p.0))

-- the search rests
pub falls_found : (n : ℕ) (phase : Phase) (old new : List ℕ) → phase ≡ Descend → GoesOn n phase old Found new
falls_found n phase old new down = subst (λ q. GoesOn n q old Found new) (sym down) (omega (arith, falls_up n old))

-- the engines began as a and b with no code, and are x and y now: the search goes down from the codes
pub record Descending {F S : Type 0} (f : Ghosts F) (s : Ghosts S) (a : F) (b : S) (x : F) (y : S) (codes : List ℕ) (phase : Phase) : Type 0 where
  pub alike : Alike f s a b x y codes
  pub known : Known (AllowedIn f s a b) (length (seats_of (f.state a).terms)) phase codes
  pub down : phase ≡ Descend

pub descending_start : {F S : Type 0} {f : Ghosts F} {s : Ghosts S} {a : F} {b : S} {codes : List ℕ} → Alike f s a b a b [] → codes ≡ [] → Descending f s a b a b codes Descend
descending_start {f = f} {s = s} {a = a} {b = b} h e =
    subst (λ cs. Descending f s a b a b cs Descend) (sym e)
    (record { alike = h; known = known_start (AllowedIn f s a b) (length (seats_of (f.state a).terms)); down = refl })
