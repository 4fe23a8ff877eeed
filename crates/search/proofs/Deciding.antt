-- What is found over two engines that were given what stands.
use Rattle.std.proofs.Common.{◌≡◌, ℕ, ◌≤◌, true, List, [], ◌∷◌, length, map, sym, refl, ap, ◌∙◌, subst, arith}
use Rattle.std.proofs.lemmas.List.{length-map}
use Rattle.sheet.specs.declared.row.Row.{Row}
use Rattle.sheet.specs.declared.term.Term.{Term}
use Rattle.engine.specs.declared.engine.Engine.{Ghosts}
use Rattle.engine.specs.States.{State, active_rows, with_codes}
use Rattle.engine.specs.Terms.{seats_of}
use Rattle.engine.proofs.Bounds.{bounds}
use Rattle.theory.specs.Combining.{Possible}
use Rattle.search.specs.declared.standing.Standing.{Standing}
use Rattle.search.specs.Engines.{Alike, AllowedIn, CoreIn, PossibleIn}
use Rattle.search.specs.Searching.{NoneBefore}
use Rattle.search.specs.Standing.{rows_of, terms_of}
use Rattle.search.specs.Unmuted.{all_unmuted, standing_state}
use Rattle.search.specs.Verdicts.{Core, Finding, FirstAllowed, found_state}
use Rattle.search.proofs.Alike.{allowed_same, said_before}
use Rattle.search.proofs.Noting.{active, as_many}

-- rows of which none is muted are all active
pub active_of : (rows : List Row) → active_rows (map active rows) ≡ rows
active_of [] = refl
active_of (r ∷ rows) = ap (λ rs. r ∷ rs) (active_of rows)

unmuted_of : (rows : List Row) → all_unmuted (map active rows) ≡ true
unmuted_of [] = refl
unmuted_of (r ∷ rows) = unmuted_of rows

pub few_seats : (standing : Standing) → length (seats_of (terms_of standing)) ≤ 8
few_seats standing = (bounds standing.held).seats

pub few_rows : (standing : Standing) → length (rows_of standing) ≤ 64
few_rows standing = omega (arith, (bounds standing.held).rows, as_many (standing.held.rows.items))

-- the engines x and y were given these terms and rows
module _ {F S : Type 0} (f : Ghosts F) (s : Ghosts S) (x : F) (y : S) (ts : List Term) (rows : List Row) (by_first : f.state x ≡ standing_state ts rows) where
  pub given_alike : s.state y ≡ standing_state ts rows → Alike f s x y x y []
  given_alike by_second =
      let bare : standing_state ts rows ≡ with_codes (f.state x) [] = ap (λ (q : State). with_codes q []) (sym by_first) in
      record { by_first = by_first ∙ bare; by_second = by_second ∙ bare; keeps_first = refl; keeps_second = refl }

  pub given_few : length (seats_of ts) ≤ 8 → length (seats_of (f.state x).terms) ≤ 8
  given_few few = subst (λ (q : State). length (seats_of q.terms) ≤ 8) (sym by_first) few

  pub given_unmuted : all_unmuted (f.state x).rows ≡ true
  given_unmuted = ap (λ (q : State). all_unmuted q.rows) by_first ∙ unmuted_of rows

  pub given_count : length (f.state x).rows ≡ length rows
  given_count = ap (λ (q : State). length q.rows) by_first ∙ length-map rows active

  -- what holds of what the engine holds holds of these
  at_given : (Q : List Term → List Row → Type 0) → Q (f.state x).terms (active_rows (f.state x).rows) → Q ts rows
  at_given Q q = subst (Q ts) (active_of rows) (subst (λ (t : State). Q t.terms (active_rows t.rows)) by_first q)

  -- an engine that has what was found of the engines v and w, where the search ended
  pub left_given : {v : F} {w : S} → Alike f s x y v w [] → (what : Finding) (t : State) → t ≡ found_state (f.state v).terms (active_rows (f.state v).rows) what → t ≡ found_state ts rows what
  left_given h what t e =
      e
      ∙ ap (λ (q : State). found_state q.terms (active_rows q.rows) what) (h.by_first ∙ ap (λ (q : State). with_codes q []) by_first)
      ∙ ap (λ rs. found_state ts rs what) (active_of rows)

  -- and of the settings that they were made with
  module _ (n m : ℕ) (first_made : f.setting x ≡ n) (second_made : s.setting y ≡ m) where
    at_settings : (Q : ℕ → ℕ → Type 0) → Q (f.setting x) (s.setting y) → Q n m
    at_settings Q q = subst (λ j. Q n j) second_made (subst (λ i. Q i (s.setting y)) first_made q)

    -- the first arrangement that was found
    pub first_given : (codes : List ℕ) → AllowedIn f s x y codes × NoneBefore (AllowedIn f s x y) codes → FirstAllowed (f.rule n) (s.rule m) ts rows codes
    first_given codes h =
        at_settings (λ i j. FirstAllowed (f.rule i) (s.rule j) ts rows codes)
        (at_given (λ us zs. FirstAllowed (f.rule (f.setting x)) (s.rule (s.setting y)) us zs codes) (record { allowed = h.0; none_before = h.1 }))

    -- that there is none
    pub none_given : ((codes : List ℕ) → AllowedIn f s x y codes → ⊥) → Possible (f.rule n) (s.rule m) ts rows → ⊥
    none_given none =
        at_settings (λ i j. Possible (f.rule i) (s.rule j) ts rows → ⊥)
        (at_given (λ us zs. Possible (f.rule (f.setting x)) (s.rule (s.setting y)) us zs → ⊥) (λ p. none p.0 p.1))

    -- and the rows of the clash, as found from where the search ended, at v and w
    pub core_given : (v : F) (w : S) → Alike f s x y v w [] → (places : List ℕ) → CoreIn f s v w places → Core (f.rule n) (s.rule m) ts rows places
    core_given v w h places core =
        at_settings (λ i j. Core (f.rule i) (s.rule j) ts rows places)
        (at_given (λ us zs. Core (f.rule (f.setting x)) (s.rule (s.setting y)) us zs places)
        (said_before h (λ i j us ms. Core (f.rule i) (s.rule j) us (active_rows ms) places) core))

-- with nothing found the engines still hold what they were given
module _ {F S : Type 0} (f : Ghosts F) (s : Ghosts S) (x : F) (y : S) (v : F) (w : S) (h : Alike f s x y v w []) where
  pub nothing_there : ((codes : List ℕ) → AllowedIn f s x y codes → ⊥) → PossibleIn f s v w → ⊥
  nothing_there none p = none p.0 (allowed_same h p.0 p.1)
