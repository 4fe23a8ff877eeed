-- Two engines that hold the same, from one stretch of work to the next.
use Rattle.std.proofs.Common.{◌≡◌, ℕ, List, length, sym, refl, ap, ◌∙◌, subst}
use Rattle.sheet.specs.declared.term.Term.{Term}
use Rattle.engine.specs.declared.engine.Engine.{Ghosts}
use Rattle.engine.specs.declared.noted.Noted.{Noted}
use Rattle.engine.specs.States.{State, active_rows, with_codes}
use Rattle.engine.specs.Terms.{seats_of}
use Rattle.theory.specs.Combining.{AllowedByBoth}
use Rattle.search.specs.Engines.{Alike, AllowedIn}

module _ {F S : Type 0} {f : Ghosts F} {s : Ghosts S} {a x : F} {b y : S} {cs : List ℕ} (h : Alike f s a b x y cs) where
  -- the engines x and y hold one state, with these codes
  pub alike_here : Alike f s x y x y cs
  alike_here =
      let e : with_codes (f.state a) cs ≡ with_codes (f.state x) cs = ap (λ (t : State). with_codes t cs) (sym h.by_first) in
      record { by_first = h.by_first ∙ e; by_second = h.by_second ∙ e; keeps_first = refl; keeps_second = refl }

  pub one_state : s.state y ≡ f.state x
  one_state = h.by_second ∙ sym h.by_first

  pub codes_are : (f.state x).codes ≡ cs
  codes_are = ap (λ (t : State). t.codes) h.by_first

  pub same_terms : (f.state x).terms ≡ (f.state a).terms
  same_terms = ap (λ (t : State). t.terms) h.by_first

  pub same_rows : (f.state x).rows ≡ (f.state a).rows
  same_rows = ap (λ (t : State). t.rows) h.by_first

  pub same_seats : length (seats_of (f.state x).terms) ≡ length (seats_of (f.state a).terms)
  same_seats = ap (λ ts. length (seats_of ts)) same_terms

  -- what is then said of the settings, the terms and the rows was so at a and b
  pub said_before : (Q : ℕ → ℕ → List Term → List Noted → Type 0) → Q (f.setting x) (s.setting y) (f.state x).terms (f.state x).rows
      → Q (f.setting a) (s.setting b) (f.state a).terms (f.state a).rows
  said_before Q q =
      subst (λ n. Q n (s.setting b) (f.state a).terms (f.state a).rows) h.keeps_first
      (subst (λ n. Q (f.setting x) n (f.state a).terms (f.state a).rows) h.keeps_second
      (subst (λ (t : State). Q (f.setting x) (s.setting y) t.terms t.rows) h.by_first q))

  -- and what was so is so now
  pub said_now : (Q : ℕ → ℕ → List Term → List Noted → Type 0) → Q (f.setting a) (s.setting b) (f.state a).terms (f.state a).rows
      → Q (f.setting x) (s.setting y) (f.state x).terms (f.state x).rows
  said_now Q q =
      subst (λ (t : State). Q (f.setting x) (s.setting y) t.terms t.rows) (sym h.by_first)
      (subst (λ n. Q (f.setting x) n (f.state a).terms (f.state a).rows) (sym h.keeps_second)
      (subst (λ n. Q n (s.setting b) (f.state a).terms (f.state a).rows) (sym h.keeps_first) q))

  -- so of the codes that both allow, and of the number of seats
  pub allowed_before : (Q : (List ℕ → Type 0) → ℕ → Type 0) → Q (AllowedIn f s x y) (length (seats_of (f.state x).terms))
      → Q (AllowedIn f s a b) (length (seats_of (f.state a).terms))
  allowed_before Q q = said_before (λ n m ts rows. Q (AllowedByBoth (f.rule n) (s.rule m) ts (active_rows rows)) (length (seats_of ts))) q

  pub allowed_now : (Q : (List ℕ → Type 0) → ℕ → Type 0) → Q (AllowedIn f s a b) (length (seats_of (f.state a).terms))
      → Q (AllowedIn f s x y) (length (seats_of (f.state x).terms))
  allowed_now Q q = said_now (λ n m ts rows. Q (AllowedByBoth (f.rule n) (s.rule m) ts (active_rows rows)) (length (seats_of ts))) q

  -- both allow the same
  pub allowed_same : (ds : List ℕ) → AllowedIn f s x y ds → AllowedIn f s a b ds
  allowed_same ds q = allowed_before (λ P n. P ds) q

  -- one stretch of work and the next
  pub alike_on : {v : F} {w : S} {ds : List ℕ} → Alike f s x y v w ds → Alike f s a b v w ds
  alike_on {ds = ds} k = record {
    by_first = k.by_first ∙ ap (λ (t : State). with_codes t ds) h.by_first;
    by_second = k.by_second ∙ ap (λ (t : State). with_codes t ds) h.by_first;
    keeps_first = k.keeps_first ∙ h.keeps_first;
    keeps_second = k.keeps_second ∙ h.keeps_second;
  }
