-- Rows and their marks.
use Rattle.std.proofs.Common.{◌≡◌, ℕ, zero, suc, ◌<◌, Bool, true, false, cond, List, [], ◌∷◌, ◌++◌, length, sym, refl, ap, ◌∙◌, arith}
use Rattle.std.proofs.lemmas.Bool.{and_parts}
use Rattle.sheet.specs.declared.row.Row.{Row}
use Rattle.engine.specs.declared.noted.Noted.{Noted}
use Rattle.engine.specs.Calls.{rows_with_mark}
use Rattle.engine.specs.States.{active_rows}
use Rattle.search.specs.Unmuted.{all_unmuted, unmarked}

pub active_append : (xs ys : List Noted) → active_rows (xs ++ ys) ≡ active_rows xs ++ active_rows ys
active_append [] ys = refl
active_append (m ∷ xs) ys =
    elim m.active as (λ b. cond b (m.row ∷ active_rows (xs ++ ys)) (active_rows (xs ++ ys)) ≡ cond b (m.row ∷ active_rows xs) (active_rows xs) ++ active_rows ys)
    [ true ↦ ap (λ rs. m.row ∷ rs) (active_append xs ys) | false ↦ active_append xs ys ]

pub mark_at : (i : ℕ) (b : Bool) (front : List Noted) (m : Noted) (back : List Noted) → length front ≡ i
    → rows_with_mark i b (front ++ m ∷ back) ≡ front ++ record { row = m.row; active = b } ∷ back
mark_at zero b [] m back e = refl
mark_at zero b (x ∷ front) m back e = absurd (omega arith)
mark_at (suc i) b [] m back e = absurd (omega arith)
mark_at (suc i) b (x ∷ front) m back e = ap (λ ms. x ∷ ms) (mark_at i b front m back (omega arith))

-- of two marks set at one row the second stands
pub mark_twice : (i : ℕ) (a b : Bool) (ms : List Noted) → rows_with_mark i b (rows_with_mark i a ms) ≡ rows_with_mark i b ms
mark_twice i a b [] = refl
mark_twice zero a b (m ∷ ms) = refl
mark_twice (suc i) a b (m ∷ ms) = ap (λ xs. m ∷ xs) (mark_twice i a b ms)

pub length_with_mark : (i : ℕ) (b : Bool) (ms : List Noted) → length (rows_with_mark i b ms) ≡ length ms
length_with_mark i b [] = refl
length_with_mark zero b (m ∷ ms) = refl
length_with_mark (suc i) b (m ∷ ms) = ap suc (length_with_mark i b ms)

-- a mark changes no row
pub unmarked_with_mark : (i : ℕ) (b : Bool) (ms : List Noted) → unmarked (rows_with_mark i b ms) ≡ unmarked ms
unmarked_with_mark i b [] = refl
unmarked_with_mark zero b (m ∷ ms) = refl
unmarked_with_mark (suc i) b (m ∷ ms) = ap (λ rs. m.row ∷ rs) (unmarked_with_mark i b ms)

-- rows of which none is muted are all active
pub unmuted_active : (ms : List Noted) → all_unmuted ms ≡ true → unmarked ms ≡ active_rows ms
unmuted_active [] u = refl
unmuted_active (m ∷ ms) u =
    let p = and_parts m.active (all_unmuted ms) u in
    ap (λ rs. m.row ∷ rs) (unmuted_active ms p.1) ∙ ap (λ b. cond b (m.row ∷ active_rows ms) (active_rows ms)) (sym p.0)

-- the first of some rows of which none is muted
pub record FirstUnmuted (ms : List Noted) : Type 0 where
  pub row : Row
  pub rest : List Noted
  pub these : ms ≡ record { row = row; active = true } ∷ rest
  pub unmuted : all_unmuted rest ≡ true

pub first_unmuted : (ms : List Noted) → all_unmuted ms ≡ true → 0 < length ms → FirstUnmuted ms
first_unmuted [] u l = absurd (omega arith)
first_unmuted (m ∷ ms) u l =
    let p = and_parts m.active (all_unmuted ms) u in
    record { row = m.row; rest = ms; these = ap (λ b. record { row = m.row; active = b } ∷ ms) p.0; unmuted = p.1 }
