-- Congruence: two applications of one table are equal where their arguments are.
use Rattle.std.specs.Prelude.{◌≡◌, ◌↔◌, ℕ, ◌<◌, List}
use Rattle.sheet.specs.declared.term.Form.TheVariants.{One, Two}
use Rattle.sheet.specs.declared.term.Term.{Term}
use Rattle.engine.specs.Meaning.{Numbers, form_at}

-- the relation holds of two applications of one table where it holds of their arguments
pub record CongruentRelation (ts : List Term) (equal : ℕ → ℕ → Type 0) : Type 0 where
  pub unary : (i j a x y : ℕ) → form_at ts i ≡ One a x → form_at ts j ≡ One a y → equal x y → equal i j
  pub binary : (i j a x y z w : ℕ) → form_at ts i ≡ Two a x y → form_at ts j ≡ Two a z w → equal x z → equal y w → equal i j

-- numbers that respect congruence
abbrev pub Congruent : List Term → Numbers → Type 0
Congruent ts v = CongruentRelation ts (λ i j. v i ≡ v j)

-- two of the first n terms have one number exactly where the relation holds of them
abbrev pub EqualExactlyWhere : ℕ → (ℕ → ℕ → Type 0) → Numbers → Type 0
EqualExactlyWhere n equal v = (i j : ℕ) → i < n → j < n → equal i j ↔ (v i ≡ v j)
