-- There is only one first arrangement that two rules allow.
use Rattle.std.proofs.Common.{◌≡◌, ℕ, List, ⊎_elim, sym, ◌∙◌}
use Rattle.sheet.specs.declared.row.Row.{Row}
use Rattle.sheet.specs.declared.term.Term.{Term}
use Rattle.engine.proofs.Codes.{codes_ordered}
use Rattle.search.specs.Verdicts.{FirstAllowed}

pub first_only : {first second : List Term → List Row → List ℕ → Type 0} {ts : List Term} {rows : List Row} {cs ds : List ℕ} → FirstAllowed first second ts rows cs → FirstAllowed first second ts rows ds → cs ≡ ds
first_only {cs} {ds} x y =
    ⊎_elim
    (λ e. e)
    (λ q. absurd (⊎_elim (λ b. y.none_before cs x.allowed b) (λ b. x.none_before ds y.allowed b) q))
    (codes_ordered cs ds (x.allowed.arrangement.full ∙ sym y.allowed.arrangement.full))
