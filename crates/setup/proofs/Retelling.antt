-- What the answer to a recount tells.
use Rattle.std.proofs.Common.{◌≡◌, ◌∙◌, sym, subst, ℕ, true, List, Some, None, Option, Result, ℤ}
use Rattle.std.specs.Option.{ok_or}
use Rattle.std.proofs.lemmas.Option.{none-some}
use Rattle.std.specs.Result.{MatchResult}
use Rattle.sheet.specs.declared.fault.Cause.TheVariants.{NotInResult}
use Rattle.sheet.specs.declared.fault.Fault.{Fault}
use Rattle.sheet.specs.declared.term.Term.{Term}
use Rattle.sheet.specs.Causes.{in_layer}
use Rattle.engine.specs.Fitting.{all_terms_fit}
use Rattle.congruence.specs.declared.entry.Entry.{Entry}
use Rattle.model.specs.Recounting.{Recounted, recount}
use Rattle.model.proofs.Exact.{recount_exact}

module _ (ts : List Term) (names : List ℤ) (es : List Entry) (fit : all_terms_fit ts ≡ true) (t : ℕ) where
  -- a number where names and entries lead to it, and no number where they lead to none
  abbrev pub Tells : Result ℤ Fault → Type 0
  Tells answer = MatchResult answer (λ n. Recounted ts names es t n) (λ fault. (n : ℤ) → Recounted ts names es t n → ⊥)

  told : (letter : ℕ) (o : Option ℤ) → o ≡ recount ts names es t → Tells (in_layer letter (ok_or o NotInResult))
  told letter (Some n) e = (recount_exact ts names es fit t n).0 (sym e)
  told letter None e = λ n r. let s : None ≡ Some n = e ∙ (recount_exact ts names es fit t n).1 r in absurd (none-some n s)

  pub recount_told : (letter : ℕ) (o : Option ℤ) (answer : Result ℤ Fault) → o ≡ recount ts names es t → answer ≡ in_layer letter (ok_or o NotInResult) → Tells answer
  recount_told letter o answer e a = subst Tells (sym a) (told letter o e)
