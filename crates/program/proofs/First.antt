-- The first bytes of a reader whose bytes are known.
use Rattle.std.proofs.Common.{◌≡◌, ℕ, List, [], ◌++◌, take, Option, Some, None, IfSome, ap, ◌∙◌, subst, arith}
use Rattle.std.specs.Option.{option_map}
use Rattle.std.proofs.lemmas.List.{take-take}
use Rattle.std.specs.Io.Take.{take_inner, take_limit, take_remaining}
use Rattle.std.specs.declared.io.traits.Take.{Take}

pub first_bytes : {R : Type 0} (remaining : R → Option (List ℕ)) (reader : R) (t : Take R) (before read out : List ℕ) →
    take_inner t ≡ reader → take_limit t ≡ 8192 → before ≡ [] →
    IfSome (take_remaining remaining t) (λ xs. read ≡ before ++ xs) → out ≡ take 8192 read →
    IfSome (remaining reader) (λ bytes. out ≡ take 8192 bytes)
first_bytes remaining reader t before read out inner limit none whole cut =
    subst (λ r. IfSome (remaining r) (λ bytes. out ≡ take 8192 bytes)) inner (go (remaining t.inner) whole)
  where
    go : (o : Option (List ℕ)) → IfSome (option_map (take t.limit) o) (λ xs. read ≡ before ++ xs) → IfSome o (λ bytes. out ≡ take 8192 bytes)
    go None h = tt
    go (Some bytes) h =
        cut ∙ ap (take 8192) (h ∙ (λ i. none i ++ take (limit i) bytes)) ∙ take-take 8192 8192 bytes (omega arith)
