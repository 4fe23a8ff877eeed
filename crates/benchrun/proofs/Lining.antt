-- The lines of one seat more.
use Rattle.std.proofs.Common.{◌≡◌, ℕ, ◌+◌, ◌<◌, List, [], ◌∷◌, ◌++◌, codes, get_or, length, take, sym, ap, ◌∙◌, arith}
use Rattle.std.specs.List.{enumerate_from, flat_map}
use Rattle.std.proofs.lemmas.List.{flat_map_more, length-take, take_more}
use Rattle.benchrun.specs.Lines.{code_line, setup_lines}

enumerate_push : (n : ℕ) (xs : List ℕ) (x : ℕ) → enumerate_from n (xs ++ x ∷ []) ≡ enumerate_from n xs ++ (n + length xs, x) ∷ []
enumerate_push n [] x = ap (λ k. (k, x) ∷ []) (omega arith)
enumerate_push n (y ∷ xs) x =
    let place : n + 1 + length xs ≡ n + length (y ∷ xs) = omega arith in
    ap (λ r. (n, y) ∷ r) (enumerate_push (n + 1) xs x ∙ ap (λ k. enumerate_from (n + 1) xs ++ (k, x) ∷ []) place)

pub setup_lines_more : (cs : List ℕ) (i : ℕ) → i < length cs → setup_lines (take (i + 1) cs) ≡ setup_lines (take i cs) ++ (10 ∷ code_line (i, get_or cs i 0))
setup_lines_more cs i h =
    let long = length-take i cs in
    let place : 0 + length (take i cs) ≡ i = omega arith in
    let seats : enumerate_from 0 (take (i + 1) cs) ≡ enumerate_from 0 (take i cs) ++ (i, get_or cs i 0) ∷ [] =
    ap (enumerate_from 0) (take_more cs i 0 h) ∙ enumerate_push 0 (take i cs) (get_or cs i 0) ∙ ap (λ k. enumerate_from 0 (take i cs) ++ (k, get_or cs i 0) ∷ []) place in
    ap (λ s. codes "setup" ++ flat_map (λ seat. 10 ∷ code_line seat) s) seats
    ∙ sym (flat_map_more (λ seat. 10 ∷ code_line seat) (codes "setup") (enumerate_from 0 (take i cs)) (i, get_or cs i 0))
