-- The line of one field more.
use Rattle.std.proofs.Common.{◌≡◌, ℕ, ◌+◌, ◌-◌, Bool, cond, List, [], ◌∷◌, ◌++◌, length, Ok, sym, ap, ◌∙◌, subst}
use Rattle.sheet.specs.Fields.{FieldValue}
use Rattle.sheet.specs.Parsing.{parse, remaining}
use Rattle.fieldlist.specs.Lines.{field_line}
use Rattle.fieldlist.specs.Listing.{Lines, is_term, more}

-- b says whether the field is a term, and the counts, the index and the text follow
pub lines_more : (s t u text longer line : List ℕ) (terms rows terms' rows' index : ℕ) (f : FieldValue) (b : Bool) → Lines s terms rows text t → parse t ≡ Ok f → u ≡ remaining t → b ≡ is_term f → terms' ≡ terms + cond b 1 0 → rows' ≡ rows + cond b 0 1 → index ≡ cond b (terms + 1) rows → line ≡ field_line (length s - length t) index f ++ (10 ∷ []) → longer ≡ text ++ line → Lines s terms' rows' longer u
lines_more s t u text longer line terms rows terms' rows' index f b before read rest kind count_terms count_rows counted written joined =
    let e_terms : terms + cond (is_term f) 1 0 ≡ terms' = sym (count_terms ∙ ap (λ x. terms + cond x 1 0) kind) in
    let e_rows : rows + cond (is_term f) 0 1 ≡ rows' = sym (count_rows ∙ ap (λ x. rows + cond x 0 1) kind) in
    let e_index : cond (is_term f) (terms + 1) rows ≡ index = sym (counted ∙ ap (λ x. cond x (terms + 1) rows) kind) in
    let e_text : text ++ (field_line (length s - length t) (cond (is_term f) (terms + 1) rows) f ++ (10 ∷ [])) ≡ longer =
    ap (λ n. text ++ (field_line (length s - length t) n f ++ (10 ∷ []))) e_index ∙ ap (λ x. text ++ x) (sym written) ∙ sym joined in
    subst (λ x. Lines s terms' rows' longer x) (sym rest)
    (subst (λ x. Lines s terms' rows' x (remaining t)) e_text
    (subst (λ x. Lines s terms' x (text ++ (field_line (length s - length t) (cond (is_term f) (terms + 1) rows) f ++ (10 ∷ []))) (remaining t)) e_rows
    (subst (λ x. Lines s x (rows + cond (is_term f) 0 1) (text ++ (field_line (length s - length t) (cond (is_term f) (terms + 1) rows) f ++ (10 ∷ []))) (remaining t)) e_terms
    (more before read))))
