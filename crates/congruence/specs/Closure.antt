-- Congruence closure: two applications of one table are put into one class where their arguments are in one, round after round.
use Rattle.std.specs.Prelude.{ℕ, zero, suc, Bool, false, if◌then◌else◌, ◌&&◌, List, length, ◌==◌}
use Rattle.std.specs.Fn.{iterate}
use Rattle.sheet.specs.declared.term.Form.{Form}
use Rattle.sheet.specs.declared.term.Form.TheVariants.{Name, One, Two}
use Rattle.sheet.specs.declared.term.Term.{Term}
use Rattle.engine.specs.Meaning.{form_at}
use Rattle.congruence.specs.Classes.{class_of, singletons, merge, merge_all}

abbrev pub in_one_class : List ℕ → ℕ → ℕ → Bool
in_one_class cl a b = class_of cl a == class_of cl b

-- applications of one table whose arguments are in one class each
abbrev pub is_congruent : List ℕ → Form → Form → Bool
is_congruent cl Name g = false
is_congruent cl (One a x) Name = false
is_congruent cl (One a x) (One b y) = a == b && in_one_class cl x y
is_congruent cl (One a x) (Two b y z) = false
is_congruent cl (Two a x y) Name = false
is_congruent cl (Two a x y) (One b z) = false
is_congruent cl (Two a x y) (Two b z w) = a == b && (in_one_class cl x z && in_one_class cl y w)

-- terms i and j
abbrev pub close_pair : List Term → ℕ → ℕ → List ℕ → List ℕ
close_pair ts i j cl = if is_congruent cl (form_at ts i) (form_at ts j) then merge i j cl else cl

-- term i with each of the first j terms
abbrev pub close_term : List Term → ℕ → ℕ → List ℕ → List ℕ
close_term ts i zero cl = cl
close_term ts i (suc j) cl = close_pair ts i j (close_term ts i j cl)

-- each of the first n terms with each before it
abbrev pub close_terms : List Term → ℕ → List ℕ → List ℕ
close_terms ts zero cl = cl
close_terms ts (suc i) cl = close_term ts i i (close_terms ts i cl)

-- a round over all terms
abbrev pub close_round : List Term → List ℕ → List ℕ
close_round ts cl = close_terms ts (length ts) cl

abbrev pub close_rounds : List Term → ℕ → List ℕ → List ℕ
close_rounds ts k cl = iterate (close_round ts) k cl

-- the classes of `size` terms, of which ts are the first, once the terms of each pair are put into one class. As many rounds as there are terms
-- suffice: each round but the last leaves fewer classes
abbrev pub closure : ℕ → List Term → List (ℕ × ℕ) → List ℕ
closure size ts pairs = close_rounds ts (length ts) (merge_all pairs (singletons size))
