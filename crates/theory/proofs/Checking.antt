-- To check numbers and tables on a given sheet.
use Rattle.std.specs.List.{AllByRecursion, AllZip, range_with_len}
use Rattle.std.proofs.Common.{◌≡◌, ℕ, zero, suc, ◌<◌, List, [], ◌∷◌, get_or, ℤ, pos, ◌+ℤ◌, ◌<ℤ◌, ◌∙◌, subst, zero-add, arith}
use Rattle.std.proofs.lemmas.List.Elements.{All-from_recursion, AllZip-get_or, length_all_zip}
use Rattle.std.proofs.lemmas.List.FromFn.{get_or-range_with_len, length-range_with_len}
use Rattle.sheet.specs.declared.term.Form.{Form}
use Rattle.sheet.specs.declared.term.Form.TheVariants.{Name, One, Two}
use Rattle.sheet.specs.declared.term.Term.{Term}
use Rattle.engine.specs.Arrangements.{InOrder}
use Rattle.engine.specs.Meaning.{Interprets, Numbers, Tables, form_at}
use Rattle.engine.specs.Rules.{seat_numbers}
use Rattle.engine.specs.Terms.{seats_of}
use Rattle.engine.proofs.Following.{in_order_by, ranks_in_order}

-- what the tables ask of the number n of a term of this form, where v has the numbers of its arguments
abbrev pub Answered : Tables → Numbers → ℤ → Form → Type 0
Answered m v n Name = Unit {0}
Answered m v n (One a x) = n ≡ m.unary a (v x)
Answered m v n (Two a x y) = n ≡ m.binary a (v x) (v y)

-- and of all terms, whose own numbers are w
abbrev pub AllAnswered : Tables → Numbers → Numbers → List Term → Type 0
AllAnswered m v w [] = Unit {0}
AllAnswered m v w (t ∷ ts) = Answered m v (w 0) t.form × AllAnswered m v (λ i. w (suc i)) ts

answered_at : (m : Tables) (v w : Numbers) (ts : List Term) → AllAnswered m v w ts → (i : ℕ) → Answered m v (w i) (form_at ts i)
answered_at m v w [] h i = tt
answered_at m v w (t ∷ ts) h zero = h.0
answered_at m v w (t ∷ ts) h (suc i) = answered_at m v (λ j. w (suc j)) ts h.1 i

pub interpreted : (m : Tables) (v : Numbers) (ts : List Term) → v 0 ≡ pos 0 → AllAnswered m v v ts → Interprets m ts v
interpreted m v ts z h =
    record {
      zeroth = z;
      unary = λ i a x f. subst (Answered m v (v i)) f (answered_at m v v ts h i);
      binary = λ i a x y f. subst (Answered m v (v i)) f (answered_at m v v ts h i);
    }

-- each table answers by 10 more than its argument, so that levels can be apart from instants
abbrev pub adding_10 : Tables
adding_10 = record { unary = λ a n. n +ℤ pos 10; binary = λ a n m. n +ℤ pos 10 }

-- numbers that grow with the ranks are in order
pub in_order : (f : ℕ → ℤ) → ((r s : ℕ) → r < s → f r <ℤ f s) → (ts : List Term) (rs : List ℕ) (v : Numbers)
    → AllZip (λ i r. v i ≡ f r) (seats_of ts) rs → InOrder rs (seat_numbers ts v)
in_order f grows ts rs v h =
    let n = length_all_zip (λ i r. v i ≡ f r) (seats_of ts) rs h in
    in_order_by rs (seat_numbers ts v) (λ p. f (get_or rs p 0)) (λ p l. AllZip-get_or (λ i r. v i ≡ f r) (seats_of ts) rs p 0 0 h (omega arith))
    (ranks_in_order rs f grows)

-- what holds of each number below one that is given computes
pub each_below : (P : ℕ → Type 0) (n : ℕ) → AllByRecursion P (range_with_len 0 n) → (i : ℕ) → i < n → P i
each_below P n h i l =
    let all = All-from_recursion P (range_with_len 0 n) h in
    subst P (get_or-range_with_len 0 n i 0 l ∙ zero-add i) (all i 0 (omega (arith, length-range_with_len 0 n)))
