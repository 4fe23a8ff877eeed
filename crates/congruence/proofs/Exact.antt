-- Closure is exact: terms of one class are equal in every choice of numbers and tables, and the classes themselves are such a choice.
use Rattle.std.proofs.Common.{◌≡◌, ℕ, ◌<◌, ◌≤◌, true, List, length, pos, All, sym, refl, ap, ◌∙◌, inl, inr, arith}
use Rattle.std.proofs.lemmas.Bool.{cases_order}
use Rattle.std.proofs.lemmas.Bool.Decides.{nat_tests}
use Rattle.std.proofs.lemmas.List.Elements.{All-weaker}
use Rattle.std.proofs.lemmas.List.FromFn.{length-range_with_len}
use Rattle.sheet.specs.declared.term.Form.{Form}
use Rattle.sheet.specs.declared.term.Form.TheVariants.{Name, One, Two}
use Rattle.sheet.specs.declared.term.Term.{Term}
use Rattle.engine.specs.Terms.{zero_term, arguments_below}
use Rattle.engine.specs.Meaning.{Numbers, Tables, Interprets, form_at}
use Rattle.congruence.specs.Congruence.{Congruent}
use Rattle.congruence.specs.Entries.{tables_of, entries_of}
use Rattle.congruence.specs.Classes.{class_of, singletons, merge, merge_all, class_numbers}
use Rattle.congruence.specs.Closure.{is_congruent, closure}
use Rattle.congruence.specs.Claims.{Equal, EqualBy, ArgumentsBelow, PairsBelow, ClosureIsExact}
use Rattle.congruence.proofs.Arguments.{application_within}
use Rattle.congruence.proofs.Interpreting.{congruence_suffices, congruence_is_needed}
use Rattle.congruence.proofs.Merging.{NamedByLeast, Sound, sound_equal, merge_keeps, merge_sound, merge_all_joins, merge_all_length, merge_all_named, merge_all_sound, singletons_named, singletons_sound}
use Rattle.congruence.proofs.Closing.{Closed, rounds_keep, rounds_length, rounds_named, rounds_suffice}

-- congruent applications have one number, where the terms of each class have
congruent_equal : (n : ℕ) (ts : List Term) (v : Numbers) (cl : List ℕ) (i j : ℕ) → Congruent ts v → Sound n v cl → (f g : Form) → form_at ts i ≡ f → form_at ts j ≡ g
    → arguments_below n f ≡ true → arguments_below n g ≡ true → is_congruent cl f g ≡ true → v i ≡ v j
congruent_equal n ts v cl i j c s (One a x) (One b y) p q k l h = grind (arith, nat_tests, c.unary i j a x y p, sound_equal n v cl s x y)
congruent_equal n ts v cl i j c s (Two a x y) (Two b z w) p q k l h = grind (arith, nat_tests, c.binary i j a x y z w p, sound_equal n v cl s x z, sound_equal n v cl s y w)
congruent_equal n ts v cl i j c s f g p q k l h = cc

-- in each interpretation that makes the terms of each pair equal, each term has the number of the term that names its class
pub closure_keeps_numbers : (n : ℕ) (ts : List Term) (pairs : List (ℕ × ℕ)) → length ts ≤ n → ArgumentsBelow n ts → PairsBelow n pairs
    → (m : Tables) (v : Numbers) → Interprets m ts v → All (Equal v) pairs → Sound n v (closure n ts pairs)
closure_keeps_numbers n ts pairs l arguments within m v i e =
    rounds_keep ts (Sound n v)
    (λ j k cl lj lk h s. merge_sound n v j k cl (omega arith) (omega arith)
    (congruent_equal n ts v cl j k (congruence_is_needed ts m v i).1 s (form_at ts j) (form_at ts k) refl refl (arguments j zero_term lj) (arguments k zero_term lk) h) s)
    (length ts) (merge_all pairs (singletons n))
    (merge_all_sound n v pairs (singletons n) within e (singletons_sound n v))

-- so terms of one class are equal
pub closure_sound : (n : ℕ) (ts : List Term) (pairs : List (ℕ × ℕ)) → length ts ≤ n → ArgumentsBelow n ts → PairsBelow n pairs
    → (a b : ℕ) → a < n → b < n → class_of (closure n ts pairs) a ≡ class_of (closure n ts pairs) b → EqualBy ts pairs a b
closure_sound n ts pairs l arguments within a b la lb e m v i q =
    sound_equal n v (closure n ts pairs) (closure_keeps_numbers n ts pairs l arguments within m v i q) a b la lb e

unary_congruent : (cl : List ℕ) (a x y : ℕ) → class_of cl x ≡ class_of cl y → is_congruent cl (One a x) (One a y) ≡ true
unary_congruent cl a x y e = grind (arith, nat_tests)

binary_congruent : (cl : List ℕ) (a x y z w : ℕ) → class_of cl x ≡ class_of cl z → class_of cl y ≡ class_of cl w → is_congruent cl (Two a x y) (Two a z w) ≡ true
binary_congruent cl a x y z w d e = grind (arith, nat_tests)

module _ (ts : List Term) (cl : List ℕ) (closed : Closed ts (length ts) cl) where
  closed_joins : (i j : ℕ) (f g : Form) → form_at ts i ≡ f → form_at ts j ≡ g → (f ≡ Name → ⊥) → (g ≡ Name → ⊥) → is_congruent cl f g ≡ true → is_congruent cl g f ≡ true → class_of cl i ≡ class_of cl j
  closed_joins i j f g p q m n h k =
      let li : i < length ts = application_within ts i (λ e. m (sym p ∙ e)) in
      let lj : j < length ts = application_within ts j (λ e. n (sym q ∙ e)) in
      elim (cases_order i j) [
        | inl e ↦ ap (class_of cl) e
        | inr o ↦ elim o [ inl l ↦ sym (closed j lj i l (rw (p, q) k)) | inr l ↦ closed i li j l (rw (p, q) h) ]
      ]

  -- the numbers of closed classes respect congruence
  closed_congruent : Congruent ts (class_numbers cl)
  closed_congruent =
      record {
        unary = λ i j a x y p q e.
            let d : class_of cl x ≡ class_of cl y = cc in
            ap pos (closed_joins i j (One a x) (One a y) p q (λ n. cc) (λ n. cc) (unary_congruent cl a x y d) (unary_congruent cl a y x (sym d)));
        binary = λ i j a x y z w p q e f.
            let c : class_of cl x ≡ class_of cl z = cc in
            let d : class_of cl y ≡ class_of cl w = cc in
            ap pos (closed_joins i j (Two a x y) (Two a z w) p q (λ n. cc) (λ n. cc) (binary_congruent cl a x y z w c d) (binary_congruent cl a z w x y (sym c) (sym d)));
      }

-- the numbers of the classes are a choice that interprets the terms and makes the terms of each pair equal
pub record ClassModel (ts : List Term) (pairs : List (ℕ × ℕ)) (cl : List ℕ) : Type 0 where
  pub zeroth : class_numbers cl 0 ≡ pos 0
  pub congruent : Congruent ts (class_numbers cl)
  pub interprets : Interprets (tables_of (entries_of ts (class_numbers cl))) ts (class_numbers cl)
  pub equal : All (Equal (class_numbers cl)) pairs

module _ (n : ℕ) (ts : List Term) (pairs : List (ℕ × ℕ)) where
  merged_named : NamedByLeast (merge_all pairs (singletons n))
  merged_named = merge_all_named pairs (singletons n) (singletons_named n)

  pub closure_named : NamedByLeast (closure n ts pairs)
  closure_named = rounds_named ts (length ts) (merge_all pairs (singletons n)) merged_named

  pub closure_length : length (closure n ts pairs) ≡ n
  closure_length = rounds_length ts (length ts) (merge_all pairs (singletons n)) ∙ merge_all_length pairs (singletons n) ∙ length-range_with_len 0 n

  pub closure_model : ClassModel ts pairs (closure n ts pairs)
  closure_model =
      let v : Numbers = class_numbers (closure n ts pairs) in
      let z : v 0 ≡ pos 0 = ap pos (omega (arith, closure_named.least 0)) in
      let c : Congruent ts v = closed_congruent ts (closure n ts pairs) (rounds_suffice ts (merge_all pairs (singletons n)) merged_named) in
      let s = congruence_suffices ts v z c in
      record { zeroth = z; congruent = c; interprets = s.first_fit (entries_of ts v) s.entries; equal = equal }
    where
      equal : All (Equal (class_numbers (closure n ts pairs))) pairs
      equal =
          rounds_keep ts (λ cl. All (Equal (class_numbers cl)) pairs)
          (λ i j cl li lj h. All-weaker (Equal (class_numbers cl)) (Equal (class_numbers (merge i j cl))) (λ p e. ap pos (merge_keeps i j cl p.0 p.1 cc)) pairs)
          (length ts) (merge_all pairs (singletons n)) (merge_all_joins pairs (singletons n))

pub closure_is_exact : ClosureIsExact
closure_is_exact n ts pairs l arguments within =
    let cl : List ℕ = closure n ts pairs in
    let model = closure_model n ts pairs in
    record {
      each = closure_length n ts pairs;
      least = λ t lt. let named = closure_named n ts pairs in (named.least t, named.own t);
      equal = closure_sound n ts pairs l arguments within;
      whole = λ a b la lb e. let q = e (tables_of (entries_of ts (class_numbers cl))) (class_numbers cl) model.interprets model.equal in cc;
      interprets = model.interprets;
      chosen = model.equal;
    }
