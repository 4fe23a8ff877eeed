-- A recount gives just the number that the names and entries lead to.
use Rattle.std.proofs.Common.{◌≡◌, ℕ, zero, suc, ◌<◌, true, List, length, Some, None, Option, ℤ, pos, sym, refl, ap, ◌∙◌, subst, arith}
use Rattle.std.proofs.lemmas.Option.{none-some, same_Some}
use Rattle.sheet.specs.declared.term.Form.{Form}
use Rattle.sheet.specs.declared.term.Form.TheVariants.{Name, One, Two}
use Rattle.sheet.specs.declared.term.Term.{Term}
use Rattle.engine.specs.Fitting.{all_terms_fit}
use Rattle.engine.specs.Meaning.{form_at}
use Rattle.congruence.specs.declared.entry.Entry.{Entry}
use Rattle.model.specs.Claims.{RecountIsExact}
use Rattle.model.specs.Recounting.{Recounted, answer_binary, answer_unary, recount}
use Rattle.model.specs.Recounting.Recounted.{binary, named, unary, zeroth}
use Rattle.model.proofs.Recounting.{recount_name, recount_one, recount_two, recount_within, recount_zero}

module _ (ts : List Term) (names : List ℤ) (es : List Entry) (fit : all_terms_fit ts ≡ true) where
  -- a number that is given is led to
  abbrev Led : ℕ → Type 0
  Led t = (n : ℤ) → recount ts names es t ≡ Some n → Recounted ts names es t n

  led_unary : (t a x : ℕ) → form_at ts t ≡ One a x → Led x
      → (o : Option ℤ) → recount ts names es x ≡ o → (n : ℤ) → answer_unary ts names es a o ≡ Some n → Recounted ts names es t n
  led_unary t a x e f None p n h = absurd (none-some n h)
  led_unary t a x e f (Some m) p n h = unary e (f m p) h

  led_binary : (t a x y : ℕ) → form_at ts t ≡ Two a x y → Led x → Led y
      → (o p : Option ℤ) → recount ts names es x ≡ o → recount ts names es y ≡ p → (n : ℤ) → answer_binary ts names es a o p ≡ Some n → Recounted ts names es t n
  led_binary t a x y e f g None p q r n h = absurd (none-some n h)
  led_binary t a x y e f g (Some m) None q r n h = absurd (none-some n h)
  led_binary t a x y e f g (Some m) (Some k) q r n h = binary e (f m q) (g k r) h

  led_to : (t : ℕ) → ((x : ℕ) → x < t → Led x) → (f : Form) → form_at ts t ≡ f → Led t
  led_to zero before Name e n h = subst (Recounted ts names es 0) (same_Some (pos 0) n (sym (recount_zero ts names es fit) ∙ h)) zeroth
  led_to (suc t) before Name e n h =
      let l : suc t < length ts = recount_within ts names es (suc t) n h in
      named (omega arith) l e (sym (recount_name ts names es (suc t) (omega arith) l e) ∙ h)
  led_to t before (One a x) e n h =
      let (l, q) = recount_one ts names es fit t a x e in
      led_unary t a x e (before x l) (recount ts names es x) refl n (sym q ∙ h)
  led_to t before (Two a x y) e n h =
      let (l, m, q) = recount_two ts names es fit t a x y e in
      led_binary t a x y e (before x l) (before y m) (recount ts names es x) (recount ts names es y) refl refl n (sym q ∙ h)

  all_led_to : (k t : ℕ) → t < k → Led t
  all_led_to zero t l = absurd (omega arith)
  all_led_to (suc k) t l = led_to t (λ x m. all_led_to k x (omega arith)) (form_at ts t) refl

  -- and one that is led to is given
  gives : {t : ℕ} {n : ℤ} → Recounted ts names es t n → recount ts names es t ≡ Some n
  gives zeroth = recount_zero ts names es fit
  gives (named {t} {n} z l e h) = recount_name ts names es t z l e ∙ h
  gives (unary {t} {a} {x} {n} {r} e p h) = (recount_one ts names es fit t a x e).1 ∙ ap (answer_unary ts names es a) (gives p) ∙ h
  gives (binary {t} {a} {x} {y} {n} {m} {r} e p q h) =
      (recount_two ts names es fit t a x y e).2 ∙ ap (λ o. answer_binary ts names es a o (recount ts names es y)) (gives p) ∙ ap (answer_binary ts names es a (Some n)) (gives q) ∙ h

pub recount_exact : RecountIsExact
recount_exact ts names es fit t n = ((λ h. all_led_to ts names es fit (suc t) t (omega arith) n h), (λ p. gives ts names es fit p))
