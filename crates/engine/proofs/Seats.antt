-- The seats of a list of terms.
use Rattle.std.proofs.Common.{◌≡◌, ℕ, zero, suc, ◌+◌, ◌<◌, ◌≤◌, true, false, cond, List, [], ◌∷◌, ◌++◌, length, get_or, drop, count_by, All, ℤ, pos, Contains, sym, refl, ap, ◌∙◌, subst, add-zero, arith}
use Rattle.std.proofs.lemmas.List.Elements.{All-nil, All-cons, All-weaker, All-get_or, All-contains}
use Rattle.std.proofs.lemmas.Grind.{get_or_after_one}
use Rattle.std.proofs.lemmas.List.Sums.{sum_by-cons}
use Rattle.std.proofs.lemmas.Bool.Decides.{nat_tests}
use Rattle.std.proofs.lemmas.Bool.{cond_both}
use Rattle.sheet.specs.declared.term.Term.{Term}
use Rattle.sheet.specs.Terms.{is_dated}
use Rattle.engine.specs.Dates.{date_at}
use Rattle.engine.specs.Terms.{is_dated_at, dated_from, seats_of}
use Rattle.engine.specs.Fitting.{all_terms_fit}

-- how many there are does not depend on where the count begins
dated_count : (k : ℕ) (ts : List Term) → length (dated_from k ts) ≡ count_by (λ (t : Term). is_dated t.kind) ts
dated_count k [] = refl
dated_count k (t ∷ ts) =
    let rest : List ℕ = dated_from (suc k) ts in
    let n : ℕ = count_by (λ (u : Term). is_dated u.kind) ts in
    let counted : length rest ≡ n = dated_count (suc k) ts in
    elim (is_dated t.kind) as (λ b. length (cond b (k ∷ rest) rest) ≡ cond b 1 0 + n) [ true ↦ omega arith | false ↦ omega arith ]
    ∙ sym (sum_by-cons (λ (u : Term). cond (is_dated u.kind) 1 0) t ts)

pub seats_counted : (ts : List Term) → count_by (λ (t : Term). is_dated t.kind) ts ≡ length (seats_of ts)
seats_counted ts = sym (dated_count 0 ts)

-- one term more
dated_push : (k : ℕ) (ts : List Term) (t : Term) → dated_from k (ts ++ t ∷ []) ≡ dated_from k ts ++ cond (is_dated t.kind) ((k + length ts) ∷ []) []
dated_push k [] t = ap (λ n. cond (is_dated t.kind) (n ∷ []) []) (sym (add-zero k))
dated_push k (u ∷ ts) t =
    let old : List ℕ = dated_from (suc k) ts in
    let new : List ℕ = dated_from (suc k) (ts ++ t ∷ []) in
    let last : List ℕ = cond (is_dated t.kind) ((k + length (u ∷ ts)) ∷ []) [] in
    let more : new ≡ old ++ last = dated_push (suc k) ts t ∙ ap (λ n. old ++ cond (is_dated t.kind) (n ∷ []) []) (omega arith) in
    elim (is_dated u.kind) as (λ b. cond b (k ∷ new) new ≡ cond b (k ∷ old) old ++ last) [ true ↦ ap (λ ss. k ∷ ss) more | false ↦ more ]

pub seats_push : (ts : List Term) (t : Term) → seats_of (ts ++ t ∷ []) ≡ seats_of ts ++ cond (is_dated t.kind) (length ts ∷ []) []
seats_push ts t = dated_push 0 ts t ∙ ap (λ n. seats_of ts ++ cond (is_dated t.kind) (n ∷ []) []) (omega arith)

-- a seat is one of the terms, a dated one
abbrev DatedFrom : ℕ → List Term → ℕ → Type 0
DatedFrom k ts s = (i : ℕ) × (i < length ts) × (s ≡ k + i) × (is_dated_at ts i ≡ true)

dated_are : (k : ℕ) (ts : List Term) → All (DatedFrom k ts) (dated_from k ts)
dated_are k [] = All-nil _
dated_are k (t ∷ ts) =
    let rest : List ℕ = dated_from (suc k) ts in
    let later : All (DatedFrom k (t ∷ ts)) rest =
    All-weaker (DatedFrom (suc k) ts) (DatedFrom k (t ∷ ts)) (λ s b. let (i, l, e, d) = b in (suc i, omega arith, omega arith, d)) rest (dated_are (suc k) ts) in
    cond_both (is_dated t.kind) (k ∷ rest) rest (All (DatedFrom k (t ∷ ts))) (λ d. All-cons (DatedFrom k (t ∷ ts)) k rest (0, omega arith, omega arith, d) later) (λ _. later)

pub seats_within : (ts : List Term) → All (λ s. s < length ts) (seats_of ts)
seats_within ts = All-weaker (DatedFrom 0 ts) (λ s. s < length ts) (λ s b. let (i, l, e, d) = b in omega arith) (seats_of ts) (dated_are 0 ts)

pub seat_is_dated : (ts : List Term) (i : ℕ) → Contains (seats_of ts) i → (i < length ts) × (is_dated_at ts i ≡ true)
seat_is_dated ts i c =
    let (j, l, e, d) = All-contains (DatedFrom 0 ts) (seats_of ts) i (dated_are 0 ts) c in
    let same : j ≡ i = omega arith in (omega arith, subst (λ k. is_dated_at ts k ≡ true) same d)

-- and each dated term has a seat
dated_has : (k : ℕ) (ts : List Term) (i : ℕ) → i < length ts → is_dated_at ts i ≡ true → Contains (dated_from k ts) (k + i)
dated_has k [] i l d = absurd (omega arith)
dated_has k (t ∷ ts) zero l d = subst (λ b. Contains (cond b (k ∷ dated_from (suc k) ts) (dated_from (suc k) ts)) (k + 0)) (sym d) (0, omega arith, sym (add-zero k))
dated_has k (t ∷ ts) (suc i) l d =
    let rest : List ℕ = dated_from (suc k) ts in
    let e : suc k + i ≡ k + suc i = omega arith in
    let later : Contains rest (k + suc i) = subst (Contains rest) e (dated_has (suc k) ts i (omega arith) d) in
    cond_both (is_dated t.kind) (k ∷ rest) rest (λ xs. Contains xs (k + suc i)) (λ _. (suc later.0, omega (arith, later.1), later.2)) (λ _. later)

pub seats_have : (ts : List Term) (i : ℕ) → i < length ts → is_dated_at ts i ≡ true → Contains (seats_of ts) i
seats_have ts i l d = let e : 0 + i ≡ i = omega arith in subst (Contains (seats_of ts)) e (dated_has 0 ts i l d)

-- zero has the first seat
pub seat_of_zero : (ts : List Term) → all_terms_fit ts ≡ true → (0 < length (seats_of ts)) × (get_or (seats_of ts) 0 0 ≡ 0)
seat_of_zero [] f = cc
seat_of_zero (t ∷ ts) f = (grind (arith, nat_tests), grind (arith, nat_tests))

-- the date at a seat is that of its term
date_in_head : (s : ℕ) (ss : List ℕ) (dates : List ℤ) → date_at (s ∷ ss) dates s ≡ get_or dates 0 (pos 0)
date_in_head s ss [] = refl
date_in_head s ss (d ∷ dates) = grind (arith, nat_tests)

date_in_tail : (s : ℕ) (ss : List ℕ) (dates : List ℤ) (i : ℕ) → s < i → date_at (s ∷ ss) dates i ≡ date_at ss (drop 1 dates) i
date_in_tail s [] [] i l = refl
date_in_tail s (r ∷ ss) [] i l = refl
date_in_tail s ss (d ∷ dates) i l = grind (arith, nat_tests)

abbrev DatesAtSeats : List ℕ → List ℤ → Type 0
DatesAtSeats ss dates = (p : ℕ) → p < length ss → date_at ss dates (get_or ss p 0) ≡ get_or dates p (pos 0)

dates_at_seats_next : (s : ℕ) (ss : List ℕ) (dates : List ℤ) → All (λ r. suc s ≤ r) ss → DatesAtSeats ss (drop 1 dates) → DatesAtSeats (s ∷ ss) dates
dates_at_seats_next s ss dates after rest zero l = date_in_head s ss dates
dates_at_seats_next s ss dates after rest (suc q) l =
    let low : q < length ss = omega arith in
    let later = All-get_or (λ r. suc s ≤ r) ss q 0 low after in
    let next : 1 + q ≡ suc q = omega arith in
    date_in_tail s ss dates (get_or ss q 0) (omega arith) ∙ rest q low ∙ get_or_after_one dates q (pos 0) ∙ ap (λ k. get_or dates k (pos 0)) next

dates_at_seats : (k : ℕ) (ts : List Term) (dates : List ℤ) → DatesAtSeats (dated_from k ts) dates
dates_at_seats k [] dates = λ p l. absurd (omega arith)
dates_at_seats k (t ∷ ts) dates =
    let rest : List ℕ = dated_from (suc k) ts in
    cond_both (is_dated t.kind) (k ∷ rest) rest (λ ss. DatesAtSeats ss dates)
    (λ _. dates_at_seats_next k rest dates (All-weaker (DatedFrom (suc k) ts) (λ s. suc k ≤ s) (λ s b. let (i, l, e, d) = b in omega arith) rest (dated_are (suc k) ts))
    (dates_at_seats (suc k) ts (drop 1 dates)))
    (λ _. dates_at_seats (suc k) ts dates)

pub date_at_seat : (ts : List Term) (dates : List ℤ) (p : ℕ) → p < length (seats_of ts) → date_at (seats_of ts) dates (get_or (seats_of ts) p 0) ≡ get_or dates p (pos 0)
date_at_seat ts dates = dates_at_seats 0 ts dates
