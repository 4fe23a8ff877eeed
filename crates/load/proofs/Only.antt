-- The walk over a sheet has one end.
use Rattle.std.proofs.Common.{◌≡◌, ℕ, List, [], length, Some, None, Ok, Err, Option, Result, sym, refl, ap, ◌∙◌, subst, arith}
use Rattle.sheet.specs.declared.fault.Fault.{Fault}
use Rattle.sheet.specs.declared.refusal.Refusal.{Refusal}
use Rattle.sheet.specs.declared.row.Row.{Row}
use Rattle.sheet.specs.declared.term.Term.{Term}
use Rattle.sheet.specs.Fields.{FieldValue}
use Rattle.sheet.specs.Parsing.{parse, remaining}
use Rattle.load.specs.Loading.{Contents, FieldsTaken, LoadedAs, LoadsOnly, StopsAt, field_answer, front_answer, nothing_loaded, more, none, with_field}

-- fields are taken from c on, of which `left` is left, until d stands and `end` is left: the same walk, told from its first field on
data Leads : Contents → List ℕ → Contents → List ℕ → Type 0 where
  here : {c : Contents} {left : List ℕ} → Leads c left c left
  first : {c d : Contents} {left end : List ℕ} (f : FieldValue) → parse left ≡ Ok f → field_answer c f ≡ Ok tt → Leads (with_field c f) (remaining left) d end → Leads c left d end

then_last : {c d : Contents} {left end : List ℕ} {f : FieldValue} → Leads c left d end → parse end ≡ Ok f → field_answer d f ≡ Ok tt → Leads c left (with_field d f) (remaining end)
then_last {f = f} here read ok = first f read ok here
then_last (first g read1 ok1 w) read ok = first g read1 ok1 (then_last w read ok)

leads : {sheet : List ℕ} {d : Contents} {end : List ℕ} → FieldsTaken sheet d end → Leads nothing_loaded sheet d end
leads none = here
leads (more w read ok) = then_last (leads w) read ok

-- a walk ends where the front is refused; at the last byte too, since no bytes are no field
record Ends (c : Contents) (left : List ℕ) : Type 0 where
  fault : Fault
  refused : front_answer c (parse left) ≡ Err fault

at_last : (c : Contents) → Ends c []
at_last c = record { fault = _; refused = refl }

-- so no field is taken there
stuck : {P : Type 0} (c : Contents) (left : List ℕ) (f : FieldValue) → Ends c left → parse left ≡ Ok f → field_answer c f ≡ Ok tt → P
stuck c left f e read ok =
    let no : ◌≡◌ {A = Result (Unit {0}) Fault} (Ok tt) (Err e.fault) = sym ok ∙ sym (ap (front_answer c) read) ∙ e.refused in
    absurd (let z : ◌≡◌ {A = ℕ} 0 1 = cc no in omega arith)

one_end : {c d e : Contents} {left end other : List ℕ} → Leads c left d end → Ends d end → Leads c left e other → Ends e other → (d ≡ e) × (end ≡ other)
one_end here p here q = (refl, refl)
one_end {c} {left = left} here p (first f read ok w) q = stuck c left f p read ok
one_end {c} {left = left} (first f read ok w) p here q = stuck c left f q read ok
one_end {c} {e = e} {left = left} {other = other} (first f read ok w) p (first g read2 ok2 v) q =
    let same : g ≡ f = (let z : ◌≡◌ {A = Result FieldValue Fault} (Ok g) (Ok f) = sym read2 ∙ read in cc) in
    one_end w p (subst (λ x. Leads (with_field c x) (remaining left) e other) same v) q

module _ (sheet : List ℕ) where
  -- two walks that end are one
  same_end : (c d : Contents) (left other : List ℕ) → FieldsTaken sheet c left → Ends c left → FieldsTaken sheet d other → Ends d other → (c ≡ d) × (left ≡ other)
  same_end c d left other w p v q = one_end (leads w) p (leads v) q

  at_refusal : {e : Refusal} (s : StopsAt sheet e) → Ends s.taken s.left
  at_refusal {e} s = record { fault = e.fault; refused = s.refused }

  -- a walk that stops has bytes left, and the whole sheet has none
  not_both : {P : Type 0} (e : Refusal) (c : Contents) → FieldsTaken sheet c [] → StopsAt sheet e → P
  not_both e c w s =
      let none_left : [] ≡ s.left = (same_end c s.taken [] s.left w (at_last c) s.walk (at_refusal s)).1 in
      let some = s.more_left in
      let n : 0 ≡ length s.left = ap length none_left in
      absurd (omega arith)

  same_refusal : (e f : Refusal) → StopsAt sheet e → StopsAt sheet f → f ≡ e
  same_refusal e f s t =
      let same = same_end s.taken t.taken s.left t.left s.walk (at_refusal s) t.walk (at_refusal t) in
      let n : length s.left ≡ length t.left = ap length same.1 in
      let by_place = s.placed in
      let by_place_too = t.placed in
      let place : f.place ≡ e.place = omega arith in
      let faults : ◌≡◌ {A = Result (Unit {0}) Fault} (Err f.fault) (Err e.fault) = sym t.refused ∙ (λ i. front_answer (sym same.0 i) (parse (sym same.1 i))) ∙ s.refused in
      let fault : f.fault ≡ e.fault = cc in
      λ i. record { fault = fault i; place = place i }

pub loads_only : (sheet : List ℕ) (e : Option Refusal) (ts : List Term) (rows : List Row) → LoadedAs sheet e ts rows → LoadsOnly sheet e ts rows
loads_only sheet None ts rows w None us others v =
    let same = (same_end sheet _ _ [] [] v (at_last _) w (at_last _)).0 in
    (refl, ap (λ (c : Contents). c.terms) same, ap (λ (c : Contents). c.rows) same)
loads_only sheet None ts rows w (Some f) us others v = not_both sheet f _ w v.0
loads_only sheet (Some e) ts rows w None us others v = not_both sheet e _ v w.0
loads_only sheet (Some e) ts rows w (Some f) us others v = (ap Some (same_refusal sheet e f w.0 v.0), v.1 ∙ sym w.1, v.2 ∙ sym w.2)
