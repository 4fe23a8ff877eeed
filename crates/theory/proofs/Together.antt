-- Models are put together: the numbers that the table rule found are moved so that the instants have theirs, and what was apart stays apart.
use Rattle.std.proofs.Common.{◌≡◌, ℕ, ◌<◌, List, length, get_or, ℤ, pos, ◌-ℤ◌, ap, ◌∙◌, subst, arith}
use Rattle.std.proofs.lemmas.Int.{ints}
use Rattle.std.proofs.lemmas.List.{get_or_default}
use Rattle.sheet.specs.declared.row.Row.{Row}
use Rattle.sheet.specs.declared.term.Term.{Term}
use Rattle.engine.specs.Arrangements.{EqualInBlocks, ranks}
use Rattle.engine.specs.Dates.{date_at}
use Rattle.engine.specs.Meaning.{Numbers}
use Rattle.engine.specs.Rules.{TableAllowed, seat_numbers}
use Rattle.engine.specs.States.{active_rows}
use Rattle.engine.specs.Terms.{seats_of}
use Rattle.engine.proofs.Following.{order_blocks}
use Rattle.engine.proofs.Moving.{Moved, all_moved}
use Rattle.engine.proofs.Ranks.{length_ranks}
use Rattle.engine.proofs.Seats.{seat_of_zero, seats_have}
use Rattle.theory.specs.Accepted.{Accepted}
use Rattle.theory.specs.Models.{AtInstants, ModelsAreDated, ModelsArePutTogether, PutTogether, SameEqualities}
use Rattle.theory.proofs.Sufficing.{dates_at_instants, dates_in_order, dates_suffice, equalities_suffice, instants_suffice}

-- numbers counted from zero's are equal where they were
from_zero_equal : (x y z : ℤ) → x -ℤ z ≡ y -ℤ z → x ≡ y
from_zero_equal x y z e = omega (arith, ints)

blocks_from_zero : (rs : List ℕ) (x : ℕ → ℤ) (z : ℤ) → EqualInBlocks rs x → EqualInBlocks rs (λ p. x p -ℤ z)
blocks_from_zero rs x z b =
    record {
      same = λ p q lp lq e. ap (λ n. n -ℤ z) (b.same p q lp lq e);
      apart = λ p q lp lq e. b.apart p q lp lq (from_zero_equal (x p) (x q) z e);
    }

module _ (ts : List Term) (rows : List Row) (codes : List ℕ) (x : Numbers) (accepted : Accepted ts rows) (full : length codes ≡ length (seats_of ts))
    (found : TableAllowed ts rows codes) (m : Moved (length (ranks codes)) (seat_numbers ts found.numbers) (λ p. seat_numbers ts x p -ℤ x 0)) where
  abbrev numbers : Numbers
  numbers i = m.move (found.numbers i)

  at_seat : (p i : ℕ) → p < length (seats_of ts) → get_or (seats_of ts) p 0 ≡ i → numbers i ≡ x i -ℤ x 0
  at_seat p i l e = subst (λ k. numbers k ≡ x k -ℤ x 0) e (m.seat p (let n = length_ranks codes in omega arith))

  at_instants : AtInstants ts x numbers
  at_instants i l d = let (p, h, e) = seats_have ts i l d in at_seat p i h (get_or_default (seats_of ts) p 0 i h ∙ e)

  zeroth : numbers 0 ≡ pos 0
  zeroth = let (l, e) = seat_of_zero ts accepted.each_term in let s = at_seat 0 0 l e in omega (arith, ints)

  equal : SameEqualities (length ts) found.numbers numbers
  equal i j li lj = ((λ e. ap m.move e), (λ e. m.apart (found.numbers i) (found.numbers j) e))

  moved_together : PutTogether ts rows found.numbers x
  moved_together =
      record {
        numbers = numbers;
        at_instants = at_instants;
        equal = equal;
        model = equalities_suffice ts rows codes numbers accepted found zeroth equal;
        on_instants = instants_suffice ts rows x numbers accepted at_instants;
      }

pub put_together : ModelsArePutTogether
put_together ts rows codes x accepted arrangement found ordered =
    let v : ℕ → ℤ = seat_numbers ts found.numbers in
    let y : ℕ → ℤ = λ p. seat_numbers ts x p -ℤ x 0 in
    let blocks = blocks_from_zero (ranks codes) (seat_numbers ts x) (x 0) (order_blocks (ranks codes) (seat_numbers ts x) ordered) in
    moved_together ts rows codes x accepted arrangement.full found (all_moved (ranks codes) v y found.blocks blocks)

-- and so with dates
pub dated : ModelsAreDated
dated counts s dates accepted arrangement found right =
    let x : Numbers = λ i. date_at (seats_of s.terms) dates i in
    let p = put_together s.terms (active_rows s.rows) s.codes x accepted arrangement found (dates_in_order counts s dates right arrangement.full found) in
    let at = (dates_at_instants counts s dates right p.numbers accepted).1 p.at_instants in
    record { together = p; dated = at; counted = dates_suffice counts s dates p.numbers accepted right at }
