-- Codes whose blocks are the classes of equal numbers begin an arrangement whose blocks are: the number of each seat is moved to the rank of
-- its block, and the numbers are then in order.
use Rattle.std.proofs.Common.{◌≡◌, ℕ, ◌≤◌, true, List, ◌++◌, length, get_or, ℤ, pos, ap, arith}
use Rattle.std.proofs.lemmas.Int.{ints}
use Rattle.engine.specs.Arrangements.{is_valid, Arrangement, ranks, InOrder, EqualInBlocks}
use Rattle.engine.proofs.Following.{order_blocks, front_extended}
use Rattle.engine.proofs.Moving.{Moved, all_moved}

abbrev rank_number : List ℕ → ℕ → ℤ
rank_number rs p = pos (get_or rs p 0)

moved_to_ranks : (rs : List ℕ) (x : ℕ → ℤ) → EqualInBlocks rs x → Moved (length rs) x (rank_number rs)
moved_to_ranks rs x o = all_moved rs x (rank_number rs) o (record { same = λ p q lp lq e. ap pos e; apart = λ p q lp lq e. omega (arith, ints) })

in_order_moved : (rs : List ℕ) (x : ℕ → ℤ) (o : EqualInBlocks rs x) (m : Moved (length rs) x (rank_number rs)) → InOrder rs (λ p. m.move (x p))
in_order_moved rs x o m =
    record {
      same = λ p q lp lq e. ap m.move (o.same p q lp lq e);
      less = λ p q lp lq e. let i = m.seat p lp in let j = m.seat q lq in omega (arith, ints);
    }

-- valid codes whose blocks are the classes of equal numbers begin an arrangement of n seats whose blocks are
pub blocks_extended : (n : ℕ) (front : List ℕ) (x : ℕ → ℤ) → length front ≤ n → is_valid 0 front ≡ true → EqualInBlocks (ranks front) x
    → (rest : List ℕ) × Arrangement n (front ++ rest) × EqualInBlocks (ranks (front ++ rest)) x
blocks_extended n front x l v o =
    let m = moved_to_ranks (ranks front) x o in
    let y : ℕ → ℤ = λ p. m.move (x p) in
    let r = front_extended n front y l v (in_order_moved (ranks front) x o m) in
    let s = order_blocks (ranks (front ++ r.0)) y r.2 in (
      r.0,
      r.1,
      record { same = λ p q lp lq e. m.apart (x p) (x q) (s.same p q lp lq e); apart = λ p q lp lq e. s.apart p q lp lq (ap m.move e) },
    )
