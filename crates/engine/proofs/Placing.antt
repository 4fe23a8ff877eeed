-- The seats that are placed: their ranks, and what holds of each, and of each two, by their places.
use Rattle.std.proofs.Common.{◌≡◌, ℕ, ◌<◌, ◌≤◌, List, length, get_or, take, All, sym, ap, ◌∙◌, subst, arith}
use Rattle.std.specs.List.{zip}
use Rattle.std.proofs.lemmas.List.{get_or-map, length-map, take_all}
use Rattle.std.proofs.lemmas.List.Elements.{All-from_get_or}
use Rattle.std.proofs.lemmas.Slice.Zip.{get_or-zip, length-zip}
use Rattle.sheet.specs.declared.term.Term.{Term}
use Rattle.engine.specs.declared.placed.Placed.{Placed}
use Rattle.engine.specs.Arrangements.{ranks}
use Rattle.engine.specs.EachPair.{each_pair}
use Rattle.engine.specs.Placing.{placed_at, placed_seats_of}
use Rattle.engine.specs.Terms.{seats_of}
use Rattle.engine.proofs.EachPair.{all_each_pair, each_pair_at}
use Rattle.engine.proofs.Ranks.{length_ranks}

-- no more than eight seats are placed
pub placed_ranks : (codes : List ℕ) → length codes ≤ 8 → ranks (take 8 codes) ≡ ranks codes
placed_ranks codes few = ap ranks (take_all 8 codes few)

-- the seat p with its rank
abbrev pub placed_seat : List Term → List ℕ → ℕ → Placed
placed_seat ts codes p = placed_at (get_or (seats_of ts) p 0, get_or (ranks codes) p 0)

module _ (ts : List Term) (codes : List ℕ) (seated : length codes ≤ length (seats_of ts)) where
  -- there is one for each rank
  placed_length : length (placed_seats_of ts codes) ≡ length (ranks codes)
  placed_length = length-map (zip (seats_of ts) (ranks codes)) placed_at ∙ length-zip (seats_of ts) (ranks codes) ∙ omega (arith, length_ranks codes)

  placed_by_place : (d : Placed) (p : ℕ) → p < length (ranks codes) → get_or (placed_seats_of ts codes) p d ≡ placed_seat ts codes p
  placed_by_place d p l =
      let pairs = length-zip (seats_of ts) (ranks codes) in
      let few = length_ranks codes in
      get_or-map placed_at (zip (seats_of ts) (ranks codes)) p (0, 0) d (omega arith) ∙ ap placed_at (get_or-zip (seats_of ts) (ranks codes) p (0, 0) (omega arith) l)

  pub all_placed : (P : Placed → Type 0) → ((p : ℕ) → p < length (ranks codes) → P (placed_seat ts codes p)) → All P (placed_seats_of ts codes)
  all_placed P f =
      let d = placed_seat ts codes 0 in
      All-from_get_or P (placed_seats_of ts codes) d
      (λ p l.
      let m : p < length (ranks codes) = omega (arith, placed_length) in
      subst P (sym (placed_by_place d p m)) (f p m))

  -- an earlier and a later one
  module _ (P : Placed × Placed → Type 0) where
    pub placed_pair_at : All P (each_pair (placed_seats_of ts codes)) → (p q : ℕ) → p < q → q < length (ranks codes) → P (placed_seat ts codes p, placed_seat ts codes q)
    placed_pair_at a p q b l =
        let d = placed_seat ts codes 0 in
        subst P (λ i. (placed_by_place d p (omega arith) i, placed_by_place d q l i)) (each_pair_at P (placed_seats_of ts codes) a p q d b (omega (arith, placed_length)))

    pub all_placed_pairs : ((p q : ℕ) → p < q → q < length (ranks codes) → P (placed_seat ts codes p, placed_seat ts codes q)) → All P (each_pair (placed_seats_of ts codes))
    all_placed_pairs f =
        let d = placed_seat ts codes 0 in
        all_each_pair P (placed_seats_of ts codes) d
        (λ p q b l.
        let m : q < length (ranks codes) = omega (arith, placed_length) in
        subst P (sym (λ i. (placed_by_place d p (omega arith) i, placed_by_place d q m i))) (f p q b m))
