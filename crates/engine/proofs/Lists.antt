-- What holds of each element of two lists in a row holds of each element of either.
use Rattle.std.proofs.Common.{◌+◌, List, [], ◌∷◌, ◌++◌, length, All, subst, arith}
use Rattle.std.specs.List.{flat_map}
use Rattle.std.proofs.lemmas.List.Elements.{All-nil, All-cons, All-head, All-tail, All-append}
use Rattle.std.proofs.lemmas.List.{get_or_append_left, get_or-append-add, length-append}

pub all_front : {X : Type 0} (P : X → Type 0) (xs ys : List X) → All P (xs ++ ys) → All P xs
all_front P xs ys a k d l = subst P (get_or_append_left xs ys d k l) (a k d (omega (arith, length-append xs ys)))

pub all_back : {X : Type 0} (P : X → Type 0) (xs ys : List X) → All P (xs ++ ys) → All P ys
all_back P xs ys a k d l = subst P (get_or-append-add xs ys k d) (a (length xs + k) d (omega (arith, length-append xs ys)))

-- and so of those but one
pub all_without : {X : Type 0} (P : X → Type 0) (front back : List X) (x : X) → All P (front ++ x ∷ back) → All P (front ++ back)
all_without P [] back x a = All-tail P x back a
all_without P (y ∷ front) back x a = All-cons P y (front ++ back) (All-head P y (front ++ x ∷ back) a) (all_without P front back x (All-tail P y (front ++ x ∷ back) a))

-- and so of the elements of several lists
module _ {X Y : Type 0} (P : Y → Type 0) (f : X → List Y) where
  pub all_flat_map : (xs : List X) → All (λ x. All P (f x)) xs → All P (flat_map f xs)
  all_flat_map [] a = All-nil _
  all_flat_map (x ∷ xs) a = All-append P (f x) (flat_map f xs) (All-head (λ y. All P (f y)) x xs a) (all_flat_map xs (All-tail (λ y. All P (f y)) x xs a))

  pub flat_map_all : (xs : List X) → All P (flat_map f xs) → All (λ x. All P (f x)) xs
  flat_map_all [] a = All-nil _
  flat_map_all (x ∷ xs) a = All-cons (λ y. All P (f y)) x xs (all_front P (f x) (flat_map f xs) a) (flat_map_all xs (all_back P (f x) (flat_map f xs) a))
