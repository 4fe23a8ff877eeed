-- What one line more adds to a record, and one answer more.
use Rattle.std.proofs.Common.{◌≡◌, ℕ, ◌+◌, Bool, true, false, cond, List, [], ◌∷◌, ◌++◌, length, drop, map, take, Option, sym, refl, ap, ◌∙◌, arith, inl, inr}
use Rattle.std.proofs.Math.Nat.{add_assoc}
use Rattle.std.proofs.lemmas.Bool.{cases_Bool}
use Rattle.std.proofs.lemmas.List.{append-nil, append_assoc, length-map, map-append}
use Rattle.runs.specs.Events.{Answer, Event, told}
use Rattle.benchrun.specs.declared.command.Command.{Command}
use Rattle.runs.specs.declared.heard.Heard.{Heard}
use Rattle.runs.specs.Heard.{answer_heard, answers_heard}
use Rattle.benchrun.specs.Sessions.{asked_by, count_performed, is_judge, is_performed, replay, shown_after}

-- the record of one line that is not answered yet
abbrev pub asked_at : Bool → Option Command → List Event
asked_at shown l = cond (is_performed shown l) (asked_by l) []

abbrev Line : Type 0
Line = Option Command

-- one line is counted or not
abbrev pub count_at : Bool → Line → ℕ
count_at shown l = cond (is_performed shown l) 1 0

-- whether a result is shown behind one line more, and how many lines are performed then
pub shown_more : (shown : Bool) (ls : List Line) (l : Line) → shown_after shown (ls ++ l ∷ []) ≡ cond (is_performed (shown_after shown ls) l) (is_judge l) (shown_after shown ls)
shown_more shown [] l = refl
shown_more shown (m ∷ ls) l = shown_more (cond (is_performed shown m) (is_judge m) shown) ls l

-- what is said of a performed line, and of another, is said of a line
by_line : (P : Bool → List Line → Type 0) → ((shown : Bool) → P shown [])
    → ((shown : Bool) (m : Line) (ls : List Line) → is_performed shown m ≡ true → P (is_judge m) ls → P shown (m ∷ ls))
    → ((shown : Bool) (m : Line) (ls : List Line) → is_performed shown m ≡ false → P shown ls → P shown (m ∷ ls))
    → (shown : Bool) (ls : List Line) → P shown ls
by_line P none performed other shown [] = none shown
by_line P none performed other shown (m ∷ ls) = elim (cases_Bool (is_performed shown m)) [
  | inl e ↦ performed shown m ls e (by_line P none performed other (is_judge m) ls)
  | inr e ↦ other shown m ls e (by_line P none performed other shown ls)
]

-- the first line is performed, or it is not
module _ (shown : Bool) (m : Line) (ls : List Line) where
  performed_first : (e : is_performed shown m ≡ true) (bs : List Answer) → replay shown (m ∷ ls) bs ≡ asked_by m ++ (map told (take 1 bs) ++ replay (is_judge m) ls (drop 1 bs))
  performed_first e bs = ap (λ b. cond b (asked_by m ++ (map told (take 1 bs) ++ replay (is_judge m) ls (drop 1 bs))) (replay shown ls bs)) e

  passed_first : (e : is_performed shown m ≡ false) (bs : List Answer) → replay shown (m ∷ ls) bs ≡ replay shown ls bs
  passed_first e bs = ap (λ b. cond b (asked_by m ++ (map told (take 1 bs) ++ replay (is_judge m) ls (drop 1 bs))) (replay shown ls bs)) e

  counted_first : is_performed shown m ≡ true → count_performed shown (m ∷ ls) ≡ 1 + count_performed (is_judge m) ls
  counted_first e = ap (λ b. cond b (1 + count_performed (is_judge m) ls) (count_performed shown ls)) e

  skipped_first : is_performed shown m ≡ false → count_performed shown (m ∷ ls) ≡ count_performed shown ls
  skipped_first e = ap (λ b. cond b (1 + count_performed (is_judge m) ls) (count_performed shown ls)) e

  shown_performed : is_performed shown m ≡ true → shown_after shown (m ∷ ls) ≡ shown_after (is_judge m) ls
  shown_performed e = ap (λ b. shown_after (cond b (is_judge m) shown) ls) e

  shown_skipped : is_performed shown m ≡ false → shown_after shown (m ∷ ls) ≡ shown_after shown ls
  shown_skipped e = ap (λ b. shown_after (cond b (is_judge m) shown) ls) e

pub count_more : (l : Line) (shown : Bool) (ls : List Line) → count_performed shown (ls ++ l ∷ []) ≡ count_performed shown ls + count_at (shown_after shown ls) l
count_more l = by_line (λ shown ls. count_performed shown (ls ++ l ∷ []) ≡ count_performed shown ls + count_at (shown_after shown ls) l)
    (λ shown. omega arith)
    (λ shown m ls e ih.
    let more = counted_first shown m (ls ++ l ∷ []) e in
    let here = counted_first shown m ls e in
    let stage : count_at (shown_after shown (m ∷ ls)) l ≡ count_at (shown_after (is_judge m) ls) l = ap (λ s. count_at s l) (shown_performed shown m ls e) in
    more ∙ ap (λ n. 1 + n) ih
    ∙ sym (ap (λ n. n + count_at (shown_after shown (m ∷ ls)) l) here ∙ ap (λ n. 1 + count_performed (is_judge m) ls + n) stage ∙ add_assoc 1 (count_performed (is_judge m) ls) (count_at (shown_after (is_judge m) ls) l)))
    (λ shown m ls e ih.
    let more = skipped_first shown m (ls ++ l ∷ []) e in
    let here = skipped_first shown m ls e in
    let stage : count_at (shown_after shown (m ∷ ls)) l ≡ count_at (shown_after shown ls) l = ap (λ s. count_at s l) (shown_skipped shown m ls e) in
    more ∙ ih ∙ sym (ap (λ n. n + count_at (shown_after shown (m ∷ ls)) l) here ∙ ap (λ n. count_performed shown ls + n) stage))

-- all answers are used up: the line is asked, where it is performed
module _ (l : Line) where
  abbrev Asked : Bool → List Line → Type 0
  Asked shown ls = (bs : List Answer) → length bs ≡ count_performed shown ls → replay shown (ls ++ l ∷ []) bs ≡ replay shown ls bs ++ asked_at (shown_after shown ls) l

  asked_none : (shown : Bool) → Asked shown []
  asked_none shown [] used = elim (cases_Bool (is_performed shown l)) [
    | inl e ↦ performed_first shown l [] e [] ∙ append-nil (asked_by l) ∙ sym (ap (λ b. cond b (asked_by l) []) e)
    | inr e ↦ passed_first shown l [] e [] ∙ sym (ap (λ b. cond b (asked_by l) []) e)
  ]
  asked_none shown (b ∷ bs) used = absurd (omega arith)

  asked_performed : (shown : Bool) (m : Line) (ls : List Line) → is_performed shown m ≡ true → Asked (is_judge m) ls → Asked shown (m ∷ ls)
  asked_performed shown m ls e ih [] used = let here = counted_first shown m ls e in absurd (omega arith)
  asked_performed shown m ls e ih (b ∷ bs) used =
      let here = counted_first shown m ls e in
      performed_first shown m (ls ++ l ∷ []) e (b ∷ bs)
      ∙ ap (λ r. asked_by m ++ (told b ∷ r)) (ih bs (omega arith) ∙ ap (λ s. replay (is_judge m) ls bs ++ asked_at s l) (sym (shown_performed shown m ls e)))
      ∙ sym (append_assoc (asked_by m) (told b ∷ replay (is_judge m) ls bs) (asked_at (shown_after shown (m ∷ ls)) l))
      ∙ ap (λ r. r ++ asked_at (shown_after shown (m ∷ ls)) l) (sym (performed_first shown m ls e (b ∷ bs)))

  asked_passed : (shown : Bool) (m : Line) (ls : List Line) → is_performed shown m ≡ false → Asked shown ls → Asked shown (m ∷ ls)
  asked_passed shown m ls e ih bs used =
      passed_first shown m (ls ++ l ∷ []) e bs
      ∙ ih bs (used ∙ skipped_first shown m ls e)
      ∙ ap (λ s. replay shown ls bs ++ asked_at s l) (sym (shown_skipped shown m ls e))
      ∙ ap (λ r. r ++ asked_at (shown_after shown (m ∷ ls)) l) (sym (passed_first shown m ls e bs))

  pub replay_more : (shown : Bool) (ls : List Line) (bs : List Answer) → length bs ≡ count_performed shown ls → replay shown (ls ++ l ∷ []) bs ≡ replay shown ls bs ++ asked_at (shown_after shown ls) l
  replay_more = by_line Asked asked_none asked_performed asked_passed

-- where no line is performed nothing is on record
unasked : (shown : Bool) (ls : List Line) (bs : List Answer) → 0 ≡ count_performed shown ls → replay shown ls bs ≡ []
unasked = by_line (λ shown ls. (bs : List Answer) → 0 ≡ count_performed shown ls → replay shown ls bs ≡ [])
    (λ shown bs none. refl)
    (λ shown m ls e ih bs none. let here = counted_first shown m ls e in absurd (omega arith))
    (λ shown m ls e ih bs none. passed_first shown m ls e bs ∙ ih bs (none ∙ skipped_first shown m ls e))

-- an answer is waited for: it comes last
module _ (a : Answer) where
  abbrev Told : Bool → List Line → Type 0
  Told shown ls = (bs : List Answer) → length bs + 1 ≡ count_performed shown ls → replay shown ls (bs ++ a ∷ []) ≡ replay shown ls bs ++ told a ∷ []

  told_performed : (shown : Bool) (m : Line) (ls : List Line) → is_performed shown m ≡ true → Told (is_judge m) ls → Told shown (m ∷ ls)
  told_performed shown m ls e ih [] waits =
      let here = counted_first shown m ls e in
      let none : 0 ≡ count_performed (is_judge m) ls = omega arith in
      performed_first shown m ls e (a ∷ [])
      ∙ ap (λ r. asked_by m ++ (told a ∷ r)) (unasked (is_judge m) ls [] none)
      ∙ ap (λ r. r ++ told a ∷ []) (sym (append-nil (asked_by m)))
      ∙ ap (λ r. (asked_by m ++ r) ++ told a ∷ []) (sym (unasked (is_judge m) ls [] none))
      ∙ ap (λ r. r ++ told a ∷ []) (sym (performed_first shown m ls e []))
  told_performed shown m ls e ih (b ∷ bs) waits =
      let here = counted_first shown m ls e in
      performed_first shown m ls e (b ∷ (bs ++ a ∷ []))
      ∙ ap (λ r. asked_by m ++ (told b ∷ r)) (ih bs (omega arith))
      ∙ sym (append_assoc (asked_by m) (told b ∷ replay (is_judge m) ls bs) (told a ∷ []))
      ∙ ap (λ r. r ++ told a ∷ []) (sym (performed_first shown m ls e (b ∷ bs)))

  told_passed : (shown : Bool) (m : Line) (ls : List Line) → is_performed shown m ≡ false → Told shown ls → Told shown (m ∷ ls)
  told_passed shown m ls e ih bs waits =
      passed_first shown m ls e (bs ++ a ∷ [])
      ∙ ih bs (waits ∙ skipped_first shown m ls e)
      ∙ ap (λ r. r ++ told a ∷ []) (sym (passed_first shown m ls e bs))

  pub replay_told : (shown : Bool) (ls : List Line) (bs : List Answer) → length bs + 1 ≡ count_performed shown ls → replay shown ls (bs ++ a ∷ []) ≡ replay shown ls bs ++ told a ∷ []
  replay_told = by_line Told (λ shown bs waits. absurd (omega arith)) told_performed told_passed

-- a note of what came of the last line
pub replay_noted : (ls : List Line) (notes longer : List Heard) (note : Heard) (waiting : Bool) → longer ≡ notes ++ note ∷ [] → waiting ≡ true
    → length notes + cond waiting 1 0 ≡ count_performed false ls → replay false ls (answers_heard longer) ≡ replay false ls (answers_heard notes) ++ told (answer_heard note) ∷ []
replay_noted ls notes longer note waiting is waits count =
    let one : length notes + cond waiting 1 0 ≡ length notes + 1 = ap (λ b. length notes + cond b 1 0) waits in
    let long : length (answers_heard notes) ≡ length notes = length-map notes answer_heard in
    let used : length (answers_heard notes) + 1 ≡ count_performed false ls = ap (λ n. n + 1) long ∙ sym one ∙ count in
    ap (λ n. replay false ls (answers_heard n)) is
    ∙ ap (replay false ls) (map-append answer_heard notes (note ∷ []))
    ∙ replay_told (answer_heard note) false ls (answers_heard notes) used
