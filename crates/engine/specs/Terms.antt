-- Terms: zero, the seats, and what an application asks of the terms before it.
use Rattle.std.specs.Prelude.{ℕ, suc, Bool, true, false, if◌then◌else◌, ◌&&◌, List, [], ◌∷◌, ◌==◌, nat_lt, slice_index_or}
use Rattle.std.specs.List.{list_any}
use Rattle.sheet.specs.declared.term.Kind.TheVariants.{Dated}
use Rattle.sheet.specs.declared.term.Form.{Form}
use Rattle.sheet.specs.declared.term.Form.TheVariants.{Name, One, Two}
use Rattle.sheet.specs.declared.term.Term.{Term}
use Rattle.sheet.specs.Terms.{is_dated}

-- term 0, which is there without being declared: dated, and a name
abbrev pub zero_term : Term
zero_term = record { kind = Dated; form = Name }

-- a term that is not there counts as dated: rows that name one are refused before this is asked
abbrev pub is_dated_at : List Term → ℕ → Bool
is_dated_at ts i = is_dated (slice_index_or ts i zero_term).kind

-- the indices of the dated terms, where the first term has the index k
abbrev pub dated_from : ℕ → List Term → List ℕ
dated_from k [] = []
dated_from k (t ∷ ts) = if is_dated t.kind then k ∷ dated_from (suc k) ts else dated_from (suc k) ts

-- the seats: a seat is a dated term, which has a place in an arrangement. They stand in the order of the terms, zero first
abbrev pub seats_of : List Term → List ℕ
seats_of ts = dated_from 0 ts

-- each argument is one of the first n terms
abbrev pub arguments_below : ℕ → Form → Bool
arguments_below n Name = true
arguments_below n (One a x) = nat_lt x n
arguments_below n (Two a x y) = nat_lt x n && nat_lt y n

-- the two apply one table to different counts of arguments
abbrev pub counts_differ : Form → Form → Bool
counts_differ Name g = false
counts_differ (One a x) Name = false
counts_differ (One a x) (One b y) = false
counts_differ (One a x) (Two b y z) = a == b
counts_differ (Two a x y) Name = false
counts_differ (Two a x y) (One b z) = a == b
counts_differ (Two a x y) (Two b z w) = false

abbrev pub any_count_differs : Form → List Term → Bool
any_count_differs f ts = list_any (λ (t : Term). counts_differ f t.form) ts
