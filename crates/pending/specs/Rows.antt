-- The rows of what is pending, as a list. Assumes nothing.
use Rattle.std.specs.Prelude.{◌≡◌, ℕ, ◌<◌, ◌≤◌, Bool, true, false, cond, ◌&&◌, ◌||◌, ◌⊎◌, List, [], ◌∷◌, length, is_some, Some, None, Option, ◌==◌, nat_le, nat_lt, slice_index_or}
use Rattle.pending.specs.declared.row.Pending.{Pending}

-- what stands where there is no row
abbrev pub vacant : Pending
vacant = record { number = 0; sender = 0; request = 0; outgoing = 0; amount_in = 0; amount_out = 0; expiry = 0; condition = []; sent = false }

-- the first row with a number
abbrev pub lookup : ℕ → List Pending → Option Pending
lookup n [] = None
lookup n (r ∷ rs) = cond (r.number == n) (Some r) (lookup n rs)

abbrev pub is_pending : ℕ → List Pending → Bool
is_pending n rs = is_some (lookup n rs)

-- the rows but for the first with a number, in the same order
abbrev pub dropped : ℕ → List Pending → List Pending
dropped n [] = []
dropped n (r ∷ rs) = cond (r.number == n) rs (r ∷ dropped n rs)

-- a row, marked as sent
abbrev pub as_sent : Pending → Pending
as_sent r =
    record {
      number = r.number;
      sender = r.sender;
      request = r.request;
      outgoing = r.outgoing;
      amount_in = r.amount_in;
      amount_out = r.amount_out;
      expiry = r.expiry;
      condition = r.condition;
      sent = true;
    }

-- the rows with the first of a number marked as sent
abbrev pub marked : ℕ → List Pending → List Pending
marked n [] = []
marked n (r ∷ rs) = cond (r.number == n) (as_sent r ∷ rs) (r ∷ marked n rs)

-- whether q ends before r: by its expiry, and then by its number
abbrev pub ends_before : Pending → Pending → Bool
ends_before q r = nat_lt q.expiry r.expiry || (q.expiry == r.expiry && nat_lt q.number r.number)

-- of a row and those after it, the one that ends first
abbrev pub earliest_from : Pending → List Pending → Pending
earliest_from p [] = p
earliest_from p (r ∷ rs) = earliest_from (cond (ends_before r p) r p) rs

abbrev pub earliest : List Pending → Option Pending
earliest [] = None
earliest (r ∷ rs) = Some (earliest_from r rs)

abbrev pub if_reached : ℕ → Option Pending → Option Pending
if_reached time None = None
if_reached time (Some r) = cond (nat_le r.expiry time) (Some r) None

-- the row with the smallest expiry, the lowest number on ties, where that expiry has been reached
abbrev pub due : ℕ → List Pending → Option Pending
due time rs = if_reached time (earliest rs)

-- the same, said of the row at each place
abbrev pub NotAfter : Pending → Pending → Type 0
NotAfter p q = (p.expiry < q.expiry) ⊎ ((p.expiry ≡ q.expiry) × (p.number ≤ q.number))

abbrev pub FirstExpired : List Pending → ℕ → Option ℕ → Type 0
FirstExpired rs time (Some i) =
    (i < length rs) × ((slice_index_or rs i vacant).expiry ≤ time) × ((k : ℕ) → k < length rs → NotAfter (slice_index_or rs i vacant) (slice_index_or rs k vacant))
FirstExpired rs time None = (k : ℕ) → k < length rs → time < (slice_index_or rs k vacant).expiry
