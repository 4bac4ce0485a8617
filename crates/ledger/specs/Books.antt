-- The plain model of a ledger, what each call does to it, and what every ledger keeps. Assumes nothing.
use Rattle.std.specs.Prelude.{◌≡◌, ℕ, ◌+◌, max, Bool, true, false, not, ◌&&◌, List, [], ◌∷◌, ◌++◌, length, ℤ, Some, None, Option, nat_lt, slice_index_or}
use Rattle.pending.specs.declared.row.Pending.{Pending}
use Rattle.pending.specs.Rows.{dropped, marked}
use Rattle.pending.specs.Tables.{is_full}
use Rattle.accounts.specs.declared.figures.Figures.{Figures}
use Rattle.accounts.specs.declared.hold.Hold.{Hold}
use Rattle.accounts.specs.declared.limits.Limits.{Limits}
use Rattle.accounts.specs.Figures.{unset, adjust, with_balance, can_hold, held, ended}
use Rattle.accounts.specs.SetUps.{new_accounts}
use Rattle.ledger.specs.declared.reservation.Reservation.{Reservation}
use Rattle.ledger.specs.Sums.{sum_in, sum_out, every, accounts_fit, is_given, rise}

pub record Books : Type 0 where
  pub time : ℕ
  pub last : ℕ
  pub rows : List Pending
  pub accounts : List Figures

-- the figures of an account; zeros where it is not set up
abbrev pub figures_at : Books → ℕ → Figures
figures_at b a = slice_index_or b.accounts a unset

-- a new ledger
abbrev pub new_books : List Limits → Books
new_books limits = record { time = 0; last = 0; rows = []; accounts = new_accounts limits }

-- the time goes to the greater
abbrev pub advanced : ℕ → Books → Books
advanced t b = record { time = max b.time t; last = b.last; rows = b.rows; accounts = b.accounts }

-- the last number that can be given
abbrev pub last_number : ℕ
last_number = 4_294_967_295

abbrev pub has_number : Books → Bool
has_number b = nat_lt b.last last_number

-- what a row holds at its two accounts
abbrev pub hold_of : Pending → Hold
hold_of r = record { sender = r.sender; outgoing = r.outgoing; amount_in = r.amount_in; amount_out = r.amount_out }

-- the row of a reservation, under a number, and not sent
abbrev pub row_of : ℕ → Reservation → Pending
row_of n v =
    record {
      number = n;
      sender = v.hold.sender;
      request = v.request;
      outgoing = v.hold.outgoing;
      amount_in = v.hold.amount_in;
      amount_out = v.hold.amount_out;
      expiry = v.expiry;
      condition = v.condition;
      sent = false;
    }

abbrev pub next_row : Books → Reservation → Pending
next_row b v = row_of (b.last + 1) v

abbrev pub can_reserve : Books → Reservation → Bool
can_reserve b v = has_number b && not (is_full b.rows) && can_hold b.accounts v.hold

-- one row more, its number the last given, and both its amounts held
abbrev pub admitted : Pending → Books → Books
admitted r b = record { time = b.time; last = r.number; rows = b.rows ++ r ∷ []; accounts = held (hold_of r) b.accounts }

-- the row of a number, marked as sent
abbrev pub marked_at : ℕ → Books → Books
marked_at n b = record { time = b.time; last = b.last; rows = marked n b.rows; accounts = b.accounts }

-- a row ended: it is gone, both its amounts are freed, and booked where it was paid
abbrev pub closed : Bool → Pending → Books → Books
closed paid r b = record { time = b.time; last = b.last; rows = dropped r.number b.rows; accounts = ended paid (hold_of r) b.accounts }

abbrev pub closed_if : Bool → Option Pending → Books → Books
closed_if paid None b = b
closed_if paid (Some r) b = closed paid r b

-- an account with another balance
abbrev pub rebalanced : ℕ → ℤ → Books → Books
rebalanced a z b = record { time = b.time; last = b.last; rows = b.rows; accounts = adjust a (with_balance z) b.accounts }

-- the numbers rise from 1, and none is above the last; the accounts of every row are set up and differ; and the held sums
-- of every account are the sums over the rows
abbrev pub Sound : Books → Type 0
Sound b =
    (rise 0 b.rows ≡ true)
    × (every (is_given b.last) b.rows ≡ true)
    × (every (accounts_fit (length b.accounts)) b.rows ≡ true)
    × ((a : ℕ) → (figures_at b a).held_in ≡ sum_in a b.rows)
    × ((a : ℕ) → (figures_at b a).held_out ≡ sum_out a b.rows)
