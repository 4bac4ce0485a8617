-- The figures of an account, lists of them, and what each call does to them. Assumes nothing.
use Rattle.std.specs.Prelude.{ℕ, ◌+◌, ◌-◌, ◌≤◌, Bool, cond, not, ◌&&◌, List, length, ℤ, pos, ◌+ℤ◌, ◌-ℤ◌, neg_ℤ, ◌≤ℤ◌, ◌==◌, int_le, nat_le, nat_lt, slice_index_or, slice_set}
use Rattle.accounts.specs.declared.figures.Figures.{Figures}
use Rattle.accounts.specs.declared.hold.Hold.{Hold}

-- the greatest ceiling and the greatest floor
abbrev pub most_limit : ℕ
most_limit = 4_000_000_000_000_000_000

-- what stands for an account that is not set up
abbrev pub unset : Figures
unset = record { balance = pos 0; held_in = 0; held_out = 0; ceiling = 0; floor = 0 }

abbrev pub new_account : ℕ → ℕ → Figures
new_account ceiling floor = record { balance = pos 0; held_in = 0; held_out = 0; ceiling = ceiling; floor = floor }

abbrev pub limits_fit : ℕ → ℕ → Bool
limits_fit ceiling floor = nat_le ceiling most_limit && nat_le floor most_limit

-- what every account keeps: the ceiling over what it holds in, the floor under what it holds out, and the bounds of both
abbrev pub Keeps : Figures → Type 0
Keeps f =
    ((f.balance +ℤ pos f.held_in) ≤ℤ pos f.ceiling)
    × (neg_ℤ (pos f.floor) ≤ℤ (f.balance -ℤ pos f.held_out))
    × (f.ceiling ≤ most_limit)
    × (f.floor ≤ most_limit)

-- the two limits, as a test
abbrev pub within : Figures → Bool
within f =
    int_le (f.balance +ℤ pos f.held_in) (pos f.ceiling) && int_le (neg_ℤ (pos f.floor)) (f.balance -ℤ pos f.held_out)

-- what is left below the ceiling
abbrev pub room_in : Figures → ℤ
room_in f = pos f.ceiling -ℤ (f.balance +ℤ pos f.held_in)

-- what is left above the floor
abbrev pub room_out : Figures → ℤ
room_out f = (f.balance -ℤ pos f.held_out) +ℤ pos f.floor

-- m more may be held in
abbrev pub takes_in : ℕ → Figures → Bool
takes_in m f = int_le (f.balance +ℤ pos (f.held_in + m)) (pos f.ceiling)

-- m more may be held out
abbrev pub takes_out : ℕ → Figures → Bool
takes_out m f = int_le (neg_ℤ (pos f.floor)) (f.balance -ℤ pos (f.held_out + m))

-- m or more is held in
abbrev pub holds_in : ℕ → Figures → Bool
holds_in m f = nat_le m f.held_in

-- m or more is held out
abbrev pub holds_out : ℕ → Figures → Bool
holds_out m f = nat_le m f.held_out

abbrev pub hold_in : ℕ → Figures → Figures
hold_in m f = record { balance = f.balance; held_in = f.held_in + m; held_out = f.held_out; ceiling = f.ceiling; floor = f.floor }

abbrev pub hold_out : ℕ → Figures → Figures
hold_out m f = record { balance = f.balance; held_in = f.held_in; held_out = f.held_out + m; ceiling = f.ceiling; floor = f.floor }

abbrev pub free_in : ℕ → Figures → Figures
free_in m f = record { balance = f.balance; held_in = f.held_in - m; held_out = f.held_out; ceiling = f.ceiling; floor = f.floor }

abbrev pub free_out : ℕ → Figures → Figures
free_out m f = record { balance = f.balance; held_in = f.held_in; held_out = f.held_out - m; ceiling = f.ceiling; floor = f.floor }

abbrev pub with_balance : ℤ → Figures → Figures
with_balance z f = record { balance = z; held_in = f.held_in; held_out = f.held_out; ceiling = f.ceiling; floor = f.floor }

-- m is held in no more; where it was paid the peer owes it
abbrev pub end_in : Bool → ℕ → Figures → Figures
end_in paid m f = with_balance (cond paid (f.balance +ℤ pos m) f.balance) (free_in m f)

-- m is held out no more; where it was paid we owe it
abbrev pub end_out : Bool → ℕ → Figures → Figures
end_out paid m f = with_balance (cond paid (f.balance -ℤ pos m) f.balance) (free_out m f)

-- a settlement of the amount m: the way 0 lowers the balance, any other raises it
abbrev pub settled_balance : ℕ → ℕ → Figures → ℤ
settled_balance way m f = cond (way == 0) (f.balance -ℤ pos m) (f.balance +ℤ pos m)

abbrev pub settled : ℕ → ℕ → Figures → Figures
settled way m f = with_balance (settled_balance way m f) f

abbrev pub can_settle : ℕ → ℕ → Figures → Bool
can_settle way m f = within (settled way m f)

-- the account at a place, changed by f
abbrev pub adjust : ℕ → (Figures → Figures) → List Figures → List Figures
adjust a f xs = slice_set xs a (f (slice_index_or xs a unset))

abbrev pub is_set_up : List Figures → ℕ → Bool
is_set_up xs a = nat_lt a (length xs)

-- the two accounts of a hold are set up and differ
abbrev pub two_set_up : List Figures → Hold → Bool
two_set_up xs h = is_set_up xs h.sender && is_set_up xs h.outgoing && not (h.sender == h.outgoing)

abbrev pub can_hold_in : List Figures → ℕ → ℕ → Bool
can_hold_in xs a m = is_set_up xs a && takes_in m (slice_index_or xs a unset)

abbrev pub can_hold_out : List Figures → ℕ → ℕ → Bool
can_hold_out xs a m = is_set_up xs a && takes_out m (slice_index_or xs a unset)

-- both amounts may be held, at two accounts that differ
abbrev pub can_hold : List Figures → Hold → Bool
can_hold xs h =
    can_hold_in xs h.sender h.amount_in && can_hold_out xs h.outgoing h.amount_out && not (h.sender == h.outgoing)

abbrev pub held : Hold → List Figures → List Figures
held h xs = adjust h.outgoing (hold_out h.amount_out) (adjust h.sender (hold_in h.amount_in) xs)

-- both accounts are set up, and hold at least these amounts
abbrev pub can_end : List Figures → Hold → Bool
can_end xs h =
    two_set_up xs h && holds_in h.amount_in (slice_index_or xs h.sender unset) && holds_out h.amount_out (slice_index_or xs h.outgoing unset)

abbrev pub ended : Bool → Hold → List Figures → List Figures
ended paid h xs = adjust h.outgoing (end_out paid h.amount_out) (adjust h.sender (end_in paid h.amount_in) xs)

-- a settlement at an account that is set up
abbrev pub can_settle_at : List Figures → ℕ → ℕ → ℕ → Bool
can_settle_at xs a way m = is_set_up xs a && can_settle way m (slice_index_or xs a unset)
