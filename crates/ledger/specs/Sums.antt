-- What the rows of what is pending come to, and what all of them keep. Assumes nothing.
use Rattle.std.specs.Prelude.{ℕ, ◌+◌, Bool, true, cond, not, ◌&&◌, List, [], ◌∷◌, ◌==◌, nat_le, nat_lt}
use Rattle.pending.specs.declared.row.Pending.{Pending}

-- the sum over the rows of what each counts for
abbrev pub total : (Pending → ℕ) → List Pending → ℕ
total f [] = 0
total f (r ∷ rs) = f r + total f rs

-- what a row counts for the account that it came from, and for the one that it went to
abbrev pub in_at : ℕ → Pending → ℕ
in_at a r = cond (r.sender == a) r.amount_in 0

abbrev pub out_at : ℕ → Pending → ℕ
out_at a r = cond (r.outgoing == a) r.amount_out 0

-- the incoming amounts of the rows that came from an account
abbrev pub sum_in : ℕ → List Pending → ℕ
sum_in a = total (in_at a)

-- the outgoing amounts of the rows that went to an account
abbrev pub sum_out : ℕ → List Pending → ℕ
sum_out a = total (out_at a)

-- a test that every row passes
abbrev pub every : (Pending → Bool) → List Pending → Bool
every p [] = true
every p (r ∷ rs) = p r && every p rs

-- the row's two accounts are set up, of this many, and differ
abbrev pub accounts_fit : ℕ → Pending → Bool
accounts_fit count r = nat_lt r.sender count && nat_lt r.outgoing count && not (r.sender == r.outgoing)

-- the row's number is not above the last one given
abbrev pub is_given : ℕ → Pending → Bool
is_given last r = nat_le r.number last

-- the numbers rise, all above n
abbrev pub rise : ℕ → List Pending → Bool
rise n [] = true
rise n (r ∷ rs) = nat_lt n r.number && rise r.number rs
