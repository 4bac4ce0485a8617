-- Our own address as a list of bytes. Assumes nothing.
use Rattle.std.specs.Prelude.{ℕ, Bool, ◌&&◌, List, length, Option, nat_le}
use Rattle.std.specs.Option.{option_map}
use Rattle.wire.specs.Short.{short_bytes}
use Rattle.address.specs.Addresses.{is_address}
use Rattle.messages.specs.declared.own.OwnAddress.{OwnAddress}

-- what may be our own address
abbrev pub own_fits : List ℕ → Bool
own_fits s = nat_le (length s) 64 && is_address s

abbrev pub own_bytes : OwnAddress → List ℕ
own_bytes a = short_bytes a.bytes

abbrev pub shown_bytes : Option OwnAddress → Option (List ℕ)
shown_bytes = option_map own_bytes
