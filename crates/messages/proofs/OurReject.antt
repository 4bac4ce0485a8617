-- The parts of a Reject of our own make it.
use Rattle.std.proofs.Common.{◌≡◌, ℕ, Bool, true, false, cond, List, [], ◌++◌, length, take, codes, refl, arith}
use Rattle.std.specs.Str.{bytes_eq}
use Rattle.std.proofs.lemmas.List.{take_all}
use Rattle.wire.specs.declared.code.RejectCode.{RejectCode}
use Rattle.wire.specs.Codes.{code_bytes}
use Rattle.packet.specs.Values.{reject}
use Rattle.packet.specs.Encoding.{amount_bytes, packet_bytes}
use Rattle.protocol.specs.Messages.{our_bytes}

sixteen : (x y : ℕ) → length (amount_bytes x ++ amount_bytes y) ≡ 16
unfolding amount_bytes
sixteen x y = refl

numbers-taken : (b : Bool) (x y : ℕ) → take (cond b 16 0) (amount_bytes x ++ amount_bytes y) ≡ cond b (amount_bytes x ++ amount_bytes y) []
numbers-taken true x y = take_all 16 (amount_bytes x ++ amount_bytes y) (omega (arith, sixteen x y))
numbers-taken false x y = refl

pub our-packet : (own : List ℕ) (c : RejectCode) (x y n : ℕ) (three from numbers : List ℕ) → three ≡ code_bytes c → from ≡ own → n ≡ cond (bytes_eq (code_bytes c) (codes "F08")) 16 0 → numbers ≡ amount_bytes x ++ amount_bytes y → packet_bytes (reject (record { code = three; triggered_by = from; message = []; payload = take n numbers })) ≡ our_bytes own c x y
unfolding our_bytes
our-packet own c x y n three from numbers e f g h = rw (e, f, g, h, numbers-taken (bytes_eq (code_bytes c) (codes "F08")) x y)
