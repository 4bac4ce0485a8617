use Rattle.std.proofs.Common.{◌≡◌, ◌+◌, ◌∷◌, ◌++◌, length, refl, arith, rules}
use Rattle.std.proofs.lemmas.List.{length-append}
use Rattle.wire.specs.Writing.{determinant_of}
use Rattle.wire.proofs.Written.{wrote_then, written_over}
use Rattle.packet.specs.Values.{fulfill_of}
use Rattle.packet.specs.Encoding.{fulfill_bytes, packet_bytes}
use Rattle.packet_writer.proofs.packets.FulfillEncode.put.Goals as goal

pub returns : goal.returns
unfolding packet_bytes
returns c =
    let v = fulfill_of c.args.self.now in
    let long : 32 + c.field_size.result ≡ length (fulfill_bytes v) = simp length-append (omega arith) in
    let content = wrote_then (omega arith) c.put-2.ensures.wrote c.field.ensures.wrote in
    let sized = wrote_then (omega arith) c.determinant.ensures.wrote content in
    let all = wrote_then (omega arith) c.put.ensures.wrote sized in
    let bytes : c.type_byte.result ∷ determinant_of (32 + c.field_size.result) ++ fulfill_bytes v ≡ 0x0D ∷ determinant_of (length (fulfill_bytes v)) ++ fulfill_bytes v = rw (c.type_byte.ensures, long) refl in
    written_over c.new-writer.ensures.buffer c.new-writer.ensures.place c.place.ensures bytes all (search rules)
