use Rattle.std.proofs.Common.{◌≡◌, ◌+◌, ◌∷◌, ◌++◌, length, refl, arith, rules}
use Rattle.std.proofs.lemmas.List.{length-append}
use Rattle.std.proofs.lemmas.Bool.Decides.{nat_tests}
use Rattle.wire.specs.Writing.{determinant_of}
use Rattle.wire.proofs.Written.{wrote_then, wrote_as, written_over}
use Rattle.calendar.proofs.Timestamps.{one-timestamp}
use Rattle.address.proofs.Split.{address-short}
use Rattle.calendar.specs.Calendar.{digits_of}
use Rattle.packet.specs.Values.{prepare_of}
use Rattle.packet.specs.Encoding.{amount_bytes, prepare_bytes, packet_bytes}
use Rattle.packet_writer.proofs.packets.PrepareEncode.put.Goals as goal

pub field_size-requires : goal.field_size-requires
field_size-requires c = omega (arith, address-short c.args.self.now.destination.now c.requires.fits.destination)

pub determinant-requires-clause-small : goal.determinant-requires-clause-small
determinant-requires-clause-small c = omega (arith, address-short c.args.self.now.destination.now c.requires.fits.destination)

pub field-requires-clause-small : goal.field-requires-clause-small
field-requires-clause-small c = omega (arith, address-short c.args.self.now.destination.now c.requires.fits.destination)

pub field-requires-clause-room : goal.field-requires-clause-room
field-requires-clause-room c = omega (arith, address-short c.args.self.now.destination.now c.requires.fits.destination)

pub field-requires-2-clause-room : goal.field-requires-2-clause-room
field-requires-2-clause-room c = omega (arith, address-short c.args.self.now.destination.now c.requires.fits.destination)

pub returns : goal.returns
unfolding amount_bytes packet_bytes
returns c =
    let v = prepare_of c.args.self.now in
    let short = address-short c.args.self.now.destination.now c.requires.fits.destination in
    let content = 57 + c.field_size.result + c.field_size-2.result in
    let long : content ≡ length (prepare_bytes v) = simp (length-append, one-timestamp.seventeen) (omega arith) in
    let amount = wrote_as c.to_be_bytes.ensures c.put-2.ensures.wrote in
    let said : c.in-Some.digits ≡ digits_of c.args.self.now.expiry = grind (arith, nat_tests) in
    let digits = wrote_as said c.put-3.ensures.wrote in
    let last = wrote_then (omega arith) c.field.ensures.wrote c.field-2.ensures.wrote in
    let fourth = wrote_then (omega arith) c.put-4.ensures.wrote last in
    let third = wrote_then (omega arith) digits fourth in
    let second = wrote_then (omega arith) amount third in
    let sized = wrote_then (omega arith) c.determinant.ensures.wrote second in
    let all = wrote_then (omega arith) c.put.ensures.wrote sized in
    let bytes : c.type_byte.result ∷ determinant_of content ++ prepare_bytes v ≡ 0x0C ∷ determinant_of (length (prepare_bytes v)) ++ prepare_bytes v = rw (c.type_byte.ensures, long) refl in
    written_over c.new-writer.ensures.buffer c.new-writer.ensures.place c.place.ensures bytes all (search rules)
