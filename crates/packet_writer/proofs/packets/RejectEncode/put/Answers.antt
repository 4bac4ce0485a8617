use Rattle.std.proofs.Common.{◌≡◌, ◌+◌, ◌∷◌, ◌++◌, length, refl, arith, rules}
use Rattle.std.proofs.lemmas.List.{length-append}
use Rattle.wire.specs.Writing.{determinant_of}
use Rattle.wire.proofs.Written.{wrote_then, written_over}
use Rattle.packet.specs.Values.{reject_of}
use Rattle.packet.specs.Encoding.{reject_bytes, packet_bytes}
use Rattle.packet.proofs.Parts.{code-long, trigger-short}
use Rattle.packet_writer.proofs.packets.RejectEncode.put.Goals as goal

pub field_size-requires : goal.field_size-requires
field_size-requires c = omega (arith, trigger-short c.args.self.now.triggered_by.now c.requires.fits.triggered_by)

pub determinant-requires-clause-small : goal.determinant-requires-clause-small
determinant-requires-clause-small c = omega (arith, trigger-short c.args.self.now.triggered_by.now c.requires.fits.triggered_by)

pub field-requires-clause-small : goal.field-requires-clause-small
field-requires-clause-small c = omega (arith, trigger-short c.args.self.now.triggered_by.now c.requires.fits.triggered_by)

pub field-requires-clause-room : goal.field-requires-clause-room
field-requires-clause-room c = omega (arith, trigger-short c.args.self.now.triggered_by.now c.requires.fits.triggered_by, code-long c.args.self.now.code.now c.requires.fits.code)

pub field-requires-2-clause-room : goal.field-requires-2-clause-room
field-requires-2-clause-room c = omega (arith, trigger-short c.args.self.now.triggered_by.now c.requires.fits.triggered_by, code-long c.args.self.now.code.now c.requires.fits.code)

pub field-requires-3-clause-room : goal.field-requires-3-clause-room
field-requires-3-clause-room c = omega (arith, trigger-short c.args.self.now.triggered_by.now c.requires.fits.triggered_by, code-long c.args.self.now.code.now c.requires.fits.code)

pub returns : goal.returns
unfolding packet_bytes
returns c =
    let v = reject_of c.args.self.now in
    let three = code-long c.args.self.now.code.now c.requires.fits.code in
    let short = trigger-short c.args.self.now.triggered_by.now c.requires.fits.triggered_by in
    let content = 3 + c.field_size.result + c.field_size-2.result + c.field_size-3.result in
    let long : content ≡ length (reject_bytes v) = simp length-append (omega arith) in
    let last = wrote_then (omega arith) c.field-2.ensures.wrote c.field-3.ensures.wrote in
    let third = wrote_then (omega arith) c.field.ensures.wrote last in
    let second = wrote_then (omega arith) c.put-2.ensures.wrote third in
    let sized = wrote_then (omega arith) c.determinant.ensures.wrote second in
    let all = wrote_then (omega arith) c.put.ensures.wrote sized in
    let bytes : c.type_byte.result ∷ determinant_of content ++ reject_bytes v ≡ 0x0E ∷ determinant_of (length (reject_bytes v)) ++ reject_bytes v = rw (c.type_byte.ensures, long) refl in
    written_over c.new-writer.ensures.buffer c.new-writer.ensures.place c.place.ensures bytes all (search rules)
