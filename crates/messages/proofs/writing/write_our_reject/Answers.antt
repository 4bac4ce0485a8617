use Rattle.std.proofs.Common.{subst}
use Rattle.wire.specs.Writing.{Written}
use Rattle.messages.specs.Own.{own_bytes}
use Rattle.messages.proofs.OurReject.{our-packet}
use Rattle.messages.proofs.writing.write_our_reject.Goals as goal

pub returns : goal.returns
returns c =
    let r = c.args.rejected in
    subst (λ w. Written c.args.buffer.now w c.write_packet.new.out c.in-Ok.n)
    (our-packet (own_bytes c.args.own.now) r.code r.first r.second c.data_size.result c.bytes-code.result c.bytes.result.now c.two_numbers-numbers.result c.bytes-code.ensures c.bytes.ensures.value c.data_size.ensures c.two_numbers-numbers.ensures)
    c.in-Ok.ensures.writes.2
