use Rattle.std.proofs.Common.{Ok, arith}
use Rattle.packet_writer.proofs.Back.{write-back}
use Rattle.packet_writer.proofs.writing.write_packet.Goals as goal

pub returns-clause-back : goal.returns-clause-back
returns-clause-back g c =
    write-back g.P.Encode.asked_by (g.P.Encode.value c.args.packet.now) c.args.out.now _ (Ok c.put.result) (g.met.P.Encode.asked c.args.packet.now) (omega arith, c.fits.ensures.0 c.if-not-fits.false, c.put.ensures)
