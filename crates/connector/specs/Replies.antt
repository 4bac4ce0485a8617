-- What the answers of the calls say, as replies of the model. Assumes nothing.
use Rattle.std.specs.Prelude.{Some, None, Ok, Err, Option, Result}
use Rattle.protocol.specs.declared.refusal.Refusal.{Refusal}
use Rattle.protocol.specs.declared.ended.Ended.{Ended}
use Rattle.protocol.specs.Outcomes.{Reply, refused, rejected, forwarded, noted, ended, none_due}
use Rattle.connector.specs.declared.prepared.Forwarded.{Forwarded}
use Rattle.connector.specs.declared.prepared.Prepared.{Prepared}
use Rattle.connector.specs.declared.prepared.Prepared.TheVariants as prepared

abbrev pub forwarded_reply : Forwarded → Reply
forwarded_reply f = forwarded f.number f.account f.length f.duty.number

abbrev pub prepared_reply : Result Prepared Refusal → Reply
prepared_reply (Ok (prepared.Forwarded f)) = forwarded_reply f
prepared_reply (Ok (prepared.Rejected r)) = rejected r
prepared_reply (Err e) = refused e

abbrev pub sent_reply : Result (Unit {0}) Refusal → Reply
sent_reply (Ok x) = noted
sent_reply (Err e) = refused e

abbrev pub end_reply : Result Ended Refusal → Reply
end_reply (Ok e) = ended e
end_reply (Err e) = refused e

abbrev pub tick_reply : Result (Option Ended) Refusal → Reply
tick_reply (Ok (Some e)) = ended e
tick_reply (Ok None) = none_due
tick_reply (Err e) = refused e
