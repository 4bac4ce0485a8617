-- The codecs of the three contents. Assumes nothing.
use Rattle.std.proofs.Common.{◌≡◌, refl, ap, lit<}
use Rattle.packet.specs.Encoding.{prepare_bytes, fulfill_bytes, reject_bytes, PrepareFits, FulfillFits, RejectFits}
use Rattle.packet.specs.Fields.{read_prepare, read_fulfill, read_reject}
use Rattle.packet.proofs.Codec.{Codec, codec-fits, codec-then, codec-last}
use Rattle.packet.proofs.Parts.{fixed-codec, field-codec, amount-codec, expiry-codec, code-codec, destination-codec, trigger-codec}

pub prepare-codec : Codec read_prepare prepare_bytes PrepareFits
prepare-codec =
    codec-fits
    (codec-then amount-codec (λ v. v.amount) (λ _. Unit {0})
    (λ a n. codec-then expiry-codec (λ v. v.expiry) (λ v. Unit {0} × (n ≡ v.amount))
    (λ b t. codec-then (fixed-codec 32) (λ v. v.condition) (λ v. (Unit {0} × (n ≡ v.amount)) × (t ≡ v.expiry))
    (λ c h. codec-then destination-codec (λ v. v.destination) (λ v. ((Unit {0} × (n ≡ v.amount)) × (t ≡ v.expiry)) × (h ≡ v.condition))
    (λ d s. codec-last (field-codec 32767 (lit< tt)) (λ v. v.payload) (λ v. (((Unit {0} × (n ≡ v.amount)) × (t ≡ v.expiry)) × (h ≡ v.condition)) × (s ≡ v.destination))
    (λ x. record { amount = n; expiry = t; condition = h; destination = s; payload = x }) (λ x. refl) (λ x. ((((tt, refl), refl), refl), refl))
    (λ v k. λ i. record { amount = k.0.0.0.1 i; expiry = k.0.0.1 i; condition = k.0.1 i; destination = k.1 i; payload = v.payload }))))))
    PrepareFits
    (λ v k. record { amount = k.1.0; expiry = k.1.1.0; condition = k.1.1.1.0; destination = k.1.1.1.1.0; payload = k.1.1.1.1.1 })
    (λ v k. (tt, (k.amount, (k.expiry, (k.condition, (k.destination, k.payload))))))

pub fulfill-codec : Codec read_fulfill fulfill_bytes FulfillFits
fulfill-codec =
    codec-fits
    (codec-then (fixed-codec 32) (λ v. v.fulfilment) (λ _. Unit {0})
    (λ a s. codec-last (field-codec 32767 (lit< tt)) (λ v. v.payload) (λ v. Unit {0} × (s ≡ v.fulfilment))
    (λ x. record { fulfilment = s; payload = x }) (λ x. refl) (λ x. (tt, refl))
    (λ v k. ap (λ g. record { fulfilment = g; payload = v.payload }) k.1)))
    FulfillFits
    (λ v k. record { fulfilment = k.1.0; payload = k.1.1 })
    (λ v k. (tt, (k.fulfilment, k.payload)))

pub reject-codec : Codec read_reject reject_bytes RejectFits
reject-codec =
    codec-fits
    (codec-then code-codec (λ v. v.code) (λ _. Unit {0})
    (λ a c. codec-then trigger-codec (λ v. v.triggered_by) (λ v. Unit {0} × (c ≡ v.code))
    (λ b t. codec-then (field-codec 8191 (lit< tt)) (λ v. v.message) (λ v. (Unit {0} × (c ≡ v.code)) × (t ≡ v.triggered_by))
    (λ d m. codec-last (field-codec 32767 (lit< tt)) (λ v. v.payload) (λ v. ((Unit {0} × (c ≡ v.code)) × (t ≡ v.triggered_by)) × (m ≡ v.message))
    (λ x. record { code = c; triggered_by = t; message = m; payload = x }) (λ x. refl) (λ x. (((tt, refl), refl), refl))
    (λ v k. λ i. record { code = k.0.0.1 i; triggered_by = k.0.1 i; message = k.1 i; payload = v.payload })))))
    RejectFits
    (λ v k. record { code = k.1.0; triggered_by = k.1.1.0; message = k.1.1.1.0; payload = k.1.1.1.1 })
    (λ v k. (tt, (k.code, (k.triggered_by, (k.message, k.payload)))))
