-- One encoding to a packet. Assumes nothing.
use Rattle.std.proofs.Common.{◌≡◌, ℕ, ◌+◌, ◌<◌, ◌≤◌, Bool, true, cond, eqb, List, [], ◌∷◌, ◌++◌, length, IfOk, Ok, Err, Result, sym, refl, ap, ◌∙◌, subst, append-nil, arith}
use Rattle.std.proofs.lemmas.Bool.Decides.{nat_tests}
use Rattle.std.proofs.lemmas.List.{length-append, nil_from_length}
use Rattle.wire.specs.declared.fault.Fault.{Fault}
use Rattle.wire.specs.declared.fault.Layer.TheVariants.{Wrapper}
use Rattle.wire.specs.declared.fault.Cause.TheVariants.{WrongType, WrongLength, CutDeterminant}
use Rattle.wire.specs.Reading.{At, Read, and_then, fails, determinant, forward}
use Rattle.wire.specs.Writing.{determinant_of, field_bytes}
use Rattle.wire.proofs.Written.{determinant-short}
use Rattle.calendar.proofs.Timestamps.{one-timestamp}
use Rattle.address.proofs.Split.{address-short}
use Rattle.packet.specs.declared.kind.Kind.{Kind}
use Rattle.packet.specs.declared.kind.Kind.TheVariants as kind
use Rattle.packet.specs.Values.{PacketValue, prepare, fulfill, reject, kind_of}
use Rattle.packet.specs.Encoding.{type_byte, content_bytes, packet_bytes, WellFormed}
use Rattle.packet.specs.Fields.{read_prepare, read_fulfill, read_reject}
use Rattle.packet.specs.Readers.{read_kind, read_length, read_end, wholly, read_content, read_result, asked, read_as, valued}
use Rattle.packet.specs.OneEncoding.{Bytes, OneEncoding}
use Rattle.packet.proofs.Codec.{from, Codec, split-then, same_ok, bytes_rest}
use Rattle.packet.proofs.Parts.{determinant-codec, amount-long, code-long, trigger-short}
use Rattle.packet.proofs.Contents.{prepare-codec, fulfill-codec, reject-codec}

-- READING BACK

length_back : (p : ℕ) (xs : List ℕ) (u : Unit {0}) (b : At) → Bytes xs → read_length (from p xs) ≡ Ok (u, b) → (xs ≡ determinant_of (length b.rest) ++ b.rest) × Bytes b.rest
unfolding read_length
length_back p xs u b low e =
    let s = split-then (determinant Wrapper CutDeterminant (from p xs)) (λ n c. cond (eqb n (length c.rest)) (Ok (tt, c)) (fails Wrapper WrongLength (from p xs))) u b e in
    let one = (determinant-codec Wrapper CutDeterminant).back p xs s.0 s.1 low s.2 in
    let exact : s.0 ≡ length s.1.rest = (let h = s.3 in grind (arith, nat_tests)) in
    let same : s.1 ≡ b = (let h = s.3 in grind (arith, nat_tests)) in
    let split : xs ≡ determinant_of (length s.1.rest) ++ s.1.rest = one.0.split ∙ ap (λ n. determinant_of n ++ s.1.rest) exact in (
      subst (λ c. xs ≡ determinant_of (length c.rest) ++ c.rest) same split,
      subst (λ c. Bytes c.rest) same (bytes_rest xs _ _ one.0.split low),
    )

end_back : (a : At) (u : Unit {0}) (b : At) → read_end a ≡ Ok (u, b) → a.rest ≡ []
end_back a u b e = nil_from_length a.rest (grind (arith, nat_tests))

length-forth : (p : ℕ) (xs : List ℕ) → length xs < 65536 → read_length (from p (field_bytes xs)) ≡ Ok (tt, from (p + length (determinant_of (length xs))) xs)
unfolding read_length
length-forth p xs short = rw ((determinant-codec Wrapper CutDeterminant).forth p (length xs) xs short) (grind (arith, nat_tests))

module _ {X : Type 0} {content : At → Read X} {bytes : X → List ℕ} {F : X → Type 0} (codec : Codec content bytes F) where
  wholly-back : (p : ℕ) (xs : List ℕ) (x : X) (after : At) → Bytes xs → wholly content (from p xs) ≡ Ok (x, after) → (xs ≡ field_bytes (bytes x)) × F x
  wholly-back p xs x after low e =
      let s = split-then (read_length (from p xs)) (λ _ b. and_then (content b) (λ y c. and_then (read_end c) (λ _ d. Ok (y, d)))) x after e in
      let one = length_back p xs s.0 s.1 low s.2 in
      let t = split-then (content s.1) (λ y c. and_then (read_end c) (λ _ d. Ok (y, d))) x after s.3 in
      let two = codec.back s.1.place s.1.rest t.0 t.1 one.1 t.2 in
      let u = split-then (read_end t.1) (λ _ d. Ok (t.0, d)) x after t.3 in
      let none = end_back t.1 u.0 u.1 u.2 in
      let same = (same_ok t.0 x u.1 after u.3).0 in
      let all : s.1.rest ≡ bytes x = two.0.split ∙ ap (λ l. bytes t.0 ++ l) none ∙ append-nil _ ∙ ap bytes same in
      (one.0 ∙ ap field_bytes all, subst F same two.1)

  wholly-forth : (p : ℕ) (x : X) → F x → length (bytes x) < 65536 → (after : At) × (wholly content (from p (field_bytes (bytes x))) ≡ Ok (x, after))
  wholly-forth p x fits short =
      let q : ℕ = p + length (determinant_of (length (bytes x))) in
      (from (q + length (bytes x)) [], rw (length-forth p (bytes x) short, rw append-nil at (codec.forth q x [] fits)))

kind-back : (p : ℕ) (xs : List ℕ) (k : Kind) (after : At) → read_kind (from p xs) ≡ Ok (k, after) → xs ≡ type_byte k ∷ after.rest
unfolding forward
kind-back p [] k after e = grind (arith, nat_tests)
kind-back p (x ∷ xs) kind.Prepare after e = grind (arith, nat_tests)
kind-back p (x ∷ xs) kind.Fulfill after e = grind (arith, nat_tests)
kind-back p (x ∷ xs) kind.Reject after e = grind (arith, nat_tests)

-- what a content that is read as its kind says of the packet
pub record ReadBack (k : Kind) (xs : List ℕ) (v : PacketValue) : Type 0 where
  pub is : xs ≡ field_bytes (content_bytes v)
  pub kind : k ≡ kind_of v
  pub fits : WellFormed v

content-back : (k : Kind) (p : ℕ) (xs : List ℕ) (v : PacketValue) (after : At) → Bytes xs → read_content k (from p xs) ≡ Ok (v, after) → ReadBack k xs v
content-back kind.Prepare p xs v after low e =
    let s = split-then (wholly read_prepare (from p xs)) (λ f b. Ok (prepare f, b)) v after e in
    let one = wholly-back prepare-codec p xs s.0 s.1 low s.2 in
    subst (ReadBack kind.Prepare xs) (same_ok (prepare s.0) v s.1 after s.3).0 (record { is = one.0; kind = refl; fits = one.1 })
content-back kind.Fulfill p xs v after low e =
    let s = split-then (wholly read_fulfill (from p xs)) (λ f b. Ok (fulfill f, b)) v after e in
    let one = wholly-back fulfill-codec p xs s.0 s.1 low s.2 in
    subst (ReadBack kind.Fulfill xs) (same_ok (fulfill s.0) v s.1 after s.3).0 (record { is = one.0; kind = refl; fits = one.1 })
content-back kind.Reject p xs v after low e =
    let s = split-then (wholly read_reject (from p xs)) (λ f b. Ok (reject f, b)) v after e in
    let one = wholly-back reject-codec p xs s.0 s.1 low s.2 in
    subst (ReadBack kind.Reject xs) (same_ok (reject s.0) v s.1 after s.3).0 (record { is = one.0; kind = refl; fits = one.1 })

read_result-back : {X : Type 0} (r : Read X) (x : X) → read_result r ≡ Ok x → (b : At) × (r ≡ Ok (x, b))
read_result-back (Ok v) x e = (v.1, let same : v.0 ≡ x = cc in ap (λ w. Ok (w, v.1)) same)
read_result-back (Err d) x e = grind arith

wanted-back : (t : Bool) (r : Read PacketValue) (f : Fault) (v : PacketValue) (c : At) → cond t r (Err f) ≡ Ok (v, c) → (t ≡ true) × (r ≡ Ok (v, c))
wanted-back t r f v c e = (grind (arith, nat_tests), grind (arith, nat_tests))

back : (wanted : Kind → Bool) (bytes : List ℕ) (v : PacketValue) → Bytes bytes → read_as wanted bytes ≡ Ok v → (bytes ≡ packet_bytes v) × WellFormed v × (wanted (kind_of v) ≡ true)
unfolding read_as packet_bytes
back wanted bytes v low e =
    let r = read_result-back (asked wanted (from 0 bytes)) v e in
    let s = split-then (read_kind (from 0 bytes)) (λ k b. cond (wanted k) (read_content k b) (fails Wrapper WrongType (from 0 bytes))) v r.0 r.1 in
    let first = kind-back 0 bytes s.0 s.1 s.2 in
    let t = wanted-back (wanted s.0) (read_content s.0 s.1) _ v r.0 s.3 in
    let second = content-back s.0 s.1.place s.1.rest v r.0 (bytes_rest bytes (type_byte s.0 ∷ []) _ first low) t.1 in (
      first ∙ (λ i. type_byte (second.kind i) ∷ second.is i),
      second.fits,
      ap wanted (sym second.kind) ∙ t.0,
    )

-- WRITING AND READING AGAIN

kind-forth : (p : ℕ) (k : Kind) (rest : List ℕ) → read_kind (from p (type_byte k ∷ rest)) ≡ Ok (k, from (p + 1) rest)
unfolding forward
kind-forth p kind.Prepare rest = grind (arith, nat_tests)
kind-forth p kind.Fulfill rest = grind (arith, nat_tests)
kind-forth p kind.Reject rest = grind (arith, nat_tests)

-- the content of a well-formed packet is short enough for a determinant
pub content-short : (v : PacketValue) → WellFormed v → length (content_bytes v) ≤ 41993
content-short (prepare v) f = simp (length-append, amount-long, one-timestamp.seventeen) (omega (arith, address-short v.destination f.destination, determinant-short (length v.destination), determinant-short (length v.payload)))
content-short (fulfill v) f = simp length-append (omega (arith, determinant-short (length v.payload)))
content-short (reject v) f = simp length-append (omega (arith, code-long v.code f.code, trigger-short v.triggered_by f.triggered_by, determinant-short (length v.triggered_by), determinant-short (length v.message), determinant-short (length v.payload)))

content-forth : (p : ℕ) (v : PacketValue) → WellFormed v → (after : At) × (read_content (kind_of v) (from p (field_bytes (content_bytes v))) ≡ Ok (v, after))
content-forth p (prepare v) f =
    let w = wholly-forth prepare-codec p v f (omega (arith, content-short (prepare v) f)) in (w.0, rw w.1)
content-forth p (fulfill v) f =
    let w = wholly-forth fulfill-codec p v f (omega (arith, content-short (fulfill v) f)) in (w.0, rw w.1)
content-forth p (reject v) f =
    let w = wholly-forth reject-codec p v f (omega (arith, content-short (reject v) f)) in (w.0, rw w.1)

forth : (wanted : Kind → Bool) (v : PacketValue) → WellFormed v → wanted (kind_of v) ≡ true → read_as wanted (packet_bytes v) ≡ Ok v
unfolding read_as packet_bytes
forth wanted v f asks =
    rw (kind-forth 0 (kind_of v) (field_bytes (content_bytes v)), asks, (content-forth (0 + 1) v f).1)

pub one-encoding : OneEncoding
one-encoding = record { back = back; forth = forth }

-- what a reader's result says of the bytes
pub read_back : {X : Type 0} (mean : X → PacketValue) (wanted : Kind → Bool) (bytes : List ℕ) (r : Result X Fault) → Bytes bytes → valued mean r ≡ read_as wanted bytes → IfOk r (λ x. bytes ≡ packet_bytes (mean x)) × IfOk r (λ x. WellFormed (mean x))
read_back mean wanted bytes (Ok x) low e = let b = back wanted bytes (mean x) low (sym e) in (b.0, b.1)
read_back mean wanted bytes (Err f) low e = (tt, tt)
