-- The codecs of determinants, fields, numbers, instants, codes and addresses. Assumes nothing.
use Rattle.std.proofs.Common.{◌≡◌, ℕ, ◌+◌, ◌/◌, ◌%◌, ◌^◌, ◌<◌, ◌≤◌, Bool, true, eqb, ltb, List, [], ◌∷◌, ◌++◌, length, take, drop, Some, None, Ok, Option, sym, refl, ap, ◌∙◌, subst, ⊎_elim, arith, lit<}
use Rattle.std.proofs.lemmas.Bool.Decides.{nat_tests}
use Rattle.std.proofs.lemmas.List.{take_at, drop_at, length-append, length-take-le, take-append-drop}
use Rattle.std.proofs.lemmas.Bool.{ltb-false, le-ltb, or_cases}
use Rattle.wire.specs.declared.fault.Fault.{Fault}
use Rattle.wire.specs.declared.fault.Cause.{Cause}
use Rattle.wire.specs.declared.fault.Cause.TheVariants.{CutShort, BadCode, InvalidAddress, InvalidInstant}
use Rattle.wire.specs.declared.fault.Layer.{Layer}
use Rattle.wire.specs.declared.fault.Layer.TheVariants.{Field, Address, Calendar}
use Rattle.wire.specs.Codes.{is_code}
use Rattle.wire.specs.Reading.{At, Read, and_then, fault_at, determinant, forward, next_bytes, fixed, field}
use Rattle.wire.specs.Writing.{determinant_of, field_bytes}
use Rattle.calendar.specs.Calendar.{instant_of, digits_of, last_instant}
use Rattle.calendar.proofs.Timestamps.{one-timestamp}
use Rattle.address.specs.Addresses.{is_address}
use Rattle.address.proofs.Split.{address-short}
use Rattle.packet.specs.Encoding.{amount_bytes, is_trigger}
use Rattle.packet.specs.Fields.{tested, number, read_amount, instant_or, read_expiry, read_code, read_destination, read_trigger}
use Rattle.packet.specs.OneEncoding.{Bytes}
use Rattle.packet.proofs.Codec.{from, Front, Codec, split-then, same_ok, bytes-front, codec-fits, codec-unless, codec-then, codec-meant}

det_back : (l : Layer) (cut : Cause) (p : ℕ) (xs : List ℕ) (n : ℕ) (after : At) → Bytes xs → determinant l cut (from p xs) ≡ Ok (n, after) → Front p xs (determinant_of n) after × (n < 65536)
unfolding determinant forward determinant_of
det_back l cut p [] n after h e = grind (arith, nat_tests)
det_back l cut p (x ∷ []) n after h e = (record { split = grind (arith, nat_tests); place = grind (arith, nat_tests) }, grind (arith, nat_tests))
det_back l cut p (x ∷ y ∷ []) n after h e =
    let hx = h 0 in let hy = h 1 in
    (record { split = grind (arith, nat_tests); place = grind (arith, nat_tests) }, grind (arith, nat_tests))
det_back l cut p (x ∷ y ∷ z ∷ xs) n after h e =
    let hx = h 0 in let hy = h 1 in let hz = h 2 in
    (record { split = grind (arith, nat_tests); place = grind (arith, nat_tests) }, grind (arith, nat_tests))

det-forth : (l : Layer) (cut : Cause) (p : ℕ) (n : ℕ) (rest : List ℕ) → n < 65536 → determinant l cut (from p (determinant_of n ++ rest)) ≡ Ok (n, from (p + length (determinant_of n)) rest)
unfolding determinant forward determinant_of
det-forth l cut p n rest h = grind (arith, nat_tests)

-- there is one determinant to a length
pub determinant-codec : (l : Layer) (cut : Cause) → Codec (determinant l cut) determinant_of (λ n. n < 65536)
determinant-codec l cut = record { back = det_back l cut; forth = det-forth l cut }

-- n bytes as they stand
pub bytes-codec : (cut : At → Fault) (n : ℕ) → Codec (λ a. next_bytes (cut a) n a) (λ s. s) (λ s. length s ≡ n)
unfolding forward
bytes-codec cut n = record {
  back = λ p xs s after h e.
      let fits : n ≤ length xs = grind (arith, nat_tests) in
      let value : take n xs ≡ s = grind (arith, nat_tests) in
      let place : from (p + n) (drop n xs) ≡ after = grind (arith, nat_tests) in
      let long : length s ≡ n = sym (ap length value) ∙ length-take-le n xs fits in (
        record {
          split = sym (take-append-drop n xs) ∙ ap (λ l. l ++ drop n xs) value ∙ ap (λ b. s ++ b.rest) place;
          place = sym (ap (λ b. b.place) place) ∙ ap (λ k. p + k) (sym long);
        },
        long,
      );
  forth = λ p s rest f.
      let fits : n ≤ length (s ++ rest) = simp length-append (omega arith) in
      let front = take_at s rest n f in
      let back = drop_at s rest n f in
      grind (arith, nat_tests);
}

pub fixed-codec : (n : ℕ) → Codec (fixed n) (λ s. s) (λ s. length s ≡ n)
fixed-codec n = bytes-codec (fault_at Field CutShort) n

-- a field behind its determinant
pub field-codec : (max : ℕ) → max < 65536 → Codec (field max) field_bytes (λ s. length s ≤ max)
unfolding field
field-codec max small =
    codec-fits
    (codec-then (determinant-codec Field CutShort) length (λ _. Unit {0})
    (λ a n. codec-fits (codec-unless (bytes-codec (λ _. fault_at Field CutShort a) n) (ltb max n) _)
    (λ s. (Unit {0} × (n ≡ length s)) × (length s ≤ max))
    (λ s h. ((tt, sym h.1), omega (arith, ltb-false _ _ h.0, h.1)))
    (λ s h. (le-ltb _ _ (omega (arith, h.0.1, h.1)), sym h.0.1))))
    (λ s. length s ≤ max)
    (λ s h. h.1.1)
    (λ s h. (tt, (omega arith, h)))

-- a test of what was read
tested-passed : (test : List ℕ → Bool) (f : Fault) (s : List ℕ) (b : At) (y : List ℕ) (c : At) → tested test f s b ≡ Ok (y, c) → (s ≡ y) × (b ≡ c) × (test y ≡ true)
tested-passed test f s b y c e =
    let good : test s ≡ true = grind (arith, nat_tests) in
    let t = same_ok s y b c (grind (arith, nat_tests)) in
    (t.0, t.1, ap test (sym t.0) ∙ good)

codec-tested : {read : At → Read (List ℕ)} {bytes : List ℕ → List ℕ} {F : List ℕ → Type 0} → Codec read bytes F → (test : List ℕ → Bool) (f : At → Fault) → Codec (λ a. and_then (read a) (tested test (f a))) bytes (λ s. F s × (test s ≡ true))
codec-tested {F = F} c test f =
    codec-meant c (λ s. s) (λ s. F s × (test s ≡ true)) (λ a. tested test (f a))
    (λ a s b y d fits e. let t = tested-passed test (f a) s b y d e in (t.0, t.1, (subst F t.0 fits, t.2)))
    (λ a s b k. (k.0, grind (arith, nat_tests)))

-- a test that fails wherever the field does not fit
codec-only : {read : At → Read (List ℕ)} {bytes : List ℕ → List ℕ} {F : List ℕ → Type 0} → Codec read bytes F → (test : List ℕ → Bool) (f : At → Fault) → ((s : List ℕ) → test s ≡ true → F s) → Codec (λ a. and_then (read a) (tested test (f a))) bytes (λ s. test s ≡ true)
codec-only c test f fits = codec-fits (codec-tested c test f) (λ s. test s ≡ true) (λ s h. h.1) (λ s h. (fits s h, h))

pub code-long : (s : List ℕ) → is_code s ≡ true → length s ≡ 3
code-long s e = grind (arith, nat_tests)

pub trigger-short : (s : List ℕ) → is_trigger s ≡ true → length s ≤ 1023
trigger-short s e =
    ⊎_elim (λ none. grind (arith, nat_tests)) (address-short s) (or_cases (eqb (length s) 0) (is_address s) e)

pub code-codec : Codec read_code (λ s. s) (λ s. is_code s ≡ true)
unfolding read_code
code-codec = codec-only (fixed-codec 3) is_code (fault_at Field BadCode) code-long

pub destination-codec : Codec read_destination field_bytes (λ s. is_address s ≡ true)
unfolding read_destination
destination-codec = codec-only (field-codec 1023 (lit< tt)) is_address (fault_at Address InvalidAddress) address-short

pub trigger-codec : Codec read_trigger field_bytes (λ s. is_trigger s ≡ true)
unfolding read_trigger
trigger-codec = codec-only (field-codec 1023 (lit< tt)) is_trigger (fault_at Address InvalidAddress) trigger-short

-- an instant and its digits
instant-passed : (f : Fault) (b : At) (o : Option ℕ) (i : ℕ) (c : At) → instant_or f b o ≡ Ok (i, c) → (o ≡ Some i) × (b ≡ c)
instant-passed f b (Some j) i c e = let t = same_ok j i b c e in (ap Some t.0, t.1)
instant-passed f b None i c e = grind arith

pub expiry-codec : Codec read_expiry digits_of (λ i. i ≤ last_instant)
unfolding read_expiry
expiry-codec =
    codec-meant (fixed-codec 17) digits_of (λ i. i ≤ last_instant) (λ a s b. instant_or (fault_at Calendar InvalidInstant a) b (instant_of s))
    (λ a s b i c fits e.
    let t = instant-passed (fault_at Calendar InvalidInstant a) b (instant_of s) i c e in
    let one = one-timestamp.back s i t.0 in
    (one.0, t.1, one.1))
    (λ a i b k. (one-timestamp.seventeen i, ap (instant_or (fault_at Calendar InvalidInstant a) b) (one-timestamp.forth i k)))

-- a number and its eight bytes
pub amount-long : (n : ℕ) → length (amount_bytes n) ≡ 8
unfolding amount_bytes
amount-long n = refl

amount-number : (n : ℕ) → n < 2 ^ 64 → number (amount_bytes n) ≡ n
unfolding amount_bytes
amount-number n h = omega arith

amount-eight : (a b c d e f g h : ℕ) → Bytes (a ∷ b ∷ c ∷ d ∷ e ∷ f ∷ g ∷ h ∷ []) → (amount_bytes (number (a ∷ b ∷ c ∷ d ∷ e ∷ f ∷ g ∷ h ∷ [])) ≡ a ∷ b ∷ c ∷ d ∷ e ∷ f ∷ g ∷ h ∷ []) × (number (a ∷ b ∷ c ∷ d ∷ e ∷ f ∷ g ∷ h ∷ []) < 2 ^ 64)
unfolding amount_bytes
amount-eight a b c d e f g h low =
    let la = low 0 in let lb = low 1 in let lc = low 2 in let ld = low 3 in
    let le = low 4 in let lf = low 5 in let lg = low 6 in let lh = low 7 in
    let n : ℕ = number (a ∷ b ∷ c ∷ d ∷ e ∷ f ∷ g ∷ h ∷ []) in
    let ea : n / 72057594037927936 % 256 ≡ a = omega arith in
    let eb : n / 281474976710656 % 256 ≡ b = omega arith in
    let ec : n / 1099511627776 % 256 ≡ c = omega arith in
    let ed : n / 4294967296 % 256 ≡ d = omega arith in
    let ee : n / 16777216 % 256 ≡ e = omega arith in
    let ef : n / 65536 % 256 ≡ f = omega arith in
    let eg : n / 256 % 256 ≡ g = omega arith in
    let eh : n % 256 ≡ h = omega arith in
    (λ i. ea i ∷ eb i ∷ ec i ∷ ed i ∷ ee i ∷ ef i ∷ eg i ∷ eh i ∷ [], omega arith)

amount-digits : (s : List ℕ) → length s ≡ 8 → Bytes s → (amount_bytes (number s) ≡ s) × (number s < 2 ^ 64)
amount-digits [] long low = absurd (omega arith)
amount-digits (a ∷ []) long low = absurd (omega arith)
amount-digits (a ∷ b ∷ []) long low = absurd (omega arith)
amount-digits (a ∷ b ∷ c ∷ []) long low = absurd (omega arith)
amount-digits (a ∷ b ∷ c ∷ d ∷ []) long low = absurd (omega arith)
amount-digits (a ∷ b ∷ c ∷ d ∷ e ∷ []) long low = absurd (omega arith)
amount-digits (a ∷ b ∷ c ∷ d ∷ e ∷ f ∷ []) long low = absurd (omega arith)
amount-digits (a ∷ b ∷ c ∷ d ∷ e ∷ f ∷ g ∷ []) long low = absurd (omega arith)
amount-digits (a ∷ b ∷ c ∷ d ∷ e ∷ f ∷ g ∷ h ∷ []) long low = amount-eight a b c d e f g h low
amount-digits (a ∷ b ∷ c ∷ d ∷ e ∷ f ∷ g ∷ h ∷ x ∷ xs) long low = absurd (omega arith)

amount-back : (p : ℕ) (xs : List ℕ) (n : ℕ) (after : At) → Bytes xs → read_amount (from p xs) ≡ Ok (n, after) → Front p xs (amount_bytes n) after × (n < 2 ^ 64)
unfolding read_amount
amount-back p xs n after low e =
    let s = split-then (fixed 8 (from p xs)) (λ l b. Ok (number l, b)) n after e in
    let one = (fixed-codec 8).back p xs s.0 s.1 low s.2 in
    let t = same_ok (number s.0) n s.1 after s.3 in
    let d = amount-digits s.0 one.1 (bytes-front xs s.0 _ one.0.split low) in
    let same : s.0 ≡ amount_bytes n = sym d.0 ∙ ap amount_bytes t.0 in (
      subst (λ b. Front p xs (amount_bytes n) b) t.1 (subst (λ l. Front p xs l s.1) same one.0),
      subst (λ k. k < 2 ^ 64) t.0 d.1,
    )

amount-forth : (p : ℕ) (n : ℕ) (rest : List ℕ) → n < 2 ^ 64 → read_amount (from p (amount_bytes n ++ rest)) ≡ Ok (n, from (p + length (amount_bytes n)) rest)
unfolding read_amount
amount-forth p n rest h =
    rw ((fixed-codec 8).forth p (amount_bytes n) rest (amount-long n)) (ap (λ k. Ok (k, from (p + length (amount_bytes n)) rest)) (amount-number n h))

pub amount-codec : Codec read_amount amount_bytes (λ n. n < 2 ^ 64)
amount-codec = record { back = amount-back; forth = amount-forth }
