-- A reading and a writing that undo each other, and how two of them make a third. Assumes nothing.
use Rattle.std.proofs.Common.{◌≡◌, ℕ, ◌+◌, ◌<◌, Bool, true, false, cond, List, ◌++◌, length, get_or, Ok, Err, sym, refl, ap, ◌∙◌, subst, ⊎_elim, append_assoc, arith, lit<}
use Rattle.std.proofs.lemmas.List.{length-append, get_or-append-add, get_or_append_left, get_or_past}
use Rattle.std.proofs.lemmas.Bool.{cases_lt}
use Rattle.wire.specs.declared.fault.Fault.{Fault}
use Rattle.wire.specs.Reading.{At, Read, and_then}
use Rattle.packet.specs.OneEncoding.{Bytes}

abbrev pub from : ℕ → List ℕ → At
from p xs = record { place = p; rest = xs }

-- what was read of xs: a front of it, and where the reading then stands
pub record Front (p : ℕ) (xs front : List ℕ) (after : At) : Type 0 where
  pub split : xs ≡ front ++ after.rest
  pub place : after.place ≡ p + length front

-- what is read is what would be written, and what is written is read again
pub record Codec {X : Type 0} (read : At → Read X) (bytes : X → List ℕ) (Fits : X → Type 0) : Type 0 where
  pub back : (p : ℕ) (xs : List ℕ) (x : X) (after : At) → Bytes xs → read (from p xs) ≡ Ok (x, after) → Front p xs (bytes x) after × Fits x
  pub forth : (p : ℕ) (x : X) (rest : List ℕ) → Fits x → read (from p (bytes x ++ rest)) ≡ Ok (x, from (p + length (bytes x)) rest)

-- a reading that came to its end has been through its first part
pub split-then : {X Y : Type 0} (r : Read X) (f : X → At → Read Y) (y : Y) (c : At) → and_then r f ≡ Ok (y, c) → (x : X) × (b : At) × (r ≡ Ok (x, b)) × (f x b ≡ Ok (y, c))
split-then (Ok x) f y c e = (x.0, x.1, refl, e)
split-then (Err d) f y c e = grind arith

pub same_ok : {X : Type 0} (x y : X) (b c : At) → ◌≡◌ {A = Read X} (Ok (x, b)) (Ok (y, c)) → (x ≡ y) × (b ≡ c)
same_ok {X} x y b c e =
    let both : ◌≡◌ {A = X × At} (x, b) (y, c) = cc e in
    (ap (λ v. v.0) both, ap (λ v. v.1) both)

pub bytes_rest : (xs ys zs : List ℕ) → xs ≡ ys ++ zs → Bytes xs → Bytes zs
bytes_rest xs ys zs e h i = subst (λ n. n < 256) (ap (λ l. get_or l (length ys + i) 0) e ∙ get_or-append-add ys zs i 0) (h (length ys + i))

pub bytes-front : (xs ys zs : List ℕ) → xs ≡ ys ++ zs → Bytes xs → Bytes ys
bytes-front xs ys zs e h i =
    ⊎_elim
    (λ low. subst (λ n. n < 256) (ap (λ l. get_or l i 0) e ∙ get_or_append_left ys zs 0 i low) (h i))
    (λ high. subst (λ n. n < 256) (sym (get_or_past ys i 0 high)) (lit< tt))
    (cases_lt i (length ys))

module _ {X : Type 0} {read : At → Read X} {bytes : X → List ℕ} {F : X → Type 0} (first : Codec read bytes F) where
  pub codec-fits : (G : X → Type 0) → ((x : X) → F x → G x) → ((x : X) → G x → F x) → Codec read bytes G
  codec-fits G to fro = record {
    back = λ p xs x after h e. let one = first.back p xs x after h e in (one.0, to x one.1);
    forth = λ p x rest g. first.forth p x rest (fro x g);
  }

  pub codec-unless : (t : Bool) (f : Fault) → Codec (λ a. cond t (Err f) (read a)) bytes (λ x. (t ≡ false) × F x)
  codec-unless true f = record { back = λ p xs x after h e. grind arith; forth = λ p x rest g. grind arith }
  codec-unless false f = codec-fits (λ x. (false ≡ false) × F x) (λ x h. (refl, h)) (λ x h. h.1)

  module _ {Y : Type 0} (part : Y → X) (K : Y → Type 0) where
    -- one after the other: `part` is what the first reads of the whole, and K what is known of the whole by then
    pub codec-then : {next : At → X → At → Read Y} {more : Y → List ℕ} {G : Y → Type 0} → ((a : At) (x : X) → Codec (next a x) more (λ y. (K y × (x ≡ part y)) × G y)) → Codec (λ a. and_then (read a) (next a)) (λ y. bytes (part y) ++ more y) (λ y. K y × (F (part y) × G y))
    codec-then {next} {more} {G} second = record {
      back = λ p xs y after h e.
          let s = split-then (read (from p xs)) (next (from p xs)) y after e in
          let one = first.back p xs s.0 s.1 h s.2 in
          let two = (second (from p xs) s.0).back s.1.place s.1.rest y after (bytes_rest xs _ _ one.0.split h) s.3 in
          let same = two.1.0.1 in
          let front = subst (λ x. Front p xs (bytes x) s.1) same one.0 in (
            record {
              split = front.split ∙ ap (λ l. bytes (part y) ++ l) two.0.split ∙ sym (append_assoc (bytes (part y)) (more y) after.rest);
              place = two.0.place ∙ simp length-append (omega (arith, front.place));
            },
            (two.1.0.0, (subst F same one.1, two.1.1)),
          );
      forth = λ p y rest f.
          rw (append_assoc (bytes (part y)) (more y) rest, first.forth p (part y) (more y ++ rest) f.1.0, (second _ (part y)).forth (p + length (bytes (part y))) y rest ((f.0, refl), f.1.1))
          (ap (λ n. Ok (y, from n rest)) (simp length-append (omega arith)));
    }

    -- the last part, from which the whole is made
    pub codec-last : (g : X → Y) → ((x : X) → part (g x) ≡ x) → ((x : X) → K (g x)) → ((y : Y) → K y → g (part y) ≡ y) → Codec (λ a. and_then (read a) (λ x b. Ok (g x, b))) (λ y. bytes (part y)) (λ y. K y × F (part y))
    codec-last g from-g known to-g = record {
      back = λ p xs y after h e.
          let s = split-then (read (from p xs)) (λ x b. Ok (g x, b)) y after e in
          let one = first.back p xs s.0 s.1 h s.2 in
          let ends = same_ok (g s.0) y s.1 after s.3 in
          let same : s.0 ≡ part y = sym (from-g s.0) ∙ ap part ends.0 in (
            subst (λ b. Front p xs (bytes (part y)) b) ends.1 (subst (λ x. Front p xs (bytes x) s.1) same one.0),
            (subst K ends.0 (known s.0), subst F same one.1),
          );
      forth = λ p y rest f. rw (first.forth p (part y) rest f.1) (ap (λ v. Ok (v, from (p + length (bytes (part y))) rest)) (to-g y f.0));
    }

    -- a part that stands for another value: `mean` takes the bytes to the value or to a fault
    pub codec-meant : (mean : At → X → At → Read Y) → ((a : At) (x : X) (b : At) (y : Y) (c : At) → F x → mean a x b ≡ Ok (y, c) → (x ≡ part y) × (b ≡ c) × K y) → ((a : At) (y : Y) (b : At) → K y → F (part y) × (mean a (part y) b ≡ Ok (y, b))) → Codec (λ a. and_then (read a) (mean a)) (λ y. bytes (part y)) K
    codec-meant mean passed passes = record {
      back = λ p xs y after h e.
          let s = split-then (read (from p xs)) (mean (from p xs)) y after e in
          let one = first.back p xs s.0 s.1 h s.2 in
          let t = passed (from p xs) s.0 s.1 y after one.1 s.3 in
          (subst (λ b. Front p xs (bytes (part y)) b) t.1 (subst (λ x. Front p xs (bytes x) s.1) t.0 one.0), t.2);
      forth = λ p y rest k.
          rw (first.forth p (part y) rest (passes (from p (bytes (part y) ++ rest)) y (from (p + length (bytes (part y))) rest) k).0)
          (passes (from p (bytes (part y) ++ rest)) y (from (p + length (bytes (part y))) rest) k).1;
    }
