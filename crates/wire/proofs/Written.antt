-- One write after another. Assumes nothing.
use Rattle.std.proofs.Common.{◌≡◌, ℕ, ◌+◌, ◌≤◌, List, ◌++◌, length, take, drop, sym, refl, ap, ◌∙◌, subst, append_assoc, zero-add, arith}
use borrow.Rule.Slice.PartMut.{put_mid}
use Rattle.std.proofs.lemmas.List.{take_at, drop_at, drop-drop, length-append, length-take-le}
use Rattle.std.proofs.lemmas.Bool.Decides.{nat_tests}
use Rattle.wire.specs.Writing.{Wrote, Written, determinant_of}

-- a part of a buffer that was written over whole
pub wrote-part : (old part bytes : List ℕ) (a k : ℕ) → part ≡ bytes → k ≡ length bytes → Wrote old a bytes (put_mid a k old part) (a + length bytes)
wrote-part old part bytes a k e f = record { is = rw (e, f, drop-drop); end = refl }

-- a second write that begins where the first ended
pub wrote_then : {b m a xs ys : List ℕ} {p q r : ℕ} → q ≤ length b → Wrote b p xs m q → Wrote m q ys a r → Wrote b p (xs ++ ys) a r
wrote_then {b} {m} {a} {xs} {ys} {p} {q} {r} fits first second =
    let front : length (take p b ++ xs) ≡ q = simp (length-append, length-take-le p b (omega arith)) (omega arith) in
    let split = first.is ∙ sym (append_assoc (take p b) xs (drop (p + length xs) b)) in
    let kept : take q m ≡ take p b ++ xs = ap (take q) split ∙ take_at (take p b ++ xs) _ q front in
    let left : drop q m ≡ drop (p + length xs) b = ap (drop q) split ∙ drop_at (take p b ++ xs) _ q front in
    let rest : drop (q + length ys) m ≡ drop (p + length (xs ++ ys)) b =
    sym (drop-drop (length ys) q m) ∙ ap (drop (length ys)) left ∙ drop-drop (length ys) (p + length xs) b ∙ ap (λ n. drop n b) (simp length-append (omega arith)) in
    record { is = second.is ∙ rw (kept, rest) (simp append_assoc); end = simp length-append (omega arith) }

pub wrote_as : {b a xs ys : List ℕ} {p q : ℕ} → xs ≡ ys → Wrote b p xs a q → Wrote b p ys a q
wrote_as {b} {a} {p = p} {q = q} e h = subst (λ l. Wrote b p l a q) e h

-- what is written from the first place on stands in front
pub written : {b a xs : List ℕ} {n : ℕ} → Wrote b 0 xs a n → Written b xs a n
written h = record { is = rw zero-add at h.is; end = omega arith }

pub determinant-short : (n : ℕ) → length (determinant_of n) ≤ 3
unfolding determinant_of
determinant-short n = grind (arith, nat_tests)

-- what a writer wrote from its start on stands in front of the buffer that it was over
pub written_over : {b c a d xs ys : List ℕ} {p q n : ℕ} → c ≡ b → p ≡ 0 → n ≡ q → xs ≡ ys → Wrote c p xs a q → d ≡ a → Written b ys d n
written_over {b} {c} {a} {d} {xs} {ys} {p} {q} {n} same start end bytes h last =
    let front = rw (same, start) at h in
    let w = written front in
    record { is = last ∙ subst (λ l. a ≡ l ++ drop (length l) b) bytes w.is; end = end ∙ subst (λ l. q ≡ length l) bytes w.end }
