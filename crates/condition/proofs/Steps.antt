-- The definition of SHA-256 one word further, its rounds as one fold, and its padding as two writes into a block of
-- zeros.
-- Assumes nothing.
use Rattle.std.proofs.Common.{◌≡◌, ℕ, zero, suc, sym, ◌∙◌, ◌+◌, ◌-◌, ◌<◌, ◌≤◌, List, [], ◌∷◌, ◌++◌, length, get_or, take, set, replicate, refl, ap, add-one, arith, rules}
use Rattle.std.proofs.lemmas.List.{take_all, get_or-take, set-append_right, take_more_set}
use Rattle.std.specs.List.{fold, zip}
use Rattle.std.proofs.lemmas.List.Sums.{fold_more}
use Rattle.std.proofs.lemmas.Slice.Zip.{get_or-zip, length-zip}
use Rattle.condition.specs.declared.sha256.state.State.{State}
use Rattle.condition.specs.Sha256.{constants, next_word, padded, round, rounds, schedule, schedule_word}

-- a round by a pair of a constant and a word
abbrev pub pair_round : State → ℕ × ℕ → State
pair_round s p = round p.0 p.1 s

rounds-take : (w : List ℕ) (t : ℕ) (s : State) → length w ≡ 64 → t ≤ 64 → rounds w t s ≡ fold pair_round s (take t (zip constants w))
unfolding rounds
rounds-take w zero s n l = refl
rounds-take w (suc t) s n l =
    let there : t < 64 = omega arith in
    let long : length (zip constants w) ≡ 64 = length-zip constants w ∙ omega arith in
    ap (round (get_or constants t 0) (get_or w t 0)) (rounds-take w t s n (omega arith))
    ∙ sym (ap (pair_round (fold pair_round s (take t (zip constants w)))) (get_or-zip constants w t (0, 0) there (omega arith)))
    ∙ sym (rw (← add-one t) (fold_more pair_round s (zip constants w) t (0, 0) (omega arith)))

-- the rounds as one fold over the constants and the words
pub rounds-fold : (w : List ℕ) (s : State) → length w ≡ 64 → fold pair_round s (zip constants w) ≡ rounds w 64 s
rounds-fold w s n = let long : length (zip constants w) ≤ 64 = omega (arith, length-zip constants w) in sym (rounds-take w 64 s n (omega arith) ∙ ap (fold pair_round s) (take_all 64 (zip constants w) long))

pub schedule-more : (b : List ℕ) (t : ℕ) → schedule b (t + 1) ≡ schedule b t ++ (schedule_word b (schedule b t) t ∷ [])
unfolding schedule
schedule-more b t = rw add-one

-- a word of the schedule reads only words before it
next-take : (w : List ℕ) (t : ℕ) → 16 ≤ t → next_word (take t w) t ≡ next_word w t
next-take w t h =
    let h2 : t - 2 < t = omega arith in
    let h7 : t - 7 < t = omega arith in
    let h15 : t - 15 < t = omega arith in
    let h16 : t - 16 < t = omega arith in
    rw (get_or-take t w (t - 2) 0 h2, get_or-take t w (t - 7) 0 h7, get_or-take t w (t - 15) 0 h15, get_or-take t w (t - 16) 0 h16)

word-take : (b w : List ℕ) (t : ℕ) → schedule_word b (take t w) t ≡ schedule_word b w t
word-take b w t = search (rules, next-take)

-- a turn of the schedule's loop
pub schedule-step : (b w : List ℕ) (t v : ℕ) → t < length w → take t w ≡ schedule b t → v ≡ schedule_word b w t
    → take (t + 1) (set w t v) ≡ schedule b (t + 1)
schedule-step b w t v h e is =
    let p = take_more_set w t v h in
    let q = schedule-more b t in
    let r = word-take b w t in
    cc

pub padded-is : (x : List ℕ) → length x ≡ 32 → set (set (x ++ replicate 32 0) 32 0x80) 62 1 ≡ padded x
unfolding padded
padded-is x h =
    let le : 32 ≤ 32 = omega arith in
    let more : 32 ≤ 62 = omega arith in
    rw (set-append_right x _ 32 32 0x80, set-append_right x _ 32 62 1)
