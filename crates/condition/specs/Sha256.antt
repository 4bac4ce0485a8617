-- SHA-256, by FIPS 180-4, of 32 bytes, which with their padding are one block.
-- A word is a number below 2 ^ 32, a byte one below 256; a list has its first element at index 0.
-- Assumes nothing.
use Rattle.std.specs.Prelude.{ℕ, zero, suc, ◌+◌, ◌-◌, ◌*◌, ◌/◌, ◌%◌, ◌^◌, cond, List, [], ◌∷◌, ◌++◌, replicate, bit_and, bit_or, bit_xor, nat_lt, slice_index}
use Rattle.condition.specs.declared.sha256.state.State.{State}

-- Section 3.2, operations on words. Addition modulo 2 ^ 32
infixl 20 ◌⊞◌
abbrev pub ◌⊞◌ : ℕ → ℕ → ℕ
x ⊞ y = (x + y) % 2 ^ 32

-- SHR, the shift to the right by n bits
abbrev pub shr : ℕ → ℕ → ℕ
shr n x = x / 2 ^ n

-- ROTR, the rotation to the right by n bits, for n from 1 to 31
abbrev pub rotr : ℕ → ℕ → ℕ
rotr n x = bit_or (x / 2 ^ n) (x * 2 ^ (32 - n) % 2 ^ 32)

-- each bit of the word inverted
abbrev pub complement : ℕ → ℕ
complement x = 2 ^ 32 - 1 - x

-- Section 4.1.2, the functions. Each bit of x chooses between those of y and z
abbrev pub Ch : ℕ → ℕ → ℕ → ℕ
Ch x y z = bit_xor (bit_and x y) (bit_and (complement x) z)

-- each bit is the one that most of x, y and z have
abbrev pub Maj : ℕ → ℕ → ℕ → ℕ
Maj x y z = bit_xor (bit_xor (bit_and x y) (bit_and x z)) (bit_and y z)

-- the two large sigmas, of the rounds
abbrev pub Σ₀ : ℕ → ℕ
Σ₀ x = bit_xor (bit_xor (rotr 2 x) (rotr 13 x)) (rotr 22 x)

abbrev pub Σ₁ : ℕ → ℕ
Σ₁ x = bit_xor (bit_xor (rotr 6 x) (rotr 11 x)) (rotr 25 x)

-- the two small sigmas, of the schedule
abbrev pub σ₀ : ℕ → ℕ
σ₀ x = bit_xor (bit_xor (rotr 7 x) (rotr 18 x)) (shr 3 x)

abbrev pub σ₁ : ℕ → ℕ
σ₁ x = bit_xor (bit_xor (rotr 17 x) (rotr 19 x)) (shr 10 x)

-- Section 4.2.2, the constants K, one to a round: the first 32 bits of the fractions of the cube roots of the first 64 primes
abbrev pub constants : List ℕ
constants =
    0x428a_2f98 ∷ 0x7137_4491 ∷ 0xb5c0_fbcf ∷ 0xe9b5_dba5 ∷ 0x3956_c25b ∷ 0x59f1_11f1 ∷ 0x923f_82a4 ∷ 0xab1c_5ed5 ∷
    0xd807_aa98 ∷ 0x1283_5b01 ∷ 0x2431_85be ∷ 0x550c_7dc3 ∷ 0x72be_5d74 ∷ 0x80de_b1fe ∷ 0x9bdc_06a7 ∷ 0xc19b_f174 ∷
    0xe49b_69c1 ∷ 0xefbe_4786 ∷ 0x0fc1_9dc6 ∷ 0x240c_a1cc ∷ 0x2de9_2c6f ∷ 0x4a74_84aa ∷ 0x5cb0_a9dc ∷ 0x76f9_88da ∷
    0x983e_5152 ∷ 0xa831_c66d ∷ 0xb003_27c8 ∷ 0xbf59_7fc7 ∷ 0xc6e0_0bf3 ∷ 0xd5a7_9147 ∷ 0x06ca_6351 ∷ 0x1429_2967 ∷
    0x27b7_0a85 ∷ 0x2e1b_2138 ∷ 0x4d2c_6dfc ∷ 0x5338_0d13 ∷ 0x650a_7354 ∷ 0x766a_0abb ∷ 0x81c2_c92e ∷ 0x9272_2c85 ∷
    0xa2bf_e8a1 ∷ 0xa81a_664b ∷ 0xc24b_8b70 ∷ 0xc76c_51a3 ∷ 0xd192_e819 ∷ 0xd699_0624 ∷ 0xf40e_3585 ∷ 0x106a_a070 ∷
    0x19a4_c116 ∷ 0x1e37_6c08 ∷ 0x2748_774c ∷ 0x34b0_bcb5 ∷ 0x391c_0cb3 ∷ 0x4ed8_aa4a ∷ 0x5b9c_ca4f ∷ 0x682e_6ff3 ∷
    0x748f_82ee ∷ 0x78a5_636f ∷ 0x84c8_7814 ∷ 0x8cc7_0208 ∷ 0x90be_fffa ∷ 0xa450_6ceb ∷ 0xbef9_a3f7 ∷ 0xc671_78f2 ∷
    []

-- a word as four bytes, the highest first
abbrev pub bytes_of : ℕ → List ℕ
bytes_of x = x / 2 ^ 24 % 256 ∷ x / 2 ^ 16 % 256 ∷ x / 2 ^ 8 % 256 ∷ x % 256 ∷ []

-- Section 5.1.1, the padding of 32 bytes to 64: a bit 1 and seven bits 0, which are the byte 80 (hex), 23 zero bytes, and the
-- length in bits, 256, as 8 bytes, the highest first
unfoldable pub padded : List ℕ → List ℕ
padded input = input ++ (0x80 ∷ (replicate 23 0 ++ (bytes_of 0 ++ bytes_of 256)))

-- Section 5.2.1, the word t of a block: four bytes, the first of them the highest
abbrev pub block_word : List ℕ → ℕ → ℕ
block_word b t = slice_index b (4 * t) * 2 ^ 24 + slice_index b (4 * t + 1) * 2 ^ 16 + slice_index b (4 * t + 2) * 2 ^ 8 + slice_index b (4 * t + 3)

-- Section 5.3.3, the initial hash value: the first 32 bits of the fractions of the square roots of the first 8 primes
unfoldable pub initial : State
initial = record {
  a = 0x6a09_e667;
  b = 0xbb67_ae85;
  c = 0x3c6e_f372;
  d = 0xa54f_f53a;
  e = 0x510e_527f;
  f = 0x9b05_688c;
  g = 0x1f83_d9ab;
  h = 0x5be0_cd19;
}

-- Section 6.2.2, step 1, the schedule. The word t, for t from 16 on, from words before it
abbrev pub next_word : List ℕ → ℕ → ℕ
next_word w t = σ₁ (slice_index w (t - 2)) ⊞ slice_index w (t - 7) ⊞ σ₀ (slice_index w (t - 15)) ⊞ slice_index w (t - 16)

-- the word t, of the block b or from the words w before it
abbrev pub schedule_word : List ℕ → List ℕ → ℕ → ℕ
schedule_word b w t = cond (nat_lt t 16) (block_word b t) (next_word w t)

-- the first t words of the schedule of the block b
unfoldable pub schedule : List ℕ → ℕ → List ℕ
schedule b zero = []
schedule b (suc t) = schedule b t ++ (schedule_word b (schedule b t) t ∷ [])

-- steps 2 and 3, the rounds. The two sums of a round, with its constant k and its word w
abbrev pub temp1 : ℕ → ℕ → State → ℕ
temp1 k w s = s.h ⊞ Σ₁ s.e ⊞ Ch s.e s.f s.g ⊞ k ⊞ w

abbrev pub temp2 : State → ℕ
temp2 s = Σ₀ s.a ⊞ Maj s.a s.b s.c

-- one round
abbrev pub round : ℕ → ℕ → State → State
round k w s =
    record {
      a = temp1 k w s ⊞ temp2 s;
      b = s.a;
      c = s.b;
      d = s.c;
      e = s.d ⊞ temp1 k w s;
      f = s.e;
      g = s.f;
      h = s.g;
    }

-- the first t rounds from s, over the schedule w
unfoldable pub rounds : List ℕ → ℕ → State → State
rounds w zero s = s
rounds w (suc t) s = round (slice_index constants t) (slice_index w t) (rounds w t s)

-- step 4, the sums of two states, word by word
unfoldable pub added : State → State → State
added s t =
    record {
      a = s.a ⊞ t.a;
      b = s.b ⊞ t.b;
      c = s.c ⊞ t.c;
      d = s.d ⊞ t.d;
      e = s.e ⊞ t.e;
      f = s.f ⊞ t.f;
      g = s.g ⊞ t.g;
      h = s.h ⊞ t.h;
    }

-- words as bytes, one word after another
unfoldable pub joined : List ℕ → List ℕ
joined [] = []
joined (w ∷ ws) = bytes_of w ++ joined ws

-- the digest of a hash value: its eight words one after another
unfoldable pub output : State → List ℕ
output s = joined (s.a ∷ s.b ∷ s.c ∷ s.d ∷ s.e ∷ s.f ∷ s.g ∷ s.h ∷ [])

-- the digest of 32 bytes: 64 rounds over the schedule of their block, added to the initial hash value
unfoldable pub sha256 : List ℕ → List ℕ
sha256 input = output (added (rounds (schedule (padded input) 64) 64 initial) initial)
