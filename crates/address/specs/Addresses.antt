-- What an address and a route prefix are. Assumes nothing.
use Rattle.std.specs.Prelude.{ℕ, Bool, true, false, cond, ◌&&◌, ◌||◌, List, [], ◌∷◌, length, codes, ◌==◌, nat_le, nat_lt}
use Rattle.std.specs.Str.{bytes_eq}

-- the byte of a dot
abbrev pub dot : ℕ
dot = 46

abbrev pub is_scheme : List ℕ → Bool
is_scheme s =
    bytes_eq s (codes "g") || bytes_eq s (codes "private") || bytes_eq s (codes "example") || bytes_eq s (codes "peer")
    || bytes_eq s (codes "self") || bytes_eq s (codes "test") || bytes_eq s (codes "test1") || bytes_eq s (codes "test2")
    || bytes_eq s (codes "test3") || bytes_eq s (codes "local")

abbrev pub within : ℕ → ℕ → ℕ → Bool
within low high b = nat_le low b && nat_le b high

-- a letter, a digit, `_`, `~` or `-`
abbrev pub is_symbol : ℕ → Bool
is_symbol b = within 65 90 b || within 97 122 b || within 48 57 b || b == 95 || b == 126 || b == 45

abbrev pub all_symbols : List ℕ → Bool
all_symbols [] = true
all_symbols (b ∷ bs) = is_symbol b && all_symbols bs

-- one or more symbols
abbrev pub is_segment : List ℕ → Bool
is_segment s = nat_lt 0 (length s) && all_symbols s

abbrev pub all_segments : List (List ℕ) → Bool
all_segments [] = true
all_segments (p ∷ ps) = is_segment p && all_segments ps

-- the parts between the dots: one more than there are dots
abbrev pub longer_first : ℕ → List (List ℕ) → List (List ℕ)
longer_first b [] = (b ∷ []) ∷ []
longer_first b (p ∷ ps) = (b ∷ p) ∷ ps

abbrev pub parts : List ℕ → List (List ℕ)
parts [] = [] ∷ []
parts (b ∷ bs) = cond (b == dot) ([] ∷ parts bs) (longer_first b (parts bs))

-- zero or more segments, each behind a dot
abbrev pub rest_segments : List ℕ → Bool
rest_segments [] = true
rest_segments (b ∷ bs) = b == dot && all_segments (parts bs)

-- a scheme and zero or more segments
abbrev pub scheme_first : List (List ℕ) → Bool
scheme_first [] = false
scheme_first (p ∷ ps) = is_scheme p && all_segments ps

-- a scheme and one or more segments
abbrev pub scheme_and_more : List (List ℕ) → Bool
scheme_and_more [] = false
scheme_and_more (p ∷ []) = false
scheme_and_more (p ∷ q ∷ ps) = scheme_first (p ∷ q ∷ ps)

-- an address: at most 1,023 bytes
unfoldable pub is_address : List ℕ → Bool
is_address s = nat_le (length s) 1023 && scheme_and_more (parts s)

-- a prefix of a route
unfoldable pub is_prefix : List ℕ → Bool
is_prefix s = length s == 0 || scheme_first (parts s)
