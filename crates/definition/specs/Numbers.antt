-- docs/SCOPE.md, 'Numbers': the arithmetic. Sums and products of ℤ are exact; a shift right by n rounds down, which is `shr_z _ (2 ^ n)`.
use Rattle.std.specs.Prelude.{Bool, cond, List, ℕ, zero, suc, ◌+◌, ◌/◌, ◌%◌, ◌^◌, min, eqb, ℤ, pos, negsuc, ◌+ℤ◌, get_or}
use Rattle.std.specs.Int.Signed.{lt_z}

-- the larger and the smaller of two numbers
abbrev pub max_z : ℤ → ℤ → ℤ
max_z a b = cond (lt_z a b) b a

abbrev pub min_z : ℤ → ℤ → ℤ
min_z a b = cond (lt_z b a) b a

-- v brought into lo .. hi; where hi is below lo, the test against lo comes first
abbrev pub clip_z : ℤ → ℤ → ℤ → ℤ
clip_z lo hi v = cond (lt_z v lo) lo (cond (lt_z hi v) hi v)

-- the ends of an i32, and v clipped to it
abbrev pub least_i32 : ℤ
least_i32 = negsuc 2147483647

abbrev pub most_i32 : ℤ
most_i32 = pos 2147483647

abbrev pub to_i32 : ℤ → ℤ
to_i32 v = clip_z least_i32 most_i32 v

-- a number below 0 is raised to 0
abbrev pub raised : ℤ → ℕ
raised (pos n) = n
raised (negsuc n) = 0

-- a number clipped to 0 .. limit
abbrev pub clip_to : ℕ → ℤ → ℕ
clip_to limit v = min (raised v) limit

-- f 0 + f 1 + .. + f (n - 1)
unfoldable pub sum_z : ℕ → (ℕ → ℤ) → ℤ
sum_z zero f = pos 0
sum_z (suc n) f = sum_z n f +ℤ f n

unfoldable pub sum_n : ℕ → (ℕ → ℕ) → ℕ
sum_n zero f = 0
sum_n (suc n) f = sum_n n f + f n

-- what stands at a place, and 0 where there is no such place
abbrev pub byte_at : List ℕ → ℤ → ℕ
byte_at l (pos n) = get_or l n 0
byte_at l (negsuc n) = 0

-- whether bit k of m is 1
abbrev pub bit_set : ℕ → ℕ → Bool
bit_set m k = eqb (m / 2 ^ k % 2) 1
