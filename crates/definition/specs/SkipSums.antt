-- docs/SCOPE.md, 'The class index', the table of skip sums: the pattern of a block's nine noskip bits, the skip sum of each pattern, and the text that the sums are printed as.
use Rattle.std.specs.Prelude.{Bool, cond, List, [], ◌∷◌, ◌++◌, ℕ, ◌+◌, ◌*◌, ◌^◌, decimal}
use Rattle.std.specs.List.{flat_map}
use Rattle.definition.specs.Numbers.{sum_n, bit_set}
use Rattle.definition.specs.Rows.{tab}
use Rattle.definition.specs.ClassIndex.{share, noskip_bit}
use Rattle.definition.specs.Card.{newline}

-- nine bits, by row and column of 3 by 3, as a number: bit 0 is the upper left one, then row by row
unfoldable pub pattern_of : (ℕ → ℕ → Bool) → ℕ
pattern_of bit = sum_n 3 (λ i. sum_n 3 (λ j. cond (bit i j) (2 ^ (3 * i + j)) 0))

-- that of block (bx, by) of a unit with bh block rows, by its neighbours' columns and rows as they are clipped
abbrev pub skip_pattern : List ℕ → ℕ → ℕ → ℕ → ℕ
skip_pattern noskip bh bx by = pattern_of (noskip_bit noskip bh bx by)

-- THE SUM of a pattern: neighbour (i, j) adds its share where its bit is 0
unfoldable pub pattern_sum : ℕ → ℕ
pattern_sum p = sum_n 3 (λ i. sum_n 3 (λ j. cond (bit_set p (3 * i + j)) 0 (share i j)))

abbrev pub pattern_count : ℕ
pattern_count = 512

abbrev pub skip_sums : List ℕ
skip_sums = tab pattern_count pattern_sum

-- a decimal a line; what the program prints is `decimal_lines skip_sums`
abbrev pub decimal_lines : List ℕ → List ℕ
decimal_lines sums = flat_map (λ n. decimal n ++ (newline ∷ [])) sums
