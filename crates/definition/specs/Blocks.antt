-- docs/SCOPE.md, 'Masks, pieces and stretches'. A mask's bit k is block k of a row of blocks; 1 leaves the block.
use Rattle.std.specs.Prelude.{Bool, cond, not, ◌||◌, List, ℕ, zero, suc, ◌+◌, ◌-◌, ◌*◌, ◌/◌, eqb, get_or}
use Rattle.definition.specs.Numbers.{bit_set}

-- samples to a block's side
abbrev pub side : ℕ
side = 4

-- of four numbers for each block row the first is used
abbrev pub mask_at : List ℕ → ℕ → ℕ
mask_at skip y = get_or skip (4 * (y / side)) 0

abbrev pub masked : ℕ → ℕ → Bool
masked mask bx = bit_set mask bx

-- The pieces of one row: a piece is four neighbouring samples of one row in one unmasked block, so there are as many as clear bits below bw.
unfoldable pub clear_below : ℕ → ℕ → ℕ
clear_below mask zero = 0
clear_below mask (suc bw) = cond (masked mask bw) 0 1 + clear_below mask bw

-- the pieces of rows k, k + 1, .. , k + n - 1
unfoldable pub pieces_of : List ℕ → ℕ → ℕ → ℕ → ℕ
pieces_of skip bw k zero = 0
pieces_of skip bw k (suc n) = clear_below (mask_at skip k) bw + pieces_of skip bw (suc k) n

-- the first block from a on, of n, of which a test holds; a + n where there is none
unfoldable pub first_of : (ℕ → Bool) → ℕ → ℕ → ℕ
first_of test a zero = a
first_of test a (suc n) = cond (test a) a (first_of test (suc a) n)

-- the first masked block from bx on, else bw: where a stretch of unmasked blocks ends
abbrev pub stretch_end : ℕ → ℕ → ℕ → ℕ
stretch_end mask bx bw = first_of (masked mask) bx (bw - bx)

-- the first unmasked block from bx on, else bw: where the next stretch starts
abbrev pub stretch_start : ℕ → ℕ → ℕ → ℕ
stretch_start mask bx bw = first_of (λ k. not (masked mask k)) bx (bw - bx)

-- a stretch of one class ends at the first masked block or other class
abbrev pub class_end : ℕ → List ℕ → ℕ → ℕ → ℕ
class_end mask classes start bw =
    first_of (λ k. masked mask k || not (eqb (get_or classes k 0) (get_or classes start 0))) (start + 1) (bw - (start + 1))
