-- The starred samples of docs/SCOPE.md, 'Samples': what the definition gives beside what is said there, one table under one proof that antt computes.
use Rattle.std.specs.Prelude.{Bool, true, false, cond, ◌&&◌, List, [], ◌∷◌, ◌≡◌, refl, ℕ, zero, suc, ◌+◌, ◌*◌, ◌%◌, eqb, ℤ, pos, negsuc, nat_abs, ◌+ℤ◌, get_or, replicate}
use Rattle.std.specs.Fmt.{digits}
use Rattle.definition.specs.Numbers.{sum_z, sum_n}
use Rattle.definition.specs.Sample.{limit8, rounded, luma_sum, luma_sample, pretrained_sample}
use Rattle.definition.specs.ClassIndex.{term, bin, feature, skip_sum, bins_of, index_of, class_bins, class_index}
use Rattle.definition.specs.Padding.{mixed}
use Rattle.definition.specs.Blocks.{clear_below, pieces_of}
use Rattle.definition.specs.Units.{sample_at, class_of, final_sample}
use Rattle.definition.specs.Card.{ascii, several, word_at, decimal_of, decimal_at, tap_at, pair_at, group_at, size_at, filter_at, skip_at, row_at, rows_at, lists_at, unit_at, meaning, restored_plane, filtered, row_text, rows_text, line_text, printed, card_answer}

-- what was worked out, and what the scope says
infix 20 ◌is◌
infix 20 ◌are◌
data Sample : Type 0 where
  ◌is◌ : ℕ → ℕ → Sample
  ◌are◌ : List ℕ → List ℕ → Sample

same : List ℕ → List ℕ → Bool
same [] [] = true
same [] (y ∷ ys) = false
same (x ∷ xs) [] = false
same (x ∷ xs) (y ∷ ys) = eqb x y && same xs ys

agree : List Sample → Bool
agree [] = true
agree ((got is said) ∷ rest) = eqb got said && agree rest
agree ((got are said) ∷ rest) = same got said && agree rest

-- a window of samples that differ from place to place: 77 in the centre
window : ℤ → ℤ → ℕ
window dy dx = (77 + 31 * nat_abs (dy +ℤ dy +ℤ dx) + 7 * nat_abs dx) % 256

-- 100 in the centre, and one sample of value v below it
below : ℕ → ℤ → ℤ → ℕ
below v (pos zero) dx = 100
below v (pos (suc zero)) (pos zero) = v
below v (pos (suc zero)) (pos (suc n)) = 100
below v (pos (suc zero)) (negsuc n) = 100
below v (pos (suc (suc n))) dx = 100
below v (negsuc n) dx = 100

-- 0 in the centre and 255 around it
dark : ℤ → ℤ → ℕ
dark (pos zero) (pos zero) = 0
dark (pos zero) (pos (suc n)) = 255
dark (pos zero) (negsuc n) = 255
dark (pos (suc n)) dx = 255
dark (negsuc n) dx = 255

flat : ℤ → ℤ → ℕ
flat dy dx = 90

-- filters: all zero; the first number alone; a pretrained set's centre alone
zeros : ℕ → ℤ
zeros k = pos 0

first : ℤ → ℕ → ℤ
first c zero = c
first c (suc k) = pos 0

centre_only : ℕ → ℤ
centre_only k = cond (eqb k 12) (pos 128) (pos 0)

-- noskip masks of one block row
ones : List ℕ
ones = replicate 16 65535

none : List ℕ
none = replicate 16 0

-- a class index with its parts: the skip sum and the four bins
parts : List ℕ → ℤ → List ℕ
parts noskip q = class_index flat noskip q 3 2 16 ∷ skip_sum noskip 16 3 2 ∷ class_bins flat noskip q 3 2 16

table : List Sample
table =
    -- the card
    (card_answer (ascii "op=y\nw=4\nh=4\nedges=0\nfilter=64,0,0,0,0,0,0,0,0,0,0,0,0,0,0,0\nskip=0000\nrow=0a0a0a0a\nrow=14141414\nrow=28282828\nrow=50505050\n") are
    ascii "status=0\nfiltered=4\nrow=0f0f0f0f\nrow=19191919\nrow=32323232\nrow=3c3c3c3c\n") ∷
    -- zero luma filter: sample kept
    (luma_sample limit8 window zeros is 77) ∷
    -- zero pretrained set: sample 0; c13 = 128: kept
    (pretrained_sample limit8 window zeros is 0) ∷
    (pretrained_sample limit8 window centre_only is 77) ∷
    -- m = 100, c = 1: a + b - 2m = -64 gives 100, -65 gives 99
    (luma_sample limit8 (below 36) (first (pos 1)) is 100) ∷
    (luma_sample limit8 (below 35) (first (pos 1)) is 99) ∷
    -- luma sum -510 at m = 0 (510 more is 0): 0
    (nat_abs (luma_sum dark (first (negsuc 0)) +ℤ pos 510) is 0) ∷
    (luma_sample limit8 dark (first (negsuc 0)) is 0) ∷
    -- flat rows, q = 0: all noskip bits 1 gives 0, of skip sum 0 and bins 0; all 0 gives 128, of skip sum 36 and bins 0, 2, 0, 0
    (parts ones (pos 0) are (0 ∷ 0 ∷ 0 ∷ 0 ∷ 0 ∷ 0 ∷ [])) ∷
    (parts none (pos 0) are (128 ∷ 36 ∷ 0 ∷ 2 ∷ 0 ∷ 0 ∷ [])) ∷
    -- flat, all 1, q = 4000: 1536, of skip sum 0 and bins 3, 0, 0, 0
    (parts ones (pos 4000) are (1536 ∷ 0 ∷ 3 ∷ 0 ∷ 0 ∷ 0 ∷ [])) ∷
    -- w = 4, h = 4, noskip 0x0001: skip sum 6
    (skip_sum (1 ∷ []) 1 0 0 is 6) ∷
    -- bin of 516,095 is 0, of 516,096 is 1
    (bin (pos 516095) is 0) ∷
    (bin (pos 516096) is 1) ∷
    -- 1, 2, 3, 5 average to 2
    (mixed 1 0 (λ c. get_or (1 ∷ 2 ∷ []) (nat_abs c) 0) (λ c. get_or (3 ∷ 5 ∷ []) (nat_abs c) 0) (pos 0) is 2) ∷
    []

starred : agree table ≡ true
unfolding digits agree same table several word_at decimal_of decimal_at tap_at pair_at group_at size_at filter_at skip_at row_at rows_at lists_at unit_at meaning restored_plane filtered row_text rows_text line_text printed card_answer clear_below pieces_of sample_at class_of final_sample window below dark flat zeros first centre_only ones none sum_z sum_n rounded term bin feature skip_sum bins_of index_of parts
starred = refl
