-- docs/SCOPE.md, 'The card': what a card means, for every input whatsoever, and the text that is printed for it. A place is a position in the input.
use Rattle.std.specs.Prelude.{cond, not, ◌&&◌, List, [], ◌∷◌, ◌++◌, ℕ, zero, suc, ◌+◌, ◌-◌, ◌*◌, ◌/◌, ◌%◌, ltb, leb, eqb, ℤ, pos, negsuc, length, get_or, take, drop, decimal}
use Prim.Native.Char.{code}
use Prim.Native.String.{String, [] as empty, ◌∷◌ as ◌then◌}
use Rattle.definition.specs.declared.Operation.TheVariants.{Luma}
use Rattle.definition.specs.declared.Given.{Given}
use Rattle.definition.specs.Rows.{tab}
use Rattle.definition.specs.Blocks.{side, pieces_of}
use Rattle.definition.specs.Units.{Lent, final_sample}
use Rattle.definition.specs.Calls.{given_y, luma_lent}
use Rattle.definition.specs.Refusals.{sized}
use Rattle.definition.specs.Limits.{width_limit, height_limit}

-- THE INPUT
-- the byte at a place; past the end stands 256, which is no byte
abbrev pub input_at : List ℕ → ℕ → ℕ
input_at s at = get_or s at 256

-- the bytes of a text in ASCII
abbrev pub ascii : String → List ℕ
ascii empty = []
ascii (c then text) = code c ∷ ascii text

-- byte 10 ends a line, a comma stands between numbers
abbrev pub newline : ℕ
newline = 10

abbrev pub comma : ℕ
comma = 44

-- what reading at a place finds: a value and the place behind it, or bytes that are not of the form
pub data Reading (A : Type 0) : Type 0 where
  value : A → ℕ → Reading A
  wrong : Reading A

-- reading goes on behind a value
abbrev pub reading : {A B : Type 0} → Reading A → (A → ℕ → Reading B) → Reading B
reading (value a at) more = more a at
reading wrong more = wrong

-- n values, one behind the other; value k is read by f k
unfoldable pub several : {A : Type 0} → (ℕ → ℕ → Reading A) → ℕ → ℕ → Reading (List A)
several f zero at = value [] at
several f (suc n) at = reading (several f n at) (λ l p. reading (f n p) (λ a q. value (l ++ (a ∷ [])) q))

-- a value whose end is a byte
abbrev pub ended : {A : Type 0} → List ℕ → ℕ → A → ℕ → Reading A
ended s end a at = cond (eqb (input_at s at) end) (value a (at + 1)) wrong

-- the bytes of a word, which are all its value
pub data Word : Type 0 where
  word : Word

unfoldable pub word_at : List ℕ → List ℕ → ℕ → Reading Word
word_at s [] at = value word at
word_at s (b ∷ bs) at = reading (ended s b word at) (λ _ p. word_at s bs p)

-- what ends number k of n: a comma, and byte 10 behind the last
abbrev pub end_of : ℕ → ℕ → ℕ
end_of n k = cond (eqb (k + 1) n) newline comma

-- NUMBERS
-- the value of a digit; 10 for any other byte
abbrev pub digit_of : ℕ → ℕ
digit_of b = cond (leb 48 b && leb b 57) (b - 48) 10

-- A decimal has one to three digits, no leading zero, and a byte that ends it. x, y, z: the first three bytes as digits; b, c, d: the three behind the first.
unfoldable pub decimal_of : ℕ → ℕ → ℕ → ℕ → ℕ → ℕ → ℕ → ℕ → Reading ℕ
decimal_of x y z b c d end at =
    cond (ltb 9 x) wrong
    (cond (eqb b end) (value x (at + 2))
    (cond (eqb x 0) wrong
    (cond (ltb 9 y) wrong
    (cond (eqb c end) (value (10 * x + y) (at + 3))
    (cond (ltb 9 z) wrong
    (cond (eqb d end) (value (100 * x + 10 * y + z) (at + 4)) wrong))))))

unfoldable pub decimal_at : List ℕ → ℕ → ℕ → Reading ℕ
decimal_at s end at =
    decimal_of (digit_of (input_at s at)) (digit_of (input_at s (at + 1))) (digit_of (input_at s (at + 2)))
    (input_at s (at + 1)) (input_at s (at + 2)) (input_at s (at + 3)) end at

-- a filter number: it may have a minus, never before 0, and lies in -128 .. 127
abbrev pub negated : ℕ → ℕ → Reading ℤ
negated v p = cond (eqb v 0) wrong (cond (ltb 128 v) wrong (value (negsuc (v - 1)) p))

abbrev pub unsigned : ℕ → ℕ → Reading ℤ
unsigned v p = cond (ltb 127 v) wrong (value (pos v) p)

abbrev pub minus : ℕ
minus = 45

unfoldable pub tap_at : List ℕ → ℕ → ℕ → Reading ℤ
tap_at s end at = cond (eqb (input_at s at) minus) (reading (decimal_at s end (at + 1)) negated) (reading (decimal_at s end at) unsigned)

-- a hex digit in lower case, 16 for any other byte; two of them; and the four of a skip group
abbrev pub hex_of : ℕ → ℕ
hex_of b = cond (leb 48 b && leb b 57) (b - 48) (cond (leb 97 b && leb b 102) (b - 87) 16)

abbrev pub pair_of : ℕ → ℕ → ℕ → Reading ℕ
pair_of a b at = cond (ltb 15 a) wrong (cond (ltb 15 b) wrong (value (16 * a + b) (at + 2)))

unfoldable pub pair_at : List ℕ → ℕ → Reading ℕ
pair_at s at = pair_of (hex_of (input_at s at)) (hex_of (input_at s (at + 1))) at

unfoldable pub group_at : List ℕ → ℕ → ℕ → Reading ℕ
group_at s end at = reading (pair_at s at) (λ a p. reading (pair_at s p) (λ b q. ended s end (256 * a + b) q))

-- THE LINES
abbrev pub op_line : List ℕ
op_line = ascii "op=y\n"

abbrev pub w_name : List ℕ
w_name = ascii "w="

abbrev pub h_name : List ℕ
h_name = ascii "h="

abbrev pub edges_line : List ℕ
edges_line = ascii "edges=0\n"

abbrev pub filter_name : List ℕ
filter_name = ascii "filter="

abbrev pub skip_name : List ℕ
skip_name = ascii "skip="

abbrev pub row_name : List ℕ
row_name = ascii "row="

-- w or h: its name and a decimal
unfoldable pub size_at : List ℕ → List ℕ → ℕ → Reading ℕ
size_at s name at = reading (word_at s name at) (λ _ p. decimal_at s newline p)

-- 16 decimals
unfoldable pub filter_at : List ℕ → ℕ → Reading (List ℤ)
filter_at s at = reading (word_at s filter_name at) (λ _ p. several (λ k. tap_at s (end_of 16 k)) 16 p)

-- four hex digits for each of n block rows
unfoldable pub skip_at : List ℕ → ℕ → ℕ → Reading (List ℕ)
skip_at s n at = reading (word_at s skip_name at) (λ _ p. several (λ k. group_at s (end_of n k)) n p)

-- 2w hex digits, and h such lines
unfoldable pub row_at : List ℕ → ℕ → ℕ → Reading (List ℕ)
row_at s w at = reading (word_at s row_name at) (λ _ p. reading (several (λ k. pair_at s) w p) (λ row q. ended s newline row q))

unfoldable pub rows_at : List ℕ → ℕ → ℕ → ℕ → Reading (List (List ℕ))
rows_at s w h at = several (λ k. row_at s w) h at

-- WHAT A CARD MEANS: a unit, or a status
pub record CardUnit : Type 0 where
  pub w : ℕ
  pub h : ℕ
  pub filter : List ℤ
  -- a number for each block row
  pub skip : List ℕ
  pub rows : List (List ℕ)

-- a unit and the place behind it, or a status
pub data Meaning : Type 0 where
  unit : CardUnit → ℕ → Meaning
  refused : ℕ → Meaning

-- a line that is not of its form ends the reading with 14
abbrev pub after : {A : Type 0} → Reading A → (A → ℕ → Meaning) → Meaning
after (value a at) more = more a at
after wrong more = refused 14

unfoldable pub lists_at : List ℕ → ℕ → ℕ → ℕ → Meaning
lists_at s w h at =
    after (filter_at s at) (λ filter p₁.
    after (skip_at s (h / side) p₁) (λ skip p₂.
    after (rows_at s w h p₂) (λ rows p₃. unit (record { w = w; h = h; filter = filter; skip = skip; rows = rows }) p₃)))

-- the unit at a place; a w or h off its limit ends the reading with 1 or 2
unfoldable pub unit_at : List ℕ → ℕ → Meaning
unit_at s at =
    after (word_at s op_line at) (λ _ p₁.
    after (size_at s w_name p₁) (λ w p₂.
    cond (not (sized width_limit w)) (refused 1)
    (after (size_at s h_name p₂) (λ h p₃.
    cond (not (sized height_limit h)) (refused 2)
    (after (word_at s edges_line p₃) (λ _ p₄. lists_at s w h p₄))))))

-- an input that ends behind its unit; bytes that are left over give 14
abbrev pub ending : List ℕ → Meaning → Meaning
ending s (unit u at) = cond (eqb at (length s)) (unit u at) (refused 14)
ending s (refused status) = refused status

-- a card is a whole input
unfoldable pub meaning : List ℕ → Meaning
meaning s = ending s (unit_at s 0)

-- a card's status
abbrev pub status_of : Meaning → ℕ
status_of (unit u at) = 0
status_of (refused status) = status

-- THE UNIT'S RESTORATION, without edge bits: the plane is the rows, w bytes apart
abbrev pub joined : List (List ℕ) → List ℕ
joined [] = []
joined (r ∷ rs) = r ++ joined rs

-- four numbers for each block row, the first used
abbrev pub skip_entry : List ℕ → ℕ → ℕ
skip_entry skip i = cond (eqb (i % side) 0) (get_or skip (i / side) 0) 0

abbrev pub spread : List ℕ → List ℕ
spread skip = tab height_limit (skip_entry skip)

abbrev pub given : CardUnit → Given
given u = given_y u.w u.h 0 u.w 0 0 0

abbrev pub lent : CardUnit → Lent
lent u = luma_lent [] [] [] u.filter (spread u.skip)

unfoldable pub restored_plane : CardUnit → List ℕ
restored_plane u = tab (u.w * u.h) (λ i. final_sample (given u) (lent u) (joined u.rows) Luma (i / u.w) (i % u.w))

unfoldable pub filtered : CardUnit → ℕ
filtered u = pieces_of (spread u.skip) (u.w / side) 0 u.h

-- WHAT IS PRINTED: status, filtered (pieces) and, at status 0, the rows
abbrev pub glyph : ℕ → ℕ
glyph d = cond (ltb d 10) (48 + d) (87 + d)

abbrev pub hex_text : List ℕ → List ℕ
hex_text [] = []
hex_text (b ∷ bs) = glyph (b / 16) ∷ glyph (b % 16) ∷ hex_text bs

-- the line of a row, and its bytes at the most
abbrev pub row_line : ℕ
row_line = 5 + 2 * width_limit

unfoldable pub row_text : List ℕ → List ℕ
row_text row = row_name ++ hex_text row ++ (newline ∷ [])

-- the first n rows of a plane, w bytes each
unfoldable pub rows_text : ℕ → List ℕ → ℕ → List ℕ
rows_text w plane zero = []
rows_text w plane (suc n) = rows_text w plane n ++ row_text (take w (drop (n * w) plane))

abbrev pub status_name : List ℕ
status_name = ascii "status="

abbrev pub filtered_name : List ℕ
filtered_name = ascii "filtered="

-- a name and a number
unfoldable pub line_text : List ℕ → ℕ → List ℕ
line_text name n = name ++ (decimal n ++ (newline ∷ []))

abbrev pub head_text : ℕ → ℕ → List ℕ
head_text status pieces = line_text status_name status ++ line_text filtered_name pieces

unfoldable pub printed : Meaning → List ℕ
printed (refused status) = head_text status 0
printed (unit u at) = head_text 0 (filtered u) ++ rows_text u.w (restored_plane u) u.h

-- the answer to a card
unfoldable pub card_answer : List ℕ → List ℕ
card_answer s = printed (meaning s)
