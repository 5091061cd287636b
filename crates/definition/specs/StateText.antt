-- docs/SCOPE.md, 'The text of a state': the lines of a unit that is put away, and what any bytes mean when a unit is taken back. Places, readings and rows are the card's.
use Rattle.std.specs.Prelude.{◌≡◌, cond, ◌&&◌, List, [], ◌∷◌, ◌++◌, ℕ, zero, suc, ◌+◌, ◌-◌, ◌*◌, ◌^◌, ◌≤◌, ◌<◌, ltb, eqb, length, get_or, drop, decimal}
use Rattle.definition.specs.declared.Operation.{Operation}
use Rattle.definition.specs.declared.Operation.TheVariants.{Luma, User, Pretrained, Chroma}
use Rattle.definition.specs.Rows.{row_bytes, luma_row_bytes, index_count, state_bytes}
use Rattle.definition.specs.Limits.{block_column_limit}
use Rattle.definition.specs.declared.Given.{Given}
use Rattle.definition.specs.Units.{chromatic, Lent}
use Rattle.definition.specs.Card.{Reading, value, wrong, reading, several, ended, input_at, ascii, newline, word_at, end_of, digit_of, w_name, h_name, row_name, row_at, row_text, line_text}

-- the fields of numbers: 64 bits, and of a class or a sample 8
abbrev pub number_limit : ℕ
number_limit = 2 ^ 64 - 1

abbrev pub byte_limit : ℕ
byte_limit = 255

-- NUMBERS
-- further digits, up to the byte that ends them; v is the number so far, and none is over the limit
unfoldable pub digits_from : ℕ → ℕ → ℕ → List ℕ → ℕ → Reading ℕ
digits_from limit end v [] at = wrong
digits_from limit end v (b ∷ bs) at =
    cond (eqb b end) (value v (at + 1))
    (cond (ltb 9 (digit_of b)) wrong
    (cond (ltb limit (10 * v + digit_of b)) wrong (digits_from limit end (10 * v + digit_of b) bs (at + 1))))

-- a number begins with a digit, and behind a leading 0 stands only the byte that ends it
unfoldable pub number_at : ℕ → List ℕ → ℕ → ℕ → Reading ℕ
number_at limit s end at =
    cond (ltb 9 (digit_of (input_at s at))) wrong
    (cond (eqb (digit_of (input_at s at)) 0) (ended s end 0 (at + 1)) (digits_from limit end 0 (drop at s) at))

-- text 0, text 1, .. , text (n - 1), one behind the other: what `several` reads
unfoldable pub several_text : (ℕ → List ℕ) → ℕ → List ℕ
several_text t zero = []
several_text t (suc n) = several_text t n ++ t n

-- n numbers, commas between them
unfoldable pub numbers_text : ℕ → List ℕ → List ℕ
numbers_text n l = several_text (λ k. decimal (get_or l k 0) ++ (end_of n k ∷ [])) n

unfoldable pub numbers_at : ℕ → ℕ → List ℕ → ℕ → Reading (List ℕ)
numbers_at limit n s at = several (λ k. number_at limit s (end_of n k)) n at

-- LINES of a name and a number, and of a name and n numbers
unfoldable pub line_at : List ℕ → List ℕ → ℕ → Reading ℕ
line_at name s at = reading (word_at s name at) (λ _ p. number_at number_limit s newline p)

unfoldable pub list_text : List ℕ → ℕ → List ℕ → List ℕ
list_text name n l = name ++ numbers_text n l

unfoldable pub list_at : List ℕ → ℕ → ℕ → List ℕ → ℕ → Reading (List ℕ)
list_at name limit n s at = reading (word_at s name at) (λ _ p. numbers_at limit n s p)

-- y, n, p and c, in ASCII
abbrev pub letter : Operation → ℕ
letter Luma = 121
letter User = 110
letter Pretrained = 112
letter Chroma = 99

abbrev pub op_name : List ℕ
op_name = ascii "op="

unfoldable pub op_text : Operation → List ℕ
op_text op = op_name ++ (letter op ∷ newline ∷ [])

unfoldable pub letter_at : List ℕ → ℕ → Reading Operation
letter_at s at =
    cond (eqb (input_at s at) (letter Luma)) (ended s newline Luma (at + 1))
    (cond (eqb (input_at s at) (letter User)) (ended s newline User (at + 1))
    (cond (eqb (input_at s at) (letter Pretrained)) (ended s newline Pretrained (at + 1))
    (cond (eqb (input_at s at) (letter Chroma)) (ended s newline Chroma (at + 1)) wrong)))

unfoldable pub op_at : List ℕ → ℕ → Reading Operation
op_at s at = reading (word_at s op_name at) (λ _ p. letter_at s p)

-- the padded rows, as many as indices, in the order of their slots; a chroma unit's last five are luma's
abbrev pub row_width : Operation → ℕ → ℕ
row_width op k = cond (chromatic op && ltb 4 k) luma_row_bytes row_bytes

unfoldable pub ten_text : List (List ℕ) → List ℕ
ten_text rows = several_text (λ k. row_text (get_or rows k [])) index_count

unfoldable pub ten_at : Operation → List ℕ → ℕ → Reading (List (List ℕ))
ten_at op s at = several (λ k. row_at s (row_width op k)) index_count at

-- A STATE, AS ITS LINES HAVE IT
pub record StateLines : Type 0 where
  pub op : Operation
  pub w : ℕ
  pub h : ℕ
  pub edges : ℕ
  pub done : ℕ
  pub classes : List ℕ
  pub indices : List ℕ
  pub next : ℕ
  pub rows : List (List ℕ)
  -- of the plane and of the luma plane
  pub strides : List ℕ
  -- of the plane, the saved rows above and below, and luma's three
  pub offsets : List ℕ
  -- the subsampling of chroma, across and down
  pub pair : List ℕ
  pub kind : ℕ

abbrev pub edges_name : List ℕ
edges_name = ascii "edges="

abbrev pub done_name : List ℕ
done_name = ascii "done="

abbrev pub classes_name : List ℕ
classes_name = ascii "classes="

abbrev pub indices_name : List ℕ
indices_name = ascii "indices="

abbrev pub next_name : List ℕ
next_name = ascii "next="

abbrev pub strides_name : List ℕ
strides_name = ascii "strides="

abbrev pub offsets_name : List ℕ
offsets_name = ascii "offsets="

abbrev pub pair_name : List ℕ
pair_name = ascii "pair="

abbrev pub kind_name : List ℕ
kind_name = ascii "kind="

-- THE TEXT
unfoldable pub state_text : StateLines → List ℕ
state_text u =
    op_text u.op ++
    (line_text w_name u.w ++
    (line_text h_name u.h ++
    (line_text edges_name u.edges ++
    (line_text done_name u.done ++
    (list_text classes_name block_column_limit u.classes ++
    (list_text indices_name index_count u.indices ++
    (line_text next_name u.next ++
    (ten_text u.rows ++
    (list_text strides_name 2 u.strides ++ (list_text offsets_name 6 u.offsets ++ (list_text pair_name 2 u.pair ++ line_text kind_name u.kind)))))))))))

-- WHAT ANY BYTES MEAN, from a place on
unfoldable pub lines_at : List ℕ → ℕ → Reading StateLines
lines_at s at =
    reading (op_at s at) (λ op p₁.
    reading (line_at w_name s p₁) (λ w p₂.
    reading (line_at h_name s p₂) (λ h p₃.
    reading (line_at edges_name s p₃) (λ edges p₄.
    reading (line_at done_name s p₄) (λ done p₅.
    reading (list_at classes_name byte_limit block_column_limit s p₅) (λ classes p₆.
    reading (list_at indices_name number_limit index_count s p₆) (λ indices p₇.
    reading (line_at next_name s p₇) (λ next p₈.
    reading (ten_at op s p₈) (λ rows p₉.
    reading (list_at strides_name number_limit 2 s p₉) (λ strides p₁₀.
    reading (list_at offsets_name number_limit 6 s p₁₀) (λ offsets p₁₁.
    reading (list_at pair_name number_limit 2 s p₁₁) (λ pair p₁₂.
    reading (line_at kind_name s p₁₂) (λ kind p₁₃.
    value
    (record {
      op = op;
      w = w;
      h = h;
      edges = edges;
      done = done;
      classes = classes;
      indices = indices;
      next = next;
      rows = rows;
      strides = strides;
      offsets = offsets;
      pair = pair;
      kind = kind;
    })
    p₁₃)))))))))))))

-- .. and of a whole input: nothing stands behind the last line
unfoldable pub lines_in : List ℕ → Reading StateLines
lines_in s = reading (lines_at s 0) (λ u p. cond (eqb p (length s)) (value u p) wrong)

-- WHAT FITS: n numbers of at most a limit, and a state whose numbers are in their fields; in the code the types say so
pub record InField (limit n : ℕ) (l : List ℕ) : Type 0 where
  pub size : length l ≡ n
  pub each : (k : ℕ) → k < n → get_or l k 0 ≤ limit

pub record LinesInFields (u : StateLines) : Type 0 where
  pub w : u.w ≤ number_limit
  pub h : u.h ≤ number_limit
  pub edges : u.edges ≤ number_limit
  pub done : u.done ≤ number_limit
  pub classes : InField byte_limit block_column_limit u.classes
  pub indices : InField number_limit index_count u.indices
  pub next : u.next ≤ number_limit
  pub ten : length u.rows ≡ index_count
  pub rows : (k : ℕ) → k < index_count → InField byte_limit (row_width u.op k) (get_or u.rows k [])
  pub strides : InField number_limit 2 u.strides
  pub offsets : InField number_limit 6 u.offsets
  pub pair : InField number_limit 2 u.pair
  pub kind : u.kind ≤ number_limit

-- .. and what a unit is opened with and lent, likewise
abbrev pub Bytes : List ℕ → Type 0
Bytes l = (i : ℕ) → get_or l i 0 ≤ byte_limit

pub record OpenedInFields (n : Given) (l : Lent) (p : List ℕ) : Type 0 where
  pub numbers :
      InField number_limit 14
      (n.w ∷ n.h ∷ n.edges ∷ n.stride ∷ n.luma_stride ∷ n.off ∷ n.top_off ∷ n.bottom_off ∷ n.luma_off ∷ n.luma_top_off ∷ n.luma_bottom_off ∷ n.ss_hor ∷ n.ss_ver ∷ n.kind ∷ [])
  pub plane : Bytes p
  pub left : Bytes l.left
  pub top : Bytes l.top
  pub bottom : Bytes l.bottom
  pub luma_plane : Bytes l.luma_plane
  pub luma_top : Bytes l.luma_top
  pub luma_bottom : Bytes l.luma_bottom
  pub subclass : Bytes l.subclass

-- the bytes of a number of 64 bits at the most, and of a class, with the byte that ends it; no text of a state is longer than `text_limit`
abbrev pub number_bytes : ℕ
number_bytes = 21

abbrev pub class_bytes : ℕ
class_bytes = 4

abbrev pub line_limit : List ℕ → ℕ
line_limit name = length name + number_bytes

abbrev pub text_limit : ℕ
text_limit =
    length op_name + 2 + line_limit w_name + line_limit h_name + line_limit edges_name + line_limit done_name + (length classes_name + block_column_limit * class_bytes) +
    (length indices_name + index_count * number_bytes) + line_limit next_name + (index_count * (length row_name + 1) + 2 * state_bytes) + (length strides_name + 2 * number_bytes) +
    (length offsets_name + 6 * number_bytes) + (length pair_name + 2 * number_bytes) + line_limit kind_name
