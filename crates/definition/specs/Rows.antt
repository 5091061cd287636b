-- docs/SCOPE.md, 'Rows in one array'. Lists that the promises speak of: a list made by a rule, what a call leaves of a list that it was lent, and padded rows in one flat array.
use Rattle.std.specs.Prelude.{Bool, cond, List, [], ◌∷◌, ℕ, zero, suc, ◌+◌, ◌*◌, ℤ, pos, nat_abs, ◌+ℤ◌, get_or}

-- f 0, f 1, .. , f (n - 1)
abbrev pub tab {ℓ} : {A : Type ℓ} → ℕ → (ℕ → A) → List A
tab zero f = []
tab (suc n) f = f 0 ∷ tab n (λ i. f (suc i))

-- leaves use 5 for an index outside
abbrev pub outside_unless : Bool → ℕ
outside_unless inside = cond inside 0 5

-- a number that a call answers: what it is where nothing is refused, else 0
abbrev pub or_zero : ℕ → ℕ → ℕ
or_zero zero n = n
or_zero (suc status) n = 0

-- a list after a call: written where the status is 0, else as it was
abbrev pub unless_refused : ℕ → List ℕ → List ℕ → List ℕ
unless_refused zero old written = written
unless_refused (suc status) old written = old

-- bytes to a row, and the byte of the unit's first sample; a chroma unit's five luma rows are longer and stand behind its own five
abbrev pub row_bytes : ℕ
row_bytes = 76

abbrev pub row_origin : ℕ
row_origin = 6

abbrev pub luma_row_bytes : ℕ
luma_row_bytes = 140

abbrev pub luma_rows_at : ℕ
luma_rows_at = 380

-- the bytes of rows that are `size` long and stand from `first` on, as seen from byte `col` of the row that index `mid` leads to
abbrev pub flat_around : ℕ → ℕ → ℕ → List ℕ → List ℕ → ℕ → ℤ → ℤ → ℕ
flat_around first size mid rows indices col dy dx =
    get_or rows (first + size * get_or indices (nat_abs (pos mid +ℤ dy)) 0 + nat_abs (pos col +ℤ dx)) 0

-- luma and classed units: the fifth of ten indices is the row itself; chroma: the third of five, and of the five luma rows' the third
abbrev pub luma_flat : List ℕ → List ℕ → ℕ → ℤ → ℤ → ℕ
luma_flat rows indices col dy dx = flat_around 0 row_bytes 4 rows indices col dy dx

abbrev pub chroma_flat : List ℕ → List ℕ → ℕ → ℤ → ℤ → ℕ
chroma_flat rows indices col dy dx = flat_around 0 row_bytes 2 rows indices col dy dx

abbrev pub chroma_luma_flat : List ℕ → List ℕ → ℕ → ℤ → ℤ → ℕ
chroma_luma_flat rows indices col dy dx = flat_around luma_rows_at luma_row_bytes 7 rows indices col dy dx

-- the row indices of a state, and its bytes
abbrev pub index_count : ℕ
index_count = 10

abbrev pub state_bytes : ℕ
state_bytes = luma_rows_at + 5 * luma_row_bytes
