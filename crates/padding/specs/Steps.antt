-- What the private steps are given and leave. What a row that is not refused gives: each byte that is read or written lies inside.
use Rattle.std.specs.Prelude.{true, cond, ◌&&◌, List, ◌≡◌, ℕ, ◌+◌, ◌%◌, ◌≤◌, eqb, get_or}
use Rattle.std.proofs.lemmas.List.Edits.{sets}
use Rattle.definition.specs.Rows.{tab}
use Rattle.definition.specs.Padding.{has_left, has_right, even_only}
use Rattle.definition.specs.Refusals.{beside}
use Rattle.definition.specs.Leaves.{lower_at}

pub record RowFits (dst o src src_o left left_o w e edges : ℕ) : Type 0 where
  pub some : 1 ≤ w
  pub front : e ≤ o
  pub room : o + w + e ≤ dst
  pub row : src_o + w + beside (has_right edges) e ≤ src
  pub before : has_left edges ≡ true → (e ≤ left_o) × (left_o ≤ left)

pub record InsideLuma (dst o src src_o stride w edges ss_hor ss_ver kind : ℕ) : Type 0 where
  pub pair : (ss_hor ≤ 1) × (ss_ver ≤ ss_hor)
  pub some : 1 ≤ w
  pub front : 4 ≤ o
  pub room : o + w + 4 ≤ dst
  pub whole : w % (ss_hor + 1) ≡ 0
  pub row : src_o + lower_at ss_ver kind stride + (w + beside (has_right edges) 4) ≤ src
  pub before : beside (has_left edges) 4 ≤ src_o

-- what stands at column j from `at` on: f's value, or, where only even columns are filled, the byte that stood there
abbrev pub filled : ℕ → ℕ → List ℕ → ℕ → (ℕ → ℕ) → ℕ → ℕ
filled ss_ver kind dst at f j = cond (even_only ss_ver kind && eqb (j % 2) 1) (get_or dst (at + j) 0) (f j)

-- n columns
abbrev pub columns : List ℕ → ℕ → ℕ → ℕ → ℕ → (ℕ → ℕ) → List ℕ
columns dst at n ss_ver kind f = sets dst at (tab n (filled ss_ver kind dst at f))

-- four columns of one byte
abbrev pub repeated : List ℕ → ℕ → ℕ → ℕ → ℕ → List ℕ
repeated dst at v ss_ver kind = columns dst at 4 ss_ver kind (λ _. v)
