-- The rows of a text, one more at a time, and how long an answer is at most.
use mathlib.Core.Path.{◌≡◌, ◌∙◌}
use mathlib.Core.Bool.{true}
use mathlib.Core.List.{List, ◌++◌}
use Prim.Native.Nat.{ℕ, zero, suc, ◌+◌, ◌*◌, ◌/◌, ◌^◌, ◌≤◌, ◌<◌}
use native.Mathlib.Numerals.{add-one}
use native.Mathlib.Omega.{arith}
use lib.IntN.{ℤ}
use lib.ListN.{length, take, drop, length-append, length-take}
use lib.Seq.{take_all}
use Rattle.definition.specs.Blocks.{side, mask_at, pieces_of}
use Rattle.definition.specs.Card.{row_text, rows_text, line_text, head_text, status_name, filtered_name, row_line}
use Rattle.definition.specs.Refusals.{sized}
use Rattle.definition.specs.Limits.{width_limit, height_limit, block_column_limit}
use Rattle.laws.proofs.Inside.{is-sized}
use Rattle.text.proofs.Cuts.{cut_both}
use Rattle.text_laws.proofs.Lines.{digits-short}
use Rattle.text_laws.proofs.Rows.{row-long}
use Rattle.units.proofs.Pieces.{clear-low}
use Rattle.card_answer.specs.Answers.{text_size}
use Rattle.card_answer.specs.Put.{plane_of, unit_text}

-- A ROW MORE
pub rows_more : (w n : ℕ) (plane row s l m : List ℕ) → l ≡ take text_size (s ++ rows_text w plane n) → row ≡ take w (drop (n * w) plane) → m ≡ take text_size (l ++ row_text row) →
    m ≡ take text_size (s ++ rows_text w plane (n + 1))
unfolding rows_text
rows_more w n plane row s l m p q r = rw (add-one n, r, q, p) (cut_both text_size s (rows_text w plane n) (row_text (take w (drop (n * w) plane))))

-- THE TEXT OF A UNIT, put by its head and its rows
pub unit_put : (w h : ℕ) (filter : List ℤ) (skip plane q : List ℕ) (n : ℕ) (o l m : List ℕ) → n ≡ pieces_of skip (w / side) 0 h → q ≡ plane_of w h filter skip plane →
    l ≡ take text_size (o ++ head_text 0 n) → m ≡ take text_size (l ++ rows_text w q h) → m ≡ take text_size (o ++ unit_text w h filter skip plane)
unfolding unit_text
unit_put w h filter skip plane q n o l m a b d e = rw (e, d, a, b) (cut_both text_size o (head_text 0 (pieces_of skip (w / side) 0 h)) (rows_text w (plane_of w h filter skip plane) h))

-- HOW LONG AN ANSWER IS at most
pub declined-short : (status : ℕ) → status < 256 → length (head_text status 0) ≤ text_size
declined-short status h =
    omega (
      arith,
      length-append (line_text status_name status) (line_text filtered_name 0),
      digits-short status_name 3 status (omega arith) (omega arith) (omega arith),
      digits-short filtered_name 1 0 (omega arith) (omega arith) (omega arith),
    )

pieces-few : (skip : List ℕ) (bw k n : ℕ) → bw ≤ block_column_limit → pieces_of skip bw k n ≤ block_column_limit * n
unfolding pieces_of
pieces-few skip bw k zero h = omega arith
pieces-few skip bw k (suc n) h = omega (arith, clear-low (mask_at skip k) bw, pieces-few skip bw (suc k) n h)

rows-short : (w : ℕ) (plane : List ℕ) (n : ℕ) → w ≤ width_limit → length (rows_text w plane n) ≤ n * row_line
unfolding rows_text
rows-short w plane zero h = omega arith
rows-short w plane (suc n) h =
    let row : List ℕ = take w (drop (n * w) plane) in
    omega (arith, rows-short w plane n h, length-append (rows_text w plane n) (row_text row), row-long row, length-take w (drop (n * w) plane))

pub unit-short : (w h : ℕ) (filter : List ℤ) (skip plane : List ℕ) → sized width_limit w ≡ true → sized height_limit h ≡ true → length (unit_text w h filter skip plane) ≤ text_size
unfolding unit_text
unit-short w h filter skip plane ow oh =
    let lw : w ≤ width_limit = (is-sized width_limit w ow).high in
    let lh : h ≤ height_limit = (is-sized height_limit h oh).high in
    let pieces : ℕ = pieces_of skip (w / side) 0 h in
    let q : List ℕ = plane_of w h filter skip plane in
    let few : pieces < 10 ^ 4 = omega (arith, pieces-few skip (w / side) 0 h (omega arith)) in
    omega (
      arith,
      length-append (head_text 0 pieces) (rows_text w q h),
      length-append (line_text status_name 0) (line_text filtered_name pieces),
      digits-short status_name 1 0 (omega arith) (omega arith) (omega arith),
      digits-short filtered_name 4 pieces (omega arith) few (omega arith),
      rows-short w q h lw,
    )

-- so nothing of it is left out
pub whole : (text l answer : List ℕ) → length text ≤ text_size → l ≡ take text_size text → text ≡ answer → l ≡ answer
whole text l answer short e f = e ∙ take_all text_size text short ∙ f
