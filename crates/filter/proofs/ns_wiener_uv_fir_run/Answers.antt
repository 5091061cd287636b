-- `filter::ns_wiener_uv_fir_run` meets its contract: the gathered luma gives the sums of luma itself, in both ways.
use native.Mathlib.Omega.{arith}
use borrow.Author.Rules.{rules}
use mathlib.Core.Path.{◌≡◌, sym, ap, ◌∙◌}
use mathlib.Core.List.{List}
use lib.IntN.{ℤ}
use Prim.Native.Nat.{ℕ, ◌+◌, ◌-◌, ◌*◌, ◌≤◌, ◌<◌}
use lib.ListN.{length, get_or}
use lib.Seq.{sets}
use Rattle.definition.specs.Rows.{tab}
use Rattle.definition.specs.Leaves.{uv_status, chroma_run}
use Rattle.filter.specs.Gathered.{Gathered, compact_sample}
use Rattle.laws.proofs.Lists.{tab_cong}
use Rattle.filter.proofs.Gathering.{gathered-run}
use Rattle.filter.proofs.Statuses.{UvInside, uv_inside, eight_inside}
use Rattle.filter.proofs.Writes.{done}
use Rattle.filter.proofs.ns_wiener_uv_fir_run.Goals as goal

-- a run that is not refused stays inside
fits : (dst rows indices : List ℕ) (col0 lcol0 step n : ℕ) → uv_status (length dst) (length rows) indices col0 lcol0 step n ≡ 0 → UvInside (length dst) rows indices col0 lcol0 step n
fits dst rows indices col0 lcol0 step n z = uv_inside (length dst) rows indices col0 lcol0 step n z

-- the sample of byte b, in a run from byte col0 on
abbrev from : List ℕ → List ℕ → List ℕ → ℕ → List ℤ → ℕ → ℕ
from rows indices compact col0 filter b = compact_sample rows indices compact filter b (b + 8 - col0)

-- what a run over the gathered luma left is what is promised
finished : (dst rows indices compact : List ℕ) (col0 lcol0 step : ℕ) (filter : List ℤ) (n : ℕ) {d : List ℕ} →
    uv_status (length dst) (length rows) indices col0 lcol0 step n ≡ 0 → Gathered rows indices (lcol0 - 2 * step) step n 5 compact →
    d ≡ sets dst 0 (tab n (λ x. from rows indices compact col0 filter (col0 + x))) → d ≡ chroma_run dst rows indices col0 lcol0 step filter n
finished dst rows indices compact col0 lcol0 step filter n z h is =
    let inside = fits dst rows indices col0 lcol0 step n z in
    let same : tab n (λ x. from rows indices compact col0 filter (col0 + x)) ≡ tab n (λ x. compact_sample rows indices compact filter (col0 + x) (x + 8)) =
    tab_cong n (λ x. from rows indices compact col0 filter (col0 + x)) (λ x. compact_sample rows indices compact filter (col0 + x) (x + 8))
    (λ x l. let luma : col0 + x + 8 - col0 ≡ x + 8 = omega arith in ap (λ (y : ℕ). compact_sample rows indices compact filter (col0 + x) y) luma) in
    done _ _ _ z
    (is ∙ ap (λ (w : List ℕ). sets dst 0 w) same ∙ gathered-run dst rows indices compact col0 lcol0 (lcol0 - 2 * step) step n filter h (omega (arith, inside.behind)))

-- eight of its samples, by what the closure gives
given : (rows indices compact : List ℕ) (col0 : ℕ) (filter : List ℤ) (at : ℕ) (eight : List ℕ) → col0 ≤ at + 8 →
    ((j : ℕ) → j < 8 → get_or eight j 0 ≡ compact_sample rows indices compact filter (at + j) (at + 8 - col0 + j)) →
    (j : ℕ) → j < 8 → get_or eight j 0 ≡ from rows indices compact col0 filter (at + j)
given rows indices compact col0 filter at eight l made j k =
    let luma : at + 8 - col0 + j ≡ at + j + 8 - col0 = omega (arith, l) in
    made j k ∙ ap (λ (y : ℕ). compact_sample rows indices compact filter (at + j) y) luma

pub overflow_mul-step : goal.overflow_mul-step
overflow_mul-step c =
    omega (arith, (fits c.args.dst.now c.args.rows.now c.args.indices.now c.args.col0 c.args.lcol0 c.args.step c.args.n (sym c.in_ok-uv_status.ensures)).behind)

pub overflow_sub-lcol0 : goal.overflow_sub-lcol0
overflow_sub-lcol0 c =
    omega (arith, (fits c.args.dst.now c.args.rows.now c.args.indices.now c.args.col0 c.args.lcol0 c.args.step c.args.n (sym c.in_ok-uv_status.ensures)).behind)

pub invariant_of-own-clause-inside : goal.invariant_of-own-clause-inside
invariant_of-own-clause-inside c = (fits c.args.dst.now c.args.rows.now c.args.indices.now c.args.col0 c.args.lcol0 c.args.step c.args.n (sym c.in_ok-uv_status.ensures)).itself.inside

pub invariant_of-own-2-clause-inside : goal.invariant_of-own-2-clause-inside
invariant_of-own-2-clause-inside c = (fits c.args.dst.now c.args.rows.now c.args.indices.now c.args.col0 c.args.lcol0 c.args.step c.args.n (sym c.in_ok-uv_status.ensures)).itself.inside

pub gather-compact-requires : goal.gather-compact-requires
gather-compact-requires c =
    (fits c.args.dst.now c.args.rows.now c.args.indices.now c.args.col0 c.args.lcol0 c.args.step c.args.n (sym c.in_ok-uv_status.ensures)).luma

pub run-requires-clause-room : goal.run-requires-clause-room
run-requires-clause-room c =
    let h = (fits c.args.dst.now c.args.rows.now c.args.indices.now c.args.col0 c.args.lcol0 c.args.step c.args.n (sym c.in_ok-uv_status.ensures)).itself in
    (h.room, omega (arith, h.right), omega arith)

pub run-requires-clause-callable : goal.run-requires-clause-callable
run-requires-clause-callable c =
    let h = (fits c.args.dst.now c.args.rows.now c.args.indices.now c.args.col0 c.args.lcol0 c.args.step c.args.n (sym c.in_ok-uv_status.ensures)).itself in
    λ at l m. let eight = eight_inside 66 at h l m (omega arith) (omega arith) in let before : c.args.col0 ≤ at + 8 = omega (arith, h.right) in
    let left = h.left in search rules

pub returns-then-worth_groups-clause-dst_after : goal.returns-then-worth_groups-clause-dst_after
returns-then-worth_groups-clause-dst_after c =
    let h = (fits c.args.dst.now c.args.rows.now c.args.indices.now c.args.col0 c.args.lcol0 c.args.step c.args.n (sym c.in_ok-uv_status.ensures)).itself in
    finished c.args.dst.now c.args.rows.now c.args.indices.now c.gather-compact.result c.args.col0 c.args.lcol0 c.args.step c.args.filter.now c.args.n
    (sym c.in_ok-uv_status.ensures) c.gather-compact.ensures
    (c.run.ensures (from c.args.rows.now c.args.indices.now c.gather-compact.result c.args.col0 c.args.filter.now)
    (record { sample = λ at eight l m made. given c.args.rows.now c.args.indices.now c.gather-compact.result c.args.col0 c.args.filter.now at eight (omega (arith, h.right)) made }))

pub run-requires-2-clause-room : goal.run-requires-2-clause-room
run-requires-2-clause-room c =
    let h = (fits c.args.dst.now c.args.rows.now c.args.indices.now c.args.col0 c.args.lcol0 c.args.step c.args.n (sym c.in_ok-uv_status.ensures)).itself in
    (h.room, omega (arith, h.right), omega arith)

pub run-requires-2-clause-callable : goal.run-requires-2-clause-callable
run-requires-2-clause-callable c =
    let h = (fits c.args.dst.now c.args.rows.now c.args.indices.now c.args.col0 c.args.lcol0 c.args.step c.args.n (sym c.in_ok-uv_status.ensures)).itself in
    λ at l m. let eight = eight_inside 66 at h l m (omega arith) (omega arith) in let before : c.args.col0 ≤ at + 8 = omega (arith, h.right) in
    let left = h.left in search rules

pub returns-clause-dst_after : goal.returns-clause-dst_after
returns-clause-dst_after c =
    let h = (fits c.args.dst.now c.args.rows.now c.args.indices.now c.args.col0 c.args.lcol0 c.args.step c.args.n (sym c.in_ok-uv_status.ensures)).itself in
    finished c.args.dst.now c.args.rows.now c.args.indices.now c.gather-compact.result c.args.col0 c.args.lcol0 c.args.step c.args.filter.now c.args.n
    (sym c.in_ok-uv_status.ensures) c.gather-compact.ensures
    (c.run-2.ensures (from c.args.rows.now c.args.indices.now c.gather-compact.result c.args.col0 c.args.filter.now)
    (record { sample = λ at eight l m made. given c.args.rows.now c.args.indices.now c.gather-compact.result c.args.col0 c.args.filter.now at eight (omega (arith, h.right)) made }))
