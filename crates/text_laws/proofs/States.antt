-- The text of a state: a state that fits is read back from its text, and what is read fits and is a text. So no state has two texts, and no text two states.
use mathlib.Core.Path.{◌≡◌, refl, ap, ◌∙◌, subst}
use mathlib.Core.Bool.{cond}
use mathlib.Core.List.{List}
use Prim.Native.Nat.{ℕ, ◌^◌, ◌≤◌, ◌<◌}
use native.Mathlib.Omega.{arith}
use borrow.Author.Tests.{eq-eqb, eqb-true}
use lib.Dec.{eqb}
use lib.ListN.{length}
use Rattle.definition.specs.Rows.{index_count}
use Rattle.definition.specs.Limits.{block_column_limit}
use Rattle.definition.specs.Card.{line_text, value, wrong, reading, w_name, h_name}
use Rattle.definition.specs.StateText.{number_limit, byte_limit, line_at, list_text, list_at, op_text, op_at, ten_text, ten_at, edges_name, done_name, classes_name, indices_name, next_name, strides_name, offsets_name, pair_name, kind_name, StateLines, state_text, lines_at, lines_in, LinesInFields, text_limit}
use Rattle.text_laws.proofs.Found.{found-then, found-true, same-value}
use Rattle.text_laws.proofs.Standing.{Stands, Reads, Spells, stands-both, stands-all, stands-whole, reads-then, reads-last, spells-then, spells-end, short-then}
use Rattle.text_laws.proofs.Lines.{line-reads, line-spells, line-short, list-reads, list-spells, list-short}
use Rattle.text_laws.proofs.Operations.{op-reads, op-spells, op-short, ten-reads, ten-spells, ten-short}

fine : number_limit < 2 ^ 64
fine = omega arith

small : byte_limit < 2 ^ 64
small = omega arith

-- THE LINES, one application to a line
state-reads : (u : StateLines) → LinesInFields u → Reads lines_at (state_text u) u
unfolding lines_at state_text
state-reads u c =
    reads-then _ (op-reads u.op)
    (reads-then _ (line-reads w_name u.w c.w)
    (reads-then _ (line-reads h_name u.h c.h)
    (reads-then _ (line-reads edges_name u.edges c.edges)
    (reads-then _ (line-reads done_name u.done c.done)
    (reads-then _ (list-reads classes_name byte_limit small block_column_limit u.classes c.classes)
    (reads-then _ (list-reads indices_name number_limit fine index_count u.indices c.indices)
    (reads-then _ (line-reads next_name u.next c.next)
    (reads-then _ (ten-reads u.op u.rows c.ten c.rows)
    (reads-then _ (list-reads strides_name number_limit fine 2 u.strides c.strides)
    (reads-then _ (list-reads offsets_name number_limit fine 6 u.offsets c.offsets)
    (reads-then _ (list-reads pair_name number_limit fine 2 u.pair c.pair)
    (reads-last _ (line-reads kind_name u.kind c.kind)))))))))))))

state-spells : Spells LinesInFields lines_at state_text
unfolding lines_at state_text
state-spells s at q u e =
    spells-then {f = op_at} op-spells e (λ op p₁ _ i₁ e₁.
    spells-then {f = line_at w_name} (line-spells w_name refl) e₁ (λ w p₂ f₂ i₂ e₂.
    spells-then {f = line_at h_name} (line-spells h_name refl) e₂ (λ h p₃ f₃ i₃ e₃.
    spells-then {f = line_at edges_name} (line-spells edges_name refl) e₃ (λ edges p₄ f₄ i₄ e₄.
    spells-then {f = line_at done_name} (line-spells done_name refl) e₄ (λ done p₅ f₅ i₅ e₅.
    spells-then {f = list_at classes_name byte_limit block_column_limit} (list-spells classes_name byte_limit small block_column_limit refl) e₅ (λ classes p₆ f₆ i₆ e₆.
    spells-then {f = list_at indices_name number_limit index_count} (list-spells indices_name number_limit fine index_count refl) e₆ (λ indices p₇ f₇ i₇ e₇.
    spells-then {f = line_at next_name} (line-spells next_name refl) e₇ (λ next p₈ f₈ i₈ e₈.
    spells-then {f = ten_at op} (ten-spells op) e₈ (λ rows p₉ f₉ i₉ e₉.
    spells-then {f = list_at strides_name number_limit 2} (list-spells strides_name number_limit fine 2 refl) e₉ (λ strides p₁₀ f₁₀ i₁₀ e₁₀.
    spells-then {f = list_at offsets_name number_limit 6} (list-spells offsets_name number_limit fine 6 refl) e₁₀ (λ offsets p₁₁ f₁₁ i₁₁ e₁₁.
    spells-then {f = list_at pair_name number_limit 2} (list-spells pair_name number_limit fine 2 refl) e₁₁ (λ pair p₁₂ f₁₂ i₁₂ e₁₂.
    spells-then {f = line_at kind_name} (line-spells kind_name refl) e₁₂ (λ kind p₁₃ f₁₃ i₁₃ e₁₃.
    spells-end LinesInFields state_text e₁₃
    (record {
      w = f₂;
      h = f₃;
      edges = f₄;
      done = f₅;
      classes = f₆;
      indices = f₇;
      next = f₈;
      ten = f₉.size;
      rows = f₉.each;
      strides = f₁₀;
      offsets = f₁₁;
      pair = f₁₂;
      kind = f₁₃;
    })
    (stands-both i₁ (stands-both i₂ (stands-both i₃ (stands-both i₄ (stands-both i₅ (stands-both i₆ (stands-both i₇ (stands-both i₈ (stands-both i₉ (stands-both i₁₀
    (stands-both i₁₁ (stands-both i₁₂ i₁₃)))))))))))))))))))))))))

-- A STATE THAT FITS IS READ BACK FROM ITS TEXT
pub read_back : (u : StateLines) → LinesInFields u → lines_in (state_text u) ≡ value u (length (state_text u))
unfolding lines_in
read_back u c =
    let t : List ℕ = state_text u in
    ap (λ r. reading r (λ x p. cond (eqb p (length t)) (value x p) wrong)) (state-reads u c t 0 (length t) (stands-all t)) ∙
    ap (λ b. cond b (value u (length t)) wrong) (eq-eqb (length t) (length t) refl)

-- WHAT IS READ IS A TEXT, AND FITS
state-found : (s : List ℕ) (u : StateLines) (q : ℕ) → lines_in s ≡ value u q → LinesInFields u × (s ≡ state_text u)
unfolding lines_in
state-found s u q e =
    found-then (lines_at s 0) e (λ x p w v.
    let t = found-true (eqb p (length s)) v in
    let y = same-value t.1 in
    let i = state-spells s 0 p x w in
    let z : s ≡ state_text x = stands-whole (subst (λ k. Stands (state_text x) s 0 k) (eqb-true p (length s) t.0) i.1) in
    subst (λ u. LinesInFields u × (s ≡ state_text u)) y.0 (i.0, z))

pub written_back : (s : List ℕ) (u : StateLines) (q : ℕ) → lines_in s ≡ value u q → s ≡ state_text u
written_back s u q e = (state-found s u q e).1

pub in_fields : (s : List ℕ) (u : StateLines) (q : ℕ) → lines_in s ≡ value u q → LinesInFields u
in_fields s u q e = (state-found s u q e).0

-- HOW LONG A TEXT IS
pub short : (u : StateLines) → LinesInFields u → length (state_text u) ≤ text_limit
unfolding state_text
short u c =
    short-then (op_text u.op) _ (op-short u.op)
    (short-then (line_text w_name u.w) _ (line-short w_name u.w c.w)
    (short-then (line_text h_name u.h) _ (line-short h_name u.h c.h)
    (short-then (line_text edges_name u.edges) _ (line-short edges_name u.edges c.edges)
    (short-then (line_text done_name u.done) _ (line-short done_name u.done c.done)
    (short-then (list_text classes_name block_column_limit u.classes) _ (list-short classes_name byte_limit small block_column_limit 3 u.classes (omega arith) (omega arith) c.classes)
    (short-then (list_text indices_name index_count u.indices) _ (list-short indices_name number_limit fine index_count 20 u.indices (omega arith) (omega arith) c.indices)
    (short-then (line_text next_name u.next) _ (line-short next_name u.next c.next)
    (short-then (ten_text u.rows) _ (ten-short u.op u.rows c.rows)
    (short-then (list_text strides_name 2 u.strides) _ (list-short strides_name number_limit fine 2 20 u.strides (omega arith) (omega arith) c.strides)
    (short-then (list_text offsets_name 6 u.offsets) _ (list-short offsets_name number_limit fine 6 20 u.offsets (omega arith) (omega arith) c.offsets)
    (short-then (list_text pair_name 2 u.pair) _ (list-short pair_name number_limit fine 2 20 u.pair (omega arith) (omega arith) c.pair) (line-short kind_name u.kind c.kind))))))))))))
