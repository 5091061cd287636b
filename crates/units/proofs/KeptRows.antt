-- The ten padded rows of a state, one behind the other: where each begins, how long it is, and what they are together.
use mathlib.Core.Path.{◌≡◌, refl, sym, ap, ◌∙◌}
use mathlib.Core.List.{List, [], ◌∷◌, ◌++◌, append-nil, append_assoc}
use Prim.Native.Nat.{ℕ, zero, suc, ◌+◌, ◌-◌, ◌≤◌, ◌<◌}
use native.Mathlib.Nat.{zero-add, add-zero, suc-add}
use native.Mathlib.Numerals.{add-one}
use native.Mathlib.Omega.{arith}
use lib.ListN.{length, get_or, take, drop, replicate, length-drop, length-replicate, get_or-replicate}
use lib.Seq.{take-add, length-take-le, get_or-take, get_or-drop, ext_get_or, drop-cons, drop-drop}
use Rattle.std.proofs.lemmas.List.{take-append-drop}
use Rattle.definition.specs.declared.Operation.{Operation}
use Rattle.definition.specs.declared.Operation.TheVariants.{Luma, User, Pretrained, Chroma}
use Rattle.definition.specs.Rows.{tab, state_bytes, index_count}
use Rattle.definition.specs.Card.{row_text, joined}
use Rattle.definition.specs.StateText.{row_width, several_text, ten_text, byte_limit, InField, Bytes}
use Rattle.laws.proofs.Lists.{tab-at, tab_cong, length_tab}
use Rattle.card_laws.proofs.Planes.{front, behind}
use Rattle.text.proofs.Cuts.{cut_both}
use Rattle.card_reader.proofs.Planes.{InTurn}
use Rattle.units.specs.Texts.{bytes_before, kept_row}

-- WHERE ROWS BEGIN
pub before-next : (op : Operation) (k : ℕ) → bytes_before op (k + 1) ≡ bytes_before op k + row_width op k
unfolding bytes_before
before-next op k = rw (add-one k)

before-more : (op : Operation) (k n : ℕ) → bytes_before op k ≤ bytes_before op (n + k)
unfolding bytes_before
before-more op k zero = rw (zero-add k) (omega arith)
before-more op k (suc n) = rw (suc-add n k) (omega (arith, before-more op k n))

-- ten rows are the state's bytes, or fewer
pub before-ten : (op : Operation) → bytes_before op index_count ≤ state_bytes
unfolding bytes_before
before-ten Luma = omega arith
before-ten User = omega arith
before-ten Pretrained = omega arith
before-ten Chroma = omega arith

pub row-inside : (op : Operation) (k : ℕ) → k < index_count → bytes_before op k + row_width op k ≤ state_bytes
row-inside op k h =
    let e : 10 - (k + 1) + (k + 1) ≡ 10 = omega arith in
    omega (arith, before-next op k, rw e at (before-more op (k + 1) (10 - (k + 1))), before-ten op)

-- THEIR TEXTS, the first k
abbrev pub first_texts : Operation → List ℕ → ℕ → List ℕ
first_texts op rows k = several_text (λ j. row_text (get_or (tab index_count (kept_row op rows)) j [])) k

-- one row more, lent as a part of them all
pub texts-more : (op : Operation) (rows o l m : List ℕ) (n k from width : ℕ) → k < index_count → from ≡ bytes_before op k → width ≡ row_width op k → l ≡ take n (o ++ first_texts op rows k) →
    m ≡ take n (l ++ row_text (take (from + width - from) (drop from rows))) → m ≡ take n (o ++ first_texts op rows (k + 1))
unfolding several_text
texts-more op rows o l m n k from width h ef ew el em =
    let e : from + width - from ≡ row_width op k = omega arith in
    let r : take (from + width - from) (drop from rows) ≡ get_or (tab index_count (kept_row op rows)) k [] =
    ap (λ x. take x (drop from rows)) e ∙ ap (λ x. take (row_width op k) (drop x rows)) ef ∙ sym (tab-at [] index_count (kept_row op rows) k h) in
    rw (add-one k, em, el, r) (cut_both n o (first_texts op rows k) (row_text (get_or (tab index_count (kept_row op rows)) k [])))

pub texts-all : (op : Operation) (rows : List ℕ) (k : ℕ) → k ≡ index_count → first_texts op rows k ≡ ten_text (tab index_count (kept_row op rows))
unfolding ten_text
texts-all op rows k e = rw e

-- a row of bytes, as long as it has to be
pub row-within : (op : Operation) (rows : List ℕ) → length rows ≡ state_bytes → Bytes rows → (k : ℕ) → k < index_count → InField byte_limit (row_width op k) (get_or (tab index_count (kept_row op rows)) k [])
row-within op rows long bytes k h =
    rw (tab-at [] index_count (kept_row op rows) k h)
    (record {
      size = length-take-le (row_width op k) (drop (bytes_before op k) rows) (omega (arith, length-drop (bytes_before op k) rows, row-inside op k h));
      each = λ j b. rw (get_or-take (row_width op k) (drop (bytes_before op k) rows) j 0 b, get_or-drop) (bytes (bytes_before op k + j));
    })

-- READING THEM: they begin one behind the other
pub kept-in-turn : (op : Operation) → InTurn (row_width op) (bytes_before op)
unfolding bytes_before
kept-in-turn op = record { none = refl; more = before-next op }

-- WHAT THEY ARE TOGETHER: the list's front
rows-from : (op : Operation) (rows : List ℕ) (n k : ℕ) → take (bytes_before op k) rows ++ joined (tab n (λ i. kept_row op rows (k + i))) ≡ take (bytes_before op (k + n)) rows
rows-from op rows zero k = append-nil (take (bytes_before op k) rows) ∙ ap (λ m. take (bytes_before op m) rows) (sym (add-zero k))
rows-from op rows (suc n) k =
    let first : kept_row op rows (k + 0) ≡ kept_row op rows k = ap (kept_row op rows) (add-zero k) in
    let others : tab n (λ i. kept_row op rows (k + suc i)) ≡ tab n (λ i. kept_row op rows (k + 1 + i)) =
    tab_cong n (λ i. kept_row op rows (k + suc i)) (λ i. kept_row op rows (k + 1 + i)) (λ i h. let e : k + suc i ≡ k + 1 + i = omega arith in ap (kept_row op rows) e) in
    let grown : take (bytes_before op k) rows ++ kept_row op rows k ≡ take (bytes_before op (k + 1)) rows =
    sym (take-add (bytes_before op k) (row_width op k) rows) ∙ ap (λ m. take m rows) (sym (before-next op k)) in
    let e : k + 1 + n ≡ k + suc n = omega arith in
    rw (first, others) (sym (append_assoc (take (bytes_before op k) rows) (kept_row op rows k) _)) ∙
    ap (λ l. l ++ joined (tab n (λ i. kept_row op rows (k + 1 + i)))) grown ∙ rows-from op rows n (k + 1) ∙ ap (λ m. take (bytes_before op m) rows) e

pub rows-together : (op : Operation) (rows : List ℕ) → joined (tab index_count (kept_row op rows)) ≡ take (bytes_before op index_count) rows
unfolding bytes_before
rows-together op rows =
    ap joined (tab_cong index_count (kept_row op rows) (λ i. kept_row op rows (0 + i)) (λ i h. ap (kept_row op rows) (sym (zero-add i)))) ∙ rows-from op rows index_count 0

-- zeros behind a list's front are the list, where it holds zeros there
pub zeros-behind : (b : ℕ) (l : List ℕ) → b ≤ length l → ((i : ℕ) → b ≤ i → get_or l i 0 ≡ 0) → take b l ++ replicate (length l - b) 0 ≡ l
zeros-behind b l h z =
    ap (λ r. take b l ++ r)
    (ext_get_or 0 (replicate (length l - b) 0) (drop b l) (rw (length-replicate {A = ℕ} (length l - b) 0, length-drop b l))
    (λ i k.
    get_or-replicate (length l - b) i 0 0 (rw (length-replicate {A = ℕ} (length l - b) 0) at k) ∙ sym (get_or-drop b l i 0 ∙ z (b + i) (omega arith)))) ∙
    take-append-drop b l

-- ROWS THAT STAND ONE BEHIND THE OTHER are cut again as they were
rows-cut : (op : Operation) (rows : List (List ℕ)) (zeros : List ℕ) → ((k : ℕ) → k < length rows → length (get_or rows k []) ≡ row_width op k) → (k : ℕ) → k ≤ length rows →
    drop (bytes_before op k) (joined rows ++ zeros) ≡ joined (drop k rows) ++ zeros
unfolding bytes_before
rows-cut op rows zeros h zero l = refl
rows-cut op rows zeros h (suc k) l =
    let c : drop k rows ≡ get_or rows k [] ∷ drop (suc k) rows = drop-cons rows k [] l in
    sym (drop-drop (row_width op k) (bytes_before op k) (joined rows ++ zeros)) ∙ ap (drop (row_width op k)) (rows-cut op rows zeros h k (omega arith) ∙ ap (λ r. joined r ++ zeros) c ∙ append_assoc (get_or rows k []) (joined (drop (suc k) rows)) zeros) ∙
    behind (get_or rows k []) (joined (drop (suc k) rows) ++ zeros) (row_width op k) (h k l)

pub rows-again : (op : Operation) (rows : List (List ℕ)) (zeros : List ℕ) → length rows ≡ index_count → ((k : ℕ) → k < index_count → length (get_or rows k []) ≡ row_width op k) →
    tab index_count (kept_row op (joined rows ++ zeros)) ≡ rows
rows-again op rows zeros n h =
    ext_get_or [] (tab index_count (kept_row op (joined rows ++ zeros))) rows (length_tab index_count (kept_row op (joined rows ++ zeros)) ∙ sym n)
    (λ k b.
    let l : k < index_count = rw (length_tab index_count (kept_row op (joined rows ++ zeros))) at b in
    let m : k < length rows = omega (arith, n) in
    let c : drop k rows ≡ get_or rows k [] ∷ drop (suc k) rows = drop-cons rows k [] m in
    tab-at [] index_count (kept_row op (joined rows ++ zeros)) k l ∙
    ap (take (row_width op k)) (rows-cut op rows zeros (λ j i. h j (omega (arith, n))) k (omega arith) ∙ ap (λ r. joined r ++ zeros) c ∙ append_assoc (get_or rows k []) (joined (drop (suc k) rows)) zeros) ∙
    front (get_or rows k []) (joined (drop (suc k) rows) ++ zeros) (row_width op k) (h k l))
