-- Both rings of a chroma unit in one pair of arrays: what is fetched into each, and the windows moved on.
use mathlib.Core.Path.{◌≡◌, refl, sym, ◌∙◌, ap}
use mathlib.Core.Bool.{Bool, true, false}
use mathlib.Core.List.{List, [], ◌∷◌, ◌++◌}
use Prim.Native.Nat.{ℕ, zero, suc, ◌+◌, ◌*◌, ◌≤◌, ◌<◌, zero-le}
use native.Mathlib.Omega.{arith}
use lib.ListN.{length, get_or, set, take, drop, length-set, length-append, take-append-drop, get_or-append}
use lib.Seq.{sets, length-sets, set-append_left, get_or-drop, take-append_seam, drop-append_seam, get_or-append-add}
use Rattle.definition.specs.declared.Operation.TheVariants.{Chroma}
use Rattle.definition.specs.declared.Given.{Given}
use Rattle.definition.specs.Rows.{row_bytes, luma_row_bytes, luma_rows_at}
use Rattle.definition.specs.Units.{Lent}
use Rattle.history.proofs.Ring.{Ring, fetch, slid, slid_length, slid-low, set_low, append_low, wrap}
use Rattle.model.proofs.Rows.{pad_row, own, pad_size}
use Rattle.model.proofs.LumaRows.{luma_pad_row}
use Rattle.units.proofs.TwoLists.{set_second, sets_first, sets_second}
use Rattle.model.proofs.Step.{ring, fetch_behind, taken, slid_by}

-- TWO LISTS, one behind the other
pub get_or_second : (a b : List ℕ) (n i : ℕ) → length a ≡ n → get_or (a ++ b) (n + i) 0 ≡ get_or b i 0
get_or_second a b n i e = rw (← e) (get_or-append-add a b i 0)

pub take_first : (a b : List ℕ) (n : ℕ) → length a ≡ n → take n (a ++ b) ≡ a
take_first a b n e = rw (← e) (take-append_seam a b)

pub drop_first : (a b : List ℕ) (n : ℕ) → length a ≡ n → drop n (a ++ b) ≡ b
drop_first a b n e = rw (← e) (drop-append_seam a b)

-- in each an element takes the value of another
pair_set : (a b : List ℕ) (n i k : ℕ) → length a ≡ n → i < n → k < n →
    set (set (a ++ b) i (get_or (a ++ b) k 0)) (n + i) (get_or (set (a ++ b) i (get_or (a ++ b) k 0)) (n + k) 0) ≡ set a i (get_or a k 0) ++ set b i (get_or b k 0)
pair_set a b n i k e hi hk =
    let v : ℕ = get_or a k 0 in
    let s : length (set a i v) ≡ n = length-set a i v ∙ e in
    rw (get_or-append a b 0 k (omega arith), set-append_left a b i (get_or a k 0) (omega arith), get_or_second (set a i (get_or a k 0)) b n k s)
    (set_second (set a i v) b n i (get_or b k 0) s)

-- WHAT IS FETCHED into both rings: over the arrays, and over their parts
abbrev through : Bool → List ℕ → List ℕ → Ring → Ring
through b row luma r =
    ring (fetch_behind b luma (ring (fetch row_bytes 4 b row r).slots (fetch row_bytes 4 b row r).idx r.next)).slots
    (fetch_behind b luma (ring (fetch row_bytes 4 b row r).slots (fetch row_bytes 4 b row r).idx r.next)).idx (fetch row_bytes 4 b row r).next

abbrev apart : Bool → List ℕ → List ℕ → Ring → Ring → Ring
apart b row luma c m = ring ((fetch row_bytes 4 b row c).slots ++ (fetch luma_row_bytes 4 b luma m).slots) ((fetch row_bytes 4 b row c).idx ++ (fetch luma_row_bytes 4 b luma m).idx) (fetch row_bytes 4 b row c).next

module _ (row luma a b i j : List ℕ) (next : ℕ) (ea : length a ≡ luma_rows_at) (ei : length i ≡ 5) (er : length row ≡ row_bytes) (n : next ≤ 4) where
  both_parts : (o : Bool) → through o row luma (ring (a ++ b) (i ++ j) next) ≡ apart o row luma (ring a i next) (ring b j next)
  both_parts true =
      let s : sets (sets (a ++ b) (next * row_bytes) row) (luma_rows_at + next * luma_row_bytes) luma ≡ sets a (next * row_bytes) row ++ sets b (next * luma_row_bytes) luma =
      rw (sets_first row a b (next * row_bytes) (omega arith)) (sets_second luma (sets a (next * row_bytes) row) b luma_rows_at (next * luma_row_bytes) (length-sets a (next * row_bytes) row ∙ ea)) in
      let t : set (set (i ++ j) 4 next) 9 next ≡ set i 4 next ++ set j 4 next =
      rw (set-append_left i j 4 next (omega arith)) (set_second (set i 4 next) j 5 4 next (length-set i 4 next ∙ ei)) in
      λ k. ring (s k) (t k) (wrap 5 next)
  both_parts false = ap (λ (v : List ℕ). ring (a ++ b) v (wrap 5 next)) (pair_set i j 5 4 3 ei (omega arith) (omega arith))

-- two rings whose next slot is the same, in one pair of arrays
abbrev pub joined : Ring → Ring → Ring
joined c m = ring (c.slots ++ m.slots) (c.idx ++ m.idx) c.next

pub both-took : (g : Given) (l : Lent) (p : List ℕ) (done : ℕ) (c m : Ring) → length c.slots ≡ luma_rows_at → length c.idx ≡ 5 → c.next ≤ 4 → c.next ≡ m.next →
    taken Chroma g l p done (joined c m) ≡
    joined (fetch row_bytes 4 (own Chroma g (done + 4)) (pad_row Chroma g l p (done + 4)) c) (fetch luma_row_bytes 4 (own Chroma g (done + 4)) (luma_pad_row g l (done + 4)) m)
both-took g l p done c m er ei n e =
    both_parts (pad_row Chroma g l p (done + 4)) (luma_pad_row g l (done + 4)) c.slots m.slots c.idx m.idx c.next er ei (pad_size Chroma g l p (done + 4)) n (own Chroma g (done + 4)) ∙
    (λ k.
    joined (fetch row_bytes 4 (own Chroma g (done + 4)) (pad_row Chroma g l p (done + 4)) c)
    (fetch luma_row_bytes 4 (own Chroma g (done + 4)) (luma_pad_row g l (done + 4)) (ring m.slots m.idx (e k))))

pub both_moved : (c m : Ring) → length c.idx ≡ 5 → slid_by Chroma (joined c m).idx ≡ slid 4 c.idx ++ slid 4 m.idx
both_moved c m e = λ k. slid 4 (take_first c.idx m.idx 5 e k) ++ slid 4 (drop_first c.idx m.idx 5 e k)

-- LENGTHS stay
pub behind-long : (o : Bool) (row : List ℕ) (g : Ring) → length (fetch_behind o row g).slots ≡ length g.slots
behind-long true row g = length-sets g.slots (luma_rows_at + g.next * luma_row_bytes) row
behind-long false row g = refl

pub behind-count : (o : Bool) (row : List ℕ) (g : Ring) → length (fetch_behind o row g).idx ≡ length g.idx
behind-count true row g = length-set g.idx 9 g.next
behind-count false row g = length-set g.idx 9 (get_or g.idx 8 0)

pub slid-count : (l : List ℕ) → length (slid 4 (take 5 l) ++ slid 4 (drop 5 l)) ≡ length l
slid-count l =
    length-append (slid 4 (take 5 l)) (slid 4 (drop 5 l)) ∙
    ((λ k. slid_length 4 (take 5 l) k + slid_length 4 (drop 5 l) k) ∙ (sym (length-append (take 5 l) (drop 5 l)) ∙ ap length (take-append-drop 5 l)))

-- LOW INDICES
pub behind-low : (o : Bool) (row : List ℕ) (g : Ring) → g.next ≤ 4 → ((j : ℕ) → get_or g.idx j 0 ≤ 4) → (j : ℕ) → get_or (fetch_behind o row g).idx j 0 ≤ 4
behind-low true row g n h = set_low g.idx 9 g.next 4 n h
behind-low false row g n h = set_low g.idx 9 (get_or g.idx 8 0) 4 (h 8) h

take_low : (n : ℕ) (l : List ℕ) (b : ℕ) → ((j : ℕ) → get_or l j 0 ≤ b) → (j : ℕ) → get_or (take n l) j 0 ≤ b
take_low zero l b h j = zero-le
take_low (suc n) [] b h j = zero-le
take_low (suc n) (x ∷ l) b h zero = h zero
take_low (suc n) (x ∷ l) b h (suc j) = take_low n l b (λ i. h (suc i)) j

pub slid-both-low : (l : List ℕ) → ((j : ℕ) → get_or l j 0 ≤ 4) → (j : ℕ) → get_or (slid 4 (take 5 l) ++ slid 4 (drop 5 l)) j 0 ≤ 4
slid-both-low l h =
    append_low (slid 4 (take 5 l)) (slid 4 (drop 5 l)) 4 (slid-low 4 4 (take 5 l) (take_low 5 l 4 h)) (slid-low 4 4 (drop 5 l) (λ j. rw (get_or-drop 5 l j 0) (h (5 + j))))
