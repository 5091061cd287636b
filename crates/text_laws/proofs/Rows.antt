-- The line of a row: two hex digits for each byte.
use mathlib.Core.Path.{◌≡◌, refl, sym, ap, ◌∙◌, subst}
use mathlib.Core.Bool.{Bool, true, false}
use mathlib.Core.List.{List, [], ◌∷◌, ◌++◌, append_assoc}
use Prim.Native.Nat.{ℕ, zero, suc, ◌+◌, ◌-◌, ◌*◌, ◌/◌, ◌%◌, ◌≤◌, ◌<◌}
use native.Mathlib.Nat.{div-add-mod}
use native.Mathlib.Decide.{dec_le}
use native.Mathlib.Omega.{arith}
use borrow.Author.Tests.{lt-ltb, le-ltb, ltb-false, le-leb, lt-leb, leb-true}
use lib.Dec.{ltb, leb}
use lib.ListN.{length, get_or, take, length-append}
use lib.Seq.{take-suc, take_all}
use Rattle.definition.specs.Card.{input_at, value, reading, several, ended, word_at, newline, hex_of, pair_at, row_at, row_name, glyph, hex_text, row_text}
use Rattle.definition.specs.StateText.{byte_limit, several_text, InField}
use Rattle.text_laws.proofs.Found.{found-false, same-value}
use Rattle.text_laws.proofs.Standing.{Stands, Reads, Spells, stands-both, reads-then, reads-as, spells-then}
use Rattle.text_laws.proofs.Bytes.{byte-stands, first-byte, second-byte, ended-reads, ended-spells, word-reads, word-spells}
use Rattle.text_laws.proofs.Several.{several-reads, several-spells}

-- A HEX DIGIT AND ITS BYTE
hex-low : (d : ℕ) → d < 10 → glyph d ≡ 48 + d
hex-low d h = rw (lt-ltb d 10 h)

hex-high : (d : ℕ) → 10 ≤ d → glyph d ≡ 87 + d
hex-high d h = rw (le-ltb d 10 h)

hex-read : (d : ℕ) → d < 16 → hex_of (glyph d) ≡ d
hex-read d h =
    elim (dec_le 10 d) [
      | yes l ↦
          let a : 87 + d - 87 ≡ d = omega arith in
          rw (hex-high d l, le-leb 48 (87 + d) (omega arith), lt-leb (87 + d) 57 (omega arith), le-leb 97 (87 + d) (omega arith), le-leb (87 + d) 102 (omega arith)) a
      | no l ↦
          let k : d < 10 = omega arith in
          let a : 48 + d - 48 ≡ d = omega arith in
          rw (hex-low d k, le-leb 48 (48 + d) (omega arith), le-leb (48 + d) 57 (omega arith)) a
    ]

hex-byte : (b : ℕ) → hex_of b ≤ 15 → b ≡ glyph (hex_of b)
hex-byte b h = go (leb 48 b) (leb b 57) (leb 97 b) (leb b 102) refl refl refl refl
  where
    none : hex_of b ≡ 16 → b ≡ glyph (hex_of b)
    none e = absurd (past e)
      where
        past : hex_of b ≡ 16 → ⊥
        past e = omega (arith, e, h)

    letter : 97 ≤ b → b ≤ 102 → hex_of b ≡ b - 87 → b ≡ glyph (hex_of b)
    letter l k d = sym (ap glyph d ∙ hex-high (b - 87) (omega arith) ∙ omega arith)

    go : (x y z u : Bool) → leb 48 b ≡ x → leb b 57 ≡ y → leb 97 b ≡ z → leb b 102 ≡ u → b ≡ glyph (hex_of b)
    go true true z u e f g k =
        let l : 48 ≤ b = leb-true 48 b e in
        let m : b ≤ 57 = leb-true b 57 f in
        let d : hex_of b ≡ b - 48 = rw (e, f) in
        sym (ap glyph d ∙ hex-low (b - 48) (omega arith) ∙ omega arith)
    go true false true true e f g k = letter (leb-true 97 b g) (leb-true b 102 k) (rw (e, f, g, k))
    go true false true false e f g k = none (rw (e, f, g, k))
    go true false false u e f g k = none (rw (e, f, g))
    go false y true true e f g k = letter (leb-true 97 b g) (leb-true b 102 k) (rw (e, g, k))
    go false y true false e f g k = none (rw (e, g, k))
    go false y false u e f g k = none (rw (e, g))

-- a hex digit stands there
hex-stands : (s : List ℕ) (at : ℕ) → hex_of (input_at s at) ≤ 15 → Stands (glyph (hex_of (input_at s at)) ∷ []) s at (at + 1)
hex-stands s at h = byte-stands s at (glyph d) under (hex-byte (input_at s at) h)
  where
    d : ℕ
    d = hex_of (input_at s at)

    under : glyph d < 256
    under =
        elim (dec_le 10 d) [
          | yes l ↦ rw (hex-high d l) (omega arith)
          | no l ↦ rw (hex-low d (omega arith)) (omega arith)
        ]

-- TWO OF THEM
pair-reads : (b : ℕ) → b ≤ byte_limit → Reads (λ s. pair_at s) (hex_text (b ∷ [])) b
unfolding pair_at
pair-reads b h s at q w =
    let x : input_at s at ≡ glyph (b / 16) = first-byte s at (hex_text (b ∷ []) ++ w.rest) w.is in
    let y : input_at s (at + 1) ≡ glyph (b % 16) = second-byte s at (hex_text (b ∷ []) ++ w.rest) w.is in
    let m : 16 * (b / 16) + b % 16 ≡ b = div-add-mod b 16 in
    rw (x, y, hex-read (b / 16) (omega arith), hex-read (b % 16) (omega arith), le-ltb 15 (b / 16) (omega arith), le-ltb 15 (b % 16) (omega arith), m)
    (ap (value b) (sym w.place))

pair-spells : Spells (λ b. b ≤ byte_limit) (λ s. pair_at s) (λ b. hex_text (b ∷ []))
unfolding pair_at
pair-spells s at q v e =
    let x : ℕ = hex_of (input_at s at) in
    let y : ℕ = hex_of (input_at s (at + 1)) in
    let i = found-false (ltb 15 x) e in
    let j = found-false (ltb 15 y) i.1 in
    let k = same-value j.1 in
    let lx : x ≤ 15 = ltb-false 15 x i.0 in
    let ly : y ≤ 15 = ltb-false 15 y j.0 in
    let a : x ≡ v / 16 = omega (arith, k.0) in
    let b : y ≡ v % 16 = omega (arith, k.0) in
    let f : Stands (glyph (v / 16) ∷ []) s at (at + 1) = subst (λ d. Stands (glyph d ∷ []) s at (at + 1)) a (hex-stands s at lx) in
    let g : Stands (glyph (v % 16) ∷ []) s (at + 1) (at + 1 + 1) = subst (λ d. Stands (glyph d ∷ []) s (at + 1) (at + 1 + 1)) b (hex-stands s (at + 1) ly) in
    let p : at + 1 + 1 ≡ q = omega (arith, k.1) in
    (omega (arith, k.0), subst (λ r. Stands (hex_text (v ∷ [])) s at r) p (stands-both f g))

-- A ROW
hex-append : (xs ys : List ℕ) → hex_text (xs ++ ys) ≡ hex_text xs ++ hex_text ys
hex-append [] ys = refl
hex-append (x ∷ xs) ys = ap (λ l. glyph (x / 16) ∷ glyph (x % 16) ∷ l) (hex-append xs ys)

hex-long : (row : List ℕ) → length (hex_text row) ≡ 2 * length row
hex-long [] = refl
hex-long (b ∷ row) = omega (arith, hex-long row)

-- hex digits, pair by pair
hex-several : (row : List ℕ) (n : ℕ) → n ≤ length row → several_text (λ k. hex_text (get_or row k 0 ∷ [])) n ≡ hex_text (take n row)
unfolding several_text
hex-several row zero h = refl
hex-several row (suc n) h =
    ap (λ t. t ++ hex_text (get_or row n 0 ∷ [])) (hex-several row n (omega arith)) ∙ sym (hex-append (take n row) (get_or row n 0 ∷ [])) ∙ ap hex_text (sym (take-suc row n 0 h))

hex-all : (row : List ℕ) (n : ℕ) → length row ≡ n → several_text (λ k. hex_text (get_or row k 0 ∷ [])) n ≡ hex_text row
hex-all row n e = hex-several row n (omega arith) ∙ ap hex_text (take_all n row (omega arith))

row-joined : (row : List ℕ) → row_name ++ (hex_text row ++ (newline ∷ [])) ≡ row_text row
unfolding row_text
row-joined row = sym (append_assoc row_name (hex_text row) (newline ∷ []))

pub row-long : (row : List ℕ) → length (row_text row) ≡ 5 + 2 * length row
unfolding row_text
row-long row = omega (arith, hex-long row, length-append row_name (hex_text row), length-append (row_name ++ hex_text row) (newline ∷ []))

pub row-reads : (w : ℕ) (row : List ℕ) → InField byte_limit w row → Reads (λ s. row_at s w) (row_text row) row
unfolding row_at
row-reads w row i =
    reads-as {f = λ s. row_at s w} (row-joined row)
    (reads-then (λ _ s p. reading (several (λ k. pair_at s) w p) (λ r q. ended s newline r q)) (word-reads row_name)
    (reads-then (λ r s q. ended s newline r q)
    (reads-as {f = λ s. several (λ k. pair_at s) w} (hex-all row w i.size)
    (several-reads (λ k s. pair_at s) 0 w (λ k. hex_text (get_or row k 0 ∷ [])) row i.size (λ k b. pair-reads (get_or row k 0) (i.each k b))))
    (ended-reads newline row)))

pub row-spells : (w : ℕ) → Spells (InField byte_limit w) (λ s. row_at s w) row_text
unfolding row_at
row-spells w s at q row e =
    spells-then {f = λ s. word_at s row_name} (word-spells row_name refl) e (λ _ p _ i v.
    spells-then {f = λ s. several (λ k. pair_at s) w} (several-spells (λ k s. pair_at s) 0 (λ _ b. b ≤ byte_limit) (λ k b. hex_text (b ∷ [])) w (λ k b. pair-spells)) v (λ x o j z u.
    let n = ended-spells newline x (omega arith) s o q row u in
    let y : Stands (hex_text x) s p o = subst (λ t. Stands t s p o) (hex-all x w j.size) z in
    let t : Stands (row_text x) s at q = subst (λ t. Stands t s at q) (row-joined x) (stands-both i (stands-both y n.1)) in
    subst (λ r. InField byte_limit w r × Stands (row_text r) s at q) n.0 (record { size = j.size; each = j.each }, t)))
