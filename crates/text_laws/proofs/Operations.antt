-- The line of an operation, and its ten rows.
use mathlib.Core.Path.{◌≡◌, refl, subst}
use mathlib.Core.Bool.{true}
use mathlib.Core.List.{List, [], ◌∷◌}
use Prim.Native.Nat.{ℕ, zero, suc, ◌+◌, ◌*◌, ◌≤◌, ◌<◌}
use native.Mathlib.Omega.{arith}
use borrow.Author.Tests.{eqb-true}
use lib.Dec.{eqb}
use lib.ListN.{length, get_or, length-append}
use Rattle.definition.specs.declared.Operation.{Operation}
use Rattle.definition.specs.declared.Operation.TheVariants.{Luma, User, Pretrained, Chroma}
use Rattle.definition.specs.Rows.{state_bytes}
use Rattle.definition.specs.Card.{input_at, value, ended, word_at, newline, row_at, row_text}
use Rattle.definition.specs.StateText.{byte_limit, several_text, letter, op_name, op_text, letter_at, op_at, row_width, ten_text, ten_at, InField}
use Rattle.text_laws.proofs.Found.{found-true, found-either}
use Rattle.text_laws.proofs.Standing.{Stands, Reads, Spells, stands-second, stands-both, reads-then, spells-then}
use Rattle.text_laws.proofs.Bytes.{byte-stands, first-byte, ended-reads, ended-spells, word-reads, word-spells}
use Rattle.text_laws.proofs.Several.{several-reads, several-spells, Each}
use Rattle.text_laws.proofs.Rows.{row-reads, row-spells, row-long}

-- THE LETTER
letter-reads : (op : Operation) → Reads letter_at (letter op ∷ newline ∷ []) op
unfolding letter_at
letter-reads Luma s at q w = rw (first-byte s at _ w.is) (ended-reads newline Luma s (at + 1) q (stands-second (letter Luma ∷ []) (newline ∷ []) w))
letter-reads User s at q w = rw (first-byte s at _ w.is) (ended-reads newline User s (at + 1) q (stands-second (letter User ∷ []) (newline ∷ []) w))
letter-reads Pretrained s at q w = rw (first-byte s at _ w.is) (ended-reads newline Pretrained s (at + 1) q (stands-second (letter Pretrained ∷ []) (newline ∷ []) w))
letter-reads Chroma s at q w = rw (first-byte s at _ w.is) (ended-reads newline Chroma s (at + 1) q (stands-second (letter Chroma ∷ []) (newline ∷ []) w))

letter-stands : (s : List ℕ) (at q : ℕ) (op x : Operation) → letter x < 256 → eqb (input_at s at) (letter x) ≡ true → ended s newline x (at + 1) ≡ value op q →
    Unit {0} × Stands (letter op ∷ newline ∷ []) s at q
letter-stands s at q op x h t e =
    let i = ended-spells newline x (omega arith) s (at + 1) q op e in
    (tt, subst (λ y. Stands (letter y ∷ newline ∷ []) s at q) i.0 (stands-both (byte-stands s at (letter x) h (eqb-true (input_at s at) (letter x) t)) i.1))

letter-spells : Spells (λ _. Unit {0}) letter_at (λ op. letter op ∷ newline ∷ [])
unfolding letter_at
letter-spells s at q op e =
    found-either (eqb (input_at s at) (letter Luma)) e (letter-stands s at q op Luma (omega arith)) (λ _ e₁.
    found-either (eqb (input_at s at) (letter User)) e₁ (letter-stands s at q op User (omega arith)) (λ _ e₂.
    found-either (eqb (input_at s at) (letter Pretrained)) e₂ (letter-stands s at q op Pretrained (omega arith)) (λ _ e₃.
    let x = found-true (eqb (input_at s at) (letter Chroma)) e₃ in
    letter-stands s at q op Chroma (omega arith) x.0 x.1)))

-- ITS LINE
pub op-reads : (op : Operation) → Reads op_at (op_text op) op
unfolding op_at op_text
op-reads op = reads-then (λ _ s p. letter_at s p) (word-reads op_name) (letter-reads op)

pub op-spells : Spells (λ _. Unit {0}) op_at op_text
unfolding op_at op_text
op-spells s at q op e =
    spells-then {f = λ s. word_at s op_name} (word-spells op_name refl) e (λ _ p _ i v. (tt, stands-both i (letter-spells s p q op v).1))

pub op-short : (op : Operation) → length (op_text op) ≤ 5
unfolding op_text
op-short op = omega arith

-- TEN ROWS
pub ten-reads : (op : Operation) (rows : List (List ℕ)) → length rows ≡ 10 → ((k : ℕ) → k < 10 → InField byte_limit (row_width op k) (get_or rows k [])) → Reads (ten_at op) (ten_text rows) rows
unfolding ten_at ten_text
ten-reads op rows e h =
    several-reads (λ k s. row_at s (row_width op k)) [] 10 (λ k. row_text (get_or rows k [])) rows e (λ k b. row-reads (row_width op k) (get_or rows k []) (h k b))

pub ten-spells : (op : Operation) → Spells (Each (λ k. InField byte_limit (row_width op k)) [] 10) (ten_at op) ten_text
unfolding ten_at ten_text
ten-spells op = several-spells (λ k s. row_at s (row_width op k)) [] (λ k. InField byte_limit (row_width op k)) (λ k. row_text) 10 (λ k b. row-spells (row_width op k))

-- how long texts are, one behind the other
total : (ℕ → ℕ) → ℕ → ℕ
total w zero = 0
total w (suc n) = total w n + w n

several-long : (w : ℕ → ℕ) (t : ℕ → List ℕ) (n : ℕ) → ((k : ℕ) → k < n → length (t k) ≡ w k) → length (several_text t n) ≡ total w n
unfolding several_text total
several-long w t zero h = refl
several-long w t (suc n) h = omega (arith, length-append (several_text t n) (t n), several-long w t n (λ k l. h k (omega arith)), h n (omega arith))

ten-total : (op : Operation) → total (λ k. 5 + 2 * row_width op k) 10 ≤ 10 * 5 + 2 * state_bytes
unfolding total
ten-total Luma = omega arith
ten-total User = omega arith
ten-total Pretrained = omega arith
ten-total Chroma = omega arith

pub ten-short : (op : Operation) (rows : List (List ℕ)) → ((k : ℕ) → k < 10 → InField byte_limit (row_width op k) (get_or rows k [])) →
    length (ten_text rows) ≤ 10 * 5 + 2 * state_bytes
unfolding ten_text
ten-short op rows h =
    let e = several-long (λ k. 5 + 2 * row_width op k) (λ k. row_text (get_or rows k [])) 10
    (λ k b. let i : length (get_or rows k []) ≡ row_width op k = (h k b).size in omega (arith, row-long (get_or rows k []), i)) in
    omega (arith, e, ten-total op)
