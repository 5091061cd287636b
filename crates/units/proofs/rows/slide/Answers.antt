-- `rows::slide` meets its contract: a copy within the list leaves what a loop of stores does.
use Rattle.std.proofs.Common.{◌≡◌, sym, ◌∙◌, ap, List, ℕ, zero, suc, ◌+◌, ◌-◌, ◌<◌, drop, arith, zero-add}
use Rattle.std.specs.Prelude.{length, get_or}
use Rattle.std.proofs.Math.Seq.{paste, paste-zero, get_or-drop}
use Rattle.std.proofs.lemmas.List.Edits.{paste_more, drop-paste}
use lib.ListN.{set, length-drop}
use native.Mathlib.Nat.{add_comm}
use Rattle.history.proofs.Ring.{slid}
use Rattle.units.proofs.rows.slide.Goals as goal

copied : (m : ℕ) (l : List ℕ) → m < length l → slid m l ≡ paste l 0 (drop 1 l) m
copied zero l h = paste-zero l 0 (drop 1 l)
copied (suc m) l h =
    let e : slid m l ≡ paste l 0 (drop 1 l) m = copied m l (omega arith) in
    let long : m < length (drop 1 l) = omega (arith, length-drop 1 l) in
    let x : List ℕ = paste l 0 (drop 1 l) m in
    let d : drop m x ≡ drop m l =
    ap (λ (k : ℕ). drop k x) (sym (zero-add m)) ∙ (drop-paste l 0 (drop 1 l) m (omega arith) (omega (arith, long)) ∙ ap (λ (k : ℕ). drop k l) (zero-add m)) in
    let one : suc m ≡ m + 1 = omega arith in
    let a : get_or x (m + 1) 0 ≡ get_or l (m + 1) 0 = sym (get_or-drop m x 1 0) ∙ (ap (λ (r : List ℕ). get_or r 1 0) d ∙ get_or-drop m l 1 0) in
    let b : get_or (drop 1 l) m 0 ≡ get_or l (m + 1) 0 = rw (add_comm 1 m) at (get_or-drop 1 l m 0) in
    let v : get_or x (suc m) 0 ≡ get_or (drop 1 l) m 0 = rw one (a ∙ sym b) in
    rw (e, v) (ap (λ (k : ℕ). set x k (get_or (drop 1 l) m 0)) (sym (zero-add m)) ∙ rw one (paste_more l 0 (drop 1 l) m 0 (omega arith) long))

pub returns : goal.returns
returns c =
    let n : c.args.m + 1 - 1 ≡ c.args.m = omega arith in
    c.copy_within.ensures.after ∙ rw n (sym (copied c.args.m c.args.indices.now c.requires))
