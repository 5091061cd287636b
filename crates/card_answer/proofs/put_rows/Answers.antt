use Rattle.std.proofs.Common.{◌≡◌, sym, ap, ◌∙◌, ◌+◌, ◌-◌, ◌*◌, ◌≤◌, ◌<◌, ◌++◌, ℕ, List, min, append-nil, arith, length, take}
use native.Mathlib.Decide.{dec_lt}
use native.Mathlib.Nat.{zero-mul, add-mul, one-mul}
use lib.ListN.{drop, length-drop}
use lib.Seq.{drop-drop, take_all}
use Rattle.definition.specs.Card.{rows_text}
use Rattle.card_laws.proofs.Planes.{in_plane, front, behind}
use Rattle.card_answer.specs.Answers.{text_size}
use Rattle.card_answer.proofs.Texts.{rows_more}
use Rattle.card_answer.proofs.put_rows.Goals as goal

-- a row that comes off the front of what is left of a plane behind y rows
record Row (w y : ℕ) (plane row rest : List ℕ) : Type 0 where
  is : row ≡ take w (drop (y * w) plane)
  behind_it : rest ≡ drop ((y + 1) * w) plane

row_of : (w y h : ℕ) (plane row rest left : List ℕ) → y < h → w * h ≤ length plane → left ≡ drop (y * w) plane → left ≡ row ++ rest → length row ≡ min w (length left) → Row w y plane row rest
row_of w y h plane row rest left low room is e size =
    let l : length row ≡ w = omega (arith, size, ap length is, length-drop (y * w) plane, in_plane y w h (length plane) low room) in
    let k : y * w + w ≡ (y + 1) * w = omega (arith, add-mul y 1 w, one-mul w) in
    record {
      is = sym (front row rest w l) ∙ ap (take w) (sym e ∙ is);
      behind_it = sym (behind row rest w l) ∙ ap (drop w) (sym e ∙ is) ∙ drop-drop w (y * w) plane ∙ ap (λ n. drop n plane) k;
    }

pub loop-row-init : goal.loop-row-init
unfolding rows_text
loop-row-init c =
    let i = c.into_iter-row-iterator.ensures.into_iter_gives in
    let t = c.take-row-items.ensures in
    let n : c.into_iter-row-iterator.result.n ≡ c.args.h = ap (λ r. r.n) i ∙ t.count in
    let y : c.args.h - c.into_iter-row-iterator.result.n ≡ 0 = omega (arith, n) in
    let source : c.into_iter-row-iterator.result.iter ≡ c.chunks.result = ap (λ r. r.iter) i ∙ t.source in
    rw (y, zero-mul c.args.w) (
      sym (ap (take text_size) (append-nil c.args.out.now) ∙ take_all text_size c.args.out.now c.requires.0),
      omega (arith, n),
      ap (λ r. r.size) source ∙ c.chunks.ensures.size,
      ap (λ r. r.rest.now) source ∙ c.chunks.ensures.rest,
    )

pub loop-row-preserved : goal.loop-row-preserved
loop-row-preserved c =
    let s = c.in-Some.ensures.steps in
    let v = c.loop-row.invariant in
    let y = c.args.h - c.loop-row.row-iterator.n in
    let next : c.args.h - c.next.new.self.n ≡ y + 1 = omega (arith, s.1, v.1) in
    let r = row_of c.args.w y c.args.h c.args.plane.now _ _ _ (omega (arith, s.1, v.1)) c.requires.2 v.3 s.0.1.0 (rw v.2 at s.0.1.1) in
    rw next (
      rows_more c.args.w y c.args.plane.now _ _ _ _ v.0 r.is c.put_row.ensures,
      omega (arith, s.1, v.1),
      s.0.0 ∙ v.2,
      r.behind_it,
    )

pub returns : goal.returns
returns c =
    let v = c.loop-row.invariant in
    let w = c.args.w in
    let h = c.args.h in
    let y = h - c.loop-row.row-iterator.n in
    let all : y ≡ h =
    elim (dec_lt 0 c.loop-row.row-iterator.n) [
      | yes lt ↦
          let plane = c.args.plane.now in
          absurd
          (omega (arith, (c.in-None.ensures.steps lt).1, ap length v.3, length-drop (y * w) plane, in_plane y w h (length plane) (omega (arith, lt, v.1)) c.requires.2, c.requires.1))
      | no ge ↦ omega arith
    ] in
    rw all at v.0
