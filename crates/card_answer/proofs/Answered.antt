-- What a card says of its meaning, and the text of its answer.
use mathlib.Core.Path.{◌≡◌, refl, sym, ap, ◌∙◌}
use mathlib.Core.Bool.{Bool, true, false, cond}
use mathlib.Core.List.{List}
use Prim.Native.Nat.{ℕ, zero, suc, ◌+◌, ◌-◌, ◌*◌, ◌/◌, ◌%◌, ◌≤◌}
use native.Mathlib.Omega.{arith}
use borrow.Author.Tests.{ltb-true, ltb-false}
use lib.Dec.{eqb, ltb}
use lib.ListN.{length, get_or, take, replicate, get_or-append, get_or-eq_default}
use lib.Seq.{get_or-append-add}
use Rattle.std.specs.Prelude.{Result, Ok, Err}
use Rattle.definition.specs.Blocks.{side}
use Rattle.definition.specs.Refusals.{sized}
use Rattle.definition.specs.Limits.{width_limit, height_limit, block_row_limit, plane_size}
use Rattle.definition.specs.Card.{Meaning, unit, refused, joined, skip_entry, spread, restored_plane, filtered, head_text, printed}
use Rattle.laws.proofs.Lists.{tab_cong}
use Rattle.card_laws.proofs.Planes.{front}
use Rattle.card_laws.proofs.Readings.{RightlyRead}
use Rattle.card_reader.specs.Answers.{card, card_of, filled}
use Rattle.card_reader.specs.declared.Card.{Card}
use Rattle.card_answer.specs.Put.{plane_of, unit_text}

abbrev blank : ℕ → List ℕ
blank n = replicate n 0

-- zeros behind a list are what it has there by default
filled_at : (n i : ℕ) (l : List ℕ) → get_or (filled 0 n l) i 0 ≡ get_or l i 0
filled_at n i l = go (ltb i (length l)) refl
  where
    zeros : (m k : ℕ) → get_or (blank m) k 0 ≡ 0
    zeros zero k = refl
    zeros (suc m) zero = refl
    zeros (suc m) (suc k) = zeros m k

    go : (b : Bool) → ltb i (length l) ≡ b → get_or (filled 0 n l) i 0 ≡ get_or l i 0
    go true e = get_or-append l (replicate (n - length l) 0) 0 i (ltb-true i (length l) e)
    go false e =
        let h : length l ≤ i = ltb-false i (length l) e in
        let k : length l + (i - length l) ≡ i = omega arith in
        ap (λ j. get_or (filled 0 n l) j 0) (sym k) ∙ get_or-append-add l (replicate (n - length l) 0) (i - length l) 0 ∙ zeros (n - length l) (i - length l) ∙
        sym (get_or-eq_default l 0 h)

spread-filled : (n : ℕ) (skip : List ℕ) → spread (filled 0 n skip) ≡ spread skip
spread-filled n skip = tab_cong height_limit (skip_entry (filled 0 n skip)) (skip_entry skip) (λ i l. ap (λ v. cond (eqb (i % side) 0) v 0) (filled_at n (i / side) skip))

value_or : {A : Type 0} → A → Result A ℕ → A
value_or a (Ok b) = b
value_or a (Err n) = a

number_or : {A : Type 0} → ℕ → Result A ℕ → ℕ
number_or n (Ok b) = n
number_or n (Err m) = m

-- a card that is refused
pub declined : (m : Meaning) (n : ℕ) → Err n ≡ card_of m → head_text n 0 ≡ printed m
unfolding card_of printed number_or
declined (unit u at) n e = cc
declined (refused status) n e = ap (λ k. head_text k 0) (ap (number_or n) e)

-- the card of a unit
pub record GoodCard (c : Card) (m : Meaning) : Type 0 where
  pub wide : sized width_limit c.w ≡ true
  pub high : sized height_limit c.h ≡ true
  pub text : unit_text c.w c.h c.filter (spread c.skip) (take (c.w * c.h) c.rows) ≡ printed m

pub taken : (m : Meaning) (c : Card) → RightlyRead m → Ok c ≡ card_of m → GoodCard c m
unfolding card_of printed unit_text plane_of restored_plane filtered value_or
taken (refused status) c f e = cc
taken (unit u at) c g e =
    let k : c ≡ card u = ap (value_or c) e in
    rw k
    (record {
      wide = g.wide;
      high = g.high;
      text = rw (spread-filled block_row_limit u.skip, front (joined u.rows) (replicate (plane_size - length (joined u.rows)) 0) (u.w * u.h) g.rows);
    })
