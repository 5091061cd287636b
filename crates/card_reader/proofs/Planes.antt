-- Rows that are read one behind the other stand one behind the other in a list. Each may have a width of its own: row k is `width k` long and begins at `start k`.
use mathlib.Core.Path.{◌≡◌, refl, sym, ap, ◌∙◌}
use mathlib.Core.List.{List, [], ◌∷◌, ◌++◌, append_assoc}
use Prim.Native.Nat.{ℕ, ◌+◌, ◌*◌, ◌-◌, ◌≤◌, ◌<◌}
use native.Mathlib.Nat.{zero-mul, add-mul, one-mul}
use native.Mathlib.Omega.{arith}
use lib.ListN.{length, take, drop, length-append, length-drop}
use lib.Seq.{drop-drop, length-take-le}
use borrow.Rule.Slice.PartMut.{put_mid}
use Rattle.definition.specs.Card.{value, wrong, several, row_at, joined}
use Rattle.card_laws.proofs.Several.{several-none, several-wrong, several_more}
use Rattle.card_laws.proofs.Planes.{joined_more, joined-long, front, behind}
use Rattle.card_reader.specs.Lines.{Joins}
use Rattle.std.specs.Prelude.{Some, None}

-- n rows were read, and the next starts at a place
pub record Joined (s : List ℕ) (width start : ℕ → ℕ) (at : ℕ) (p₀ p : List ℕ) (next n : ℕ) : Type 0 where
  pub rows : List (List ℕ)
  pub values : several (λ k. row_at s (width k)) n at ≡ value rows next
  pub long : length (joined rows) ≡ start n
  pub plane : p ≡ joined rows ++ drop (start n) p₀

-- rows that begin one behind the other
pub record InTurn (width start : ℕ → ℕ) : Type 0 where
  pub none : start 0 ≡ 0
  pub more : (k : ℕ) → start (k + 1) ≡ start k + width k

pub alike-in-turn : (w : ℕ) → InTurn (λ k. w) (λ k. k * w)
alike-in-turn w = record { none = zero-mul w; more = λ k. add-mul k 1 w ∙ omega (arith, one-mul w) }

module _ (s : List ℕ) (width start : ℕ → ℕ) (t : InTurn width start) (at : ℕ) (p₀ : List ℕ) where
  pub joined-begins : Joined s width start at p₀ p₀ at 0
  joined-begins = record { rows = []; values = several-none (λ k. row_at s (width k)) at; long = sym t.none; plane = rw t.none }

  module _ (p : List ℕ) (next n : ℕ) (j : Joined s width start at p₀ p next n) where
    pub joined-size : start n ≤ length p₀ → length p ≡ length p₀
    joined-size l =
        ap length j.plane ∙ length-append (joined j.rows) (drop (start n) p₀) ∙ omega (arith, j.long, length-drop (start n) p₀)

    -- row n is lent as the part of the list behind those that were read
    pub row-long : start n + width n ≤ length p₀ → length (take (start n + width n - start n) (drop (start n) p)) ≡ width n
    row-long l =
        let k : start n + width n - start n ≡ width n = omega arith in
        rw k (length-take-le (width n) (drop (start n) p) (omega (arith, length-drop (start n) p, joined-size (omega arith), l)))

    module _ (row : List ℕ) (size : length row ≡ width n) where
      put : put_mid (start n) (start n + width n - start n) p row ≡ joined (j.rows ++ (row ∷ [])) ++ drop (start (n + 1)) p₀
      put =
          let k : start n + width n - start n ≡ width n = omega arith in
          rw (k, j.plane, front (joined j.rows) (drop (start n) p₀) (start n) j.long, behind (joined j.rows) (drop (start n) p₀) (start n) j.long, joined_more j.rows row, drop-drop (width n) (start n) p₀, t.more n)
          (sym (append_assoc (joined j.rows) row _))

      pub joined-next : (q : ℕ) → row_at s (width n) next ≡ value row q → Joined s width start at p₀ (put_mid (start n) (start n + width n - start n) p row) q (n + 1)
      joined-next q e =
          record {
            rows = j.rows ++ (row ∷ []);
            values = several_more (λ k. row_at s (width k)) at n next q j.rows row j.values e;
            long = joined-long j.rows row ∙ omega (arith, j.long, size, t.more n);
            plane = put;
          }

    pub joined_stops : (h : ℕ) (q : List ℕ) → n < h → row_at s (width n) next ≡ wrong → Joins (several (λ k. row_at s (width k)) h at) None p₀ q
    joined_stops h q l e = rw (several-wrong (λ k. row_at s (width k)) at h n next j.rows l j.values e) tt

    pub joined_ends : (h : ℕ) → n ≡ h → Joins (several (λ k. row_at s (width k)) h at) (Some next) p₀ p
    joined_ends h e = rw (sym e, j.values) (refl, rw j.long j.plane)
