-- A luma unit that is broken off after some rows, has the first sample of its rectangle written over, and is then restored to its end.
use Rattle.std.specs.Prelude.{◌≡◌, cond, ◌&&◌, not, ◌≢◌, List, ℕ, ◌+◌, ◌*◌, ◌-◌, ◌/◌, ◌<◌, min, eqb, length, get_or, Result, IfOk}
use Rattle.definition.specs.declared.Operation.TheVariants.{Luma}
use Rattle.definition.specs.declared.Given.{Given}
use Rattle.definition.specs.declared.Refusal.{Refusal}
use Rattle.definition.specs.Answers.{status_from}
use Rattle.definition.specs.Blocks.{side, pieces_of}
use Rattle.definition.specs.Units.{Lent, final_sample}
use Rattle.definition.specs.Refusals.{open_status}
use Rattle.paused.specs.declared.Paused.{Paused}

-- the sample that was written over holds v, where a row was finished before; each other one is final
abbrev pub held_sample : Given → Lent → List ℕ → ℕ → ℕ → ℕ → ℕ → ℕ
held_sample n l p count v y x = cond (not (eqb count 0) && (eqb y 0 && eqb x 0)) v (final_sample n l p Luma y x)

pub record Overwritten (n : Given) (l : Lent) (count v : ℕ) (p q : List ℕ) : Type 0 where
  pub size : length q ≡ length p
  pub here : (y x : ℕ) → y < n.h → x < n.w → get_or q (n.off + y * n.stride + x) 0 ≡ held_sample n l p count v y x
  pub other : (i : ℕ) → ((y x : ℕ) → y < n.h → x < n.w → i ≢ n.off + y * n.stride + x) → get_or q i 0 ≡ get_or p i 0

pub record PausedUnit (r : Result Paused Refusal) (n : Given) (l : Lent) (count v : ℕ) (p q : List ℕ) : Type 0 where
  pub status : status_from r ≡ open_status Luma n l p
  pub first : open_status Luma n l p ≡ 0 → IfOk r (λ s. s.first ≡ pieces_of l.skip (n.w / side) 0 (min n.h count))
  pub rest : open_status Luma n l p ≡ 0 → IfOk r (λ s. s.rest ≡ pieces_of l.skip (n.w / side) (min n.h count) (n.h - min n.h count))
  pub plane : open_status Luma n l p ≡ 0 → Overwritten n l count v p q
  pub none : open_status Luma n l p ≢ 0 → q ≡ p
