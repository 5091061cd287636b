-- An advance of any operation: so many steps, served or declined.
use mathlib.Core.Path.{◌≡◌, refl}
use mathlib.Core.List.{List}
use Prim.Native.Nat.{ℕ, zero, suc, ◌-◌, ◌/◌, min}
use Rattle.definition.specs.declared.Operation.{Operation}
use Rattle.definition.specs.Blocks.{side, pieces_of}
use Rattle.definition.specs.Units.{Lent}
use Rattle.history.specs.History.{Out}
use Rattle.history.specs.Advance.{advanced, pick_out}
use Rattle.units.specs.declared.State.{State}
use Rattle.units.specs.Step.{Gone}
use Rattle.std.specs.Prelude.{Ok, Err}
use Rattle.definition.specs.declared.Refusal.{Refusal}
use Rattle.definition.specs.Answers.{number}
use Rattle.laws.proofs.Answers.{number_some}
use Rattle.units.specs.Advances.{Answered, answer, advanced_of, status_of}
use Rattle.definition.specs.Calls.{call_of}

module _ (op : Operation) (l : Lent) (s₀ : State) (p₀ : List ℕ) where
  -- an advance that is served
  pub served : (count n pieces : ℕ) {s : State} {p : List ℕ} → status_of (call_of op count l) s₀ p₀ ≡ 0 → n ≡ min count (s₀.given.h - s₀.done) →
      pieces ≡ pieces_of l.skip (s₀.given.w / side) s₀.done n → Gone op l s₀ p₀ n s p →
      Answered (advanced_of s (Ok pieces)) p (answer (call_of op count l) s₀ p₀)
  unfolding answer advanced
  served count n pieces z en ep g = rw (z, ← en) (record { status = refl; pieces = ep; state = g.state; plane = g.plane })

  -- .. and one that is declined
  pub declined : (count : ℕ) (r : Refusal) → number r ≡ status_of (call_of op count l) s₀ p₀ → Answered (advanced_of s₀ (Err r)) p₀ (answer (call_of op count l) s₀ p₀)
  unfolding answer advanced
  declined count r e = go (status_of (call_of op count l) s₀ p₀) _ e
    where
      go : (n : ℕ) (o : Out State) → number r ≡ n → Answered (advanced_of s₀ (Err r)) p₀ (pick_out n o (record { status = n; pieces = 0; state = s₀; plane = p₀ }))
      go zero o d = absurd (number_some r d)
      go (suc n) o d = record { status = d; pieces = refl; state = refl; plane = refl }
