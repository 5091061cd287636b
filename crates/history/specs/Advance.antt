-- An advance over any state, whatever the operation: declined by its status, else so many rows or all that remain.
use Rattle.std.specs.Prelude.{Bool, List, ℕ, zero, suc, ◌-◌, min}
use Rattle.history.specs.History.{Out, World}

-- so many steps
abbrev pub steps {ℓ} : {A : Type ℓ} → (A → A) → ℕ → A → A
steps f zero x = x
steps f (suc n) x = f (steps f n x)

abbrev pub pick_out : {S : Type 0} → ℕ → Out S → Out S → Out S
pick_out zero a b = a
pick_out (suc n) a b = b

-- what an operation is made of
pub record Advancing (S C : Type 0) : Type 0 where
  pub status : C → S → List ℕ → ℕ
  pub count : C → ℕ
  pub rows : S → ℕ
  pub height : S → ℕ
  pub complete : S → Bool
  pub step : C → World S → World S
  pub pieces : C → S → ℕ → ℕ

module _ {S C : Type 0} (a : Advancing S C) where
  abbrev pub todo : C → S → ℕ
  todo c s = min (a.count c) (a.height s - a.rows s)

  -- all that an advance answers
  unfoldable pub advanced : C → S → List ℕ → Out S
  advanced c s p =
      pick_out (a.status c s p)
      (record {
        status = 0;
        pieces = a.pieces c s (todo c s);
        state = (steps (a.step c) (todo c s) (record { state = s; plane = p })).state;
        plane = (steps (a.step c) (todo c s) (record { state = s; plane = p })).plane;
      })
      (record { status = a.status c s p; pieces = 0; state = s; plane = p })
