-- Conditions in a row, each with its number (`lowest`): what a status of 0 says of each, and two lists of them one behind the other.
use mathlib.Core.Path.{◌≡◌, refl}
use mathlib.Core.Bool.{Bool, true, false}
use mathlib.Core.List.{List, [], ◌∷◌, ◌++◌}
use Prim.Native.Nat.{zero, suc}
use native.Mathlib.Omega.{arith}
use lib.Dec.{T}
use Rattle.definition.specs.Refusals.{Check, ◌⇒◌, lowest}

abbrev pub Clear : List Check → Type 0
Clear [] = Unit {0}
Clear ((b ⇒ n) ∷ cs) = (b ≡ false) × Clear cs

-- every number is above 0
abbrev pub named : List Check → Bool
named [] = true
named ((b ⇒ zero) ∷ cs) = false
named ((b ⇒ suc n) ∷ cs) = named cs

pub clear : (cs : List Check) → T (named cs) → lowest cs ≡ 0 → Clear cs
clear [] n e = tt
clear ((true ⇒ zero) ∷ cs) n e = absurd n
clear ((true ⇒ suc k) ∷ cs) n e = absurd (omega arith)
clear ((false ⇒ zero) ∷ cs) n e = absurd n
clear ((false ⇒ suc k) ∷ cs) n e = (refl, clear cs n e)

pub cleared : (cs : List Check) → Clear cs → lowest cs ≡ 0
cleared [] c = refl
cleared ((b ⇒ k) ∷ cs) c = rw c.0 (cleared cs c.1)

-- two lists in a row: the first decides where it holds anything
pub stops : (cs ds : List Check) → (lowest cs ≡ 0 → ⊥) → lowest (cs ++ ds) ≡ lowest cs
stops [] ds h = absurd (h refl)
stops ((true ⇒ n) ∷ cs) ds h = refl
stops ((false ⇒ n) ∷ cs) ds h = stops cs ds h

pub passes : (cs ds : List Check) → T (named cs) → lowest cs ≡ 0 → lowest (cs ++ ds) ≡ lowest ds
passes [] ds n e = refl
passes ((true ⇒ zero) ∷ cs) ds n e = absurd n
passes ((true ⇒ suc k) ∷ cs) ds n e = absurd (omega arith)
passes ((false ⇒ zero) ∷ cs) ds n e = absurd n
passes ((false ⇒ suc k) ∷ cs) ds n e = passes cs ds n e
