-- What each loop of `class_stretch` looks for: a block that is not masked, and the first masked one or one of another class.
use mathlib.Core.Bool.{Bool, not, ◌||◌}
use Prim.Native.Nat.{ℕ}
use mathlib.Core.List.{List}
use lib.Dec.{eqb}
use lib.ListN.{get_or}
use Rattle.definition.specs.Blocks.{masked}

abbrev pub clear : ℕ → ℕ → Bool
clear mask k = not (masked mask k)

abbrev pub other : ℕ → List ℕ → ℕ → ℕ → Bool
other mask classes start k = masked mask k || not (eqb (get_or classes k 0) (get_or classes start 0))
