-- DEMAND 3 for a unit of any operation that was opened.
use mathlib.Core.Path.{◌≡◌}
use mathlib.Core.List.{List}
use Rattle.definition.specs.declared.Operation.{Operation}
use Rattle.definition.specs.declared.Operation.TheVariants.{Luma, User, Pretrained, Chroma}
use Rattle.definition.specs.declared.Given.{Given}
use Prim.Native.Nat.{ℕ}
use Rattle.definition.specs.Units.{Lent}
use Rattle.definition.specs.Refusals.{open_status}
use Rattle.units.specs.Histories.{Histories}
use Rattle.units.proofs.LumaHistory.{luma-history}
use Rattle.units.proofs.ClassedHistory.{user_history, pretrained_history}
use Rattle.units.proofs.ChromaHistory.{chroma_history}

pub histories : (op : Operation) (n : Given) (l : Lent) (p : List ℕ) → open_status op n l p ≡ 0 → Histories op n l p
histories Luma = luma-history
histories User = user_history
histories Pretrained = pretrained_history
histories Chroma = chroma_history
