-- What a status of 0 says of rows and blocks, and what gives it.
use mathlib.Core.Path.{◌≡◌}
use mathlib.Core.Bool.{true}
use mathlib.Core.List.{List}
use Prim.Native.Nat.{ℕ, ◌≤◌}
use lib.Dec.{leb}
use lib.ListN.{length, get_or}
use borrow.Author.Tests.{leb-true}
use Rattle.definition.specs.Rows.{index_count}
use Rattle.definition.specs.Refusals.{rows_size, indices_up_to}
use Rattle.laws.proofs.Passes.{pass_at}
use Rattle.features.specs.Columns.{TenRows}

-- the rows lie inside
pub rows_inside : (rows indices : List ℕ) → rows_size ≤ length rows → indices_up_to 9 indices ≡ true → TenRows rows indices
rows_inside rows indices h e =
    record { size = h; low = λ j l. leb-true (get_or indices j 0) 9 (pass_at (λ i. leb i 9) indices index_count j l e) }
