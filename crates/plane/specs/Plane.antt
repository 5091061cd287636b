-- What restoring a whole plane promises.
use Rattle.std.specs.Prelude.{◌≡◌, ◌≢◌, List, ℕ, ℤ, length}
use Rattle.definition.specs.Rows.{or_zero, unless_refused}
use Rattle.definition.specs.Planes.{plane_after, plane_pieces}
use Rattle.definition.specs.Refusals.{plane_status}
use Rattle.whole.specs.declared.Restored.{Restored}

-- what scratch holds afterwards, s', is free but for its length; a refused call leaves it
pub record PlaneRestored (r : Restored) (w h u count : ℕ) (filter : List ℤ) (skip s s' p q : List ℕ) : Type 0 where
  pub status : r.status ≡ plane_status w h u (length p) (length skip) (length filter) (length s)
  pub pieces : r.pieces ≡ or_zero r.status (plane_pieces w h u count skip)
  pub plane : q ≡ unless_refused r.status p (plane_after w h u count p skip filter)
  pub size : length s' ≡ length s
  pub kept : r.status ≢ 0 → s' ≡ s
