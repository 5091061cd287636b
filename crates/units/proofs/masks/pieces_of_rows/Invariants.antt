-- `masks::pieces_of_rows` meets its contract. The loop's invariant: the pieces of i rows, at most 16 to a row.
use Rattle.std.proofs.Common.{◌≡◌, ◌*◌, ◌≤◌}
use Rattle.definition.specs.Limits.{block_column_limit}
use Rattle.definition.specs.Blocks.{pieces_of}
use Rattle.units.proofs.masks.pieces_of_rows.Given as goal

abbrev pub invariant-loop-i : goal.invariant-loop-i
invariant-loop-i l =
    (l.pieces ≤ block_column_limit * l.i) × (l.pieces ≡ pieces_of l.skip l.bw l.k l.i)
