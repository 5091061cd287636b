-- How long the parts of a card are at most.
use Prim.Native.Nat.{ℕ, ◌+◌, ◌*◌}
use Rattle.definition.specs.Limits.{height_limit, block_row_limit}
use Rattle.definition.specs.Card.{row_line}

-- the bytes of a skip line
abbrev pub skip_line : ℕ
skip_line = 5 + 5 * block_row_limit

-- the bytes of a unit's lines: of op, w, h, edges and filter, of skip, and of its rows
abbrev pub unit_bytes : ℕ
unit_bytes = 5 + 6 + 6 + 8 + 87 + skip_line + height_limit * row_line
