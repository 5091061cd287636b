-- How long an answer is at most.
use Rattle.std.specs.Prelude.{ℕ, ◌+◌, ◌*◌}
use Rattle.definition.specs.Card.{row_line}
use Rattle.definition.specs.Limits.{height_limit}

-- the lines of status 0 and of filtered, and the rows
abbrev pub text_size : ℕ
text_size = 23 + height_limit * row_line
