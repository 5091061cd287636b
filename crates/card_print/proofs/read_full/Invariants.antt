use Rattle.std.proofs.Common.{◌≡◌, ◌-◌, ◌≤◌, length, take}
use Rattle.std.specs.Io.KnownBytes.{Consumes}
use Rattle.card_print.proofs.read_full.Given as goal

-- no more bytes came than there is room for, and what came stands at the start of the room
abbrev pub invariant-loop-n : goal.invariant-loop-n
invariant-loop-n g l = (length l.space ≡ length l.initial.space) × (l.n ≤ length l.space)
    × Consumes (g.R.Read.remaining l.initial.reader) (g.R.Read.remaining l.reader) (take l.n l.space)

abbrev pub decreases-loop-n : goal.decreases-loop-n
decreases-loop-n g l = length l.initial.space - l.n
