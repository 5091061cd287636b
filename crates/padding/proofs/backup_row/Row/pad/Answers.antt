-- `padding::backup_row::Row::pad` meets its contract: three stretches, one behind the other, are one padded row (`row_written`).
use Rattle.definition.specs.Padding.{has_left, has_right}
use Rattle.padding.proofs.Around.{row_written}
use Rattle.padding.proofs.backup_row.Row.pad.Goals as goal

pub returns : goal.returns
returns c =
    rw (c.row_into.ensures, c.before_into.ensures, c.of-sides.ensures.0, c.of-sides.ensures.1)
    (row_written c.args.src.now c.args.left.now c.args.self.o c.args.self.src_o c.args.self.left_off c.args.self.w c.args.self.edge_len c.requires.some c.requires.front (has_left c.args.self.edges) (has_right c.args.self.edges) c.args.dst.now
    (λ h. (c.requires.before h).0))
