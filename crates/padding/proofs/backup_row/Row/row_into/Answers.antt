-- `padding::backup_row::Row::row_into` meets its contract, by whether bytes are lent behind the row.
use mathlib.Core.Path.{ap, ◌∙◌}
use Prim.Native.Nat.{◌+◌, ◌-◌}
use native.Mathlib.Omega.{arith}
use lib.Seq.{sets}
use Rattle.padding.proofs.Around.{row_on, beside_set}
use Rattle.padding.proofs.Put.{part_tab}
use Rattle.padding.proofs.backup_row.Row.row_into.Goals as goal

pub returns-then-lent : goal.returns-then-lent
returns-then-lent c =
    let b = beside_set c.args.lent c.args.self.edge_len c.if-lent.true in
    c.copy_into.ensures ∙
    ap (sets c.args.dst.now c.args.self.o) (part_tab c.args.src.now c.args.self.src_o (c.args.self.w + c.args.self.edge_len) _ (omega arith) (omega arith)) ∙
    row_on c.args.dst.now c.args.src.now c.args.self.o c.args.self.src_o c.args.self.w c.args.self.edge_len c.args.lent c.if-lent.true

pub returns-else-lent : goal.returns-else-lent
returns-else-lent c =
    rw (c.fill_into.ensures, c.copy_into-else-lent.ensures, part_tab c.args.src.now c.args.self.src_o c.args.self.w (c.args.self.src_o + c.args.self.w - c.args.self.src_o) (omega arith) (omega arith), c.if-lent.false)
