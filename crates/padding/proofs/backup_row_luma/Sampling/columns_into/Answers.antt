-- `padding::backup_row_luma::Sampling::columns_into` meets its contract: where one row of luma gives each byte, its columns are a part of it (`part_tab`, `copied`).
use mathlib.Core.Path.{sym, ap, ◌∙◌}
use native.Mathlib.Omega.{arith}
use lib.Seq.{sets}
use Rattle.padding.proofs.Columns.{copied}
use Rattle.padding.proofs.Put.{part_tab}
use Rattle.padding.proofs.backup_row_luma.Sampling.columns_into.Goals as goal

pub returns-then-lower_at-eq0 : goal.returns-then-lower_at-eq0
returns-then-lower_at-eq0 c =
    c.copy_into.ensures ∙
    ap (sets c.args.dst.now c.args.at) (part_tab c.args.row.now 0 c.args.n _ (omega arith) (omega arith)) ∙
    copied c.args.self.ss_ver c.args.self.kind (sym c.lower_at.ensures ∙ c.if-lower_at-eq0.true) c.args.dst.now c.args.row.now c.args.at c.args.n c.args.stride
