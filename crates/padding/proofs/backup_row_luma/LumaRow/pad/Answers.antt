-- `padding::backup_row_luma::LumaRow::pad` meets its contract: the lent columns and the borders that repeat are one padded row (`luma-done`).
use native.Mathlib.Omega.{arith}
use Rattle.definition.specs.Padding.{has_left, has_right, last_sampled}
use Rattle.definition.specs.Leaves.{source}
use Rattle.padding.proofs.Columns.{last-inside, last_even}
use Rattle.padding.proofs.Luma.{side_of, luma-done}
use Rattle.padding.proofs.backup_row_luma.LumaRow.pad.Goals as goal

pub returns : goal.returns
returns c =
    let sl = side_of (has_left c.args.self.edges) c.of-sides.result.left c.before-left.result c.of-sides.ensures.0 c.before-left.ensures in
    let sr = side_of (has_right c.args.self.edges) c.of-sides.result.right c.behind-right.result c.of-sides.ensures.1 c.behind-right.ensures in
    luma-done c.args.dst.now (source c.args.from_saved c.args.plane.now c.args.saved.now) c.args.self.o c.args.self.src_o c.args.self.src_stride c.args.self.w (last_sampled c.args.self.sampling.ss_hor c.args.self.w) c.args.self.sampling.ss_ver c.args.self.sampling.kind
    c.before-left.result c.behind-right.result (has_left c.args.self.edges) (has_right c.args.self.edges) sl sr c.requires.front c.requires.room
    (last-inside c.args.self.sampling.ss_hor c.args.self.w c.requires.pair.0 c.requires.whole c.requires.some).0 (omega arith)
    (last_even c.args.self.sampling.ss_hor c.args.self.sampling.ss_ver c.args.self.sampling.kind c.args.self.w c.requires.pair.0 c.requires.pair.1 c.requires.whole c.requires.some)
    c.luma_row-row.result.now c.columns_into.new.dst c.border_into.new.dst c.border_into-2.new.dst c.lower_at-lower.result c.last_sampled.result
    c.luma_row-row.ensures c.lower_at-lower.ensures c.last_sampled.ensures c.columns_into.ensures c.border_into.ensures c.border_into-2.ensures
