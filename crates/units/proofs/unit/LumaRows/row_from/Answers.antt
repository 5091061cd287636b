-- `LumaRows::row_from` meets its contract: the padding is not refused.
use Rattle.std.proofs.Common.{◌∙◌}
use Rattle.operations.proofs.Borders.{steps_are}
use Rattle.units.proofs.LumaSources.{from-served}
use Rattle.units.proofs.unit.LumaRows.row_from.Goals as goal

pub returns : goal.returns
returns c =
    let g = c.args.self.now.given in
    let w = steps_are g.w g.ss_hor c.args.self.now.inside.own.hor c.luma_step.ensures.0 in
    c.backup_row_luma_8bpc.ensures.dst_after ∙ from-served g _ _ _ w c.requires
