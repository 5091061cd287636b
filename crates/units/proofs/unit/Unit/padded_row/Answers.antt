-- `Unit::padded_row` meets its contract: above the unit a saved row, of which `Sources` has that it lies inside and is the definition's; else what `lower_row` gives.
use Rattle.std.proofs.Common.{◌∙◌, refl, ap, ℕ, ◌-◌, arith}
use Rattle.units.proofs.Sources.{top_fits, top-is}
use Rattle.units.proofs.unit.Unit.padded_row.Goals as goal

pub saved_row-requires : goal.saved_row-requires
saved_row-requires c =
    let u = c.args.self.now in
    top_fits u.inside.lie.own u.inside.lie.above (c.args.r - c.first_row.result) refl (omega arith)

pub returns-then-r-e : goal.returns-then-r-e
returns-then-r-e c =
    c.saved_row.ensures ∙ top-is _ _ _ _ c.args.r refl (ap (λ (n : ℕ). c.args.r - n) c.first_row.ensures) c.requires.0 (omega arith)
