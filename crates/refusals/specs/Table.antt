-- What the private functions ask and leave: the table of refusals in two parts. The first four conditions bound the sizes and strides, so that the rest can be worked out in 64 bits.
use Rattle.std.specs.Prelude.{◌≡◌, true, not, List, [], ◌∷◌, ◌≤◌}
use Rattle.definition.specs.declared.Operation.{Operation}
use Rattle.definition.specs.declared.Given.{Given}
use Rattle.definition.specs.declared.Sizes.{Sizes}
use Rattle.definition.specs.Refusals.{Check, ◌⇒◌, sized, bad_stride, bad_pair, bad_plane, bad_left, bad_top, bad_bottom, bad_masks, bad_filters, bad_luma}
use Rattle.definition.specs.Blocks.{side}
use Rattle.definition.specs.Units.{chromatic}
use Rattle.definition.specs.Limits.{width_limit, height_limit, stride_limit}

abbrev pub first_checks : Operation → Given → List Check
first_checks op g =
    (not (sized width_limit g.w) ⇒ 1) ∷
    (not (sized height_limit g.h) ⇒ 2) ∷
    (bad_stride op g ⇒ 3) ∷
    (bad_pair op g ⇒ 4) ∷
    []

abbrev pub later_checks : Operation → Given → Sizes → List Check
later_checks op g z =
    (bad_plane op g z ⇒ 5) ∷
    (bad_left g z ⇒ 6) ∷
    (bad_top op g z ⇒ 7) ∷
    (bad_bottom op g z ⇒ 8) ∷
    (bad_masks op g z ⇒ 9) ∷
    (bad_filters op g z ⇒ 10) ∷
    (bad_luma op g z ⇒ 11) ∷
    []

-- what the first part bounds of a chroma unit, and of every unit
pub record LumaWithin (g : Given) : Type 0 where
  pub wide : g.w ≤ width_limit
  pub low : side ≤ g.h
  pub tall : g.h ≤ height_limit
  pub near : g.luma_stride ≤ stride_limit
  pub hor : g.ss_hor ≤ 1
  pub ver : g.ss_ver ≤ 1

pub record Within (op : Operation) (g : Given) : Type 0 where
  pub wide : g.w ≤ width_limit
  pub low : side ≤ g.h
  pub tall : g.h ≤ height_limit
  pub near : g.stride ≤ stride_limit
  pub luma : chromatic op ≡ true → LumaWithin g
