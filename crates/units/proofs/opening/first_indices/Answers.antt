-- `opening::first_indices` meets its contract, by the operation.
use Rattle.std.proofs.Common.{◌∙◌, sym}
use Rattle.model.proofs.Opening.{open_ring}
use Rattle.operations.proofs.Chosen.{chroma_is}
use Rattle.units.proofs.Openings.{first_indices}
use Rattle.units.proofs.opening.first_indices.Goals as goal

pub returns-then-is_chroma : goal.returns-then-is_chroma
unfolding open_ring
returns-then-is_chroma c =
    λ l p. rw (chroma_is c.args.op (sym c.is_chroma.ensures ∙ c.if-is_chroma.true)) c.open_indices.ensures

pub returns : goal.returns
returns c =
    λ l p. first_indices c.args.op l (sym c.is_chroma.ensures ∙ c.if-is_chroma.false) c.args.g p c.open_indices-2.ensures
