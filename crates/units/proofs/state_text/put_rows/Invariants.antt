use Rattle.std.proofs.Common.{◌≡◌, ◌++◌, take}
use Rattle.definition.specs.StateText.{text_limit}
use Rattle.units.specs.Texts.{bytes_before}
use Rattle.units.proofs.KeptRows.{first_texts}
use Rattle.units.proofs.state_text.put_rows.Given as goal

abbrev pub invariant-loop-k : goal.invariant-loop-k
invariant-loop-k l = (l.from ≡ bytes_before l.op l.k) × (l.text ≡ take text_limit (l.initial.text ++ first_texts l.op l.rows l.k))
