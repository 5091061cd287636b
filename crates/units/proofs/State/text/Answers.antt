use Rattle.std.proofs.Common.{◌≡◌, ◌∙◌, refl, ap, ◌++◌, length, take, arith}
use Rattle.definition.specs.declared.Operation.{Operation}
use Rattle.definition.specs.Rows.{state_bytes, index_count}
use Rattle.definition.specs.Limits.{block_column_limit}
use Rattle.definition.specs.StateText.{text_limit, number_limit, byte_limit, LinesInFields}
use Rattle.units.specs.Texts.{lines_of}
use Rattle.units.proofs.KeptRows.{row-within}
use Rattle.text.proofs.Cuts.{cut_short}
use Rattle.units.proofs.Putting.{sized-within, whole_put}
use Rattle.units.proofs.State.text.Goals as goal

pub put_rows-requires : goal.put_rows-requires
put_rows-requires c = cut_short text_limit _ c.put_line-5.ensures.text_after

-- what each line says of its numbers
each-line : (c : goal.After-put_line-6) (op : Operation) → LinesInFields (lines_of op c.args.self.now)
each-line c op =
    let s = c.args.self.now in
    let long : length s.rows ≡ state_bytes = omega arith in
    record {
      w = c.put_line.ensures.in_field;
      h = c.put_line-2.ensures.in_field;
      edges = c.put_line-3.ensures.in_field;
      done = c.put_line-4.ensures.in_field;
      classes = sized-within byte_limit block_column_limit s.classes (omega arith) c.put_classes.ensures.in_field;
      indices = sized-within number_limit index_count s.indices (omega arith) c.put_list.ensures.in_field;
      next = c.put_line-5.ensures.in_field;
      ten = refl;
      rows = row-within op s.rows long c.put_rows.ensures.bytes;
      strides = c.put_list-2.ensures.in_field;
      offsets = c.put_list-3.ensures.in_field;
      pair = c.put_list-4.ensures.in_field;
      kind = c.put_line-6.ensures.in_field;
    }

pub returns-clause-in_fields : goal.returns-clause-in_fields
returns-clause-in_fields c = record { long = omega arith; lines = λ op e. each-line c op }

pub returns-clause-value : goal.returns-clause-value
returns-clause-value c =
    whole_put c.args.op c.args.self.now _ _ _ _ _ _ _ _ _ _ _ _ _ _ c.new-text.ensures (c.put_word.ensures ∙ ap (λ t. take text_limit (c.new-text.result ++ t)) c.op_line.ensures) c.put_line.ensures.text_after c.put_line-2.ensures.text_after c.put_line-3.ensures.text_after c.put_line-4.ensures.text_after
    c.put_classes.ensures.text_after c.put_list.ensures.text_after c.put_line-5.ensures.text_after c.put_rows.ensures.text_after c.put_list-2.ensures.text_after c.put_list-3.ensures.text_after
    c.put_list-4.ensures.text_after c.put_line-6.ensures.text_after (each-line c c.args.op)
