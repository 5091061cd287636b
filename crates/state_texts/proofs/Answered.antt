-- An answer is within its memory: a status, and behind it no more than the longest text.
use mathlib.Core.Path.{◌≡◌, ap, ◌∙◌}
use mathlib.Core.List.{List, [], ◌++◌}
use Prim.Native.Nat.{ℕ, ◌≤◌}
use native.Mathlib.Omega.{arith}
use lib.ListN.{length, take, length-append}
use lib.Seq.{take_all}
use Rattle.definition.specs.Card.{line_text, status_name}
use Rattle.definition.specs.StateText.{number_limit, text_limit}
use Rattle.text_laws.proofs.Lines.{digits-short, line-short}
use Rattle.text.proofs.Cuts.{put_more}
use Rattle.state_texts.specs.Answers.{answer_size}

status-short : length (line_text status_name 0) ≤ 9
status-short = digits-short status_name 1 0 (omega arith) (omega arith) (omega arith)

pub read-whole : (t o l m : List ℕ) → o ≡ [] → l ≡ take answer_size (o ++ line_text status_name 0) → m ≡ take answer_size (l ++ t) → length t ≤ text_limit → m ≡ line_text status_name 0 ++ t
read-whole t o l m eo el em h =
    em ∙ put_more answer_size o (line_text status_name 0) t el ∙ ap (λ x. take answer_size (x ++ (line_text status_name 0 ++ t))) eo ∙
    take_all answer_size (line_text status_name 0 ++ t) (omega (arith, length-append (line_text status_name 0) t, status-short, h))

pub refused-whole : (n : ℕ) (o m : List ℕ) → o ≡ [] → m ≡ take answer_size (o ++ line_text status_name n) → n ≤ number_limit → m ≡ line_text status_name n
refused-whole n o m eo em h =
    em ∙ ap (λ x. take answer_size (x ++ line_text status_name n)) eo ∙ take_all answer_size (line_text status_name n) (omega (arith, line-short status_name n h))
