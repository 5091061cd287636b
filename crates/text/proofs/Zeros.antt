-- The zeros behind a text.
use Rattle.std.proofs.Common.{◌≡◌, ◌∙◌, ℕ, List, ◌-◌, ◌+◌, drop, replicate, ap, sym, arith, slice_set, drop-set-lt, drop-drop}
use Rattle.std.proofs.lemmas.List.{drop-replicate}

-- one byte more of the text is one zero less
pub one_less : (n k b : ℕ) (bytes : List ℕ) → drop k bytes ≡ replicate (n - k) 0 → drop (k + 1) (slice_set bytes k b) ≡ replicate (n - (k + 1)) 0
one_less n k b bytes zeros =
    let less : n - k - 1 ≡ n - (k + 1) = omega arith in
    drop-set-lt (k + 1) bytes k b (omega arith) ∙ sym (drop-drop 1 k bytes) ∙ ap (drop 1) zeros ∙ drop-replicate {X = ℕ} 1 (n - k) 0 ∙ ap (λ m. replicate m 0) less
