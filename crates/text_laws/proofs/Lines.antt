-- A line of a name and a number, and a line of a name and n numbers.
use mathlib.Core.Path.{◌≡◌}
use mathlib.Core.Bool.{true}
use mathlib.Core.List.{List, [], ◌∷◌, ◌++◌}
use Prim.Native.Nat.{ℕ, ◌+◌, ◌*◌, ◌^◌, ◌≤◌, ◌<◌}
use native.Mathlib.Omega.{arith}
use lib.ListN.{length, length-append}
use Rattle.std.specs.Fmt.{decimal}
use Rattle.definition.specs.Card.{line_text, word_at, newline}
use Rattle.definition.specs.StateText.{number_limit, number_bytes, number_at, numbers_text, numbers_at, line_at, list_text, list_at, InField}
use Rattle.text_laws.proofs.Standing.{Reads, Spells, stands-both, reads-then, spells-then}
use Rattle.text_laws.proofs.Bytes.{bytes, word-reads, word-spells}
use Rattle.text_laws.proofs.Decimals.{number-reads, number-spells, number-short}
use Rattle.text_laws.proofs.Several.{numbers-reads, numbers-spells, numbers-short}

module _ (name : List ℕ) where
  pub line-reads : (n : ℕ) → n ≤ number_limit → Reads (line_at name) (line_text name n) n
  unfolding line_at line_text
  line-reads n h = reads-then (λ _ s p. number_at number_limit s newline p) (word-reads name) (number-reads number_limit newline (omega arith) (omega arith) n h)

  pub line-spells : bytes name ≡ true → Spells (λ n. n ≤ number_limit) (line_at name) (line_text name)
  unfolding line_at line_text
  line-spells b s at q n e =
      spells-then {f = λ s. word_at s name} (word-spells name b) e (λ _ p _ i v.
      let r = number-spells number_limit newline (omega arith) (omega arith) (omega arith) s p q n v in
      (r.0, stands-both i r.1))

  -- a number of at most k digits, and any of 64 bits
  pub digits-short : (k n : ℕ) → 0 < k → n < 10 ^ k → n < 2 ^ 64 → length (line_text name n) ≤ length name + (k + 1)
  unfolding line_text
  digits-short k n s h l = omega (arith, length-append name (decimal n ++ (newline ∷ [])), number-short k newline n s h l)

  pub line-short : (n : ℕ) → n ≤ number_limit → length (line_text name n) ≤ length name + number_bytes
  line-short n h = digits-short 20 n (omega arith) (omega arith) (omega arith)

  module _ (limit : ℕ) (fine : limit < 2 ^ 64) (n : ℕ) where
    pub list-reads : (l : List ℕ) → InField limit n l → Reads (list_at name limit n) (list_text name n l) l
    unfolding list_at list_text
    list-reads l i = reads-then (λ _ s p. numbers_at limit n s p) (word-reads name) (numbers-reads limit fine n l i)

    pub list-spells : bytes name ≡ true → Spells (InField limit n) (list_at name limit n) (list_text name n)
    unfolding list_at list_text
    list-spells b s at q l e =
        spells-then {f = λ s. word_at s name} (word-spells name b) e (λ _ p _ i v. let r = numbers-spells limit fine n s p q l v in (r.0, stands-both i r.1))

    pub list-short : (w : ℕ) (l : List ℕ) → 0 < w → limit < 10 ^ w → InField limit n l → length (list_text name n l) ≤ length name + n * (w + 1)
    unfolding list_text
    list-short w l h m i = omega (arith, length-append name (numbers_text n l), numbers-short limit fine n w l h m i)
