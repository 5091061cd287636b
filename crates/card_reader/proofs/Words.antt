-- A word, byte by byte.
use mathlib.Core.Path.{◌≡◌, ap, ◌∙◌}
use mathlib.Core.List.{List}
use Prim.Native.Nat.{ℕ, suc, ◌+◌, ◌≤◌, ◌<◌}
use native.Mathlib.Numerals.{add-one}
use lib.ListN.{length, get_or, drop, drop_of_length-le}
use lib.Seq.{drop-cons}
use Rattle.definition.specs.Card.{value, wrong, reading, ended, word, word_at}

module _ (s w : List ℕ) (at i : ℕ) (inside : i < length w) where
  cut : word_at s (drop i w) at ≡ reading (ended s (get_or w i 0) word at) (λ _ p. word_at s (drop (suc i) w) p)
  unfolding word_at
  cut = rw (drop-cons w i 0 inside)

  pub word_stop : ended s (get_or w i 0) word at ≡ wrong → word_at s (drop i w) at ≡ wrong
  word_stop e = cut ∙ ap (λ r. reading r (λ _ p. word_at s (drop (suc i) w) p)) e

  pub word-step : (next : ℕ) → ended s (get_or w i 0) word at ≡ value word next → word_at s (drop i w) at ≡ word_at s (drop (i + 1) w) next
  word-step next e = rw (add-one i) (cut ∙ ap (λ r. reading r (λ _ p. word_at s (drop (suc i) w) p)) e)

pub word_end : (s w : List ℕ) (at i : ℕ) → length w ≤ i → word_at s (drop i w) at ≡ value word at
unfolding word_at
word_end s w at i h = rw (drop_of_length-le w h)
