-- What holds of an operation, by one test on it.
use mathlib.Core.Path.{◌≡◌, refl, sym}
use mathlib.Core.Bool.{true, false}
use Rattle.definition.specs.declared.Operation.{Operation}
use Rattle.definition.specs.declared.Operation.TheVariants.{Luma, User, Pretrained, Chroma}
use Rattle.laws.proofs.Ints.{never}
use Rattle.definition.specs.Units.{chromatic, classed}

module _ (P : Operation → Type 0) where
  pub when_chroma : P Chroma → (o : Operation) → chromatic o ≡ true → P o
  when_chroma c Luma e = absurd (never e)
  when_chroma c User e = absurd (never e)
  when_chroma c Pretrained e = absurd (never e)
  when_chroma c Chroma e = c

  pub unless_chroma : P Luma → P User → P Pretrained → (o : Operation) → chromatic o ≡ false → P o
  unless_chroma y n p Luma e = y
  unless_chroma y n p User e = n
  unless_chroma y n p Pretrained e = p
  unless_chroma y n p Chroma e = absurd (never (sym e))

  pub when_classed : P User → P Pretrained → (o : Operation) → classed o ≡ true → P o
  when_classed n p Luma e = absurd (never e)
  when_classed n p User e = n
  when_classed n p Pretrained e = p
  when_classed n p Chroma e = absurd (never e)

pub chroma_is : (o : Operation) → chromatic o ≡ true → o ≡ Chroma
chroma_is = when_chroma (λ o. o ≡ Chroma) refl
