-- Bounds on integers, by their absolute value, and what the machine reads back from their bits.
use mathlib.Core.Path.{◌≡◌, refl, ap}
use mathlib.Core.Bool.{Bool, true, false, not, cond}
use Prim.Native.Nat.{ℕ, zero, suc, ◌+◌, ◌-◌, ◌*◌, ◌^◌, ◌<◌, ◌≤◌, suc-le-suc}
use native.Mathlib.Omega.{arith}
use native.Mathlib.Nat.{lt_of_le_of_lt, mul-le-mul, not-le_of_lt, div-le_self, not-suc-le-zero}
use lib.Dec.{T, ltb, ltb→lt, nltb→le}
use lib.IntN.{ℤ, pos, negsuc, neg_ℤ, nat_abs, sub_ℕ, ◌+ℤ◌, ◌-ℤ◌, ◌*ℤ◌}
use lib.Signed.{mag, non_neg, shr_z}
use mir.Syntax.{Width}
use mir.Val.{SFits, hbits}

pub mag≤abs : (z : ℤ) → mag z ≤ nat_abs z
mag≤abs (pos n) = omega arith
mag≤abs (negsuc n) = omega arith

-- a number below half the width's power, whatever its sign, fits
pub sfits_abs : {w : Width} {z : ℤ} → nat_abs z < 2 ^ hbits w → SFits w z
sfits_abs {w} {z} h = record { sfits = lt_of_le_of_lt (mag≤abs z) h }

pub abs_neg : (z : ℤ) → nat_abs (neg_ℤ z) ≡ nat_abs z
abs_neg (pos zero) = refl
abs_neg (pos (suc n)) = refl
abs_neg (negsuc n) = refl

cond_cases : (t : Bool) (x y : ℤ) (P : ℤ → Type 0) → (T t → P x) → (T (not t) → P y) → P (cond t x y)
cond_cases true x y P f g = f tt
cond_cases false x y P f g = g tt

-- a − b, by whether a is below b
pub sub_cases : (a b : ℕ) (P : ℤ → Type 0) → (a < b → P (negsuc (b - suc a))) → (b ≤ a → P (pos (a - b))) → P (sub_ℕ a b)
sub_cases a b P f g = cond_cases (ltb a b) (negsuc (b - suc a)) (pos (a - b)) P (λ t. f (ltb→lt a b t)) (λ t. g (nltb→le a b t))

abs_sub : (a b : ℕ) → nat_abs (sub_ℕ a b) ≤ a + b
abs_sub a b = sub_cases a b (λ (z : ℤ). nat_abs z ≤ a + b) (λ h. omega arith) (λ h. omega arith)

pub abs_add : (x y : ℤ) → nat_abs (x +ℤ y) ≤ nat_abs x + nat_abs y
abs_add (pos a) (pos b) = omega arith
abs_add (pos a) (negsuc b) = abs_sub a (suc b)
abs_add (negsuc a) (pos b) = omega (arith, abs_sub b (suc a))
abs_add (negsuc a) (negsuc b) = omega arith

pub abs_mul : (x y : ℤ) → nat_abs (x *ℤ y) ≡ nat_abs x * nat_abs y
abs_mul (pos a) (pos b) = refl
abs_mul (pos a) (negsuc b) = abs_neg (pos (a * suc b))
abs_mul (negsuc a) (pos b) = abs_neg (pos (suc a * b))
abs_mul (negsuc a) (negsuc b) = refl

pub abs_mul_le : (x y : ℤ) {A B : ℕ} → nat_abs x ≤ A → nat_abs y ≤ B → nat_abs (x *ℤ y) ≤ A * B
abs_mul_le x y h k = rw (abs_mul x y) (mul-le-mul h k)

-- n + z is not negative where z is at most n from 0
pub nonneg_add : (n : ℕ) (z : ℤ) → nat_abs z ≤ n → T (non_neg (pos n +ℤ z))
nonneg_add n (pos a) h = tt
nonneg_add n (negsuc a) h = sub_cases n (suc a) (λ (z : ℤ). T (non_neg z)) (λ l. absurd (not-le_of_lt l h)) (λ l. tt)

-- a shift to the right brings a number no further from 0
pub abs_shr : (z : ℤ) (m : ℕ) → nat_abs (shr_z z m) ≤ nat_abs z
abs_shr (pos n) m = div-le_self n m
abs_shr (negsuc n) m = suc-le-suc (div-le_self n m)

pub never : false ≡ true → ⊥
never e = let z : ◌≡◌ {A = ℕ} 0 1 = cc in omega arith

-- a - b, where b is at most a, and where it is over a
pub sub_pos : (a b : ℕ) → b ≤ a → pos a -ℤ pos b ≡ pos (a - b)
sub_pos a zero h = ap pos (omega arith)
sub_pos a (suc b) h = sub_cases a (suc b) (λ (z : ℤ). z ≡ pos (a - suc b)) (λ l. absurd (not-le_of_lt l h)) (λ l. refl)

pub sub_neg : (a b : ℕ) → a < b → pos a -ℤ pos b ≡ negsuc (b - suc a)
sub_neg a zero h = absurd (not-suc-le-zero h)
sub_neg a (suc b) h = sub_cases a (suc b) (λ (z : ℤ). z ≡ negsuc (suc b - suc a)) (λ l. refl) (λ l. absurd (not-le_of_lt h l))

-- n places before a, where there are so many
pub before_pos : (a n : ℕ) → n < a → pos a +ℤ negsuc n ≡ pos (a - suc n)
before_pos a n h = sub_cases a (suc n) (λ (z : ℤ). z ≡ pos (a - suc n)) (λ l. absurd (not-le_of_lt l h)) (λ l. refl)
