-- Case analysis on an option, and what two different constructors that are equal come to.
use mathlib.Core.Path.{◌≡◌, refl}
use mathlib.Core.Option.{Option, none, some}
use Prim.Native.Nat.{ℕ}
use native.Mathlib.Omega.{arith}

-- 0 is not 1: by `cc`, what two different constructors come to
pub clash : {P : Type 0} → ◌≡◌ {A = ℕ} 0 1 → P
clash z = absurd (omega arith)

pub never-some : {P A : Type 0} {a : A} → none ≡ some a → P
never-some e = clash (cc)

pub some-injective : {A : Type 0} {a b : A} → ◌≡◌ {A = Option A} (some a) (some b) → a ≡ b
some-injective e = cc

pub by_option : {P A : Type 0} (x : Option A) → ((a : A) → x ≡ some a → P) → (x ≡ none → P) → P
by_option (some a) f g = f a refl
by_option none f g = g refl
