-- Lists made from numbers below a bound. Assumes nothing.
use Rattle.std.specs.Prelude.{ℕ, zero, suc, List, [], ◌∷◌, ◌++◌}

-- The list of f 0 to f (n - 1).
unfoldable pub tabulate {ℓ} : {A : Type ℓ} → ℕ → (ℕ → A) → List A
tabulate zero f = []
tabulate (suc n) f = tabulate n f ++ (f n ∷ [])

-- The lists f 0 to f (n - 1), one after the other.
unfoldable pub gather {ℓ} : {A : Type ℓ} → ℕ → (ℕ → List A) → List A
gather zero f = []
gather (suc n) f = gather n f ++ f n
