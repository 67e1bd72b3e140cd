-- Checks in the papers' words, in an order, and what a list of them comes to. Assumes nothing.
use Rattle.std.specs.Prelude.{◌≡◌, ℕ, ◌<◌, ◌⊎◌, List, [], ◌∷◌}

-- A check: its number, and what the papers' words say where it refuses with a detail.
pub record Check : Type 1 where
  pub number : ℕ
  pub Says : ℕ → Type 0

abbrev pub naming : ℕ → (ℕ → Type 0) → Check
naming n Words = record { number = n; Says = Words }

-- "a 32-bit detail, 0 if none is named"
abbrev pub plain : ℕ → Type 0 → Check
plain n Words = naming n (λ d. Words × (d ≡ 0))

abbrev pub Silent : Check → Type 0
Silent c = (d : ℕ) → c.Says d → ⊥

-- The checks, in their order, come to number n with detail d: a check of that number says so, and none before it says anything.
unfoldable pub Decides : List Check → ℕ → ℕ → Type 0
Decides [] n d = ⊥
Decides (c ∷ later) n d = ((c.number ≡ n) × c.Says d) ⊎ (Silent c × Decides later n d)

-- No check says anything.
unfoldable pub AllSilent : List Check → Type 0
AllSilent [] = Unit {0}
AllSilent (c ∷ later) = Silent c × AllSilent later

-- "the lowest such": d is below n and is such, and none below d is.
pub record LowestBelow (n : ℕ) (Such : ℕ → Type 0) (d : ℕ) : Type 0 where
  pub inside : d < n
  pub such : Such d
  pub none_lower : (e : ℕ) → e < d → Such e → ⊥
