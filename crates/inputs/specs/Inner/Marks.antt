-- The masks that marks make. Assumes nothing.
use Rattle.std.specs.Prelude.{ℕ, ◌+◌, ◌*◌, not, List, get_or, eqb}
use Rattle.lists.specs.Finding.{power_sum}

-- The views in which camera c is marked.
unfoldable pub mask_of : List ℕ → ℕ → ℕ → ℕ → ℕ
unfolding power_sum
mask_of marks cameras views c = power_sum (λ v. not (eqb (get_or marks (v * cameras + c) 0) 0)) views
