-- The views that two cameras share, by document 01, "Chains": "Two different cameras share each view that holds poses of both."
-- Assumes nothing.
use Rattle.std.specs.Prelude.{ℕ, Bool, ◌&&◌}
use Rattle.lists.specs.Finding.{count}

-- How many of the first `views` views hold poses of both cameras, where `holds v c` says whether view v holds a pose of camera c.
unfoldable pub shared : (ℕ → ℕ → Bool) → ℕ → ℕ → ℕ → ℕ
shared holds views a b = count (λ v. holds v a && holds v b) views
