-- Lent memory beyond the numbers of a solved rig stays as it was, and as long (`beyond_unchanged-answered`). Assumes nothing.
use Rattle.std.proofs.Common.{◌≡◌, ℕ, ◌+◌, ◌-◌, ◌*◌, ◌≤◌, List, length, get_or, drop, refl, ap, ◌∙◌, arith, length-append, length-drop, get_or-drop, get_or-append-add}
use Rattle.std.specs.Prelude.{None}
use lib.Ieee.{Float, nan}
use Rattle.arithmetic.specs.Pose.{flat}
use Rattle.placing.specs.Grid.{Grid}
use Rattle.placing.specs.Estimate.{rig_se3_cam, rig_se3_target, transforms, chains}
use Rattle.extrinsics.specs.Outcome.{answered}
use Rattle.lists.proofs.Blocks.{length-gather}
use Rattle.claims_direct.specs.Demand1.{BeyondUnchanged}

-- ---- a list written over the front of another

length-answered {ℓ} : {A : Type ℓ} (new old : List A) → length new ≤ length old → length (answered None new old) ≡ length old
unfolding answered
length-answered new old room = simp (length-append, length-drop) (omega arith)

get_or-answered_beyond {ℓ} : {A : Type ℓ} (new old : List A) (d : A) (i : ℕ) → length new ≤ i → get_or (answered None new old) i d ≡ get_or old i d
unfolding answered
get_or-answered_beyond new old d i past =
    ap (λ (j : ℕ). get_or (answered None new old) j d) (omega arith)
    ∙ get_or-append-add new (drop (length new) old) (i - length new) d
    ∙ get_or-drop (length new) old (i - length new) d
    ∙ ap (λ (j : ℕ). get_or old j d) (omega arith)

-- ---- the answers of a grid

module _ (g : Grid) where
  length-transforms : length (transforms g) ≡ 7 * (g.cameras + g.views)
  unfolding transforms
  length-transforms =
      simp (length-append, length-gather (λ c. flat (rig_se3_cam g c)) 7 (λ c. refl), length-gather (λ v. flat (rig_se3_target g v)) 7 (λ v. refl)) (omega arith)

  length-chains : length (chains g) ≡ 2 * g.cameras
  unfolding chains
  length-chains = length-gather _ 2 (λ c. refl) g.cameras

  pub beyond_unchanged-answered : (first : List Float) (second : List ℕ) → 7 * (g.cameras + g.views) ≤ length first → 2 * g.cameras ≤ length second
      → BeyondUnchanged g.views g.cameras first second (answered None (transforms g) first) (answered None (chains g) second)
  beyond_unchanged-answered first second first-room second-room =
      record {
        first_length_is = length-answered (transforms g) first (omega (arith, length-transforms));
        second_length_is = length-answered (chains g) second (omega (arith, length-chains));
        first_beyond = λ i past. get_or-answered_beyond (transforms g) first nan i (omega (arith, length-transforms));
        second_beyond = λ i past. get_or-answered_beyond (chains g) second 0 i (omega (arith, length-chains));
      }
