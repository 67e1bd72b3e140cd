-- The Rust's `average_isometries` gives our average for every list that has a pose, and `InsufficientData` for the list that has none: each of
-- its loops adds what our fold adds, and its early return is our choice between the identity and the mean. Assumes nothing.
use Rattle.std.proofs.Common.{◌≡◌, ◌<◌, Bool, true, false, cond, List, [], ◌∷◌, length, refl, arith}
use mathlib.Core.List.{foldl}
use lib.Ieee.{eq}
use Rattle.arithmetic.specs.Double.{Zero}
use Rattle.arithmetic.specs.Pose.{zero_vec, identity_quat, norm_squared, pose, over_vec, over_quat}
use Rattle.arithmetic.specs.declared.pose.Vec3.{Vec3}
use Rattle.arithmetic.specs.declared.pose.Quaternion.{Quaternion}
use Rattle.arithmetic.specs.declared.pose.Pose.{Pose}
use Rattle.mean.specs.Average as ours
use Rattle.claims_direct.specs.RustStd.{Result, ok, err, index, for_each}
use Rattle.claims_direct.specs.RustError.{Error, insufficient_data}
use Rattle.claims_direct.specs.RustAverage.{coords_of, as_real, add_translation, add_rotation, average_isometries?}

-- ---- the loops

for_each_translations : (l : List Pose) (s : Vec3) → for_each l add_translation s ≡ ok (foldl ours.plus_translation s l)
unfolding for_each add_translation ours.plus_translation
for_each_translations [] s = refl
for_each_translations (p ∷ l) s = for_each_translations l (ours.plus_translation s p)

for_each_rotations : (q0 : Quaternion) (l : List Pose) (s : Quaternion)
    → for_each l (add_rotation q0) (coords_of s) ≡ ok (coords_of (foldl (ours.plus_rotation q0) s l))
unfolding for_each add_rotation ours.plus_rotation
for_each_rotations q0 [] s = refl
for_each_rotations q0 (p ∷ l) s = for_each_rotations q0 l (ours.plus_rotation q0 s p)

-- ---- the function

pub average_isometries?-empty : average_isometries? [] ≡ err insufficient_data
unfolding average_isometries?
average_isometries?-empty = refl

-- An early return, or what follows it: in both the translation is the same.
either_rotation : (t : Bool) (a : Vec3) (q r : Quaternion)
    → ◌≡◌ {A = Result Error Pose} (elim t [ true ↦ ok (pose a q) | false ↦ ok (pose a r) ]) (ok (pose a (cond t q r)))
either_rotation true a q r = refl
either_rotation false a q r = refl

pub average_isometries?-cons : (p : Pose) (poses : List Pose) → average_isometries? (p ∷ poses) ≡ ok (ours.average_isometries (p ∷ poses))
unfolding average_isometries? index ours.average_isometries
average_isometries?-cons p poses =
    let l = p ∷ poses in
    let sum = ours.rotation_sum p.rotation l in
    let count = as_real (length l) in
    rw (for_each_translations l zero_vec, for_each_rotations p.rotation l ours.zero_quat)
    (either_rotation (eq (norm_squared sum) Zero) (over_vec (ours.translation_sum l) count) identity_quat
    (ours.normalize (ours.normalize (over_quat sum count))))

-- The same of a list by its length.
pub average_isometries?-ok : (l : List Pose) → 0 < length l → average_isometries? l ≡ ok (ours.average_isometries l)
average_isometries?-ok [] h = absurd (omega arith)
average_isometries?-ok (p ∷ l) h = average_isometries?-cons p l
