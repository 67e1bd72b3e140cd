-- Poses, as document 01's "Poses and roots" has them: a translation and a rotation, their products, the inverse, and the rounding order that is read as nalgebra's.
-- Rests on the operators of `Double`.
use Rattle.std.specs.Prelude.{ℕ, ◌+◌, Bool, ◌&&◌, List, [], ◌∷◌, get_or, Float}
use Rattle.std.specs.Float.{nan}
use Rattle.std.specs.Float.Ieee.{neg}
use Rattle.std.specs.Float.Ieee.Scale.{finite}
use Rattle.arithmetic.specs.Double.{◌⊕◌, ◌⊖◌, ◌⊗◌, ◌⊘◌, Zero, One, Two}
use Rattle.arithmetic.specs.declared.pose.Vec3.{Vec3}
use Rattle.arithmetic.specs.declared.pose.Quaternion.{Quaternion}
use Rattle.arithmetic.specs.declared.pose.Pose.{Pose}

-- ---- vectors of three

abbrev pub vec3 : Float → Float → Float → Vec3
vec3 a b c = record { x = a; y = b; z = c }

abbrev pub zero_vec : Vec3
zero_vec = vec3 Zero Zero Zero

abbrev pub add_vec : Vec3 → Vec3 → Vec3
add_vec a b = vec3 (a.x ⊕ b.x) (a.y ⊕ b.y) (a.z ⊕ b.z)

abbrev pub scale_vec : Float → Vec3 → Vec3
scale_vec s a = vec3 (s ⊗ a.x) (s ⊗ a.y) (s ⊗ a.z)

abbrev pub over_vec : Vec3 → Float → Vec3
over_vec v s = vec3 (v.x ⊘ s) (v.y ⊘ s) (v.z ⊘ s)

abbrev pub neg_vec : Vec3 → Vec3
neg_vec a = vec3 (neg a.x) (neg a.y) (neg a.z)

abbrev pub cross : Vec3 → Vec3 → Vec3
cross a b = vec3 (a.y ⊗ b.z ⊖ a.z ⊗ b.y) (a.z ⊗ b.x ⊖ a.x ⊗ b.z) (a.x ⊗ b.y ⊖ a.y ⊗ b.x)

-- ---- quaternions

abbrev pub quaternion : Float → Float → Float → Float → Quaternion
quaternion a b c d = record { i = a; j = b; k = c; w = d }

abbrev pub identity_quat : Quaternion
identity_quat = quaternion Zero Zero Zero One

abbrev pub vector_part : Quaternion → Vec3
vector_part q = vec3 q.i q.j q.k

abbrev pub add_quat : Quaternion → Quaternion → Quaternion
add_quat p q = quaternion (p.i ⊕ q.i) (p.j ⊕ q.j) (p.k ⊕ q.k) (p.w ⊕ q.w)

abbrev pub times_quat : Quaternion → Float → Quaternion
times_quat q s = quaternion (q.i ⊗ s) (q.j ⊗ s) (q.k ⊗ s) (q.w ⊗ s)

abbrev pub over_quat : Quaternion → Float → Quaternion
over_quat q s = quaternion (q.i ⊘ s) (q.j ⊘ s) (q.k ⊘ s) (q.w ⊘ s)

-- Hamilton's product, each number summed from left to right.
abbrev pub mul_quat : Quaternion → Quaternion → Quaternion
mul_quat p q =
    quaternion (p.w ⊗ q.i ⊕ p.i ⊗ q.w ⊕ p.j ⊗ q.k ⊖ p.k ⊗ q.j) (p.w ⊗ q.j ⊖ p.i ⊗ q.k ⊕ p.j ⊗ q.w ⊕ p.k ⊗ q.i)
    (p.w ⊗ q.k ⊕ p.i ⊗ q.j ⊖ p.j ⊗ q.i ⊕ p.k ⊗ q.w)
    (p.w ⊗ q.w ⊖ p.i ⊗ q.i ⊖ p.j ⊗ q.j ⊖ p.k ⊗ q.k)

abbrev pub conjugate : Quaternion → Quaternion
conjugate q = quaternion (neg q.i) (neg q.j) (neg q.k) q.w

-- v rotated by q: with u its vector part and t = 2 × (u × v), it is w × t, plus u × t, plus v.
unfoldable pub rotate : Quaternion → Vec3 → Vec3
rotate q v = let t = scale_vec Two (cross (vector_part q) v) in add_vec (add_vec (scale_vec q.w t) (cross (vector_part q) t)) v

-- A dot product of four: (first + third) + (second + fourth).
abbrev pub dot : Quaternion → Quaternion → Float
dot p q = p.i ⊗ q.i ⊕ p.k ⊗ q.k ⊕ (p.j ⊗ q.j ⊕ p.w ⊗ q.w)

abbrev pub norm_squared : Quaternion → Float
norm_squared q = dot q q

-- ---- poses

abbrev pub pose : Vec3 → Quaternion → Pose
pose v q = record { translation = v; rotation = q }

abbrev pub identity_pose : Pose
identity_pose = pose zero_vec identity_quat

-- T_A_C from T_A_B and T_B_C.
unfoldable pub mul_pose : Pose → Pose → Pose
unfolding rotate
mul_pose a b = pose (add_vec a.translation (rotate a.rotation b.translation)) (mul_quat a.rotation b.rotation)

-- T_B_A from T_A_B.
unfoldable pub inverse_pose : Pose → Pose
unfolding rotate
inverse_pose a = pose (rotate (conjugate a.rotation) (neg_vec a.translation)) (conjugate a.rotation)

-- ---- finite

abbrev pub finite_vec : Vec3 → Bool
finite_vec a = finite a.x && finite a.y && finite a.z

abbrev pub finite_quat : Quaternion → Bool
finite_quat q = finite q.i && finite q.j && finite q.k && finite q.w

-- All seven numbers of the pose are finite.
unfoldable pub finite_pose : Pose → Bool
finite_pose a = finite_vec a.translation && finite_quat a.rotation

-- ---- poses among floats: seven in a row, x, y, z, then i, j, k, w

abbrev pub flat : Pose → List Float
flat a =
    a.translation.x ∷ a.translation.y ∷ a.translation.z ∷ a.rotation.i ∷ a.rotation.j ∷ a.rotation.k ∷ a.rotation.w ∷ []

-- The pose whose seven numbers begin at a place of the list.
unfoldable pub pose_at : List Float → ℕ → Pose
pose_at l at =
    pose (vec3 (get_or l at nan) (get_or l (at + 1) nan) (get_or l (at + 2) nan))
    (quaternion (get_or l (at + 3) nan) (get_or l (at + 4) nan) (get_or l (at + 5) nan) (get_or l (at + 6) nan))

-- What stands past the end of a list of poses.
abbrev pub nowhere : Pose
nowhere = pose (vec3 nan nan nan) (quaternion nan nan nan nan)
