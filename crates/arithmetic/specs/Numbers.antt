-- The product and the inverse of poses a second time, number by number as document 01's "Poses and roots" reads them, from nothing of `Pose`: what
-- nalgebra supplies to the Rust. That `Pose` says the same of all poses is `mul_iso-mul_pose` and `inverse_iso-inverse_pose` of proofs/Numbers.antt.
-- Rests on the operators of `Rounded`.
use Rattle.std.specs.Float.Ieee.{neg}
use Rattle.arithmetic.specs.Rounded.{◌⊕◌, ◌⊖◌, ◌⊗◌, Two}
use Rattle.arithmetic.specs.declared.pose.Vec3.{Vec3}
use Rattle.arithmetic.specs.declared.pose.Quaternion.{Quaternion}
use Rattle.arithmetic.specs.declared.pose.Pose.{Pose}

-- "the product of q and q' is, left to right, w×w' − i×i' − j×j' − k×k' for w, w×i' + i×w' + j×k' − k×j' for i, w×j' − i×k' + j×w' + k×i' for j,
-- w×k' + i×j' − j×i' + k×w' for k".
abbrev pub mul_rotation : Quaternion → Quaternion → Quaternion
mul_rotation q r = record {
  i = q.w ⊗ r.i ⊕ q.i ⊗ r.w ⊕ q.j ⊗ r.k ⊖ q.k ⊗ r.j;
  j = q.w ⊗ r.j ⊖ q.i ⊗ r.k ⊕ q.j ⊗ r.w ⊕ q.k ⊗ r.i;
  k = q.w ⊗ r.k ⊕ q.i ⊗ r.j ⊖ q.j ⊗ r.i ⊕ q.k ⊗ r.w;
  w = q.w ⊗ r.w ⊖ q.i ⊗ r.i ⊖ q.j ⊗ r.j ⊖ q.k ⊗ r.k;
}

-- "v is rotated by taking t = 2 × (q's vector part crossed with v), then w × t, plus q's vector part crossed with t, plus v".
abbrev pub transform_vector : Quaternion → Vec3 → Vec3
transform_vector q v =
    let tx = Two ⊗ (q.j ⊗ v.z ⊖ q.k ⊗ v.y) in
    let ty = Two ⊗ (q.k ⊗ v.x ⊖ q.i ⊗ v.z) in
    let tz = Two ⊗ (q.i ⊗ v.y ⊖ q.j ⊗ v.x) in
    record {
      x = q.w ⊗ tx ⊕ (q.j ⊗ tz ⊖ q.k ⊗ ty) ⊕ v.x;
      y = q.w ⊗ ty ⊕ (q.k ⊗ tx ⊖ q.i ⊗ tz) ⊕ v.y;
      z = q.w ⊗ tz ⊕ (q.i ⊗ ty ⊖ q.j ⊗ tx) ⊕ v.z;
    }

-- "A pose product rotates the right translation by the left rotation, adds the left translation, and multiplies rotations."
unfoldable pub mul_iso : Pose → Pose → Pose
mul_iso a b =
    let shift = transform_vector a.rotation b.translation in
    record {
      translation = record { x = a.translation.x ⊕ shift.x; y = a.translation.y ⊕ shift.y; z = a.translation.z ⊕ shift.z };
      rotation = mul_rotation a.rotation b.rotation;
    }

-- "The inverse conjugates the rotation, negates the translation, then rotates it by the conjugate."
unfoldable pub inverse_iso : Pose → Pose
inverse_iso a =
    let back : Quaternion = record { i = neg a.rotation.i; j = neg a.rotation.j; k = neg a.rotation.k; w = a.rotation.w } in
    record {
      translation = transform_vector back (record { x = neg a.translation.x; y = neg a.translation.y; z = neg a.translation.z });
      rotation = back;
    }
