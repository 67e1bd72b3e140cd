-- The words leave no choice: an answer to the same frames has the same bytes (`only_commands`). A word has one count (`only_count`), a count one quotient (`only_nearest`, `only_exact`), a frame so
-- one pose, and the answer is made of blocks of 59 bytes that are those of its commands. Assumes nothing.
use Prim.Native.Nat.{ℕ, ◌+◌, ◌*◌, ◌/◌, ◌%◌, ◌^◌, ◌<◌}
use native.Mathlib.Omega.{arith}
use mathlib.Core.Path.{◌≡◌, sym, ap, ◌∙◌, subst}
use mathlib.Core.List.{List}
use lib.ListN.{length, get_or, take, drop}
use lib.Seq.{get_or-take, get_or-drop, ext_get_or}
use lib.IntN.{ℤ, pos, negsuc}
use lib.Ieee.{Float}
use lib.Dec.{lit<}
use Rattle.arithmetic.specs.Pose.{vec3, quaternion, pose}
use Rattle.arithmetic.specs.declared.pose.Pose.{Pose}
use Rattle.command.specs.Command.{place, Command, edit}
use Rattle.command.specs.Writing.{bytes_of}
use Rattle.claims_telemetry.specs.Nearest.{IsNearest, IsExact}
use Rattle.claims_telemetry.specs.Import.{SignedAt, MetresAt, RotationAt, PoseOfFrame, CommandOfFrame, CommandsOfFrames}
use Rattle.claims_telemetry.proofs.Nearest.{only_nearest, only_exact}

only_count : (bytes : List ℕ) (at : ℕ) (c d : ℤ) → SignedAt bytes at c → SignedAt bytes at d → c ≡ d
only_count bytes at (pos n) (pos m) h k = ap pos (sym h.1 ∙ k.1)
only_count bytes at (pos n) (negsuc m) h k = absurd (omega (arith, h.0, h.1, k.0, k.1))
only_count bytes at (negsuc n) (pos m) h k = absurd (omega (arith, h.0, h.1, k.0, k.1))
only_count bytes at (negsuc n) (negsuc m) h k = ap negsuc (omega (arith, h.1, k.1))

only_metres : (bytes : List ℕ) (at : ℕ) (x y : Float) → MetresAt bytes at x → MetresAt bytes at y → x ≡ y
only_metres bytes at x y (c, h, near) (d, k, near') = only_nearest c 1000000 x y near (subst (λ (count : ℤ). IsNearest count 1000000 y) (only_count bytes at d c k h) near')

only_rotation : (bytes : List ℕ) (at : ℕ) (x y : Float) → RotationAt bytes at x → RotationAt bytes at y → x ≡ y
only_rotation bytes at x y (c, h, same) (d, k, same') =
    only_exact c (2 ^ 30) (lit< tt) x y same (subst (λ (count : ℤ). IsExact count (2 ^ 30) y) (only_count bytes at d c k h) same')

only_pose : (bytes : List ℕ) (at : ℕ) (p q : Pose) → PoseOfFrame bytes at p → PoseOfFrame bytes at q → p ≡ q
only_pose bytes at p q h k =
    ap (λ (x : Float). pose (vec3 x p.translation.y p.translation.z) p.rotation) (only_metres bytes (at + 2) _ _ h.x_metres k.x_metres)
    ∙ ap (λ (y : Float). pose (vec3 q.translation.x y p.translation.z) p.rotation) (only_metres bytes (at + 6) _ _ h.y_metres k.y_metres)
    ∙ ap (λ (z : Float). pose (vec3 q.translation.x q.translation.y z) p.rotation) (only_metres bytes (at + 10) _ _ h.z_metres k.z_metres)
    ∙ ap (λ (i : Float). pose q.translation (quaternion i p.rotation.j p.rotation.k p.rotation.w)) (only_rotation bytes (at + 14) _ _ h.i_exact k.i_exact)
    ∙ ap (λ (j : Float). pose q.translation (quaternion q.rotation.i j p.rotation.k p.rotation.w)) (only_rotation bytes (at + 18) _ _ h.j_exact k.j_exact)
    ∙ ap (λ (l : Float). pose q.translation (quaternion q.rotation.i q.rotation.j l p.rotation.w)) (only_rotation bytes (at + 22) _ _ h.k_exact k.k_exact)
    ∙ ap (λ (w : Float). pose q.translation (quaternion q.rotation.i q.rotation.j q.rotation.k w)) (only_rotation bytes (at + 26) _ _ h.w_exact k.w_exact)

only_block : (bytes l m : List ℕ) (k : ℕ) (c d : Command) → CommandOfFrame bytes l k c → CommandOfFrame bytes m k d → take 59 (drop (59 * k) l) ≡ take 59 (drop (59 * k) m)
only_block bytes l m k c d h g =
    h.its_bytes
    ∙ ap bytes_of
    (h.is_place
    ∙ ap (λ (p : Pose). edit (place (get_or bytes (30 * k) 0) (get_or bytes (30 * k + 1) 0) p)) (only_pose bytes (30 * k) h.pose g.pose h.pose_of_frame g.pose_of_frame)
    ∙ sym g.is_place)
    ∙ sym g.its_bytes

in_block : (l : List ℕ) (i : ℕ) → get_or l i 0 ≡ get_or (take 59 (drop (59 * (i / 59)) l)) (i % 59) 0
in_block l i =
    let place : 59 * (i / 59) + i % 59 ≡ i = omega arith in
    ap (λ (j : ℕ). get_or l j 0) (sym place) ∙ sym (get_or-drop (59 * (i / 59)) l (i % 59) 0) ∙ sym (get_or-take 59 (drop (59 * (i / 59)) l) (i % 59) 0 (omega arith))

pub only_commands : (bytes : List ℕ) (n : ℕ) (l m : List ℕ) → CommandsOfFrames bytes n l → CommandsOfFrames bytes n m → l ≡ m
only_commands bytes n l m h g = ext_get_or 0 l m (h.as_long ∙ sym g.as_long) each
  where
    each : (i : ℕ) → i < length l → get_or l i 0 ≡ get_or m i 0
    each i below =
        let k = i / 59 in
        let inside : k < n = omega (arith, h.as_long) in
        in_block l i
        ∙ ap (λ (b : List ℕ). get_or b (i % 59) 0) (only_block bytes l m k (h.command k) (g.command k) (h.each k inside) (g.each k inside))
        ∙ sym (in_block m i)
