-- The Rust function `average_isometries` of extrinsics.rs, step by step in its own order and terms, to be read with the Rust in the other hand.
-- It shares the records of poses, the operators and constants of doubles and the root with the definitions of `mean`, and nothing else.
-- What nalgebra supplies is written from document 01's reading of it, not from nalgebra's source: "a dot product of four, and so a squared
-- norm, adds (first + third) to (second + fourth)"; "normalised (each number divided by the root of the squared norm), and normalised again,
-- as `normalize` and `from_quaternion` both do"; sums, products and quotients have "one rounding for each number".
use Rattle.std.specs.Prelude.{ℕ, true, false, cond, List, length, pos, Float}
use Rattle.std.specs.Float.{binary64}
use Rattle.std.specs.Float.Ieee.{neg, lt, eq, of_int}
use Rattle.root.specs.Root.{root_of}
use Rattle.arithmetic.specs.Rounded.{◌⊕◌, ◌⊗◌, ◌⊘◌, Zero, One}
use Rattle.arithmetic.specs.declared.pose.Vec3.{Vec3}
use Rattle.arithmetic.specs.declared.pose.Quaternion.{Quaternion}
use Rattle.arithmetic.specs.declared.pose.Pose.{Pose}
use Rattle.claims_direct.specs.RustStd.{Result, ok, ◌>>=◌, ◌>>◌, return_err_if, is_empty, index, for_each}
use Rattle.claims_direct.specs.RustError.{Error, insufficient_data}

-- ---- `Vec3`

-- `Vec3::zeros()`
abbrev pub zeros3 : Vec3
zeros3 = record { x = Zero; y = Zero; z = Zero }

-- `a += b`
abbrev pub add3 : Vec3 → Vec3 → Vec3
add3 a b = record { x = a.x ⊕ b.x; y = a.y ⊕ b.y; z = a.z ⊕ b.z }

-- `a / s`
abbrev pub div3 : Vec3 → Float → Vec3
div3 a s = record { x = a.x ⊘ s; y = a.y ⊘ s; z = a.z ⊘ s }

-- ---- `Vector4`

pub record Vector4 : Type 0 where
  pub x : Float
  pub y : Float
  pub z : Float
  pub w : Float

-- `Vector4::<Real>::zeros()`
abbrev pub zeros4 : Vector4
zeros4 = record { x = Zero; y = Zero; z = Zero; w = Zero }

-- `a += b`
abbrev pub add4 : Vector4 → Vector4 → Vector4
add4 a b = record { x = a.x ⊕ b.x; y = a.y ⊕ b.y; z = a.z ⊕ b.z; w = a.w ⊕ b.w }

-- `a * s`
abbrev pub mul4 : Vector4 → Float → Vector4
mul4 a s = record { x = a.x ⊗ s; y = a.y ⊗ s; z = a.z ⊗ s; w = a.w ⊗ s }

-- `a / s`
abbrev pub div4 : Vector4 → Float → Vector4
div4 a s = record { x = a.x ⊘ s; y = a.y ⊘ s; z = a.z ⊘ s; w = a.w ⊘ s }

-- `a.dot(&b)`
abbrev pub dot : Vector4 → Vector4 → Float
dot a b = (a.x ⊗ b.x ⊕ a.z ⊗ b.z) ⊕ (a.y ⊗ b.y ⊕ a.w ⊗ b.w)

-- `a.norm_squared()`
abbrev pub norm_squared : Vector4 → Float
norm_squared a = dot a a

-- `a.norm()`
abbrev pub norm : Vector4 → Float
norm a = root_of (norm_squared a)

-- ---- `Quaternion` and `UnitQuaternion`

-- `q.coords`: "`UnitQuaternion` stores its quaternion coordinates as (i, j, k, w)".
abbrev pub coords_of : Quaternion → Vector4
coords_of q = record { x = q.i; y = q.j; z = q.k; w = q.w }

-- `Quaternion::from_vector(a)`, whose layout "matches".
abbrev pub from_vector : Vector4 → Quaternion
from_vector a = record { i = a.x; j = a.y; k = a.z; w = a.w }

-- `q.normalize()`
abbrev pub normalize : Quaternion → Quaternion
normalize q = from_vector (div4 (coords_of q) (norm (coords_of q)))

-- `UnitQuaternion::from_quaternion(q)`
abbrev pub from_quaternion : Quaternion → Quaternion
from_quaternion q = normalize q

-- `UnitQuaternion::identity()`
abbrev pub identity : Quaternion
identity = record { i = Zero; j = Zero; k = Zero; w = One }

-- `Iso3::from_parts(t, r)`, where `Translation3::from(t_avg)` holds the same three numbers.
abbrev pub from_parts : Vec3 → Quaternion → Pose
from_parts t r = record { translation = t; rotation = r }

-- ---- the function

-- `n as Real`
abbrev pub as_real : ℕ → Float
as_real n = of_int binary64 (pos n)

-- The body of the first `for iso in poses`: `t_sum += iso.translation.vector;`.
unfoldable pub add_translation : Pose → Vec3 → Result Error Vec3
add_translation iso tSum = ok (add3 tSum iso.translation)

-- The body of the second: `if q0.coords.dot(&coords) < 0.0 { -1.0 } else { 1.0 }` is the sign, and then `acc += coords * sign;`.
unfoldable pub add_rotation : Quaternion → Pose → Vector4 → Result Error Vector4
add_rotation q0 iso acc =
    let q = iso.rotation in
    let coords = coords_of q in
    let sign = cond (lt (dot (coords_of q0) coords) Zero) (neg One) One in
    ok (add4 acc (mul4 coords sign))

-- `pub fn average_isometries(poses: &[Iso3]) -> Result<Iso3, Error>`. The `elim` is `if acc.norm_squared() == 0.0 { return Ok(..); }` and what
-- follows it.
unfoldable pub average_isometries? : List Pose → Result Error Pose
average_isometries? poses = do
  return_err_if (is_empty poses) insufficient_data
  tSum ← for_each poses add_translation zeros3
  let t_avg = div3 tSum (as_real (length poses))
  first ← index poses 0
  let q0 = first.rotation
  acc ← for_each poses (add_rotation q0) zeros4
  elim (eq (norm_squared acc) Zero) [
    | true ↦ ok (from_parts t_avg identity)
    | false ↦
        let acc = div4 acc (as_real (length poses)) in
        let q = normalize (from_vector acc) in
        let r_avg = from_quaternion q in
        ok (from_parts t_avg r_avg)
  ]
