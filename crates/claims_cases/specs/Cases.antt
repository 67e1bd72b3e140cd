-- The rows P1 to P9 of document 01's bench table, and with the rows of `ArithmeticCases` the whole table: what the definitions compute
-- beside what the paper says, as whole numbers; and a second table, `refusal_rows`, of the refusals' bounds and order. A double is its bits.
-- Rests on the direct call of `extrinsics`.
use Rattle.std.specs.Prelude.{ℕ, List, [], ◌∷◌, ◌++◌, map, length, replicate, Float, Option, None, Some}
use Rattle.std.specs.Float.{binary64}
use Rattle.std.specs.Float.Ieee.{of_bits}
use Rattle.arithmetic.specs.Double.{Zero, One}
use Rattle.arithmetic.specs.Pose.{identity_pose, flat, pose_at}
use Rattle.arithmetic.specs.Rows.{Row, row, bits}
use Rattle.claims_cases.specs.ArithmeticCases.{arithmetic_rows}
use Rattle.refusal.specs.Table.{number_of, detail_of}
use Rattle.refusal.specs.declared.Refusal.{Refusal}
use Rattle.limits.specs.Limits.{max_views, max_cameras, first_needs, second_needs}
use Rattle.placing.specs.Grid.{Grid}
use Rattle.lists.specs.Lists.{gather}
use Rattle.placing.specs.Estimate.{transforms, chains}
use Rattle.extrinsics.specs.Direct.{direct_grid, direct_refusal}
use Rattle.claims_direct.specs.Demand3.{reported_parent, reported_links}

-- The number and the detail of a refusal; 0 and 0 where the rig is solved.
unfoldable pub told : Option Refusal → List ℕ
told None = 0 ∷ 0 ∷ []
told (Some r) = number_of r ∷ detail_of r ∷ []

-- Answers with room for every rig.
abbrev first_room : ℕ
first_room = first_needs max_cameras max_views

abbrev second_room : ℕ
second_room = second_needs max_cameras

-- ---- calls, told by their views: a mark for each camera of a view

unfoldable pub view_after_view : List (List ℕ) → List ℕ
view_after_view [] = []
view_after_view (view ∷ later) = view ++ view_after_view later

module _ (views : List (List ℕ)) (floats : List Float) (reference : ℕ) where
  unfoldable pub grid_of : Grid
  unfolding view_after_view direct_grid
  grid_of = direct_grid (map length views) (view_after_view views) floats reference

  -- What the direct call answers.
  unfoldable pub answer_of : List ℕ
  unfolding told view_after_view direct_refusal
  answer_of = told (direct_refusal (map length views) (view_after_view views) floats reference first_room second_room)

-- The identity in every cell.
unfoldable pub identities : List (List ℕ) → List Float
unfolding view_after_view gather
identities views = gather (length (view_after_view views)) (λ i. flat identity_pose)

-- Where every cell has the identity: what the direct call answers, and the parent and the links of camera c in the second answer.
module _ (views : List (List ℕ)) (reference : ℕ) where
  unfoldable pub answer_on : List ℕ
  unfolding answer_of identities
  answer_on = answer_of views (identities views) reference

  unfoldable pub chain_on : ℕ → List ℕ
  unfolding grid_of identities chains reported_parent reported_links
  chain_on c =
      let second = chains (grid_of views (identities views) reference) in reported_parent second c ∷ reported_links second c ∷ []

-- ---- the rows

-- "P1: 0 views gives 1."
unfoldable pub P1 : Row
unfolding answer_on
P1 = record { computed = answer_on [] 0; said = 1 ∷ 0 ∷ [] }

-- "P2: 65 views gives 2."
unfoldable pub P2 : Row
unfolding answer_on
P2 = record { computed = answer_on (replicate 65 (1 ∷ [])) 0; said = 2 ∷ 0 ∷ [] }

-- "P3: 16 cameras, reference 16 gives 3; 15 passes." One view holds all 16: with reference 15 the rig is solved.
unfoldable pub P3 : Row
unfolding answer_on
P3 =
    record {
      computed = answer_on (replicate 16 1 ∷ []) 16 ++ answer_on (replicate 16 1 ∷ []) 15;
      said = 3 ∷ 0 ∷ 0 ∷ 0 ∷ [];
    }

-- "P4: counts 2, 3 give 4, detail 1."
unfoldable pub P4 : Row
unfolding answer_on
P4 = record { computed = answer_on ((1 ∷ 1 ∷ []) ∷ (1 ∷ 1 ∷ 1 ∷ []) ∷ []) 0; said = 4 ∷ 1 ∷ [] }

-- "P5: the listing's grid": "one view, one camera, reference 0, one pose with translation (1, 0, 0) and rotation (0, 0, 0, 1)". Solved,
-- and what the listing shows: parent and links, the camera's seven floats, the view's.
unfoldable pub P5 : Row
unfolding answer_of grid_of chains transforms bits
P5 =
    let views : List (List ℕ) = (1 ∷ []) ∷ [] in
    let floats : List Float = One ∷ Zero ∷ Zero ∷ Zero ∷ Zero ∷ Zero ∷ One ∷ [] in
    record {
      computed = answer_of views floats 0 ++ (chains (grid_of views floats 0) ++ map bits (transforms (grid_of views floats 0)));
      said =
          0
          ∷ 0
          ∷ 0
          ∷ 0
          ∷ 0x0000_0000_0000_0000
          ∷ 0x0000_0000_0000_0000
          ∷ 0x0000_0000_0000_0000
          ∷ 0x0000_0000_0000_0000
          ∷ 0x0000_0000_0000_0000
          ∷ 0x0000_0000_0000_0000
          ∷ 0x3ff0_0000_0000_0000
          ∷ 0x3ff0_0000_0000_0000
          ∷ 0x0000_0000_0000_0000
          ∷ 0x0000_0000_0000_0000
          ∷ 0x0000_0000_0000_0000
          ∷ 0x0000_0000_0000_0000
          ∷ 0x0000_0000_0000_0000
          ∷ 0x3ff0_0000_0000_0000
          ∷ [];
    }

-- "P6: two cameras never together, reference 0: 8, detail 2. An empty view added: still 8."
unfoldable pub P6 : Row
unfolding answer_on
P6 =
    record {
      computed =
          answer_on ((1 ∷ 0 ∷ []) ∷ (0 ∷ 1 ∷ []) ∷ []) 0 ++ answer_on ((1 ∷ 0 ∷ []) ∷ (0 ∷ 1 ∷ []) ∷ (0 ∷ 0 ∷ []) ∷ []) 0;
      said = 8 ∷ 2 ∷ 8 ∷ 2 ∷ [];
    }

-- "P7: two cameras, both in view 0, none in view 1: 9, detail 1."
unfoldable pub P7 : Row
unfolding answer_on
P7 = record { computed = answer_on ((1 ∷ 1 ∷ []) ∷ (0 ∷ 0 ∷ []) ∷ []) 0; said = 9 ∷ 1 ∷ [] }

-- Views of a rig of four cameras that hold two of them.
abbrev hold01 : List ℕ
hold01 = 1 ∷ 1 ∷ 0 ∷ 0 ∷ []

abbrev hold02 : List ℕ
hold02 = 1 ∷ 0 ∷ 1 ∷ 0 ∷ []

abbrev hold03 : List ℕ
hold03 = 1 ∷ 0 ∷ 0 ∷ 1 ∷ []

abbrev hold13 : List ℕ
hold13 = 0 ∷ 1 ∷ 0 ∷ 1 ∷ []

abbrev hold23 : List ℕ
hold23 = 0 ∷ 0 ∷ 1 ∷ 1 ∷ []

-- "P8: camera 3 shares one view each with 1 and 2, both linked to reference 0, none with 0: parent 1, links 2. With two views shared
-- with 2: parent 2." Both rigs are solved.
unfoldable pub P8 : Row
unfolding answer_on chain_on
P8 =
    let tied = hold01 ∷ hold02 ∷ hold13 ∷ hold23 ∷ [] in
    let more = hold01 ∷ hold02 ∷ hold13 ∷ hold23 ∷ hold23 ∷ [] in
    record {
      computed = answer_on tied 0 ++ (chain_on tied 0 3 ++ (answer_on more 0 ++ chain_on more 0 3));
      said = 0 ∷ 0 ∷ 1 ∷ 2 ∷ 0 ∷ 0 ∷ 2 ∷ 2 ∷ [];
    }

unfoldable pub views_of_p9 : List (List ℕ)
views_of_p9 = hold03 ∷ hold01 ∷ hold02 ∷ replicate 40 hold13

-- "P9: camera 3 shares one view with reference 0 and forty with 1: parent 0, links 1." Camera 1 is linked to the reference, and camera 2
-- too, so that the rig is solved.
unfoldable pub P9 : Row
unfolding answer_on chain_on views_of_p9
P9 = record { computed = answer_on views_of_p9 0 ++ chain_on views_of_p9 0 3; said = 0 ∷ 0 ∷ 0 ∷ 1 ∷ [] }

-- P1 to P13.
unfoldable pub all_rows : List Row
unfolding arithmetic_rows
all_rows = P1 ∷ P2 ∷ P3 ∷ P4 ∷ P5 ∷ P6 ∷ P7 ∷ P8 ∷ P9 ∷ arithmetic_rows

-- ---- the refusals beside the table: their bounds, their order and the details that they name

-- What the direct call answers, every length told by itself.
unfoldable pub answer_in : List ℕ → List ℕ → List Float → ℕ → ℕ → ℕ → List ℕ
unfolding told direct_refusal
answer_in counts marks floats reference first second = told (direct_refusal counts marks floats reference first second)

-- 2 for cameras; the 2 of views before the 1 of cameras; and 2 before 3: 17 cameras; 65 views of no cameras; 17 cameras with
-- reference 17.
unfoldable pub seventeen_cameras : Row
unfolding answer_on
seventeen_cameras = row (answer_on (replicate 17 1 ∷ []) 0) (2 ∷ 0 ∷ [])

unfoldable pub views_before_cameras : Row
unfolding answer_on
views_before_cameras = row (answer_on (replicate 65 []) 0) (2 ∷ 0 ∷ [])

unfoldable pub cameras_before_reference : Row
unfolding answer_on
cameras_before_reference = row (answer_on (replicate 17 1 ∷ []) 17) (2 ∷ 0 ∷ [])

-- One view that holds two cameras has 2 marks, 14 floats, and answers of 21 floats and 4 bytes. So it is solved; marks or floats one short or
-- one long are 5, and so are answers one short.
unfoldable pub lengths_one_off : Row
unfolding answer_in
lengths_one_off =
    let call : ℕ → ℕ → ℕ → ℕ → List ℕ = λ marks floats first second. answer_in (2 ∷ []) (replicate marks 1) (replicate floats Zero) 0 first second in
    row (call 2 14 21 4 ++ call 1 14 21 4 ++ call 3 14 21 4 ++ call 2 13 21 4 ++ call 2 15 21 4 ++ call 2 14 20 4 ++ call 2 14 21 3)
    (0 ∷ 0 ∷ 5 ∷ 0 ∷ 5 ∷ 0 ∷ 5 ∷ 0 ∷ 5 ∷ 0 ∷ 5 ∷ 0 ∷ 5 ∷ 0 ∷ [])

-- Seven times the same number in a cell.
abbrev cell_of : Float → List Float
cell_of a = replicate 7 a

abbrev infinity : Float
infinity = of_bits binary64 0x7ff0_0000_0000_0000

abbrev not_a_number : Float
not_a_number = of_bits binary64 0x7ff8_0000_0000_0000

-- 6: "a mark above 1; detail is the lowest such cell."
unfoldable pub lowest_of_marks : Row
unfolding answer_on
lowest_of_marks = row (answer_on ((1 ∷ 1 ∷ 2 ∷ 3 ∷ []) ∷ []) 0) (6 ∷ 2 ∷ [])

-- 5 before 6: a mark of 2, and a mark too few.
unfoldable pub length_before_mark : Row
unfolding answer_in
length_before_mark = row (answer_in (2 ∷ []) (2 ∷ []) (replicate 14 Zero) 0 21 4) (5 ∷ 0 ∷ [])

-- 6 before 7: an infinity in held cell 0, and a mark of 2 at cell 1.
unfoldable pub mark_before_pose : Row
unfolding answer_of
mark_before_pose = row (answer_of ((1 ∷ 2 ∷ []) ∷ []) (cell_of infinity ++ cell_of Zero) 0) (6 ∷ 1 ∷ [])

-- 7: "a non-finite number in a held or offered pose; detail is the lowest such cell."
unfoldable pub lowest_of_poses : Row
unfolding answer_of
lowest_of_poses = row (answer_of ((1 ∷ 1 ∷ 1 ∷ []) ∷ []) (cell_of Zero ++ cell_of infinity ++ cell_of not_a_number) 0) (7 ∷ 1 ∷ [])

-- "The numbers of an empty cell are ignored." View 1 holds camera 0 and not camera 1, whose cell is of NaNs: solved.
unfoldable pub empty_cell_ignored : Row
unfolding answer_of
empty_cell_ignored =
    row (answer_of ((1 ∷ 1 ∷ []) ∷ (1 ∷ 0 ∷ []) ∷ []) (cell_of Zero ++ cell_of Zero ++ cell_of Zero ++ cell_of not_a_number) 0) (0 ∷ 0 ∷ [])

-- 7 before 8: camera 1 has no chain, and cell 0 holds an infinity; with zeros there it is 8.
unfoldable pub pose_before_unreached : Row
unfolding answer_of
pose_before_unreached =
    row (answer_of ((1 ∷ 0 ∷ []) ∷ []) (cell_of infinity ++ cell_of Zero) 0 ++ answer_of ((1 ∷ 0 ∷ []) ∷ []) (cell_of Zero ++ cell_of Zero) 0)
    (7 ∷ 0 ∷ 8 ∷ 2 ∷ [])

-- Seven doubles of the bits 1 to 7, after a cell of zeros: read as a pose they are x, y, z, i, j, k and w, and the pose gives them back so.
unfoldable pub seven_numbers : Row
unfolding pose_at bits
seven_numbers =
    let p = pose_at (cell_of Zero ++ map (of_bits binary64) (1 ∷ 2 ∷ 3 ∷ 4 ∷ 5 ∷ 6 ∷ 7 ∷ [])) 7 in
    row
    ((bits p.translation.x
    ∷ bits p.translation.y
    ∷ bits p.translation.z
    ∷ bits p.rotation.i
    ∷ bits p.rotation.j
    ∷ bits p.rotation.k
    ∷ bits p.rotation.w
    ∷ [])
    ++ map bits (flat p))
    (1 ∷ 2 ∷ 3 ∷ 4 ∷ 5 ∷ 6 ∷ 7 ∷ 1 ∷ 2 ∷ 3 ∷ 4 ∷ 5 ∷ 6 ∷ 7 ∷ [])

-- "Views: 1 to 64." "Cameras: 1 to 16." As many of either pass.
unfoldable pub sixty_four_views : Row
unfolding answer_on
sixty_four_views = row (answer_on (replicate 64 (1 ∷ [])) 0 ++ answer_on (replicate 16 1 ∷ []) 15) (0 ∷ 0 ∷ 0 ∷ 0 ∷ [])

unfoldable pub refusal_rows : List Row
unfolding seventeen_cameras views_before_cameras cameras_before_reference lengths_one_off lowest_of_marks length_before_mark mark_before_pose lowest_of_poses empty_cell_ignored pose_before_unreached seven_numbers sixty_four_views
refusal_rows =
    seventeen_cameras
    ∷ views_before_cameras
    ∷ cameras_before_reference
    ∷ lengths_one_off
    ∷ lowest_of_marks
    ∷ length_before_mark
    ∷ mark_before_pose
    ∷ lowest_of_poses
    ∷ empty_cell_ignored
    ∷ pose_before_unreached
    ∷ seven_numbers
    ∷ sixty_four_views
    ∷ []
