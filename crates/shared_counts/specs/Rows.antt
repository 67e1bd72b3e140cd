-- The summary of three masks, worked out by hand: camera 0 has poses in views 0, 1 and 63, camera 1 in 1 and 63, camera 15 in 63 and 2. Rests on the
-- definitions of `Summary`.
use Rattle.std.specs.Prelude.{ℕ, List, [], ◌∷◌, ◌++◌, replicate}

abbrev pub apart_masks : List ℕ
apart_masks = 9223372036854775811 ∷ 9223372036854775810 ∷ (replicate 13 0 ++ (9223372036854775812 ∷ []))

-- Rows of 16: cameras 0, 1 and 15, and zeros between.
abbrev pub apart_summed : List ℕ
apart_summed =
    3 ∷ 2 ∷ (replicate 13 0 ++ (1 ∷ []))
    ++ (2 ∷ 2 ∷ (replicate 13 0 ++ (1 ∷ []))
    ++ (replicate 208 0 ++ (1 ∷ 1 ∷ (replicate 13 0 ++ (2 ∷ [])))))
