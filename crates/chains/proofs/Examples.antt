-- Layers worked out by the definition alone: two rigs of 16 cameras, and a rig whose last camera shares too few views. Assumes nothing.
use mathlib.Core.Path.{◌≡◌, refl}
use mathlib.Core.List.{[], ◌∷◌}
use Rattle.limits.specs.Limits.{one_view}
use Rattle.lists.specs.Finding.{count}
use Rattle.lists.specs.Masks.{in_mask}
use Rattle.chains.specs.Masks.{views_of_both, shared_by}
use Rattle.chains.specs.Layers.{not_placed, placed, in_layer, take_if_more, most_views, start_spot, next_spot, linked_in_layer, parent_in_layer, layers_to, layers}
use Rattle.lists.specs.Lists.{tabulate}

-- 16 cameras in a row, each sharing a view with the next.
pub in_a_row : layers 16 (shared_by (3 ∷ 6 ∷ 12 ∷ 24 ∷ 48 ∷ 96 ∷ 192 ∷ 384 ∷ 768 ∷ 1536 ∷ 3072 ∷ 6144 ∷ 12288 ∷ 24576 ∷ 49152 ∷ 98304 ∷ [])) one_view 0
    ≡ placed 0 0 ∷ placed 0 1 ∷ placed 1 2 ∷ placed 2 3 ∷ placed 3 4 ∷ placed 4 5 ∷ placed 5 6 ∷ placed 6 7 ∷ placed 7 8 ∷ placed 8 9 ∷ placed 9 10 ∷ placed 10 11 ∷ placed 11 12 ∷ placed 12 13 ∷ placed 13 14 ∷ placed 14 15 ∷ []
unfolding layers layers_to tabulate start_spot next_spot parent_in_layer linked_in_layer in_layer most_views take_if_more shared_by views_of_both in_mask count
in_a_row = refl

-- 16 cameras and 64 views drawn at random, reference 3.
pub drawn_at_random : layers 16 (shared_by (11529250230440566816 ∷ 2305843009220118528 ∷ 1126174793663232 ∷ 2322168562663424 ∷ 1153484592000270336 ∷ 15393699659778 ∷ 564186904002562 ∷ 1100048498692 ∷ 4755801258311319552 ∷ 270357265221943364 ∷ 25770065984 ∷ 54254376922939393 ∷ 13528391068160136 ∷ 299067204698240 ∷ 68753031184 ∷ 864691129679873024 ∷ [])) one_view 3
    ≡ placed 1 2 ∷ placed 3 1 ∷ placed 3 1 ∷ placed 3 0 ∷ placed 6 5 ∷ placed 7 4 ∷ placed 7 4 ∷ placed 9 3 ∷ placed 11 2 ∷ placed 11 2 ∷ placed 8 3 ∷ placed 3 1 ∷ placed 13 3 ∷ placed 2 2 ∷ placed 11 2 ∷ not_placed ∷ []
unfolding layers layers_to tabulate start_spot next_spot parent_in_layer linked_in_layer in_layer most_views take_if_more shared_by views_of_both in_mask count
drawn_at_random = refl

-- Cameras 1 and 2 share one view only: one links them, but not where two are asked for.
pub one_view_asked : layers 3 (shared_by (3 ∷ 7 ∷ 4 ∷ [])) one_view 0 ≡ placed 0 0 ∷ placed 0 1 ∷ placed 1 2 ∷ []
unfolding layers layers_to tabulate start_spot next_spot parent_in_layer linked_in_layer in_layer most_views take_if_more shared_by views_of_both in_mask count
one_view_asked = refl

pub two-views-asked : layers 3 (shared_by (3 ∷ 7 ∷ 4 ∷ [])) 2 0 ≡ placed 0 0 ∷ placed 0 1 ∷ not_placed ∷ []
unfolding layers layers_to tabulate start_spot next_spot parent_in_layer linked_in_layer in_layer most_views take_if_more shared_by views_of_both in_mask count
two-views-asked = refl
