-- What places say of the spots that they were made from. Assumes nothing.
use mathlib.Core.Path.{◌≡◌, refl}
use lib.Dec.{T}
use Rattle.std.specs.Option.{is_some}
use Rattle.chains.specs.Layers.{Spot, not_placed, placed, is_placed, parent_of, links_of}
use Rattle.chains.specs.Inner.Trees.{place_of, parent_byte, links_byte}

pub is_some-place_of : (s : Spot) → is_some (place_of s) ≡ is_placed s
unfolding place_of is_placed
is_some-place_of not_placed = refl
is_some-place_of (placed p d) = refl

pub parent_byte-place_of : (s : Spot) → T (is_placed s) → parent_byte (place_of s) ≡ parent_of s
unfolding place_of parent_byte is_placed parent_of
parent_byte-place_of not_placed h = absurd h
parent_byte-place_of (placed p d) h = refl

pub links_byte-place_of : (s : Spot) → T (is_placed s) → links_byte (place_of s) ≡ links_of s
unfolding place_of links_byte is_placed links_of
links_byte-place_of not_placed h = absurd h
links_byte-place_of (placed p d) h = refl
