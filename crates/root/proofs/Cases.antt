-- P13 of document 01: the root of 2 has the bits 3ff6a09e667f3bcd, and the root of 2 ^ -1074 is 2 ^ -537. Each twice: computed from the definition `root_of`,
-- and for whatever the relation `IsRootOf` admits. Assumes nothing.
use mathlib.Core.Path.{◌≡◌, refl, ◌∙◌}
use mathlib.Core.Bool.{false}
use lib.IntN.{pos, negsuc}
use lib.Ieee.{Float, fin, binary64, fits, of_bits, to_bits}
use Rattle.root.specs.Root.{root_of, IsRootOf}
use Rattle.root.proofs.Nearest.{only_root}

abbrev two : Float
two = fin false 1 (pos 1)

-- 2 ^ -1074; `negsuc n` is -(n + 1)
abbrev least : Float
least = fin false 1 (negsuc 1073)

pub root_of_two : to_bits binary64 (root_of two) ≡ 0x3ff6_a09e_667f_3bcd
unfolding root_of to_bits
root_of_two = refl

pub root_of_least : root_of least ≡ fin false 1 (negsuc 536)
unfolding root_of
root_of_least = refl

pub only_root_of_two : (r : Float) → IsRootOf two r → r ≡ of_bits binary64 0x3ff6_a09e_667f_3bcd
only_root_of_two r h = only_root two r (unfold fits in tt) h ∙ (unfold root_of of_bits in refl)

pub only_root_of_least : (r : Float) → IsRootOf least r → r ≡ fin false 1 (negsuc 536)
only_root_of_least r h = only_root least r (unfold fits in tt) h ∙ root_of_least
