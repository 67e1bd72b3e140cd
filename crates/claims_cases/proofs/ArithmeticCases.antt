-- P10 to P13 and the exact cases hold: each table computes, as a whole, to what is said beside it. Assumes nothing.
use mathlib.Core.Path.{◌≡◌, refl}
use lib.Ieee.{to_bits, of_bits, of_int, add, sub, mul, div, neg, lt, eq}
use Rattle.root.specs.Root.{root_of}
use Rattle.claims_cases.specs.ArithmeticCases.{arithmetic_rows, exact_rows, all_computed, all_said}

pub arithmetic_rows_hold : all_computed arithmetic_rows ≡ all_said arithmetic_rows
unfolding arithmetic_rows all_computed all_said root_of to_bits of_bits of_int add mul div neg lt eq
arithmetic_rows_hold = refl

pub exact-rows_hold : all_computed exact_rows ≡ all_said exact_rows
unfolding exact_rows all_computed all_said root_of to_bits of_bits add sub mul
exact-rows_hold = refl
