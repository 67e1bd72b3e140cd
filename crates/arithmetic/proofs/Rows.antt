-- The rows of products, inverses and dot products hold: each computes to what was recorded. Assumes nothing.
use mathlib.Core.Path.{◌≡◌, refl}
use lib.Ieee.{to_bits, of_bits, add, sub, mul, neg}
use Rattle.arithmetic.specs.Rows.{product_ab, product_ef, product_overflows, product_underflows, inverse_c, inverse_of_zeros, dots, inverse_of_other_zeros, products_of_zeros}

pub product_ab-holds : product_ab.computed ≡ product_ab.said
unfolding product_ab to_bits of_bits add sub mul
product_ab-holds = refl

pub product_ef-holds : product_ef.computed ≡ product_ef.said
unfolding product_ef to_bits of_bits add sub mul
product_ef-holds = refl

pub product_overflows-holds : product_overflows.computed ≡ product_overflows.said
unfolding product_overflows to_bits of_bits add sub mul
product_overflows-holds = refl

pub product_underflows-holds : product_underflows.computed ≡ product_underflows.said
unfolding product_underflows to_bits of_bits add sub mul
product_underflows-holds = refl

pub inverse_c-holds : inverse_c.computed ≡ inverse_c.said
unfolding inverse_c to_bits of_bits add sub mul neg
inverse_c-holds = refl

pub inverse_of_zeros-holds : inverse_of_zeros.computed ≡ inverse_of_zeros.said
unfolding inverse_of_zeros to_bits of_bits add sub mul neg
inverse_of_zeros-holds = refl

pub dots-holds : dots.computed ≡ dots.said
unfolding dots to_bits of_bits add mul
dots-holds = refl

pub inverse_of_other_zeros-holds : inverse_of_other_zeros.computed ≡ inverse_of_other_zeros.said
unfolding inverse_of_other_zeros to_bits of_bits add sub mul neg
inverse_of_other_zeros-holds = refl

pub products_of_zeros-holds : products_of_zeros.computed ≡ products_of_zeros.said
unfolding products_of_zeros to_bits of_bits add sub mul
products_of_zeros-holds = refl
