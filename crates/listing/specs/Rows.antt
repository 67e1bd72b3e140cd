-- Doubles, whole numbers and refusals beside the texts that are printed for them, worked out by hand from document 01, "A stream arrives", from "Output
-- lines" on. Where code and definition change together, the rows hold the definitions, at these numbers alone. Rests on the definitions of `Listing`.
use Rattle.std.specs.Prelude.{ℕ, List, [], ◌∷◌, ◌++◌}
use Prim.Native.Char.{code}
use Prim.Native.String.{String}
use Prim.Native.String as text
use Rattle.std.specs.Float.{binary64}
use Rattle.std.specs.Float.Ieee.{of_bits}
use Rattle.refusal.specs.declared.Refusal.{Refusal}
use Rattle.refusal.specs.declared.Refusal.TheVariants.{Unreached, TooLong, HeldAlready, NotHeld}
use Rattle.listing.specs.Listing.{decimal_text, float_text, refusal_line}

-- What is printed, and what the row says.
pub record Row : Type 0 where
  pub computed : List ℕ
  pub said : List ℕ

-- The bytes of a text of letters, digits and blanks.
unfoldable pub text_bytes : String → List ℕ
text_bytes text.[] = []
text_bytes (text.◌∷◌ c s) = code c ∷ text_bytes s

-- A double of these bits; a number; a refusal, whose line ends in a newline (byte 10).
abbrev float : ℕ → String → Row
float bits said = record { computed = float_text (of_bits binary64 bits); said = text_bytes said }

abbrev number : ℕ → String → Row
number n said = record { computed = decimal_text n; said = text_bytes said }

abbrev refusal : Refusal → String → Row
refusal r said = record { computed = refusal_line r; said = text_bytes said ++ (10 ∷ []) }

unfoldable pub all_computed : List Row → List (List ℕ)
all_computed [] = []
all_computed (r ∷ later) = r.computed ∷ all_computed later

unfoldable pub all_said : List Row → List (List ℕ)
all_said [] = []
all_said (r ∷ later) = r.said ∷ all_said later

-- "A float is its bits as 16 lowercase hexadecimal digits; any NaN is 7ff8000000000000." 0 and −0; 1 and −1; infinity and its negative; the least and the
-- greatest doubles above 0 and below; the least that has all its digits; every hexadecimal digit; then NaNs of both signs, quiet and not.
unfoldable pub float_rows : List Row
float_rows =
    float 0x0000_0000_0000_0000 "0000000000000000"
    ∷ float 0x8000_0000_0000_0000 "8000000000000000"
    ∷ float 0x3ff0_0000_0000_0000 "3ff0000000000000"
    ∷ float 0xbff0_0000_0000_0000 "bff0000000000000"
    ∷ float 0x7ff0_0000_0000_0000 "7ff0000000000000"
    ∷ float 0xfff0_0000_0000_0000 "fff0000000000000"
    ∷ float 0x0000_0000_0000_0001 "0000000000000001"
    ∷ float 0x8000_0000_0000_0001 "8000000000000001"
    ∷ float 0x7fef_ffff_ffff_ffff "7fefffffffffffff"
    ∷ float 0xffef_ffff_ffff_ffff "ffefffffffffffff"
    ∷ float 0x0010_0000_0000_0000 "0010000000000000"
    ∷ float 0x0123_4567_89ab_cdef "0123456789abcdef"
    ∷ float 0x7ff8_0000_0000_0000 "7ff8000000000000"
    ∷ float 0xfff8_0000_0000_0000 "7ff8000000000000"
    ∷ float 0x7ff0_0000_0000_0001 "7ff8000000000000"
    ∷ float 0xffff_ffff_ffff_ffff "7ff8000000000000"
    ∷ []

-- "in decimal": at each change of the number of digits, to the greatest number of 32 bits.
unfoldable pub number_rows : List Row
number_rows =
    number 0 "0"
    ∷ number 9 "9"
    ∷ number 10 "10"
    ∷ number 99 "99"
    ∷ number 100 "100"
    ∷ number 65535 "65535"
    ∷ number 4294967295 "4294967295"
    ∷ []

-- "A refusal prints `no`, number, detail".
unfoldable pub refusal_rows : List Row
refusal_rows =
    refusal (Unreached 2) "no 8 2"
    ∷ refusal TooLong "no 13 0"
    ∷ refusal (HeldAlready 16143) "no 23 16143"
    ∷ refusal (NotHeld 258) "no 24 258"
    ∷ []

unfoldable pub rows : List Row
unfolding float_rows number_rows refusal_rows
rows = float_rows ++ number_rows ++ refusal_rows
