-- What `extrinsics.rs` takes from Rust itself, in Rust's own terms: results and `?`, `for` over a range or an enumerated list, and the
-- iterator methods that it calls. Assumes nothing.
use Rattle.std.specs.Prelude.{ℕ, zero, suc, Bool, true, false, cond, List, [], ◌∷◌, ◌++◌, slice_index_or, Option, None, Some}
use mathlib.Core.List.{foldl}

-- ---- results

-- What a call comes to: `Ok`, `Err`, or neither, which stands for a panic and for a loop that does not end.
pub data Result (E A : Type 0) : Type 0 where
  ok : A → Result E A
  err : E → Result E A
  neither : Result E A

-- `?` hands an error on at once.
infixl 10 ◌>>=◌
abbrev pub ◌>>=◌ : {E A B : Type 0} → Result E A → (A → Result E B) → Result E B
ok a >>= rest = rest a
err e >>= rest = err e
neither >>= rest = neither

infixl 10 ◌>>◌
abbrev pub ◌>>◌ : {E A B : Type 0} → Result E A → Result E B → Result E B
first >> rest = first >>= λ a. rest

-- `if test { return Err(e); }`
abbrev pub return_err_if : {E : Type 0} → Bool → E → Result E (Unit {0})
return_err_if test e = cond test (err e) (ok tt)

-- `expect` panics at `None`.
abbrev pub expect : {E A : Type 0} → Option A → Result E A
expect None = neither
expect (Some a) = ok a

-- ---- options and lists

abbrev pub is_some : {A : Type 0} → Option A → Bool
is_some None = false
is_some (Some a) = true

-- `list[i]`, where i is below the length; there is no other use of it.
infixl 90 ◌‼◌
abbrev pub ◌‼◌ : {A : Type 0} → List (Option A) → ℕ → Option A
list ‼ i = slice_index_or list i None

-- `list[i]` of any list, which panics where i is not below the length.
unfoldable pub index : {E A : Type 0} → List A → ℕ → Result E A
index [] i = neither
index (a ∷ rest) zero = ok a
index (a ∷ rest) (suc i) = index rest i

abbrev pub is_empty : {A : Type 0} → List A → Bool
is_empty [] = true
is_empty (a ∷ rest) = false

-- `0..n`
unfoldable pub range : ℕ → List ℕ
range zero = []
range (suc n) = range n ++ (n ∷ [])

-- `iter().enumerate()`, counting from n.
unfoldable pub enumerate_from : {A : Type 0} → ℕ → List A → List (ℕ × A)
enumerate_from n [] = []
enumerate_from n (a ∷ rest) = (n, a) ∷ enumerate_from (suc n) rest

abbrev pub enumerate : {A : Type 0} → List A → List (ℕ × A)
enumerate list = enumerate_from 0 list

-- `for a in list { body }`, where the body changes the state s; a `?` or `return` in it ends the loop.
unfoldable pub for_each : {E A S : Type 0} → List A → (A → S → Result E S) → S → Result E S
for_each [] body s = ok s
for_each (a ∷ rest) body s = body a s >>= λ t. for_each rest body t

unfoldable pub filter : {A : Type 0} → (A → Bool) → List A → List A
filter test [] = []
filter test (a ∷ rest) = cond (test a) (a ∷ filter test rest) (filter test rest)

abbrev pub cons_some : {A : Type 0} → Option A → List A → List A
cons_some None rest = rest
cons_some (Some a) rest = a ∷ rest

unfoldable pub filter_map : {A B : Type 0} → (A → Option B) → List A → List B
filter_map f [] = []
filter_map f (a ∷ rest) = cons_some (f a) (filter_map f rest)

-- `into_iter().flatten()` of a list of options
abbrev pub flatten : {A : Type 0} → List (Option A) → List A
flatten list = filter_map (λ o. o) list

-- `min_by_key`, where `less a b` says that the key of a is below that of b: of equal keys the first stays.
unfoldable pub lesser : {A : Type 0} → (A → A → Bool) → Option A → A → Option A
lesser less None b = Some b
lesser less (Some a) b = cond (less b a) (Some b) (Some a)

unfoldable pub min_by : {A : Type 0} → (A → A → Bool) → List A → Option A
min_by less list = foldl (lesser less) None list
