-- Lists of one length, one after the other: where each stands among the others, and numbered things listed from the front. Assumes nothing.
use Prim.Native.Nat.{ℕ, zero, suc, ◌+◌, ◌*◌, ◌<◌}
use native.Mathlib.Nat.{eq-or-lt_of_le, le_of_suc-le-suc, zero-add, mul-suc}
use native.Mathlib.Omega.{arith}
use mathlib.Core.Path.{◌≡◌, refl, sym, ap, ◌∙◌}
use mathlib.Core.Logic.{⊎_elim}
use mathlib.Core.List.{List, [], ◌∷◌, ◌++◌, append_assoc, append-nil}
use lib.ListN.{length, length-append}
use Rattle.lists.specs.Lists.{tabulate, gather}

module _ {A : Type 0} (f : ℕ → List A) (w : ℕ) (each : (i : ℕ) → length (f i) ≡ w) where
  pub length-gather : (n : ℕ) → length (gather n f) ≡ w * n
  unfolding gather
  length-gather zero = omega arith
  length-gather (suc n) = simp (length-append, length-gather n, each n, mul-suc)

-- The blocks before one, it, and those behind it.
module _ {A : Type 0} (f : ℕ → List A) where
  pub gather-apart : (n k : ℕ) → k < n → (rest : List A) × (gather n f ≡ gather k f ++ (f k ++ rest))
  unfolding gather
  gather-apart zero k h = absurd (omega arith)
  gather-apart (suc n) k h =
      ⊎_elim (λ (e : k ≡ n). ([], ap (λ (i : ℕ). gather i f ++ f i) (sym e) ∙ ap (λ (l : List A). gather k f ++ l) (sym (append-nil (f k)))))
      (λ (l : k < n).
      let (rest, apart) = gather-apart n k l in
      (rest ++ f n, ap (λ (b : List A). b ++ f n) apart ∙ append_assoc (gather k f) (f k ++ rest) (f n) ∙ ap (λ (b : List A). gather k f ++ b) (append_assoc (f k) rest (f n))))
      (eq-or-lt_of_le (le_of_suc-le-suc h))

-- ---- from the front

module _ {A : Type 0} (f : ℕ → A) where
  unfoldable pub listed : ℕ → ℕ → List A
  listed from zero = []
  listed from (suc n) = f from ∷ listed (suc from) n

  listed_next : (from n : ℕ) → listed from (suc n) ≡ listed from n ++ (f (from + n) ∷ [])
  unfolding listed
  listed_next from zero = ap (λ (i : ℕ). f i ∷ []) (omega arith)
  listed_next from (suc n) = ap (λ (l : List A). f from ∷ l) (listed_next (suc from) n ∙ ap (λ (i : ℕ). listed (suc from) n ++ (f i ∷ [])) (omega arith))

  pub tabulate_listed : (n : ℕ) → tabulate n f ≡ listed 0 n
  unfolding tabulate listed
  tabulate_listed zero = refl
  tabulate_listed (suc n) = ap (λ (l : List A). l ++ (f n ∷ [])) (tabulate_listed n) ∙ ap (λ (i : ℕ). listed 0 n ++ (f i ∷ [])) (sym (zero-add n)) ∙ sym (listed_next 0 n)
