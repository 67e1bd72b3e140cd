-- The fours that `scaled_root` moves, and the root of n * 4 ^ k for an n of 105 or 106 digits: it drops k digits, and keeps √n rounded. Assumes nothing.
use mathlib.Core.Path.{◌≡◌, refl, sym, ap, ◌∙◌, subst}
use Prim.Native.Nat.{ℕ, zero, suc, ◌+◌, ◌-◌, ◌*◌, ◌/◌, ◌%◌, ◌^◌, ◌≤◌, ◌<◌, compare}
use native.Mathlib.Nat.{le_trans, le_of_eq, le_of_suc-le-suc, lt_of_lt_of_le, lt_of_le_of_lt, lt_of_not-le, not-le_of_lt, zero-lt-suc, mul_assoc, mul_comm, mul-le-mul_left, mul-le-mul_right, mul-pos, one-mul, le_of_mul-le-mul_right, lt_of_mul-lt-mul_right, pow-suc, pow-le-pow_right, mul-div_cancel}
use native.Mathlib.Omega.{arith}
use lib.Dec.{lit<}
use lib.Pow.{pow-add, pow_pos, pow-lt, pow_mono, shl_lt}
use lib.Ieee.{size, nearest}
use lib.Ieee.Digits.{size-lt, size-le, size_reaches}
use Rattle.root.specs.Root.{sq, whole_root, dropped, leading, rounded}
use Rattle.root.specs.Inner.Steps.{Rounded, pattern}
use Rattle.root.proofs.Squares.{WholeRoot, whole_root_is, Rounded-unique, Rounded-ge, Rounded-le_of, Rounded-nearest}

-- ---- m * 4 ^ b is n * 4 ^ c, after b - c turns that each multiplied n by four

pub record Scaled (m b n c : ℕ) : Type 0 where
  pub same : n * 2 ^ (c + c) ≡ m * 2 ^ (b + b)
  pub grown : 4 ^ (b - c) ≤ n
  pub turns : b ≤ c + 26
  pub c_le : c ≤ b
  pub n_lt : n < 2 ^ 54

few_turns : (t n : ℕ) → 4 ^ t ≤ n → n < 2 ^ 52 → t < 26
few_turns t n g l = lt_of_not-le (λ (h : 26 ≤ t). not-le_of_lt l (le_trans (pow-le-pow_right {n = 4} (lit< tt) h) g))

fours : (d : ℕ) → 2 ^ (d + 1 + (d + 1)) ≡ 2 ^ (d + d) * 4
fours d = ap (λ (x : ℕ). 2 ^ x) (omega arith) ∙ pow-add 2 (d + d) 2

pub scaled_more : (m b n c : ℕ) → Scaled m b n c → 1 ≤ c → n < 2 ^ 52 → Scaled m b (n * 4) (c - 1)
scaled_more m b n c s p l =
    let f = few_turns (b - c) n s.grown l in
    let e : c ≡ c - 1 + 1 = omega arith in
    let g : 4 ^ (b - (c - 1)) ≡ 4 ^ (b - c) * 4 = ap (λ (x : ℕ). 4 ^ x) (omega arith) ∙ pow-suc 4 (b - c) in
    record {
      same =
          mul_assoc n 4 (2 ^ (c - 1 + (c - 1)))
          ∙ ap (λ (x : ℕ). n * x) (mul_comm 4 (2 ^ (c - 1 + (c - 1))) ∙ sym (fours (c - 1)) ∙ ap (λ (x : ℕ). 2 ^ (x + x)) (sym e))
          ∙ s.same;
      grown = rw g (mul-le-mul_right 4 s.grown);
      turns = omega arith;
      c_le = omega arith;
      n_lt = omega arith;
    }

-- ---- √n for an n of 105 or 106 digits

pub Rounded-digits : {n r : ℕ} → 2 ^ 104 ≤ n → n < 2 ^ 106 → Rounded n r → (2 ^ 52 ≤ r) × (r ≤ 2 ^ 53)
Rounded-digits lo hi a = (Rounded-ge {t = 2 ^ 52} a lo, Rounded-le_of {t = 2 ^ 53} a hi)

pub pow-lt_exponent : (i j : ℕ) → 2 ^ i < 2 ^ j → i < j
pow-lt_exponent i j h = lt_of_not-le (λ (g : j ≤ i). not-le_of_lt h (pow_mono g))

pub pow-le_exponent : (i j : ℕ) → 2 ^ i ≤ 2 ^ j → i ≤ j
pow-le_exponent i j h = le_of_suc-le-suc (lt_of_not-le (λ (g : suc j ≤ i). not-le_of_lt (pow-lt g) h))

sq-pow : (k : ℕ) → sq (2 ^ k) ≡ 2 ^ (k + k)
sq-pow k = sym (pow-add 2 k k)

size_half : (z k : ℕ) → 104 + (k + k) < z → z ≤ 106 + (k + k) → (z + 1) / 2 - 53 ≡ k
size_half z k a b = omega arith

pub dropped_scaled : (n k : ℕ) → 2 ^ 104 ≤ n → n < 2 ^ 106 → dropped (n * sq (2 ^ k)) ≡ k
unfolding dropped
dropped_scaled n k lo hi =
    size_half (size (n * sq (2 ^ k))) k
    (pow-lt_exponent (104 + (k + k)) (size (n * sq (2 ^ k)))
    (lt_of_le_of_lt (le_trans (le_of_eq (pow-add 2 104 (k + k))) (le_trans (mul-le-mul_right (2 ^ (k + k)) lo) (le_of_eq (ap (λ (x : ℕ). n * x) (sym (sq-pow k)))))) (size-lt (n * sq (2 ^ k)))))
    (size-le (n * sq (2 ^ k)) (106 + (k + k)) (lt_of_le_of_lt (le_of_eq (ap (λ (x : ℕ). n * x) (sq-pow k))) (shl_lt 106 (k + k) hi)))

leading_scaled : (n k : ℕ) → 2 ^ 104 ≤ n → n < 2 ^ 106 → leading (n * sq (2 ^ k)) ≡ whole_root 53 n
unfolding leading
leading_scaled n k lo hi =
    ap (λ (x : ℕ). whole_root 53 (n * sq (2 ^ k) / sq (2 ^ x))) (dropped_scaled n k lo hi)
    ∙ ap (whole_root 53) (mul-div_cancel n (mul-pos (pow_pos k) (pow_pos k)))

rounded_is : (s : ℕ) → rounded s ≡ nearest (leading s) (compare (4 * s) (sq ((2 * leading s + 1) * 2 ^ dropped s)))
unfolding rounded
rounded_is s = refl

whole_pos : (n h : ℕ) → 2 ^ 104 ≤ n → WholeRoot n h → 0 < h
whole_pos n zero lo w = omega arith
whole_pos n (suc h) lo w = zero-lt-suc h

pub rounded_scaled : (n k r : ℕ) → 2 ^ 104 ≤ n → n < 2 ^ 106 → Rounded n r → rounded (n * sq (2 ^ k)) ≡ r
rounded_scaled n k r lo hi a =
    let s = n * sq (2 ^ k) in
    let h = whole_root 53 n in
    let w = whole_root_is 53 n hi in
    rounded_is s
    ∙ ap (λ (x : ℕ). nearest x (compare (4 * s) (sq ((2 * x + 1) * 2 ^ dropped s)))) (leading_scaled n k lo hi)
    ∙ ap (λ (x : ℕ). nearest h (compare (4 * s) (sq ((2 * h + 1) * 2 ^ x)))) (dropped_scaled n k lo hi)
    ∙ Rounded-unique (Rounded-nearest n h (2 ^ k) (pow_pos k) (whole_pos n h lo w) w) a

pub pattern_is : (s : ℕ) → pattern s ≡ dropped s * 2 ^ 52 + rounded s
unfolding pattern
pattern_is s = refl

-- n * 4 ^ c, with half of the 52 digits that n * 2 ^ 52 has more
widened : (n c : ℕ) → 26 ≤ c → n * 2 ^ (c + c) ≡ n * 2 ^ 52 * sq (2 ^ (c - 26))
widened n c l =
    ap (λ (x : ℕ). n * 2 ^ x) (split c l)
    ∙ ap (λ (x : ℕ). n * x) (pow-add 2 52 (c - 26 + (c - 26)) ∙ ap (λ (x : ℕ). 2 ^ 52 * x) (pow-add 2 (c - 26) (c - 26)))
    ∙ sym (mul_assoc n (2 ^ 52) (sq (2 ^ (c - 26))))
  where
    split : (c : ℕ) → 26 ≤ c → c + c ≡ 52 + (c - 26 + (c - 26))
    split c l = omega arith

pub pattern_scaled : (n c r : ℕ) → 2 ^ 52 ≤ n → n < 2 ^ 54 → 26 ≤ c → Rounded (n * 2 ^ 52) r → pattern (n * 2 ^ (c + c)) ≡ (c - 26) * 2 ^ 52 + r
pattern_scaled n c r lo hi l a =
    let N = n * 2 ^ 52 in
    let k = c - 26 in
    let a1 : 2 ^ 104 ≤ N = omega arith in
    let a2 : N < 2 ^ 106 = omega arith in
    ap pattern (widened n c l)
    ∙ pattern_is (N * sq (2 ^ k))
    ∙ ap (λ (x : ℕ). x * 2 ^ 52 + rounded (N * sq (2 ^ k))) (dropped_scaled N k a1 a2)
    ∙ ap (λ (x : ℕ). k * 2 ^ 52 + x) (rounded_scaled N k r a1 a2 a)

-- ---- half of an exponent: m takes the 2 that is over

pub record Halved (m a : ℕ) : Type 0 where
  pub same : m * (a % 2 + 1) * 2 ^ (a / 2 + a / 2) ≡ m * 2 ^ a
  pub least : m ≤ m * (a % 2 + 1)
  pub most : m * (a % 2 + 1) ≤ m * 2

suc_bit : (p : ℕ) → p < 2 → p + 1 ≡ 2 ^ p
suc_bit zero l = refl
suc_bit (suc zero) l = refl
suc_bit (suc (suc p)) l = let no_such : ⊥ = omega arith in absurd no_such

pub halves : (m a : ℕ) → Halved m a
halves m a =
    let e : a % 2 + (a / 2 + a / 2) ≡ a = omega arith in
    let lo : m * 1 ≤ m * (a % 2 + 1) = mul-le-mul_left m (omega arith) in
    let hi : a % 2 + 1 ≤ 2 = omega arith in
    record {
      same =
          ap (λ (x : ℕ). m * x * 2 ^ (a / 2 + a / 2)) (suc_bit (a % 2) (omega arith))
          ∙ mul_assoc m (2 ^ (a % 2)) (2 ^ (a / 2 + a / 2))
          ∙ ap (λ (x : ℕ). m * x) (sym (pow-add 2 (a % 2) (a / 2 + a / 2)) ∙ ap (λ (x : ℕ). 2 ^ x) e);
      least = omega arith;
      most = mul-le-mul_left m hi;
    }

-- ---- every m * 2 ^ j with an m of at most 53 digits is such an n * 4 ^ k: the digits that its root drops stand in 2 ^ j

pub record Split (s : ℕ) : Type 0 where
  pub n : ℕ
  pub same : s ≡ n * sq (2 ^ dropped s)
  pub n_ge : 2 ^ 104 ≤ n
  pub n_lt : n < 2 ^ 106
  pub kept : Rounded n (rounded s)

dropped_is : (s : ℕ) → dropped s ≡ (size s + 1) / 2 - 53
unfolding dropped
dropped_is s = refl

Rounded-some : (n : ℕ) → 2 ^ 104 ≤ n → n < 2 ^ 106 → (r : ℕ) × Rounded n r
Rounded-some n lo hi =
    let h = whole_root 53 n in
    let w = whole_root_is 53 n hi in
    (nearest h (compare (4 * (n * sq 1)) (sq ((2 * h + 1) * 1))), Rounded-nearest n h 1 (lit< tt) (whole_pos n h lo w) w)

split_at : (s n : ℕ) → s ≡ n * sq (2 ^ dropped s) → 2 ^ 104 ≤ n → n < 2 ^ 106 → Split s
split_at s n same lo hi =
    let r = Rounded-some n lo hi in
    let is : rounded s ≡ r.0 = ap rounded same ∙ rounded_scaled n (dropped s) r.0 lo hi r.1 in
    record { n = n; same = same; n_ge = lo; n_lt = hi; kept = subst (λ (x : ℕ). Rounded n x) (sym is) r.1 }

-- the size of m * 2 ^ j
module _ (m j : ℕ) (m_pos : 0 < m) (m-lt : m < 2 ^ 53) (j-ge : 104 ≤ j) where
  size_gt_104 : 104 < size (m * 2 ^ j)
  size_gt_104 =
      let l : 2 ^ 104 ≤ m * 2 ^ j = le_trans (pow_mono {i = 104} {j = j} j-ge) (le_trans (le_of_eq (sym (one-mul (2 ^ j)))) (mul-le-mul_right (2 ^ j) m_pos)) in
      pow-lt_exponent 104 (size (m * 2 ^ j)) (lt_of_le_of_lt l (size-lt (m * 2 ^ j)))

  size-le_53 : size (m * 2 ^ j) ≤ 53 + j
  size-le_53 = size-le (m * 2 ^ j) (53 + j) (shl_lt 53 j m-lt)

  pub dropped-le : dropped (m * 2 ^ j) ≤ (54 + j) / 2 - 53
  dropped-le = let e = dropped_is (m * 2 ^ j) in let g = size-le_53 in omega arith

  pub split : Split (m * 2 ^ j)
  split =
      let s = m * 2 ^ j in
      let k = dropped s in
      let e = dropped_is s in
      let a = size_gt_104 in
      let b = size-le_53 in
      let n = m * 2 ^ (j - (k + k)) in
      let back : j - (k + k) + (k + k) ≡ j = omega arith in
      let same : s ≡ n * sq (2 ^ k) =
      ap (λ (x : ℕ). m * x) (ap (λ (x : ℕ). 2 ^ x) (sym back) ∙ pow-add 2 (j - (k + k)) (k + k) ∙ ap (λ (x : ℕ). 2 ^ (j - (k + k)) * x) (pow-add 2 k k))
      ∙ sym (mul_assoc m (2 ^ (j - (k + k))) (sq (2 ^ k))) in
      let block : (i : ℕ) → 2 ^ i * sq (2 ^ k) ≡ 2 ^ (i + (k + k)) = λ i. ap (λ (x : ℕ). 2 ^ i * x) (sq-pow k) ∙ sym (pow-add 2 i (k + k)) in
      let least : 2 ^ (104 + (k + k)) ≤ s = size_reaches s (104 + (k + k)) (omega arith) in
      let most : s < 2 ^ (106 + (k + k)) = lt_of_lt_of_le (size-lt s) (pow_mono {i = size s} {j = 106 + (k + k)} (omega arith)) in
      let lo : 2 ^ 104 ≤ n = le_of_mul-le-mul_right (le_trans (le_of_eq (block 104)) (le_trans least (le_of_eq same))) (mul-pos (pow_pos k) (pow_pos k)) in
      let hi : n < 2 ^ 106 = lt_of_mul-lt-mul_right (sq (2 ^ k)) (lt_of_le_of_lt (le_of_eq (sym same)) (lt_of_lt_of_le most (le_of_eq (sym (block 106))))) in
      split_at s n same lo hi
