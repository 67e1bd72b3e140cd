-- Which numbers a sum of powers of two names: those below the bound that pass the test, and no others. Assumes nothing.
use Rattle.std.proofs.Common.{◌≡◌, ℕ, zero, suc, ◌<◌, Bool, true, false, T, ◌↔◌, sym, refl, ◌∙◌, subst, arith}
use native.Mathlib.Decide.{dec_lt}
use Rattle.std.specs.Prelude.{Option, None, Some}
use Rattle.lists.specs.Masks.{in_mask}
use Rattle.lists.specs.Finding.{lowest, power_sum}
use Rattle.lists.proofs.Lowest.{lowest_passes, lowest-none_fails}
use Rattle.lists.proofs.PowerSums.{power_sum-lt, power_sum_agree}
use Rattle.inputs.proofs.MarkedMasks.{in_mask-power_sum}
use Rattle.extrinsics.proofs.Solving.{in_mask_past}

power_sum-none : (n : ℕ) → power_sum (λ i. false) n ≡ 0
unfolding power_sum
power_sum-none zero = refl
power_sum-none (suc n) = rw (power_sum-none n)

module _ (test : ℕ → Bool) (n : ℕ) where
  pub in_mask-power_sum_iff : (c : ℕ) → T (in_mask (power_sum test n) c) ↔ ((c < n) × T (test c))
  in_mask-power_sum_iff c = go (dec_lt c n)
    where
      go : Dec (c < n) → T (in_mask (power_sum test n) c) ↔ ((c < n) × T (test c))
      go (yes h) =
          let same = in_mask-power_sum test n c h in
          (λ t. (h, subst T same t), λ p. subst T (sym same) p.1)
      go (no h) =
          (λ t. absurd (subst T (in_mask_past (power_sum test n) n c (power_sum-lt test n) (omega arith)) t), λ p. absurd (h p.0))

  -- The sum is over the numbers that it names.
  pub power_sum-in_mask : power_sum test n ≡ power_sum (in_mask (power_sum test n)) n
  power_sum-in_mask = sym (power_sum_agree (in_mask (power_sum test n)) test n (λ i l. in_mask-power_sum test n i l))

  -- A sum that is not 0 names some number.
  pub power_sum-some : (power_sum test n ≡ 0 → ⊥) → (c : ℕ) × (c < n) × (test c ≡ true)
  power_sum-some other = go (lowest test n) refl
    where
      go : (o : Option ℕ) → lowest test n ≡ o → (c : ℕ) × (c < n) × (test c ≡ true)
      go (Some c) e = let (l, p) = lowest_passes test n c e in (c, l, p)
      go None e = absurd (other (power_sum_agree test (λ i. false) n (λ i l. lowest-none_fails test n i e l) ∙ power_sum-none n))
