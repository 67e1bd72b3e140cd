-- What the check for 5 asks of a record, as plain facts, and what follows from them. Assumes nothing.
use Prim.Native.Nat.{ℕ, ◌^◌, ◌≤◌, ◌<◌}
use native.Mathlib.Decide.{dec_lt}
use native.Mathlib.Omega.{arith}
use mathlib.Core.Path.{◌≡◌, refl, sym, ap, subst}
use mathlib.Core.Logic.{◌↔◌, ◌⊎◌, inl, inr, ⊎_elim}
use mathlib.Core.Bool.{Bool, true, false, ◌&&◌, ◌||◌, cond}
use Rattle.std.specs.Prelude.{Option, None, Some, is_none}
use lib.ListN.{get_or, get_or-replicate}
use lib.Dec.{T, eqb, ltb, eqb→eq, ltb→lt, lt→ltb}
use borrow.Author.Tests.{lt-ltb, le-ltb}
use Rattle.refusal.specs.declared.Refusal.{Refusal}
use Rattle.limits.specs.Limits.{max_views, max_cameras}
use Rattle.inputs.specs.Inputs.{size_refusal}
use Rattle.inputs.proofs.Answering.{Sizes, size_refusal-none, size_refusal-sizes}
use Rattle.lists.proofs.AllBelow.{all_below_at, all_below_each}
use Rattle.shared_counts.specs.Summary.{summary_of, is_summary}
use Rattle.shared_counts.proofs.Summaries.{summary_of_is_summary, is_summary_of_summary, summary_of_nothing}
use Rattle.session_record.specs.Session.{held_of, session_of, summed, fresh, possible_sizes, mask_fits, possible_masks, possible_held, possible}
use Rattle.session_record.specs.declared.Session.{Session}

-- ---- what the check asks, as plain facts

abbrev pub NoSizes : Session → Type 0
NoSizes s = (s.views ≡ 0) × (s.cameras ≡ 0) × (s.reference ≡ 0)

-- No sizes at all, or sizes that Size takes; no bit outside them; and the summary of the masks.
pub record Sound (s : Session) : Type 0 where
  pub sizes : NoSizes s ⊎ Sizes s.views s.cameras s.reference
  pub inside : (c : ℕ) → c < max_cameras → c < s.cameras → get_or s.masks c 0 < 2 ^ s.views
  pub outside : (c : ℕ) → c < max_cameras → s.cameras ≤ c → get_or s.masks c 0 ≡ 0
  pub true_summary : s.shared ≡ summary_of s.masks

pub T_true : (b : Bool) → T b → b ≡ true
T_true true h = refl
T_true false h = absurd h

pub true_T : (b : Bool) → b ≡ true → T b
true_T b e = rw e tt

T_and : (a b : Bool) → T (a && b) ↔ (T a × T b)
T_and true b = (λ t. (tt, t), λ h. h.1)
T_and false b = (λ t. absurd t, λ h. h.0)

T-or : (a b : Bool) → T (a || b) ↔ (T a ⊎ T b)
T-or true b = (λ t. inl tt, λ h. tt)
T-or false b = (λ t. inr t, λ h. ⊎_elim (λ t. absurd t) (λ t. t) h)

T-is_none : (o : Option Refusal) → T (is_none o) ↔ (o ≡ None)
T-is_none None = (λ t. refl, λ e. tt)
T-is_none (Some r) = (λ t. absurd t, λ e. let f : true ≡ false = cc in subst T f tt)

module _ (s : Session) where
  abbrev no_sizes : Bool
  no_sizes = eqb s.views 0 && eqb s.cameras 0 && eqb s.reference 0

  abbrev some_sizes : Bool
  some_sizes = is_none (size_refusal s.views s.cameras s.reference)

  abbrev bound : ℕ → ℕ
  bound c = cond (ltb c s.cameras) (2 ^ s.views) 1

  no_sizes_fact : T no_sizes ↔ NoSizes s
  no_sizes_fact = (forth, back)
    where
      forth : T no_sizes → NoSizes s
      forth t =
          let (vc, r) = (T_and (eqb s.views 0 && eqb s.cameras 0) (eqb s.reference 0)).0 t in
          let (v, c) = (T_and (eqb s.views 0) (eqb s.cameras 0)).0 vc in
          (eqb→eq _ _ v, eqb→eq _ _ c, eqb→eq _ _ r)

      back : NoSizes s → T no_sizes
      back (v, c, r) = rw (v, c, r) tt

  sizes_fact : T (possible_sizes (held_of s)) ↔ (NoSizes s ⊎ Sizes s.views s.cameras s.reference)
  sizes_fact = (
    λ t. ⊎_elim (λ n. inl (no_sizes_fact.0 n)) (λ n. inr (size_refusal-none _ _ _ ((T-is_none _).0 n))) ((T-or no_sizes some_sizes).0 t),
    λ h. (T-or no_sizes some_sizes).1 (⊎_elim (λ n. inl (no_sizes_fact.1 n)) (λ n. inr ((T-is_none _).1 (size_refusal-sizes _ _ _ n))) h),
  )

  masks_fact : T (possible_masks (held_of s))
      ↔ (((c : ℕ) → c < max_cameras → c < s.cameras → get_or s.masks c 0 < 2 ^ s.views)
      × ((c : ℕ) → c < max_cameras → s.cameras ≤ c → get_or s.masks c 0 ≡ 0))
  masks_fact = (forth, back)
    where
      one : (c : ℕ) → T (possible_masks (held_of s)) → c < max_cameras → get_or s.masks c 0 < bound c
      one c t l = ltb→lt _ _ (true_T _ (all_below_at (mask_fits (held_of s)) max_cameras c (T_true _ t) l))

      forth : T (possible_masks (held_of s))
          → (((c : ℕ) → c < max_cameras → c < s.cameras → get_or s.masks c 0 < 2 ^ s.views)
          × ((c : ℕ) → c < max_cameras → s.cameras ≤ c → get_or s.masks c 0 ≡ 0))
      forth t = (
        λ c l k. rw (lt-ltb c s.cameras k) at (one c t l),
        λ c l k. let none-set : get_or s.masks c 0 < 1 = rw (le-ltb c s.cameras k) at (one c t l) in omega arith,
      )

      back : ((c : ℕ) → c < max_cameras → c < s.cameras → get_or s.masks c 0 < 2 ^ s.views)
          × ((c : ℕ) → c < max_cameras → s.cameras ≤ c → get_or s.masks c 0 ≡ 0) → T (possible_masks (held_of s))
      back (inside, outside) = true_T _ (all_below_each (mask_fits (held_of s)) max_cameras (λ c l. T_true _ (go c l (dec_lt c s.cameras))))
        where
          go : (c : ℕ) → c < max_cameras → Dec (c < s.cameras) → T (mask_fits (held_of s) c)
          go c l (yes k) = lt→ltb (get_or s.masks c 0) (bound c) (rw (lt-ltb c s.cameras k) (inside c l k))
          go c l (no k) = lt→ltb (get_or s.masks c 0) (bound c) (rw (le-ltb c s.cameras (omega arith), outside c l (omega arith)) (omega arith))

  held_parts : T (possible_held (held_of s)) ↔ (T (possible_sizes (held_of s)) × T (possible_masks (held_of s)))
  unfolding possible_held
  held_parts = T_and (possible_sizes (held_of s)) (possible_masks (held_of s))

  possible_parts : T (possible s) ↔ (T (possible_held (held_of s)) × T (is_summary s.masks s.shared))
  unfolding possible
  possible_parts = T_and (possible_held (held_of s)) (is_summary s.masks s.shared)

  pub sound_of_possible : T (possible s) → Sound s
  sound_of_possible t =
      let (held, entries) = possible_parts.0 t in
      let (sized, fit) = held_parts.0 held in
      record {
        sizes = sizes_fact.0 sized;
        inside = (masks_fact.0 fit).0;
        outside = (masks_fact.0 fit).1;
        true_summary = summary_of_is_summary s.masks s.shared (T_true _ entries);
      }

  pub possible_of_sound : Sound s → T (possible s)
  possible_of_sound h =
      possible_parts.1 (
        held_parts.1 (sizes_fact.1 h.sizes, masks_fact.1 (h.inside, h.outside)),
        true_T _ (is_summary_of_summary s.masks s.shared h.true_summary),
      )

-- ---- sound records

pub sound_fresh : Sound fresh
sound_fresh =
    record {
      sizes = inl (refl, refl, refl);
      inside = λ c l k. absurd (omega arith);
      outside = λ c l k. get_or-replicate 16 c 0 0 l;
      true_summary = sym summary_of_nothing;
    }

pub possible-fresh : possible fresh ≡ true
possible-fresh = T_true (possible fresh) (possible_of_sound fresh sound_fresh)

module _ (s : Session) (h : Sound s) where
  -- The summary is told by the masks.
  pub summed-held : summed (held_of s) ≡ s
  summed-held = ap (session_of (held_of s)) (sym h.true_summary)

  -- Without sizes no mask has a bit.
  pub no_bits : s.views ≡ 0 → (c : ℕ) → c < max_cameras → get_or s.masks c 0 ≡ 0
  no_bits e c l = h.outside c l (⊎_elim (λ n. omega (arith, n.1)) (λ n. absurd (omega (arith, n.some_views))) h.sizes)

  pub has_sizes : 0 < s.views → Sizes s.views s.cameras s.reference
  has_sizes l = ⊎_elim (λ n. absurd (omega (arith, n.0))) (λ n. n) h.sizes

pub within_limits : (s : Session) → T (possible s) → (s.views ≤ max_views) × (s.cameras ≤ max_cameras)
within_limits s allowed =
    ⊎_elim (λ n. (omega (arith, n.0), omega (arith, n.1))) (λ n. (n.views_fit, n.cameras_fit)) (sound_of_possible s allowed).sizes
