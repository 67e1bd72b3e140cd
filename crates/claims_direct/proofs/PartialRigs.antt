-- The rig in the making, as the Rust holds it in `rig_se3_cam`: a pose for every camera that has its place and none for the others. What it is
-- before the first turn, in the middle of a turn, after each layer and at the end. Assumes nothing.
use Rattle.std.proofs.Common.{◌≡◌, ℕ, suc, ◌<◌, ◌≤◌, Bool, true, false, cond, T, eqb, ltb, ◌≢◌, List, [], ◌∷◌, ◌++◌, get_or, set, replicate, sym, refl, ap, ◌∙◌, subst, arith, length-set, get_or-set_other, get_or-set_same, ext_get_or, le-ltb, lt-ltb, eq-eqb, ne_eqb}
use native.Mathlib.Decide.{ℕ_discrete, dec_lt}
use Rattle.std.specs.Prelude.{Option, None, Some}
use lib.ListN.{length-replicate, get_or-replicate}
use Rattle.arithmetic.specs.Pose.{mul_pose, identity_pose}
use Rattle.arithmetic.specs.declared.pose.Pose.{Pose}
use Rattle.limits.specs.Limits.{one_view}
use Rattle.chains.specs.Layers.{Spot, not_placed, placed, is_placed, parent_of, in_layer, spot_at, start_spot, layers}
use Rattle.lists.specs.Lists.{tabulate}
use Rattle.placing.specs.Grid.{Grid, shared_views, spots}
use Rattle.placing.specs.Estimate.{averaged_link, rig_se3_cam}
use Rattle.claims_direct.specs.RustStd.{is_some, range, filter}
use Rattle.lists.proofs.Tabulated.{length-tabulate, get_d_tabulate, tabulate_agree, tabulate-get_or}
use Rattle.chains.proofs.Placing.{spot, offer, of_layer, spot_zero, spot_next, spot_reference, spot_stays, layers_to_stays, kept_not_of_layer, links-below-cameras, in_layer-placed, placed-in_layer, placed_is_placed, placed-not-not_placed}
use Rattle.chains.proofs.Theorem.{final_placed}
use Rattle.claims_direct.proofs.Ascending.{filter-range_in, filter-range_out, filter-range-empty, filter-range_member, filter-range-one}
use Rattle.placing.proofs.RigPoses.{rig_se3_cam-reference, rig_se3_cam-parent}

-- ---- tables

-- A store into a table makes the table of a function that differs there only.
set-tabulate : {A : Type 0} (d : A) (n : ℕ) (f f' : ℕ → A) (m : ℕ) (a : A) → m < n → f' m ≡ a → ((i : ℕ) → i < n → i ≢ m → f' i ≡ f i)
    → set (tabulate n f) m a ≡ tabulate n f'
set-tabulate d n f f' m a h e others =
    ext_get_or d (set (tabulate n f) m a) (tabulate n f') (length-set (tabulate n f) m a ∙ length-tabulate n f ∙ sym (length-tabulate n f'))
    (λ i l. go i (omega (arith, length-set (tabulate n f) m a, length-tabulate n f)) (ℕ_discrete i m))
  where
    go : (i : ℕ) → i < n → Dec (i ≡ m) → get_or (set (tabulate n f) m a) i d ≡ get_or (tabulate n f') i d
    go i l (yes y) =
        ap (λ (j : ℕ). get_or (set (tabulate n f) m a) j d) y
        ∙ get_or-set_same (tabulate n f) m a d (omega (arith, length-tabulate n f))
        ∙ sym e ∙ ap f' (sym y)
        ∙ sym (get_d_tabulate n f' d i l)
    go i l (no y) = get_or-set_other (tabulate n f) m i a d y ∙ get_d_tabulate n f d i l ∙ sym (others i l y) ∙ sym (get_d_tabulate n f' d i l)

replicate-tabulate : {A : Type 0} (n : ℕ) (a : A) → replicate n a ≡ tabulate n (λ i. a)
replicate-tabulate n a =
    tabulate-get_or a (replicate n a) (λ i. a) (λ i h. get_or-replicate n i a a (omega (arith, length-replicate n a)))
    ∙ ap (λ (m : ℕ). tabulate m (λ i. a)) (length-replicate n a)

-- ---- one camera

-- The pose of a camera that has a place.
abbrev pub pose_in : Spot → Pose → Option Pose
pose_in not_placed p = None
pose_in (placed q d) p = Some p

pub is_some_pose_in : (s : Spot) (p : Pose) → is_some (pose_in s p) ≡ is_placed s
unfolding is_placed
is_some_pose_in not_placed p = refl
is_some_pose_in (placed q d) p = refl

module _ (g : Grid) where
  -- The spot of camera c once layers 0 to k are placed, and the parent that layer k offers it.
  abbrev pub spot_of : ℕ → ℕ → Spot
  spot_of k c = spot g.cameras (shared_views g) one_view g.reference k c

  abbrev pub offer_to : ℕ → ℕ → Option ℕ
  offer_to k c = offer g.cameras (shared_views g) one_view g.reference k c

  -- ---- after each layer

  -- The cameras of layer k, ascending, and the rig poses once layers 0 to k are placed.
  abbrev pub layer_at : ℕ → List ℕ
  layer_at k = filter (of_layer g.cameras (shared_views g) one_view g.reference k) (range g.cameras)

  abbrev pub rig_after : ℕ → List (Option Pose)
  rig_after k = tabulate g.cameras (λ c. pose_in (spot_of k c) (rig_se3_cam g c))

  -- A layer with a camera in it has a number below that of the cameras.
  pub layer_below : (k c : ℕ) (l : List ℕ) → layer_at k ≡ c ∷ l → k < g.cameras
  layer_below k c l e =
      let (i, h, t) = filter-range_member (of_layer g.cameras (shared_views g) one_view g.reference k) g.cameras c l e in
      let (p, f) = in_layer-placed k (spot_of k i) (subst T (sym t) tt) in
      links-below-cameras g.cameras (shared_views g) one_view g.reference k i p k h f

  -- ---- at the end

  abbrev pub rig_final : List (Option Pose)
  rig_final = tabulate g.cameras (λ c. pose_in (spot_at (spots g) c) (rig_se3_cam g c))

  -- Once a layer is empty nothing changes any more.
  pub rig_after_final : (k : ℕ) → k ≤ g.cameras → layer_at k ≡ [] → rig_after k ≡ rig_final
  unfolding spots layers
  rig_after_final k h e =
      tabulate_agree g.cameras _ _
      (λ c l. ap (λ (s : List Spot). pose_in (spot_at s c) (rig_se3_cam g c))
      (sym (layers_to_stays g.cameras (shared_views g) one_view g.reference k
      (filter-range-empty (of_layer g.cameras (shared_views g) one_view g.reference k) g.cameras e) g.cameras h)))

  -- ---- in the middle of a turn

  -- Once the cameras below m are visited in the turn after layer k.
  abbrev mid_spot : ℕ → ℕ → ℕ → Spot
  mid_spot k m c = cond (ltb c m) (spot_of (suc k) c) (spot_of k c)

  abbrev pub mid_rig : ℕ → ℕ → List (Option Pose)
  mid_rig k m = tabulate g.cameras (λ c. pose_in (mid_spot k m c) (rig_se3_cam g c))

  abbrev pub mid_next : ℕ → ℕ → List ℕ
  mid_next k m = filter (of_layer g.cameras (shared_views g) one_view g.reference (suc k)) (range m)

  mid_spot_visited : (k m c : ℕ) → c < m → mid_spot k m c ≡ spot_of (suc k) c
  mid_spot_visited k m c h = rw (lt-ltb c m h)

  mid_spot_waiting : (k m c : ℕ) → m ≤ c → mid_spot k m c ≡ spot_of k c
  mid_spot_waiting k m c h = rw (le-ltb c m h)

  -- What is placed before the turn is seen so in the middle of it.
  mid_spot_placed : (k m c p d : ℕ) → c < g.cameras → spot_of k c ≡ placed p d → mid_spot k m c ≡ placed p d
  mid_spot_placed k m c p d h e = go (ltb c m)
    where
      go : (t : Bool) → cond t (spot_of (suc k) c) (spot_of k c) ≡ placed p d
      go true = spot_next g.cameras (shared_views g) one_view g.reference k c p d h e
      go false = e

  pub get_or_mid_rig_waiting : (k m : ℕ) → m < g.cameras → get_or (mid_rig k m) m None ≡ pose_in (spot_of k m) (rig_se3_cam g m)
  get_or_mid_rig_waiting k m h =
      get_d_tabulate g.cameras (λ c. pose_in (mid_spot k m c) (rig_se3_cam g c)) None m h
      ∙ ap (λ (s : Spot). pose_in s (rig_se3_cam g m)) (mid_spot_waiting k m m (omega arith))

  pub get_or_mid_rig_placed : (k m c p d : ℕ) → c < g.cameras → spot_of k c ≡ placed p d → get_or (mid_rig k m) c None ≡ Some (rig_se3_cam g c)
  get_or_mid_rig_placed k m c p d h e =
      get_d_tabulate g.cameras (λ c. pose_in (mid_spot k m c) (rig_se3_cam g c)) None c h
      ∙ ap (λ (s : Spot). pose_in s (rig_se3_cam g c)) (mid_spot_placed k m c p d h e)

  -- A visit changes the spot of the camera visited at most.
  mid_spot_other : (k m c : ℕ) → c ≢ m → mid_spot k (suc m) c ≡ mid_spot k m c
  mid_spot_other k m c n = go (dec_lt c m)
    where
      go : Dec (c < m) → mid_spot k (suc m) c ≡ mid_spot k m c
      go (yes y) = mid_spot_visited k (suc m) c (omega arith) ∙ sym (mid_spot_visited k m c y)
      go (no y) = mid_spot_waiting k (suc m) c (omega arith) ∙ sym (mid_spot_waiting k m c (omega arith))

  -- A turn begins with the rig after layer k and ends with that after layer k + 1.
  pub mid_rig_begins : (k : ℕ) → mid_rig k 0 ≡ rig_after k
  mid_rig_begins k = tabulate_agree g.cameras _ _ (λ c l. ap (λ (s : Spot). pose_in s (rig_se3_cam g c)) (mid_spot_waiting k 0 c (omega arith)))

  pub mid_rig_ends : (k : ℕ) → mid_rig k g.cameras ≡ rig_after (suc k)
  mid_rig_ends k = tabulate_agree g.cameras _ _ (λ c l. ap (λ (s : Spot). pose_in s (rig_se3_cam g c)) (mid_spot_visited k g.cameras c l))

  -- A camera whose spot the turn leaves as it is.
  pub mid_rig_kept : (k m : ℕ) → m < g.cameras → spot_of (suc k) m ≡ spot_of k m → mid_rig k (suc m) ≡ mid_rig k m
  mid_rig_kept k m h e = tabulate_agree g.cameras _ _ (λ c l. ap (λ (s : Spot). pose_in s (rig_se3_cam g c)) (go c (ℕ_discrete c m)))
    where
      go : (c : ℕ) → Dec (c ≡ m) → mid_spot k (suc m) c ≡ mid_spot k m c
      go c (yes y) =
          mid_spot_visited k (suc m) c (omega arith)
          ∙ ap (spot_of (suc k)) y ∙ e ∙ ap (spot_of k) (sym y)
          ∙ sym (mid_spot_waiting k m c (omega arith))
      go c (no y) = mid_spot_other k m c y

  pub mid_next_kept : (k m : ℕ) → m < g.cameras → spot_of (suc k) m ≡ spot_of k m → mid_next k (suc m) ≡ mid_next k m
  mid_next_kept k m h e =
      filter-range_out (of_layer g.cameras (shared_views g) one_view g.reference (suc k)) m (kept_not_of_layer g.cameras (shared_views g) one_view g.reference k m h e)

  -- A camera that the turn places.
  pub mid_rig_placed : (k m p : ℕ) → m < g.cameras → spot_of (suc k) m ≡ placed p (suc k) → mid_rig k (suc m) ≡ set (mid_rig k m) m (Some (rig_se3_cam g m))
  mid_rig_placed k m p h e =
      sym
      (set-tabulate None g.cameras _ _ m (Some (rig_se3_cam g m)) h
      (ap (λ (s : Spot). pose_in s (rig_se3_cam g m)) (mid_spot_visited k (suc m) m (omega arith) ∙ e))
      (λ c l n. ap (λ (s : Spot). pose_in s (rig_se3_cam g c)) (mid_spot_other k m c n)))

  pub mid_next_placed : (k m p : ℕ) → spot_of (suc k) m ≡ placed p (suc k) → mid_next k (suc m) ≡ mid_next k m ++ (m ∷ [])
  mid_next_placed k m p e =
      filter-range_in (of_layer g.cameras (shared_views g) one_view g.reference (suc k)) m (placed-in_layer (suc k) p (spot_of (suc k) m) e)

  module _ (inside : g.reference < g.cameras) where
    -- The pose of a camera that the turn places under camera p.
    waiting_not-reference : (k m : ℕ) → spot_of k m ≡ not_placed → m ≢ g.reference
    waiting_not-reference k m e s =
        placed-not-not_placed (spot_of k g.reference) g.reference 0
        (spot_stays g.cameras (shared_views g) one_view g.reference 0 k g.reference g.reference 0 inside (omega arith)
        (spot_reference g.cameras (shared_views g) one_view g.reference inside))
        (ap (spot_of k) (sym s) ∙ e)

    pub rig_se3_cam_under : (k m p : ℕ) → m < g.cameras → spot_of k m ≡ not_placed → spot_of (suc k) m ≡ placed p (suc k)
        → rig_se3_cam g m ≡ mul_pose (rig_se3_cam g p) (averaged_link g p m)
    unfolding spots parent_of
    rig_se3_cam_under k m p h e f =
        rig_se3_cam-parent g inside m h (subst T (sym (placed_is_placed p (suc k) (spot_at (spots g) m) final)) tt) (waiting_not-reference k m e)
        ∙ ap (λ (q : ℕ). mul_pose (rig_se3_cam g q) (averaged_link g q m)) (ap parent_of final)
      where
        final : spot_at (spots g) m ≡ placed p (suc k)
        final = final_placed g.cameras (shared_views g) one_view g.reference (suc k) m p (suc k) h f

    -- ---- before the first turn

    spot_other : (c : ℕ) → c < g.cameras → c ≢ g.reference → spot_of 0 c ≡ not_placed
    unfolding start_spot
    spot_other c h n = spot_zero g.cameras (shared_views g) one_view g.reference c h ∙ rw (ne_eqb c g.reference n)

    spot_first : spot_of 0 g.reference ≡ placed g.reference 0
    spot_first = spot_reference g.cameras (shared_views g) one_view g.reference inside

    pub rig_after_zero : set (replicate g.cameras None) g.reference (Some identity_pose) ≡ rig_after 0
    rig_after_zero =
        ap (λ (l : List (Option Pose)). set l g.reference (Some identity_pose)) (replicate-tabulate g.cameras None)
        ∙ set-tabulate None g.cameras (λ c. None) (λ c. pose_in (spot_of 0 c) (rig_se3_cam g c)) g.reference (Some identity_pose) inside
        (ap (λ (s : Spot). pose_in s (rig_se3_cam g g.reference)) spot_first ∙ ap Some (rig_se3_cam-reference g inside))
        (λ c l n. ap (λ (s : Spot). pose_in s (rig_se3_cam g c)) (spot_other c l n))

    pub layer_at_zero : layer_at 0 ≡ g.reference ∷ []
    unfolding in_layer
    layer_at_zero =
        filter-range-one (of_layer g.cameras (shared_views g) one_view g.reference 0) g.reference g.cameras (λ c l. go c l (ℕ_discrete c g.reference)) inside
      where
        go : (c : ℕ) → c < g.cameras → Dec (c ≡ g.reference) → in_layer 0 (spot_of 0 c) ≡ eqb c g.reference
        go c l (yes y) = placed-in_layer 0 g.reference (spot_of 0 c) (ap (spot_of 0) y ∙ spot_first) ∙ sym (eq-eqb c g.reference y)
        go c l (no y) = ap (in_layer 0) (spot_other c l y) ∙ sym (ne_eqb c g.reference y)
