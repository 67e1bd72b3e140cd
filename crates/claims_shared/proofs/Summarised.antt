-- The entries of every record that accepted commands leave are the shared counts of the poses held (`possible_summarises`, `left_summarises`); after
-- commands from a fresh session they count the cells that these left held (`entries-count-held`); a record with a false entry is refused with 5, and one
-- with true entries is taken where what it holds is possible (`possible_exactly`, `false_entry-refused`). Assumes nothing.
use Prim.Native.Nat.{ℕ, ◌+◌, ◌*◌, ◌^◌, ◌≤◌, ◌<◌}
use native.Mathlib.Decide.{dec_lt}
use native.Mathlib.Omega.{arith}
use mathlib.Core.Path.{◌≡◌, refl, sym, ap, ap₂, ◌∙◌}
use mathlib.Core.Logic.{◌≢◌, ◌↔◌, ⊎_elim}
use mathlib.Core.Bool.{Bool, true, false, ◌&&◌}
use Rattle.std.specs.Prelude.{Option, None, Some}
use mathlib.Core.List.{List}
use lib.ListN.{length, get_or}
use lib.Dec.{T}
use lib.Ieee.{Float}
use lib.Pow.{pow_mono}
use Rattle.arithmetic.specs.declared.pose.Pose.{Pose}
use Rattle.refusal.specs.declared.Refusal.TheVariants.{WrongLength}
use Rattle.limits.specs.Limits.{max_views, max_cameras}
use Rattle.lists.specs.Finding.{count}
use Rattle.lists.specs.Masks.{in_mask}
use Rattle.lists.proofs.Counting.{count_agree}
use Rattle.chains.specs.Shared.{shared}
use Rattle.chains.specs.Masks.{shared_by}
use Rattle.chains.proofs.Bits.{shared_by-shared}
use Rattle.placing.specs.Grid.{holds}
use Rattle.placing.proofs.ViewCells.{holds-in_mask}
use Rattle.extrinsics.proofs.Solving.{in_mask_past}
use Rattle.shared_counts.specs.Summary.{summary_of, is_summary}
use Rattle.shared_counts.proofs.Summaries.{summary_at, summary_symmetric, summary_outside, summary_ones, is_summary_of_summary}
use Rattle.session_record.specs.Session.{fresh, held_of, rig_of, session_grid, buffer_length, possible, possible_held, possible_sizes, possible_masks}
use Rattle.session_record.specs.declared.Session.{Session}
use Rattle.session_record.proofs.PossibleRecords.{possible-held, possible_summary}
use Rattle.session_commands.specs.Commands.{Left}
use Rattle.session_commands.specs.Obeyed.{State, state, first_length, second_length}
use Rattle.session.specs.Call.{max_stream, stopped, call}
use Rattle.command.specs.Command.{Command}
use Rattle.claims_streams.specs.Stream.{state_after_all}
use Rattle.claims_streams.specs.Held.{accepted_edits, held_after, HoldsCell}
use Rattle.claims_streams.specs.CallDemand1.{TrueEntries}
use Rattle.claims_streams.proofs.Sound.{T_true, true_T, Sound, within_limits, sound_of_possible, possible_of_sound}
use Rattle.claims_streams.proofs.TrueEntries.{true_entries_is, summary_of_true}
use Rattle.claims_streams.proofs.Streams.{call_wrong_length}
use Rattle.claims_streams.proofs.Usable.{usable_after_all}
use Rattle.claims_streams.proofs.Held.{usable_start, held_exactly}
use Rattle.claims_streams.proofs.Records.{possible-left, left-sixteen}
use Rattle.claims_shared.specs.Summaries.{entry, holds_pose, Summarises}

module _ (s : Session) (sound : Sound s) where
  at_place : (a b : ℕ) → a < 16 → b < 16 → entry s a b ≡ get_or (summary_of s.masks) (a * 16 + b) 0
  at_place a b h k =
      let place : 16 * a + b ≡ a * 16 + b = omega arith in
      ap (λ (l : List ℕ). get_or l (16 * a + b) 0) sound.true_summary ∙ ap (λ (i : ℕ). get_or (summary_of s.masks) i 0) place

  limits : (s.views ≤ max_views) × (s.cameras ≤ max_cameras)
  limits = within_limits s (possible_of_sound s sound)

  -- The views that hold a pose of a camera, by its mask and on the grid.
  on_grid : (buffer : List Float) (a b : ℕ) → a < s.cameras → b < s.cameras
      → shared_by s.masks a b ≡ shared (holds (session_grid (held_of s) buffer)) s.views a b
  on_grid buffer =
      shared_by-shared s.masks (holds (session_grid (held_of s) buffer)) s.cameras s.views limits.0
      (λ c v h k. sym (holds-in_mask (rig_of (held_of s)) buffer v c k h))
      (λ c v h l k. in_mask_past (get_or s.masks c 0) s.views v (sound.inside c (omega (arith, limits.1)) h) l)

  both_same : (f : ℕ → Bool) (m : ℕ) → count (λ v. f v && f v) m ≡ count f m
  both_same f m = count_agree (λ v. f v && f v) f m (λ i l. twice (f i))
    where
      twice : (b : Bool) → b && b ≡ b
      twice true = refl
      twice false = refl

  mask_fits : (a : ℕ) → a < 16 → get_or s.masks a 0 < 2 ^ 64
  mask_fits a h = go (dec_lt a s.cameras)
    where
      go : Dec (a < s.cameras) → get_or s.masks a 0 < 2 ^ 64
      go (yes inside) = omega (arith, sound.inside a h inside, pow_mono limits.0)
      go (no outside) = omega (arith, sound.outside a h (omega arith))

  pub sound_summarises : Summarises s
  unfolding shared
  sound_summarises =
      record {
        shared_on_grid = λ buffer a b h k.
            at_place a b (omega (arith, limits.1)) (omega (arith, limits.1)) ∙ summary_at s.masks a b (omega (arith, limits.1)) (omega (arith, limits.1))
            ∙ on_grid buffer a b h k;
        own_poses = λ buffer a h.
            at_place a a (omega (arith, limits.1)) (omega (arith, limits.1)) ∙ summary_at s.masks a a (omega (arith, limits.1)) (omega (arith, limits.1))
            ∙ on_grid buffer a a h h
            ∙ both_same (λ v. holds (session_grid (held_of s) buffer) v a) s.views;
        ones_of_both = λ a b h k. at_place a b h k ∙ summary_ones s.masks a b h k (mask_fits a h);
        symmetric = λ a b h k. at_place a b h k ∙ summary_symmetric s.masks a b h k ∙ sym (at_place b a k h);
        nothing_outside = λ a b h k.
            ⊎_elim (λ l. at_place a b h k ∙ summary_outside s.masks a b h k (sound.outside a h l))
            (λ l. at_place a b h k ∙ summary_symmetric s.masks a b h k ∙ summary_outside s.masks b a k h (sound.outside b k l));
      }

-- ---- which records they are of

pub possible_summarises : (s : Session) → T (possible s) → Summarises s
possible_summarises s allowed = sound_summarises s (sound_of_possible s allowed)

pub left_summarises : {s : Session} → Left s → Summarises s
left_summarises {s = s} left = possible_summarises s ((possible-left s (left-sixteen left)).1 left)

both_true : (s : Session) → possible_held (held_of s) ≡ true → is_summary s.masks s.shared ≡ true → possible s ≡ true
unfolding possible
both_true s e f = rw (e, f)

-- Of a record whose sizes and masks are possible, the summary alone decides.
pub possible_by_summary : (s : Session) → possible_sizes (held_of s) ≡ true → possible_masks (held_of s) ≡ true → possible s ≡ is_summary s.masks s.shared
unfolding possible possible_held
possible_by_summary s e f = rw (e, f)

-- Of what is held that accepted commands could leave, just the record with true entries is taken.
pub possible_exactly : (s : Session) → T (possible s) ↔ (T (possible_held (held_of s)) × TrueEntries s)
possible_exactly s = (
  λ t.
      let e = T_true _ t in
      (true_T _ (possible-held s e), true_entries_is s (possible_summary s e)),
  λ (h, entries). true_T _ (both_true s (T_true _ h) (is_summary_of_summary s.masks s.shared (summary_of_true s entries))),
)

-- "A session record handed in with a false entry is 5": in every call, whatever else it is handed, unless the stream is too long.
pub false_entry-refused : (t : State) (stream : List ℕ) (at a b : ℕ) → length stream ≤ max_stream → a < 16 → b < 16
    → entry t.session a b ≢ count (λ v. in_mask (get_or t.session.masks a 0) v && in_mask (get_or t.session.masks b 0) v) 64
    → call t stream at ≡ stopped t stream WrongLength
false_entry-refused t stream at a b short h k false-entry =
    call_wrong_length t stream short (λ u. false-entry (((possible_exactly t.session).0 u.record_possible).1.counts a b h k)) at

-- ---- after commands from a fresh session

module _ (buffer first : List Float) (second : List ℕ) (buffer_fits : length buffer ≡ buffer_length)
    (first_fits : first_length ≤ length first) (second_fits : second_length ≤ length second) (commands : List Command) where
  abbrev start : State
  start = state fresh buffer first second

  abbrev last : State
  last = state_after_all start commands

  -- The poses held, by the accepted edits one after the other.
  abbrev held : ℕ → ℕ → Option Pose
  held v c = held_after (accepted_edits start commands) v c

  marked : (masks : List ℕ) (floats : List Float) (v c : ℕ) (o : Option Pose) → HoldsCell masks floats v c o → in_mask (get_or masks c 0) v ≡ holds_pose o
  unfolding holds_pose
  marked masks floats v c None h = h
  marked masks floats v c (Some p) h = h.0

  pub entries-count-held : (a b : ℕ) → a < 16 → b < 16 → entry last.session a b ≡ count (λ v. holds_pose (held v a) && holds_pose (held v b)) 64
  entries-count-held a b h k =
      let exactly = held_exactly buffer first second buffer_fits first_fits second_fits commands in
      let usable = usable_after_all commands start (usable_start buffer first second buffer_fits first_fits second_fits) in
      let masks = last.session.masks in
      ((possible_exactly last.session).0 usable.record_possible).1.counts a b h k
      ∙ count_agree (λ v. in_mask (get_or masks a 0) v && in_mask (get_or masks b 0) v) (λ v. holds_pose (held v a) && holds_pose (held v b)) 64
      (λ v l. ap₂ ◌&&◌ (marked masks last.buffer v a (held v a) (exactly.cells v a h)) (marked masks last.buffer v b (held v b) (exactly.cells v b k)))
