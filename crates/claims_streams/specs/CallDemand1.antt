-- Demand 1 of the papers for one call of the session, in the papers' own words, over the bytes of the stream: which number refuses it, with which
-- detail, and in which order; when it is the end, accepted or solved; what a refusal, an accepted Size, Pose or Withdraw and a solved call leave; and
-- where the next command begins. Rests on the checks of `Deciding` and `Demand1`, on `Left`, which says by the commands themselves what they leave,
-- and on the direct call of `DirectInputs`.
use Rattle.std.specs.Prelude.{ℕ, zero, suc, ◌+◌, ◌*◌, ◌≤◌, ◌<◌, ◌≡◌, ◌≢◌, ◌↔◌, ◌⊎◌, false, ◌&&◌, List, [], ◌∷◌, ◌++◌, length, get_or, T, Float}
use Rattle.std.specs.Float.{binary64, nan}
use Rattle.std.specs.Float.Ieee.{of_bits}
use Rattle.std.specs.Float.Ieee.Scale.{finite}
use Rattle.refusal.specs.Table.{number_of, detail_of}
use Rattle.refusal.specs.declared.Refusal.{Refusal}
use Rattle.lists.specs.Finding.{count}
use Rattle.lists.specs.Masks.{in_mask}
use Rattle.claims_direct.specs.Deciding.{Check, naming, plain, Decides, AllSilent}
use Rattle.claims_direct.specs.Demand1.{size_checks, grid_checks, BeyondUnchanged}
use Rattle.command.specs.Command.{Edit, size, place, withdraw, edit, solve, size_byte, pose_byte, solve_byte, withdraw_byte, size_width, pose_width, solve_width, withdraw_width}
use Rattle.session_record.specs.Session.{buffer_length}
use Rattle.session_commands.specs.Commands.{Left, left-fresh, left_after}
use Rattle.session_commands.specs.Obeyed.{first_length, second_length, State, Result}
use Rattle.session.specs.Call.{max_stream}
use Rattle.session_record.specs.declared.Session.{Session}
use Rattle.session_commands.specs.Reply.{Reply}
use Rattle.claims_streams.specs.DirectInputs.{marks_of, floats_of}
use Rattle.std.specs.Prelude.{Err, Ok}
use Rattle.session_commands.specs.declared.Done.TheVariants.{Accepted, End, Solved}

-- Checks that speak only where P holds.
unfoldable pub when : Type 0 → List Check → List Check
when P [] = []
when P (c ∷ later) = naming c.number (λ d. P × c.Says d) ∷ when P later

-- So many bytes from a place on, low byte first.
unfoldable pub low_byte_first : List ℕ → ℕ → ℕ → ℕ
low_byte_first stream zero from = 0
low_byte_first stream (suc n) from = get_or stream from 0 + 256 * low_byte_first stream n (from + 1)

-- ---- what stands at an offset: "A command is one byte followed by operands of fixed widths."

module _ (stream : List ℕ) (at : ℕ) where
  abbrev pub Begins : ℕ → Type 0
  Begins byte = (at < length stream) × (get_or stream at 0 ≡ byte)

  -- "0x01 Size: views, cameras, reference; one byte each. 0x02 Pose: view, camera, one byte each, then seven floats. 0x03 Solve: no operands." "Command
  -- 0x04, with view and camera bytes".
  abbrev pub BeginsOfWidth : ℕ → Type 0
  BeginsOfWidth width =
      (Begins size_byte × (width ≡ size_width))
      ⊎ ((Begins pose_byte × (width ≡ pose_width)) ⊎ ((Begins solve_byte × (width ≡ solve_width)) ⊎ (Begins withdraw_byte × (width ≡ withdraw_width))))

  abbrev pub operand : ℕ → ℕ
  operand i = get_or stream (at + i) 0

  -- The cell that a Pose names begins there in the buffer: "a cell's seven from 7 × (view × 16 + camera)".
  abbrev pub named_start : ℕ
  named_start = 7 * (operand 1 * 16 + operand 2)

  -- Number k of the seven floats of a Pose, which follow its byte, view and camera: "Floats are the 64 bits of an IEEE 754 double, low byte first."
  abbrev pub float_offered : ℕ → Float
  float_offered k = of_bits binary64 (low_byte_first stream 8 (at + 3 + 8 * k))

  -- A non-finite number among them.
  abbrev pub OffersNotFinite : Type 0
  OffersNotFinite = (k : ℕ) × (k < 7) × (finite (float_offered k) ≡ false)

-- ---- the checks of a command

-- An edit is a Size, or none.
unfoldable pub sizes_in : Edit → ℕ
sizes_in (size v c r) = 1
sizes_in (place v c p) = 0
sizes_in (withdraw v c) = 0

-- How many of the accepted commands that left a record were Size.
unfoldable pub accepted_sizes : {s : Session} → Left s → ℕ
unfolding sizes_in
accepted_sizes left-fresh = 0
accepted_sizes (left_after buffer (edit change) before e) = sizes_in change + accepted_sizes before
accepted_sizes (left_after buffer solve before e) = accepted_sizes before

-- "before an accepted Size", and "after an accepted Size".
abbrev pub NoSizeYet : Session → Type 0
NoSizeYet s = (left : Left s) × (accepted_sizes left ≡ 0)

abbrev pub SizeBefore : Session → Type 0
SizeBefore s = (left : Left s) × (0 < accepted_sizes left)

module _ (t : State) (stream : List ℕ) (at : ℕ) where
  -- 22: "Size after an accepted Size." "After that, Size checks views and cameras as above, then 3".
  abbrev pub size_command_checks : List Check
  size_command_checks =
      plain 22 (SizeBefore t.session) ∷ size_checks (operand stream at 1) (operand stream at 2) (operand stream at 3)

  -- 12: "Pose names a view or camera outside the sizes; detail is view × 256 + camera". Of 0x04 too, by the order that document 02 gives it.
  abbrev pub names_outside : Check
  names_outside =
      let view = operand stream at 1 in
      let camera = operand stream at 2 in
      naming 12 (λ d. ((t.session.views ≤ view) ⊎ (t.session.cameras ≤ camera)) × (d ≡ view * 256 + camera))

  -- 21: "Pose or Solve before an accepted Size." "Pose checks 12, 23, 7": 23 is "Pose for a cell already held; detail as for 12", 7 "a non-finite number in a
  -- [..] offered pose; detail is the lowest such cell. A cell's index is view × cameras + camera."
  abbrev pub pose_command_checks : List Check
  pose_command_checks =
      let view = operand stream at 1 in
      let camera = operand stream at 2 in
      plain 21 (NoSizeYet t.session)
      ∷ names_outside
      ∷ naming 23 (λ d. T (in_mask (get_or t.session.masks camera 0) view) × (d ≡ view * 256 + camera))
      ∷ naming 7 (λ d. OffersNotFinite stream at × (d ≡ view * t.session.cameras + camera))
      ∷ []

  -- "Refusal 24: the cell holds no pose; detail as for 12. Order for 0x04: 10, 11, 21, 12, 24."
  abbrev pub names_empty : Check
  names_empty =
      let view = operand stream at 1 in
      let camera = operand stream at 2 in
      naming 24 (λ d. (in_mask (get_or t.session.masks camera 0) view ≡ false) × (d ≡ view * 256 + camera))

  abbrev pub withdraw_command_checks : List Check
  withdraw_command_checks = plain 21 (NoSizeYet t.session) ∷ names_outside ∷ names_empty ∷ []

  -- "Solve checks 7, 8, 9", "as the direct call would on the grid that masks and buffer hold".
  abbrev pub solve_command_checks : List Check
  solve_command_checks =
      plain 21 (NoSizeYet t.session)
      ∷ grid_checks (marks_of t.session) (floats_of t.session t.buffer) t.session.views t.session.cameras t.session.reference

-- ---- the checks of a call

-- 5: "an answer is too short, the session buffer's length is wrong, or a session record handed in has sizes, a reference or mask bits that no accepted
-- commands could leave." "A session record handed in with a false entry is 5." "a lent buffer of exactly 7,168 floats", "two lent answers of at least 560 floats and 32 bytes".
abbrev pub CannotBeUsed : State → Type 0
CannotBeUsed t =
    (length t.buffer ≢ buffer_length)
    ⊎ ((length t.first < first_length) ⊎ ((length t.second < second_length) ⊎ (Left t.session → ⊥)))

module _ (t : State) (stream : List ℕ) (at : ℕ) where
  -- "Each call checks 13, then 5, before all else": 13 is "a stream longer than 65,536 bytes". An offset greater than the length "gives 11, detail the
  -- length."
  abbrev pub first_checks : List Check
  first_checks =
      plain 13 (max_stream < length stream)
      ∷ plain 5 (CannotBeUsed t)
      ∷ naming 11 (λ d. (length stream < at) × (d ≡ length stream))
      ∷ []

  -- "One command: 10, 11": 10 is "unknown command byte; detail is that byte", 11 "the stream ends within a command; detail is the command's offset."
  abbrev pub reading_checks : List Check
  reading_checks =
      naming 10 (λ d. Begins stream at d × (d ≢ size_byte) × (d ≢ pose_byte) × (d ≢ solve_byte) × (d ≢ withdraw_byte))
      ∷ naming 11 (λ d. ((width : ℕ) × BeginsOfWidth stream at width × (length stream < at + width)) × (d ≡ at))
      ∷ []

  -- "then 21 or 22. After that, Size checks [..]; Pose checks [..]; Solve checks [..]." Of 0x04 document 02 says the order.
  abbrev pub command_checks : List Check
  command_checks =
      when (Begins stream at size_byte) (size_command_checks t stream at)
      ++ (when (Begins stream at pose_byte) (pose_command_checks t stream at)
      ++ (when (Begins stream at withdraw_byte) (withdraw_command_checks t stream at) ++ when (Begins stream at solve_byte) (solve_command_checks t stream at)))

  abbrev pub call_checks : List Check
  call_checks = first_checks ++ (reading_checks ++ command_checks)

-- ---- what a call leaves that is not refused, by the bytes of the command

-- "a 16 by 16 summary of shared counts", row by row: "each entry equal to the count over the held poses", and "a camera with itself counts its own poses".
pub record TrueEntries (s : Session) : Type 0 where
  pub entry_each : length s.shared ≡ 256
  pub counts : (a b : ℕ) → a < 16 → b < 16
      → get_or s.shared (16 * a + b) 0 ≡ count (λ v. in_mask (get_or s.masks a 0) v && in_mask (get_or s.masks b 0) v) 64

-- "0x01 Size: views, cameras, reference; one byte each." The record "also holds the sizes and reference": they are those, and all else stays.
pub record SizeLeaves (t : State) (stream : List ℕ) (at : ℕ) (t' : State) : Type 0 where
  pub views_named : t'.session.views ≡ operand stream at 1
  pub cameras_named : t'.session.cameras ≡ operand stream at 2
  pub reference_named : t'.session.reference ≡ operand stream at 3
  pub same_masks : t'.session.masks ≡ t.session.masks
  pub true_entries_is : TrueEntries t'.session
  pub same_buffer : t'.buffer ≡ t.buffer
  pub same_first : t'.first ≡ t.first
  pub same_second : t'.second ≡ t.second

-- Every bit but that of the cell named is as it was.
abbrev pub OtherBits : State → List ℕ → ℕ → State → Type 0
OtherBits t stream at t' =
    (v c : ℕ) → (v ≡ operand stream at 1 → c ≡ operand stream at 2 → ⊥) → in_mask (get_or t'.session.masks c 0) v ≡ in_mask (get_or t.session.masks c 0) v

-- "0x02 Pose: view, camera, one byte each, then seven floats." Sizes, reference and both answers stay.
pub record PoseLeaves (t : State) (stream : List ℕ) (at : ℕ) (t' : State) : Type 0 where
  -- "bit v is set when view v holds a pose of that camera": that of the cell named, and every other bit is as it was.
  pub bit_set : T (in_mask (get_or t'.session.masks (operand stream at 2) 0) (operand stream at 1))
  pub other_bits : OtherBits t stream at t'
  pub mask_count : length t'.session.masks ≡ length t.session.masks
  pub true_entries_is : TrueEntries t'.session
  -- The seven floats of the stream, in their order, are the cell's seven.
  pub seven_written_is : (k : ℕ) → k < 7 → get_or t'.buffer (named_start stream at + k) nan ≡ float_offered stream at k
  -- "an accepted Pose writes those seven only"
  pub others_kept : (i : ℕ) → (i < named_start stream at) ⊎ (named_start stream at + 7 ≤ i) → get_or t'.buffer i nan ≡ get_or t.buffer i nan
  pub buffer_length_is : length t'.buffer ≡ length t.buffer
  pub same_views : t'.session.views ≡ t.session.views
  pub same_cameras : t'.session.cameras ≡ t.session.cameras
  pub same_reference : t'.session.reference ≡ t.session.reference
  pub same_first : t'.first ≡ t.first
  pub same_second : t'.second ≡ t.second

-- "Command 0x04, with view and camera bytes, withdraws it. Whenever accepted, it empties that cell alone and writes no float". Sizes, reference and both
-- answers stay.
pub record WithdrawLeaves (t : State) (stream : List ℕ) (at : ℕ) (t' : State) : Type 0 where
  pub bit_clear : in_mask (get_or t'.session.masks (operand stream at 2) 0) (operand stream at 1) ≡ false
  pub other_bits : OtherBits t stream at t'
  pub mask_count : length t'.session.masks ≡ length t.session.masks
  pub true_entries_is : TrueEntries t'.session
  pub same_buffer : t'.buffer ≡ t.buffer
  pub same_views : t'.session.views ≡ t.session.views
  pub same_cameras : t'.session.cameras ≡ t.session.cameras
  pub same_reference : t'.session.reference ≡ t.session.reference
  pub same_first : t'.first ≡ t.first
  pub same_second : t'.second ≡ t.second

-- "Solve may come again, and poses may follow it": session and buffer stay. Of both answers, demands 2 and 3 say what is written; "Memory beyond these
-- lengths is unchanged."
pub record SolveLeaves (t t' : State) : Type 0 where
  pub same_session : t'.session ≡ t.session
  pub true_entries_is : TrueEntries t'.session
  pub same_buffer : t'.buffer ≡ t.buffer
  pub beyond_unchanged : BeyondUnchanged t.session.views t.session.cameras t.first t.second t'.first t'.second

-- ---- the demand

-- Refused by a number of the table, with a detail.
abbrev pub RefusedWith : Reply → ℕ → ℕ → Type 0
RefusedWith r n d = (q : Refusal) × (r ≡ Err q) × (number_of q ≡ n) × (detail_of q ≡ d)

-- "5, 10, 11 and 13 end the stream", and "an offset equal to the length is the end".
abbrev pub EndsTheStream : Reply → Type 0
EndsTheStream r = (r ≡ Ok End) ⊎ ((n : ℕ) × (d : ℕ) × RefusedWith r n d × ((n ≡ 5) ⊎ ((n ≡ 10) ⊎ ((n ≡ 11) ⊎ (n ≡ 13)))))

-- What the demand asks of a call in a state, on a stream at an offset, that comes to r.
pub record CallDemand1 (t : State) (stream : List ℕ) (at : ℕ) (r : Result) : Type 0 where
  -- "Refused, by document 01's numbers": by number n and detail d exactly when the words of n say so, and no words before them say anything.
  pub refused_exactly : (n d : ℕ) → RefusedWith r.reply n d ↔ Decides (call_checks t stream at) n d
  -- Every other call is the end, accepted or solved, by what stands at its offset.
  pub end_exactly : (r.reply ≡ Ok End) ↔ (AllSilent (call_checks t stream at) × (at ≡ length stream))
  pub accepted_exactly : (r.reply ≡ Ok Accepted)
      ↔ (AllSilent (call_checks t stream at) × (Begins stream at size_byte ⊎ (Begins stream at pose_byte ⊎ Begins stream at withdraw_byte)))
  pub solved_exactly : (r.reply ≡ Ok Solved) ↔ (AllSilent (call_checks t stream at) × Begins stream at solve_byte)
  -- "A refused command changes neither session nor buffer", and a refusal "writes nothing".
  pub refusal_changes_nothing : (n d : ℕ) → RefusedWith r.reply n d → r.after ≡ t
  pub end_changes_nothing : r.reply ≡ Ok End → r.after ≡ t
  -- What the other calls leave.
  pub accepted_size : r.reply ≡ Ok Accepted → Begins stream at size_byte → SizeLeaves t stream at r.after
  pub accepted_pose : r.reply ≡ Ok Accepted → Begins stream at pose_byte → PoseLeaves t stream at r.after
  pub accepted_withdraw : r.reply ≡ Ok Accepted → Begins stream at withdraw_byte → WithdrawLeaves t stream at r.after
  pub solved_leaves : r.reply ≡ Ok Solved → SolveLeaves t r.after
  -- "reading goes on at the next command, except that 5, 10, 11 and 13 end the stream: the next offset is then its length."
  pub next_at_end : EndsTheStream r.reply → r.next ≡ length stream
  pub next_command_is : (EndsTheStream r.reply → ⊥)
      → (width : ℕ) × BeginsOfWidth stream at width × (at + width ≤ length stream) × (r.next ≡ at + width)
