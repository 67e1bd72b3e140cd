-- The words of one call's checks against what the call computes: 13, 5 and 11 before all else, 10 and 11 where a command is read, and each command's
-- own checks. Assumes nothing.
use Prim.Native.Nat.{ℕ, zero, suc, ◌+◌, ◌*◌, ◌≤◌, ◌<◌}
use native.Mathlib.Decide.{ℕ_discrete, dec_le}
use native.Mathlib.Nat.{eq-zero-or-pos, add_assoc}
use native.Mathlib.Omega.{arith}
use mathlib.Core.Path.{◌≡◌, refl, sym, ap, subst, ◌∙◌}
use mathlib.Core.Logic.{◌≢◌, ◌↔◌, ◌⊎◌, inl, inr, ⊎_elim}
use mathlib.Core.Bool.{Bool, true, false, not, ◌||◌, true≢false, false≢true}
use Rattle.std.specs.Prelude.{Option, None, Some}
use mathlib.Core.List.{List, [], ◌∷◌}
use lib.ListN.{length, get_or}
use lib.Dec.{T, leb, ltb}
use lib.Ieee.{Float, binary64, of_bits, nan}
use lib.Ieee.Scale.{finite}
use borrow.Author.Tests.{ltb-true, ltb-false, leb-true, eqb-true, eqb-false, not-true, not-false, lt-ltb, le-leb, eq-eqb, ne_eqb}
use Rattle.arithmetic.specs.Pose.{pose_at, finite_pose, flat}
use Rattle.arithmetic.specs.declared.pose.Pose.{Pose}
use Rattle.refusal.specs.Table.{refuse_if, or_else, first_of}
use Rattle.refusal.specs.declared.Refusal.{Refusal}
use Rattle.refusal.specs.declared.Refusal.TheVariants.{WrongLength, NotFinite, UnknownCommand, Truncated, OutsideRig, TooLong, NoSize, SizeAgain, HeldAlready, NotHeld}
use Rattle.lists.specs.Masks.{in_mask}
use Rattle.placing.specs.Grid.{Grid}
use Rattle.extrinsics.specs.Outcome.{not_finite, unreached, empty_view, grid_refusal}
use Rattle.extrinsics.specs.Direct.{direct_grid}
use Rattle.inputs.specs.Inputs.{cell_count, size_refusal, count_refusal, length_refusal, mark_refusal, input_refusal}
use Rattle.inputs.proofs.Answering.{refuse_if-none, AllNone, first_of_none_all}
use Rattle.claims_direct.specs.Demand1.{grid_checks}
use Rattle.claims_direct.specs.Deciding.{naming}
use Rattle.claims_direct.proofs.Deciding.{Carries, Carried}
use Rattle.claims_direct.proofs.Carrying.{refuse_if_carries, refuse_if-plain}
use Rattle.claims_direct.proofs.DirectWords.{size_found, sizes_carried, direct_carried}
use Rattle.claims_direct.proofs.FinitePoses.{finite_pose_numbers}
use Rattle.claims_direct.proofs.GridRefusals.{or_else_none}
use Rattle.command.specs.Command.{size, place, withdraw, edit, solve, complete, broken, unknown, size_byte, pose_byte, solve_byte, withdraw_byte, size_width, pose_width, solve_width, withdraw_width, word_at, double_at, offered_pose, width_of, parse}
use Rattle.command.proofs.Decoding.{parse-foreign, parse-short, parse-size, parse-place, parse-withdraw, parse-solve}
use Rattle.session_record.specs.Session.{held_of, has_size, session_grid, named_cell, possible}
use Rattle.session_commands.specs.Commands.{edit_refusal, edit_session, command_refusal, session_after, Left, left-fresh, left_after}
use Rattle.session_record.specs.declared.Session.{Session}
use Rattle.session_commands.specs.Obeyed.{State}
use Rattle.session.specs.Call.{max_stream, call_refusal, unusable}
use Rattle.claims_streams.specs.Stream.{Usable}
use Rattle.claims_streams.specs.DirectInputs.{counts_of, marks_of, floats_of}
use Rattle.claims_streams.specs.CallDemand1.{low_byte_first, Begins, BeginsOfWidth, operand, float_offered, OffersNotFinite, accepted_sizes, NoSizeYet, SizeBefore, size_command_checks, pose_command_checks, withdraw_command_checks, solve_command_checks, CannotBeUsed, first_checks, reading_checks}
use Rattle.claims_streams.proofs.Sound.{T_true, true_T}
use Rattle.claims_streams.proofs.Accepting.{solve_checks}
use Rattle.claims_streams.proofs.Edits.Law.{ViewsAfter}
use Rattle.claims_streams.proofs.Edits.Size.{size_checks_is}
use Rattle.claims_streams.proofs.Edits.Pose.{place_checks, place_checks_is}
use Rattle.claims_streams.proofs.Edits.Withdraw.{withdraw_checks, withdraw_checks_is}
use Rattle.claims_streams.proofs.Edits.All.{edit_law}
use Rattle.claims_streams.proofs.DecidingParts.{Comes, some-not-none, comes_carried, carries_none, carries_some}
use Rattle.claims_streams.proofs.Records.{possible-left}
use Rattle.claims_streams.proofs.SolveDirect.{length-counts_of, each-counts_of, grid_is_direct, inputs_pass}
use Rattle.claims_streams.proofs.Usable.{usable_of_check}

-- ---- tests

-- A test that is not false is true.
true_of : (b : Bool) → (b ≡ false → ⊥) → b ≡ true
true_of true h = refl
true_of false h = absurd (h refl)

pub or-true : (a b : Bool) → a || b ≡ true → (a ≡ true) ⊎ (b ≡ true)
or-true true b e = inl refl
or-true false b e = inr e

pub true-or : (a b : Bool) → (a ≡ true) ⊎ (b ≡ true) → a || b ≡ true
true-or true b e = refl
true-or false b (inl e) = absurd (false≢true e)
true-or false b (inr e) = e

-- A list of checks in the last place of a list of checks.
last_flat : (check : Option Refusal) (checks : List (Option Refusal)) → first_of (check ∷ first_of checks ∷ []) ≡ first_of (check ∷ checks)
unfolding first_of
last_flat check checks = ap (or_else check) (or_else_none (first_of checks))

-- ---- 13, 5, and 11 past the end

module _ (t : State) (sixteen : length t.session.masks ≡ 16) where
  -- "that no accepted commands could leave": by the commands themselves.
  unusable_words : unusable t ≡ true → CannotBeUsed t
  unusable_words e =
      ⊎_elim
      (λ e₃.
      ⊎_elim
      (λ e₂.
      ⊎_elim (λ a. inl (λ same. true≢false (sym (eq-eqb _ _ same) ∙ not-true _ a)))
      (λ b. inr (inl (ltb-true _ _ b))) (or-true _ _ e₂))
      (λ c. inr (inr (inl (ltb-true _ _ c)))) (or-true _ _ e₃))
      (λ d. inr (inr (inr (λ l. true≢false (sym (T_true (possible t.session) ((possible-left t.session sixteen).1 l)) ∙ not-true _ d)))))
      (or-true _ _ e)

  words_unusable : CannotBeUsed t → unusable t ≡ true
  words_unusable words = true_of (unusable t) (λ e. refuted (usable_of_check t e) words)
    where
      refuted : Usable t → CannotBeUsed t → ⊥
      refuted u (inl other) = other u.buffer_fits
      refuted u (inr (inl short)) = omega (arith, u.first_fits)
      refuted u (inr (inr (inl short))) = omega (arith, u.second_fits)
      refuted u (inr (inr (inr never))) = never ((possible-left t.session sixteen).0 u.record_possible)

  pub comes_first : (stream : List ℕ) (at : ℕ) → Comes (first_checks t stream at) (call_refusal t stream at)
  unfolding call_refusal
  comes_first stream at =
      comes_carried (first_checks t stream at)
      (refuse_if (ltb max_stream (length stream)) TooLong
      ∷ refuse_if (unusable t) WrongLength
      ∷ refuse_if (ltb (length stream) at) (Truncated (length stream))
      ∷ []) (
        refuse_if-plain (ltb max_stream (length stream)) TooLong (max_stream < length stream) refl (ltb-true _ _, lt-ltb _ _),
        λ e₁. (
          refuse_if-plain (unusable t) WrongLength (CannotBeUsed t) refl (unusable_words, words_unusable),
          λ e₂. (
            refuse_if_carries (ltb (length stream) at) (Truncated (length stream)) (λ d. (length stream < at) × (d ≡ length stream))
                (λ e. (ltb-true _ _ e, refl)) (λ d (words, same). (lt-ltb _ _ words, sym same)),
            λ e₃. tt,
          ),
        ),
      )

-- A call that they let pass is made in a state that can be used, at an offset that is not past the end.
pub usable_of_call : (t : State) (stream : List ℕ) (at : ℕ) → call_refusal t stream at ≡ None → Usable t × (at ≤ length stream)
unfolding call_refusal
usable_of_call t stream at e =
    let (_, (wrong, (past, _))) =
    first_of_none_all
    (refuse_if (ltb max_stream (length stream)) TooLong
    ∷ refuse_if (unusable t) WrongLength
    ∷ refuse_if (ltb (length stream) at) (Truncated (length stream))
    ∷ []) e in
    (usable_of_check t (refuse_if-none _ _ wrong), ltb-false _ _ (refuse_if-none _ _ past))

-- ---- 10 and 11: what stands before the end

module _ (stream : List ℕ) (at : ℕ) where
  -- A byte that begins no command.
  abbrev pub Unknown : ℕ → Type 0
  Unknown byte = (byte ≢ size_byte) × (byte ≢ pose_byte) × (byte ≢ solve_byte) × (byte ≢ withdraw_byte)

  -- What is read there, as the papers have it: no command, one that the stream ends within, or a whole Size, Pose, Withdraw or Solve.
  pub data Reading : Type 0 where
    no_command : (byte : ℕ) → parse stream at ≡ unknown byte → Begins stream at byte → Unknown byte → Reading
    cut_short : (width : ℕ) → parse stream at ≡ broken → BeginsOfWidth stream at width → length stream < at + width → Reading
    whole-size : parse stream at ≡ complete (edit (size (operand stream at 1) (operand stream at 2) (operand stream at 3))) size_width
        → Begins stream at size_byte → at + size_width ≤ length stream → Reading
    whole-pose : parse stream at ≡ complete (edit (place (operand stream at 1) (operand stream at 2) (offered_pose stream (at + 3)))) pose_width
        → Begins stream at pose_byte → at + pose_width ≤ length stream → Reading
    whole-withdraw : parse stream at ≡ complete (edit (withdraw (operand stream at 1) (operand stream at 2))) withdraw_width
        → Begins stream at withdraw_byte → at + withdraw_width ≤ length stream → Reading
    whole-solve : parse stream at ≡ complete solve solve_width → Begins stream at solve_byte → at + solve_width ≤ length stream → Reading

  module _ (before-end : at < length stream) where
    abbrev byte : ℕ
    byte = get_or stream at 0

    -- A command that ends in the stream is whole, and any other is broken.
    read_whole : (width : ℕ) → width_of byte ≡ Some width → BeginsOfWidth stream at width → (at + width ≤ length stream → Reading) → Reading
    read_whole width e begins whole = go (dec_le (at + width) (length stream))
      where
        go : Dec (at + width ≤ length stream) → Reading
        go (yes fits) = whole fits
        go (no past) = cut_short width (parse-short stream at width e (omega arith)) begins (omega arith)

    pub reading : Reading
    unfolding width_of
    reading = go (ℕ_discrete byte size_byte) (ℕ_discrete byte pose_byte) (ℕ_discrete byte solve_byte) (ℕ_discrete byte withdraw_byte)
      where
        go : Dec (byte ≡ size_byte) → Dec (byte ≡ pose_byte) → Dec (byte ≡ solve_byte) → Dec (byte ≡ withdraw_byte) → Reading
        go (yes e) p s t =
            read_whole size_width (rw e refl) (inl ((before-end, e), refl)) (λ fits. whole-size (parse-size stream at e fits) (before-end, e) fits)
        go (no z) (yes e) s t =
            read_whole pose_width (rw e refl) (inr (inl ((before-end, e), refl))) (λ fits. whole-pose (parse-place stream at e fits) (before-end, e) fits)
        go (no z) (no p) (yes e) t =
            read_whole solve_width (rw e refl) (inr (inr (inl ((before-end, e), refl)))) (λ fits. whole-solve (parse-solve stream at e fits) (before-end, e) fits)
        go (no z) (no p) (no s) (yes e) =
            read_whole withdraw_width (rw e refl) (inr (inr (inr ((before-end, e), refl))))
            (λ fits. whole-withdraw (parse-withdraw stream at e fits) (before-end, e) fits)
        go (no z) (no p) (no s) (no t) =
            no_command byte
            (parse-foreign stream at (rw (ne_eqb byte size_byte z, ne_eqb byte pose_byte p, ne_eqb byte solve_byte s, ne_eqb byte withdraw_byte t) refl))
            (before-end, refl) (z, p, s, t)

  -- The width that the words give is the table's.
  width_of_words : (width : ℕ) → BeginsOfWidth stream at width → width_of (get_or stream at 0) ≡ Some width
  unfolding width_of
  width_of_words w (inl ((_, b), e)) = rw (b, e) refl
  width_of_words w (inr (inl ((_, b), e))) = rw (b, e) refl
  width_of_words w (inr (inr (inl ((_, b), e)))) = rw (b, e) refl
  width_of_words w (inr (inr (inr ((_, b), e)))) = rw (b, e) refl

  one_width : (width width' : ℕ) → BeginsOfWidth stream at width → BeginsOfWidth stream at width' → width ≡ width'
  one_width w w' begins begins' = let same : ◌≡◌ {A = Option ℕ} (Some w) (Some w') = sym (width_of_words w begins) ∙ width_of_words w' begins' in cc

  known_byte : (width first : ℕ) → BeginsOfWidth stream at width → Begins stream at first → Unknown first → ⊥
  known_byte width first (inl ((_, b), _)) (_, e) (z, p, s, t) = z (sym e ∙ b)
  known_byte width first (inr (inl ((_, b), _))) (_, e) (z, p, s, t) = p (sym e ∙ b)
  known_byte width first (inr (inr (inl ((_, b), _)))) (_, e) (z, p, s, t) = s (sym e ∙ b)
  known_byte width first (inr (inr (inr ((_, b), _)))) (_, e) (z, p, s, t) = t (sym e ∙ b)

  module _ (t : State) where
    pub comes_unknown : (byte : ℕ) → Begins stream at byte → Unknown byte → Comes (reading_checks t stream at) (Some (UnknownCommand byte))
    unfolding first_of or_else
    comes_unknown byte begins (z, p, s, w) =
        comes_carried (reading_checks t stream at) (Some (UnknownCommand byte) ∷ None ∷ [])
        (carries_some _ (UnknownCommand byte) refl (begins, z, p, s, w) (λ d says. sym begins.1 ∙ says.0.1), λ e. absurd (some-not-none e))

    pub comes_cut_short : (width : ℕ) → BeginsOfWidth stream at width → length stream < at + width
        → Comes (reading_checks t stream at) (Some (Truncated at))
    unfolding first_of or_else
    comes_cut_short width begins short =
        comes_carried (reading_checks t stream at) (None ∷ Some (Truncated at) ∷ []) (
          carries_none _ (λ d says. known_byte width d begins says.0 (says.1, says.2, says.3, says.4)),
          λ e. (carries_some _ (Truncated at) refl ((width, begins, short), refl) (λ d says. sym says.1), λ e₁. tt),
        )

    pub comes_whole : (width : ℕ) → BeginsOfWidth stream at width → at + width ≤ length stream → Comes (reading_checks t stream at) None
    unfolding first_of or_else
    comes_whole width begins fits =
        comes_carried (reading_checks t stream at) (None ∷ None ∷ []) (
          carries_none _ (λ d says. known_byte width d begins says.0 (says.1, says.2, says.3, says.4)),
          λ e. (
            carries_none _ (λ d says. let (w, other, short) = says.0 in let same = one_width width w begins other in omega arith),
            λ e₁. tt,
          ),
        )

    -- At the end, and past it, nothing is read.
    pub comes_nothing-read : length stream ≤ at → Comes (reading_checks t stream at) None
    unfolding first_of or_else
    comes_nothing-read past =
        comes_carried (reading_checks t stream at) (None ∷ None ∷ []) (
          carries_none _ (λ d says. let l = says.0.0 in omega arith),
          λ e. (carries_none _ (λ d says. nothing_begins says.0.0 says.0.1), λ e₁. tt),
        )
      where
        nothing_begins : (w : ℕ) → BeginsOfWidth stream at w → ⊥
        nothing_begins w (inl ((l, _), _)) = omega arith
        nothing_begins w (inr (inl ((l, _), _))) = omega arith
        nothing_begins w (inr (inr (inl ((l, _), _)))) = omega arith
        nothing_begins w (inr (inr (inr ((l, _), _)))) = omega arith

-- ---- 21 and 22: by the commands that left the record

sized-views : {s : Session} (left : Left s) → 0 < accepted_sizes left → 0 < s.views
unfolding accepted_sizes command_refusal session_after
sized-views left-fresh h = absurd (omega arith)
sized-views (left_after {s = s} buffer (edit change) before e) h = go ((edit_law change).views_after s e) (λ l. sized-views before l)
  where
    go : ViewsAfter s change → (0 < accepted_sizes before → 0 < s.views) → 0 < (edit_session s change).views
    go (inl (one, some_view)) earlier = some_view
    go (inr (not-size, same)) earlier = let l = earlier (omega arith) in omega arith
sized-views (left_after buffer solve before e) h = sized-views before h

unsized_views : {s : Session} (left : Left s) → accepted_sizes left ≡ 0 → s.views ≡ 0
unfolding accepted_sizes command_refusal session_after
unsized_views left-fresh e = refl
unsized_views (left_after {s = s} buffer (edit change) before f) e = go ((edit_law change).views_after s f) (λ z. unsized_views before z)
  where
    go : ViewsAfter s change → (accepted_sizes before ≡ 0 → s.views ≡ 0) → (edit_session s change).views ≡ 0
    go (inl (one, some_view)) earlier = absurd (omega arith)
    go (inr (not-size, same)) earlier = same ∙ earlier (omega arith)
unsized_views (left_after buffer solve before f) e = unsized_views before e

module _ (s : Session) (left : Left s) where
  pub no_size_yet : (not (has_size (held_of s)) ≡ true) ↔ NoSizeYet s
  no_size_yet = (
    λ e.
        let none_yet : s.views ≡ 0 = eqb-true _ _ (not-false _ (not-true _ e)) in
        (left, ⊎_elim (λ z. z) (λ h. absurd (omega (arith, sized-views left h))) (eq-zero-or-pos (accepted_sizes left))),
    λ (l, z). rw (eq-eqb _ _ (unsized_views l z)) refl,
  )

  size-before : (has_size (held_of s) ≡ true) ↔ SizeBefore s
  size-before = (
    λ e.
        let some_view : s.views ≡ 0 → ⊥ = eqb-false _ _ (not-true _ e) in
        (left, ⊎_elim (λ z. absurd (some_view (unsized_views left z))) (λ h. h) (eq-zero-or-pos (accepted_sizes left))),
    λ (l, h). ap not (ne_eqb s.views 0 (omega (arith, sized-views l h))),
  )

-- ---- Size: 22, then 1 to 3

module _ (stream : List ℕ) (at : ℕ) (t : State) (left : Left t.session) where
  abbrev size_options : List (Option Refusal)
  size_options = size_found (operand stream at 1) (operand stream at 2) (operand stream at 3)

  pub comes_size : Comes (size_command_checks t stream at)
      (edit_refusal (held_of t.session) (size (operand stream at 1) (operand stream at 2) (operand stream at 3)))
  unfolding size_refusal
  comes_size =
      subst (Comes (size_command_checks t stream at)) (sym one_list)
      (comes_carried (size_command_checks t stream at) (refuse_if (has_size (held_of t.session)) SizeAgain ∷ size_options) (
        refuse_if-plain (has_size (held_of t.session)) SizeAgain (SizeBefore t.session) refl (size-before t.session left),
        λ e. sizes_carried (operand stream at 1) (operand stream at 2) (operand stream at 3) [] [] (λ sizes. tt),
      ))
    where
      one_list : edit_refusal (held_of t.session) (size (operand stream at 1) (operand stream at 2) (operand stream at 3))
          ≡ first_of (refuse_if (has_size (held_of t.session)) SizeAgain ∷ size_options)
      one_list =
          size_checks_is t.session (operand stream at 1) (operand stream at 2) (operand stream at 3)
          ∙ last_flat (refuse_if (has_size (held_of t.session)) SizeAgain) size_options

-- ---- Pose: 21, 12, 23, 7

-- The seven floats of an offered pose, as they stand in the stream.
-- Eight bytes read one after the other are the word of the definitions.
low_byte_first_word : (stream : List ℕ) (from : ℕ) → low_byte_first stream 8 from ≡ word_at stream from
unfolding low_byte_first word_at
low_byte_first_word stream from = simp add_assoc (omega arith)

double_words : (stream : List ℕ) (from : ℕ) → double_at stream from ≡ of_bits binary64 (low_byte_first stream 8 from)
unfolding double_at
double_words stream from = ap (of_bits binary64) (sym (low_byte_first_word stream from))

number_read : (stream : List ℕ) (from k : ℕ) → k < 7 → get_or (flat (offered_pose stream from)) k nan ≡ double_at stream (from + 8 * k)
unfolding offered_pose
number_read stream from zero l = ap (double_at stream) (omega arith)
number_read stream from (suc zero) l = refl
number_read stream from (suc (suc zero)) l = refl
number_read stream from (suc (suc (suc zero))) l = refl
number_read stream from (suc (suc (suc (suc zero)))) l = refl
number_read stream from (suc (suc (suc (suc (suc zero))))) l = refl
number_read stream from (suc (suc (suc (suc (suc (suc zero)))))) l = refl
number_read stream from (suc (suc (suc (suc (suc (suc (suc k))))))) l = absurd (omega arith)

-- Number k of the seven is the one that the words read.
pub number_offered : (stream : List ℕ) (at k : ℕ) → k < 7 → get_or (flat (offered_pose stream (at + 3))) k nan ≡ float_offered stream at k
number_offered stream at k l = number_read stream (at + 3) k l ∙ double_words stream (at + 3 + 8 * k)

pose_at_own_flat : (p : Pose) → pose_at (flat p) 0 ≡ p
unfolding pose_at
pose_at_own_flat p = refl

-- 12, of a Pose and of a Withdraw.
outside_carries : (s : Session) (view camera : ℕ)
    → Carries (naming 12 (λ d. ((s.views ≤ view) ⊎ (s.cameras ≤ camera)) × (d ≡ view * 256 + camera)))
    (refuse_if (leb s.views view || leb s.cameras camera) (OutsideRig (named_cell view camera)))
outside_carries s view camera =
    refuse_if_carries (leb s.views view || leb s.cameras camera) (OutsideRig (named_cell view camera))
    (λ d. ((s.views ≤ view) ⊎ (s.cameras ≤ camera)) × (d ≡ view * 256 + camera))
    (λ e. (⊎_elim (λ v. inl (leb-true _ _ v)) (λ c. inr (leb-true _ _ c)) (or-true _ _ e), refl))
    (λ d (words, same). (true-or _ _ (⊎_elim (λ v. inl (le-leb _ _ v)) (λ c. inr (le-leb _ _ c)) words), sym same))

module _ (stream : List ℕ) (at : ℕ) where
  abbrev offer : Pose
  offer = offered_pose stream (at + 3)

  offers_not_finite : (finite_pose offer ≡ false) ↔ OffersNotFinite stream at
  offers_not_finite =
      let numbers = finite_pose_numbers (flat offer) 0 in
      let same : finite_pose (pose_at (flat offer) 0) ≡ finite_pose offer = ap finite_pose (pose_at_own_flat offer) in (
        λ e. let (k, l, f) = numbers.0 (same ∙ e) in (k, l, sym (number_there k l) ∙ f),
        λ (k, l, f). sym same ∙ numbers.1 (k, l, number_there k l ∙ f),
      )
    where
      number_there : (k : ℕ) → k < 7 → finite (get_or (flat offer) (0 + k) nan) ≡ finite (float_offered stream at k)
      number_there k l =
          let from_zero : 0 + k ≡ k = omega arith in
          ap (λ (i : ℕ). finite (get_or (flat offer) i nan)) from_zero ∙ ap finite (number_offered stream at k l)

  module _ (t : State) (left : Left t.session) where
    abbrev view : ℕ
    view = operand stream at 1

    abbrev camera : ℕ
    camera = operand stream at 2

    abbrev held : Bool
    held = in_mask (get_or t.session.masks camera 0) view

    pub comes_pose : Comes (pose_command_checks t stream at) (edit_refusal (held_of t.session) (place view camera offer))
    comes_pose =
        subst (Comes (pose_command_checks t stream at)) (sym (place_checks_is t.session view camera offer))
        (comes_carried (pose_command_checks t stream at) (place_checks t.session view camera offer) (
          refuse_if-plain (not (has_size (held_of t.session))) NoSize (NoSizeYet t.session) refl (no_size_yet t.session left),
          λ e₁. (
            outside_carries t.session view camera,
            λ e₂. (
              refuse_if_carries held (HeldAlready (named_cell view camera)) (λ d. T held × (d ≡ view * 256 + camera))
                  (λ e. (true_T held e, refl)) (λ d (words, same). (T_true held words, sym same)),
              λ e₃. (
                refuse_if_carries (not (finite_pose offer)) (NotFinite (view * t.session.cameras + camera))
                    (λ d. OffersNotFinite stream at × (d ≡ view * t.session.cameras + camera))
                    (λ e. (offers_not_finite.0 (not-true _ e), refl)) (λ d (words, same). (ap not (offers_not_finite.1 words), sym same)),
                λ e₄. tt,
              ),
            ),
          ),
        ))

    -- ---- Withdraw: 21, 12, 24

    pub comes_withdraw : Comes (withdraw_command_checks t stream at) (edit_refusal (held_of t.session) (withdraw view camera))
    comes_withdraw =
        subst (Comes (withdraw_command_checks t stream at)) (sym (withdraw_checks_is t.session view camera))
        (comes_carried (withdraw_command_checks t stream at) (withdraw_checks t.session view camera) (
          refuse_if-plain (not (has_size (held_of t.session))) NoSize (NoSizeYet t.session) refl (no_size_yet t.session left),
          λ e₁. (
            outside_carries t.session view camera,
            λ e₂. (
              refuse_if_carries (not held) (NotHeld (named_cell view camera)) (λ d. (held ≡ false) × (d ≡ view * 256 + camera))
                  (λ e. (not-true _ e, refl)) (λ d (words, same). (ap not words, sym same)),
              λ e₃. tt,
            ),
          ),
        ))

-- ---- Solve: 21, then 7 to 9

module _ (t : State) (u : Usable t) (left : Left t.session) (stream : List ℕ) (at : ℕ) where
  abbrev own : Grid
  own = session_grid (held_of t.session) t.buffer

  abbrev grid_options : Grid → List (Option Refusal)
  grid_options g = not_finite g ∷ unreached g ∷ empty_view g ∷ []

  -- The direct call's 7, 8 and 9 are Solve's: its checks before them find nothing in a session that accepted commands left.
  grid_carried : 0 < t.session.views
      → Carried
      (grid_checks (marks_of t.session) (floats_of t.session t.buffer) t.session.views t.session.cameras t.session.reference)
      (grid_options own)
  unfolding input_refusal size_refusal
  grid_carried some_view =
      subst (Checked t.session.views t.session.cameras) (sym (grid_is_direct t.session t.buffer some_view))
      (subst (λ (c : ℕ). Checked t.session.views c direct) (each-counts_of t.session t.buffer some_view 0 some_view)
      (subst (λ (v : ℕ). Checked v (get_or counts 0 0) direct) (length-counts_of t.session t.buffer some_view)
      (((((((((direct_carried counts marks floats reference t.first t.second
      ).1 none_of_sizes.0).1 none_of_sizes.1.0).1 none_of_sizes.1.1.0).1 none_of_sizes.1.1.1.0).1 none_of_sizes.1.1.1.1.0
      ).1 none_of.1.0).1 none_of.1.1.0).1 none_of.1.1.1.0)))
    where
      counts : List ℕ
      counts = counts_of t.session

      marks : List ℕ
      marks = marks_of t.session

      floats : List Float
      floats = floats_of t.session t.buffer

      reference : ℕ
      reference = t.session.reference

      direct : Grid
      direct = direct_grid counts marks floats reference

      Checked : ℕ → ℕ → Grid → Type 0
      Checked v c g = Carried (grid_checks marks floats v c reference) (grid_options g)

      inputs : List (Option Refusal)
      inputs =
          size_refusal (length counts) (get_or counts 0 0) reference
          ∷ count_refusal counts
          ∷ length_refusal (length counts) (get_or counts 0 0) (length marks) (length floats) (length t.first) (length t.second)
          ∷ mark_refusal (cell_count counts) marks
          ∷ []

      none_of : AllNone inputs
      none_of =
          first_of_none_all inputs
          (inputs_pass t.session t.buffer some_view u.record_possible (length t.first) (length t.second) u.first_fits u.second_fits)

      none_of_sizes : AllNone (size_found (length counts) (get_or counts 0 0) reference)
      none_of_sizes = first_of_none_all (size_found (length counts) (get_or counts 0 0) reference) none_of.0

  pub comes_solve : Comes (solve_command_checks t stream at) (command_refusal (held_of t.session) t.buffer solve)
  unfolding grid_refusal
  comes_solve =
      subst (Comes (solve_command_checks t stream at)) (sym (solve_checks t.session t.buffer ∙ last_flat (refuse_if (not (has_size (held_of t.session))) NoSize) (grid_options own)))
      (comes_carried (solve_command_checks t stream at) (refuse_if (not (has_size (held_of t.session))) NoSize ∷ grid_options own) (
        refuse_if-plain (not (has_size (held_of t.session))) NoSize (NoSizeYet t.session) refl (no_size_yet t.session left),
        λ e.
            let different = eqb-false t.session.views 0 (not-true _ (not-false _ (refuse_if-none _ _ e))) in
            grid_carried (omega arith),
      ))
