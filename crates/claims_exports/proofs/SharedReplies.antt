-- What `placer_shared` replies is what the words say (`shared_replies`); and on words that calls of `placer_step` left, it is the number of views that the
-- masks share, or what they refuse (`shared-after-steps`). Assumes nothing.
use Prim.Native.Nat.{ℕ, ◌+◌, ◌-◌, ◌*◌, ◌^◌, ◌≤◌, ◌<◌}
use native.Mathlib.Decide.{dec_lt, ℕ_discrete}
use native.Mathlib.Omega.{arith}
use mathlib.Core.Path.{◌≡◌, refl, sym, ap, ap₂, subst, ◌∙◌}
use mathlib.Core.Logic.{◌⊎◌, inl, inr, ⊎_elim}
use mathlib.Core.Bool.{Bool, true, false, not, ◌&&◌, ◌||◌, or-true}
use Rattle.std.specs.Prelude.{Option, None, Some}
use mathlib.Core.List.{List, [], ◌∷◌}
use lib.ListN.{length, get_or, drop}
use lib.Dec.{T, leb}
use lib.Seq.{get_or-take, get_or-drop}
use borrow.Author.Tests.{le-leb, lt-leb}
use Rattle.refusal.specs.Table.{refuse_if}
use Rattle.refusal.specs.declared.Refusal.{Refusal}
use Rattle.refusal.specs.declared.Refusal.TheVariants.{WrongLength, NoSize, OutsideRig}
use Rattle.limits.specs.Limits.{max_cameras}
use Rattle.lists.specs.Finding.{count}
use Rattle.lists.specs.Masks.{in_mask}
use Rattle.inputs.proofs.InTurn.{ShortDetail, Small, if_first_of, if_refuse_if}
use Rattle.chains.specs.Masks.{views_of_both, shared_by}
use Rattle.shared_counts.specs.Summary.{entry_place}
use Rattle.shared_counts.proofs.SharedViews.{shared_by-le}
use Rattle.shared_counts.proofs.Summaries.{summary_at}
use Rattle.session_record.specs.Session.{fresh, held_of, has_size, possible}
use Rattle.session_record.specs.declared.Session.{Session}
use Rattle.shared_query.specs.Query.{query_refusal, shared_answer}
use Rattle.shared_query.proofs.Queries.{query_impossible, query_without_size, query_outside, query_passes, query_passed, answer-refused, answer-counted}
use Rattle.claims_streams.proofs.Sound.{T_true, true_T, sound_of_possible, possible_of_sound, sound_fresh}
use Rattle.claims_streams.proofs.Records.{possible-left}
use Rattle.record_words.specs.Words.{session_in, is_record}
use Rattle.record_words.specs.Inner.Readable.{ReadableWords}
use Rattle.record_words.proofs.Records.{is_record_words}
use Rattle.placer.specs.Code.{code_of, code_of_shared}
use Rattle.placer.specs.Exports.{shared_reply}
use Rattle.placer.specs.Reading.{shared_in}
use Rattle.placer.proofs.Reading.{SmallShared, shared_in-code_of_shared}
use Rattle.placer.proofs.Replies.{shared_reply_no_record, shared_reply_record}
use Rattle.claims_exports.specs.InHand.{state_in}
use Rattle.claims_exports.specs.SharedReplies.{SharedOfPossible, SharedReplies, LeftBySteps, no_step, a_step}
use Rattle.claims_exports.proofs.Records.{wordable_in, possible-call}
use Rattle.claims_exports.proofs.Answers.{record_again, session_again}

-- ---- the answer to a session

module _ (s : Session) (a b : ℕ) where
  -- An entry is the number of views that both masks hold.
  entry-counts : possible s ≡ true → a < 16 → b < 16 → get_or s.shared (entry_place a b) 0 ≡ shared_by s.masks a b
  entry-counts p h l =
      ap (λ (m : List ℕ). get_or m (entry_place a b) 0) (sound_of_possible s (true_T _ p)).true_summary ∙ summary_at s.masks a b h l

  refused_code : (q : Refusal) → query_refusal s a b ≡ Some q → code_of_shared (shared_answer s a b) ≡ code_of q
  unfolding code_of_shared
  refused_code q e = ap code_of_shared (answer-refused s a b q e)

  counted_code : query_refusal s a b ≡ None → code_of_shared (shared_answer s a b) ≡ shared_by s.masks a b
  unfolding code_of_shared
  counted_code e =
      let passed = query_passed s a b e in
      ap code_of_shared (answer-counted s a b e) ∙ entry-counts passed.record_possible passed.first_small passed.second_small

  -- Counts and details have no more than 32 bits.
  small_refusal : a < 256 → b < 256 → Small (query_refusal s a b)
  unfolding query_refusal
  small_refusal h l =
      if_first_of ShortDetail
      (refuse_if (not (possible s)) WrongLength
      ∷ refuse_if (not (has_size (held_of s))) NoSize
      ∷ refuse_if (leb s.cameras a || leb s.cameras b) (OutsideRig (a * 256 + b))
      ∷ []) (
        if_refuse_if ShortDetail (not (possible s)) WrongLength (omega arith),
        λ e. (
          if_refuse_if ShortDetail (not (has_size (held_of s))) NoSize (omega arith),
          λ e. (if_refuse_if ShortDetail (leb s.cameras a || leb s.cameras b) (OutsideRig (a * 256 + b)) (omega arith), λ e. tt),
        ),
      )

  small_answer : a < 256 → b < 256 → SmallShared (shared_answer s a b)
  small_answer h l = go (query_refusal s a b) refl (small_refusal h l)
    where
      go : (o : Option Refusal) → query_refusal s a b ≡ o → Small (query_refusal s a b) → SmallShared (shared_answer s a b)
      go None e small =
          let passed = query_passed s a b e in
          let counts = entry-counts passed.record_possible passed.first_small passed.second_small in
          subst SmallShared (sym (answer-counted s a b e)) (omega (arith, counts, shared_by-le s.masks a b))
      go (Some q) e small = subst SmallShared (sym (answer-refused s a b q e)) (subst Small e small)

-- ---- the reply

one_of_three : (i : ℕ) → 16 ≤ i → i < 19 → (i ≡ 16) ⊎ ((i ≡ 17) ⊎ (i ≡ 18))
one_of_three i h l = go (ℕ_discrete i 16) (ℕ_discrete i 17)
  where
    go : Dec (i ≡ 16) → Dec (i ≡ 17) → (i ≡ 16) ⊎ ((i ≡ 17) ⊎ (i ≡ 18))
    go (yes e) second = inl e
    go (no e) (yes f) = inr (inl f)
    go (no e) (no f) = inr (inr (omega arith))

either_outside : (cameras a b : ℕ) → (cameras ≤ a) ⊎ (cameras ≤ b) → leb cameras a || leb cameras b ≡ true
either_outside cameras a b (inl h) = rw (le-leb cameras a h)
either_outside cameras a b (inr h) = rw (le-leb cameras b h) (or-true (leb cameras a))

module _ (words : List ℕ) (a b r : ℕ) (reply : r ≡ shared_reply words a b) where
  abbrev s : Session
  s = session_in words

  module _ (e : is_record words ≡ true) where
    code_is : r ≡ code_of_shared (shared_answer s a b)
    code_is = reply ∙ shared_reply_record words a b e

    module _ (p : possible (session_in words) ≡ true) where
      counts : 0 < s.views → a < s.cameras → b < s.cameras → (r ≡ count (λ v. in_mask (get_or words a 0) v && in_mask (get_or words b 0) v) 64) × (r ≤ 64)
      unfolding shared_by views_of_both
      counts h in_a in_b =
          let passes = query_passes s a b p (λ e. omega arith) (rw (lt-leb s.cameras a in_a, lt-leb s.cameras b in_b)) in
          let passed = query_passed s a b passes in
          let both = code_is ∙ counted_code s a b passes in (
            both ∙ ap₂ views_of_both (get_or-take max_cameras words a 0 passed.first_small) (get_or-take max_cameras words b 0 passed.second_small),
            omega (arith, both, shared_by-le s.masks a b),
          )

      of_possible : SharedOfPossible words a b r
      of_possible =
          record {
            without_size = λ e. code_is ∙ refused_code s a b NoSize (query_without_size s a b p e);
            outside = λ h either.
                code_is
                ∙ refused_code s a b (OutsideRig (a * 256 + b)) (query_outside s a b p (λ e. omega arith) (either_outside s.cameras a b either));
            counted = counts;
          }

  -- Where a record's words can't be such, they are none.
  refused_unless : (is_record words ≡ true → possible s ≡ true → ⊥) → r ≡ 5 * 2 ^ 32
  refused_unless never = go (is_record words) refl (possible s) refl
    where
      go : (x : Bool) → is_record words ≡ x → (y : Bool) → possible s ≡ y → r ≡ 5 * 2 ^ 32
      go false e y f = reply ∙ shared_reply_no_record words a b e
      go true e false f = code_is e ∙ refused_code s a b WrongLength (query_impossible s a b f)
      go true e true f = absurd (never e f)

  sixteen : is_record words ≡ true → length s.masks ≡ 16
  sixteen e = (wordable_in words e).mask_each

  -- The entry of x and y among the words.
  entry_word : (x y : ℕ) → x < 16 → y < 16 → get_or s.shared (entry_place x y) 0 ≡ get_or words (19 + (16 * x + y)) 0
  entry_word x y h l =
      let place : 19 + (x * 16 + y) ≡ 19 + (16 * x + y) = omega arith in
      get_or-take 256 (drop 19 words) (entry_place x y) 0 (omega arith) ∙ get_or-drop 19 words (entry_place x y) 0 ∙ ap (λ (i : ℕ). get_or words i 0) place

  both_words : (x y : ℕ) → x < 16 → y < 16 → shared_by s.masks x y ≡ count (λ v. in_mask (get_or words x 0) v && in_mask (get_or words y 0) v) 64
  unfolding shared_by views_of_both
  both_words x y h l = ap₂ views_of_both (get_or-take max_cameras words x 0 h) (get_or-take max_cameras words y 0 l)

  byte_word : is_record words ≡ true → (i : ℕ) → 16 ≤ i → i < 275 → get_or words i 0 < 256
  byte_word e i h l = go (dec_lt i 19)
    where
      w : ReadableWords words
      w = is_record_words words e

      at : (j : ℕ) → j ≡ i → get_or words j 0 < 256 → get_or words i 0 < 256
      at j same small = subst (λ (k : ℕ). get_or words k 0 < 256) same small

      go : Dec (i < 19) → get_or words i 0 < 256
      go (yes k) =
          ⊎_elim (λ e. at 16 (sym e) w.views_byte) (⊎_elim (λ e. at 17 (sym e) w.cameras_byte) (λ e. at 18 (sym e) w.reference_byte))
          (one_of_three i h k)
      go (no k) = let place : 19 + (i - 19) ≡ i = omega arith in subst (λ (j : ℕ). get_or words j 0 < 256) place (w.entry_bytes (i - 19) (omega arith))

  pub shared_replies : a < 256 → b < 256 → SharedReplies words a b r
  shared_replies h l =
      record {
        wrong_length = λ other. refused_unless (λ e p. other (is_record_words words e).long);
        large_word = λ i x y large. refused_unless (λ e p. omega (arith, byte_word e i x y));
        false_word = λ x y k m other. refused_unless (λ e p. other (sym (entry_word x y k m) ∙ entry-counts s x y p k m ∙ both_words x y k m));
        never_left = λ never. refused_unless (λ e p. never ((possible-left s (sixteen e)).0 (true_T _ p)));
        record_left = λ e left. of_possible e (T_true _ ((possible-left s (sixteen e)).1 left));
        read_back = λ e. ap shared_in (code_is e) ∙ shared_in-code_of_shared (shared_answer s a b) (small_answer s a b h l);
      }

-- ---- after steps

left-possible : {words : List ℕ} → LeftBySteps words → (is_record words ≡ true) × T (possible (session_in words))
unfolding is_record
left-possible no_step = (refl, possible_of_sound fresh sound_fresh)
left-possible (a_step {words} {stream} {at} {buffer} {first} {second} {r} {next} {words'} {buffer'} {first'} {second'} steps step) =
    let (a-record, allowed) = left-possible steps in (
      record_again words stream at buffer first second r next words' buffer' first' second' a-record step,
      subst (λ (s : Session). T (possible s))
          (sym (session_again words stream at buffer first second r next words' buffer' first' second' a-record step))
          (possible-call (state_in words buffer first second) stream at allowed),
    )

pub shared-after-steps : {words : List ℕ} → LeftBySteps words → (a b r : ℕ) → r ≡ shared_reply words a b → SharedOfPossible words a b r
shared-after-steps {words} steps a b r reply =
    let left = left-possible steps in
    of_possible words a b r reply left.0 (T_true _ left.1)
