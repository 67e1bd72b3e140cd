-- A session record as words, there and back: the session that a call leaves is one that a record's words hold (`wordable_call`), they are a
-- record again (`is_record_words_of`), and it is read back from them (`session_in_words_of`). A record that accepted commands could leave stays one
-- (`possible-call`). Assumes nothing.
use Prim.Native.Nat.{ℕ, ◌+◌, ◌<◌}
use native.Mathlib.Omega.{arith}
use mathlib.Core.Path.{◌≡◌, sym, ap, subst, ◌∙◌}
use mathlib.Core.Logic.{⊎_elim}
use mathlib.Core.Bool.{true}
use Rattle.std.specs.Prelude.{None}
use mathlib.Core.List.{List, ◌∷◌}
use lib.ListN.{length, get_or, take, drop, length-append, length-drop}
use lib.Dec.{T}
use lib.Seq.{length-take-le, take_at, take_all, drop-append-add, get_or-take, get_or-drop, get_or-append-add}
use borrow.Author.Tests.{eq-eqb, lt-ltb}
use Rattle.limits.specs.Limits.{max_cameras}
use Rattle.command.specs.Command.{Command, edit, solve, Parsed, complete, broken, unknown, parse}
use Rattle.shared_counts.specs.Summary.{entry_count}
use Rattle.lists.proofs.AllBelow.{all_below_each}
use Rattle.shared_counts.proofs.Summaries.{summary_length, summary_le}
use Rattle.session_record.specs.Session.{held_of, possible}
use Rattle.session_commands.specs.Commands.{command_refusal, session_after}
use Rattle.session_commands.specs.Obeyed.{State, Result, state_after}
use Rattle.session.specs.Call.{read, call}
use Rattle.session_commands.proofs.Obeying.{obeyed_cases}
use Rattle.session.proofs.Calling.{call_cases}
use Rattle.session_record.specs.declared.Session.{Session}
use Rattle.claims_streams.proofs.Sound.{Sound, sound_of_possible, possible_of_sound, within_limits}
use Rattle.claims_streams.proofs.Records.{sound_after}
use Rattle.claims_streams.proofs.Edits.All.{edit_law}
use Rattle.record_words.specs.Words.{shared_word, record_words, words_of, session_in, is_byte_entry, is_record}
use Rattle.record_words.proofs.Records.{is_record_words}
use Rattle.claims_exports.proofs.Details.{call_checked}

-- A session that a record's words hold: a mask for each camera, three bytes, and as many entries as a summary has, all of them bytes.
pub record Wordable (s : Session) : Type 0 where
  pub mask_each : length s.masks ≡ max_cameras
  pub views_byte : s.views < 256
  pub cameras_byte : s.cameras < 256
  pub reference_byte : s.reference < 256
  pub entry_each : length s.shared ≡ entry_count
  pub entry_bytes : (i : ℕ) → i < entry_count → get_or s.shared i 0 < 256

pub wordable_in : (words : List ℕ) → is_record words ≡ true → Wordable (session_in words)
wordable_in words e =
    let w = is_record_words words e in
    record {
      mask_each = length-take-le max_cameras words (omega (arith, w.long));
      views_byte = w.views_byte;
      cameras_byte = w.cameras_byte;
      reference_byte = w.reference_byte;
      entry_each = length-take-le entry_count (drop shared_word words) (omega (arith, w.long, length-drop shared_word words));
      entry_bytes = λ i l.
          subst (λ (n : ℕ). n < 256) (sym (get_or-take entry_count (drop shared_word words) i 0 l ∙ get_or-drop shared_word words i 0)) (w.entry_bytes i l);
    }

module _ (s : Session) (w : Wordable s) where
  -- What follows the masks.
  abbrev behind : List ℕ
  behind = s.views ∷ s.cameras ∷ s.reference ∷ s.shared

  word_past : (k : ℕ) → get_or (words_of s) (max_cameras + k) 0 ≡ get_or behind k 0
  word_past k = subst (λ (n : ℕ). get_or (words_of s) (n + k) 0 ≡ get_or behind k 0) w.mask_each (get_or-append-add s.masks behind k 0)

  words_past : drop shared_word (words_of s) ≡ s.shared
  words_past = subst (λ (n : ℕ). drop (n + 3) (words_of s) ≡ s.shared) w.mask_each (drop-append-add s.masks behind 3)

  entries_back : take entry_count (drop shared_word (words_of s)) ≡ s.shared
  entries_back = ap (take entry_count) words_past ∙ take_all entry_count s.shared (omega (arith, w.entry_each))

  entry_byte : (i : ℕ) → i < entry_count → is_byte_entry (words_of s) i ≡ true
  entry_byte i l =
      lt-ltb (get_or (words_of s) (shared_word + i) 0) 256
      (subst (λ (n : ℕ). n < 256) (ap (λ (m : List ℕ). get_or m i 0) (sym words_past) ∙ get_or-drop shared_word (words_of s) i 0) (w.entry_bytes i l))

  pub session_in_words_of : session_in (words_of s) ≡ s
  session_in_words_of = λ i.
      record {
        masks = take_at s.masks behind max_cameras w.mask_each i;
        views = word_past 0 i;
        cameras = word_past 1 i;
        reference = word_past 2 i;
        shared = entries_back i;
      }

  pub is_record_words_of : is_record (words_of s) ≡ true
  unfolding is_record
  is_record_words_of =
      rw (
        eq-eqb (length (words_of s)) record_words (length-append s.masks behind ∙ omega (arith, w.mask_each, w.entry_each)),
        word_past 0,
        word_past 1,
        word_past 2,
        lt-ltb s.views 256 w.views_byte,
        lt-ltb s.cameras 256 w.cameras_byte,
        lt-ltb s.reference 256 w.reference_byte,
        all_below_each (is_byte_entry (words_of s)) entry_count entry_byte,
      )

-- ---- the session that a call leaves

-- A sound record with its masks is held by words.
wordable_sound : (s : Session) → length s.masks ≡ max_cameras → Sound s → Wordable s
wordable_sound s mask_each sound =
    let fit = within_limits s (possible_of_sound s sound) in
    record {
      mask_each = mask_each;
      views_byte = omega (arith, fit.0);
      cameras_byte = omega (arith, fit.1);
      reference_byte = ⊎_elim (λ none_yet. omega (arith, none_yet.2)) (λ sizes. omega (arith, sizes.reference_inside, fit.1)) sound.sizes;
      entry_each = ap length sound.true_summary ∙ summary_length s.masks;
      entry_bytes = λ i l. omega (arith, ap (λ (m : List ℕ). get_or m i 0) sound.true_summary, summary_le s.masks i l);
    }

wordable_after : (t : State) → Wordable t.session → T (possible t.session) → (command : Command)
    → command_refusal (held_of t.session) t.buffer command ≡ None → Wordable (session_after t.session command)
unfolding command_refusal session_after
wordable_after t w allowed (edit change) e =
    let law = edit_law change in
    wordable_sound _ (law.masks_kept t.session ∙ w.mask_each) (law.sound_after t.session e (sound_of_possible t.session allowed))
wordable_after t w allowed solve e = w

-- What holds of a session, and of what each accepted command leaves of it, holds of what a call leaves.
module _ (P : Session → Type 0) (t : State) (here : P t.session)
    (after : T (possible t.session) → (command : Command) → command_refusal (held_of t.session) t.buffer command ≡ None
    → P (session_after t.session command)) where
  kept_read : T (possible t.session) → (stream : List ℕ) (at : ℕ) (p : Parsed) → P (read t stream at p).after.session
  unfolding read state_after
  kept_read allowed stream at (complete command width) =
      obeyed_cases t command (at + width) (λ (r : Result). P r.after.session) (λ _ _. here) (after allowed command)
  kept_read allowed stream at broken = here
  kept_read allowed stream at (unknown byte) = here

  kept_call : (stream : List ℕ) (at : ℕ) → P (call t stream at).after.session
  kept_call stream at =
      call_cases t stream at (λ (r : Result). P r.after.session) (λ _ _. here) (λ _ _. here)
      (λ e _. let (_, usable, _) = call_checked t stream at e in kept_read usable.record_possible stream at (parse stream at))

pub wordable_call : (t : State) (stream : List ℕ) (at : ℕ) → Wordable t.session → Wordable (call t stream at).after.session
wordable_call t stream at w = kept_call Wordable t w (wordable_after t w) stream at

pub possible-call : (t : State) (stream : List ℕ) (at : ℕ) → T (possible t.session) → T (possible (call t stream at).after.session)
possible-call t stream at allowed =
    kept_call (λ (s : Session). T (possible s)) t allowed
    (λ _ command e. possible_of_sound _ (sound_after t.session (sound_of_possible t.session allowed) t.buffer command e)) stream at
