-- What `placer_shared` replies, in words, by document 02, change 2: "A new library query gives the entry for two camera bytes; a camera with itself counts its
-- own poses." "Refusal 12 for a camera outside the sizes, after 5 and 21; detail is first camera × 256 + second." A record is 275 words, as include/placer.h has it:
-- 16 masks, the views, the cameras, the reference, and from word 19 on the entries, row by row; places are written as numbers here. Rests on the replies of `placer`.
use Rattle.std.specs.Prelude.{ℕ, ◌+◌, ◌*◌, ◌^◌, ◌≤◌, ◌<◌, ◌≡◌, ◌≢◌, ◌⊎◌, true, ◌&&◌, List, length, get_or, Float}
use Rattle.lists.specs.Finding.{count}
use Rattle.lists.specs.Masks.{in_mask}
use Rattle.session_commands.specs.Commands.{Left}
use Rattle.shared_query.specs.Query.{shared_answer}
use Rattle.record_words.specs.Words.{session_in, is_record}
use Rattle.placer.specs.Step.{Stepped}
use Rattle.placer.specs.Reading.{shared_in}
use Rattle.claims_exports.specs.Steps.{fresh_words}

module _ (words : List ℕ) (a b r : ℕ) where
  -- On the words of a record that accepted commands could leave: the reply is the number of views whose bits are set in both cameras' masks.
  pub record SharedOfPossible : Type 0 where
    pub without_size : get_or words 16 0 ≡ 0 → r ≡ 21 * 2 ^ 32
    pub outside : 0 < get_or words 16 0 → (get_or words 17 0 ≤ a) ⊎ (get_or words 17 0 ≤ b) → r ≡ 12 * 2 ^ 32 + (a * 256 + b)
    pub counted : 0 < get_or words 16 0 → a < get_or words 17 0 → b < get_or words 17 0
        → (r ≡ count (λ v. in_mask (get_or words a 0) v && in_mask (get_or words b 0) v) 64) × (r ≤ 64)

  -- On any words: 5 for another number of them, for a size, reference or entry that is no byte, for a false entry, one outside the sizes too, and for any
  -- other record that no accepted commands leave.
  pub record SharedReplies : Type 0 where
    pub wrong_length : length words ≢ 275 → r ≡ 5 * 2 ^ 32
    pub large_word : (i : ℕ) → 16 ≤ i → i < 275 → 256 ≤ get_or words i 0 → r ≡ 5 * 2 ^ 32
    pub false_word : (x y : ℕ) → x < 16 → y < 16
        → get_or words (19 + (16 * x + y)) 0 ≢ count (λ v. in_mask (get_or words x 0) v && in_mask (get_or words y 0) v) 64 → r ≡ 5 * 2 ^ 32
    pub never_left : (Left (session_in words) → ⊥) → r ≡ 5 * 2 ^ 32
    pub record_left : is_record words ≡ true → Left (session_in words) → SharedOfPossible
    pub read_back : is_record words ≡ true → shared_in r ≡ shared_answer (session_in words) a b

-- The words that calls of `placer_step` leave, from a fresh session's zeros, whatever else they are lent.
pub data LeftBySteps : List ℕ → Type 0 where
  no_step : LeftBySteps fresh_words
  a_step : {words stream : List ℕ} {at : ℕ} {buffer first : List Float} {second : List ℕ} {r next : ℕ} {words' : List ℕ} {buffer' first' : List Float}
      {second' : List ℕ} → LeftBySteps words → Stepped words stream at buffer first second r next words' buffer' first' second' → LeftBySteps words'
