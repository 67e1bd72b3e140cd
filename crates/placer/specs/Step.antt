-- One command of a session through the library, its record in words, and what then holds. Rests on the calls of `session` and the words of `record_words`.
use Rattle.std.specs.Prelude.{ℕ, ◌≡◌, List, length, ltb, Float}
use Rattle.std.proofs.Math.Bool.{cond}
use Rattle.refusal.specs.declared.Refusal.{Refusal}
use Rattle.refusal.specs.declared.Refusal.TheVariants.{TooLong, WrongLength}
use Rattle.session_commands.specs.Obeyed.{Result, state}
use Rattle.session.specs.Call.{stopped, call, max_stream}
use Rattle.record_words.specs.Words.{words_of, session_in, is_record}
use Rattle.placer.specs.Code.{code_of_reply}

-- Words that are no record are refused with 5, as a record that no accepted commands could leave; 13 "comes before 5".
abbrev pub not_a_record : ℕ → Refusal
not_a_record streamLength = cond (ltb max_stream streamLength) TooLong WrongLength

module _ (words stream : List ℕ) (at : ℕ) (buffer first : List Float) (second : List ℕ) where
  unfoldable pub stepped : Result
  unfolding is_record call
  stepped =
      let t = state (session_in words) buffer first second in
      cond (is_record words) (call t stream at) (stopped t stream (not_a_record (length stream)))

  unfoldable pub words_after : List ℕ
  unfolding is_record stepped
  words_after = cond (is_record words) (words_of stepped.after.session) words

  -- The reply as a number, the offset of the next command, and all lent memory after the call.
  pub record Stepped (r next : ℕ) (words' : List ℕ) (buffer' first' : List Float) (second' : List ℕ) : Type 0 where
    pub reply : r ≡ code_of_reply stepped.reply
    pub next-is : next ≡ stepped.next
    pub words_after_is : words' ≡ words_after
    pub buffer_after_is : buffer' ≡ stepped.after.buffer
    pub first_after_is : first' ≡ stepped.after.first
    pub second_after_is : second' ≡ stepped.after.second
