-- What one command through the library leaves, from what the call of the session leaves. Assumes nothing.
use Prim.Native.Nat.{ℕ}
use mathlib.Core.Path.{◌≡◌, sym, ap, ◌∙◌}
use mathlib.Core.Bool.{true, false, cond}
use mathlib.Core.List.{List}
use lib.ListN.{length}
use lib.Ieee.{Float}
use Rattle.session_commands.specs.Obeyed.{Result, state}
use Rattle.session.specs.Call.{stopped, call, Called}
use Rattle.session_record.specs.declared.Session.{Session}
use Rattle.session.specs.declared.Step.{Step}
use Rattle.session.proofs.KeptSessions.{call_keeps_session}
use Rattle.std.specs.Prelude.{None, Some}
use Rattle.record_words.specs.Words.{words_of, session_in, is_record, record_in}
use Rattle.record_words.proofs.Records.{is_record_words, words_of_session_in}
use Rattle.placer.specs.Code.{code_of, code_of_reply}
use Rattle.placer.specs.Step.{not_a_record, stepped, words_after, Stepped}
use Rattle.placer.specs.Inner.Records.{words_kept}
use Rattle.placer.proofs.Records.{no_record_read, record_read, words_kept_words_of}

module _ (words stream : List ℕ) (at : ℕ) (buffer first : List Float) (second : List ℕ) where
  pub stepped-not : is_record words ≡ false
      → stepped words stream at buffer first second ≡ stopped (state (session_in words) buffer first second) stream (not_a_record (length stream))
  unfolding stepped
  stepped-not e = rw e

  pub stepped_refused : record_in words ≡ None → {r : ℕ} → r ≡ code_of (not_a_record (length stream))
      → Stepped words stream at buffer first second r (length stream) words buffer first second
  unfolding words_after code_of_reply
  stepped_refused read {r} f =
      let e = no_record_read words read in
      let s = sym (stepped-not e) in
      record {
        reply = f ∙ ap (λ (x : Result). code_of_reply x.reply) s;
        next-is = ap (λ (x : Result). x.next) s;
        words_after_is = sym (ap (λ b. cond b (words_of (stepped words stream at buffer first second).after.session) words) e);
        buffer_after_is = ap (λ (x : Result). x.after.buffer) s;
        first_after_is = ap (λ (x : Result). x.after.first) s;
        second_after_is = ap (λ (x : Result). x.after.second) s;
      }

  pub stepped-call : is_record words ≡ true → (s : Session) → s ≡ session_in words
      → stepped words stream at buffer first second ≡ call (state s buffer first second) stream at
  unfolding stepped
  stepped-call e s f = rw (e, f)

  module _ (s : Session) (read : record_in words ≡ Some s) {step : Step} {buffer' first' : List Float} {second' : List ℕ}
      (called : Called (state s buffer first second) stream at step buffer' first' second') where
    -- Words that are left as they were are those of the session after the call: nothing but an accepted command changes it.
    words_kept_is : words_kept step.reply step.session words ≡ words_of step.session
    words_kept_is =
        let h = record_read words s read in
        words_kept_words_of step.reply s step.session words (ap words_of h.1 ∙ words_of_session_in words (is_record_words words h.0).long)
        (λ other. called.session ∙ call_keeps_session (state s buffer first second) stream at (λ accepted. other (called.reply ∙ accepted)))

    -- The memory as it is where it is given back.
    pub stepped_obeyed : {words' : List ℕ} → words' ≡ words_kept step.reply step.session words → {r : ℕ} → r ≡ code_of_reply step.reply
        → {buffer'' : List Float} → buffer'' ≡ buffer' → {first'' : List Float} → first'' ≡ first' → {second'' : List ℕ} → second'' ≡ second'
        → Stepped words stream at buffer first second r step.next words' buffer'' first'' second''
    unfolding words_after
    stepped_obeyed f g b i k =
        let h = record_read words s read in
        let c = sym (stepped-call h.0 s h.1) in
        record {
          reply = g ∙ ap code_of_reply called.reply ∙ ap (λ (x : Result). code_of_reply x.reply) c;
          next-is = called.next ∙ ap (λ (x : Result). x.next) c;
          words_after_is =
              f ∙ words_kept_is ∙ ap words_of (called.session ∙ ap (λ (x : Result). x.after.session) c)
              ∙ sym (ap (λ b. cond b (words_of (stepped words stream at buffer first second).after.session) words) h.0);
          buffer_after_is = b ∙ called.buffer_after_is ∙ ap (λ (x : Result). x.after.buffer) c;
          first_after_is = i ∙ called.first_after_is ∙ ap (λ (x : Result). x.after.first) c;
          second_after_is = k ∙ called.second_after_is ∙ ap (λ (x : Result). x.after.second) c;
        }
