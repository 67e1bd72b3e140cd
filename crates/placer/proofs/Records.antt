-- Words that a record is read from are one, and the words that a call leaves are those of the session after it. Assumes nothing.
use Prim.Native.Nat.{ℕ}
use native.Mathlib.Omega.{arith}
use mathlib.Core.Path.{◌≡◌, refl, sym, ap, ◌∙◌}
use mathlib.Core.Bool.{Bool, true, false, cond}
use mathlib.Core.List.{List}
use lib.ListN.{length}
use Rattle.session_record.specs.declared.Session.{Session}
use Rattle.session_commands.specs.Reply.{Reply}
use Rattle.record_words.proofs.Records.{is_record_words}
use Rattle.record_words.specs.Words.{record_words, words_of, session_in, is_record, record_in}
use Rattle.placer.specs.Inner.Records.{words_kept}
use Rattle.std.specs.Prelude.{Option, None, Some, Err, Ok}
use Rattle.session_commands.specs.declared.Done.TheVariants.{Accepted, End, Solved}

none_read : (b : Bool) (s : Session) → ◌≡◌ {A = Option Session} (cond b (Some s) None) None → b ≡ false
none_read true s e = let z : ◌≡◌ {A = ℕ} 0 1 = cc in absurd (omega arith)
none_read false s e = refl

some_read : (b : Bool) (s t : Session) → ◌≡◌ {A = Option Session} (cond b (Some s) None) (Some t) → (b ≡ true) × (t ≡ s)
some_read true s t e = (refl, cc)
some_read false s t e = let z : ◌≡◌ {A = ℕ} 0 1 = cc in absurd (omega arith)

module _ (words : List ℕ) where
  pub no_record_read : record_in words ≡ None → is_record words ≡ false
  unfolding record_in
  no_record_read e = none_read (is_record words) (session_in words) e

  pub record_read : (s : Session) → record_in words ≡ Some s → (is_record words ≡ true) × (s ≡ session_in words)
  unfolding record_in
  record_read s e = some_read (is_record words) (session_in words) s e

-- As many words as a record has.
pub long_read : (words : List ℕ) (s : Session) → record_in words ≡ Some s → length words ≡ record_words
long_read words s e = (is_record_words words (record_read words s e).0).long

-- Where nothing but an accepted command changes a session, the words that are kept are those of the session after the call.
pub words_kept_words_of : (reply : Reply) (before after : Session) (words : List ℕ) → words_of before ≡ words
    → ((reply ≡ Ok Accepted → ⊥) → after ≡ before) → words_kept reply after words ≡ words_of after
unfolding words_kept
words_kept_words_of (Ok End) before after words e kept = sym (ap words_of (kept (λ h. let z : ◌≡◌ {A = ℕ} 0 1 = cc in omega arith)) ∙ e)
words_kept_words_of (Ok Accepted) before after words e kept = refl
words_kept_words_of (Ok Solved) before after words e kept = sym (ap words_of (kept (λ h. let z : ◌≡◌ {A = ℕ} 0 1 = cc in omega arith)) ∙ e)
words_kept_words_of (Err r) before after words e kept = sym (ap words_of (kept (λ h. let z : ◌≡◌ {A = ℕ} 0 1 = cc in omega arith)) ∙ e)
