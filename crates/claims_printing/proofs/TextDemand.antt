-- The whole-stream entry refuses its text as demanded (`text_demand`), whatever the state, the stream and the offset: from what its contract ensures.
-- Assumes nothing.
use Prim.Native.Nat.{ℕ, ◌≤◌, ◌<◌}
use native.Mathlib.Decide.{dec_le}
use native.Mathlib.Omega.{arith}
use mathlib.Core.Path.{◌≡◌, refl, sym, ap, ◌∙◌, subst}
use mathlib.Core.Logic.{◌↔◌}
use mathlib.Core.Bool.{true, ◌&&◌}
use Rattle.std.specs.Prelude.{Option, None, Some}
use mathlib.Core.List.{List, [], ◌∷◌}
use lib.ListN.{length}
use lib.Dec.{ltb}
use lib.Ieee.{Float}
use borrow.Author.Tests.{ltb-true, lt-ltb, le-ltb}
use Rattle.refusal.specs.Table.{refuse_if, first_of}
use Rattle.refusal.specs.declared.Refusal.{Refusal}
use Rattle.refusal.specs.declared.Refusal.TheVariants.{TooLong, WrongLength}
use Rattle.inputs.specs.Inputs.{checked_of}
use Rattle.inputs.specs.Inputs.{Checked}
use Rattle.claims_direct.specs.Deciding.{Decides}
use Rattle.claims_direct.proofs.Deciding.{Finds, decides_first_of}
use Rattle.claims_direct.proofs.Carrying.{refuse_if-plain}
use Rattle.lists.proofs.Tests.{and-true}
use Rattle.session_commands.specs.Obeyed.{State}
use Rattle.session.specs.Call.{max_stream}
use Rattle.listing.specs.Listing.{listing_bytes}
use Rattle.stream_text.specs.declared.StreamText.{StreamText}
use Rattle.stream_text.specs.StreamText.{part, text_refusal, Leaves, ObeyedInto}
use Rattle.stream_text.proofs.Parts.{text_refusal-short, text_refusal-holds, part_in-short, leaves_same}
use Rattle.claims_printing.specs.TextDemand.{TooShort, text_checks, RefusedWith, NothingObeyed, TextDemand}
use Rattle.std.specs.Prelude.{Ok}

-- ---- the checks in words, and what is computed

abbrev computed_checks : List ℕ → List ℕ → List (Option Refusal)
computed_checks stream text =
    refuse_if (ltb (length text) listing_bytes && ltb max_stream (length stream)) TooLong ∷ refuse_if (ltb (length text) listing_bytes) WrongLength ∷ []

text_refusal_checks : (t : State) (stream text : List ℕ) (at : ℕ) → text_refusal stream (length text) ≡ first_of (computed_checks stream text)
unfolding first_of refuse_if
text_refusal_checks t stream text at = go (dec_le listing_bytes (length text)) (dec_le (length stream) max_stream)
  where
    go : Dec (listing_bytes ≤ length text) → Dec (length stream ≤ max_stream) → text_refusal stream (length text) ≡ first_of (computed_checks stream text)
    go (yes h) d = text_refusal-holds t stream at (length text) h ∙ rw (le-ltb (length text) listing_bytes h) refl
    go (no h) (yes k) = text_refusal-short t stream at (length text) (omega arith) ∙ rw (lt-ltb (length text) listing_bytes (omega arith), le-ltb max_stream (length stream) k) refl
    go (no h) (no k) = text_refusal-short t stream at (length text) (omega arith) ∙ rw (lt-ltb (length text) listing_bytes (omega arith), lt-ltb max_stream (length stream) (omega arith)) refl

both_words : (stream text : List ℕ) → (ltb (length text) listing_bytes && ltb max_stream (length stream) ≡ true) ↔ (TooShort text × (max_stream < length stream))
both_words stream text = (
  λ e. let (short, long) = and-true (ltb (length text) listing_bytes) (ltb max_stream (length stream)) e in (ltb-true _ _ short, ltb-true _ _ long),
  λ w. rw (lt-ltb (length text) listing_bytes w.0) (lt-ltb max_stream (length stream) w.1),
)

decided : (t : State) (stream text : List ℕ) (at n d : ℕ) → Decides (text_checks stream text) n d ↔ Finds (text_refusal stream (length text)) n d
decided t stream text at n d =
    subst (λ (o : Option Refusal). Decides (text_checks stream text) n d ↔ Finds o n d) (sym (text_refusal_checks t stream text at))
    (decides_first_of (text_checks stream text) (computed_checks stream text) (
      refuse_if-plain (ltb (length text) listing_bytes && ltb max_stream (length stream)) TooLong (TooShort text × (max_stream < length stream)) refl (both_words stream text),
      λ e. (refuse_if-plain (ltb (length text) listing_bytes) WrongLength (TooShort text) refl (ltb-true _ _, lt-ltb _ _), λ f. tt),
    ) n d)

-- ---- the answer

refused_found : (o : Option Refusal) (n d : ℕ) → RefusedWith (checked_of o) n d ↔ Finds o n d
unfolding checked_of
refused_found None n d = (
  λ (q, e, number, detail). absurd (let clash : ◌≡◌ {A = ℕ} 0 1 = cc in omega arith),
  λ (q, e, number, detail). absurd (let clash : ◌≡◌ {A = ℕ} 0 1 = cc in omega arith),
)
refused_found (Some r) n d = (
  λ (q, e, number, detail). (q, cc, number, detail),
  λ (q, e, number, detail). (q, cc, number, detail),
)

passed_is : checked_of None ≡ Ok tt
unfolding checked_of
passed_is = refl

passed_none : (o : Option Refusal) → checked_of o ≡ Ok tt → o ≡ None
unfolding checked_of
passed_none None e = refl
passed_none (Some r) e = cc

module _ {t : State} {stream : List ℕ} {at : ℕ} {answer : StreamText} {buffer first : List Float} {second old new : List ℕ} (obeyed : ObeyedInto t stream at answer buffer first second old new) where
  short : (n d : ℕ) → RefusedWith answer.refused n d → length old < listing_bytes
  short n d refused = go (dec_le listing_bytes (length old))
    where
      go : Dec (listing_bytes ≤ length old) → length old < listing_bytes
      go (no h) = omega arith
      go (yes h) =
          let found = (refused_found (text_refusal stream (length old)) n d).0 (subst (λ (c : Checked). RefusedWith c n d) obeyed.refused refused) in
          absurd (let same = found.1 in let passes = text_refusal-holds t stream at (length old) h in let clash : ◌≡◌ {A = ℕ} 0 1 = cc in omega arith)

  nothing : length old < listing_bytes → NothingObeyed t stream answer buffer first second old new
  nothing h =
      let l : Leaves (part t (length stream) []) answer buffer first second old new = leaves_same (part_in-short t stream at (length old) h) obeyed.leaves in
      let none_put : answer.length ≡ 0 = l.front.text_length in
      record {
        same_session = l.session;
        same_buffer = l.buffer_after_is;
        same_first = l.first_after_is;
        same_second = l.second_after_is;
        same_text = rw none_put at l.front.text_bytes_is;
        next_at_end = l.next;
        none_in_use = none_put;
      }

  pub text_demand : TextDemand t stream answer buffer first second old new
  text_demand =
      record {
        refused_exactly = λ n d. (
          λ refused. (decided t stream old at n d).1 ((refused_found _ n d).0 (subst (λ (c : Checked). RefusedWith c n d) obeyed.refused refused)),
          λ decides. subst (λ (c : Checked). RefusedWith c n d) (sym obeyed.refused) ((refused_found _ n d).1 ((decided t stream old at n d).0 decides)),
        );
        passed_exactly = (passes_held, λ h. obeyed.refused ∙ ap checked_of (text_refusal-holds t stream at (length old) h) ∙ passed_is);
        refusal_changes_nothing = λ n d refused. nothing (short n d refused);
      }
    where
      passes_held : answer.refused ≡ Ok tt → listing_bytes ≤ length old
      passes_held e = go (dec_le listing_bytes (length old))
        where
          go : Dec (listing_bytes ≤ length old) → listing_bytes ≤ length old
          go (yes h) = h
          go (no h) =
              let passes = passed_none _ (sym obeyed.refused ∙ e) in
              let refuses = text_refusal-short t stream at (length old) (omega arith) in
              absurd (let clash : ◌≡◌ {A = ℕ} 0 1 = cc in omega arith)
