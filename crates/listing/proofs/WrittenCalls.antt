-- What is written after a call: Solved stands for a rig that both answers hold, so that only the room decides (`written-call`).
-- Assumes nothing.
use Prim.Native.Nat.{ℕ}
use native.Mathlib.Omega.{arith}
use mathlib.Core.Path.{◌≡◌, refl, sym}
use mathlib.Core.Bool.{Bool, true, false, cond}
use mathlib.Core.List.{List, []}
use lib.ListN.{length}
use lib.Dec.{leb}
use borrow.Author.Tests.{le-leb}
use Rattle.limits.specs.Limits.{max_views, max_cameras, first_needs, second_needs}
use Rattle.session_record.specs.Session.{held_of}
use Rattle.session_commands.specs.Obeyed.{State}
use Rattle.session.specs.Call.{call}
use Rattle.session_commands.specs.Reply.{Reply}
use Rattle.session.proofs.SolvedCalls.{HoldsRig, call_solved}
use Rattle.listing.specs.Listing.{reply_text, printed_text, printed_by, listing_bytes, sized, fits, written}
use Rattle.std.specs.Prelude.{Err, Ok}
use Rattle.session_commands.specs.declared.Done.TheVariants.{Accepted, End, Solved}

cond_same {ℓ} : {A : Type ℓ} (b : Bool) (x : A) → cond b x x ≡ x
cond_same true x = refl
cond_same false x = refl

module _ (t : State) where
  sized_of_holding : HoldsRig t → sized (held_of t.session) t.first t.second ≡ true
  unfolding sized
  sized_of_holding h =
      rw (
        le-leb t.session.cameras max_cameras h.cameras_fit,
        le-leb t.session.views max_views h.views_fit,
        le-leb (first_needs t.session.cameras t.session.views) (length t.first) (omega (arith, h.cameras_fit, h.views_fit, h.first_fits)),
        le-leb (second_needs t.session.cameras) (length t.second) (omega (arith, h.cameras_fit, h.second_fits)),
      )

  -- A rig that is to be printed is there, so that the text is written wherever any listing has room.
  written_held : (reply : Reply) (room : ℕ) → (reply ≡ Ok Solved → HoldsRig t)
      → written reply (held_of t.session) t.first t.second room ≡ cond (leb listing_bytes room) (printed_text reply t) []
  unfolding written fits reply_text
  written_held (Ok End) room h = sym (cond_same (leb listing_bytes room) [])
  written_held (Ok Accepted) room h = sym (cond_same (leb listing_bytes room) [])
  written_held (Ok Solved) room h = rw (sized_of_holding (h refl))
  written_held (Err r) room h = refl

module _ (t : State) (stream : List ℕ) (at : ℕ) where
  pub written-call : (room : ℕ)
      → let r = call t stream at in
      written r.reply (held_of r.after.session) r.after.first r.after.second room
      ≡ cond (leb listing_bytes room) (printed_by r) []
  written-call room = written_held (call t stream at).after (call t stream at).reply room (call_solved t stream at)
