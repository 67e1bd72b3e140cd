-- What it means that the sizes and both answers hold a rig, and what is then written for a reply. Assumes nothing.
use Prim.Native.Nat.{ℕ, ◌≤◌}
use mathlib.Core.Path.{◌≡◌}
use mathlib.Core.Bool.{true, false}
use mathlib.Core.List.{List, []}
use lib.ListN.{length}
use lib.Dec.{leb}
use lib.Ieee.{Float}
use borrow.Author.Tests.{leb-true}
use Rattle.limits.specs.Limits.{max_views, max_cameras, first_needs, second_needs}
use Rattle.session_record.specs.declared.Held.{Held}
use Rattle.std.specs.Prelude.{Ok}
use Rattle.session_commands.specs.declared.Done.TheVariants.{Solved}
use Rattle.lists.proofs.Tests.{and-true}
use Rattle.listing.specs.Listing.{pose_fields, solved_text, reply_text, listing_bytes, sized, fits, written}

module _ (held : Held) (first : List Float) (second : List ℕ) where
  pub record Bounded : Type 0 where
    pub cameras_fit : held.cameras ≤ max_cameras
    pub views_fit : held.views ≤ max_views
    pub first_holds : first_needs held.cameras held.views ≤ length first
    pub second_holds : second_needs held.cameras ≤ length second

  pub sized_bounded : sized held first second ≡ true → Bounded
  unfolding sized
  sized_bounded e =
      let (e₃, fourth) = and-true _ _ e in
      let (e₂, third) = and-true _ _ e₃ in
      let (one, two) = and-true _ _ e₂ in
      record {
        cameras_fit = leb-true _ _ one;
        views_fit = leb-true _ _ two;
        first_holds = leb-true _ _ third;
        second_holds = leb-true _ _ fourth;
      }

  module _ (room : ℕ) where
    pub written_unsized : sized held first second ≡ false → written (Ok Solved) held first second room ≡ []
    unfolding written fits
    written_unsized e = rw e

    pub written_no_room : sized held first second ≡ true → leb listing_bytes room ≡ false → written (Ok Solved) held first second room ≡ []
    unfolding written fits
    written_no_room e f = rw (e, f)

    pub written_solved : sized held first second ≡ true → leb listing_bytes room ≡ true
        → written (Ok Solved) held first second room ≡ solved_text pose_fields held first second
    unfolding written fits reply_text
    written_solved e f = rw (e, f)
