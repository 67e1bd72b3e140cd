-- A text put at the front of lent memory. Assumes nothing.
use Prim.Native.Nat.{ℕ, ◌≤◌}
use native.Mathlib.Nat.{zero-add}
use native.Mathlib.Omega.{arith}
use mathlib.Core.Path.{◌≡◌, refl, sym, ◌∙◌}
use mathlib.Core.List.{List, []}
use lib.ListN.{length}
use lib.Seq.{length-take-le}
use Rattle.putting.specs.Putting.{Put, Puts}
use Rattle.putting.specs.declared.Writer.{Writer}
use Rattle.putting.proofs.Putting.{put_length}
use Rattle.listing.specs.Writing.{Front}

pub put_front : {old text new : List ℕ} {next : ℕ} → Put old 0 text new next → Front old text new next
put_front {old} {text} {new} {next} p =
    let same : next ≡ length text = omega (arith, p.behind) in
    let inside : next ≤ length new = omega (arith, p.room, put_length p) in
    record {
      text_length = same;
      text_bytes_is = p.bytes ∙ simp (zero-add, same);
      within = inside;
      taken = sym (length-take-le next new inside);
    }

pub front-nothing : (old : List ℕ) → Front old [] old 0
front-nothing old = record { text_length = refl; text_bytes_is = refl; within = omega arith; taken = refl }

-- What a new writer has put is at the front.
pub puts_front : {before after : Writer} {text : List ℕ} → Puts before text after → before.used ≡ 0 → Front before.bytes.now text after.bytes.now after.used
puts_front p new = put_front (rw new at p.put)
