-- What stands at a memory's front after a part behind it was written to. Assumes nothing.
use Rattle.std.proofs.Common.{◌≡◌, ℕ, ◌+◌, ◌≤◌, List, ◌++◌, length, take, sym, ap, ◌∙◌, length-take-le}
use Rattle.std.proofs.Math.Seq.{take-append-add, take-append-le}
use borrow.Rule.Slice.PartMut.{put_mid, post_of}

-- The front before, and the part's own first n.
pub take-put_mid_within : (at room n : ℕ) (old part : List ℕ) → at ≤ length old → n ≤ length part → take (at + n) (put_mid at room old part) ≡ take at old ++ take n part
take-put_mid_within at room n old part within fits =
    let front = length-take-le at old within in
    ap (λ m. take (m + n) (put_mid at room old part)) (sym front) ∙ take-append-add (take at old) (part ++ post_of at room old) n ∙ ap (λ l. take at old ++ l) (take-append-le n part _ fits)
