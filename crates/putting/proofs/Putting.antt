-- Laws of bytes put into lent memory, and by a writer: nothing, one text behind another, and all that a memory holds. Assumes nothing.
use Prim.Native.Nat.{ℕ, ◌+◌, ◌≤◌}
use native.Mathlib.Nat.{add_assoc}
use native.Mathlib.Numerals.{add-one}
use native.Mathlib.Omega.{arith}
use mathlib.Core.Path.{◌≡◌, refl, sym, ap, ◌∙◌}
use mathlib.Core.List.{List, [], ◌++◌, append_assoc, append-nil}
use lib.ListN.{length, take, drop, length-append, length-take, length-drop}
use lib.Seq.{drop-length, take_at, drop_at, drop-drop, paste-zero}
use Rattle.lists.specs.Lists.{gather}
use Rattle.putting.specs.Putting.{Put, Puts}
use Rattle.putting.specs.declared.Writer.{Writer}

-- ---- in lent memory

pub put_nothing : (old : List ℕ) (at : ℕ) → at ≤ length old → Put old at [] old at
put_nothing old at h = record { room = omega arith; bytes = paste-zero old at [] ∙ append_assoc (take at old) [] (drop (at + 0) old); behind = omega arith }

pub put_length : {old text new : List ℕ} {at next : ℕ} → Put old at text new next → length new ≡ length old
put_length {old} {text} {new} {at} p = ap length p.bytes ∙ simp (length-append, length-take, length-drop) (omega (arith, p.room))

-- One text behind another.
pub put_then : {old x mid y new : List ℕ} {at middle next : ℕ} → Put old at x mid middle → Put mid middle y new next → Put old at (x ++ y) new next
put_then {old} {x} {mid} {y} {new} {at} {middle} {next} p q =
    record {
      room = simp length-append (omega (arith, q.room, p.behind, put_length p));
      bytes =
          q.bytes
          ∙ simp (
            p.behind,
            front,
            ← drop-drop (length y) (at + length x) mid,
            rest,
            drop-drop,
            length-append,
            append_assoc,
            add_assoc,
          );
      behind = simp length-append (omega (arith, p.behind, q.behind));
    }
  where
    apart : mid ≡ (take at old ++ x) ++ drop (at + length x) old
    apart = p.bytes ∙ sym (append_assoc (take at old) x (drop (at + length x) old))

    length_front : length (take at old ++ x) ≡ at + length x
    length_front = simp (length-append, length-take) (omega (arith, p.room))

    front : take (at + length x) mid ≡ take at old ++ x
    front = ap (take (at + length x)) apart ∙ take_at (take at old ++ x) (drop (at + length x) old) (at + length x) length_front

    rest : drop (at + length x) mid ≡ drop (at + length x) old
    rest = ap (drop (at + length x)) apart ∙ drop_at (take at old ++ x) (drop (at + length x) old) (at + length x) length_front

-- One block more of those that `gather` puts one after the other.
pub put_next : {old mid new : List ℕ} {at middle next : ℕ} (f : ℕ → List ℕ) (n : ℕ) → Put old at (gather n f) mid middle → Put mid middle (f n) new next
    → Put old at (gather (n + 1) f) new next
unfolding gather
put_next f n p q = rw add-one (put_then p q)

-- What fills the whole memory is all that it holds.
pub put_whole : {old text new : List ℕ} {next : ℕ} → Put old 0 text new next → next ≡ length old → new ≡ text
put_whole {old} {text} {new} {next} p all =
    let full : 0 + length text ≡ length old = omega (arith, p.behind) in
    p.bytes ∙ ap (λ (n : ℕ). text ++ drop n old) full ∙ ap (λ (l : List ℕ). text ++ l) (drop-length old) ∙ append-nil text

-- ---- by a writer

pub puts_nothing : (writer : Writer) → Puts writer [] writer
puts_nothing writer = record { put = put_nothing writer.bytes.now writer.used writer.within; same_reference = refl }

-- One text behind another.
pub puts_then : {before middle after : Writer} {x y : List ℕ} → Puts before x middle → Puts middle y after → Puts before (x ++ y) after
puts_then p q = record { put = put_then p.put q.put; same_reference = q.same_reference ∙ p.same_reference }

-- One block more of those that `gather` puts one after the other.
pub puts_next : {before middle after : Writer} (f : ℕ → List ℕ) (n : ℕ) → Puts before (gather n f) middle → Puts middle (f n) after → Puts before (gather (n + 1) f) after
puts_next f n p q = record { put = put_next f n p.put q.put; same_reference = q.same_reference ∙ p.same_reference }

-- The memory keeps its length.
pub puts_length : {before after : Writer} {text : List ℕ} → Puts before text after → length after.bytes.now ≡ length before.bytes.now
puts_length p = put_length p.put

-- What fills all of a new writer's memory is all that it holds.
pub puts_whole : {before after : Writer} {text : List ℕ} → Puts before text after → before.used ≡ 0 → after.used ≡ length before.bytes.now → after.bytes.now ≡ text
puts_whole p new all = put_whole (rw new at p.put) all
