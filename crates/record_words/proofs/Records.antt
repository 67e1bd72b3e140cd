-- Laws of a session record as words: parts that are read word by word, words that are written from them, and words that hold what is read from them.
-- Assumes nothing.
use Prim.Native.Nat.{ℕ, zero, suc, ◌+◌, ◌≤◌, ◌<◌}
use native.Mathlib.Omega.{arith}
use mathlib.Core.Path.{◌≡◌, sym, subst, ◌∙◌}
use mathlib.Core.Bool.{true, false}
use mathlib.Core.List.{List, [], ◌∷◌, ◌++◌, append_assoc}
use borrow.Author.Tests.{eqb-true, ltb-true}
use Rattle.std.specs.Prelude.{None, Some}
use Rattle.session_record.specs.declared.Session.{Session}
use lib.ListN.{length, get_or, take, set, drop, length-drop, length-append, take-append-drop}
use lib.Seq.{drop-cons, ext_get_or, get_or-take, get_or-drop, length-take-le, take_all, take_at, sets-eq}
use Rattle.std.specs.Fn.{Called}
use Rattle.std.specs.Array.{IsFromFnResult, IsFromFnResultFrom}
use denote.Param.Members.{Mut}
use native.Mathlib.Nat.{eq-or-lt_of_le}
use mathlib.Core.Logic.{⊎_elim}
use Rattle.limits.specs.Limits.{max_cameras}
use Rattle.lists.specs.Finding.{all_below}
use Rattle.shared_counts.specs.Summary.{entry_count}
use Rattle.lists.proofs.AllBelow.{all_below_at}
use Rattle.record_words.specs.Words.{views_word, cameras_word, reference_word, shared_word, record_words, words_of, session_in, is_byte_entry, is_record, record_in}
use Rattle.record_words.specs.Inner.Readable.{ReadableWords}

pub is_record_words : (words : List ℕ) → is_record words ≡ true → ReadableWords words
unfolding is_record
is_record_words words e =
    let bytes : all_below (is_byte_entry words) entry_count ≡ true = grind arith in
    record {
      long = eqb-true (length words) record_words (grind arith);
      views_byte = ltb-true (get_or words views_word 0) 256 (grind arith);
      cameras_byte = ltb-true (get_or words cameras_word 0) 256 (grind arith);
      reference_byte = ltb-true (get_or words reference_word 0) 256 (grind arith);
      entry_bytes = λ i inside. ltb-true (get_or words (shared_word + i) 0) 256 (all_below_at (is_byte_entry words) entry_count i bytes inside);
    }

-- What is read where there is a record, and where there is none.
pub record_in-some : (words : List ℕ) (s : Session) → record_in words ≡ Some s → (is_record words ≡ true) × (s ≡ session_in words)
unfolding record_in
record_in-some words s e = (grind arith, grind arith)

pub record_in-none : (words : List ℕ) → record_in words ≡ None → is_record words ≡ false
unfolding record_in
record_in-none words e = grind arith

-- A part of the words that is made by calls, one for each index: each call reads its word.
module _ {F : Type 0} (g : Mut F (ℕ × Unit {0}) ℕ) (f : F) (words : List ℕ) (start : ℕ) (reads : (i y : ℕ) (q : F) → Called g f (i, tt) y q → (y ≡ get_or words (start + i) 0) × (q ≡ f)) where
  made_from : (part : List ℕ) (i n k : ℕ) → IsFromFnResultFrom g f part i n → i ≤ k → k < i + n → get_or part k 0 ≡ get_or words (start + k) 0
  made_from part i zero k made l h = absurd (omega arith)
  made_from part i (suc n) k made l h =
      let read = reads i made.1 made.0 made.3 in
      ⊎_elim (λ (e : i ≡ k). rw (← e) (made.2.1 0 ∙ read.0))
      (λ (m : i < k). made_from part (i + 1) n k (subst (λ (p : F). IsFromFnResultFrom g p part (i + 1) n) read.1 made.4) (omega arith) (omega arith))
      (eq-or-lt_of_le l)

  pub part_made : (part : List ℕ) (n : ℕ) → IsFromFnResult g f part n → start + n ≤ length words → part ≡ take n (drop start words)
  part_made part n made h =
      ext_get_or 0 part (take n (drop start words)) (made.long ∙ sym (length-take-le n (drop start words) (omega (arith, length-drop start words))))
      (λ i l. let inside : i < n = omega (arith, made.long) in
      made_from part 0 n i made.each (omega arith) (omega arith) ∙ sym (get_or-take n (drop start words) i 0 inside ∙ get_or-drop start words i 0))

-- The entries are the last words.
entries_last : (words : List ℕ) → length words ≡ record_words → take entry_count (drop shared_word words) ≡ drop shared_word words
entries_last words h = take_all entry_count (drop shared_word words) (omega (arith, length-drop shared_word words))

-- A mask for each camera, three bytes and the entries, written over the words of a record.
pub record_written : (masks rest shared words : List ℕ) (v c r n : ℕ) → length masks ≡ max_cameras → 3 ≤ length rest → length shared ≤ n → length words ≤ shared_word + n
    → take (shared_word + n) words ≡ take shared_word (set (set (set (masks ++ rest) views_word v) cameras_word c) reference_word r) ++ take n shared
    → words ≡ masks ++ (v ∷ c ∷ r ∷ shared)
record_written masks rest shared words v c r n a b d e written =
    let sizes = sets-eq (v ∷ c ∷ r ∷ []) (masks ++ rest) views_word (omega (arith, length-append masks rest)) in
    rw (
      take_all (shared_word + n) words e,
      take_all n shared d,
      sizes,
      take_at masks rest max_cameras a,
      take_at (masks ++ (v ∷ c ∷ r ∷ [])) (drop shared_word (masks ++ rest)) shared_word (omega (arith, length-append masks (v ∷ c ∷ r ∷ []))),
      append_assoc masks (v ∷ c ∷ r ∷ []) shared,
    ) at written

-- Words that can be read are those of the session in them.
pub words_of_session_in : (words : List ℕ) → length words ≡ record_words → words_of (session_in words) ≡ words
words_of_session_in words long =
    let behind : drop max_cameras words ≡ get_or words views_word 0 ∷ get_or words cameras_word 0 ∷ get_or words reference_word 0 ∷ drop shared_word words = cc (
      drop-cons words views_word 0 (omega arith),
      drop-cons words cameras_word 0 (omega arith),
      drop-cons words reference_word 0 (omega arith),
    ) in
    rw (entries_last words long, ← behind) (take-append-drop max_cameras words)
