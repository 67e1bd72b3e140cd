-- Document 01's complete listing, worked out from the stream's bytes (`paper_listing`), and that calls of the whole-stream entry print it (`paper_rounds`).
-- Assumes nothing.
use Prim.Native.Nat.{ℕ, ◌≤◌}
use Prim.Native.Char.{code}
use Prim.Native.String.{String}
use Prim.Native.String as text
use mathlib.Core.Path.{◌≡◌, refl, ap, ◌∙◌}
use mathlib.Core.List.{List, [], ◌∷◌}
use lib.ListN.{length}
use lib.Ieee.{to_bits, of_bits, of_int, add, sub, mul, div, lt, eq}
use Rattle.root.specs.Root.{root_of}
use Rattle.arithmetic.specs.Pose.{mul_pose}
use Rattle.mean.specs.Average.{average_isometries}
use Rattle.chains.specs.Layers.{is_placed, parent_of, links_of, start_spot, next_spot, layers_to, layers}
use Rattle.placing.specs.Grid.{is_held, spots}
use Rattle.session_commands.specs.Commands.{command_refusal}
use Rattle.command.specs.Command.{parse}
use Rattle.session_commands.specs.Obeyed.{reply_to, state_after}
use Rattle.claims_streams.specs.Stream.{contents_from, contents_of, answer_to, answers, state_after_all, ending_reply, answers_of, meaning}
use Rattle.listing.specs.Listing.{decimal_within, decimal_text, float_text, ok_line, camera_line, view_line, camera_line_at, view_line_at, solved_text, reply_text, listing_bytes}
use Rattle.stream_text.specs.StreamText.{Part}
use Rattle.claims_printing.specs.Printed.{printed, rounds_from, fresh_state}
use Rattle.claims_rows.proofs.FreshRows.{fresh_answers, meaning-fresh}
use Rattle.claims_rows.specs.Paper.{paper_stream, paper_text}
use Rattle.claims_printing.proofs.Loop.{rounds_give_whole}

-- The bytes of a text of plain letters, digits and blanks.
abbrev codes : String → List ℕ
codes text.[] = []
codes (text.◌∷◌ c s) = code c ∷ codes s

pub paper_text-reads :
    paper_text ≡ codes "ok 1 1\nc 0 0 0 0000000000000000 0000000000000000 0000000000000000 0000000000000000 0000000000000000 0000000000000000 3ff0000000000000\nv 0 3ff0000000000000 0000000000000000 0000000000000000 0000000000000000 0000000000000000 0000000000000000 3ff0000000000000\n"
unfolding paper_text
paper_text-reads = refl

paper_computed : printed (fresh_answers paper_stream) ≡ paper_text
unfolding printed paper_stream paper_text fresh_answers contents_of contents_from parse answers_of answers answer_to state_after_all ending_reply command_refusal reply_to state_after average_isometries root_of mul_pose is_held spots layers layers_to start_spot next_spot is_placed parent_of links_of to_bits of_bits of_int add sub mul div lt eq reply_text solved_text ok_line camera_line_at view_line_at camera_line view_line decimal_text float_text decimal_within
paper_computed = refl

pub paper_listing : printed (meaning fresh_state paper_stream) ≡ paper_text
paper_listing = ap printed (meaning-fresh paper_stream) ∙ paper_computed

pub paper_rounds : (rooms : ℕ → ℕ) → ((i : ℕ) → listing_bytes ≤ rooms i) → (rounds_from (length paper_stream) rooms fresh_state paper_stream 0).text ≡ paper_text
paper_rounds rooms hold = ap (λ (p : Part). p.text) (rounds_give_whole fresh_state paper_stream rooms hold) ∙ paper_listing
