-- The rows of `Rows` hold, by computing with the definitions: each stream prints the text beside it (`rows_print`), and each call prints its lines and
-- tells the next offset (`call-rows_tell`). Assumes nothing.
use mathlib.Core.Path.{◌≡◌, refl, sym, ap, ap₂, ◌∙◌}
use mathlib.Core.List.{List, [], ◌∷◌, ◌++◌}
use lib.Ieee.{to_bits, of_bits, of_int, add, sub, mul, div, neg, lt, eq}
use Rattle.root.specs.Root.{root_of}
use Rattle.arithmetic.specs.Pose.{mul_pose, inverse_pose, finite_pose}
use Rattle.mean.specs.Average.{average_isometries}
use Rattle.refusal.specs.Table.{refuse_if, first_of}
use Rattle.chains.specs.Masks.{views_of_both, shared_by}
use Rattle.chains.specs.Shared.{shared}
use Rattle.lists.specs.Finding.{all_below, count}
use Rattle.lists.specs.Masks.{in_mask}
use Rattle.chains.specs.Layers.{in_layer, take_if_more, most_views, is_placed, parent_of, links_of, start_spot, next_spot, linked_in_layer, parent_in_layer, layers_to, layers}
use Rattle.placing.specs.Grid.{is_held, spots}
use Rattle.shared_counts.specs.Summary.{is_summary}
use Rattle.session_record.specs.Session.{possible}
use Rattle.session_commands.specs.Commands.{command_refusal}
use Rattle.command.specs.Command.{parse}
use Rattle.session_commands.specs.Obeyed.{reply_to, state_after, obeyed}
use Rattle.session.specs.Call.{call_refusal, read}
use Rattle.claims_streams.specs.Stream.{meaning, stream_refusal, contents_from, contents_of, answer_to, answers, state_after_all, ending_reply, answers_of}
use Rattle.listing.specs.Listing.{decimal_within, decimal_text, float_text, refusal_line, ok_line, camera_line, view_line, camera_line_at, view_line_at, solved_text, reply_text}
use Rattle.claims_printing.specs.Printed.{printed}
use Rattle.claims_summary_rows.specs.Rows.{padded, joined, table}
use Rattle.claims_rows.proofs.FreshRows.{FromFresh, fresh_printed, printed-fresh}
use Rattle.claims_rows.specs.Rows.{Row, stream_of, text_of, all_printed, all_texts, fresh_rows, solved_rows, other_rows, rows, all_called, all_told, call_rows}

-- ---- three parts of the rows, computed apart

fresh-rows_begin : FromFresh fresh_rows
unfolding fresh_rows
fresh-rows_begin = (refl, (refl, (refl, (refl, (refl, (refl, (refl, (refl, (refl, (refl, (refl, (refl, (refl, (refl, (refl, (refl, (refl, (refl, (refl, (refl, (refl, (refl, (refl, (refl, (refl, (refl, (refl, (refl, tt))))))))))))))))))))))))))))

fresh-rows-computed : fresh_printed fresh_rows ≡ all_texts fresh_rows
unfolding fresh_rows fresh_printed printed stream_of all_texts first_of refuse_if contents_of contents_from parse answers_of answers answer_to state_after_all ending_reply command_refusal reply_to state_after average_isometries root_of mul_pose inverse_pose finite_pose is_held shared count spots layers layers_to start_spot next_spot parent_in_layer linked_in_layer in_layer most_views take_if_more is_placed parent_of links_of to_bits of_bits of_int add sub mul div neg lt eq reply_text solved_text refusal_line ok_line camera_line_at view_line_at camera_line view_line decimal_text float_text decimal_within
fresh-rows-computed = refl

fresh-rows_print : all_printed fresh_rows ≡ all_texts fresh_rows
fresh-rows_print = printed-fresh fresh_rows fresh-rows_begin ∙ fresh-rows-computed

solved_rows_begin : FromFresh solved_rows
unfolding solved_rows
solved_rows_begin = (refl, (refl, (refl, (refl, (refl, (refl, tt))))))

solved_rows-computed : fresh_printed solved_rows ≡ all_texts solved_rows
unfolding solved_rows fresh_printed printed stream_of all_texts first_of refuse_if contents_of contents_from parse answers_of answers answer_to state_after_all ending_reply command_refusal reply_to state_after average_isometries root_of mul_pose inverse_pose finite_pose is_held shared count spots layers layers_to start_spot next_spot parent_in_layer linked_in_layer in_layer most_views take_if_more is_placed parent_of links_of to_bits of_bits of_int add sub mul div neg lt eq reply_text solved_text refusal_line ok_line camera_line_at view_line_at camera_line view_line decimal_text float_text decimal_within
solved_rows-computed = refl

solved_rows_print : all_printed solved_rows ≡ all_texts solved_rows
solved_rows_print = printed-fresh solved_rows solved_rows_begin ∙ solved_rows-computed

other_rows_print : all_printed other_rows ≡ all_texts other_rows
unfolding other_rows all_printed all_texts stream_refusal first_of refuse_if contents_of contents_from parse answers_of answers answer_to state_after_all ending_reply command_refusal possible is_summary all_below shared_by views_of_both in_mask table padded joined reply_to state_after average_isometries root_of mul_pose inverse_pose finite_pose is_held shared count spots layers layers_to start_spot next_spot parent_in_layer linked_in_layer in_layer most_views take_if_more is_placed parent_of links_of to_bits of_bits of_int add sub mul div neg lt eq reply_text solved_text refusal_line ok_line camera_line_at view_line_at camera_line view_line decimal_text float_text decimal_within
other_rows_print = refl

-- ---- the parts together

all_printed_++ : (a b : List Row) → all_printed (a ++ b) ≡ all_printed a ++ all_printed b
unfolding all_printed
all_printed_++ [] b = refl
all_printed_++ (r ∷ a) b = ap (λ l. printed (meaning r.before (stream_of r.steps)) ∷ l) (all_printed_++ a b)

all_texts_++ : (a b : List Row) → all_texts (a ++ b) ≡ all_texts a ++ all_texts b
unfolding all_texts
all_texts_++ [] b = refl
all_texts_++ (r ∷ a) b = ap (λ l. text_of r.steps ∷ l) (all_texts_++ a b)

both_print : (a b : List Row) → all_printed a ≡ all_texts a → all_printed b ≡ all_texts b → all_printed (a ++ b) ≡ all_texts (a ++ b)
both_print a b first second = all_printed_++ a b ∙ ap₂ ◌++◌ first second ∙ sym (all_texts_++ a b)

pub rows_print : all_printed rows ≡ all_texts rows
unfolding rows
rows_print =
    both_print fresh_rows (solved_rows ++ other_rows) fresh-rows_print
    (both_print solved_rows other_rows solved_rows_print other_rows_print)

pub call-rows_tell : all_called call_rows ≡ all_told call_rows
unfolding call_rows all_called all_told call_refusal first_of refuse_if read obeyed parse command_refusal possible is_summary all_below shared_by views_of_both in_mask count table padded joined reply_to state_after finite_pose of_bits reply_text refusal_line decimal_text decimal_within
call-rows_tell = refl
