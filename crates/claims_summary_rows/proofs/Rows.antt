-- The rows of `Rows` hold, by computing with the definitions: which records are taken (`true_records_taken`, `false_records_refused`), what streams leave
-- (`summaries_left`), and what queries answer (`queries_answered`). Assumes nothing.
use mathlib.Core.Path.{◌≡◌, refl}
use mathlib.Core.Bool.{true, false}
use lib.ListN.{length, replicate}
use lib.Ieee.{of_bits}
use Rattle.arithmetic.specs.Pose.{finite_pose}
use Rattle.refusal.specs.Table.{refuse_if, first_of}
use Rattle.lists.specs.Finding.{all_below, count}
use Rattle.lists.specs.Lists.{tabulate}
use Rattle.lists.specs.Masks.{in_mask}
use Rattle.chains.specs.Shared.{shared}
use Rattle.chains.specs.Masks.{views_of_both, shared_by}
use Rattle.chains.specs.Layers.{in_layer, take_if_more, most_views, is_placed, parent_of, links_of, start_spot, next_spot, linked_in_layer, parent_in_layer, layers_to, layers}
use Rattle.placing.specs.Grid.{is_held, spots}
use Rattle.shared_counts.specs.Summary.{summary_of, is_summary}
use Rattle.session_record.specs.Session.{possible}
use Rattle.command.specs.Command.{parse}
use Rattle.session_commands.specs.Commands.{command_refusal}
use Rattle.session_commands.specs.Obeyed.{reply_to, state_after}
use Rattle.shared_query.specs.Query.{query_refusal, shared_answer}
use Rattle.claims_streams.specs.Stream.{stream_refusal, contents_from, contents_of, answer_to, answers, state_after_all, ending_reply, answers_of}
use Rattle.claims_summary_rows.specs.Rows.{padded, joined, table, true_records, false_records, each_possible, summary_rows, all_summaries, all_entries, query_rows, all_asked, all_answered}

pub true_records_taken : each_possible true_records ≡ replicate (length true_records) true
unfolding true_records each_possible is_summary all_below shared_by views_of_both count in_mask table padded joined
true_records_taken = refl

pub false_records_refused : each_possible false_records ≡ replicate (length false_records) false
unfolding false_records each_possible is_summary all_below shared_by views_of_both count in_mask table padded joined
false_records_refused = refl

pub summaries_left : all_summaries summary_rows ≡ all_entries summary_rows
unfolding summary_rows all_summaries all_entries stream_refusal first_of refuse_if contents_of contents_from parse answers_of answers answer_to state_after_all ending_reply command_refusal possible reply_to state_after finite_pose of_bits is_held shared spots layers layers_to start_spot next_spot parent_in_layer linked_in_layer in_layer most_views take_if_more is_placed parent_of links_of is_summary summary_of tabulate all_below shared_by views_of_both count in_mask table padded joined
summaries_left = refl

pub queries_answered : all_asked query_rows ≡ all_answered query_rows
unfolding query_rows all_asked all_answered shared_answer query_refusal first_of refuse_if possible is_summary all_below shared_by views_of_both count in_mask table padded joined
queries_answered = refl
