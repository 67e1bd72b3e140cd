-- When a session record is written as words. Rests on the words of `record_words`.
use Rattle.std.specs.Prelude.{ℕ, List, Err, Ok}
use Rattle.session_record.specs.declared.Session.{Session}
use Rattle.session_commands.specs.Reply.{Reply}
use Rattle.record_words.specs.Words.{words_of}
use Rattle.session_commands.specs.declared.Done.TheVariants.{Accepted, End, Solved}

-- The words after a call, by its reply and the session that it leaves: an accepted command writes them, and nothing else does.
unfoldable pub words_kept : Reply → Session → List ℕ → List ℕ
words_kept (Ok End) after words = words
words_kept (Ok Accepted) after words = words_of after
words_kept (Ok Solved) after words = words
words_kept (Err r) after words = words
