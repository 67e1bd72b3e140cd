-- The command Size, by document 01: what refuses it, in order, and the record that it leaves; the buffer stays. Rests on the checks of `inputs`.
use Rattle.std.specs.Prelude.{ℕ, [], ◌∷◌, Option}
use Rattle.refusal.specs.Table.{refuse_if, first_of}
use Rattle.refusal.specs.declared.Refusal.{Refusal}
use Rattle.refusal.specs.declared.Refusal.TheVariants.{SizeAgain}
use Rattle.inputs.specs.Inputs.{size_refusal}
use Rattle.session_record.specs.Session.{has_size, with_sizes}
use Rattle.session_record.specs.declared.Held.{Held}

-- 22: "Size after an accepted Size". "After that, Size checks views and cameras as above, then 3".
unfoldable pub size_command_refusal : Held → ℕ → ℕ → ℕ → Option Refusal
unfolding refuse_if first_of size_refusal
size_command_refusal h views cameras reference = first_of (refuse_if (has_size h) SizeAgain ∷ size_refusal views cameras reference ∷ [])

unfoldable pub held_after_size : Held → ℕ → ℕ → ℕ → Held
held_after_size h views cameras reference = with_sizes h views cameras reference
