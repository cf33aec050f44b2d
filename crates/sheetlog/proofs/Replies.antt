-- Laws of replies. Assumes nothing.
use Rattle.std.specs.Prelude.{Option, Some, None, Result, Ok, Err}
use mathlib.Core.Path.{◌≡◌, refl}
use mathlib.Core.List.{List}
use Prim.Native.Nat.{ℕ, ◌≤◌}
use native.Mathlib.Omega.{arith}
use lib.ListN.{length}
use Rattle.replica.specs.Status.{status_of}
use Rattle.record.specs.declared.refusal.Refusal.{Refusal}
use Rattle.replica.specs.declared.answer.Status.{Status}
use Rattle.transcript.specs.Claims.{longest_answer}
use Rattle.transcript.specs.declared.command.Command.{Command}
use Rattle.transcript.proofs.Claims.{answer_size}
use Rattle.sheetlog.specs.Reply.{outcome_of, status_words, reply_text}

-- no reply is longer than the longest answer
pub reply_few : (command : Option Command) (state : List ℕ) → length (reply_text command state) ≤ longest_answer
reply_few None state = omega arith
reply_few (Some command) state = answer_size _ (status_words (status_of after)) (four (status_of after))
  where
    four : (s : Result Status Refusal) → length (status_words s) ≡ 4
    four (Ok s) = refl
    four (Err why) = refl

    after : List ℕ
    after = (outcome_of (Some command) state).words
