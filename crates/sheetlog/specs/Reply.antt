-- What a line does and prints: the call that its command stands for, and the answer's number with the four numbers of the status.
use Rattle.std.specs.Prelude.{List, [], ◌∷◌, ℕ, Option, Some, None, Result, Ok, Err}
use Rattle.record.specs.Refusals.{no_refusal}
use Rattle.record.specs.declared.refusal.Refusal.{Refusal}
use Rattle.replica.specs.Layout.{watcher}
use Rattle.replica.specs.Outcome.{Outcome, unchanged}
use Rattle.replica.specs.Opening.{open_state}
use Rattle.replica.specs.Status.{status_of}
use Rattle.replica.specs.declared.answer.Status.{Status}
use Rattle.ordering.specs.Calls.{take_vertex, take_first_message, take_timeout, take_no_vote}
use Rattle.transcript.specs.Text.{answer_text, other_text}
use Rattle.transcript.specs.declared.command.Command.{Command}
use Rattle.transcript.specs.declared.command.Command.TheVariants.{Open, Vertex, First, Timeout, NoVote}

-- the call on a state. A state is opened for a watcher
abbrev pub call_for : Command → List ℕ → Outcome
call_for (Open n) state = open_state state n watcher
call_for (Vertex words) state = take_vertex state words
call_for (First words) state = take_first_message state words
call_for (Timeout round signer) state = take_timeout state round signer
call_for (NoVote round signer) state = take_no_vote state round signer

-- a line of another form makes no call, which leaves the state as it is
abbrev pub outcome_of : Option Command → List ℕ → Outcome
outcome_of None state = unchanged no_refusal state
outcome_of (Some command) state = call_for command state

-- the four numbers of the status, 0 where it is refused
abbrev pub status_words : Result Status Refusal → List ℕ
status_words (Ok s) = s.current_round ∷ s.committed_round ∷ s.leader_count ∷ s.journal_count ∷ []
status_words (Err why) = 0 ∷ 0 ∷ 0 ∷ 0 ∷ []

-- the line of a call: its number, and the status that it left
abbrev pub outcome_text : Outcome → List ℕ
outcome_text o = answer_text o.number (status_words (status_of o.words))

-- the line that is printed
abbrev pub reply_text : Option Command → List ℕ → List ℕ
reply_text None state = other_text
reply_text (Some command) state = outcome_text (outcome_of (Some command) state)
