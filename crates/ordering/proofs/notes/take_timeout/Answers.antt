-- `take_timeout` meets its contract. Assumes nothing.
use Rattle.ordering.proofs.Taking.{timeout_refused, TimeoutTaken, timeout_taken}
use mathlib.Core.Path.{ap, sym, ◌∙◌}
use borrow.Author.Rules.{rules}
use Rattle.std.specs.Prelude.{Result}
use Rattle.record.specs.declared.refusal.Refusal.{Refusal}
use Rattle.replica.specs.declared.answer.Added.{Added}
use Rattle.replica.specs.Outcome.{told}
use Rattle.record.proofs.Turn.{raised, was_ok}
use Rattle.ordering.proofs.notes.take_timeout.Goals as goal
use Rattle.ordering.proofs.notes.take_timeout.Goals.{In_ok-added}

-- the note was admitted
known : (c : In_ok-added) → TimeoutTaken c.args.state.now c.args.round c.args.signer c.take_note.result c.take_note.new.state
known c = timeout_taken _ _ _ _ _ c.take_note.ensures (was_ok c.in_ok-added.was)

pub returns-in_err-added : goal.returns-in_err-added
returns-in_err-added c =
    timeout_refused _ _ _ _ _ c.take_note.ensures _ c.in_err-added.was _ (raised _ c.from_residual.ensures.1)

pub bounds-state-0 : goal.bounds-state-0
bounds-state-0 c = let k = known (goal.at.bounds-state-0 c).In_ok-added in search rules

pub raise_round-requires : goal.raise_round-requires
raise_round-requires c = let k = known (goal.at.raise_round-requires c).In_ok-added in search rules

pub returns : goal.returns
returns c =
    ap (λ (a : Result Added Refusal). told a c.raise_round.new.state) (sym c.in_ok-added.was)
    ∙ (known (goal.at.returns c).In_ok-added).done _ c.raise_round.ensures
