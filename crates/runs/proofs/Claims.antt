-- The claim about refused calls. Assumes nothing.
use Rattle.record.specs.Refusals.{Verdict}
use mathlib.Core.Path.{◌≡◌, refl, sym, ap}
use mathlib.Core.Logic.{⊎_elim}
use mathlib.Core.List.{List}
use Prim.Native.Nat.{ℕ}
use Rattle.replica.specs.Outcome.{Outcome, outcome}
use Rattle.replica.specs.Opening.{open_state}
use Rattle.ordering.specs.Calls.{take_body, take_first_body, take_timeout, take_no_vote, take_timeouts}
use Rattle.ordering.proofs.Numbers.{number_yes, decided}
use Rattle.ordering.proofs.Turns.{outcome_refused}
use Rattle.pending.specs.Early.{Ending, take_vertex_with}
use Rattle.pending.proofs.Claims.{end_of}
use Rattle.proposing.specs.Making.{propose_vertex}
use Rattle.proposing.specs.Signing.{sign_no_vote}
use Rattle.runs.specs.Call.{opening, vertex, vertex_with, first_message, timeout, no_vote, bundle, status, ask_leader_list, ask_journal_list}
use Rattle.runs.specs.Call.{hand_leader_list, hand_journal_list, making, signing}
use Rattle.runs.specs.Claims.{Untouched, RefusedCalls}

-- the calls that only read
still : (l : List ℕ) (o : Outcome) → o.leaders ≡ 0 → o.journal ≡ 0 → o.words ≡ l → Untouched l o
still l o a b c = record { leaders = a; journal = b; words = c }

-- the others: an outcome with another number than 0 is that of a refusal
refused : (why : Verdict) (l after : List ℕ) → ((outcome why l after).number ≡ 0 → ⊥) → Untouched l (outcome why l after)
refused why l after h = ⊎_elim
    (λ z. absurd (h (number_yes why l after z)))
    (λ d. rw (sym (outcome_refused why why l after refl d)) (record { leaders = refl; journal = refl; words = refl }))
    (decided why)

refused_with_lem : (l s rec : List ℕ) → ((take_vertex_with l s rec).outcome.number ≡ 0 → ⊥) → Untouched l (take_vertex_with l s rec).outcome
refused_with_lem l s rec h = ⊎_elim
    (λ T. absurd (h (ap (λ (e : Ending). e.outcome.number) T.end)))
    (λ x. rw x.end (record { leaders = refl; journal = refl; words = refl }))
    (end_of l s rec)

pub refused_calls : RefusedCalls
unfolding open_state take_body take_first_body take_timeout take_no_vote take_timeouts propose_vertex sign_no_vote
refused_calls (opening n own) l h = refused _ l _ h
refused_calls (vertex rec) l h = refused _ l _ h
refused_calls (vertex_with s rec) l h = refused_with_lem l s rec h
refused_calls (first_message rec) l h = refused _ l _ h
refused_calls (timeout r p) l h = refused _ l _ h
refused_calls (no_vote r p) l h = refused _ l _ h
refused_calls (bundle r mask) l h = refused _ l _ h
refused_calls status l h = still l _ refl refl refl
refused_calls (ask_leader_list k) l h = still l _ refl refl refl
refused_calls (ask_journal_list k) l h = still l _ refl refl refl
refused_calls (hand_leader_list k) l h = still l _ refl refl refl
refused_calls (hand_journal_list k) l h = still l _ refl refl refl
refused_calls (making digest) l h = refused _ l _ h
refused_calls signing l h = refused _ l _ h
