-- What holds of a vertex taken with a pending buffer, as claims. `proofs/` has a term of each.
use Rattle.std.specs.Prelude.{◌≡◌, true, false, ◌⊎◌, ℕ, length}
use mathlib.Core.List.{List, [], ◌∷◌, Sublistᴰ}
use Rattle.record.specs.Refusals.{no_refusal, refusal_number, missing_number}
use Rattle.record.specs.Layout.{round_of, body_of}
use Rattle.record.specs.declared.refusal.Refusal.TheVariants.{Duplicate, Conflict, BufferFull}
use Rattle.replica.specs.Layout.{state_size}
use Rattle.replica.specs.State.{member_count}
use Rattle.replica.specs.Parents.{parents_held}
use Rattle.replica.specs.WellFormed.{well_formed}
use Rattle.replica.specs.Outcome.{Outcome, unchanged}
use Rattle.ordering.specs.Calls.{take_vertex}
use Rattle.ordering.specs.Bundle.{followed}
use Rattle.ordering.specs.Kept.{LeavesWellFormed}
use Rattle.pending.specs.Layout.{buffer_slots}
use Rattle.pending.specs.Buffer.{In, record_id, count_of, records_in, buffer_ok}
use Rattle.pending.specs.Passes.{pass, Trial, ChangesByAdmission, PassesOver}
use Rattle.pending.specs.Early.{try_vertex, release_after, Ending, take_vertex_with}

-- ---- the passes

-- They end, over any records and whatever a trial is, if only a trial that admits changes something.
abbrev pub AnyPassesEnd : Type 1
AnyPassesEnd = (S : Type 0) (attempt : S → List ℕ → Trial S) → ChangesByAdmission attempt
    → (s : S) (recs : List (List ℕ)) → PassesOver attempt s recs

-- so do those by vertex calls, on any words
abbrev pub VertexPassesEnd : Type 0
VertexPassesEnd = (l : List ℕ) (recs : List (List ℕ)) → PassesOver try_vertex l recs

-- ---- an admission

-- the call answers 0
abbrev pub Admits : List ℕ → List ℕ → List ℕ → Type 0
Admits l s rec = (take_vertex_with l s rec).outcome.number ≡ 0

-- no record that waits on has all parents held afterwards
abbrev pub NoneIsReady : Type 0
NoneIsReady = (l s rec : List ℕ) → Admits l s rec → (other : List ℕ) → In other (records_in (take_vertex_with l s rec).buffer)
    → parents_held (take_vertex_with l s rec).outcome.words (round_of other) (body_of other) ≡ false

-- the passes came to their end: one more admits none and changes nothing
abbrev pub PassesEnd : Type 0
PassesEnd = (l s rec : List ℕ) → Admits l s rec → let p = release_after l s rec in
    pass try_vertex p.after p.waiting ≡ record { after = p.after; admitted = []; waiting = p.waiting }

-- a plain vertex call for each of these records, in turn
unfoldable pub take_in_turn : List ℕ → List (List ℕ) → Outcome
take_in_turn l [] = unchanged no_refusal l
take_in_turn l (rec ∷ recs) = followed (take_vertex l rec) (take_in_turn (take_vertex l rec).words recs)

-- the records that the call admits beside its own
abbrev pub admitted_from : List ℕ → List ℕ → List ℕ → List (List ℕ)
admitted_from l s rec = (release_after l s rec).admitted

-- state and answer are those of plain vertex calls for the record and then these, which are some of the buffer's as lent, in its order
abbrev pub EndsAsPlainCalls : Type 0
EndsAsPlainCalls = (l s rec : List ℕ) → Admits l s rec
    → (take_in_turn l (rec ∷ admitted_from l s rec) ≡ (take_vertex_with l s rec).outcome) × Sublistᴰ (admitted_from l s rec) (records_in s)

-- ---- a refusal

-- with another number than 0 and 14 every word of the buffer stays
abbrev pub LeavesBuffer : Type 0
LeavesBuffer = (l s rec : List ℕ) → let e = take_vertex_with l s rec in
    (e.outcome.number ≡ 0 → ⊥) → (e.outcome.number ≡ missing_number → ⊥) → e.buffer ≡ s

-- ---- whatever the answer

-- a well-formed state stays so
abbrev pub KeepsState : Type 0
KeepsState = (l s rec : List ℕ) → length l ≡ state_size → well_formed l ≡ true → LeavesWellFormed (take_vertex_with l s rec).outcome

-- a buffer that is well formed for the state's members stays so
abbrev pub KeepsBuffer : Type 0
KeepsBuffer = (l s rec : List ℕ) → buffer_ok (member_count l) s ≡ true
    → buffer_ok (member_count (take_vertex_with l s rec).outcome.words) (take_vertex_with l s rec).buffer ≡ true

-- ---- a record whose parents are missing

-- with 14 it waits in the buffer, and so does every other that did
pub record Waits (e : Ending) (s rec : List ℕ) : Type 0 where
  pub number : e.outcome.number ≡ missing_number
  pub there : In rec (records_in e.buffer)
  pub others : (other : List ℕ) → In other (records_in s) → In other (records_in e.buffer)

-- with 12 it waited before, and does so still
pub record WaitedBefore (e : Ending) (rec : List ℕ) : Type 0 where
  pub number : e.outcome.number ≡ refusal_number Duplicate
  pub there : In rec (records_in e.buffer)

-- with 13 another record of its id waits
pub record Clashes (e : Ending) (rec : List ℕ) : Type 0 where
  pub number : e.outcome.number ≡ refusal_number Conflict
  pub other : List ℕ
  pub there : In other (records_in e.buffer)
  pub same_id : record_id other ≡ record_id rec
  pub differs : other ≡ rec → ⊥

-- with 20 the buffer is full, and none of its records has this id
pub record FindsNoRoom (e : Ending) (rec : List ℕ) : Type 0 where
  pub number : e.outcome.number ≡ refusal_number BufferFull
  pub full : count_of e.buffer ≡ buffer_slots
  pub new : (other : List ℕ) → In other (records_in e.buffer) → record_id other ≡ record_id rec → ⊥

-- A record to which a plain vertex call answers 14 is not lost: taken with a well-formed buffer it waits there, or 12, 13 or 20 says why not.
abbrev pub NotLost : Type 0
NotLost = (l s rec : List ℕ) → buffer_ok (member_count l) s ≡ true → (take_vertex l rec).number ≡ missing_number → let e = take_vertex_with l s rec in
    Waits e s rec ⊎ (WaitedBefore e rec ⊎ (Clashes e rec ⊎ FindsNoRoom e rec))
