-- `keep_early` meets its contract. Assumes nothing.
use mathlib.Core.Path.{◌≡◌, sym, ap, ◌∙◌}
use mathlib.Core.Bool.{true, false}
use native.Mathlib.Omega.{arith}
use borrow.Author.Rules.{rules}
use Rattle.std.specs.Prelude.{Err}
use Rattle.record.specs.Refusals.{is_missing}
use Rattle.record.proofs.Booleans.{passed, failed}
use Rattle.pending.specs.Buffer.{records_in, some, same_record, same_id}
use Rattle.pending.specs.Inner.{Sound, PlaceOf, rank}
use Rattle.pending.proofs.Order.{Formed, formed}
use Rattle.pending.proofs.Calling.{early_other, early_waits, waits_none, early_full, early_put}
use Rattle.pending.proofs.early.keep_early.Goals as goal
use Rattle.pending.proofs.early.keep_early.Goals.{After-rank_of-j, In_default, Else-not-is_missing}

pub returns-then-not-is_missing : goal.returns-then-not-is_missing
returns-then-not-is_missing c =
    early_other c.args.buffer.now c.args.rec.now c.args.why (failed c.is_missing.ensures (cc))

-- a parent is missing
missing : (c : Else-not-is_missing) → is_missing (Err c.args.why) ≡ true
missing c = passed c.is_missing.ensures (cc)

-- so the buffer is well formed
sound : (c : Else-not-is_missing) → Sound c.args.buffer.now
sound c = c.requires.sound (missing c)

F : (c : Else-not-is_missing) → Formed (sound c).members c.args.buffer.now
F c = formed _ _ (sound c).formed

-- and slot j is the record's place
place : (c : After-rank_of-j) → PlaceOf c.args.buffer.now c.rank_of-j.result c.args.rec.now
place c =
    let e : Else-not-is_missing = (goal.at.After-rank_of-j c).Else-not-is_missing in
    record { sound = sound e; bounded = c.requires.bounded (missing e); place = c.rank_of-j.ensures ∙ ap (rank (records_in c.args.buffer.now)) c.id_of.ensures }

-- no record of its id waits
none : (c : In_default) → (some (same_record c.args.rec.now) (records_in c.args.buffer.now) ≡ false)
    × (some (same_id c.args.rec.now) (records_in c.args.buffer.now) ≡ false)
none c =
    let w = waits_none c.args.buffer.now c.args.rec.now c.args.why (sym c.in_default.is ∙ c.check_waiting.ensures) in
    (w.0, w.1)

pub returns-in-Err : goal.returns-in-Err
returns-in-Err c =
    early_waits c.args.buffer.now c.args.rec.now c.args.why (missing (goal.at.returns-in-Err c).Else-not-is_missing) _ (sym c.in-Err.is
    ∙ c.check_waiting.ensures)

pub returns-then-buffer-eq-BUFFER_SLOTS : goal.returns-then-buffer-eq-BUFFER_SLOTS
returns-then-buffer-eq-BUFFER_SLOTS c =
    early_full c.args.buffer.now c.args.rec.now c.args.why (missing (goal.at.returns-then-buffer-eq-BUFFER_SLOTS c).Else-not-is_missing)
    (none (goal.at.returns-then-buffer-eq-BUFFER_SLOTS c).In_default).0 (none (goal.at.returns-then-buffer-eq-BUFFER_SLOTS c).In_default).1 (omega arith)

pub put_in-requires : goal.put_in-requires
put_in-requires c = let f = (F (goal.at.put_in-requires c).Else-not-is_missing).few in (place (goal.at.put_in-requires c).After-rank_of-j, omega arith)

pub returns : goal.returns
returns c =
    let f = (F (goal.at.returns c).Else-not-is_missing).few in
    early_put c.args.buffer.now c.args.rec.now c.args.why (missing (goal.at.returns c).Else-not-is_missing) (none (goal.at.returns c).In_default).0
    (none (goal.at.returns c).In_default).1 (omega arith) _ c.put_in.ensures

pub id_of-requires : goal.id_of-requires
id_of-requires c = c.requires.bounded (missing c)

pub rank_of-j-requires : goal.rank_of-j-requires
rank_of-j-requires c = sound (goal.at.rank_of-j-requires c).Else-not-is_missing

pub check_waiting-requires : goal.check_waiting-requires
check_waiting-requires c = place c

pub bounds-buffer-0 : goal.bounds-buffer-0
bounds-buffer-0 c = let f = F (goal.at.bounds-buffer-0 c).Else-not-is_missing in search rules
