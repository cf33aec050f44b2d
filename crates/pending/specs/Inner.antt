-- What the inner functions of the call ask and answer. No claim rests on it.
use Rattle.std.specs.Prelude.{◌≡◌, true, cond, List, [], ◌∷◌, ℕ, suc, ◌+◌, ◌≤◌, ◌<◌, eqb, ltb, length, Err}
use Rattle.std.proofs.Math.Seq.{paste}
use Rattle.record.specs.Members.{legal, rounds, slots}
use Rattle.record.specs.Refusals.{Verdict, number_of, missing_number, is_missing}
use Rattle.record.specs.Layout.{record_size, round_of, source_of}
use Rattle.record.specs.Questions.{record_refusal}
use Rattle.record.specs.declared.refusal.Refusal.{Refusal}
use Rattle.replica.specs.Layout.{state_size}
use Rattle.replica.specs.State.{member_count}
use Rattle.replica.specs.WellFormed.{well_formed}
use Rattle.ordering.specs.Calls.{take_vertex}
use Rattle.pending.specs.Layout.{buffer_size, buffer_slots, slot_at}
use Rattle.pending.specs.Buffer.{record_id, count_of, record_at, records_in, buffer_of, put_in, buffer_ok}
use Rattle.pending.specs.Passes.{Passed, release}
use Rattle.pending.specs.Early.{try_vertex, in_place}

-- the words of a record whose id fits
pub record Bounded (rec : List ℕ) : Type 0 where
  pub size : length rec ≡ record_size
  pub round : round_of rec ≤ rounds
  pub source : source_of rec < slots

-- as many words as a buffer has, with a count of at most 32
pub record Sized (s : List ℕ) : Type 0 where
  pub size : length s ≡ buffer_size
  pub few : count_of s ≤ buffer_slots

-- a buffer that is well formed for some group
pub record Sound (s : List ℕ) : Type 0 where
  pub members : ℕ
  pub legit : legal members ≡ true
  pub formed : buffer_ok members s ≡ true

-- how many records come before the first whose id is x or more
unfoldable pub rank : List (List ℕ) → ℕ → ℕ
rank [] x = 0
rank (rec ∷ recs) x = cond (ltb (record_id rec) x) (suc (rank recs x)) 0

-- slot j is the place of a record in a well-formed buffer
pub record PlaceOf (s : List ℕ) (j : ℕ) (rec : List ℕ) : Type 0 where
  pub sound : Sound s
  pub bounded : Bounded rec
  pub place : j ≡ rank (records_in s) (record_id rec)

-- where the refusal is a missing parent's, the buffer is well formed, and the record passes its own questions
pub record Keepable (s rec : List ℕ) (why : Refusal) : Type 0 where
  pub sound : is_missing (Err why) ≡ true → Sound s
  pub bounded : is_missing (Err why) ≡ true → Bounded rec

-- a verdict, and the words of the buffer with it
pub record Refused : Type 0 where
  pub why : Verdict
  pub buffer : List ℕ

abbrev pub refused_in : Verdict → List ℕ → Refused
refused_in why s = record { why = why; buffer = s }

-- the verdict in place of why: with 14 the record is put in
abbrev pub keep_early : List ℕ → List ℕ → Verdict → Refused
keep_early s rec why =
    refused_in (in_place (records_in s) rec why) (cond (is_missing (in_place (records_in s) rec why)) (buffer_of (put_in rec (records_in s))) s)

-- a well-formed state of n members
pub record Standing (l : List ℕ) (n : ℕ) : Type 0 where
  pub size : length l ≡ state_size
  pub formed : well_formed l ≡ true
  pub members : n ≡ member_count l

-- and a record that passes its own questions
pub record Trying (l : List ℕ) (n : ℕ) (rec : List ℕ) : Type 0 where
  pub state : Standing l n
  pub admitted : number_of (record_refusal n rec) ≡ 0

-- so of the record in slot j, where k of those before it are kept
pub record Sweeping (l s : List ℕ) (n j k : ℕ) : Type 0 where
  pub size : length s ≡ buffer_size
  pub slot : j < buffer_slots
  pub kept : k ≤ j
  pub trying : Trying l n (record_at s j)

-- the words of state and buffer, and how many records were kept so far
pub record Swept : Type 0 where
  pub kept : ℕ
  pub state : List ℕ
  pub buffer : List ℕ

abbrev pub swept : ℕ → List ℕ → List ℕ → Swept
swept k l s = record { kept = k; state = l; buffer = s }

-- the record of slot j tried: where its parent is missing it is kept in slot k
abbrev pub sweep_one : List ℕ → List ℕ → ℕ → ℕ → Swept
sweep_one l s j k =
    cond (eqb (take_vertex l (record_at s j)).number missing_number)
    (swept (k + 1) (take_vertex l (record_at s j)).words (paste s (slot_at k) (record_at s j) record_size))
    (swept k (take_vertex l (record_at s j)).words s)

-- the words of both after the passes
pub record Both : Type 0 where
  pub state : List ℕ
  pub buffer : List ℕ

abbrev pub both : List ℕ → List ℕ → Both
both l s = record { state = l; buffer = s }

abbrev pub released : Passed (List ℕ) → Both
released p = both p.after (buffer_of p.waiting)

abbrev pub release_in : List ℕ → List ℕ → Both
release_in l s = released (release try_vertex l (records_in s))
