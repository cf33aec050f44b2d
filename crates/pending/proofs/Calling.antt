-- The call put together: its questions, a record whose parent is missing, and an admission. Assumes nothing.
use Rattle.std.specs.Prelude.{Result, Ok, Err}
use mathlib.Core.Path.{◌≡◌, refl, sym, ap, ap₂, ◌∙◌}
use mathlib.Core.Bool.{Bool, true, false, not, ◌||◌}
use mathlib.Core.Logic.{◌⊎◌, inl, inr, ⊎_elim}
use mathlib.Core.List.{List, [], ◌∷◌}
use Prim.Native.Nat.{ℕ, ◌-◌, ◌≤◌, ◌<◌}
use native.Mathlib.Omega.{arith}
use lib.Dec.{eqb, ltb}
use lib.ListN.{length, get_or, drop}
use borrow.Author.Tests.{not-true, eqb-true, eqb-false, eq-eqb, ne_eqb, ltb-true, ltb-false, lt-ltb, le-ltb}
use Rattle.record.specs.Members.{id_of}
use Rattle.record.specs.Refusals.{Verdict, no_refusal, number_of, is_missing, first_no}
use Rattle.record.specs.Layout.{record_size, round_of, source_of, body_of, round_place, source_place}
use Rattle.record.specs.Questions.{record_refusal}
use Rattle.record.specs.declared.refusal.Refusal.{Refusal}
use Rattle.record.specs.declared.refusal.Refusal.TheVariants.{StateSize, Malformed, Duplicate, Conflict, Buffer, BufferFull}
use Rattle.record.proofs.Booleans.{which, never, cond_true, cond_false}
use Rattle.record.proofs.Below.{all_elim}
use Rattle.record.proofs.Turn.{never_zero, next, stop, front_err, both_yes, last_number_law}
use Rattle.replica.specs.Layout.{state_size}
use Rattle.replica.specs.State.{member_count, leader_count, journal_count}
use Rattle.replica.specs.WellFormed.{well_formed}
use Rattle.replica.specs.Outcome.{Outcome, told, unchanged}
use Rattle.replica.specs.Status.{state_questions}
use Rattle.replica.specs.declared.answer.Added.{Added}
use Rattle.replica.proofs.Formed.{WellFormed, well_formed_lem}
use Rattle.ordering.specs.Calls.{vertex_questions, take_vertex}
use Rattle.ordering.specs.Inner.{Unstopped}
use Rattle.ordering.proofs.Turns.{record_stops}
use Rattle.ordering.proofs.Numbers.{past_state, decided}
use Rattle.pending.specs.Layout.{buffer_slots}
use Rattle.pending.specs.Buffer.{record_id, same_record, same_id, some, put_in, count_of, record_at, records_from, records_in, records_ok, buffer_of, buffer_ok}
use Rattle.pending.specs.Passes.{Passed}
use Rattle.pending.specs.Early.{later_questions, buffered_questions, waiting_questions, early_questions, in_place, refusal_with, release_after}
use Rattle.pending.specs.Early.{told_with, admitted_with, take_vertex_with}
use Rattle.pending.specs.Inner.{rank, Keepable, Refused, refused_in, keep_early, Standing, Both, both, release_in}
use Rattle.pending.proofs.Slots.{or-false, records_length, records_at, records_end}
use Rattle.pending.proofs.Order.{Formed, formed, First, ok_first, rank_le, bounded}
use Rattle.pending.proofs.Upward.{records_drop}
use Rattle.pending.proofs.Holding.{Later, later_then, joined}
use Rattle.pending.proofs.Passing.{Good, one_pass, pass_later}

-- ---- a record of the same id among those that rise

-- the same record has the same id
same_ids : (rec other : List ℕ) → same_record rec other ≡ true → record_id rec ≡ record_id other
unfolding same_record
same_ids rec other e =
    let word : (i : ℕ) → i < record_size → get_or rec i 0 ≡ get_or other i 0 =
    λ i h. eqb-true _ _ (all_elim record_size (λ k. eqb (get_or rec k 0) (get_or other k 0)) e i h) in
    ap₂ id_of (word round_place (omega arith)) (word source_place (omega arith))

-- a test that only a record of the same id passes
pub record Tells (rec : List ℕ) (t : List ℕ → Bool) : Type 0 where
  pub only : (other : List ℕ) → t other ≡ true → record_id rec ≡ record_id other

pub tells_same : (rec : List ℕ) → Tells rec (same_record rec)
tells_same rec = record { only = same_ids rec }

pub tells_id : (rec : List ℕ) → Tells rec (same_id rec)
tells_id rec = record { only = λ other e. eqb-true _ _ e }

or_none : (a : Bool) {b : Bool} → b ≡ false → (a || b) ≡ a
or_none true e = refl
or_none false e = e

-- the test of the first record
abbrev head_passes : (List ℕ → Bool) → List (List ℕ) → Bool
head_passes t [] = false
head_passes t (rec ∷ recs) = t rec

module _ (rec : List ℕ) (t : List ℕ → Bool) (T : Tells rec t) where
  differs : (other : List ℕ) → (record_id rec ≡ record_id other → ⊥) → t other ≡ false
  differs other d = ⊎_elim (λ e. absurd (d (T.only other e))) (λ e. e) (which (t other))

  -- none passes above its id
  none_above : (n low : ℕ) (recs : List (List ℕ)) → records_ok n low recs ≡ true → record_id rec ≤ low → some t recs ≡ false
  unfolding some
  none_above n low [] e h = refl
  none_above n low (other ∷ recs) e h =
      let f = ok_first n low other recs e in
      or-false (differs other (λ d. omega (arith, f.above))) (none_above n (record_id other) recs f.others (omega (arith, f.above)))

  -- one passes where the record at its place does
  pub some_at : (n low : ℕ) (recs : List (List ℕ)) → records_ok n low recs ≡ true → some t recs ≡ head_passes t (drop (rank recs (record_id rec)) recs)
  unfolding some rank
  some_at n low [] e = refl
  some_at n low (other ∷ recs) e =
      let f = ok_first n low other recs e in
      go f (which (ltb (record_id other) (record_id rec))) (some_at n (record_id other) recs f.others)
    where
      go : First n low other recs → (ltb (record_id other) (record_id rec) ≡ true) ⊎ (ltb (record_id other) (record_id rec) ≡ false)
          → some t recs ≡ head_passes t (drop (rank recs (record_id rec)) recs)
          → some t (other ∷ recs) ≡ head_passes t (drop (rank (other ∷ recs) (record_id rec)) (other ∷ recs))
      go f (inl h) ih = let z : t other ≡ false = differs other (λ d. omega (arith, ltb-true (record_id other) (record_id rec) h)) in rw (h, z) ih
      go f (inr h) ih = rw h (or_none (t other) (none_above n (record_id other) recs f.others (ltb-false _ _ h)))

-- by its slot
module _ (n : ℕ) (s rec : List ℕ) (j : ℕ) (F : Formed n s) (d : j ≡ rank (records_in s) (record_id rec)) (t : List ℕ → Bool) (T : Tells rec t) where
  at_place : some t (records_in s) ≡ head_passes t (records_from s j (count_of s - j))
  at_place =
      let le : j ≤ count_of s = omega (arith, d, rank_le (records_in s) (record_id rec), records_length s 0 (count_of s)) in
      some_at rec t T n 0 (records_in s) F.records ∙ ap (λ (i : ℕ). head_passes t (drop i (records_in s))) (sym d)
      ∙ ap (head_passes t) (records_drop s j (count_of s) le)

  pub none_there : count_of s ≤ j → false ≡ some t (records_in s)
  none_there h = sym (at_place ∙ ap (head_passes t) (records_end s j (count_of s) h))

  pub one_there : j < count_of s → t (record_at s j) ≡ some t (records_in s)
  one_there h = sym (at_place ∙ ap (head_passes t) (records_at s j (count_of s) h))

-- ---- in place of 14

module _ (s rec : List ℕ) (why : Refusal) where
  abbrev recs : List (List ℕ)
  recs = records_in s

  -- a refusal with another number stays
  pub early_other : is_missing (Err why) ≡ false → refused_in (Err why) s ≡ keep_early s rec (Err why)
  unfolding in_place
  early_other h = rw (h, h)

  -- no record of its id waits
  pub waits_none : no_refusal ≡ first_no (waiting_questions recs rec) → (some (same_record rec) recs ≡ false) × (some (same_id rec) recs ≡ false)
  waits_none d =
      let a = both_yes (not (some (same_record rec) recs)) Duplicate _ (never_zero Duplicate) (ap number_of (sym d)) in
      let b = both_yes (not (some (same_id rec) recs)) Conflict _ (never_zero Conflict) a.1 in
      (not-true _ a.0, not-true _ b.0)

  module _ (h : is_missing (Err why) ≡ true) where
    answered : (x : Refusal) → Err x ≡ first_no (early_questions recs rec why) → is_missing (Err x) ≡ false → refused_in (Err x) s ≡ keep_early s rec (Err why)
    unfolding in_place
    answered x d e = rw (h, ← d, e)

    -- a record of the same id waits
    pub early_waits : (x : Refusal) → Err x ≡ first_no (waiting_questions recs rec) → refused_in (Err x) s ≡ keep_early s rec (Err why)
    unfolding first_no
    early_waits x d = answered x (sym (front_err (waiting_questions recs rec) _ (sym d)))
        (ap is_missing d ∙ other (not (some (same_record rec) recs)) (not (some (same_id rec) recs)))
      where
        other : (a b : Bool) → is_missing (first_no ((a, Duplicate) ∷ (b, Conflict) ∷ [])) ≡ false
        other true true = refl
        other true false = refl
        other false b = refl

    pub early_same : some (same_record rec) recs ≡ true → refused_in (Err Duplicate) s ≡ keep_early s rec (Err why)
    early_same a = answered Duplicate (stop _ _ (ap not a)) refl

    module _ (a : some (same_record rec) recs ≡ false) where
      pub early_id : some (same_id rec) recs ≡ true → refused_in (Err Conflict) s ≡ keep_early s rec (Err why)
      early_id b = answered Conflict (next _ _ (ap not a) (stop _ _ (ap not b))) refl

      module _ (b : some (same_id rec) recs ≡ false) where
        pub early_full : buffer_slots ≤ count_of s
            → refused_in (Err BufferFull) s ≡ keep_early s rec (Err why)
        early_full k =
            let off : ltb (length recs) buffer_slots ≡ false = le-ltb (length recs) buffer_slots (omega (arith, records_length s 0 (count_of s))) in
            answered BufferFull (next _ _ (ap not a) (next _ _ (ap not b) (stop _ _ off))) refl

        pub early_put : count_of s < buffer_slots → (t : List ℕ) → t ≡ buffer_of (put_in rec recs) → refused_in (Err why) t ≡ keep_early s rec (Err why)
        unfolding in_place
        early_put k t e =
            let f : Err why ≡ first_no (early_questions recs rec why) = next _ _ (ap not a) (next _ _ (ap not b)
            (next _ _ (lt-ltb (length recs) buffer_slots (omega (arith, records_length s 0 (count_of s)))) (stop _ _ refl))) in
            rw (h, ← f, h, e)

-- ---- the questions in turn

-- the state's give no 14
pub state_no_parent : (l : List ℕ) → is_missing (first_no (state_questions l)) ≡ false
unfolding first_no
state_no_parent l = go (eqb (length l) state_size) (well_formed l)
  where
    go : (a b : Bool) → is_missing (first_no ((a, StateSize) ∷ (b, Malformed) ∷ [])) ≡ false
    go true true = refl
    go true false = refl
    go false b = refl

-- nor do the record's own
record_no_parent : (n : ℕ) (rec : List ℕ) → is_missing (record_refusal n rec) ≡ false
record_no_parent n rec =
    let a : number_of (record_refusal n rec) ≤ 11 = last_number_law n (round_of rec) (source_of rec) (body_of rec) in
    ne_eqb (number_of (record_refusal n rec)) 14 (λ e. omega (arith, a, e))

-- in place of any other number than 0 comes no 0
pub in_place_number : (recs : List (List ℕ)) (rec : List ℕ) (why : Verdict) → (number_of why ≡ 0 → ⊥) → number_of (in_place recs rec why) ≡ 0 → ⊥
unfolding in_place first_no
in_place_number recs rec (Ok passed) h = h
in_place_number recs rec (Err why) h = go (which (is_missing (Err why)))
  where
    early : (a b c : Bool) → number_of (first_no ((a, Duplicate) ∷ (b, Conflict) ∷ (c, BufferFull) ∷ (false, why) ∷ [])) ≡ 0 → ⊥
    early false b c e = eqb-false 12 0 refl e
    early true false c e = eqb-false 13 0 refl e
    early true true false e = eqb-false 20 0 refl e
    early true true true e = h e

    go : (is_missing (Err why) ≡ true) ⊎ (is_missing (Err why) ≡ false) → number_of (in_place recs rec (Err why)) ≡ 0 → ⊥
    go (inl m) e = early (not (some (same_record rec) recs)) (not (some (same_id rec) recs)) (ltb (length recs) buffer_slots) (rw m at e)
    go (inr m) e = h (rw m at e)

-- 0 stays 0
in_place_zero : (recs : List (List ℕ)) (rec : List ℕ) (why : Verdict) → number_of why ≡ 0 → in_place recs rec why ≡ why
unfolding in_place
in_place_zero _ rec (Ok passed) e = refl
in_place_zero _ rec (Err why) e = absurd (never_zero why e)

-- ---- what the call ends in

module _ (l s rec : List ℕ) (why : Verdict) (e : why ≡ first_no (buffered_questions l s rec)) where
  pub with_refused : (number_of why ≡ 0 → ⊥) → (x : Refusal) (t : List ℕ) → refused_in (Err x) t ≡ keep_early s rec why → (a : Result Added Refusal) → a ≡ Err x
      → told_with a l t ≡ take_vertex_with l s rec
  unfolding take_vertex_with
  with_refused h x t d a f =
      let z : (number_of (refusal_with l s rec) ≡ 0 → ⊥) = rw (← e) (in_place_number (records_in s) rec why h) in
      let k : keep_early s rec why ≡ keep_early s rec (first_no (buffered_questions l s rec)) = ap (keep_early s rec) e in
      ap (λ (b : Result Added Refusal). told_with b l t) f ∙ ap (λ (r : Refused). record { outcome = unchanged r.why l; buffer = r.buffer }) (d ∙ k)
      ∙ sym (cond_false _ _ (ne_eqb _ 0 z))

  pub with_admitted : number_of why ≡ 0 → admitted_with l (release_after l s rec) ≡ take_vertex_with l s rec
  unfolding take_vertex_with
  with_admitted h =
      let z : number_of (refusal_with l s rec) ≡ 0 = rw (← e) (ap number_of (in_place_zero (records_in s) rec why h) ∙ h) in
      sym (cond_true _ _ (eq-eqb _ 0 z))

-- ---- where no question of the state stops it

-- what is known of the questions after the state's
pub record Asked (l s rec : List ℕ) (why : Verdict) : Type 0 where
  -- with 14 the buffer is well formed and the record passes its own questions
  pub early : (w : Refusal) → why ≡ Err w → Keepable s rec w
  -- with 0 the buffer is well formed, and a plain vertex call admits the record
  pub buffer : number_of why ≡ 0 → buffer_ok (member_count l) s ≡ true
  pub passes : number_of why ≡ 0 → number_of (first_no (vertex_questions l (round_of rec) (source_of rec) (body_of rec))) ≡ 0

module _ (l s rec : List ℕ) (S : WellFormed l) (why : Verdict)
    (e : why ≡ first_no (later_questions l s (member_count l) rec)) where
  -- 14 is neither the buffer's nor the record's own
  pub from_parent : is_missing why ≡ true → (buffer_ok (member_count l) s ≡ true) × (number_of (record_refusal (member_count l) rec) ≡ 0)
  unfolding first_no
  from_parent m = go (which (buffer_ok (member_count l) s)) (decided (record_refusal (member_count l) rec))
    where
      go : (buffer_ok (member_count l) s ≡ true) ⊎ (buffer_ok (member_count l) s ≡ false)
          → (number_of (record_refusal (member_count l) rec) ≡ 0) ⊎ (number_of (record_refusal (member_count l) rec) ≡ 0 → ⊥)
          → (buffer_ok (member_count l) s ≡ true) × (number_of (record_refusal (member_count l) rec) ≡ 0)
      go (inl b) (inl r) = (b, r)
      go (inl b) (inr r) =
          let f : why ≡ record_refusal (member_count l) rec = e ∙ rw b (sym (record_stops (member_count l) rec _ _ refl r)) in
          never m (ap is_missing f ∙ record_no_parent (member_count l) rec)
      go (inr b) r = let f : why ≡ Err Buffer = e ∙ rw b in never m (ap is_missing f)

  pub asked : Asked l s rec why
  asked = record {
    early = λ w d. record {
      sound = λ m. record { members = member_count l; legit = S.front.members; formed = (from_parent (ap is_missing d ∙ m)).0 };
      bounded = λ m. bounded (member_count l) rec S.front.members (from_parent (ap is_missing d ∙ m)).1;
    };
    buffer = λ h. (both_yes _ _ _ (eqb-false 19 0 refl) (sym (ap number_of e) ∙ h)).0;
    passes = λ h. ap number_of (sym (past_state l _ S)) ∙ (both_yes _ _ _ (eqb-false 19 0 refl) (sym (ap number_of e) ∙ h)).1;
  }

-- ---- an admission

-- what each step of the code may use
pub record Admitting (l s rec : List ℕ) (n : ℕ) (m : List ℕ) : Type 0 where
  pub standing : Standing m n
  pub grown : (k t : List ℕ) → both k t ≡ release_in m s → Later l k
  pub done : (k t : List ℕ) → both k t ≡ release_in m s
      → told_with (Ok (record { leaders = leader_count k - leader_count l; journal = journal_count k - journal_count l })) k t
      ≡ admitted_with l (release_after l s rec)

pub admitting : (l s rec : List ℕ) (n : ℕ) (m : List ℕ) (a : Added) → Unstopped l n rec → buffer_ok n s ≡ true → told (Ok a) m ≡ take_vertex l rec
    → Admitting l s rec n m
admitting l s rec n m a U b e =
    let w : m ≡ (take_vertex l rec).words = ap (λ (o : Outcome). o.words) e in
    let J = joined l rec U.passed in
    let L : Later l m = rw w J.later in
    let N : member_count m ≡ n = L.members ∙ sym U.members in
    let G : Good n m = record { formed = L.formed; members = N } in
    let F = formed n s b in
    record {
      standing = record { size = L.formed.size; formed = well_formed_lem m L.formed; members = sym N };
      grown = λ k t d. later_then L (rw (ap (λ (x : Both). x.state) d ∙ ap (λ (p : Passed (List ℕ)). p.after) (one_pass n m (records_in s) G 0 F.records))
          (pass_later n 0 m (records_in s) G F.records));
      done = λ k t d. ap (λ (x : Both). told_with (Ok (record {
        leaders = leader_count x.state - leader_count l;
        journal = journal_count x.state - journal_count l;
      })) x.state x.buffer) (d ∙ ap (λ (x : List ℕ). release_in x s) w);
    }
