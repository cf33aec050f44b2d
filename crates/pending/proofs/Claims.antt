-- The claims about a vertex taken with a pending buffer. Assumes nothing.
use Rattle.std.specs.Prelude.{Ok, Err}
use mathlib.Core.Path.{◌≡◌, refl, sym, ap, ◌∙◌}
use mathlib.Core.Bool.{Bool, true, false, not}
use mathlib.Core.Logic.{◌⊎◌, inl, inr, ⊎_elim}
use mathlib.Core.List.Memᴰ
use mathlib.Core.List.{List, [], ◌∷◌, Sublistᴰ}
use Prim.Native.Nat.{ℕ, ◌≤◌, ◌<◌}
use native.Mathlib.Omega.{arith}
use lib.Dec.{ltb}
use lib.ListN.{length, length-drop}
use borrow.Author.Tests.{eqb-true, eqb-false, eq-eqb, ne_eqb, ltb-true, ltb-false}
use Rattle.record.specs.Refusals.{Verdict, number_of, missing_number, is_missing, first_no}
use Rattle.record.specs.Layout.{record_size, body_place, round_of, source_of, body_of}
use Rattle.record.specs.Questions.{record_refusal}
use Rattle.record.specs.declared.refusal.Refusal.{Refusal}
use Rattle.record.specs.declared.refusal.Refusal.TheVariants.{Duplicate, Conflict, Buffer, BufferFull}
use Rattle.record.proofs.Booleans.{which, never, cond_false}
use Rattle.record.proofs.Turn.{next, refusal_of, both_fronts}
use Rattle.replica.specs.State.{member_count}
use Rattle.replica.specs.Parents.{parents_held}
use Rattle.replica.specs.Status.{state_questions}
use Rattle.replica.proofs.StatusLaws.{state_numbered, state_ok}
use Rattle.replica.proofs.Formed.{WellFormed, formed, well_formed_lem}
use Rattle.ordering.specs.Calls.{vertex_questions, take_body, take_vertex}
use Rattle.ordering.specs.Kept.{LeavesWellFormed}
use Rattle.ordering.proofs.Turns.{state_stops}
use Rattle.ordering.proofs.Numbers.{number_yes, number_no, past_state, decided}
use Rattle.pending.specs.Layout.{buffer_slots}
use Rattle.pending.specs.Buffer.{In, same_record, same_id, some, put_in, count_of, records_in, records_ok, buffer_of, buffer_ok}
use Rattle.pending.specs.Passes.{pass}
use Rattle.pending.specs.Early.{try_vertex, buffered_questions, in_place, refusal_with, release_after, Ending}
use Rattle.pending.specs.Early.{told_with, admitted_with, refused_with, take_vertex_with}
use Rattle.pending.specs.Inner.{refused_in, keep_early}
use Rattle.pending.specs.Claims.{take_in_turn, Admits, NoneIsReady, PassesEnd, EndsAsPlainCalls, LeavesBuffer, KeepsState, KeepsBuffer}
use Rattle.pending.specs.Claims.{Waits, WaitedBefore, Clashes, FindsNoRoom, NotLost}
use Rattle.pending.proofs.Slots.{Laid, laid, records_length}
use Rattle.pending.proofs.Order as order
use Rattle.pending.proofs.Order.{Formed, ok_long, laid_formed, admit}
use Rattle.pending.proofs.Holding.{Later, joined, waiting_lacks}
use Rattle.pending.proofs.Passing.{Good, one_pass, second, pass_later, pass_good, pass_waiting, pass_sublist, pass_in_turn, all_wait, turn_first, Kept}
use Rattle.pending.proofs.Passing.{pass_keeps}
use Rattle.pending.proofs.Putting.{same_words, same_self, some_one, some_off, put_length, put_here, put_others, put_ok}
use Rattle.pending.proofs.Calling.{state_no_parent, in_place_number, with_refused, with_admitted, asked, from_parent}
use Rattle.pending.proofs.Calling.{early_same, early_id, early_full, early_put}

cast_in : {x : List ℕ} {a b : List (List ℕ)} → a ≡ b → In x a → In x b
cast_in e h = rw (← e) h

-- ---- which end a call has

-- the refusal of its questions ahead of those in place of 14
abbrev why : List ℕ → List ℕ → List ℕ → Verdict
why l s rec = first_no (buffered_questions l s rec)

-- with a well-formed state and buffer it is that of a plain vertex call
as_plain_asked : (l s rec : List ℕ) → WellFormed l → buffer_ok (member_count l) s ≡ true
    → why l s rec ≡ first_no (vertex_questions l (round_of rec) (source_of rec) (body_of rec))
as_plain_asked l s rec S b = sym (past_state l _ S) ∙ sym (next Buffer _ b refl) ∙ past_state l _ S

-- it is admitted
pub record Taken (l s rec : List ℕ) : Type 0 where
  pub first : WellFormed l
  pub buffer : Formed (member_count l) s
  pub passes : number_of (first_no (vertex_questions l (round_of rec) (source_of rec) (body_of rec))) ≡ 0
  pub end : take_vertex_with l s rec ≡ admitted_with l (release_after l s rec)

-- or refused
pub record Stopped (l s rec : List ℕ) : Type 0 where
  pub number : number_of (refusal_with l s rec) ≡ 0 → ⊥
  pub end : take_vertex_with l s rec ≡ refused_with (refusal_with l s rec) l s rec

pub end_of : (l s rec : List ℕ) → Taken l s rec ⊎ Stopped l s rec
unfolding take_vertex_with
end_of l s rec = go (decided (why l s rec))
  where
    go : (number_of (why l s rec) ≡ 0) ⊎ (number_of (why l s rec) ≡ 0 → ⊥) → Taken l s rec ⊎ Stopped l s rec
    go (inl z) =
        let a = both_fronts (state_questions l) _ (state_numbered l) z in
        let w = state_ok l a.0 in
        let S = formed l w.0 w.1 in
        let k = asked l s rec S _ refl in
        inl (record {
          first = S;
          buffer = order.formed _ _ (k.buffer a.1);
          passes = k.passes a.1;
          end = sym (with_admitted l s rec _ refl z);
        })
    go (inr h) =
        let n = in_place_number (records_in s) rec (why l s rec) h in
        inr (record { number = n; end = cond_false _ _ (ne_eqb _ 0 n) })

-- with a well-formed buffer, a vertex that no question of a plain call stops has the number 0
pub with_zero : (l s rec : List ℕ) → WellFormed l → buffer_ok (member_count l) s ≡ true
    → number_of (first_no (vertex_questions l (round_of rec) (source_of rec) (body_of rec))) ≡ 0 → Admits l s rec
with_zero l s rec S b z =
    let e : why l s rec ≡ first_no (vertex_questions l (round_of rec) (source_of rec) (body_of rec)) = as_plain_asked l s rec S b in
    ap (λ (x : Ending). x.outcome.number) (sym (with_admitted l s rec _ refl (ap number_of e ∙ z)))

-- a call that answers 0 is admitted
taken : (l s rec : List ℕ) → Admits l s rec → Taken l s rec
taken l s rec e = ⊎_elim (λ t. t) (λ x. absurd (x.number (sym (ap (λ (y : Ending). y.outcome.number) x.end) ∙ e))) (end_of l s rec)

-- ---- an admission

module _ (l s rec : List ℕ) (T : Taken l s rec) where
  abbrev n : ℕ
  n = member_count l

  -- the words that the plain vertex call leaves, and the waiting records as lent
  abbrev m : List ℕ
  m = (take_vertex l rec).words

  abbrev recs : List (List ℕ)
  recs = records_in s

  later : Later l m
  later = (joined l rec T.passes).later

  good : Good n m
  good = record { formed = later.formed; members = later.members }

  ok : records_ok n 0 recs ≡ true
  ok = T.buffer.records

  -- one pass is all passes
  once : release_after l s rec ≡ pass try_vertex m recs
  once = one_pass n m recs good 0 ok

  end : take_vertex_with l s rec ≡ admitted_with l (pass try_vertex m recs)
  end = T.end ∙ ap (admitted_with l) once

  -- those that wait on
  left : List (List ℕ)
  left = (pass try_vertex m recs).waiting

  few : length left ≤ buffer_slots
  unfolding left
  few = omega (arith, (pass_waiting n 0 m recs good ok).1, records_length s 0 (count_of s), T.buffer.few)

  left_ok : records_ok n 0 left ≡ true
  unfolding left
  left_ok = (pass_waiting n 0 m recs good ok).0

  L : Laid left
  L = laid left (ok_long n 0 left left_ok) few

  none_ready : (other : List ℕ) → In other (records_in (take_vertex_with l s rec).buffer)
      → parents_held (take_vertex_with l s rec).outcome.words (round_of other) (body_of other) ≡ false
  unfolding left
  none_ready other h =
      let h' : In other left = cast_in (ap (λ (e : Ending). records_in e.buffer) end ∙ L.records) h in
      ap (λ (e : Ending). parents_held e.outcome.words (round_of other) (body_of other)) end
      ∙ waiting_lacks _ other (pass_good n 0 m recs good ok).formed (all_wait n 0 m recs good ok other h')

  one_more : pass try_vertex (release_after l s rec).after (release_after l s rec).waiting
      ≡ record { after = (release_after l s rec).after; admitted = []; waiting = (release_after l s rec).waiting }
  one_more = rw once (second n m recs good 0 ok)

  as_plain : (take_in_turn l (rec ∷ (release_after l s rec).admitted) ≡ (take_vertex_with l s rec).outcome) × Sublistᴰ (release_after l s rec).admitted recs
  as_plain = rw once (
    turn_first l rec (pass try_vertex m recs).admitted (pass try_vertex m recs).after T.passes (pass_later n 0 m recs good ok)
        (pass_in_turn n 0 m recs good ok) ∙ sym (ap (λ (e : Ending). e.outcome) end),
    pass_sublist n 0 m recs good ok,
  )

  state_after : LeavesWellFormed (take_vertex_with l s rec).outcome
  state_after = let S = (pass_good n 0 m recs good ok).formed in rw end (S.size, well_formed_lem _ S)

  buffer_after : buffer_ok (member_count (take_vertex_with l s rec).outcome.words) (take_vertex_with l s rec).buffer ≡ true
  unfolding left
  buffer_after = rw (end, (pass_good n 0 m recs good ok).members) (laid_formed n left left_ok few)

pub none_is_ready : NoneIsReady
none_is_ready l s rec e = none_ready l s rec (taken l s rec e)

pub passes_end : PassesEnd
passes_end l s rec e = one_more l s rec (taken l s rec e)

pub ends_as_plain_calls : EndsAsPlainCalls
ends_as_plain_calls l s rec e = as_plain l s rec (taken l s rec e)

-- ---- a refusal

pub leaves_buffer : LeavesBuffer
leaves_buffer l s rec h k = ⊎_elim
    (λ T. absurd (h (ap (λ (e : Ending). e.outcome.number) T.end)))
    (λ x. ap (λ (e : Ending). e.buffer) x.end ∙ cond_false _ _ (ne_eqb _ missing_number (λ m. k (ap (λ (e : Ending). e.outcome.number) x.end ∙ m))))
    (end_of l s rec)

-- ---- whatever the answer

pub keeps_state : KeepsState
keeps_state l s rec a b = ⊎_elim (state_after l s rec) (λ x. rw x.end (a, b)) (end_of l s rec)

-- what plain vertex calls keep, the call keeps
pub with_keeps : (P : List ℕ → Type 0) → Kept P → (l s rec : List ℕ) → P l → P (take_vertex_with l s rec).outcome.words
with_keeps P h l s rec x = ⊎_elim
    (λ T. rw (end l s rec T) (pass_keeps P h (records_in s) (take_vertex l rec).words (later l s rec T).formed (h l rec T.first x)))
    (λ y. rw y.end x) (end_of l s rec)

-- what 14 of the call says
record Early (l s rec : List ℕ) : Type 0 where
  first : WellFormed l
  passes : number_of (record_refusal (member_count l) rec) ≡ 0
  new : some (same_id rec) (records_in s) ≡ false
  room : length (records_in s) < buffer_slots

-- the questions in place of 14, where they give 14
in_place_missing : (recs : List (List ℕ)) (rec : List ℕ) (x : Verdict) → is_missing (in_place recs rec x) ≡ true
    → (is_missing x ≡ true) × (some (same_id rec) recs ≡ false) × (length recs < buffer_slots)
unfolding in_place first_no
in_place_missing recs rec (Ok passed) e = never e refl
in_place_missing recs rec (Err x) e = go (which (is_missing (Err x)))
  where
    early : (a b c : Bool) → some (same_record rec) recs ≡ a → some (same_id rec) recs ≡ b → ltb (length recs) buffer_slots ≡ c
        → is_missing (first_no ((not a, Duplicate) ∷ (not b, Conflict) ∷ (c, BufferFull) ∷ (false, x) ∷ [])) ≡ true
        → (some (same_id rec) recs ≡ false) × (length recs < buffer_slots)
    early true b c p q r h = never h refl
    early false true c p q r h = never h refl
    early false false false p q r h = never h refl
    early false false true p q r h = (q, ltb-true (length recs) buffer_slots r)

    go : (is_missing (Err x) ≡ true) ⊎ (is_missing (Err x) ≡ false) → (is_missing (Err x) ≡ true) × (some (same_id rec) recs
        ≡ false) × (length recs < buffer_slots)
    go (inl m) = let w = early _ _ _ refl refl refl (rw m at e) in (m, w.0, w.1)
    go (inr m) = never (rw m at e) m

-- the questions before them, where they give 14
missing_formed : (l s rec : List ℕ) → is_missing (why l s rec) ≡ true → WellFormed l × (number_of (record_refusal (member_count l) rec) ≡ 0)
missing_formed l s rec m = go (decided (first_no (state_questions l)))
  where
    go : (number_of (first_no (state_questions l)) ≡ 0) ⊎ (number_of (first_no (state_questions l)) ≡ 0 → ⊥)
        → WellFormed l × (number_of (record_refusal (member_count l) rec) ≡ 0)
    go (inl z) =
        let w = state_ok l z in
        let S = formed l w.0 w.1 in
        (S, (from_parent l s rec S _ refl (ap is_missing (past_state l _ S) ∙ m)).1)
    go (inr h) = never (ap is_missing (state_stops l _ refl _ h) ∙ m) (state_no_parent l)

early_known : (l s rec : List ℕ) → is_missing (refusal_with l s rec) ≡ true → Early l s rec
early_known l s rec e =
    let a = in_place_missing (records_in s) rec (why l s rec) e in
    let b = missing_formed l s rec a.0 in
    record { first = b.0; passes = b.1; new = a.1; room = a.2 }

-- the buffer with a record put in
put_formed : (l s rec : List ℕ) → Early l s rec → buffer_ok (member_count l) s ≡ true
    → buffer_ok (member_count l) (buffer_of (put_in rec (records_in s))) ≡ true
put_formed l s rec E b =
    let F = order.formed (member_count l) s b in
    let A = admit (member_count l) rec E.passes in
    laid_formed (member_count l) (put_in rec (records_in s))
    (put_ok (member_count l) 0 rec (records_in s) E.passes (omega (arith, A.round_low)) F.records E.new)
    (omega (arith, put_length rec (records_in s), E.room))

pub keeps_buffer : KeepsBuffer
keeps_buffer l s rec b = ⊎_elim (buffer_after l s rec) (λ x. rw x.end (go (which (is_missing (refusal_with l s rec))))) (end_of l s rec)
  where
    go : (is_missing (refusal_with l s rec) ≡ true) ⊎ (is_missing (refusal_with l s rec) ≡ false)
        → buffer_ok (member_count l) (refused_with (refusal_with l s rec) l s rec).buffer ≡ true
    go (inl m) = rw m (put_formed l s rec (early_known l s rec m) b)
    go (inr m) = rw m b

-- ---- a record whose parents are missing

module _ (l s rec : List ℕ) (b : buffer_ok (member_count l) s ≡ true) (e : (take_vertex l rec).number ≡ missing_number) where
  abbrev plain : Verdict
  plain = first_no (vertex_questions l (round_of rec) (source_of rec) (body_of rec))

  plain_missing : is_missing plain ≡ true
  unfolding take_body
  plain_missing = ⊎_elim (λ z. absurd (eqb-false 0 14 refl (sym (number_yes plain l _ z) ∙ e)))
      (λ h. eq-eqb _ _ (sym (number_no plain l _ h) ∙ e)) (decided plain)

  first : WellFormed l
  first = go (decided (first_no (state_questions l)))
    where
      go : (number_of (first_no (state_questions l)) ≡ 0) ⊎ (number_of (first_no (state_questions l)) ≡ 0 → ⊥) → WellFormed l
      go (inl z) = let w = state_ok l z in formed l w.0 w.1
      go (inr h) = never (ap is_missing (state_stops l _ refl _ h) ∙ plain_missing) (state_no_parent l)

  -- with the buffer the same question stops it
  same : why l s rec ≡ plain
  same = as_plain_asked l s rec first b

  missing : is_missing (why l s rec) ≡ true
  missing = ap is_missing same ∙ plain_missing

  stopped : number_of (why l s rec) ≡ 0 → ⊥
  stopped z = eqb-false 0 14 refl (sym z ∙ eqb-true _ _ missing)

  -- so there is a refusal
  abbrev refusal : Refusal
  refusal = (refusal_of (why l s rec) stopped).0

  refused : why l s rec ≡ Err refusal
  refused = (refusal_of (why l s rec) stopped).1

  early : is_missing (Err refusal) ≡ true
  early = sym (ap is_missing refused) ∙ missing

  F : Formed (member_count l) s
  F = order.formed (member_count l) s b

  passes : number_of (record_refusal (member_count l) rec) ≡ 0
  passes = (missing_formed l s rec missing).1

  long : length rec ≡ record_size
  long = omega (arith, (admit (member_count l) rec passes).size, length-drop body_place rec)

  abbrev waiting : List (List ℕ)
  waiting = records_in s

  abbrev ending : Ending
  ending = take_vertex_with l s rec

  -- the call with the refusal x, which leaves the buffer t
  ended : (x : Refusal) (t : List ℕ) → refused_in (Err x) t ≡ keep_early s rec (Err refusal) → told_with (Err x) l t ≡ ending
  ended x t d = with_refused l s rec _ refl stopped x t (d ∙ ap (keep_early s rec) (sym refused)) _ refl

  again : some (same_record rec) waiting ≡ true → WaitedBefore ending rec
  again a =
      let d = ended Duplicate s (early_same s rec _ early a) in
      let w = some_one (same_record rec) waiting a in
      let i : rec ≡ w.rec = same_words rec w.rec long (ok_long (member_count l) 0 waiting F.records w.rec w.there) w.passes in
      rw (← d) (record { number = refl; there = Memᴰ.cast i w.there })

  module _ (a : some (same_record rec) waiting ≡ false) where
    clashes : some (same_id rec) waiting ≡ true → Clashes ending rec
    clashes c =
        let d = ended Conflict s (early_id s rec _ early a c) in
        let w = some_one (same_id rec) waiting c in
        rw (← d) (record {
          number = refl;
          other = w.rec;
          there = w.there;
          same_id = sym (eqb-true _ _ w.passes);
          differs = λ i. never (same_self rec) (ap (same_record rec) (sym i) ∙ some_off (same_record rec) waiting a w.rec w.there);
        })

    module _ (c : some (same_id rec) waiting ≡ false) where
      full : buffer_slots ≤ length waiting → FindsNoRoom ending rec
      full k =
          let size = records_length s 0 (count_of s) in
          let d = ended BufferFull s (early_full s rec _ early a c (omega arith)) in
          rw (← d) (record {
            number = refl;
            full = omega (arith, F.few, size);
            new = λ x h i. eqb-false _ _ (some_off (same_id rec) waiting c x h) (sym i);
          })

      waits : length waiting < buffer_slots → Waits ending s rec
      waits k =
          let size = records_length s 0 (count_of s) in
          let d = ended refusal (buffer_of (put_in rec waiting)) (early_put s rec _ early a c (omega arith) _ refl) in
          let ok = put_ok (member_count l) 0 rec waiting passes (omega (arith, (admit (member_count l) rec passes).round_low)) F.records c in
          let L = laid (put_in rec waiting) (ok_long (member_count l) 0 (put_in rec waiting) ok) (omega (arith, put_length rec waiting)) in
          rw (← d) (record {
            number = eqb-true _ _ early;
            there = cast_in (sym L.records) (put_here rec waiting);
            others = λ x h. cast_in (sym L.records) (put_others rec x waiting h);
          })

  found : Waits ending s rec ⊎ (WaitedBefore ending rec ⊎ (Clashes ending rec ⊎ FindsNoRoom ending rec))
  found = go (which (some (same_record rec) waiting)) (which (some (same_id rec) waiting)) (which (ltb (length waiting) buffer_slots))
    where
      go : (some (same_record rec) waiting ≡ true) ⊎ (some (same_record rec) waiting ≡ false)
          → (some (same_id rec) waiting ≡ true) ⊎ (some (same_id rec) waiting ≡ false)
          → (ltb (length waiting) buffer_slots ≡ true) ⊎ (ltb (length waiting) buffer_slots ≡ false)
          → Waits ending s rec ⊎ (WaitedBefore ending rec ⊎ (Clashes ending rec ⊎ FindsNoRoom ending rec))
      go (inl a) c k = inr (inl (again a))
      go (inr a) (inl c) k = inr (inr (inl (clashes a c)))
      go (inr a) (inr c) (inl k) = inl (waits a c (ltb-true _ _ k))
      go (inr a) (inr c) (inr k) = inr (inr (inr (full a c (ltb-false _ _ k))))

pub not_lost : NotLost
not_lost l s rec b e = found l s rec b e
