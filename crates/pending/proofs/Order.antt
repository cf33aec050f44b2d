-- Waiting records by rising ids: the test of a buffer, a record's place among them, and a record put in. Assumes nothing.
use mathlib.Core.Path.{◌≡◌, refl, sym, ap, ◌∙◌}
use mathlib.Core.Bool.{Bool, true, false, not, ◌&&◌, ◌||◌}
use mathlib.Core.Logic.{◌⊎◌, inl, inr, ⊎_elim}
use mathlib.Core.List.Memᴰ
use mathlib.Core.List.{List, [], ◌∷◌, ◌++◌}
use Prim.Native.Nat.{ℕ, zero, suc, ◌+◌, ◌-◌, ◌≤◌, ◌<◌}
use native.Mathlib.Omega.{arith}
use lib.Dec.{eqb, leb, ltb}
use lib.ListN.{length, get_or, take, drop, length-drop}
use lib.Seq.{get_or-take, get_or-drop, length-take-le}
use borrow.Author.Tests.{eqb-true, eq-eqb, ne_eqb, ltb-true, ltb-false, lt-ltb, le-ltb, leb-true, le-leb, lt-leb}
use Rattle.record.specs.Below.{all}
use Rattle.record.specs.Members.{legal}
use Rattle.record.specs.Refusals.{number_of}
use Rattle.record.specs.Layout.{body_place, round_of, source_of, body_of}
use Rattle.record.specs.Questions.{record_refusal}
use Rattle.record.specs.Admitted.{Admitted}
use Rattle.record.proofs.Booleans.{which, and_left, and_right, and_both, and_fails_left, and_fails_right, or_cases, or_left, or_right, passed, failed}
use Rattle.record.proofs.Below.{all_elim, all_intro, all_cong, all_join}
use Rattle.record.proofs.Masks.{legal_range}
use Rattle.record.proofs.Turn as turn
use Rattle.pending.specs.Layout.{buffer_size, buffer_slots, slot_at}
use Rattle.pending.specs.Buffer.{In, record_id, put_in, count_of, record_at, records_from, records_in, records_ok, rest_zero, buffer_ok}
use Rattle.pending.specs.Buffer.{buffer_of}
use Rattle.pending.specs.Inner.{Bounded, Sound, rank}
use Rattle.pending.proofs.Slots.{Long, Zeros, laid, records_at, records_end}

-- ---- a record that passes its own questions

-- what they say of it, among n members
pub admit : (n : ℕ) (rec : List ℕ) → number_of (record_refusal n rec) ≡ 0 → Admitted n (round_of rec) (source_of rec) (body_of rec)
admit n rec e = turn.admitted n (round_of rec) (source_of rec) (body_of rec) e

pub bounded : (n : ℕ) (rec : List ℕ) → legal n ≡ true → number_of (record_refusal n rec) ≡ 0 → Bounded rec
bounded n rec g e =
    let a = admit n rec e in
    record {
      size = omega (arith, a.size, length-drop body_place rec);
      round = a.round_high;
      source = omega (arith, a.source_low, (legal_range n g).high);
    }

-- ---- the loop of the test: what is left to test, from slot j on

module _ (n low : ℕ) (s : List ℕ) (j c : ℕ) (h : j < c) where
  abbrev rest : List (List ℕ)
  rest = records_from s j (c - j)

  ok_step : records_ok n low rest ≡ ((eqb (number_of (record_refusal n (record_at s j))) 0 && ltb low (record_id (record_at s j)))
      && records_ok n (record_id (record_at s j)) (records_from s (j + 1) (c - (j + 1))))
  unfolding records_ok
  ok_step = ap (records_ok n low) (records_at s j c h)

  -- a question stops it, or the id does
  pub ok_refused : (number_of (record_refusal n (record_at s j)) ≡ 0 → ⊥) → records_ok n low rest ≡ false
  ok_refused d = ok_step ∙ and_fails_left _ (and_fails_left _ (ne_eqb _ 0 d))

  pub ok_low : record_id (record_at s j) ≤ low → records_ok n low rest ≡ false
  ok_low d = ok_step ∙ and_fails_left _ (and_fails_right (eqb (number_of (record_refusal n (record_at s j))) 0) (le-ltb low _ d))

  -- or the rest decide
  pub ok_next : number_of (record_refusal n (record_at s j)) ≡ 0 → low < record_id (record_at s j)
      → records_ok n (record_id (record_at s j)) (records_from s (j + 1) (c - (j + 1))) ≡ records_ok n low rest
  ok_next d e = sym (ok_step ∙ rw (eq-eqb _ 0 d, lt-ltb low _ e))

pub ok_end : (n low : ℕ) (s : List ℕ) (j c : ℕ) → c ≤ j → records_ok n low (records_from s j (c - j)) ≡ true
unfolding records_ok
ok_end n low s j c h = ap (records_ok n low) (records_end s j c h)

-- ---- what the test says

-- of records that rise from above low, the first
pub record First (n low : ℕ) (rec : List ℕ) (recs : List (List ℕ)) : Type 0 where
  pub passes : number_of (record_refusal n rec) ≡ 0
  pub above : low < record_id rec
  pub others : records_ok n (record_id rec) recs ≡ true

pub ok_first : (n low : ℕ) (rec : List ℕ) (recs : List (List ℕ)) → records_ok n low (rec ∷ recs) ≡ true → First n low rec recs
unfolding records_ok
ok_first n low rec recs e =
    let t = and_left (eqb (number_of (record_refusal n rec)) 0 && ltb low (record_id rec)) _ e in
    record {
      passes = eqb-true _ 0 (and_left _ _ t);
      above = ltb-true low _ (and_right (eqb (number_of (record_refusal n rec)) 0) _ t);
      others = and_right (eqb (number_of (record_refusal n rec)) 0 && ltb low (record_id rec)) _ e;
    }

pub first_ok : (n low : ℕ) (rec : List ℕ) (recs : List (List ℕ)) → First n low rec recs → records_ok n low (rec ∷ recs) ≡ true
unfolding records_ok
first_ok n low rec recs f = and_both (and_both (eq-eqb _ 0 f.passes) (lt-ltb low _ f.above)) f.others

-- a lower number will do
pub ok_lower : (n low less : ℕ) (recs : List (List ℕ)) → less ≤ low → records_ok n low recs ≡ true → records_ok n less recs ≡ true
unfolding records_ok
ok_lower n low less [] h e = refl
ok_lower n low less (rec ∷ recs) h e =
    let f = ok_first n low rec recs e in
    first_ok n less rec recs (record { passes = f.passes; above = omega (arith, f.above); others = f.others })

-- of each record: it passes its own questions, and its id is above low
pub ok_each : (n low : ℕ) (recs : List (List ℕ)) → records_ok n low recs ≡ true → (rec : List ℕ) → In rec recs
    → (number_of (record_refusal n rec) ≡ 0) × (low < record_id rec)
ok_each n low [] e rec h = absurd (Memᴰ.not-nil h)
ok_each n low (first ∷ recs) e rec h =
    let f = ok_first n low first recs e in
    ⊎_elim (λ d. rw d (f.passes, f.above))
    (λ m. let w = ok_each n (record_id first) recs f.others rec m in (w.0, omega (arith, w.1, f.above))) (Memᴰ.cases_cons h)

pub ok_long : (n low : ℕ) (recs : List (List ℕ)) → records_ok n low recs ≡ true → Long recs
ok_long n low recs e rec h =
    let a = admit n rec (ok_each n low recs e rec h).0 in
    omega (arith, a.size, length-drop body_place rec)

-- ---- a well-formed buffer

pub record Formed (n : ℕ) (s : List ℕ) : Type 0 where
  pub size : length s ≡ buffer_size
  pub few : count_of s ≤ buffer_slots
  pub records : records_ok n 0 (records_in s) ≡ true
  pub zeros : Zeros s (count_of s)

pub formed : (n : ℕ) (s : List ℕ) → buffer_ok n s ≡ true → Formed n s
unfolding buffer_ok rest_zero
formed n s e =
    let a : (leb (count_of s) buffer_slots && (records_ok n 0 (records_in s) && rest_zero s)) ≡ true = and_right (eqb (length s) buffer_size) _ e in
    let b : (records_ok n 0 (records_in s) && rest_zero s) ≡ true = and_right (leb (count_of s) buffer_slots) _ a in
    record {
      size = eqb-true _ _ (and_left _ _ e);
      few = leb-true _ _ (and_left _ _ a);
      records = and_left _ _ b;
      zeros = λ i h k. ⊎_elim (λ t. absurd (omega (arith, ltb-true i (slot_at (count_of s)) t))) (λ t. eqb-true _ 0 t)
          (or_cases (ltb i (slot_at (count_of s))) (eqb (get_or s i 0) 0)
          (all_elim buffer_size (λ x. ltb x (slot_at (count_of s)) || eqb (get_or s x 0) 0) (and_right (records_ok n 0 (records_in s)) _ b) i k));
    }

pub formed_ok : (n : ℕ) (s : List ℕ) → Formed n s → buffer_ok n s ≡ true
unfolding buffer_ok rest_zero
formed_ok n s F = and_both (eq-eqb _ _ F.size) (and_both (le-leb _ _ F.few) (and_both F.records (all_intro buffer_size _ zero_word)))
  where
    zero_word : (i : ℕ) → i < buffer_size → (ltb i (slot_at (count_of s)) || eqb (get_or s i 0) 0) ≡ true
    zero_word i h = go (which (ltb i (slot_at (count_of s))))
      where
        go : (ltb i (slot_at (count_of s)) ≡ true) ⊎ (ltb i (slot_at (count_of s)) ≡ false) → (ltb i (slot_at (count_of s)) || eqb (get_or s i 0) 0) ≡ true
        go (inl t) = rw t
        go (inr t) = or_right (ltb i (slot_at (count_of s))) (eq-eqb _ 0 (F.zeros i (ltb-false i _ t) h))

-- the buffer of records that pass and rise, 32 at most
pub laid_formed : (n : ℕ) (recs : List (List ℕ)) → records_ok n 0 recs ≡ true → length recs ≤ buffer_slots → buffer_ok n (buffer_of recs) ≡ true
laid_formed n recs e few =
    let L = laid recs (ok_long n 0 recs e) few in
    formed_ok n (buffer_of recs) (record {
      size = L.size;
      few = omega (arith, L.count);
      records = ap (records_ok n 0) L.records ∙ e;
      zeros = rw L.count L.zeros;
    })

-- ---- a record's place

pub rank_none : (s : List ℕ) (j c x : ℕ) → c ≤ j → rank (records_from s j (c - j)) x ≡ 0
unfolding rank
rank_none s j c x h = ap (λ (recs : List (List ℕ)). rank recs x) (records_end s j c h)

pub rank_here : (s : List ℕ) (j c x : ℕ) → j < c → x ≤ record_id (record_at s j) → rank (records_from s j (c - j)) x ≡ 0
unfolding rank
rank_here s j c x h d = ap (λ (recs : List (List ℕ)). rank recs x) (records_at s j c h) ∙ rw (le-ltb (record_id (record_at s j)) x d)

pub rank_next : (s : List ℕ) (j c x : ℕ) → j < c → record_id (record_at s j) < x
    → rank (records_from s j (c - j)) x ≡ suc (rank (records_from s (j + 1) (c - (j + 1))) x)
unfolding rank
rank_next s j c x h d = ap (λ (recs : List (List ℕ)). rank recs x) (records_at s j c h) ∙ rw (lt-ltb (record_id (record_at s j)) x d)

pub rank_le : (recs : List (List ℕ)) (x : ℕ) → rank recs x ≤ length recs
unfolding rank
rank_le [] x = omega arith
rank_le (rec ∷ recs) x = go (which (ltb (record_id rec) x)) (rank_le recs x)
  where
    go : (ltb (record_id rec) x ≡ true) ⊎ (ltb (record_id rec) x ≡ false) → rank recs x ≤ length recs → rank (rec ∷ recs) x ≤ suc (length recs)
    go (inl t) ih = rw t (omega arith)
    go (inr t) ih = rw t (omega arith)

-- the list with a record put in at its place
pub put_split : (rec : List ℕ) (recs : List (List ℕ)) → put_in rec recs ≡ take (rank recs (record_id rec)) recs ++ rec ∷ drop (rank recs (record_id rec)) recs
unfolding put_in rank
put_split rec [] = refl
put_split rec (other ∷ recs) = go (which (ltb (record_id other) (record_id rec))) (put_split rec recs)
  where
    go : (ltb (record_id other) (record_id rec) ≡ true) ⊎ (ltb (record_id other) (record_id rec) ≡ false)
        → put_in rec recs ≡ take (rank recs (record_id rec)) recs ++ rec ∷ drop (rank recs (record_id rec)) recs
        → put_in rec (other ∷ recs) ≡ take (rank (other ∷ recs) (record_id rec)) (other ∷ recs) ++ rec ∷ drop (rank (other ∷ recs) (record_id rec))
        (other ∷ recs)
    go (inl t) ih = rw t (ap (λ (x : List (List ℕ)). other ∷ x) ih)
    go (inr t) ih = rw t

-- ---- the slots of a well-formed buffer

-- a slot below the count has one of the records
pub slot_in : (s : List ℕ) (i j k : ℕ) → i < k → In (record_at s (j + i)) (records_from s j k)
unfolding records_from
slot_in s i j zero h = absurd (omega arith)
slot_in s zero j (suc k) h = let n : j + 0 ≡ j = omega arith in Memᴰ.head (ap (record_at s) n)
slot_in s (suc i) j (suc k) h =
    let n : j + suc i ≡ suc j + i = omega arith in
    Memᴰ.tail (Memᴰ.cast (ap (record_at s) n) (slot_in s i (suc j) k (omega arith)))

-- it passes its own questions
pub slot_passes : (n : ℕ) (s : List ℕ) → Formed n s → (j : ℕ) → j < count_of s → number_of (record_refusal n (record_at s j)) ≡ 0
slot_passes n s F j h =
    let m : 0 + j ≡ j = omega arith in
    (ok_each n 0 (records_in s) F.records (record_at s j) (Memᴰ.cast (ap (record_at s) (sym m)) (slot_in s j 0 (count_of s) h))).0

pub slot_bounded : (s : List ℕ) (j : ℕ) → Sound s → j < count_of s → Bounded (record_at s j)
slot_bounded s j S h = bounded S.members (record_at s j) S.legit (slot_passes S.members s (formed S.members s S.formed) j h)

-- ---- the test of a buffer, answer by answer

module _ (n : ℕ) (s : List ℕ) where
  -- the part from a place on is zero, as it is tested, and as it is defined
  abbrev part : ℕ → List ℕ
  part at = take (buffer_size - at) (drop at s)

  abbrev zero_part : ℕ → Bool
  zero_part at = all (length (part at)) (λ i. eqb (get_or (part at) i 0) 0)

  rest_part : length s ≡ buffer_size → (at : ℕ) → at ≤ buffer_size → zero_part at ≡ all buffer_size (λ i. ltb i at || eqb (get_or s i 0) 0)
  rest_part size at h =
      let t : ℕ → Bool = λ i. ltb i at || eqb (get_or s i 0) 0 in
      let b : ℕ = buffer_size - at in
      let whole : at + b ≡ buffer_size = omega arith in
      let long : length (part at) ≡ b = length-take-le b (drop at s) (omega (arith, length-drop at s)) in
      let front : all at t ≡ true = all_intro at t (λ i k. or_left _ (lt-ltb i at k)) in
      ap (λ (k : ℕ). all k (λ i. eqb (get_or (part at) i 0) 0)) long
      ∙ all_cong b (λ i. eqb (get_or (part at) i 0) 0) (λ i. t (at + i)) (λ i k. same i k)
      ∙ sym (ap (λ (k : ℕ). all k t) (sym whole) ∙ all_join at b t ∙ rw front)
    where
      same : (i : ℕ) → i < buffer_size - at → eqb (get_or (part at) i 0) 0 ≡ (ltb (at + i) at || eqb (get_or s (at + i) 0) 0)
      same i k =
          ap (λ (x : ℕ). eqb x 0) (get_or-take (buffer_size - at) (drop at s) i 0 k ∙ get_or-drop at s i 0) ∙ rw (le-ltb (at + i) at (omega arith))

  pub not_sized : (length s ≡ buffer_size → ⊥) → false ≡ buffer_ok n s
  unfolding buffer_ok
  not_sized d = sym (and_fails_left _ (ne_eqb (length s) buffer_size d))

  pub too_many : buffer_slots < count_of s → false ≡ buffer_ok n s
  unfolding buffer_ok
  too_many d = sym (and_fails_right (eqb (length s) buffer_size) (and_fails_left _ (lt-leb (count_of s) buffer_slots d)))

  pub not_rising : (t : Bool) → t ≡ records_ok n 0 (records_in s) → not t ≡ true → false ≡ buffer_ok n s
  unfolding buffer_ok
  not_rising t e d = sym (and_fails_right (eqb (length s) buffer_size) (and_fails_right (leb (count_of s) buffer_slots) (and_fails_left _ (failed e d))))

  pub all_rise : (t : Bool) → t ≡ records_ok n 0 (records_in s) → not t ≡ false → length s ≡ buffer_size → count_of s ≤ buffer_slots → (at : ℕ)
      → at ≡ slot_at (count_of s)
      → (r : Bool) → r ≡ zero_part at → r ≡ buffer_ok n s
  unfolding buffer_ok rest_zero
  all_rise t e d size few at a r f =
      let z : zero_part (slot_at (count_of s)) ≡ rest_zero s = rest_part size (slot_at (count_of s)) (omega arith) in
      let b : r ≡ rest_zero s = f ∙ ap zero_part a ∙ z in
      b ∙ rw (eq-eqb (length s) buffer_size size, le-leb (count_of s) buffer_slots few, passed e d)
