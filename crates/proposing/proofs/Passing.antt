-- Every made record passes questions 5 to 11, and 14 on the state that made it, and has the digest handed over. Assumes nothing.
use mathlib.Core.Path.{◌≡◌, sym, ap, ◌∙◌}
use mathlib.Core.Bool.{Bool, true, false, cond, not, ◌&&◌}
use mathlib.Core.Logic.{◌⊎◌, inl, inr, ⊎_elim}
use mathlib.Core.List.{List, [], ◌∷◌, ◌++◌}
use Prim.Native.Nat.{ℕ, zero, suc, ◌+◌, ◌-◌, ◌^◌, ◌≤◌, ◌<◌, min}
use native.Mathlib.Omega.{arith}
use lib.Dec.{eqb, leb, ltb}
use lib.ListN.{length, get_or, take, drop, length-take, length-append, get_or-append}
use lib.Pow.{pow_pos}
use lib.Seq.{take_at, get_or-take, get_or-append_seam}
use borrow.Author.Tests.{eqb-false, eq-eqb, leb-true, ltb-true, ltb-false}
use Rattle.record.specs.Below.{select}
use Rattle.record.specs.Members.{is_round, faulty, leader, has, remove, id_round, id_member, id_limit, rounds}
use Rattle.record.specs.Refusals.{number_of}
use Rattle.record.specs.Layout.{digest_place, digest_size, strong_of, digest_of, weak_count_of, weak_of, body_of, Digest, record_words}
use Rattle.record.specs.Admitted.{Composed}
use Rattle.record.proofs.Booleans.{which, never, and_left, and_right, and_both, cond_true}
use Rattle.record.proofs.Masks.{has_bound, has_removed, has_zero}
use Rattle.record.proofs.Rounds.{round_range, round_in}
use Rattle.record.proofs.Composed.{count_is, composed, weak_slot, lacking_law}
use Rattle.replica.specs.State.{member_count, current_round, held_mask, timeouts_mask, no_votes_mask, held_id}
use Rattle.replica.specs.Parents.{parents_held}
use Rattle.replica.proofs.Formed.{WellFormed}
use Rattle.replica.proofs.ParentLaws.{parents_intro, parent_cases}
use Rattle.ordering.proofs.Turns.{outcome_zero}
use Rattle.proposing.specs.Own.{own_member, was_signed}
use Rattle.proposing.specs.Making.{parents_in, made_strong, made_timeouts, made_no_votes, wants_timeouts, wants_no_votes, is_reached, is_unreached}
use Rattle.proposing.specs.Making.{made_weak, made_record, propose_refusal, propose_vertex}
use Rattle.proposing.specs.Claims.{Passes, MadePasses, MadeDigest}
use Rattle.proposing.proofs.Kept.{MakingKnown, making_passed, own_most}
use Rattle.proposing.proofs.Offering.{strong_low}

-- ---- the numbers that satisfy a test, entry by entry

-- each satisfies it, and lies below the bound
select_sat : (k : ℕ) (t : ℕ → Bool) (i : ℕ) → i < length (select k t) → (t (get_or (select k t) i 0) ≡ true) × (get_or (select k t) i 0 < k)
unfolding select
select_sat zero t i h = absurd (omega arith)
select_sat (suc k) t i h = go (which (t k)) (which (ltb i (length (select k t)))) (select_sat k t i) h
  where
    go : (t k ≡ true) ⊎ (t k ≡ false) → (ltb i (length (select k t)) ≡ true) ⊎ (ltb i (length (select k t)) ≡ false)
        → (i < length (select k t) → (t (get_or (select k t) i 0) ≡ true) × (get_or (select k t) i 0 < k))
        → i < length (select k t ++ cond (t k) (k ∷ []) [])
        → (t (get_or (select k t ++ cond (t k) (k ∷ []) []) i 0) ≡ true) × (get_or (select k t ++ cond (t k) (k ∷ []) []) i 0 < suc k)
    go a (inl b) ih h =
        let w = ih (ltb-true _ _ b) in
        rw (get_or-append (select k t) (cond (t k) (k ∷ []) []) 0 i (ltb-true _ _ b)) (w.0, omega (arith, w.1))
    go (inl a) (inr b) ih h =
        let long : length (select k t ++ k ∷ []) ≡ length (select k t) + 1 = length-append (select k t) (k ∷ []) in
        let e : i ≡ length (select k t) = omega (arith, ltb-false i (length (select k t)) b, rw a at h) in
        rw (a, e, get_or-append_seam (select k t) k [] 0) (a, omega arith)
    go (inr a) (inr b) ih h =
        let long : length (select k t ++ []) ≡ length (select k t) + 0 = length-append (select k t) [] in
        absurd (omega (arith, ltb-false i (length (select k t)) b, rw a at h))

-- they rise
select_rising : (k : ℕ) (t : ℕ → Bool) (i : ℕ) → i + 1 < length (select k t) → get_or (select k t) i 0 < get_or (select k t) (i + 1) 0
unfolding select
select_rising zero t i h = absurd (omega arith)
select_rising (suc k) t i h = go (which (t k)) (which (ltb (i + 1) (length (select k t)))) (select_rising k t i) h
  where
    go : (t k ≡ true) ⊎ (t k ≡ false) → (ltb (i + 1) (length (select k t)) ≡ true) ⊎ (ltb (i + 1) (length (select k t)) ≡ false)
        → (i + 1 < length (select k t) → get_or (select k t) i 0 < get_or (select k t) (i + 1) 0)
        → i + 1 < length (select k t ++ cond (t k) (k ∷ []) [])
        → get_or (select k t ++ cond (t k) (k ∷ []) []) i 0 < get_or (select k t ++ cond (t k) (k ∷ []) []) (i + 1) 0
    go a (inl b) ih h =
        let l = ltb-true (i + 1) (length (select k t)) b in
        rw (get_or-append (select k t) (cond (t k) (k ∷ []) []) 0 i (omega arith), get_or-append (select k t) (cond (t k) (k ∷ []) []) 0 (i + 1) l) (ih l)
    go (inl a) (inr b) ih h =
        let long : length (select k t ++ k ∷ []) ≡ length (select k t) + 1 = length-append (select k t) (k ∷ []) in
        let e : i + 1 ≡ length (select k t) = omega (arith, ltb-false (i + 1) (length (select k t)) b, rw a at h) in
        let l : i < length (select k t) = omega arith in
        rw (a, get_or-append (select k t) (k ∷ []) 0 i l, e, get_or-append_seam (select k t) k [] 0) (select_sat k t i l).1
    go (inr a) (inr b) ih h =
        let long : length (select k t ++ []) ≡ length (select k t) + 0 = length-append (select k t) [] in
        absurd (omega (arith, ltb-false (i + 1) (length (select k t)) b, rw a at h))

-- ---- a record that is made

module _ (l : List ℕ) (K : MakingKnown l) where
  S : WellFormed l
  S = K.state

  -- the round is one
  low : 1 ≤ current_round l
  low = (round_range (current_round l) K.round).0

  high : current_round l ≤ rounds
  high = (round_range (current_round l) K.round).1

  -- a mask that is copied where it is wanted is of the group
  copied_low : (b : Bool) (mask : ℕ) → (b ≡ true → 2 ≤ current_round l) → (2 ≤ current_round l → mask < 2 ^ member_count l)
      → cond b mask 0 < 2 ^ member_count l
  copied_low b mask g h = ⊎_elim (λ e. rw e (h (g e))) (λ e. rw e (pow_pos (member_count l))) (which b)

  wanted : wants_timeouts l ≡ true → 2 ≤ current_round l
  wanted e = lacking_law (member_count l) (current_round l) (made_strong l) e

  timeouts_low : made_timeouts l < 2 ^ member_count l
  unfolding made_timeouts
  timeouts_low = copied_low (wants_timeouts l) (timeouts_mask l (current_round l - 1)) wanted
      (λ h. S.masks.timeouts_low (current_round l - 1) (omega arith) (omega (arith, high)))

  no_votes_low : made_no_votes l < 2 ^ member_count l
  unfolding made_no_votes
  no_votes_low = copied_low (wants_no_votes l) (no_votes_mask l (current_round l - 1))
      (λ e. wanted (and_left (wants_timeouts l) (eqb (own_member l) (leader (member_count l) (current_round l))) e))
      (λ h. S.masks.no_votes_low (current_round l - 1) (omega arith) (omega (arith, high)))

  -- ---- its weak ids

  -- as many as are taken
  weak_long : length (made_weak l) ≡ min (faulty (member_count l)) (length (select id_limit (is_unreached l)))
  weak_long = length-take (faulty (member_count l)) (select id_limit (is_unreached l))

  -- each is one that is not reached
  weak_entry : (i : ℕ) → i < length (made_weak l) → get_or (made_weak l) i 0 ≡ get_or (select id_limit (is_unreached l)) i 0
  weak_entry i h = get_or-take (faulty (member_count l)) (select id_limit (is_unreached l)) i 0 (omega (arith, weak_long))

  weak_sat : (i : ℕ) → i < length (made_weak l) → is_unreached l (get_or (made_weak l) i 0) ≡ true
  weak_sat i h = ap (is_unreached l) (weak_entry i h) ∙ (select_sat id_limit (is_unreached l) i (omega (arith, weak_long))).0

  weak_held : (i : ℕ) → i < length (made_weak l) → held_id l (get_or (made_weak l) i 0) ≡ true
  weak_held i h = unreached_held (get_or (made_weak l) i 0) (weak_sat i h)
    where
      unreached_held : (y : ℕ) → is_unreached l y ≡ true → held_id l y ≡ true
      unreached_held y e = unfold is_unreached in and_left (held_id l y) (leb (id_round y + 2) (current_round l) && not (is_reached l y)) e

  weak_high : (i : ℕ) → i < length (made_weak l) → id_round (get_or (made_weak l) i 0) + 2 ≤ current_round l
  weak_high i h = unreached_high (get_or (made_weak l) i 0) (weak_sat i h)
    where
      unreached_high : (y : ℕ) → is_unreached l y ≡ true → id_round y + 2 ≤ current_round l
      unreached_high y e =
          let rest : (leb (id_round y + 2) (current_round l) && not (is_reached l y)) ≡ true
          = unfold is_unreached in and_right (held_id l y) (leb (id_round y + 2) (current_round l) && not (is_reached l y)) e in
          leb-true (id_round y + 2) (current_round l) (and_left _ (not (is_reached l y)) rest)

  -- a held id is of a round and a member of the group
  held_place : (y : ℕ) → held_id l y ≡ true → (1 ≤ id_round y) × (id_member y < member_count l)
  held_place y e =
      let w = round_range (id_round y) (and_left _ (has (held_mask l (id_round y)) (id_member y)) e) in
      let few = S.masks.held_low (id_round y) w.0 w.1 in
      (w.0, has_bound (member_count l) (held_mask l (id_round y)) (id_member y) few (and_right (is_round (id_round y)) _ e))

  -- ---- questions 5 to 11

  parts : Composed (member_count l) (current_round l) (own_member l) (made_strong l) (made_timeouts l) (made_no_votes l) (made_weak l)
  parts = record {
    placed = record { round_low = low; round_high = high; member_low = omega (arith, K.own, own_most l S) };
    strong_low = strong_low l S low high;
    timeouts_low = timeouts_low;
    no_votes_low = no_votes_low;
    strong_enough = K.strong;
    timeouts_wanted = K.timeouts;
    no_votes_wanted = K.no_votes;
    weak_few = omega (arith, weak_long);
    weak_fit = omega (arith, weak_long, S.front.high);
    weak_member = λ i h. (held_place _ (weak_held i h)).1;
    weak_low = λ i h. (held_place _ (weak_held i h)).0;
    weak_high = weak_high;
    weak_rising = λ i h. rw (weak_entry i (omega arith), weak_entry (i + 1) h) (select_rising id_limit (is_unreached l) i (omega (arith, weak_long)));
  }

  -- ---- question 14

  -- round 1 has no strong parent
  first_none : eqb (current_round l) 1 ≡ true → made_strong l ≡ 0
  unfolding made_strong
  first_none a = cond_true 0 (parents_in l (current_round l - 1)) a

  -- a strong parent was held
  strong_held : (p : ℕ) → has (made_strong l) p ≡ true → has (held_mask l (current_round l - 1)) p ≡ true
  unfolding made_strong parents_in
  strong_held p = from (which (eqb (current_round l) 1)) (which (was_signed l (current_round l - 1)))
    where
      from : (eqb (current_round l) 1 ≡ true) ⊎ (eqb (current_round l) 1 ≡ false)
          → (was_signed l (current_round l - 1) ≡ true) ⊎ (was_signed l (current_round l - 1) ≡ false)
          → has (cond (eqb (current_round l) 1) 0 (cond (was_signed l (current_round l - 1))
          (remove (held_mask l (current_round l - 1)) (leader (member_count l) (current_round l - 1))) (held_mask l (current_round l - 1)))) p ≡ true
          → has (held_mask l (current_round l - 1)) p ≡ true
      from (inl a) b e = never (rw a at e) (has_zero p)
      from (inr a) (inl b) e = has_removed (held_mask l (current_round l - 1)) (leader (member_count l) (current_round l - 1)) p (rw (a, b) at e)
      from (inr a) (inr b) e = rw (a, b) at e

  module _ (digest : Digest) where
    -- the record
    abbrev rec : List ℕ
    rec = record_words (current_round l) (own_member l) (made_strong l) (made_timeouts l) (made_no_votes l) digest.words (made_weak l)

    all_held : parents_held l (current_round l) (body_of rec) ≡ true
    all_held =
        parents_intro l (current_round l) (body_of rec) (λ y k e. ⊎_elim (strong_case y) (weak_case y) (parent_cases (current_round l) (body_of rec) y e))
      where
        strong_case : (y : ℕ) → (id_round y + 1 ≡ current_round l) × (has (strong_of (body_of rec)) (id_member y) ≡ true) → held_id l y ≡ true
        strong_case y e =
            let h : has (made_strong l) (id_member y) ≡ true = unfold strong_of in e.1 in
            let r : current_round l - 1 ≡ id_round y = omega (arith, e.0) in
            let some : 2 ≤ current_round l = later (id_member y) h in
            and_both (round_in (id_round y) (omega arith) (omega (arith, high))) (rw r at (strong_held (id_member y) h))
          where
            later : (p : ℕ) → has (made_strong l) p ≡ true → 2 ≤ current_round l
            later p h = ⊎_elim
                (λ a. never h (ap (λ (m : ℕ). has m p) (first_none a) ∙ has_zero p))
                (λ a. omega (arith, low, eqb-false (current_round l) 1 a))
                (which (eqb (current_round l) 1))

        weak_case : (y : ℕ) → (i : ℕ) × (i < weak_count_of (body_of rec)) × (weak_of (body_of rec) i ≡ y) → held_id l y ≡ true
        weak_case y e =
            let h : e.0 < length (made_weak l) = rw (count_is (member_count l) (current_round l) (own_member l) (made_strong l) (made_timeouts l)
            (made_no_votes l) digest (made_weak l)) at e.1 in
            let z : weak_of (body_of rec) e.0 ≡ get_or (made_weak l) e.0 0 = slot_is e.0 h in
            rw (sym z ∙ e.2) at (weak_held e.0 h)
          where
            slot_is : (i : ℕ) → i < length (made_weak l) → weak_of (body_of rec) i ≡ get_or (made_weak l) i 0
            slot_is i h =
                weak_slot (member_count l) (current_round l) (own_member l) (made_strong l) (made_timeouts l) (made_no_votes l) digest (made_weak l) i h

    passes : Passes l (made_record l digest.words)
    unfolding made_record
    passes = record {
      questions = composed (member_count l) (current_round l) (own_member l) (made_strong l) (made_timeouts l) (made_no_votes l) digest (made_weak l) parts;
      parents = all_held;
    }

-- ---- the claims

-- the record that is answered with the number 0
made_record_lem : (l digest : List ℕ) → (propose_vertex l digest).outcome.number ≡ 0
    → (number_of (propose_refusal l) ≡ 0) × ((propose_vertex l digest).made ≡ made_record l digest)
unfolding propose_vertex
made_record_lem l digest e = let z = outcome_zero (propose_refusal l) l _ e in (z, cond_true _ _ (eq-eqb _ 0 z))

-- Every made record passes.
pub made_passes : MadePasses
made_passes l digest e = let m = made_record_lem l digest.words e in rw m.1 (passes l (making_passed l m.0) digest)

-- It has the digest that was handed over.
pub made_digest : MadeDigest
unfolding made_record digest_of
made_digest l digest e =
    let m = made_record_lem l digest.words e in
    ap (λ (x : List ℕ). take digest_size (drop digest_place (body_of x))) m.1 ∙ take_at digest.words _ digest_size digest.size
