-- Offering the ids one after the other gives the record with the f lowest that are not reached. Assumes nothing.
use mathlib.Core.Path.{◌≡◌, refl, sym, ap, ap₂, ◌∙◌}
use mathlib.Core.Bool.{Bool, true, false, cond, not, ◌&&◌}
use mathlib.Core.Logic.{◌⊎◌, inl, inr, ⊎_elim}
use mathlib.Core.List.{List, [], ◌∷◌, ◌++◌, append-nil, append_assoc}
use Prim.Native.Nat.{ℕ, zero, suc, ◌+◌, ◌-◌, ◌*◌, ◌^◌, ◌≤◌, ◌<◌}
use native.Mathlib.Omega.{arith}
use lib.Dec.{eqb, leb, ltb}
use lib.ListN.{length, get_or, set, take, replicate, length-append}
use lib.Pow.{pow_pos}
use lib.Seq.{set_at, take_all, take-append-le, length-take-le}
use borrow.Author.Tests.{le-leb, lt-leb, le-ltb, ltb-true, ltb-false, eqb-true, eqb-false}
use Rattle.record.specs.Below.{select}
use Rattle.record.specs.Members.{is_round, faulty, has, leader, id_of, id_round, id_member, id_limit, rounds, slots}
use Rattle.record.specs.Layout.{body_place, digest_size, weak_count_place, weak_place, weak_slots, record_size, slot_words, record_words}
use Rattle.record.proofs.Composed.{get_d_append_size}
use Rattle.record.proofs.Booleans.{which, and_both, and_fails_left, and_fails_right, cond_true, cond_false}
use Rattle.record.proofs.Masks.{remove_lt}
use Rattle.record.proofs.Rounds.{round_in, id_round_lem, id_member_lem}
use Rattle.protocol.specs.Masks.{reach_masks}
use Rattle.protocol.proofs.Masks.{reach_claim}
use Rattle.replica.specs.State.{member_count, current_round, own_word, held_mask, held_id, vertices}
use Rattle.replica.proofs.Formed.{WellFormed, formed}
use Rattle.replica.proofs.Dags.{dag_well_formed}
use Rattle.commits.specs.Standing.{Standing}
use Rattle.commits.proofs.Ground.{standing}
use Rattle.commits.proofs.Steps.{select_zero}
use Rattle.proposing.specs.Own.{was_signed}
use Rattle.proposing.specs.Making.{parents_in, made_strong, made_timeouts, made_no_votes, is_reached, is_unreached, made_record}
use Rattle.proposing.specs.Inner.{Current, draft_of, count_in, add_weak, offer_id, offer_round, offer_rounds}
use Rattle.record.specs.Refusals.{or_zero}
use Rattle.proposing.proofs.Laws.{wanted_mask}
use Rattle.proposing.specs.declared.making.Draft.{Draft}

-- ---- the numbers that satisfy a test, and the first f of them

-- where none of the next k does
select_stays : (t : ℕ → Bool) (a k : ℕ) → ((y : ℕ) → a ≤ y → y < a + k → t y ≡ false) → select (a + k) t ≡ select a t
unfolding select
select_stays t a zero h = let e : a + zero ≡ a = omega arith in rw e
select_stays t a (suc k) h =
    let e : a + suc k ≡ suc (a + k) = omega arith in
    rw (e, h (a + k) (omega arith) (omega arith)) (append-nil (select (a + k) t) ∙ select_stays t a k (λ y l m. h y l (omega arith)))

-- one number more
take_more : (t : ℕ → Bool) (f y : ℕ)
    → take f (select (suc y) t) ≡ cond (t y && ltb (length (take f (select y t))) f) (take f (select y t) ++ y ∷ []) (take f (select y t))
unfolding select
take_more t f y = go (which (t y)) (which (ltb (length (select y t)) f))
  where
    go : (t y ≡ true) ⊎ (t y ≡ false) → (ltb (length (select y t)) f ≡ true) ⊎ (ltb (length (select y t)) f ≡ false)
        → take f (select y t ++ cond (t y) (y ∷ []) [])
        ≡ cond (t y && ltb (length (take f (select y t))) f) (take f (select y t) ++ y ∷ []) (take f (select y t))
    go (inr e) b = rw e (ap (take f) (append-nil (select y t)))
    go (inl e) (inl b) =
        let few : length (select y t) < f = ltb-true _ _ b in
        let short : take f (select y t) ≡ select y t = take_all f (select y t) (omega arith) in
        rw (e, short, b) (take_all f (select y t ++ y ∷ []) (rw (length-append (select y t) (y ∷ [])) (omega arith)))
    go (inl e) (inr b) =
        let many : f ≤ length (select y t) = ltb-false _ _ b in
        rw (e, length-take-le f (select y t) many, le-ltb f f (omega arith)) (take-append-le f (select y t) (y ∷ []) many)

-- ---- a record and its weak ids

module _ (round source strong timeouts no_votes : ℕ) (digest : List ℕ) (size : length digest ≡ digest_size) where
  -- the words before the weak count, and the record with these weak ids
  abbrev head : List ℕ
  head = round ∷ source ∷ strong ∷ timeouts ∷ no_votes ∷ digest

  abbrev whole : List ℕ → List ℕ
  whole weak = record_words round source strong timeouts no_votes digest weak

  abbrev count_place : ℕ
  count_place = body_place + weak_count_place

  head_long : length head ≡ count_place
  head_long = omega (arith, size)

  count_is : (weak : List ℕ) → count_in (whole weak) ≡ length weak
  count_is weak = get_d_append_size head _ count_place 0 head_long

  -- one more, where there is room
  add_whole : (weak : List ℕ) (y : ℕ) → length weak < weak_slots → add_weak (whole weak) y ≡ whole (weak ++ y ∷ [])
  unfolding add_weak
  add_whole weak y h =
      ap (λ (k : ℕ). set (set (whole weak) (body_place + weak_place + k) y) count_place (k + 1)) (count_is weak)
      ∙ ap (λ (x : List ℕ). set x count_place (length weak + 1)) written
      ∙ set_at head (length weak) (weak ++ y ∷ tail) (length weak + 1) count_place head_long
      ∙ ap₂ (λ (k : ℕ) (x : List ℕ). head ++ k ∷ x) (sym (length-append weak (y ∷ [])))
      (sym (append_assoc weak (y ∷ []) (replicate (weak_slots - length (weak ++ y ∷ [])) 0) ∙ ap (λ (x : List ℕ). weak ++ y ∷ x) rest))
    where
      tail : List ℕ
      tail = replicate (weak_slots - suc (length weak)) 0

      -- the words before the first slot that is free
      front : List ℕ
      front = head ++ length weak ∷ weak

      split : (x : ℕ) → front ++ x ∷ tail ≡ head ++ length weak ∷ (weak ++ x ∷ tail)
      split x = append_assoc head (length weak ∷ weak) (x ∷ tail)

      room : whole weak ≡ front ++ 0 ∷ tail
      room =
          let e : weak_slots - length weak ≡ suc (weak_slots - suc (length weak)) = omega arith in
          ap (λ (k : ℕ). head ++ length weak ∷ (weak ++ replicate k 0)) e ∙ sym (split 0)

      long : length front ≡ body_place + weak_place + length weak
      long = omega (arith, length-append head (length weak ∷ weak), head_long)

      written : set (whole weak) (body_place + weak_place + length weak) y ≡ head ++ length weak ∷ (weak ++ y ∷ tail)
      written =
          ap (λ (x : List ℕ). set x (body_place + weak_place + length weak) y) room
          ∙ set_at front 0 tail y (body_place + weak_place + length weak) long ∙ split y

      rest : ◌≡◌ {A = List ℕ} (replicate (weak_slots - length (weak ++ y ∷ [])) 0) tail
      rest =
          let e : length (weak ++ y ∷ []) ≡ suc (length weak) = length-append weak (y ∷ []) ∙ omega arith in
          ap (λ (k : ℕ). replicate (weak_slots - k) 0) e

  -- offered the next number, the record has the first f of one number more
  offer_step : (t : ℕ → Bool) (f y held reached : ℕ) → f ≤ weak_slots → (has held (id_member y) && not (has reached (id_member y))) ≡ t y
      → offer_id (whole (take f (select y t))) f held reached y ≡ whole (take f (select (suc y) t))
  unfolding offer_id
  offer_step t f y held reached few e = go (which (t y)) (which (ltb (length (take f (select y t))) f))
    where
      more : whole (take f (select (suc y) t))
          ≡ whole (cond (t y && ltb (length (take f (select y t))) f) (take f (select y t) ++ y ∷ []) (take f (select y t)))
      more = ap whole (take_more t f y)

      test : (has held (id_member y) && (not (has reached (id_member y)) && ltb (count_in (whole (take f (select y t)))) f))
          ≡ (t y && ltb (length (take f (select y t))) f)
      test =
          ap (λ (k : ℕ). has held (id_member y) && (not (has reached (id_member y)) && ltb k f)) (count_is (take f (select y t)))
          ∙ sym (and_assoc (has held (id_member y)) (not (has reached (id_member y))) _) ∙ ap (λ (b : Bool). b && ltb (length (take f (select y t))) f) e
        where
          and_assoc : (a b c : Bool) → ((a && b) && c) ≡ (a && (b && c))
          and_assoc true b c = refl
          and_assoc false b c = refl

      go : (t y ≡ true) ⊎ (t y ≡ false) → (ltb (length (take f (select y t))) f ≡ true) ⊎ (ltb (length (take f (select y t))) f ≡ false)
          → cond (has held (id_member y) && (not (has reached (id_member y)) && ltb (count_in (whole (take f (select y t)))) f))
          (add_weak (whole (take f (select y t))) y) (whole (take f (select y t)))
          ≡ whole (take f (select (suc y) t))
      go (inl a) (inl b) =
          cond_true _ _ (test ∙ and_both a b) ∙ add_whole (take f (select y t)) y (omega (arith, ltb-true (length (take f (select y t))) f b))
          ∙ sym (more ∙ ap whole (cond_true _ _ (and_both a b)))
      go (inl a) (inr b) =
          cond_false _ _ (test ∙ and_fails_right (t y) b) ∙ sym (more ∙ ap whole (cond_false _ _ (and_fails_right (t y) b)))
      go (inr a) b =
          cond_false _ _ (test ∙ and_fails_left _ a) ∙ sym (more ∙ ap whole (cond_false _ _ (and_fails_left _ a)))

  module _ (t : ℕ → Bool) (f : ℕ) (few : f ≤ weak_slots) where
    abbrev so_far : ℕ → List ℕ
    so_far y = whole (take f (select y t))

    -- the ids of a round below its member k
    members_step : (s held reached k : ℕ) → k ≤ slots → ((p : ℕ) → p < slots → (has held p && not (has reached p)) ≡ t (id_of s p))
        → offer_round (so_far (slots * s)) f held reached s k ≡ so_far (id_of s k)
    unfolding offer_round
    members_step s held reached zero h e = let z : slots * s ≡ id_of s zero = omega arith in ap so_far z
    members_step s held reached (suc k) h e =
        ap (λ (x : List ℕ). offer_id x f held reached (id_of s k)) (members_step s held reached k (omega arith) e)
        ∙ offer_step t f (id_of s k) held reached few
        (ap (λ (q : ℕ). has held q && not (has reached q)) (id_member_lem s k (omega arith)) ∙ e k (omega arith))
        ∙ ap so_far next
      where
        next : suc (id_of s k) ≡ id_of s (suc k)
        next = omega arith

    -- the rounds up to k
    rounds_step : (l reached : List ℕ) (k : ℕ)
        → ((s p : ℕ) → s < k → p < slots → (has (held_mask l (suc s)) p && not (has (get_or reached s 0) p)) ≡ t (id_of (suc s) p))
        → offer_rounds (so_far slots) f l reached k ≡ so_far (slots * suc k)
    unfolding offer_rounds
    rounds_step l reached zero e = let z : slots ≡ slots * suc zero = omega arith in ap so_far z
    rounds_step l reached (suc k) e =
        ap (λ (x : List ℕ). offer_round x f (held_mask l (suc k)) (get_or reached k 0) (suc k) slots)
        (rounds_step l reached k (λ s p a b. e s p (omega arith) b))
        ∙ members_step (suc k) (held_mask l (suc k)) (get_or reached k 0) slots (omega arith) (λ p b. e k p (omega arith) b)
        ∙ ap so_far next
      where
        next : id_of (suc k) slots ≡ slots * suc (suc k)
        next = omega arith

-- ---- the made record

-- the size of a record tells that of its digest
pub digest_size_lem : (round source strong timeouts no_votes : ℕ) (digest rec : List ℕ) → rec ≡ record_words round source strong timeouts no_votes digest []
    → length rec ≡ record_size → length digest ≡ digest_size
digest_size_lem round source strong timeouts no_votes digest rec e size =
    omega (arith, ap length e, size, length-append digest (0 ∷ slot_words []))

-- the strong mask is of the group
pub strong_low : (l : List ℕ) → WellFormed l → 1 ≤ current_round l → current_round l ≤ rounds → made_strong l < 2 ^ member_count l
unfolding made_strong parents_in
strong_low l S low high = ⊎_elim
    (λ e. rw (cond_true 0 (parents_in l (current_round l - 1)) e) (pow_pos (member_count l)))
    (λ e. rw (cond_false 0 (parents_in l (current_round l - 1)) e) (from (omega (arith, eqb-false (current_round l) 1 e))))
    (which (eqb (current_round l) 1))
  where
    from : 2 ≤ current_round l → parents_in l (current_round l - 1) < 2 ^ member_count l
    from h =
        let b = S.masks.held_low (current_round l - 1) (omega arith) (omega arith) in
        ⊎_elim
        (λ e. rw e (remove_lt (member_count l) (held_mask l (current_round l - 1)) (leader (member_count l) (current_round l - 1)) b))
        (λ e. rw e b)
        (which (was_signed l (current_round l - 1)))

module _ (l : List ℕ) (n round : ℕ) (C : Current l n round) where
  S : WellFormed l
  S = formed l C.opened.size C.opened.formed

  pub stands : Standing l
  stands = standing l S

  -- an id of a round two below is offered exactly if it is held and not reached
  offered : (s p : ℕ) → s + 2 < round → p < slots
      → (has (held_mask l (suc s)) p && not (has (get_or (reach_masks n (vertices l) (round - 1) (made_strong l)) s 0) p)) ≡ is_unreached l (id_of (suc s) p)
  unfolding is_unreached
  offered s p h few =
      let down : suc s - 1 ≡ s = omega arith in
      let r : round ≡ current_round l = C.opened.current in
      let m : n ≡ member_count l = C.opened.members in
      let held : held_id l (id_of (suc s) p) ≡ has (held_mask l (suc s)) p
      = rw (id_round_lem (suc s) p few, id_member_lem (suc s) p few, round_in (suc s) (omega arith) (omega (arith, C.high))) in
      let below : leb (id_round (id_of (suc s) p) + 2) (current_round l) ≡ true
      = rw (id_round_lem (suc s) p few) (le-leb (suc s + 2) (current_round l) (omega arith)) in
      let named = reach_claim (member_count l) (vertices l) S.front.members (dag_well_formed l S) (current_round l - 1) (made_strong l)
      (omega arith) (omega (arith, C.high)) (strong_low l S (omega arith) (omega (arith, C.high))) (suc s) p (omega arith) (omega (arith, C.high)) few in
      let reach : has (get_or (reach_masks n (vertices l) (round - 1) (made_strong l)) s 0) p ≡ is_reached l (id_of (suc s) p)
      = rw (m, r) (rw down at named) in
      ap (λ (b : Bool). has (held_mask l (suc s)) p && not b) reach
      ∙ sym (ap₂ (λ (a b : Bool). a && (b && not (is_reached l (id_of (suc s) p)))) held below)

  -- no id below the first, and none of the round before or above
  unheld : (y : ℕ) → y < slots → is_unreached l y ≡ false
  unfolding is_unreached is_round
  unheld y h = and_fails_left _ (and_fails_left _ (and_fails_left _ (lt-leb 1 (id_round y) (omega arith))))

  near : (y : ℕ) → slots * (round - 1) ≤ y → is_unreached l y ≡ false
  unfolding is_unreached
  near y h = and_fails_right (held_id l y) (and_fails_left _ (lt-leb (id_round y + 2) (current_round l) (omega (arith, C.opened.current, C.opened.low))))

  -- so all that counts is below the round before
  weak_below : select id_limit (is_unreached l) ≡ select (slots * (round - 1)) (is_unreached l)
  weak_below =
      let e : id_limit ≡ slots * (round - 1) + (id_limit - slots * (round - 1)) = omega (arith, C.opened.low, C.high) in
      ap (λ (k : ℕ). select k (is_unreached l)) e
      ∙ select_stays (is_unreached l) (slots * (round - 1)) (id_limit - slots * (round - 1)) (λ y a b. near y a)

  none_yet : select slots (is_unreached l) ≡ []
  unfolding select
  none_yet = select_stays (is_unreached l) 0 slots (λ y a b. unheld y (omega arith))

  few_faulty : faulty n ≤ weak_slots
  few_faulty = omega (arith, C.opened.few)

  module _ (digest : List ℕ) (size : length digest ≡ digest_size) (d : Draft) (ed : d ≡ draft_of l) (first : List ℕ)
      (ef : first ≡ record_words round (own_word l - 1) d.strong (or_zero d.timeouts) (or_zero d.no_votes) digest []) where
    -- the record with these weak ids
    abbrev record_with : List ℕ → List ℕ
    record_with = whole round (own_word l - 1) (made_strong l) (made_timeouts l) (made_no_votes l) digest size

    made_is : record_with (take (faulty n) (select (slots * (round - 1)) (is_unreached l))) ≡ made_record l digest
    unfolding made_record
    made_is = rw (← weak_below, C.opened.members, C.opened.current)

    start : first ≡ record_with (take (faulty n) (select slots (is_unreached l)))
    start = ef ∙ rw (ed, none_yet, wanted_mask, wanted_mask) (unfold made_timeouts made_no_votes in ap record_with (sym (take_empty (faulty n))))
      where
        take_empty : (k : ℕ) → ◌≡◌ {A = List ℕ} (take k []) []
        take_empty zero = refl
        take_empty (suc k) = refl

    -- below round 3 it has none
    pub made_early : round < 3 → first ≡ made_record l digest
    made_early h = start ∙ ap (λ (x : List ℕ). record_with (take (faulty n) x)) early ∙ made_is
      where
        early : select slots (is_unreached l) ≡ select (slots * (round - 1)) (is_unreached l)
        early = ⊎_elim
            (λ e. let z : slots * (round - 1) ≡ 0 = omega (arith, eqb-true round 1 e) in
            none_yet ∙ sym (ap (λ (k : ℕ). select k (is_unreached l)) z ∙ select_zero (is_unreached l)))
            (λ e. let z : slots ≡ slots * (round - 1) = omega (arith, eqb-false round 1 e, C.opened.low) in ap (λ (k : ℕ). select k (is_unreached l)) z)
            (which (eqb round 1))

    -- later it has those that were offered
    pub made_late : 3 ≤ round → (reached : List ℕ) → reached ≡ reach_masks n (vertices l) (round - 1) d.strong → (f : ℕ) → f ≡ faulty n
        → (rec : List ℕ) → rec ≡ offer_rounds first f l reached (round - 2) → rec ≡ made_record l digest
    made_late h reached er f eq rec e =
        e
        ∙ rw (er, eq, ed, start)
        (rounds_step round (own_word l - 1) (made_strong l) (made_timeouts l) (made_no_votes l) digest size (is_unreached l) (faulty n) few_faulty l
        (reach_masks n (vertices l) (round - 1) (made_strong l)) (round - 2) (λ s p a b. offered s p (omega arith) b))
        ∙ ap (λ (k : ℕ). record_with (take (faulty n) (select k (is_unreached l)))) last
        ∙ made_is
      where
        last : slots * suc (round - 2) ≡ slots * (round - 1)
        last = omega arith
