-- A bundle of timeouts against single ones: admitted, with members noted before, and refused. Assumes nothing.
use mathlib.Core.Path.{◌≡◌, refl, sym, ap, ap₂, ◌∙◌}
use mathlib.Core.Bool.{Bool, true, false, cond, not, ◌&&◌, ◌||◌, and-true, or-false}
use mathlib.Core.Logic.{◌⊎◌, inl, inr, ⊎_elim}
use mathlib.Core.List.{List, [], ◌∷◌, ◌++◌}
use Prim.Native.Nat.{ℕ, zero, suc, ◌+◌, ◌^◌, ◌≤◌, ◌<◌}
use native.Mathlib.Omega.{arith}
use lib.Bits.{bit_or, bit_and, or_lt, or_zero_r, and_le_r}
use lib.Pow.{pow_pos, pow-lt}
use lib.Dec.{eqb, ltb}
use lib.ListN.{get_or, set}
use borrow.Author.Tests.{eqb-true, eqb-false, eq-eqb, ne_eqb, ltb-true, lt-ltb, le-ltb, not-true, not-false}
use Rattle.record.specs.Below.{any, select}
use Rattle.record.specs.Members.{has, add, rounds, within, is_round}
use Rattle.record.specs.Refusals.{Verdict, no_refusal, refusal_number, number_of, Question, first_no}
use Rattle.record.specs.Questions.{signer_questions}
use Rattle.record.specs.Admitted.{Placed}
use Rattle.record.specs.declared.refusal.Refusal.TheVariants.{Round, MaskBits, Duplicate}
use Rattle.record.proofs.Booleans.{which, and_fails_right, and_left, and_right, and_both, or_left, bool_ext, cond_true, cond_false}
use Rattle.record.proofs.Below.{any_elim, any_off, any_cong}
use Rattle.record.proofs.Masks.{has_bound, has_or, has_one, has_zero, has_add_other, mask_ext, within_lt, lt_within, within_or}
use Rattle.record.proofs.Rounds.{round_range}
use Rattle.record.proofs.Turn.{next, stop, done, front_no, front_yes, numbered_law, placed_law, no_round_law}
use Rattle.replica.specs.Layout.{member_count_at, timeouts_at, timeouts_kind}
use Rattle.replica.specs.State.{member_count, timeouts_mask, add_member, add_members}
use Rattle.replica.specs.WellFormed.{subset}
use Rattle.replica.specs.Outcome.{Outcome, unchanged, outcome}
use Rattle.replica.proofs.Formed.{WellFormed, formed}
use Rattle.replica.proofs.StatusLaws.{state_ok}
use Rattle.replica.proofs.Laws.{subset_has}
use Rattle.replica.specs.Status.{state_questions}
use Rattle.commits.specs.Commit.{raise_round}
use Rattle.ordering.specs.Calls.{note_refusal, take_timeout, is_new, bundle_refusal, take_timeouts}
use Rattle.ordering.specs.Bundle.{followed, take_singly, new_members, times, Reordered, EndsAsSingles, NotedDoNoHarm, RefusedAsSingles}
use Rattle.ordering.proofs.Rule.{raise_other}
use Rattle.ordering.proofs.Numbers.{past_state, decided}
use Rattle.ordering.proofs.Turns.{outcome_zero, outcome_admitted, outcome_refused}
use Rattle.ordering.proofs.Marks.{formed_raise, formed_note, join_here}
use Rattle.ordering.proofs.Writing.{calm_members, calm_then, raise_calm, note_calm, join_calm}
use Rattle.ordering.proofs.Bundled.{BundlePassed, bundle_passed}
use Rattle.ordering.proofs.Taking.{calm_still}
use Rattle.ordering.proofs.Joined.{join_twice, raise_once}

-- ---- the questions

-- two calls that ask 1 and 3 first end alike, if they do where these are passed
same_state : (l : List ℕ) (xs ys : List Question) → (WellFormed l → first_no xs ≡ first_no ys)
    → first_no (state_questions l ++ xs) ≡ first_no (state_questions l ++ ys)
same_state l xs ys same = go (decided (first_no (state_questions l)))
  where
    go : (number_of (first_no (state_questions l)) ≡ 0) ⊎ (number_of (first_no (state_questions l)) ≡ 0 → ⊥)
        → first_no (state_questions l ++ xs) ≡ first_no (state_questions l ++ ys)
    go (inl z) =
        let w = state_ok l z in
        let S = formed l w.0 w.1 in
        sym (past_state l xs S) ∙ same S ∙ past_state l ys S
    go (inr h) = sym (front_no (state_questions l) xs h) ∙ front_no (state_questions l) ys h

-- and so with 5
same_round : (r : ℕ) (xs ys : List Question) → (is_round r ≡ true → first_no xs ≡ first_no ys)
    → first_no ((is_round r, Round) ∷ xs) ≡ first_no ((is_round r, Round) ∷ ys)
same_round r xs ys same = ⊎_elim
    (λ c. sym (next _ _ c refl) ∙ same c ∙ next _ _ c refl)
    (λ c. sym (stop _ _ c) ∙ stop _ _ c)
    (which (is_round r))

-- 5 and 6 are passed by a member in a round
signer_passed : (n r p : ℕ) → 1 ≤ r → r ≤ rounds → p < n → (rest : List Question) → first_no rest ≡ first_no (signer_questions n r p ++ rest)
signer_passed n r p low high few rest =
    let placed : Placed n r p = record { round_low = low; round_high = high; member_low = few } in
    front_yes (signer_questions n r p) rest (numbered_law n r p).0 (ap number_of (placed_law n r p placed))

-- ---- a single timeout of a new member

module _ (l : List ℕ) (S : WellFormed l) (r : ℕ) (low : 1 ≤ r) (high : r ≤ rounds) (p : ℕ) (few : p < member_count l) where
  -- what its last question finds is its answer
  note_last : (why : Verdict) → why ≡ first_no ((not (has (timeouts_mask l r) p), Duplicate) ∷ []) → why ≡ note_refusal l r p timeouts_kind
  note_last why e = e ∙ signer_passed (member_count l) r p low high few _ ∙ past_state l _ S

  abbrev noted : List ℕ
  noted = add_member l (timeouts_at r) p

  single : has (timeouts_mask l r) p ≡ false → take_timeout l r p ≡ unchanged no_refusal (raise_round noted)
  unfolding take_timeout
  single h = sym (calm_still (calm_then (note_calm l r timeouts_kind p low high (omega arith)) (raise_calm noted))
      ∙ outcome_admitted no_refusal _ l _ (note_last no_refusal (next _ _ (ap not h) done)) refl)

  noted_formed : WellFormed noted
  noted_formed = formed_note l S r p low high few timeouts_kind (omega arith) (omega arith) (λ e. omega arith)

-- ---- how often a member stands in a list

times_append : (p : ℕ) (a b : List ℕ) → times p (a ++ b) ≡ times p a + times p b
unfolding times
times_append p [] b = omega arith
times_append p (q ∷ a) b = omega (arith, times_append p a b)

-- one that is there or not
times_one : (b : Bool) (k p : ℕ) → times p (cond b (k ∷ []) []) ≡ cond (eqb p k && b) 1 0
unfolding times
times_one true k p = ⊎_elim (λ e. rw e) (λ e. rw e) (which (eqb p k))
times_one false k p = ⊎_elim (λ e. rw e) (λ e. rw e) (which (eqb p k))

-- of those selected each stands there once
times_select : (k : ℕ) (t : ℕ → Bool) (p : ℕ) → times p (select k t) ≡ cond (ltb p k && t p) 1 0
unfolding select times
times_select zero t p = rw (le-ltb p 0 (omega arith))
times_select (suc k) t p =
    times_append p (select k t) (cond (t k) (k ∷ []) [])
    ∙ ap₂ ◌+◌ (times_select k t p) (times_one (t k) k p) ∙ go (which (eqb p k))
  where
    go : (eqb p k ≡ true) ⊎ (eqb p k ≡ false) → cond (ltb p k && t p) 1 0 + cond (eqb p k && t k) 1 0 ≡ cond (ltb p (suc k) && t p) 1 0
    go (inl d) =
        let same = eqb-true p k d in
        rw (le-ltb p k (omega arith), lt-ltb p (suc k) (omega arith), d, same) (omega arith)
    go (inr d) =
        let apart = eqb-false p k d in
        let above : ltb p (suc k) ≡ ltb p k = bool_ext
        (λ e. lt-ltb p k (omega (arith, ltb-true p (suc k) e))) (λ e. lt-ltb p (suc k) (omega (arith, ltb-true p k e))) in
        rw (d, above) (omega arith)

-- ---- single timeouts in turn

-- the members of a list as a mask
gather : List ℕ → ℕ
gather [] = 0
gather (p ∷ ps) = bit_or (2 ^ p) (gather ps)

gather_has : (ps : List ℕ) (q : ℕ) → has (gather ps) q ≡ ltb 0 (times q ps)
unfolding gather times
gather_has [] q = has_zero q
gather_has (p ∷ ps) q = has_or (2 ^ p) (gather ps) q ∙ ap₂ ◌||◌ (has_one p q) (gather_has ps q) ∙ go (which (eqb q p))
  where
    go : (eqb q p ≡ true) ⊎ (eqb q p ≡ false) → (eqb p q || ltb 0 (times q ps)) ≡ ltb 0 (cond (eqb q p) 1 0 + times q ps)
    go (inl e) = rw (e, eq-eqb p q (sym (eqb-true q p e)), lt-ltb 0 (1 + times q ps) (omega arith))
    go (inr e) =
        let plus : times q ps ≡ 0 + times q ps = omega arith in
        rw (e, ne_eqb p q (λ d. eqb-false q p e (sym d))) (ap (ltb 0) plus)

gather_low : (n : ℕ) (ps : List ℕ) → ((q : ℕ) → 1 ≤ times q ps → q < n) → gather ps < 2 ^ n
unfolding gather times
gather_low n [] h = pow_pos n
gather_low n (p ∷ ps) h = or_lt n _ _ (pow-lt (h p (rw (eq-eqb p p refl) (omega arith)))) (gather_low n ps (λ q k. h q (omega arith)))

-- members of the group that are not in the timeouts of round r, each once
record Fresh (l : List ℕ) (r : ℕ) (ps : List ℕ) : Type 0 where
  few : (q : ℕ) → 1 ≤ times q ps → q < member_count l
  new : (q : ℕ) → 1 ≤ times q ps → has (timeouts_mask l r) q ≡ false
  once : (q : ℕ) → times q ps ≤ 1

-- one timeout that is admitted, and then those of the list
then_rest : (l : List ℕ) (r p : ℕ) (ps m k : List ℕ) → take_timeout l r p ≡ unchanged no_refusal m → take_singly m r ps ≡ unchanged no_refusal k
    → take_singly l r (p ∷ ps) ≡ unchanged no_refusal k
unfolding take_singly followed
then_rest l r p ps m k e d = ap (λ (o : Outcome). followed o (take_singly o.words r ps)) e ∙ ap (followed (unchanged no_refusal m)) d

-- one member is the mask of it alone
alone : (l : List ℕ) (at p : ℕ) → add_member l at p ≡ add_members l at (2 ^ p)
unfolding add_member add_members
alone l at p = refl

module _ (r : ℕ) (low : 1 ≤ r) (high : r ≤ rounds) where
  module _ (l : List ℕ) (S : WellFormed l) (p : ℕ) (ps : List ℕ) (F : Fresh l r (p ∷ ps)) where
    first_there : 1 ≤ times p (p ∷ ps)
    unfolding times
    first_there = rw (eq-eqb p p refl) (omega arith)

    rest_there : (q : ℕ) → 1 ≤ times q ps → 1 ≤ times q (p ∷ ps)
    unfolding times
    rest_there q h = omega arith

    first_few : p < member_count l
    first_few = F.few p first_there

    first_formed : WellFormed (add_member l (timeouts_at r) p)
    first_formed = noted_formed l S r low high p first_few

    first_members : member_count (add_member l (timeouts_at r) p) ≡ member_count l
    first_members = calm_members (note_calm l r timeouts_kind p low high (omega arith))

    first_single : take_timeout l r p ≡ unchanged no_refusal (raise_round (add_member l (timeouts_at r) p))
    first_single = single l S r low high p first_few (F.new p first_there)

    -- the others are new after it
    rest_apart : (q : ℕ) → 1 ≤ times q ps → p ≡ q → ⊥
    unfolding times
    rest_apart q h e =
        let k : times p (p ∷ ps) ≤ 1 = F.once p in
        let t : times p ps ≡ times q ps = ap (λ (x : ℕ). times x ps) e in
        omega (arith, rw (eq-eqb p p refl) at k)

    rest_fresh : Fresh (raise_round (add_member l (timeouts_at r) p)) r ps
    unfolding times
    rest_fresh = record {
      few = λ q h. rw (raise_other (add_member l (timeouts_at r) p) member_count_at (λ e. omega arith), first_members) (F.few q (rest_there q h));
      new = λ q h. ap (λ (x : ℕ). has x q) (raise_other (add_member l (timeouts_at r) p) (timeouts_at r) (λ e. omega arith) ∙ mask)
          ∙ has_add_other (timeouts_mask l r) p q (rest_apart q h) ∙ F.new q (rest_there q h);
      once = λ q. omega (arith, F.once q);
    }
      where
        mask : timeouts_mask (add_member l (timeouts_at r) p) r ≡ add (timeouts_mask l r) p
        mask = ap (λ (k : List ℕ). get_or k (timeouts_at r) 0) (alone l (timeouts_at r) p)
            ∙ join_here l (timeouts_at r) (2 ^ p) (omega (arith, S.size))

    -- their mask is one of members
    rest_low : gather ps < 2 ^ member_count l
    rest_low = gather_low (member_count l) ps (λ q h. F.few q (rest_there q h))

    -- the rest after the first is all at once
    rest_joined : raise_round (add_members (raise_round (add_member l (timeouts_at r) p)) (timeouts_at r) (gather ps))
        ≡ raise_round (add_members l (timeouts_at r) (gather (p ∷ ps)))
    unfolding gather
    rest_joined =
        raise_once (add_member l (timeouts_at r) p) first_formed r (gather ps) low high (rw first_members rest_low)
        ∙ ap raise_round (ap (λ (k : List ℕ). add_members k (timeouts_at r) (gather ps)) (alone l (timeouts_at r) p)
        ∙ join_twice l (timeouts_at r) (member_count l) (2 ^ p) (gather ps) (omega (arith, S.size)) (S.masks.timeouts_low r low high)
        (pow-lt first_few) rest_low)

  -- they end as their mask at once does
  singly : (ps : List ℕ) (p : ℕ) (l : List ℕ) → WellFormed l → Fresh l r (p ∷ ps)
      → take_singly l r (p ∷ ps) ≡ unchanged no_refusal (raise_round (add_members l (timeouts_at r) (gather (p ∷ ps))))
  unfolding take_singly gather
  singly [] p l S F = then_rest l r p [] _ _ (first_single l S p [] F)
      (ap (λ (k : List ℕ). unchanged no_refusal (raise_round k)) (alone l (timeouts_at r) p
      ∙ ap (add_members l (timeouts_at r)) (sym (or_zero_r (2 ^ p)))))
  singly (q ∷ ps) p l S F = then_rest l r p (q ∷ ps) _ _ (first_single l S p (q ∷ ps) F)
      (singly ps q _ (formed_raise _ (first_formed l S p (q ∷ ps) F)) (rest_fresh l S p (q ∷ ps) F)
      ∙ ap (unchanged no_refusal) (rest_joined l S p (q ∷ ps) F))

-- ---- a bundle that no question stopped

module _ (l : List ℕ) (r mask : ℕ) (w : BundlePassed l r mask) (ps : List ℕ) (R : Reordered ps (new_members l r mask)) where
  count_is : (q : ℕ) → times q ps ≡ cond (ltb q (member_count l) && is_new l r mask q) 1 0
  count_is q = R q ∙ times_select (member_count l) (is_new l r mask) q

  -- an entry of the list is a new member
  entry : (q : ℕ) → 1 ≤ times q ps → (ltb q (member_count l) && is_new l r mask q) ≡ true
  entry q h = ⊎_elim (λ e. e) (λ e. absurd (omega (arith, count_is q ∙ cond_false {A = ℕ} 1 0 e))) (which (ltb q (member_count l) && is_new l r mask q))

  fresh : Fresh l r ps
  unfolding is_new
  fresh = record {
    few = λ q h. ltb-true _ _ (and_left _ _ (entry q h));
    new = λ q h. not-true _ (and_right (has mask q) _ (and_right (ltb q (member_count l)) _ (entry q h)));
    once = λ q. rw (count_is q) (⊎_elim (λ e. rw e (omega arith)) (λ e. rw e (omega arith)) (which (ltb q (member_count l) && is_new l r mask q)));
  }

  -- together with the timeouts they are the mask
  same_mask : bit_or (timeouts_mask l r) (gather ps) ≡ bit_or (timeouts_mask l r) mask
  unfolding is_new
  same_mask = mask_ext (member_count l) _ _ (or_lt (member_count l) _ _ old (gather_low (member_count l) ps fresh.few))
      (or_lt (member_count l) _ _ old w.small)
      (λ p h. has_or (timeouts_mask l r) (gather ps) p ∙ ap (λ (t : Bool). has (timeouts_mask l r) p || t) (gather_has ps p ∙ ap (ltb 0) (count_is p))
      ∙ rw (lt-ltb _ _ h) (go (has (timeouts_mask l r) p) (has mask p)) ∙ sym (has_or (timeouts_mask l r) mask p))
    where
      old : timeouts_mask l r < 2 ^ member_count l
      old = w.formed.masks.timeouts_low r w.low w.high

      go : (a b : Bool) → (a || ltb 0 (cond (b && not a) 1 0)) ≡ (a || b)
      go true b = refl
      go false true = refl
      go false false = refl

-- it ends as single timeouts of its new members, in any order
in_any_order : (l : List ℕ) (r mask : ℕ) → BundlePassed l r mask → (ps : List ℕ) → Reordered ps (new_members l r mask)
    → take_singly l r ps ≡ unchanged no_refusal (raise_round (add_members l (timeouts_at r) mask))
unfolding times
in_any_order l r mask w [] R =
    let p = any_elim (member_count l) (is_new l r mask) w.some in
    absurd (omega (arith, R p.0 ∙ times_select (member_count l) (is_new l r mask) p.0 ∙ cond_true {A = ℕ} 1 0 (and_both (lt-ltb _ _ p.1) p.2)))
in_any_order l r mask w (p ∷ ps) R =
    singly r w.low w.high ps p l w.formed (fresh l r mask w (p ∷ ps) R)
    ∙ ap (λ (k : List ℕ). unchanged no_refusal (raise_round k)) (joined_same (same_mask l r mask w (p ∷ ps) R))
  where
    joined_same : bit_or (timeouts_mask l r) (gather (p ∷ ps)) ≡ bit_or (timeouts_mask l r) mask
        → add_members l (timeouts_at r) (gather (p ∷ ps)) ≡ add_members l (timeouts_at r) mask
    joined_same e = unfold add_members in ap (set l (timeouts_at r)) e

-- An admitted bundle ends as single timeouts of its new members do, by rising member and in any order.
pub ends_as_singles : EndsAsSingles
unfolding take_timeouts
ends_as_singles l r mask z =
    let h = outcome_zero (bundle_refusal l r mask) l _ z in
    let w = bundle_passed l r mask h in
    let C = calm_then (join_calm l r timeouts_kind mask w.low w.high (omega arith)) (raise_calm (add_members l (timeouts_at r) mask)) in
    let ends = calm_still C ∙ outcome_admitted _ (bundle_refusal l r mask) l _ refl h in
    (in_any_order l r mask w (new_members l r mask) (λ p. refl) ∙ ends, λ ps R. in_any_order l r mask w ps R ∙ ends)

-- ---- members noted before

module _ (l : List ℕ) (r mask noted : ℕ) (old : subset noted (timeouts_mask l r) ≡ true) where
  same_new : (p : ℕ) → is_new l r (bit_or mask noted) p ≡ is_new l r mask p
  unfolding is_new
  same_new p = ap (λ (t : Bool). t && not (has (timeouts_mask l r) p)) (has_or mask noted p) ∙ go (which (has noted p))
    where
      go : (has noted p ≡ true) ⊎ (has noted p ≡ false)
          → ((has mask p || has noted p) && not (has (timeouts_mask l r) p)) ≡ (has mask p && not (has (timeouts_mask l r) p))
      go (inl d) =
          let known : not (has (timeouts_mask l r) p) ≡ false = ap not (subset_has noted (timeouts_mask l r) p old d) in
          and_fails_right (has mask p || has noted p) known ∙ sym (and_fails_right (has mask p) known)
      go (inr d) = rw d (ap (λ (t : Bool). t && not (has (timeouts_mask l r) p)) (or-false (has mask p)))

  noted_low : WellFormed l → 1 ≤ r → r ≤ rounds → noted < 2 ^ member_count l
  noted_low S low high =
      let part : bit_and noted (timeouts_mask l r) ≡ noted = eqb-true _ _ old in
      omega (arith, S.masks.timeouts_low r low high, part, and_le_r noted (timeouts_mask l r))

  same_bits : WellFormed l → is_round r ≡ true → within (member_count l) (bit_or mask noted) ≡ within (member_count l) mask
  same_bits S c =
      let n = member_count l in
      let w = round_range r c in
      within_or n mask noted
      ∙ ap (λ (t : Bool). within n mask && t) (lt_within n noted (noted_low S w.0 w.1)) ∙ and-true (within n mask)

  same_refusal : bundle_refusal l r (bit_or mask noted) ≡ bundle_refusal l r mask
  same_refusal = same_state l _ _ (λ S. same_round r _ _ (λ c. ap₂ (λ (b t : Bool). first_no ((b, MaskBits) ∷ (t, Duplicate) ∷ [])) (same_bits S c)
      (any_cong (member_count l) _ _ (λ p h. same_new p))))

  same_joined : BundlePassed l r mask → add_members l (timeouts_at r) (bit_or mask noted) ≡ add_members l (timeouts_at r) mask
  unfolding add_members
  same_joined w = ap (set l (timeouts_at r)) (mask_ext n _ _ (or_lt n _ _ low (or_lt n _ _ w.small (noted_low w.formed w.low w.high)))
      (or_lt n _ _ low w.small)
      (λ p h. has_or (timeouts_mask l r) (bit_or mask noted) p ∙ ap (λ (t : Bool). has (timeouts_mask l r) p || t) (has_or mask noted p)
      ∙ go p (which (has noted p)) ∙ sym (has_or (timeouts_mask l r) mask p)))
    where
      n : ℕ
      n = member_count l

      low : timeouts_mask l r < 2 ^ member_count l
      low = w.formed.masks.timeouts_low r w.low w.high

      go : (p : ℕ) → (has noted p ≡ true) ⊎ (has noted p ≡ false)
          → (has (timeouts_mask l r) p || (has mask p || has noted p)) ≡ (has (timeouts_mask l r) p || has mask p)
      go p (inl d) =
          let known = subset_has noted (timeouts_mask l r) p old d in
          or_left (has mask p || has noted p) known ∙ sym (or_left (has mask p) known)
      go p (inr d) = rw d (ap (λ (t : Bool). has (timeouts_mask l r) p || t) (or-false (has mask p)))

-- A bundle ends the same with members noted before and without them.
pub noted_do_no_harm : NotedDoNoHarm
unfolding take_timeouts
noted_do_no_harm l r mask noted old = go (which (eqb (number_of why) 0))
  where
    why : Verdict
    why = bundle_refusal l r mask

    go : (eqb (number_of why) 0 ≡ true) ⊎ (eqb (number_of why) 0 ≡ false) → take_timeouts l r (bit_or mask noted) ≡ take_timeouts l r mask
    go (inl e) = ap₂ (λ (q : Verdict) (after : List ℕ). outcome q l after) (same_refusal l r mask noted old)
        (ap raise_round (same_joined l r mask noted old (bundle_passed l r mask (eqb-true _ _ e))))
    go (inr e) =
        let stopped : number_of why ≡ 0 → ⊥ = eqb-false _ _ e in
        sym (outcome_refused why _ l _ (sym (same_refusal l r mask noted old)) stopped) ∙ outcome_refused why why l _ refl stopped

-- ---- a refused bundle

-- behind 1, 3 and 5 a single timeout is asked 6, which is answered yes of a member, and 12
module _ (l : List ℕ) (r mask p : ℕ) (there : has mask p ≡ true) (some : number_of (bundle_refusal l r mask) ≡ 0 → ⊥)
    (low_bits : number_of (bundle_refusal l r mask) ≡ refusal_number MaskBits → ⊥) where
  abbrev n : ℕ
  n = member_count l

  -- the last questions of the single timeout, and those of the bundle behind 5
  abbrev asked : List Question
  asked = (not (has (timeouts_mask l r) p), Duplicate) ∷ []

  abbrev last : List Question
  last = (within n mask, MaskBits) ∷ (any n (is_new l r mask), Duplicate) ∷ []

  -- these decide the bundle in a round
  decides : WellFormed l → is_round r ≡ true → first_no last ≡ bundle_refusal l r mask
  decides S c = next _ _ c refl ∙ past_state l _ S

  -- nobody is new, so the member is not
  known_before : any n (is_new l r mask) ≡ false → p < n → has (timeouts_mask l r) p ≡ true
  unfolding is_new
  known_before e few = not-false _ (sym (ap (λ (t : Bool). t && not (has (timeouts_mask l r) p)) there) ∙ any_off n (is_new l r mask) e p few)

  nobody : WellFormed l → is_round r ≡ true → within n mask ≡ true → (any n (is_new l r mask) ≡ true) ⊎ (any n (is_new l r mask) ≡ false)
      → first_no (signer_questions n r p ++ asked) ≡ first_no last
  nobody S c d (inl e) = absurd (some (sym (ap number_of (next _ _ d (next _ _ e done) ∙ decides S c))))
  nobody S c d (inr e) =
      let few : p < n = has_bound n mask p (within_lt _ _ d) there in
      let w = round_range r c in
      sym (stop _ _ (ap not (known_before e few)) ∙ signer_passed n r p w.0 w.1 few asked) ∙ next _ _ d (stop _ _ e)

  in_round : WellFormed l → is_round r ≡ true → (within n mask ≡ true) ⊎ (within n mask ≡ false) → first_no (signer_questions n r p ++ asked) ≡ first_no last
  in_round S c (inl d) = nobody S c d (which (any n (is_new l r mask)))
  in_round S c (inr d) = absurd (low_bits (sym (ap number_of (stop _ _ d ∙ decides S c))))

  -- what is no round stops both
  no_round : is_round r ≡ false → first_no (signer_questions n r p ++ asked) ≡ first_no ((is_round r, Round) ∷ last)
  no_round c =
      let e = no_round_law n r p c in
      sym (front_no (signer_questions n r p) asked (λ z. eqb-false 5 0 refl (sym (ap number_of e) ∙ z))) ∙ e ∙ stop _ _ c

  refused_alike : note_refusal l r p timeouts_kind ≡ bundle_refusal l r mask
  refused_alike = same_state l _ _ (λ S. ⊎_elim (λ c. in_round S c (which (within n mask)) ∙ next _ _ c refl) no_round (which (is_round r)))

-- A refused bundle, unless for its bits, ends as a single timeout of any of its members.
pub refused_as_singles : RefusedAsSingles
unfolding take_timeout take_timeouts
refused_as_singles l r mask p there stopped bits =
    let why = bundle_refusal l r mask in
    let some : number_of why ≡ 0 → ⊥ = λ z. stopped (ap (λ (o : Outcome). o.number) (sym (outcome_admitted why why l _ refl z))) in
    let low : number_of why ≡ refusal_number MaskBits → ⊥ = λ z. bits (ap (λ (o : Outcome). o.number) (sym (outcome_refused why why l _ refl some)) ∙ z) in
    let e = refused_alike l r mask p there some low in
    sym (outcome_refused why _ l _ (sym e) some) ∙ outcome_refused why why l _ refl some
