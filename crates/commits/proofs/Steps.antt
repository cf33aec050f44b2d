-- The commits' steps, as laws: votes counted, leaders appended, ids entered. Assumes nothing.
use mathlib.Core.Path.{◌≡◌, refl, sym, ap, ◌∙◌}
use mathlib.Core.Bool.{Bool, true, false, not, ◌&&◌}
use mathlib.Core.Logic.{◌⊎◌, inl, inr, ⊎_elim}
use mathlib.Core.List.{List, [], ◌∷◌, ◌++◌, append-nil}
use Prim.Native.Nat.{ℕ, zero, suc, ◌+◌, ◌^◌, ◌≤◌, ◌<◌}
use native.Mathlib.Nat.{eq-or-lt_of_le}
use native.Mathlib.Numerals.{add-one, sub-one}
use native.Mathlib.Omega.{arith}
use lib.Dec.{leb}
use lib.Pow.{pow_pos}
use lib.ListN.{get_or, set, take, drop, length, length-set, length-drop}
use lib.Seq.{get_or-set_same, get_or-set_other}
use borrow.Author.Tests.{lt-ltb, le-ltb, le-leb, eq-eqb, ne_eqb}
use Rattle.record.specs.Below.{select}
use Rattle.record.specs.Members.{quorum, leader_at, leader, most_leaders, has, with, meets, id_of, id_round, id_member, id_limit, is_round, rounds}
use Rattle.record.specs.Members.{slots, voted_rounds}
use Rattle.record.specs.declared.members.Members.{Members}
use Rattle.record.specs.Layout.{strong_of, body_size, strong_place}
use Rattle.record.proofs.Booleans.{which, never, and_both, and_fails_left, and_fails_right, or_left, cond_true, cond_false}
use Rattle.record.proofs.Below.{count_cong}
use Rattle.record.proofs.Masks.{leaders_apart, has_zero, has_one, has_add_same, has_add_other, add_lt, mask_ext, meets_count}
use Rattle.protocol.specs.Dag.{Dag, present, held, votes, voter, enough, backed, committed}
use Rattle.protocol.specs.Masks.{voters}
use Rattle.protocol.proofs.Voters.{voters_lt, voters_has, voters_claim}
use Rattle.replica.specs.Layout.{cell_at, state_size, leaders_at, leader_count_at, member_count_at}
use Rattle.replica.specs.State.{member_count, committed_round, leader_count, held_mask, heard_mask, votes_mask, ordered_mask, cell, vertices}
use Rattle.replica.specs.State.{firsts, dag, ordered_id}
use Rattle.replica.specs.WellFormed.{subset}
use Rattle.replica.proofs.Laws.{subset_has}
use Rattle.record.proofs.Rounds.{round_in, id_round_lem, id_member_lem}
use Rattle.commits.specs.Commit.{append_leader, append_leaders, enter, enter_all, committable}
use Rattle.commits.specs.Standing.{Standing, first_votes, LeaderOf, order_id, order_round}
use Rattle.commits.proofs.Laws.{Cell}

-- a cell that lies within the state is a record's body
cell_present : (l : List ℕ) (r p : ℕ) → cell_at r p < length l → present (cell l r p) ≡ true
cell_present l r p h = go (drop (cell_at r p) l) (omega (arith, length-drop (cell_at r p) l))
  where
    go : (xs : List ℕ) → 0 < length xs → present (take body_size xs) ≡ true
    go [] k = absurd (omega arith)
    go (x ∷ xs) k = refl

-- ---- selections, a number at a time

pub select_zero : (t : ℕ → Bool) → select 0 t ≡ []
unfolding select
select_zero t = refl

pub select_in : (i : ℕ) (t : ℕ → Bool) → t i ≡ true → select (i + 1) t ≡ select i t ++ i ∷ []
unfolding select
select_in i t e = rw (add-one i) (rw e)

pub select_out : (i : ℕ) (t : ℕ → Bool) → t i ≡ false → select (i + 1) t ≡ select i t
unfolding select
select_out i t e = rw (add-one i) (rw e (append-nil (select i t)))

pub select_none : (k : ℕ) (s : ℕ → Bool) → ((i : ℕ) → i < k → s i ≡ false) → select k s ≡ []
unfolding select
select_none zero s h = refl
select_none (suc k) s h = rw (select_none k s (λ i l. h i (omega arith)), h k (omega arith))

-- ---- leaders appended

pub append_none : (l : List ℕ) → l ≡ append_leaders l []
unfolding append_leaders
append_none l = refl

pub append_more : (l rs : List ℕ) (r : ℕ) → append_leader (append_leaders l rs) r ≡ append_leaders l (rs ++ r ∷ [])
unfolding append_leaders
append_more l [] r = refl
append_more l (x ∷ rs) r = append_more (append_leader l x) rs r

pub append_size : (l : List ℕ) (r : ℕ) → length (append_leader l r) ≡ length l
unfolding append_leader
append_size l r = simp length-set

pub append_members : (l : List ℕ) (r : ℕ) → member_count (append_leader l r) ≡ member_count l
unfolding append_leader
append_members l r =
    get_or-set_other (set l (leaders_at + leader_count l) r) leader_count_at member_count_at (leader_count l + 1) 0 (λ e. omega arith)
    ∙ get_or-set_other l (leaders_at + leader_count l) member_count_at r 0 (λ e. omega arith)

pub append_count : (l : List ℕ) (r : ℕ) → length l ≡ state_size → leader_count (append_leader l r) ≡ leader_count l + 1
unfolding append_leader
append_count l r e =
    get_or-set_same (set l (leaders_at + leader_count l) r) leader_count_at (leader_count l + 1) 0
    (omega (arith, length-set l (leaders_at + leader_count l) r))

-- ---- ids entered

-- whether the vertex with an id is ordered is a bit of its round's mask
pub ordered_word : (l : List ℕ) (y m : ℕ) (b : Bool) → slots ≤ y → y < id_limit → m ≡ ordered_mask l (id_round y) → b ≡ has m (id_member y)
    → b ≡ ordered_id l y
ordered_word l y m b low high e f = f ∙ rw (e, round_in (id_round y) (omega arith) (omega arith))

pub order_out : (l : List ℕ) (mask y : ℕ) → has mask (id_member y) ≡ false → l ≡ order_id l mask y
unfolding order_id
order_out l mask y e = sym (cond_false _ _ (and_fails_left _ e))

pub order_old : (l : List ℕ) (mask y : ℕ) → ordered_id l y ≡ true → l ≡ order_id l mask y
unfolding order_id
order_old l mask y e = sym (cond_false _ _ (and_fails_right (has mask (id_member y)) (ap not e)))

pub order_new : (l : List ℕ) (mask y : ℕ) → has mask (id_member y) ≡ true → ordered_id l y ≡ false → enter l y ≡ order_id l mask y
unfolding order_id
order_new l mask y e d = sym (cond_true _ _ (and_both e (ap not d)))

-- a round's ids, a member at a time
pub round_none : (l : List ℕ) (mask r : ℕ) → l ≡ order_round l mask r 0
unfolding order_round
round_none l mask r = refl

pub round_more : (l m o : List ℕ) (mask r p : ℕ) → m ≡ order_round l mask r p → o ≡ order_id m mask (id_of r p) → o ≡ order_round l mask r (p + 1)
unfolding order_round
round_more l m o mask r p e d = rw (add-one p) (rw e at d)

-- a round with nothing new changes nothing
pub round_old : (l : List ℕ) (mask r k : ℕ) → 1 ≤ r → r ≤ rounds → k ≤ slots → subset mask (ordered_mask l r) ≡ true → l ≡ order_round l mask r k
unfolding order_round
round_old l mask r zero low high few e = refl
round_old l mask r (suc k) low high few e =
    go (which (has mask k)) ∙ ap (λ (x : List ℕ). order_id x mask (id_of r k)) (round_old l mask r k low high (omega arith) e)
  where
    go : (has mask k ≡ true) ⊎ (has mask k ≡ false) → l ≡ order_id l mask (id_of r k)
    go (inl h) =
        let old = and_both (round_in r low high) (subset_has mask (ordered_mask l r) k e h) in
        order_old l mask (id_of r k) (rw (id_round_lem r k (omega arith), id_member_lem r k (omega arith)) old)
    go (inr h) = order_out l mask (id_of r k) (rw (id_member_lem r k (omega arith)) h)

pub enter_none : (l : List ℕ) → l ≡ enter_all l []
unfolding enter_all
enter_none l = refl

pub enter_more : (l ys : List ℕ) (y : ℕ) → enter (enter_all l ys) y ≡ enter_all l (ys ++ y ∷ [])
unfolding enter_all
enter_more l [] y = refl
enter_more l (x ∷ ys) y = enter_more (enter l x) ys y

-- ---- votes

-- a first message votes exactly if its bit is in the votes mask
pub first_votes_lem : (l : List ℕ) → Standing l → (n q p : ℕ) → n ≡ member_count l → 1 ≤ q → q ≤ voted_rounds → votes n q 0 (firsts l (suc q) p)
    ≡ has (votes_mask l (suc q)) p
unfolding firsts strong_of
first_votes_lem l S n q p e low high = go (which (has (votes_mask l (suc q)) p)) (which (has (heard_mask l (suc q)) p))
  where
    in' : is_round (suc q) ≡ true
    in' = round_in (suc q) (omega arith) (omega arith)

    go : (has (votes_mask l (suc q)) p ≡ true) ⊎ (has (votes_mask l (suc q)) p ≡ false)
        → (has (heard_mask l (suc q)) p ≡ true) ⊎ (has (heard_mask l (suc q)) p ≡ false)
        → votes n q 0 (firsts l (suc q) p) ≡ has (votes_mask l (suc q)) p
    go (inl a) (inl b) = rw (in', b, a, ← e, sub-one (suc q)) (has_one (leader n q) (leader n q) ∙ eq-eqb (leader n q) (leader n q) refl)
    go (inl a) (inr b) = never (S.votes_heard (suc q) p (omega arith) (omega arith) a) b
    go (inr a) (inl b) = rw (in', b, a) (has_zero (leader n q))
    go (inr a) (inr b) = rw (in', b, a) (has_zero (leader n q))

pub first_quorum : (l : List ℕ) → Standing l → (n q : ℕ) → n ≡ member_count l → 1 ≤ q → q ≤ voted_rounds
    → meets n (votes_mask l (suc q)) ≡ enough n (λ p. votes n q 0 (firsts l (suc q) p))
first_quorum l S n q e low high =
    meets_count n (votes_mask l (suc q)) (rw (sym e) at (S.votes_low (suc q) (omega arith) (omega arith)))
    ∙ ap (leb (quorum n)) (count_cong n _ _ (λ p k. sym (first_votes_lem l S n q p e low high)))

-- the leader's vertex of a round is held exactly if its bit is in the held mask
pub held_word : (l : List ℕ) → Standing l → (r p : ℕ) → 1 ≤ r → r ≤ rounds → p < slots → has (held_mask l r) p ≡ held (vertices l) r p
unfolding vertices
held_word l S r p low high few = go (which (has (held_mask l r) p))
  where
    go : (has (held_mask l r) p ≡ true) ⊎ (has (held_mask l r) p ≡ false) → has (held_mask l r) p ≡ held (vertices l) r p
    go (inl e) = rw (round_in r low high, e, lt-ltb p slots few) (sym (cell_present l r p (omega (arith, S.size))))
    go (inr e) = rw (round_in r low high, e)

-- what makes a leader committed, and what not
pub not_led : (n : ℕ) (d : Dag) (q i : ℕ) → held d.vertex q (leader_at n q i) ≡ false → false ≡ backed n d q i
unfolding backed
not_led n d q i e = sym (and_fails_left _ e)

-- the mask of the voters meets the quorum exactly if the held leader is committed
pub by_voters : (n : ℕ) (d : Dag) (q i : ℕ) (m : Members) → m.bits ≡ voters n d q i n → held d.vertex q (leader_at n q i) ≡ true
    → meets n m.bits ≡ backed n d q i
unfolding backed
by_voters n d q i m e led = rw (e, led) (voters_claim n d q i)

-- ---- the lowest committable round

pub committable_at : (l : List ℕ) (n q : ℕ) → n ≡ member_count l → committed_round l < q → q ≤ voted_rounds → committed n (dag l) q ≡ committable l q
unfolding committable
committable_at l n q e low high = rw (lt-ltb (committed_round l) q low, le-leb q voted_rounds high, e)

pub committable_low : (l : List ℕ) (q : ℕ) → q ≤ committed_round l → committable l q ≡ false
unfolding committable
committable_low l q h = and_fails_left _ (le-ltb (committed_round l) q h)

-- the first messages vote for other leaders than the main one in no state
first_others : (l : List ℕ) → Standing l → (n q i p : ℕ) → n ≡ member_count l → 1 ≤ q → 0 < i → i < most_leaders
    → votes n q i (firsts l (suc q) p) ≡ false
unfolding firsts strong_of
first_others l S n q i p e low some few = go (which (is_round (suc q) && has (heard_mask l (suc q)) p)) (which (has (votes_mask l (suc q)) p))
  where
    go : ((is_round (suc q) && has (heard_mask l (suc q)) p) ≡ true) ⊎ ((is_round (suc q) && has (heard_mask l (suc q)) p) ≡ false)
        → (has (votes_mask l (suc q)) p ≡ true) ⊎ (has (votes_mask l (suc q)) p ≡ false) → votes n q i (firsts l (suc q) p) ≡ false
    go (inl a) (inl b) = rw (a, b, ← e, sub-one (suc q))
        (has_one (leader n q) (leader_at n q i)
        ∙ ne_eqb (leader n q) (leader_at n q i) (λ d. omega (arith, leaders_apart n q 0 i (omega (arith, S.low)) (omega (arith, S.low)) d)))
    go (inl a) (inr b) = rw (a, b) (has_zero (leader_at n q i))
    go (inr a) b = rw a (has_zero (leader_at n q i))

pub first_mask : (l : List ℕ) → Standing l → (n q i p : ℕ) → n ≡ member_count l → 1 ≤ q → q ≤ voted_rounds → i < most_leaders
    → has (first_votes l q i) p ≡ votes n q i (firsts l (suc q) p)
first_mask l S n q zero p e low high few = rw (add-one q) (sym (first_votes_lem l S n q p e low high))
first_mask l S n q (suc i) p e low high few =
    rw (ne_eqb (suc i) 0 (λ d. omega arith)) (has_zero p ∙ sym (first_others l S n q (suc i) p e low (omega arith) few))

first_low : (l : List ℕ) → Standing l → (n q i : ℕ) → n ≡ member_count l → 1 ≤ q → q ≤ voted_rounds → first_votes l q i < 2 ^ n
first_low l S n q zero e low high = rw (add-one q) (rw (sym e) at (S.votes_low (suc q) (omega arith) (omega arith)))
first_low l S n q (suc i) e low high = rw (ne_eqb (suc i) 0 (λ d. omega arith)) (pow_pos n)

-- of the members below p the mask has the voters, and of the others those whose first messages vote
pub record Voters (l : List ℕ) (n q i p : ℕ) (m : Members) : Type 0 where
  pub low : m.bits < 2 ^ n
  pub below : (x : ℕ) → x < p → has m.bits x ≡ voter n (dag l) q i x
  pub above : (x : ℕ) → p ≤ x → has m.bits x ≡ votes n q i (firsts l (suc q) x)

-- so does the mask of these at first
pub voters_first : (l : List ℕ) (n q i : ℕ) (m : Members) → LeaderOf l n q i → m.bits ≡ first_votes l q i → Voters l n q i 0 m
voters_first l n q i m L d =
    record {
      low = rw d (first_low l L.standing n q i L.members L.low L.high);
      below = λ x k. absurd (omega arith);
      above = λ x k. ap (λ (z : ℕ). has z x) d ∙ first_mask l L.standing n q i x L.members L.low L.high L.index;
    }

-- and at the end the mask is that of the voters
pub voters_all : (l : List ℕ) (n q i : ℕ) (m : Members) → Voters l n q i n m → m.bits ≡ voters n (dag l) q i n
voters_all l n q i m v =
    mask_ext n m.bits (voters n (dag l) q i n) v.low (voters_lt n (dag l) q i n n (omega arith))
    (λ x k. v.below x k ∙ sym (voters_has n (dag l) q i n x k))

module _ (l : List ℕ) (n q i p at : ℕ) (C : Cell l (q + 1) p at) (few : p < n) (m o : Members) (v : Voters l n q i p m) where
  -- a vertex votes exactly if the strong mask in its cell has the leader
  vertex_vote : has (get_or l (at + strong_place) 0) (leader_at n q i) ≡ votes n q i (vertices l (suc q) p)
  vertex_vote = rw (← add-one q) (ap (λ (x : ℕ). has x (leader_at n q i)) C.strong)

  -- from the voters below p to those below p + 1, with member p, and the others as they were
  next : o.bits < 2 ^ n → has o.bits p ≡ voter n (dag l) q i p → ((x : ℕ) → (p ≡ x → ⊥) → has o.bits x ≡ has m.bits x) → Voters l n q i (p + 1) o
  next low here same = record {
    low = low;
    below = λ x k. ⊎_elim (λ (e : x ≡ p). rw e here) (λ k'. same x (λ e. omega arith) ∙ v.below x k') (eq-or-lt_of_le (omega arith));
    above = λ x k. same x (λ e. omega arith) ∙ v.above x (omega arith);
  }

  -- member p joins if its vertex votes
  pub voter_in : has (get_or l (at + strong_place) 0) (leader_at n q i) ≡ true → o ≡ with m p → Voters l n q i (p + 1) o
  unfolding voter
  voter_in h e = next (rw e (add_lt n m.bits p v.low few))
      (rw e (has_add_same m.bits p) ∙ sym (or_left _ (sym vertex_vote ∙ h)))
      (λ x d. rw e (has_add_other m.bits p x d))

  -- and is in the mask, if it does not, exactly if its first message votes
  pub voter_out : has (get_or l (at + strong_place) 0) (leader_at n q i) ≡ false → o ≡ m → Voters l n q i (p + 1) o
  unfolding voter
  voter_out h e = next (rw e v.low) (rw (e, sym vertex_vote ∙ h) (v.above p (omega arith))) (λ x d. rw e)
