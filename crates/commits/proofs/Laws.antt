-- Each case of the definitions, as a law. Assumes nothing.
use mathlib.Core.Path.{◌≡◌, refl, sym, ap, ◌∙◌}
use mathlib.Core.Bool.{true, false}
use mathlib.Core.List.{List}
use Prim.Native.Nat.{ℕ, zero, suc, ◌+◌, ◌-◌, ◌^◌, ◌≤◌, ◌<◌}
use native.Mathlib.Nat.{not-suc-le-zero}
use native.Mathlib.Numerals.{add-one, sub-one}
use native.Mathlib.Omega.{arith}
use lib.ListN.{get_or, set, length, replicate, get_or-replicate}
use lib.Bits.{bit_or, or_zero_l}
use borrow.Author.Tests.{lt-ltb, le-ltb}
use Rattle.record.specs.Members.{rounds, slots, leader, has, meets, id_round, id_member, id_limit}
use Rattle.record.specs.Layout.{strong_of, weak_count_of, weak_of, weak_slots, weak_place, weak_count_place, strong_place}
use Rattle.record.proofs.Booleans.{and_fails_left, and_both, or_left, cond_true, cond_false}
use Rattle.protocol.specs.Dag.{Records}
use Rattle.protocol.specs.Masks.{parents, join, join_weak, join_parents, join_round, join_round_parents, fill, reach_masks}
use Rattle.replica.specs.Layout.{cell_at, current_round_at}
use Rattle.replica.specs.State.{member_count, current_round, held_mask, timeouts_mask, vertices}
use Rattle.commits.specs.Commit.{passable, highest_passable, raise_round}
use Rattle.commits.specs.Standing.{Standing}
use Rattle.protocol.proofs.Paths.{weak_present}

-- ---- the round rule

module _ (l : List ℕ) (n r : ℕ) (e : n ≡ member_count l) where
  pub passable_few : meets n (held_mask l r) ≡ false → false ≡ passable l r
  unfolding passable
  passable_few h = sym (and_fails_left _ (rw e at h))

  pub passable_led : meets n (held_mask l r) ≡ true → has (held_mask l r) (leader n r) ≡ true → true ≡ passable l r
  unfolding passable
  passable_led h k = sym (and_both (rw e at h) (or_left _ (rw e at k)))

  pub passable_late : meets n (held_mask l r) ≡ true → has (held_mask l r) (leader n r) ≡ false → meets n (timeouts_mask l r) ≡ passable l r
  unfolding passable
  passable_late h k = rw (← e, h, k)

-- going down: a round that is passable is the highest, and one that is not is passed over
pub highest_none : (l : List ℕ) → 0 ≡ highest_passable l 0
unfolding highest_passable
highest_none l = refl

pub highest_here : (l : List ℕ) (r : ℕ) → 0 < r → passable l r ≡ true → highest_passable l r ≡ r
unfolding highest_passable
highest_here l zero h e = absurd (not-suc-le-zero h)
highest_here l (suc r) h e = rw e

pub highest_below : (l : List ℕ) (r : ℕ) → 0 < r → passable l r ≡ false → highest_passable l r ≡ highest_passable l (r - 1)
unfolding highest_passable
highest_below l zero h e = absurd (not-suc-le-zero h)
highest_below l (suc r) h e = rw (sub-one (suc r), e)

pub raised : (l : List ℕ) (q : ℕ) → q ≡ highest_passable l rounds → current_round l < 1 + q → set l current_round_at (1 + q) ≡ raise_round l
unfolding raise_round
raised l q e h = rw (← e, lt-ltb _ _ h)

pub not_raised : (l : List ℕ) (q : ℕ) → q ≡ highest_passable l rounds → 1 + q ≤ current_round l → l ≡ raise_round l
unfolding raise_round
not_raised l q e h = rw (← e, le-ltb _ _ h)

-- ---- a vertex in its cell

-- a weak id in use: an id of rounds 1 to 32
pub record WeakWord (l : List ℕ) (r p at i : ℕ) : Type 0 where
  pub is : get_or l (at + (weak_place + i)) 0 ≡ weak_of (vertices l r p) i
  pub slot : i < weak_slots
  pub inside : at + (weak_place + i) < length l
  pub low : slots ≤ get_or l (at + (weak_place + i)) 0
  pub high : get_or l (at + (weak_place + i)) 0 < id_limit

-- what the code may use of the cell
pub record Cell (l : List ℕ) (r p at : ℕ) : Type 0 where
  pub strong : get_or l (at + strong_place) 0 ≡ strong_of (vertices l r p)
  pub weak_count : get_or l (at + weak_count_place) 0 ≡ weak_count_of (vertices l r p)
  pub weak : (i : ℕ) → i < get_or l (at + weak_count_place) 0 → WeakWord l r p at i

pub cell_known : (l : List ℕ) → Standing l → (r p at : ℕ) → 1 ≤ r → r ≤ rounds → p < slots → at ≡ cell_at r p → Cell l r p at
unfolding strong_of weak_count_of weak_of
cell_known l S r p at low high few e = rw e (record {
  strong = sym (S.words r p strong_place low high few (omega arith));
  weak_count = count_word;
  weak = λ i h.
      let k : i < weak_count_of (vertices l r p) = omega (arith, count_word) in
      let a = S.valid.admitted r p (weak_present (vertices l r p) i k) in
      let five : i < weak_slots = omega (arith, a.weak_few, S.high) in
      let word = sym (S.words r p (weak_place + i) low high few (omega arith)) in
      record {
        is = word;
        slot = five;
        inside = omega (arith, S.size);
        low = omega (arith, word, a.weak_low i five k);
        high = omega (arith, word, a.weak_high i five k, a.round_high);
      };
})
  where
    count_word : get_or l (cell_at r p + weak_count_place) 0 ≡ weak_count_of (vertices l r p)
    count_word = sym (S.words r p weak_count_place low high few (omega arith))

-- ---- a union of strong masks, a member at a time

pub parents_none : (v : Records) (r m : ℕ) → 0 ≡ parents v r m 0
unfolding parents
parents_none v r m = refl

pub parents_in_lem : (l : List ℕ) (r m p at j o : ℕ) → Cell l r p at → j ≡ parents (vertices l) r m p → has m p ≡ true
    → o ≡ bit_or j (get_or l (at + strong_place) 0)
    → o ≡ parents (vertices l) r m (p + 1)
unfolding parents
parents_in_lem l r m p at j o C e h d = rw (add-one p, h) (rw (e, C.strong) at d)

pub parents_out : (v : Records) (r m p j o : ℕ) → j ≡ parents v r m p → has m p ≡ false → o ≡ j → o ≡ parents v r m (p + 1)
unfolding parents
parents_out v r m p j o e h d = rw (add-one p, h) (d ∙ e)

-- ---- a history, an id, a weak parent, a vertex and a round at a time

pub join_weak_none : (h body : List ℕ) → h ≡ join_weak h body 0
unfolding join_weak
join_weak_none h body = refl

pub join_weak_more : (h body m o : List ℕ) (i x : ℕ) → m ≡ join_weak h body i → x ≡ weak_of body i → o ≡ join m (id_round x) (2 ^ id_member x)
    → o ≡ join_weak h body (i + 1)
unfolding join_weak
join_weak_more h body m o i x e d f = rw (add-one i) (rw (e, d) at f)

pub join_round_none : (v : Records) (h : List ℕ) (r m : ℕ) → h ≡ join_round v h r m 0
unfolding join_round
join_round_none v h r m = refl

module _ (v : Records) (h j o : List ℕ) (r m p : ℕ) (e : j ≡ join_round v h r m p) where
  pub join_round_in : has m p ≡ true → o ≡ join_parents v j r p → o ≡ join_round v h r m (p + 1)
  unfolding join_round
  join_round_in k f = rw (add-one p) (rw e at f ∙ sym (cond_true _ _ k))

  pub join_round_out : has m p ≡ false → o ≡ j → o ≡ join_round v h r m (p + 1)
  unfolding join_round
  join_round_out k f = rw (add-one p) (f ∙ e ∙ sym (cond_false _ _ k))

pub fill_none : (n : ℕ) (v : Records) (h : List ℕ) → fill n v h 0 ≡ h
unfolding fill
fill_none n v h = refl

pub fill_step : (n : ℕ) (v : Records) (h : List ℕ) (r k : ℕ) → r ≡ k + 1 → 0 < k → fill n v h k ≡ fill n v (join_round_parents v h r n) (k - 1)
unfolding fill
fill_step n v h r zero e l = absurd (not-suc-le-zero l)
fill_step n v h r (suc k) e l = rw (e, sub-one (suc k), add-one (suc k))

pub join_strong : (v : Records) (h : List ℕ) (r p k s : ℕ) → k ≡ r - 1 - 1 → s ≡ strong_of (v r p)
    → join_weak (set h k (bit_or (get_or h k 0) s)) (v r p) (weak_count_of (v r p)) ≡ join_parents v h r p
unfolding join_parents join
join_strong v h r p k s e d = rw (e, d)

pub reach_start : (n : ℕ) (v : Records) (r m : ℕ) → r ≤ rounds → reach_masks n v r m ≡ fill n v (set (replicate rounds 0) (r - 1) m) (r - 1)
unfolding reach_masks join
reach_start n v r m few = ap (λ (x : ℕ). fill n v (set (replicate rounds 0) (r - 1) x) (r - 1)) (ap (λ (x : ℕ). bit_or x m) zero_word ∙ or_zero_l m)
  where
    zero_word : ◌≡◌ {A = ℕ} (get_or (replicate rounds 0) (r - 1) 0) 0
    zero_word = get_or-replicate {A = ℕ} rounds (r - 1) 0 0 (omega arith)
