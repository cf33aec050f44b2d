-- The walk over the leaders of m leaders a round, a round at a time, with how many are taken of each. Assumes nothing.
use mathlib.Core.Path.{◌≡◌, refl, sym, ap, ap₂, ◌∙◌}
use mathlib.Core.Bool.{Bool, true, false, cond, not}
use mathlib.Core.Logic.{◌⊎◌, inl, inr, ⊎_elim}
use mathlib.Core.List.{List, [], ◌++◌, append-nil, append_assoc}
use Prim.Native.Nat.{ℕ, zero, suc, ◌+◌, ◌-◌, ◌^◌, ◌≤◌, ◌<◌}
use native.Mathlib.Nat.{eq-or-lt_of_le, le_of_suc-le-suc, not-suc-le-zero}
use native.Mathlib.Numerals.{add-one, sub-one}
use native.Mathlib.Omega.{arith}
use lib.Dec.{eqb, leb}
use lib.ListN.{length, get_or, set, replicate, length-set}
use lib.Seq.{get_or-set_same, get_or-set_other}
use borrow.Author.Tests.{eqb-true, eq-eqb, ne_eqb, leb-true, leb-false, not-true}
use Rattle.record.specs.Members.{leader_at, leader, has, rounds, voted_rounds}
use Rattle.record.proofs.Booleans.{which, never}
use Rattle.record.proofs.Masks.{leader_at_lt, leader_lt, has_one}
use Rattle.record.specs.Below.{longest}
use Rattle.protocol.specs.Dag.{Records, held}
use Rattle.protocol.specs.Paths.{path, reaches}
use Rattle.protocol.specs.Chain.{seats, span, walk, chain}
use Rattle.protocol.specs.Premises.{ValidVertices}
use Rattle.protocol.specs.Masks.{parents}
use Rattle.protocol.proofs.Paths.{path_held}
use Rattle.record.proofs.Longest.{longest_le, longest_in, longest_reach, longest_cong}
use Rattle.protocol.proofs.Frontier.{path_start, parents_claim}
use Rattle.protocol.proofs.Chain.{seats_none, walk_stop, walk_skip, walk_reach, chain_here, chain_some}
use Rattle.replica.specs.State.{vertices}
use Rattle.commits.specs.Standing.{WalkReady}
use Rattle.commits.specs.Taken.{taken_of, gather, TakenRuns}

-- no word of as many zeros is another
zeros : (k r : ℕ) → get_or {A = ℕ} (replicate k 0) r 0 ≡ 0
zeros zero r = refl
zeros (suc k) zero = refl
zeros (suc k) (suc r) = zeros k r

-- ---- the leaders gathered

module _ (n c a : ℕ) where
  pub gather_none : (runs : List ℕ) (k : ℕ) → ((r : ℕ) → r < k → get_or runs r 0 ≡ 0) → gather n c a runs k ≡ []
  unfolding gather
  gather_none runs zero h = refl
  gather_none runs (suc k) h =
      ap₂ (λ (x y : List ℕ). x ++ y) (gather_none runs k (λ r l. h r (omega arith)))
      (ap (seats n k (cond (eqb k c) a 0)) (h k (omega arith)) ∙ seats_none n k (cond (eqb k c) a 0) 0 (omega arith))

  -- the lowest round's leaders stand first
  pub gather_first : (runs : List ℕ) (t x k : ℕ) → t < k → t < length runs → ((r : ℕ) → r ≤ t → get_or runs r 0 ≡ 0)
      → gather n c a (set runs t x) k ≡ seats n t (cond (eqb t c) a 0) x ++ gather n c a runs k
  unfolding gather
  gather_first runs t x zero l s z = absurd (omega arith)
  gather_first runs t x (suc k) l s z = go (eq-or-lt_of_le (le_of_suc-le-suc l)) (λ m. gather_first runs t x k m s z)
    where
      go : (t ≡ k) ⊎ (t < k) → (t < k → gather n c a (set runs t x) k ≡ seats n t (cond (eqb t c) a 0) x ++ gather n c a runs k)
          → gather n c a (set runs t x) (suc k) ≡ seats n t (cond (eqb t c) a 0) x ++ gather n c a runs (suc k)
      go (inl q) ih =
          rw (← q)
          (ap₂ (λ (y : List ℕ) (w : ℕ). y ++ seats n t (cond (eqb t c) a 0) w)
          (gather_none (set runs t x) t (λ r b. get_or-set_other runs t r x 0 (λ e. omega arith) ∙ z r (omega arith)))
          (get_or-set_same runs t x 0 s)
          ∙ sym (append-nil (seats n t (cond (eqb t c) a 0) x))
          ∙ ap (λ (y : List ℕ). seats n t (cond (eqb t c) a 0) x ++ y)
          (sym (ap₂ (λ (y : List ℕ) (w : ℕ). y ++ seats n t (cond (eqb t c) a 0) w) (gather_none runs t (λ r b. z r (omega arith))) (z t (omega arith))
          ∙ seats_none n t (cond (eqb t c) a 0) 0 (omega arith))))
      go (inr m) ih =
          ap₂ (λ (y : List ℕ) (w : ℕ). y ++ seats n k (cond (eqb k c) a 0) w) (ih m) (get_or-set_other runs t k x 0 (λ e. omega arith))
          ∙ append_assoc (seats n t (cond (eqb t c) a 0) x) (gather n c a runs k) _

-- above round q there is nothing
pub gather_above : (n c a : ℕ) (runs : List ℕ) (k j : ℕ) → ((r : ℕ) → k ≤ r → get_or runs r 0 ≡ 0) → gather n c a runs (j + k) ≡ gather n c a runs k
unfolding gather
gather_above n c a runs k zero h = let z : 0 + k ≡ k = omega arith in rw z
gather_above n c a runs k (suc j) h =
    let z : suc j + k ≡ suc (j + k) = omega arith in
    rw z
    (ap₂ (λ (x y : List ℕ). x ++ y) (gather_above n c a runs k j h)
    (ap (seats n (j + k) (taken_of (j + k) c a)) (h (j + k) (omega arith)) ∙ seats_none n (j + k) (taken_of (j + k) c a) 0 (omega arith))
    ∙ append-nil (gather n c a runs k))

-- ---- the walk

-- Above round t, standing on the main leader's vertex of round stand: the members that paths reach in round t + 1, and how many leaders are taken so far.
pub record Walked (n m : ℕ) (v : Records) (c q t : ℕ) (runs : List ℕ) (reached : ℕ) : Type 0 where
  pub stand : ℕ
  pub above : t < stand
  pub most : stand ≤ q
  pub there : held v stand (leader n stand) ≡ true
  pub reach : (p : ℕ) → p < n → has reached p ≡ path n v stand (leader n stand) (suc t) p
  pub rest : (a : ℕ) → chain n m v c a q 1 ≡ walk n m v c a stand t ++ gather n c a runs rounds
  pub none : (r : ℕ) → r ≤ t → get_or runs r 0 ≡ 0
  pub high : (r : ℕ) → q < r → get_or runs r 0 ≡ 0
  pub size : length runs ≡ rounds
  pub few : (r : ℕ) → get_or runs r 0 ≤ m

module _ (n m : ℕ) (pos : 0 < n) (some : 1 ≤ m) (v : Records) (W : ValidVertices n v) (c q : ℕ) (high : q ≤ voted_rounds) where
  -- the round stood on, and one leader reached in it
  here : (r : ℕ) → 0 < r → held v r (leader n r) ≡ true → (t : ℕ) → suc t ≡ r → (p : ℕ) → p < n
      → has (2 ^ leader n r) p ≡ path n v r (leader n r) (suc t) p
  here r l h t e p k = has_one (leader n r) p ∙ sym (path_start n v r (leader n r) p l h) ∙ ap (λ (x : ℕ). path n v r (leader n r) x p) (sym e)

  -- one number more
  set_few : (runs : List ℕ) (t x : ℕ) → t < length runs → ((r : ℕ) → get_or runs r 0 ≤ m) → x ≤ m → (r : ℕ) → get_or (set runs t x) r 0 ≤ m
  set_few runs t x s f l r = ⊎_elim
      (λ e. let d : t ≡ r = eqb-true t r e in rw (← d, get_or-set_same runs t x 0 s) l)
      (λ e. rw (get_or-set_other runs t r x 0 (λ d. never (eq-eqb t r (sym d)) e)) (f r))
      (which (eqb t r))

  start : 0 < q → c ≤ q → held v q (leader n q) ≡ true → Walked n m v c q (q - 1) (set (replicate rounds 0) q 1) (2 ^ leader n q)
  start pq l h = record {
    stand = q;
    above = omega arith;
    most = omega arith;
    there = h;
    reach = here q pq h (q - 1) (omega arith);
    rest = λ a. begun a ∙ ap (λ (x : List ℕ). walk n m v c a q (q - 1) ++ x) (sym (one a));
    none = λ r k. get_or-set_other (replicate rounds 0) q r 1 0 (λ e. omega arith) ∙ zeros rounds r;
    high = λ r k. get_or-set_other (replicate rounds 0) q r 1 0 (λ e. omega arith) ∙ zeros rounds r;
    size = length-set (replicate rounds 0) q 1;
    few = set_few (replicate rounds 0) q 1 (omega arith) (λ r. rw (zeros rounds r) (omega arith)) some;
  }
    where
      one : (a : ℕ) → gather n c a (set (replicate rounds 0) q 1) rounds ≡ seats n q (taken_of q c a) 1
      one a =
          gather_first n c a (replicate rounds 0) q 1 rounds (omega arith) (omega arith) (λ r k. zeros rounds r)
          ∙ ap (λ (y : List ℕ). seats n q (taken_of q c a) 1 ++ y) (gather_none n c a (replicate rounds 0) rounds (λ r k. zeros rounds r))
          ∙ append-nil (seats n q (taken_of q c a) 1)

      begun : (a : ℕ) → chain n m v c a q 1 ≡ walk n m v c a q (q - 1) ++ seats n q (taken_of q c a) 1
      begun a = ⊎_elim
          (λ (e : c ≡ q). rw (e, eq-eqb q q refl) (chain_here n m v q a 1
          ∙ ap (λ (x : List ℕ). x ++ seats n q a 1) (sym (walk_stop n m v q a q (q - 1) (omega arith)))))
          (λ k. rw (ne_eqb q c (λ e. omega arith)) (chain_some n m v c a q 1 k))
          (eq-or-lt_of_le l)

  module _ (t : ℕ) (runs : List ℕ) (reached : ℕ) (l : c ≤ suc t) (w : Walked n m v c q (suc t) runs reached) where
    -- what the parents of those reached are
    below : (p : ℕ) → p < n → has (parents v (suc (suc t)) reached n) p ≡ path n v w.stand (leader n w.stand) (suc t) p
    below p k =
        parents_claim n v W w.stand (leader n w.stand) (suc t) reached (leader_lt n w.stand pos) (omega arith) w.above (λ m z. w.reach m z) p k

    -- whether the main leader is reached
    main : has (parents v (suc (suc t)) reached n) (leader n (suc t)) ≡ reaches n v w.stand (suc t) 0
    main = below (leader n (suc t)) (leader_lt n (suc t) pos)

    -- their run of leaders is the span
    spans : longest m (λ i. has (parents v (suc (suc t)) reached n) (leader_at n (suc t) i)) ≡ span n m v w.stand (suc t)
    spans = longest_cong m _ _ (λ i k. below (leader_at n (suc t) i) (leader_at_lt n (suc t) i pos))

    taken_suc : (x : ℕ) → x ≡ span n m v w.stand (suc t) → reaches n v w.stand (suc t) 0 ≡ true
        → Walked n m v c q t (set runs (suc t) x) (2 ^ leader n (suc t))
    taken_suc x e link =
        let there' : held v (suc t) (leader n (suc t)) ≡ true = path_held n v w.stand (leader n w.stand) (suc t) (leader n (suc t)) link in
        record {
          stand = suc t;
          above = omega arith;
          most = omega (arith, w.above, w.most);
          there = there';
          reach = here (suc t) (omega arith) there' t refl;
          rest = λ a. w.rest a ∙ ap (λ (y : List ℕ). y ++ gather n c a runs rounds) (walk_reach n m v c a w.stand t l link)
              ∙ append_assoc (walk n m v c a (suc t) t) _ (gather n c a runs rounds)
              ∙ ap (λ (y : List ℕ). walk n m v c a (suc t) t ++ y)
              (ap (λ (y : ℕ). seats n (suc t) (taken_of (suc t) c a) y ++ gather n c a runs rounds) (sym e)
              ∙ sym (gather_first n c a runs (suc t) x rounds (omega (arith, w.above, w.most)) (omega (arith, w.size, w.above, w.most)) w.none));
          none = λ r k. get_or-set_other runs (suc t) r x 0 (λ d. omega arith) ∙ w.none r (omega arith);
          high = λ r k. get_or-set_other runs (suc t) r x 0 (λ d. omega (arith, w.above, w.most)) ∙ w.high r k;
          size = length-set runs (suc t) x ∙ w.size;
          few = set_few runs (suc t) x (omega (arith, w.size, w.above, w.most)) w.few (rw e (longest_le m (reaches n v w.stand (suc t))));
        }

    passed_suc : reaches n v w.stand (suc t) 0 ≡ false → Walked n m v c q t runs (parents v (suc (suc t)) reached n)
    passed_suc unlinked = record {
      stand = w.stand;
      above = omega (arith, w.above);
      most = w.most;
      there = w.there;
      reach = below;
      rest = λ a. w.rest a ∙ ap (λ (x : List ℕ). x ++ gather n c a runs rounds) (walk_skip n m v c a w.stand t unlinked);
      none = λ r k. w.none r (omega arith);
      high = w.high;
      size = w.size;
      few = w.few;
    }

  -- below round c the numbers are those of the chain
  finish : (t : ℕ) (runs : List ℕ) (reached : ℕ) → c ≡ t + 1 → Walked n m v c q t runs reached → TakenRuns n m v c q runs
  finish t runs reached e w = record {
    is = λ a. sym (w.rest a ∙ ap (λ (x : List ℕ). x ++ gather n c a runs rounds) (walk_stop n m v c a w.stand t (omega arith)));
    below = λ r k. w.none r (omega arith);
    above = w.high;
    few = w.few;
  }

  -- one round down
  take_run : (t : ℕ) (runs : List ℕ) (reached b x : ℕ) → 0 < t → c ≤ t → Walked n m v c q t runs reached → b ≡ parents v (t + 1) reached n
      → has b (leader n t) ≡ true → x ≡ longest m (λ i. has b (leader_at n t i)) → Walked n m v c q (t - 1) (set runs t x) (2 ^ leader n t)
  take_run zero runs reached b x p l w e h f = absurd (not-suc-le-zero p)
  take_run (suc t) runs reached b x p l w e h f =
      rw (sub-one (suc t)) (taken_suc t runs reached l w x ((rw (e, add-one (suc t)) at f) ∙ spans t runs reached l w)
      (sym (main t runs reached l w) ∙ (rw (e, add-one (suc t)) at h)))

  pass_run : (t : ℕ) (runs : List ℕ) (reached b : ℕ) → 0 < t → c ≤ t → Walked n m v c q t runs reached → b ≡ parents v (t + 1) reached n
      → has b (leader n t) ≡ false → Walked n m v c q (t - 1) runs b
  pass_run zero runs reached b p l w e h = absurd (not-suc-le-zero p)
  pass_run (suc t) runs reached b p l w e h =
      rw (sub-one (suc t), e, add-one (suc t)) (passed_suc t runs reached l w (sym (main t runs reached l w) ∙ (rw (e, add-one (suc t)) at h)))

-- ---- the walk over a state

pub record Walk (l : List ℕ) (n m c q : ℕ) : Type 0 where
  pub begun : (p y : ℕ) → p ≡ leader n q → y ≡ 2 ^ p → Walked n m (vertices l) c q (q - 1) (set (replicate rounds 0) q 1) y
  pub took : (t : ℕ) (runs : List ℕ) (reached b p x y : ℕ) → c ≤ t → Walked n m (vertices l) c q t runs reached
      → b ≡ parents (vertices l) (t + 1) reached n → p ≡ leader n t → has b p ≡ true → x ≡ longest m (λ i. has b (leader_at n t i)) → y ≡ 2 ^ p
      → Walked n m (vertices l) c q (t - 1) (set runs t x) y
  pub passed : (t : ℕ) (runs : List ℕ) (reached b p : ℕ) → c ≤ t → Walked n m (vertices l) c q t runs reached
      → b ≡ parents (vertices l) (t + 1) reached n → p ≡ leader n t → has b p ≡ false → Walked n m (vertices l) c q (t - 1) runs b
  pub done : (t : ℕ) (runs : List ℕ) (reached : ℕ) → c ≡ t + 1 → Walked n m (vertices l) c q t runs reached → TakenRuns n m (vertices l) c q runs

pub walk_runs : (l : List ℕ) (n m c q : ℕ) → WalkReady l n m c q → Walk l n m c q
walk_runs l n m c q R = record {
  begun = λ p y b d. rw (d, b) (start n m pos R.some (vertices l) W c q R.high (omega (arith, R.low, R.order)) R.order R.there);
  took = λ t runs reached b p x y k w eb ep h ex ey.
      rw (ey, ep)
      (take_run n m pos R.some (vertices l) W c q R.high t runs reached b x (omega (arith, R.low)) k w eb (rw ep at h) ex);
  passed = λ t runs reached b p k w eb ep h.
      pass_run n m pos R.some (vertices l) W c q R.high t runs reached b (omega (arith, R.low)) k w eb (rw ep at h);
  done = finish n m pos R.some (vertices l) W c q R.high;
}
  where
    pos : 0 < n
    pos = omega (arith, R.standing.low, R.members)

    W : ValidVertices n (vertices l)
    W = rw R.members R.standing.valid

-- ---- the run of a round's leaders in a mask

pub record Running (n r mask i : ℕ) : Type 0 where
  pub all : (j : ℕ) → j < i → has mask (leader_at n r j) ≡ true

pub running_stop : (n m r mask i p : ℕ) (b : Bool) → Running n r mask i → i < m → p ≡ leader_at n r i → b ≡ has mask p → not b ≡ true
    → i ≡ longest m (λ j. has mask (leader_at n r j))
running_stop n m r mask i p b R l e f h =
    omega (
      arith,
      longest_reach m (λ j. has mask (leader_at n r j)) i (omega arith) R.all,
      ⊎_elim
          (λ k. leb-true (longest m (λ j. has mask (leader_at n r j))) i k)
          (λ k. never (longest_in m (λ j. has mask (leader_at n r j)) i (leb-false _ _ k)) (rw (← e) (sym f ∙ not-true b h)))
          (which (leb (longest m (λ j. has mask (leader_at n r j))) i)),
    )

pub running_all : (n m r mask i : ℕ) → Running n r mask i → m ≤ i → m ≡ longest m (λ j. has mask (leader_at n r j))
running_all n m r mask i R l =
    omega (
      arith,
      longest_le m (λ j. has mask (leader_at n r j)),
      longest_reach m (λ j. has mask (leader_at n r j)) m (omega arith)
          (λ j k. R.all j (omega arith)),
    )
