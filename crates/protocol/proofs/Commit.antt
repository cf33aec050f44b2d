-- Directly committed leaders: the last round, direct runs, and DAGs that gain records or agree in what they hold.
use mathlib.Core.Path.{◌≡◌, refl, ap, ap₂, ◌∙◌}
use mathlib.Core.Bool.{Bool, true, false, cond, ◌&&◌, ◌||◌}
use mathlib.Core.Logic.{◌⊎◌, inl, inr, ⊎_elim}
use Prim.Native.Nat.{ℕ, zero, suc, ◌≤◌, ◌<◌}
use native.Mathlib.Nat.{eq-or-lt_of_le, not-suc-le-zero}
use native.Mathlib.Omega.{arith}
use lib.Dec.{leb}
use borrow.Author.Tests.{leb-true, leb-false, le-leb}
use Rattle.record.specs.Below.{count}
use Rattle.record.specs.Members.{quorum, leader_at, voted_rounds}
use Rattle.record.proofs.Booleans.{which, never, and_left, and_right, and_both, or_cases, or_left, or_right, cond_cong}
use Rattle.record.proofs.Below.{count_mono, count_cong}
use Rattle.protocol.specs.Dag.{Dag, Within, present, held, votes, voter, enough, backed, last_up_to, last, direct}
use Rattle.protocol.specs.Claims.{Settled, Before}
use Rattle.record.proofs.Longest.{longest_le, longest_in, longest_reach}
use Rattle.protocol.proofs.Paths.{parent_present}

-- a backed leader's vertex is held
pub backed_held : (n : ℕ) (d : Dag) (q x : ℕ) → backed n d q x ≡ true → held d.vertex q (leader_at n q x) ≡ true
unfolding backed
backed_held n d q x c = and_left _ _ c

-- ---- the last round

-- the main leader of the highest round is backed, if there is one
pub up_to_backed : (n : ℕ) (d : Dag) (k : ℕ) → zero < last_up_to n d k → backed n d (last_up_to n d k) 0 ≡ true
unfolding last_up_to
up_to_backed n d zero l = absurd (not-suc-le-zero l)
up_to_backed n d (suc k) l = go (which (backed n d (suc k) 0)) (up_to_backed n d k)
  where
    go : (backed n d (suc k) 0 ≡ true) ⊎ (backed n d (suc k) 0 ≡ false) → (zero < last_up_to n d k → backed n d (last_up_to n d k) 0 ≡ true)
        → backed n d (last_up_to n d (suc k)) 0 ≡ true
    go (inl e) ih = rw e e
    go (inr e) ih = rw e (ih (rw e at l))

cond_le : (c : Bool) {x y k : ℕ} → x ≤ k → y ≤ k → cond c x y ≤ k
cond_le true p q = p
cond_le false p q = q

-- and it is one of 1 .. k, or 0
pub up_to_low : (n : ℕ) (d : Dag) (k : ℕ) → last_up_to n d k ≤ k
unfolding last_up_to
up_to_low n d zero = omega arith
up_to_low n d (suc k) = cond_le (backed n d (suc k) 0) (omega arith) (omega (arith, up_to_low n d k))

-- no round among 1 .. k with a backed main leader is higher
pub up_to_highest : (n : ℕ) (d : Dag) (k q : ℕ) → zero < q → q ≤ k → backed n d q 0 ≡ true → q ≤ last_up_to n d k
unfolding last_up_to
up_to_highest n d zero q l h c = absurd (omega arith)
up_to_highest n d (suc k) q l h c = go (which (backed n d (suc k) 0)) (eq-or-lt_of_le h) (λ m. up_to_highest n d k q l m c)
  where
    go : (backed n d (suc k) 0 ≡ true) ⊎ (backed n d (suc k) 0 ≡ false) → (q ≡ suc k) ⊎ (q < suc k) → (q ≤ k → q ≤ last_up_to n d k)
        → q ≤ last_up_to n d (suc k)
    go (inl e) m ih = rw e h
    go (inr e) (inl m) ih = never c (rw m e)
    go (inr e) (inr m) ih = rw e (ih (omega arith))

-- the last round is at most voted_rounds, for votes for round 32 would be of round 33
pub last_low : (n : ℕ) (d : Dag) → last n d ≤ voted_rounds
last_low n d = up_to_low n d voted_rounds

-- ---- direct runs

module _ (n m : ℕ) (d : Dag) where
  pub direct_le : (q : ℕ) → direct n m d q ≤ m
  unfolding direct
  direct_le zero = omega arith
  direct_le (suc q) = longest_le m (backed n d (suc q))

  -- there is none of round 0
  pub direct_none : (a : ℕ) → direct n m d 0 ≤ a
  unfolding direct
  direct_none a = omega arith

  pub direct_pos : (q x : ℕ) → x < direct n m d q → zero < q
  unfolding direct
  direct_pos zero x l = absurd (omega arith)
  direct_pos (suc q) x l = omega arith

  -- each leader of a direct run is backed
  pub direct_backed : (q x : ℕ) → x < direct n m d q → backed n d q x ≡ true
  unfolding direct
  direct_backed zero x l = absurd (omega arith)
  direct_backed (suc q) x l = longest_in m (backed n d (suc q)) x l

  -- and a run of backed leaders is direct
  pub direct_reach : (q k : ℕ) → zero < q → k ≤ m → ((x : ℕ) → x < k → backed n d q x ≡ true) → k ≤ direct n m d q
  unfolding direct
  direct_reach zero k p l h = absurd (omega arith)
  direct_reach (suc q) k p l h = longest_reach m (backed n d (suc q)) k l h

  -- of a settled place
  pub settled_backed : (q a : ℕ) → Settled n m d q a → (x : ℕ) → x < a → backed n d q x ≡ true
  settled_backed q a S x l = direct_backed q x (omega (arith, S.committed))

  pub settled_held : (q a : ℕ) → Settled n m d q a → (x : ℕ) → x < a → held d.vertex q (leader_at n q x) ≡ true
  settled_held q a S x l = backed_held n d q x (settled_backed q a S x l)

  pub settled_low : (q a : ℕ) → Settled n m d q a → a ≤ m
  settled_low q a S = omega (arith, S.committed, direct_le q)

  -- the place (0, a) is (0, 0)
  pub settled_none : (a : ℕ) → Settled n m d 0 a → a ≡ 0
  settled_none a S = ⊎_elim
      (λ e. omega (arith, leb-true a 0 e))
      (λ e. absurd (omega (arith, leb-false a 0 e, direct_pos 0 0 (omega (arith, leb-false a 0 e, S.committed)))))
      (which (leb a 0))

  -- the last round with its direct run is settled
  pub last_settled : 1 ≤ m → Settled n m d (last n d) (direct n m d (last n d))
  last_settled l = record {
    some = λ p. direct_reach (last n d) 1 p l (λ x k. ap (backed n d (last n d)) (zero_of x k) ∙ up_to_backed n d voted_rounds p);
    committed = omega arith;
  }
    where
      zero_of : (x : ℕ) → x < 1 → x ≡ 0
      zero_of x k = omega arith

-- of two places one is not after the other
pub before_total : (c a q b : ℕ) → Before c a q b ⊎ Before q b c a
before_total c a q b = go (which (leb c q)) (which (leb q c)) (which (leb a b))
  where
    go : (leb c q ≡ true) ⊎ (leb c q ≡ false) → (leb q c ≡ true) ⊎ (leb q c ≡ false) → (leb a b ≡ true) ⊎ (leb a b ≡ false) → Before c a q b ⊎ Before q b c a
    go (inr e) f g = inr (inl (leb-false c q e))
    go (inl e) (inr f) g = inl (inl (leb-false q c f))
    go (inl e) (inl f) (inl g) = inl (inr (omega (arith, leb-true c q e, leb-true q c f), leb-true a b g))
    go (inl e) (inl f) (inr g) = inr (inr (omega (arith, leb-true c q e, leb-true q c f), omega (arith, leb-false a b g)))

-- ---- a DAG that gains records

enough_more : (n : ℕ) (s t : ℕ → Bool) → ((p : ℕ) → s p ≡ true → t p ≡ true) → enough n s ≡ true → enough n t ≡ true
enough_more n s t h e = le-leb (quorum n) (count n t) (omega (arith, leb-true (quorum n) (count n s) e, count_mono n s t h))

-- a quorum of vertices alone, or of first messages alone, backs a leader whose vertex is there
pub by_either : (n : ℕ) (d : Dag) (r i : ℕ) → held d.vertex r (leader_at n r i) ≡ true
    → (enough n (λ p. votes n r i (d.first (suc r) p)) ≡ true) ⊎ (enough n (λ p. votes n r i (d.vertex (suc r) p)) ≡ true) → backed n d r i ≡ true
unfolding backed voter
by_either n d r i h e = and_both h (⊎_elim
    (λ x. enough_more n _ _ (λ p v. or_right (votes n r i (d.vertex (suc r) p)) v) x)
    (λ x. enough_more n _ _ (λ p v. or_left _ v) x)
    e)

module _ (n : ℕ) (d e : Dag) (W : Within d e) where
  -- voters stay
  pub voter_stays : (q x p : ℕ) → voter n d q x p ≡ true → voter n e q x p ≡ true
  unfolding voter
  voter_stays q x p v = go (or_cases (votes n q x (d.vertex (suc q) p)) (votes n q x (d.first (suc q) p)) v)
    where
      go : (votes n q x (d.vertex (suc q) p) ≡ true) ⊎ (votes n q x (d.first (suc q) p) ≡ true) → voter n e q x p ≡ true
      go (inl a) = or_left _ (rw (W.vertices (suc q) p (parent_present _ (leader_at n q x) a)) at a)
      go (inr a) = or_right (votes n q x (e.vertex (suc q) p)) (rw (W.firsts (suc q) p (parent_present _ (leader_at n q x) a)) at a)

  -- backed leaders stay backed
  pub backed_stays : (q x : ℕ) → backed n d q x ≡ true → backed n e q x ≡ true
  unfolding backed
  backed_stays q x c =
      let h : held d.vertex q (leader_at n q x) ≡ true = and_left (held d.vertex q (leader_at n q x)) _ c in
      and_both (rw (W.vertices q (leader_at n q x) h) at h)
      (enough_more n (voter n d q x) (voter n e q x) (voter_stays q x) (and_right (held d.vertex q (leader_at n q x)) _ c))

  -- direct runs do not get shorter
  pub direct_grows : (m q : ℕ) → direct n m d q ≤ direct n m e q
  direct_grows m zero = unfold direct in omega arith
  direct_grows m (suc q) = direct_reach n m e (suc q) (direct n m d (suc q)) (omega arith) (direct_le n m d (suc q))
      (λ x l. backed_stays (suc q) x (direct_backed n m d (suc q) x l))

-- ---- two DAGs with the same vertices, and the same votes of first messages

module _ (n m : ℕ) (some : 1 ≤ m) (d e : Dag) (same : (r p : ℕ) → d.vertex r p ≡ e.vertex r p)
    (alike : (r x p : ℕ) → x < m → votes n r x (d.first (suc r) p) ≡ votes n r x (e.first (suc r) p)) where
  -- they back the same leaders
  pub backed_cong : (q x : ℕ) → x < m → backed n d q x ≡ backed n e q x
  unfolding backed voter
  backed_cong q x lx = ap₂ ◌&&◌ (ap present (same q (leader_at n q x)))
      (ap (leb (quorum n)) (count_cong n _ _ (λ p l. ap₂ ◌||◌ (ap (votes n q x) (same (suc q) p)) (alike q x p lx))))

  -- and the same last round
  pub up_to_cong : (k : ℕ) → last_up_to n d k ≡ last_up_to n e k
  unfolding last_up_to
  up_to_cong zero = refl
  up_to_cong (suc k) = cond_cong (backed_cong (suc k) 0 (omega arith)) (λ c. refl) (up_to_cong k)
