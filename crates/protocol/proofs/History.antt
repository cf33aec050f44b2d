-- Laws of histories: the ways to be in one, closure under parents, and that all of it is held.
use mathlib.Core.Path.{◌≡◌, refl}
use mathlib.Core.Bool.{Bool, true, false, ◌&&◌, ◌||◌}
use mathlib.Core.Logic.{⊎_elim}
use Prim.Native.Nat.{ℕ, zero, suc, ◌-◌, ◌≤◌, ◌<◌}
use native.Mathlib.Nat.{not-suc-le-zero}
use native.Mathlib.Omega.{arith}
use lib.Dec.{eqb, leb}
use borrow.Author.Tests.{leb-true, leb-false, eqb-true, eq-eqb}
use Rattle.record.specs.Below.{any}
use Rattle.record.specs.Members.{legal, has, id_of, id_round, id_member, id_limit, rounds, slots}
use Rattle.record.specs.Layout.{strong_of, weak_count_of, weak_of, weak_slots}
use Rattle.record.proofs.Booleans.{which, never, and_left, and_right, and_both, or_cases, or_left, or_right}
use Rattle.record.proofs.Below.{any_intro, any_elim}
use Rattle.record.proofs.Masks.{legal_range, has_zero, has_bound}
use Rattle.protocol.specs.Dag.{Records, held}
use Rattle.protocol.specs.Paths.{history_up_to, history}
use Rattle.protocol.specs.Premises.{ValidVertices}
use Rattle.protocol.proofs.Paths.{parent_present, weak_present}
use Rattle.record.proofs.Rounds.{id_same}

-- The edges fall by a round at least, to members of the group.
pub record Edges (n : ℕ) (v : Records) : Type 0 where
  pub strong_low : (r p m : ℕ) → has (strong_of (v r p)) m ≡ true → (2 ≤ r) × (m < n)
  pub weak_low : (r p i : ℕ) → i < weak_count_of (v r p) → (1 ≤ id_round (weak_of (v r p) i)) × (id_round (weak_of (v r p) i) < r)
      × (id_member (weak_of (v r p) i) < n)

-- so in well-formed vertices
pub edges : (n : ℕ) (v : Records) → legal n ≡ true → ValidVertices n v → Edges n v
edges n v g W = record {
  strong_low = λ r p m e.
      let a = W.admitted r p (parent_present _ m e) in
      (above r p m e, has_bound n (strong_of (v r p)) m a.strong_low e);
  weak_low = λ r p i l.
      let a = W.admitted r p (weak_present _ i l) in
      let k : i < weak_slots = omega (arith, a.weak_few, (legal_range n g).high) in
      (a.weak_low i k l, omega (arith, a.weak_high i k l), a.weak_member i k l);
}
  where
    above : (r p m : ℕ) → has (strong_of (v r p)) m ≡ true → 2 ≤ r
    above r p m e = ⊎_elim (λ c. leb-true 2 r c) (λ c. never e (first c)) (which (leb 2 r))
      where
        first : leb 2 r ≡ false → has (strong_of (v r p)) m ≡ false
        first c =
            let a = W.admitted r p (parent_present _ m e) in
            rw (a.strong_first (omega (arith, leb-false 2 r c, a.round_low))) (has_zero m)

module _ (n : ℕ) (v : Records) where
  -- ---- the three ways to be in a history

  pub by_self : (k r p : ℕ) → zero < k → history_up_to n v k r p (id_of r p) ≡ true
  unfolding history_up_to
  by_self zero r p l = absurd (not-suc-le-zero l)
  by_self (suc k) r p l = or_left _ (eq-eqb (id_of r p) (id_of r p) refl)

  pub by_strong : (k r p m y : ℕ) → m < n → has (strong_of (v r p)) m ≡ true → history_up_to n v k (r - 1) m y ≡ true → history_up_to n v (suc k) r p y ≡ true
  unfolding history_up_to
  by_strong k r p m y l s h = or_right (eqb (id_of r p) y) (or_left _ (any_intro n _ m l (and_both s h)))

  pub by_weak : (k r p i y : ℕ) → i < weak_count_of (v r p) → history_up_to n v k (id_round (weak_of (v r p) i)) (id_member (weak_of (v r p) i)) y ≡ true
      → history_up_to n v (suc k) r p y ≡ true
  unfolding history_up_to
  by_weak k r p i y l h =
      or_right (eqb (id_of r p) y)
      (or_right (any n (λ m. has (strong_of (v r p)) m && history_up_to n v k (r - 1) m y)) (any_intro (weak_count_of (v r p)) _ i l h))

  -- and no other
  pub by_cases : {G : Type 0} (k r p y : ℕ) → history_up_to n v (suc k) r p y ≡ true
      → (id_of r p ≡ y → G)
      → ((m : ℕ) → m < n → has (strong_of (v r p)) m ≡ true → history_up_to n v k (r - 1) m y ≡ true → G)
      → ((i : ℕ) → i < weak_count_of (v r p) → history_up_to n v k (id_round (weak_of (v r p) i)) (id_member (weak_of (v r p) i)) y ≡ true → G) → G
  unfolding history_up_to
  by_cases k r p y h self strong weak =
      let sp : ℕ → Bool = λ m. has (strong_of (v r p)) m && history_up_to n v k (r - 1) m y in
      let wp : ℕ → Bool = λ i. history_up_to n v k (id_round (weak_of (v r p) i)) (id_member (weak_of (v r p) i)) y in
      ⊎_elim (λ e. self (eqb-true _ _ e))
      (λ e. ⊎_elim
      (λ s. let w = any_elim n sp s in strong w.0 w.1 (and_left _ _ w.2) (and_right (has (strong_of (v r p)) w.0) _ w.2))
      (λ s. let w = any_elim (weak_count_of (v r p)) wp s in weak w.0 w.1 w.2)
      (or_cases (any n sp) (any (weak_count_of (v r p)) wp) e))
      (or_cases (eqb (id_of r p) y) (any n sp || any (weak_count_of (v r p)) wp) h)

  -- within no steps there is nothing
  pub none_yet : (r p y : ℕ) → history_up_to n v zero r p y ≡ false
  unfolding history_up_to
  none_yet r p y = refl

  -- ---- closure under parents

  module _ (high : n ≤ slots) (E : Edges n v) where
    -- what is in the history of a vertex of the history is in it
    history_trans : (k r p t q z : ℕ) → r ≤ k → p < slots → q < slots → ((j : ℕ) → t ≤ j → zero < j → history_up_to n v j t q z ≡ true)
        → history_up_to n v k r p (id_of t q) ≡ true → history_up_to n v k r p z ≡ true
    history_trans zero r p t q z l lp lq s h = never h (none_yet r p (id_of t q))
    history_trans (suc k) r p t q z l lp lq s h =
        by_cases k r p (id_of t q) h
        (λ e. rw (round_of_lem e, member_of e) (s (suc k) (omega (arith, round_of_lem e)) (omega arith)))
        (λ m lm c d. by_strong k r p m z lm c (history_trans k (r - 1) m t q z (omega (arith, (E.strong_low r p m c).0)) (omega arith) lq s d))
        (λ i li d. by_weak k r p i z li (history_trans k _ _ t q z (omega (arith, (E.weak_low r p i li).1)) (omega arith) lq s d))
      where
        round_of_lem : id_of r p ≡ id_of t q → r ≡ t
        round_of_lem e = omega arith

        member_of : id_of r p ≡ id_of t q → p ≡ q
        member_of e = omega arith

    -- with each vertex a history has its strong parents and its weak ones
    pub history_strong : (r p t q m : ℕ) → p < slots → q < slots → has (strong_of (v t q)) m ≡ true → history n v r p (id_of t q) ≡ true
        → history n v r p (id_of (t - 1) m) ≡ true
    history_strong r p t q m lp lq c = history_trans r r p t q _ (omega arith) lp lq step
      where
        step : (j : ℕ) → t ≤ j → zero < j → history_up_to n v j t q (id_of (t - 1) m) ≡ true
        step zero lj pj = absurd (not-suc-le-zero pj)
        step (suc j) lj pj = let b = E.strong_low t q m c in by_strong j t q m _ b.1 c (by_self j (t - 1) m (omega (arith, b.0)))

    -- the same for weak parents
    pub history_weak : (r p t q i : ℕ) → p < slots → q < slots → i < weak_count_of (v t q) → history n v r p (id_of t q) ≡ true
        → history n v r p (weak_of (v t q) i) ≡ true
    history_weak r p t q i lp lq li = history_trans r r p t q _ (omega arith) lp lq step
      where
        step : (j : ℕ) → t ≤ j → zero < j → history_up_to n v j t q (weak_of (v t q) i) ≡ true
        step zero lj pj = absurd (not-suc-le-zero pj)
        step (suc j) lj pj =
            by_weak j t q i _ li
            (rw (id_same (weak_of (v t q) i))
            at (by_self j (id_round (weak_of (v t q) i)) (id_member (weak_of (v t q) i))
            (omega (arith, (E.weak_low t q i li).0, (E.weak_low t q i li).1))))

-- ---- what a history names

-- a held vertex of round 1 to r
pub record Named (n : ℕ) (v : Records) (r y : ℕ) : Type 0 where
  pub there : held v (id_round y) (id_member y) ≡ true
  pub low : 1 ≤ id_round y
  pub high : id_round y ≤ r
  pub member : id_member y < n
  pub limit : y < id_limit

-- and so of round 1 to any later one
pub named_up : (n : ℕ) (v : Records) (r s y : ℕ) → r ≤ s → Named n v r y → Named n v s y
named_up n v r s y l N = record { there = N.there; low = N.low; high = omega (arith, N.high); member = N.member; limit = N.limit }

module _ (n : ℕ) (v : Records) (g : legal n ≡ true) (W : ValidVertices n v) where
  up_to_held : (k r p y : ℕ) → held v r p ≡ true → history_up_to n v k r p y ≡ true → Named n v r y
  up_to_held zero r p y h e = never e (none_yet n v r p y)
  up_to_held (suc k) r p y h e =
      by_cases n v k r p y e self
      (λ m lm s d. named_up n v (r - 1) r y (omega arith) (up_to_held k (r - 1) m y (W.strong_held r p m s) d))
      (λ i li d. named_up n v _ r y (omega (arith, ((edges n v g W).weak_low r p i li).1)) (up_to_held k _ _ y (W.weak_held r p i li) d))
    where
      self : id_of r p ≡ y → Named n v r y
      self q =
          let a = W.admitted r p h in
          let k : n ≤ slots = (legal_range n g).high in
          let lp : p < n = a.source_low in
          let lr : r ≤ rounds = a.round_high in
          let lr' : 1 ≤ r = a.round_low in
          let er : id_round y ≡ r = omega arith in
          let ep : id_member y ≡ p = omega arith in
          record { there = rw (er, ep) h; low = omega arith; high = omega arith; member = omega arith; limit = omega arith }

  -- all of a held vertex's history is held, of rounds 1 to its own
  pub history_held : (r p y : ℕ) → held v r p ≡ true → history n v r p y ≡ true → Named n v r y
  history_held r p y h e = up_to_held r r p y h e
