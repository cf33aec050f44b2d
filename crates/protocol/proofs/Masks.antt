-- Histories as masks: what each step of filling them adds, and that the filled masks name exactly the histories.
use mathlib.Core.Path.{◌≡◌, refl, sym, ap, ap₂, ◌∙◌}
use mathlib.Core.Bool.{Bool, true, false, ◌&&◌, ◌||◌, or-false}
use mathlib.Core.Logic.{◌⊎◌, inl, inr, ⊎_elim}
use mathlib.Core.List.{List}
use Prim.Native.Nat.{ℕ, zero, suc, ◌-◌, ◌^◌, ◌≤◌, ◌<◌}
use native.Mathlib.Nat.{eq-or-lt_of_le}
use native.Mathlib.Numerals.{unary_clauses}
use native.Mathlib.Omega.{arith}
use lib.Bits.{bit_or}
use lib.Dec.{eqb}
use lib.ListN.{length, get_or, take, replicate, length-set, length-take, length-replicate, get_or-eq_default}
use lib.Seq.{get_or-set_same, get_or-set_other, get_or-take}
use lib.Pow.{pow-lt}
use borrow.Author.Tests.{eqb-true, eqb-false, eq-eqb}
use Rattle.record.specs.Below.{any}
use Rattle.record.specs.Members.{legal, has, id_of, id_round, id_member, rounds, slots}
use Rattle.record.specs.Layout.{strong_of, weak_count_of, weak_of, weak_count_place, strong_place}
use Rattle.record.proofs.Booleans.{which, never, and_left, and_right, and_both, and_fails_right, or_cases, or_left, or_right, bool_ext}
use Rattle.record.proofs.Below.{any_intro, any_elim, any_false}
use Rattle.record.proofs.Masks.{legal_range, has_zero, has_one, has_or, has_bound}
use Rattle.protocol.specs.Dag.{Records, held}
use Rattle.protocol.specs.Paths.{path, history_up_to, history}
use Rattle.protocol.specs.Premises.{ValidVertices}
use Rattle.protocol.specs.Masks.{join, join_weak, join_parents, join_round, join_round_parents, fill, reach_masks, history_masks}
use Rattle.protocol.specs.Masks.{ReachClaim, HistoryClaim, StrongHistoryClaim}
use Rattle.protocol.proofs.Lists.{or_assoc}
use Rattle.protocol.proofs.Paths.{parent_held, path_self, path_edge}
use Rattle.protocol.proofs.Frontier.{first_edge, path_here, path_le}
use Rattle.protocol.proofs.History.{Edges, edges, by_self, by_strong, by_cases, none_yet, history_strong, history_weak}
use Rattle.record.proofs.Rounds.{id_round_lem, id_member_lem}

-- the masks have member q in round t
abbrev pub marked : List ℕ → ℕ → ℕ → Bool
marked h t q = has (get_or h (t - 1) 0) q

-- one of the first k weak ids of the body is that of round t and member q
unfoldable pub weak_parent : List ℕ → ℕ → ℕ → ℕ → Bool
weak_parent body k t q = any k (λ i. eqb (id_round (weak_of body i)) t && eqb (id_member (weak_of body i)) q)

-- the vertex of round t and member q is a parent of that of round r with this body
unfoldable pub parent : List ℕ → ℕ → ℕ → ℕ → Bool
parent body r t q = (eqb (r - 1) t && has (strong_of body) q) || weak_parent body (weak_count_of body) t q

-- ---- what each step adds

-- no step changes the number of masks
pub join_length : (h : List ℕ) (t m : ℕ) → length (join h t m) ≡ length h
unfolding join
join_length h t m = length-set h (t - 1) _

-- bits joined in round t are there, and no others
pub join_marked : (h : List ℕ) (t m s q : ℕ) → length h ≡ rounds → 1 ≤ t → t ≤ rounds → 1 ≤ s → marked (join h t m) s q ≡ (marked h s q || (eqb t s && has m q))
unfolding join
join_marked h t m s q z lt ht ls = go (which (eqb t s))
  where
    go : (eqb t s ≡ true) ⊎ (eqb t s ≡ false) → marked (join h t m) s q ≡ (marked h s q || (eqb t s && has m q))
    go (inl e) =
        rw (e, ← eqb-true t s e)
        (ap (λ (x : ℕ). has x q) (get_or-set_same h (t - 1) (bit_or (get_or h (t - 1) 0) m) 0 (omega arith)) ∙ has_or (get_or h (t - 1) 0) m q)
    go (inr e) =
        rw e
        (ap (λ (x : ℕ). has x q) (get_or-set_other h (t - 1) (s - 1) (bit_or (get_or h (t - 1) 0) m) 0 (λ d. eqb-false t s e (omega arith)))
        ∙ sym (or-false (marked h s q)))

pub join_weak_length : (h body : List ℕ) (k : ℕ) → length (join_weak h body k) ≡ length h
unfolding join_weak
join_weak_length h body zero = refl
join_weak_length h body (suc k) = join_length (join_weak h body k) _ _ ∙ join_weak_length h body k

pub join_parents_length : (v : Records) (h : List ℕ) (r p : ℕ) → length (join_parents v h r p) ≡ length h
unfolding join_parents
join_parents_length v h r p = join_weak_length _ (v r p) _ ∙ join_length h (r - 1) _

pub join_round_length : (v : Records) (h : List ℕ) (r m k : ℕ) → length (join_round v h r m k) ≡ length h
unfolding join_round
join_round_length v h r m zero = refl
join_round_length v h r m (suc k) = go (which (has m k)) (join_round_length v h r m k)
  where
    go : (has m k ≡ true) ⊎ (has m k ≡ false) → length (join_round v h r m k) ≡ length h → length (join_round v h r m (suc k)) ≡ length h
    go (inl e) ih = rw e (join_parents_length v (join_round v h r m k) r k ∙ ih)
    go (inr e) ih = rw e ih

pub fill_length : (n : ℕ) (v : Records) (h : List ℕ) (k : ℕ) → length (fill n v h k) ≡ length h
unfolding fill
fill_length n v h zero = refl
fill_length n v h (suc k) = fill_length n v (join_round_parents v h (suc (suc k)) n) k ∙ join_round_length v h (suc (suc k)) _ n

-- so for weak parents
pub join_weak_marked : (h body : List ℕ) (k s q : ℕ) → length h ≡ rounds
    → ((i : ℕ) → i < k → (1 ≤ id_round (weak_of body i)) × (id_round (weak_of body i) ≤ rounds)) → 1 ≤ s
    → marked (join_weak h body k) s q ≡ (marked h s q || weak_parent body k s q)
unfolding join_weak weak_parent any
join_weak_marked h body zero s q z b l = sym (or-false (marked h s q))
join_weak_marked h body (suc k) s q z b l =
    join_marked (join_weak h body k) (id_round (weak_of body k)) (2 ^ id_member (weak_of body k)) s q (join_weak_length h body k ∙ z) (b k (omega arith)).0
    (b k (omega arith)).1 l
    ∙ ap₂ ◌||◌ (join_weak_marked h body k s q z (λ i li. b i (omega arith)) l) (ap (λ (x : Bool). eqb (id_round (weak_of body k)) s && x)
    (has_one (id_member (weak_of body k)) q))
    ∙ or_assoc (marked h s q) _ _

module _ (n : ℕ) (v : Records) (high : n ≤ slots) (E : Edges n v) where
  -- and for all parents of a vertex
  pub join_parents_marked : (h : List ℕ) (r p s q : ℕ) → length h ≡ rounds → 2 ≤ r → r ≤ rounds → 1 ≤ s
      → marked (join_parents v h r p) s q ≡ (marked h s q || parent (v r p) r s q)
  unfolding join_parents parent
  join_parents_marked h r p s q z l k ls =
      join_weak_marked (join h (r - 1) (strong_of (v r p))) (v r p) (weak_count_of (v r p)) s q (join_length h (r - 1) _ ∙ z)
      (λ i li. let w = E.weak_low r p i li in (w.0, omega arith)) ls
      ∙ ap (λ (b : Bool). b || weak_parent (v r p) (weak_count_of (v r p)) s q) (join_marked h (r - 1) (strong_of (v r p)) s q z (omega arith) (omega arith) ls)
      ∙ or_assoc (marked h s q) _ _

  -- a parent is of a lower round, and a member of the group
  parent_low : (r p s q : ℕ) → parent (v r p) r s q ≡ true → (1 ≤ s) × (s < r) × (q < n)
  unfolding parent weak_parent
  parent_low r p s q e = ⊎_elim
      (λ d.
      let b = E.strong_low r p q (and_right (eqb (r - 1) s) _ d) in
      let x = eqb-true (r - 1) s (and_left _ _ d) in
      (omega arith, omega arith, b.1))
      (λ d.
      let w = any_elim (weak_count_of (v r p)) (λ i. eqb (id_round (weak_of (v r p) i)) s && eqb (id_member (weak_of (v r p) i)) q) d in
      let b = E.weak_low r p w.0 w.1 in
      let x = eqb-true (id_round (weak_of (v r p) w.0)) s (and_left _ _ w.2) in
      let y = eqb-true (id_member (weak_of (v r p) w.0)) q (and_right (eqb (id_round (weak_of (v r p) w.0)) s) _ w.2) in
      (omega (arith, b.0), omega (arith, b.1), omega (arith, b.2)))
      (or_cases (eqb (r - 1) s && has (strong_of (v r p)) q) _ e)

  -- the parents of round r's vertices of the members below k in the mask m
  parents_of : ℕ → ℕ → ℕ → ℕ → ℕ → Bool
  parents_of r m k s q = any k (λ x. has m x && parent (v r x) r s q)

  no_parents : (r m k s q : ℕ) → r ≤ s → parents_of r m k s q ≡ false
  unfolding parents_of
  no_parents r m k s q l = any_false k _ (λ x lx. and_fails_right (has m x) (none x (which (parent (v r x) r s q))))
    where
      none : (x : ℕ) → (parent (v r x) r s q ≡ true) ⊎ (parent (v r x) r s q ≡ false) → parent (v r x) r s q ≡ false
      none x (inl e) = absurd (omega (arith, (parent_low r x s q e).1))
      none x (inr e) = e

  join_round_marked : (h : List ℕ) (r m k s q : ℕ) → length h ≡ rounds → 2 ≤ r → r ≤ rounds → 1 ≤ s
      → marked (join_round v h r m k) s q ≡ (marked h s q || parents_of r m k s q)
  unfolding join_round parents_of any
  join_round_marked h r m zero s q z l u ls = sym (or-false (marked h s q))
  join_round_marked h r m (suc k) s q z l u ls = go (which (has m k)) (join_round_marked h r m k s q z l u ls)
    where
      go : (has m k ≡ true) ⊎ (has m k ≡ false) → marked (join_round v h r m k) s q ≡ (marked h s q || parents_of r m k s q)
          → marked (join_round v h r m (suc k)) s q ≡ (marked h s q || parents_of r m (suc k) s q)
      go (inl e) ih =
          rw e
          (join_parents_marked (join_round v h r m k) r k s q (join_round_length v h r m k ∙ z) l u ls
          ∙ ap (λ (b : Bool). b || parent (v r k) r s q) ih ∙ or_assoc (marked h s q) _ _)
      go (inr e) ih = rw e (ih ∙ ap (λ (b : Bool). marked h s q || b) (sym (or-false (parents_of r m k s q))))

  -- ---- filling

  module _ (k : ℕ) (h : List ℕ) (z : length h ≡ rounds) (u : suc (suc k) ≤ rounds) where
    round_keeps : (s q : ℕ) → 1 ≤ s → marked h s q ≡ true → marked (join_round_parents v h (suc (suc k)) n) s q ≡ true
    round_keeps s q ls e = join_round_marked h (suc (suc k)) _ n s q z (omega arith) u ls ∙ or_left _ e

    -- the round's own masks, and those of higher ones, are final
    round_final : (s q : ℕ) → suc (suc k) ≤ s → marked (join_round_parents v h (suc (suc k)) n) s q ≡ true → marked h s q ≡ true
    round_final s q l e = ⊎_elim (λ d. d) (λ d. never d (no_parents (suc (suc k)) _ n s q l))
        (or_cases _ _ (sym (join_round_marked h (suc (suc k)) _ n s q z (omega arith) u (omega arith)) ∙ e))

    round_parents : (x s q : ℕ) → x < n → marked h (suc (suc k)) x ≡ true → parent (v (suc (suc k)) x) (suc (suc k)) s q ≡ true
        → marked (join_round_parents v h (suc (suc k)) n) s q ≡ true
    unfolding parents_of
    round_parents x s q lx e d =
        join_round_marked h (suc (suc k)) _ n s q z (omega arith) u (parent_low (suc (suc k)) x s q d).0
        ∙ or_right (marked h s q) (any_intro n _ x lx (and_both e d))

  -- with each vertex of a round above low the masks have its parents
  abbrev Closed : ℕ → List ℕ → Type 0
  Closed low h = (r x s q : ℕ) → low < r → r ≤ rounds → x < n → marked h r x ≡ true → parent (v r x) r s q ≡ true → marked h s q ≡ true

  fill_keeps : (k : ℕ) (h : List ℕ) → length h ≡ rounds → suc k ≤ rounds → (s q : ℕ) → 1 ≤ s → marked h s q ≡ true → marked (fill n v h k) s q ≡ true
  unfolding fill
  fill_keeps zero h z u s q ls e = e
  fill_keeps (suc k) h z u s q ls e =
      fill_keeps k (join_round_parents v h (suc (suc k)) n) (join_round_length v h (suc (suc k)) _ n ∙ z) (omega arith) s q ls (round_keeps k h z u s q ls e)

  fill_closed : (k : ℕ) (h : List ℕ) → length h ≡ rounds → suc k ≤ rounds → Closed (suc k) h → Closed 1 (fill n v h k)
  unfolding fill
  fill_closed zero h z u C = C
  fill_closed (suc k) h z u C = fill_closed k (join_round_parents v h (suc (suc k)) n) (join_round_length v h (suc (suc k)) _ n ∙ z) (omega arith) next
    where
      next : Closed (suc k) (join_round_parents v h (suc (suc k)) n)
      next r x s q l lr lx e d = go (eq-or-lt_of_le l)
        where
          e' : marked h r x ≡ true
          e' = round_final k h z u r x (omega arith) e

          go : (suc (suc k) ≡ r) ⊎ (suc (suc k) < r) → marked (join_round_parents v h (suc (suc k)) n) s q ≡ true
          go (inl y) = round_parents k h z u x s q lx (rw y e') (rw y d)
          go (inr y) = round_keeps k h z u s q (parent_low r x s q d).0 (C r x s q y lr lx e' d)

  -- and nothing that a closed set with the first masks does not have
  fill_formed : (H : ℕ → ℕ → Bool) → ((r x s q : ℕ) → x < n → H r x ≡ true → parent (v r x) r s q ≡ true → H s q ≡ true)
      → (k : ℕ) (h : List ℕ) → length h ≡ rounds → suc k ≤ rounds → ((s q : ℕ) → 1 ≤ s → marked h s q ≡ true → H s q ≡ true)
      → (s q : ℕ) → 1 ≤ s → marked (fill n v h k) s q ≡ true → H s q ≡ true
  unfolding fill parents_of
  fill_formed H closed zero h z u S = S
  fill_formed H closed (suc k) h z u S =
      fill_formed H closed k (join_round_parents v h (suc (suc k)) n) (join_round_length v h (suc (suc k)) _ n ∙ z) (omega arith) next
    where
      next : (s q : ℕ) → 1 ≤ s → marked (join_round_parents v h (suc (suc k)) n) s q ≡ true → H s q ≡ true
      next s q ls e = ⊎_elim (λ d. S s q ls d)
          (λ d.
          let w = any_elim n (λ x. marked h (suc (suc k)) x && parent (v (suc (suc k)) x) (suc (suc k)) s q) d in
          closed (suc (suc k)) w.0 s q w.1 (S (suc (suc k)) w.0 (omega arith) (and_left _ _ w.2))
          (and_right (marked h (suc (suc k)) w.0) _ w.2))
          (or_cases _ _ (sym (join_round_marked h (suc (suc k)) _ n s q z (omega arith) u ls) ∙ e))

  -- closed masks have the history of each vertex that they have
  closed_history : (h : List ℕ) → Closed 1 h → (k r p y : ℕ) → r ≤ rounds → p < n → marked h r p ≡ true → history_up_to n v k r p y ≡ true
      → marked h (id_round y) (id_member y) ≡ true
  closed_history h C zero r p y lr lp e d = never d (none_yet n v r p y)
  closed_history h C (suc k) r p y lr lp e d =
      by_cases n v k r p y d
      (λ q. rw (← q, id_round_lem r p (omega arith), id_member_lem r p (omega arith)) e)
      (λ m lm s g.
      let b = E.strong_low r p m s in
      closed_history h C k (r - 1) m y (omega arith) lm (C r p (r - 1) m (omega (arith, b.0)) lr lp e (strong_parent r p m s)) g)
      (λ i li g.
      let b = E.weak_low r p i li in
      closed_history h C k _ _ y (omega (arith, b.1)) b.2 (C r p _ _ (omega (arith, b.0, b.1)) lr lp e (weak_parent_lem r p i li)) g)
    where
      strong_parent : (r p m : ℕ) → has (strong_of (v r p)) m ≡ true → parent (v r p) r (r - 1) m ≡ true
      strong_parent r p m s = unfold parent in or_left _ (and_both (eq-eqb (r - 1) (r - 1) refl) s)

      weak_parent_lem : (r p i : ℕ) → i < weak_count_of (v r p) → parent (v r p) r (id_round (weak_of (v r p) i)) (id_member (weak_of (v r p) i)) ≡ true
      weak_parent_lem r p i l = unfold parent weak_parent in
          or_right (eqb (r - 1) (id_round (weak_of (v r p) i)) && has (strong_of (v r p)) (id_member (weak_of (v r p) i)))
          (any_intro (weak_count_of (v r p)) _ i l (and_both (eq-eqb (id_round (weak_of (v r p) i)) _ refl) (eq-eqb (id_member (weak_of (v r p) i)) _ refl)))

  -- ---- the masks of histories

  module _ (r : ℕ) (lr : 1 ≤ r) (hr : r ≤ rounds) where
    history_closed : (p t x s q : ℕ) → p < n → x < n → history n v r p (id_of t x) ≡ true → parent (v t x) t s q ≡ true
        → history n v r p (id_of s q) ≡ true
    unfolding parent weak_parent
    history_closed p t x s q lp lx e d = ⊎_elim
        (λ c.
        let a : t - 1 ≡ s = eqb-true (t - 1) s (and_left _ _ c) in
        rw (← a) (history_strong n v high E r p t x q (omega arith) (omega arith) (and_right (eqb (t - 1) s) _ c) e))
        (λ c.
        let w = any_elim (weak_count_of (v t x)) (λ i. eqb (id_round (weak_of (v t x) i)) s && eqb (id_member (weak_of (v t x) i)) q) c in
        let a : id_round (weak_of (v t x) w.0) ≡ s = eqb-true _ s (and_left _ _ w.2) in
        let b : id_member (weak_of (v t x) w.0) ≡ q = eqb-true _ q (and_right (eqb (id_round (weak_of (v t x) w.0)) s) _ w.2) in
        let y : weak_of (v t x) w.0 ≡ id_of s q = omega arith in
        rw y at (history_weak n v high E r p t x w.0 (omega arith) (omega arith) w.1 e))
        (or_cases (eqb (t - 1) s && has (strong_of (v t x)) q) _ d)

    module _ (m : ℕ) (small : m < 2 ^ n) where
      -- in the history of one of the members in the mask
      reached : ℕ → Bool
      reached y = any n (λ p. has m p && history n v r p y)

      first_masks : List ℕ
      first_masks = join (replicate rounds 0) r m

      first_length : length first_masks ≡ rounds
      unfolding first_masks
      first_length = join_length (replicate rounds 0) r m ∙ length-replicate {A = ℕ} rounds 0

      first_marked : (s q : ℕ) → 1 ≤ s → marked first_masks s q ≡ (eqb r s && has m q)
      unfolding first_masks
      first_marked s q ls =
          join_marked (replicate rounds 0) r m s q (length-replicate {A = ℕ} rounds 0) lr hr ls
          ∙ ap (λ (a : Bool). a || (eqb r s && has m q)) (ap (λ (x : ℕ). has x q) (zeros rounds (s - 1)) ∙ has_zero q)
        where
          zeros : (k i : ℕ) → ◌≡◌ {A = ℕ} (get_or (replicate k 0) i 0) 0
          zeros zero i = refl
          zeros (suc k) zero = refl
          zeros (suc k) (suc i) = zeros k i

      reached_closed : (t x s q : ℕ) → x < n → reached (id_of t x) ≡ true → parent (v t x) t s q ≡ true → reached (id_of s q) ≡ true
      unfolding reached
      reached_closed t x s q lx e d =
          let w = any_elim n (λ p. has m p && history n v r p (id_of t x)) e in
          let h : has m w.0 ≡ true = and_left _ (history n v r w.0 (id_of t x)) w.2 in
          any_intro n _ w.0 w.1 (and_both h (history_closed w.0 t x s q w.1 lx (and_right (has m w.0) _ w.2) d))

      -- the filled masks name exactly what is reached
      masks_reached : (t q : ℕ) → 1 ≤ t → q < slots → marked (reach_masks n v r m) t q ≡ any n (λ p. has m p && history n v r p (id_of t q))
      unfolding reach_masks first_masks reached
      masks_reached t q lt lq = bool_ext
          (fill_formed (λ s q. reached (id_of s q)) reached_closed (r - 1) first_masks first_length (omega arith) start t q lt)
          (λ e.
          let w = any_elim n (λ p. has m p && history n v r p (id_of t q)) e in
          rw (id_round_lem t q lq, id_member_lem t q lq)
          at (closed_history (fill n v first_masks (r - 1)) (fill_closed (r - 1) first_masks first_length (omega arith) top) r r w.0 (id_of t q) hr w.1
          (fill_keeps (r - 1) first_masks first_length (omega arith) r w.0 lr
          (first_marked r w.0 lr ∙ and_both (eq-eqb r r refl) (and_left _ (history n v r w.0 (id_of t q)) w.2)))
          (and_right (has m w.0) _ w.2)))
        where
          start : (s q : ℕ) → 1 ≤ s → marked first_masks s q ≡ true → reached (id_of s q) ≡ true
          start s q ls e =
              let d : (eqb r s && has m q) ≡ true = sym (first_marked s q ls) ∙ e in
              let h : has m q ≡ true = and_right (eqb r s) _ d in
              rw (← eqb-true r s (and_left _ _ d)) (any_intro n (λ p. has m p && history n v r p (id_of r q)) q (has_bound n m q small h)
              (and_both h (by_self n v r r q lr)))

          top : Closed (suc (r - 1)) first_masks
          top t x s q l lt lx e d =
              absurd (omega (arith, eqb-true r t (and_left _ _ (sym (first_marked t x (omega arith)) ∙ e))))

    -- those of one vertex name exactly its history
    masks_history : (p : ℕ) → p < n → (t q : ℕ) → 1 ≤ t → q < slots → marked (history_masks n v r p) t q ≡ history n v r p (id_of t q)
    masks_history p lp t q lt lq = masks_reached (2 ^ p) (pow-lt lp) t q lt lq ∙ bool_ext
        (λ e.
        let w = any_elim n (λ x. has (2 ^ p) x && history n v r x (id_of t q)) e in
        let same : p ≡ w.0 = eqb-true p w.0 (sym (has_one p w.0) ∙ and_left _ _ w.2) in
        rw same (and_right (has (2 ^ p) w.0) _ w.2))
        (λ e. any_intro n (λ x. has (2 ^ p) x && history n v r x (id_of t q)) p lp (and_both (has_one p p ∙ eq-eqb p p refl) e))

-- the claim for all edges
pub reach_claim : (n : ℕ) → ReachClaim n
reach_claim n v g W r m lr hr small t q lt ht lq = masks_reached n v (legal_range n g).high (edges n v g W) r lr hr m small t q lt lq

-- and for one vertex
pub history_claim : (n : ℕ) → HistoryClaim n
history_claim n v g W r p h t q lt ht lq =
    let a = W.admitted r p h in
    masks_history n v (legal_range n g).high (edges n v g W) r a.round_low a.round_high p a.source_low t q lt lq

-- ---- bodies cut off before their weak ids

cut_strong : (body : List ℕ) → strong_of (take weak_count_place body) ≡ strong_of body
unfolding strong_of
cut_strong body = get_or-take weak_count_place body strong_place 0 (omega arith)

cut_weak : (body : List ℕ) → weak_count_of (take weak_count_place body) ≡ 0
unfolding weak_count_of
cut_weak body = get_or-eq_default (take weak_count_place body) 0 (rw (length-take weak_count_place body) (omega arith))

module _ (n : ℕ) (v : Records) (g : legal n ≡ true) (W : ValidVertices n v) where
  abbrev cut : Records
  cut r p = take weak_count_place (v r p)

  cut_edges : Edges n cut
  cut_edges = record {
    strong_low = λ r p m e. (edges n v g W).strong_low r p m (rw (cut_strong (v r p)) at e);
    weak_low = λ r p i l. absurd (omega (arith, cut_weak (v r p)));
  }

  -- their histories are what paths reach
  cut_history : (r p t q : ℕ) → p < slots → q < slots → held v r p ≡ true → history n cut r p (id_of t q) ≡ path n v r p t q
  cut_history zero p t q lp lq h = none_yet n cut zero p (id_of t q) ∙ sym (no_path p t q)
    where
      no_path : (p t q : ℕ) → path n v zero p t q ≡ false
      no_path p t q = unfold path in refl
  cut_history (suc r) p t q lp lq h =
      let ih : (m : ℕ) → m < n → has (strong_of (v (suc r) p)) m ≡ true → history n cut r m (id_of t q) ≡ path n v r m t q
      = λ m lm s. cut_history r m t q (omega (arith, (legal_range n g).high)) lq (parent_held n v W r p m s) in
      bool_ext (forth ih) (back ih)
    where
      forth : ((m : ℕ) → m < n → has (strong_of (v (suc r) p)) m ≡ true → history n cut r m (id_of t q) ≡ path n v r m t q)
          → history n cut (suc r) p (id_of t q) ≡ true → path n v (suc r) p t q ≡ true
      forth ih e = by_cases n cut r (suc r) p (id_of t q) e
          (λ d. let a : suc r ≡ t = omega arith in let b : p ≡ q = omega arith in rw (← a, ← b) (path_self n v (suc r) p (omega arith) h))
          (λ m lm s d.
          let s' : has (strong_of (v (suc r) p)) m ≡ true = rw (cut_strong (v (suc r) p)) at s in
          let d' : path n v r m t q ≡ true = sym (ih m lm s') ∙ (simp unary_clauses at d) in
          path_edge n v r p m t q (path_le n v r m t q d') lm s' d')
          (λ i l d. absurd (omega (arith, cut_weak (v (suc r) p))))

      back : ((m : ℕ) → m < n → has (strong_of (v (suc r) p)) m ≡ true → history n cut r m (id_of t q) ≡ path n v r m t q)
          → path n v (suc r) p t q ≡ true → history n cut (suc r) p (id_of t q) ≡ true
      back ih e = ⊎_elim
          (λ d. let b : p ≡ q = path_here n v (suc r) p q (rw d at e) in let y : id_of (suc r) p
          ≡ id_of t q = omega arith in rw y at (by_self n cut (suc r) (suc r) p (omega arith)))
          (λ l.
          let w = first_edge n v r p t q (omega arith) e in
          by_strong n cut r (suc r) p w.0 (id_of t q) w.1 (rw (cut_strong (v (suc r) p)) w.2) (simp unary_clauses (ih w.0 w.1 w.2 ∙ w.3)))
          (eq-or-lt_of_le (path_le n v (suc r) p t q e))

-- the claim for strong edges alone
pub strong_history_claim : (n : ℕ) → StrongHistoryClaim n
strong_history_claim n v g W r p h t q lt ht lq =
    let a = W.admitted r p h in
    let k = (legal_range n g).high in
    masks_history n (cut n v g W) k (cut_edges n v g W) r a.round_low a.round_high p a.source_low t q lt lq
    ∙ cut_history n v g W r p t q (omega (arith, a.source_low)) lq h
