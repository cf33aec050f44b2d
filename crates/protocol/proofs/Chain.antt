-- Laws of the walk over leaders: its steps, the vertices it takes, and where it is the same or splits at a settled place.
use mathlib.Core.Path.{◌≡◌, refl, sym, ap, ap₂, ◌∙◌}
use mathlib.Core.Bool.{Bool, true, false, cond}
use mathlib.Core.Logic.{◌⊎◌, inl, inr, ⊎_elim}
use mathlib.Core.List.{List, [], ◌∷◌, ◌++◌, append-nil, append_assoc}
use Prim.Native.Nat.{ℕ, zero, suc, ◌-◌, ◌≤◌, ◌<◌}
use native.Mathlib.Nat.{eq-or-lt_of_le}
use native.Mathlib.Omega.{arith}
use lib.Dec.{eqb, leb, ltb}
use borrow.Author.Tests.{leb-true, leb-false, le-leb, lt-leb, ltb-true, ltb-false, lt-ltb, le-ltb, eqb-true, eq-eqb, ne_eqb}
use Rattle.record.specs.Members.{legal, id_round, id_member, leader_at}
use Rattle.record.proofs.Booleans.{which, never, or_cases, cond_cong}
use Rattle.record.proofs.Masks.{legal_range, leader_at_lt}
use Rattle.protocol.specs.Dag.{Records, Dag, held}
use Rattle.protocol.specs.Paths.{reaches}
use Rattle.protocol.specs.Chain.{leader_id, seats, span, walk, chain}
use Rattle.protocol.specs.Journal.{among}
use Rattle.protocol.specs.Premises.{DagPremises}
use Rattle.record.proofs.Longest.{longest_le, longest_in, longest_reach, longest_cong}
use Rattle.protocol.proofs.Paths.{path_held, path_same}
use Rattle.record.proofs.Rounds.{id_round_lem, id_member_lem}
use Rattle.protocol.proofs.Lists.{among_none, among_append, among_one}

-- ---- some leaders of a round

module _ (n : ℕ) where
  pub seats_none : (r a b : ℕ) → b ≤ a → seats n r a b ≡ []
  unfolding seats
  seats_none r a zero l = refl
  seats_none r a (suc b) l = rw (lt-leb a b l)

  -- one more
  pub seats_more : (r a b : ℕ) → a ≤ b → seats n r a (suc b) ≡ seats n r a b ++ leader_id n r b ∷ []
  unfolding seats
  seats_more r a b l = rw (le-leb a b l)

  -- from a to b, and from b on
  pub seats_split : (r a b k : ℕ) → a ≤ b → b ≤ k → seats n r a k ≡ seats n r a b ++ seats n r b k
  seats_split r a b zero l h = rw (seats_none r a zero (omega arith), seats_none r b zero (omega arith), seats_none r a b (omega arith))
  seats_split r a b (suc k) l h = go (eq-or-lt_of_le h) (seats_split r a b k l)
    where
      go : (b ≡ suc k) ⊎ (b < suc k) → (b ≤ k → seats n r a k ≡ seats n r a b ++ seats n r b k) → seats n r a (suc k) ≡ seats n r a b ++ seats n r b (suc k)
      go (inl e) ih = rw (e, seats_none r (suc k) (suc k) (omega arith)) (sym (append-nil (seats n r a (suc k))))
      go (inr d) ih =
          seats_more r a k (omega arith) ∙ ap (λ (l : List ℕ). l ++ leader_id n r k ∷ []) (ih (omega arith)) ∙ append_assoc (seats n r a b) _ _
          ∙ ap (λ (l : List ℕ). seats n r a b ++ l) (sym (seats_more r b k (omega arith)))

  -- each is a leader of the round
  pub seats_among : (r a b y : ℕ) → among (seats n r a b) y ≡ true → (x : ℕ) × (a ≤ x) × (x < b) × (y ≡ leader_id n r x)
  seats_among r a zero y e = never (rw (seats_none r a zero (omega arith)) at e) (among_none y)
  seats_among r a (suc b) y e = go (which (leb a b)) (seats_among r a b y)
    where
      go : (leb a b ≡ true) ⊎ (leb a b ≡ false) → (among (seats n r a b) y ≡ true → (x : ℕ) × (a ≤ x) × (x < b) × (y ≡ leader_id n r x))
          → (x : ℕ) × (a ≤ x) × (x < suc b) × (y ≡ leader_id n r x)
      go (inl c) ih = ⊎_elim
          (λ s. let w = ih s in (w.0, w.1, omega (arith, w.2), w.3))
          (λ s. (b, leb-true a b c, omega arith, sym (eqb-true (leader_id n r b) y (sym (among_one (leader_id n r b) y) ∙ s))))
          (or_cases _ _ (sym (among_append (seats n r a b) (leader_id n r b ∷ []) y) ∙ (rw (seats_more r a b (leb-true a b c)) at e)))
      go (inr c) ih = never (rw (seats_none r a (suc b) (omega (arith, leb-false a b c))) at e) (among_none y)

module _ (n m : ℕ) (v : Records) where
  -- ---- the steps of a walk

  -- below the round of the last taken the walk is over
  pub walk_stop : (c a r t : ℕ) → t < c → walk n m v c a r t ≡ []
  unfolding walk
  walk_stop c a r zero l = refl
  walk_stop c a r (suc t) l = rw (lt-ltb (suc t) c l)

  -- and so at round 0
  pub walk_none : (c a r : ℕ) → walk n m v c a r zero ≡ []
  unfolding walk
  walk_none c a r = refl

  -- a round whose main leader no path leads to is passed over
  pub walk_skip : (c a r t : ℕ) → reaches n v r (suc t) 0 ≡ false → walk n m v c a r (suc t) ≡ walk n m v c a r t
  walk_skip c a r t e = ⊎_elim
      (λ d. let l = ltb-true (suc t) c d in walk_stop c a r (suc t) l ∙ sym (walk_stop c a r t (omega arith)))
      (λ d. skip d) (which (ltb (suc t) c))
    where
      skip : ltb (suc t) c ≡ false → walk n m v c a r (suc t) ≡ walk n m v c a r t
      skip d = unfold walk in rw (d, e)

  -- of one whose main leader is reached its span is taken, less those already taken, and the walk goes on from its main leader
  pub walk_reach : (c a r t : ℕ) → c ≤ suc t → reaches n v r (suc t) 0 ≡ true
      → walk n m v c a r (suc t) ≡ walk n m v c a (suc t) t ++ seats n (suc t) (cond (eqb (suc t) c) a 0) (span n m v r (suc t))
  unfolding walk
  walk_reach c a r t l e = rw (le-ltb (suc t) c l, e)

  -- of one above the last taken its whole span
  pub walk_take : (c a r t : ℕ) → c < suc t → reaches n v r (suc t) 0 ≡ true
      → walk n m v c a r (suc t) ≡ walk n m v c a (suc t) t ++ seats n (suc t) 0 (span n m v r (suc t))
  unfolding walk
  walk_take c a r t l e = rw (le-ltb (suc t) c (omega arith), e, ne_eqb (suc t) c (λ s. omega arith))

  -- of the round of the last taken, what is left of its span
  pub walk_last : (a r t : ℕ) → reaches n v r (suc t) 0 ≡ true → walk n m v (suc t) a r (suc t) ≡ seats n (suc t) a (span n m v r (suc t))
  walk_last a r t e = open_last ∙ ap (λ (l : List ℕ). l ++ seats n (suc t) a (span n m v r (suc t))) (walk_stop (suc t) a (suc t) t (omega arith))
    where
      open_last : walk n m v (suc t) a r (suc t) ≡ walk n m v (suc t) a (suc t) t ++ seats n (suc t) a (span n m v r (suc t))
      open_last = unfold walk in rw (le-ltb (suc t) (suc t) (omega arith), e, eq-eqb (suc t) (suc t) refl)

  -- a chain within one round, and one to a later round
  pub chain_here : (q a b : ℕ) → chain n m v q a q b ≡ seats n q a b
  unfolding chain
  chain_here q a b = rw (eq-eqb q q refl)

  pub chain_some : (c a q b : ℕ) → c < q → chain n m v c a q b ≡ walk n m v c a q (q - 1) ++ seats n q 0 b
  unfolding chain
  chain_some c a q b l = rw (ne_eqb c q (λ s. omega arith))

  -- where no leader of round c is left, or c is 0, the walk is that to the round above
  walk_full : (c a : ℕ) → (c ≡ 0) ⊎ (m ≤ a) → (r t : ℕ) → walk n m v c a r t ≡ walk n m v (suc c) 0 r t
  walk_full c a h r zero = walk_none c a r ∙ sym (walk_none (suc c) 0 r)
  walk_full c a h r (suc t) = go (which (leb (suc t) c)) (which (reaches n v r (suc t) 0)) (walk_full c a h (suc t) t) (walk_full c a h r t)
    where
      -- of round c nothing is taken
      here : suc t ≡ c → (c ≡ 0) ⊎ (m ≤ a) → (reaches n v r (suc t) 0 ≡ true) ⊎ (reaches n v r (suc t) 0 ≡ false) → walk n m v c a r (suc t) ≡ []
      here e (inl z) d = absurd (omega arith)
      here e (inr k) (inl d) =
          rw (← e) (walk_last a r t d ∙ seats_none n (suc t) a (span n m v r (suc t)) (omega (arith, longest_le m (reaches n v r (suc t)))))
      here e (inr k) (inr d) = walk_skip c a r t d ∙ walk_stop c a r t (omega arith)

      over : suc t ≤ c → (reaches n v r (suc t) 0 ≡ true) ⊎ (reaches n v r (suc t) 0 ≡ false) → walk n m v c a r (suc t) ≡ []
      over l d = ⊎_elim (λ (e : suc t ≡ c). here e h d) (λ k. walk_stop c a r (suc t) k) (eq-or-lt_of_le l)

      -- above it the walks go alike
      from_nothing : (b : Bool) → cond {A = ℕ} b 0 0 ≡ 0
      from_nothing true = refl
      from_nothing false = refl

      go : (leb (suc t) c ≡ true) ⊎ (leb (suc t) c ≡ false) → (reaches n v r (suc t) 0 ≡ true) ⊎ (reaches n v r (suc t) 0 ≡ false)
          → walk n m v c a (suc t) t ≡ walk n m v (suc c) 0 (suc t) t → walk n m v c a r t ≡ walk n m v (suc c) 0 r t
          → walk n m v c a r (suc t) ≡ walk n m v (suc c) 0 r (suc t)
      go (inl l) d taken passed = let k : suc t ≤ c = leb-true (suc t) c l in over k d ∙ sym (walk_stop (suc c) 0 r (suc t) (omega arith))
      go (inr l) (inl d) taken passed =
          let k : c < suc t = leb-false (suc t) c l in
          walk_take c a r t k d
          ∙ ap₂ (λ (x : List ℕ) (y : ℕ). x ++ seats n (suc t) y (span n m v r (suc t))) taken (sym (from_nothing (eqb (suc t) (suc c))))
          ∙ sym (walk_reach (suc c) 0 r t k d)
      go (inr l) (inr d) taken passed = walk_skip c a r t d ∙ passed ∙ sym (walk_skip (suc c) 0 r t d)

  -- and so is the chain
  pub chain_full : (c a q b : ℕ) → c < q → (c ≡ 0) ⊎ (m ≤ a) → chain n m v c a q b ≡ chain n m v (suc c) 0 q b
  chain_full c a q b l h = ⊎_elim
      (λ (e : suc c ≡ q). rw (← e) (begun (suc c) (omega arith)
      ∙ ap (λ (x : List ℕ). x ++ seats n (suc c) 0 b) (walk_stop (suc c) 0 (suc c) (suc c - 1) (omega arith))
      ∙ sym (chain_here (suc c) 0 b)))
      (λ k. begun q l ∙ sym (chain_some (suc c) 0 q b k))
      (eq-or-lt_of_le l)
    where
      begun : (q : ℕ) → c < q → chain n m v c a q b ≡ walk n m v (suc c) 0 q (q - 1) ++ seats n q 0 b
      begun q l = chain_some c a q b l ∙ ap (λ (x : List ℕ). x ++ seats n q 0 b) (walk_full c a h q (q - 1))

  -- nothing is taken where no place is gained
  pub chain_self : (q a : ℕ) → chain n m v q a q a ≡ []
  chain_self q a = chain_here q a a ∙ seats_none n q a a (omega arith)

  -- ---- the vertices that are taken are held, of rounds from that of the last taken on

  module _ (g : legal n ≡ true) where
    leader_id_lem : (r x : ℕ) → (id_round (leader_id n r x) ≡ r) × (id_member (leader_id n r x) ≡ leader_at n r x)
    leader_id_lem r x =
        let L = legal_range n g in
        let l : leader_at n r x < 16 = omega (arith, leader_at_lt n r x (omega (arith, L.low)), L.high) in
        (id_round_lem r (leader_at n r x) l, id_member_lem r (leader_at n r x) l)

    -- some leaders of a round
    pub seats_held : (r a b y : ℕ) → ((x : ℕ) → a ≤ x → x < b → held v r (leader_at n r x) ≡ true) → among (seats n r a b) y ≡ true
        → (held v (id_round y) (id_member y) ≡ true) × (id_round y ≡ r)
    seats_held r a b y h e =
        let w = seats_among n r a b y e in
        let i = leader_id_lem r w.0 in
        (rw (w.3, i.0, i.1) (h w.0 w.1 w.2), rw w.3 i.0)

    pub walk_held : (c a r t y : ℕ) → among (walk n m v c a r t) y ≡ true → (held v (id_round y) (id_member y) ≡ true) × (c ≤ id_round y) × (id_round y ≤ t)
    walk_held c a r zero y e = never (rw (walk_none c a r) at e) (among_none y)
    walk_held c a r (suc t) y e = go (which (ltb (suc t) c)) (which (reaches n v r (suc t) 0)) (λ r'. walk_held c a r' t y)
      where
        taken : (b : ℕ) → among (seats n (suc t) b (span n m v r (suc t))) y ≡ true → c ≤ suc t
            → (held v (id_round y) (id_member y) ≡ true) × (c ≤ id_round y) × (id_round y ≤ suc t)
        taken b s l =
            let w = seats_held (suc t) b (span n m v r (suc t)) y (λ x k p. path_held n v r _ (suc t) _ (longest_in m (reaches n v r (suc t)) x p)) s in
            (w.0, omega (arith, w.1), omega (arith, w.1))

        go : (ltb (suc t) c ≡ true) ⊎ (ltb (suc t) c ≡ false) → (reaches n v r (suc t) 0 ≡ true) ⊎ (reaches n v r (suc t) 0 ≡ false)
            → ((r' : ℕ) → among (walk n m v c a r' t) y ≡ true → (held v (id_round y) (id_member y) ≡ true) × (c ≤ id_round y) × (id_round y ≤ t))
            → (held v (id_round y) (id_member y) ≡ true) × (c ≤ id_round y) × (id_round y ≤ suc t)
        go (inl d) s ih = never (rw (walk_stop c a r (suc t) (ltb-true (suc t) c d)) at e) (among_none y)
        go (inr d) (inr s) ih = let w = ih r (rw (walk_skip c a r t s) at e) in (w.0, w.1, omega (arith, w.2))
        go (inr d) (inl s) ih = at_last (eq-or-lt_of_le (ltb-false (suc t) c d))
          where
            at_last : (c ≡ suc t) ⊎ (c < suc t) → (held v (id_round y) (id_member y) ≡ true) × (c ≤ id_round y) × (id_round y ≤ suc t)
            at_last (inl q) = taken a (rw (walk_last a r t s) at (rw q at e)) (omega arith)
            at_last (inr l) = ⊎_elim
                (λ k. let w = ih (suc t) k in (w.0, w.1, omega (arith, w.2)))
                (λ k. taken 0 k (omega arith))
                (or_cases _ _ (sym (among_append (walk n m v c a (suc t) t) (seats n (suc t) 0 (span n m v r (suc t))) y) ∙ (rw (walk_take c a r t l s) at e)))

    -- and of a chain, if those of round q are
    pub chain_held : (c a q b y : ℕ) → c ≤ q → ((x : ℕ) → x < b → held v q (leader_at n q x) ≡ true) → among (chain n m v c a q b) y ≡ true
        → (held v (id_round y) (id_member y) ≡ true) × (c ≤ id_round y) × (id_round y ≤ q)
    chain_held c a q b y l h e = go (eq-or-lt_of_le l)
      where
        go : (c ≡ q) ⊎ (c < q) → (held v (id_round y) (id_member y) ≡ true) × (c ≤ id_round y) × (id_round y ≤ q)
        go (inl d) =
            let w = seats_held q a b y (λ x _ p. h x p) (rw (chain_here q a b) at (rw d at e)) in
            (w.0, omega (arith, w.1), omega (arith, w.1))
        go (inr d) = ⊎_elim
            (λ k. let w = walk_held c a q (q - 1) y k in (w.0, w.1, omega (arith, w.2)))
            (λ k. let w = seats_held q 0 b y (λ x _ p. h x p) k in (w.0, omega (arith, w.1), omega (arith, w.1)))
            (or_cases _ _ (sym (among_append (walk n m v c a q (q - 1)) (seats n q 0 b) y) ∙ (rw (chain_some c a q b d) at e)))

  -- ---- splitting at a place (c, a) to whose leaders every later main leader's vertex has paths

  -- at round c itself: the span is no shorter than a
  walk_at : (a r t : ℕ) → reaches n v r (suc t) 0 ≡ true → a ≤ span n m v r (suc t)
      → walk n m v 0 0 r (suc t) ≡ chain n m v 0 0 (suc t) a ++ walk n m v (suc t) a r (suc t)
  walk_at a r t e l =
      walk_take 0 0 r t (omega arith) e
      ∙ ap (λ (l : List ℕ). walk n m v 0 0 (suc t) t ++ l) (seats_split n (suc t) 0 a (span n m v r (suc t)) (omega arith) l)
      ∙ sym (append_assoc (walk n m v 0 0 (suc t) t) (seats n (suc t) 0 a) _)
      ∙ ap₂ (λ (x : List ℕ) (y : List ℕ). x ++ y) (sym (last_of)) (sym (walk_last a r t e))
    where
      last_of : chain n m v 0 0 (suc t) a ≡ walk n m v 0 0 (suc t) t ++ seats n (suc t) 0 a
      last_of = chain_some 0 0 (suc t) a (omega arith) ∙ ap (λ (x : ℕ). walk n m v 0 0 (suc t) x ++ seats n (suc t) 0 a) (omega arith)

  module _ (c a : ℕ) (pos : zero < c) (some : zero < a) (low : a ≤ m)
      (all : (r x : ℕ) → x < a → c < r → held v r (leader_at n r 0) ≡ true → reaches n v r c x ≡ true) where
    -- a walk from above goes through it
    walk_split : (r t : ℕ) → c ≤ t → t < r → held v r (leader_at n r 0) ≡ true → walk n m v 0 0 r t ≡ chain n m v 0 0 c a ++ walk n m v c a r t
    walk_split r zero l k h = absurd (omega arith)
    walk_split r (suc t) l k h = go (eq-or-lt_of_le l) (which (reaches n v r (suc t) 0)) (λ r' l'. walk_split r' t l')
      where
        go : (c ≡ suc t) ⊎ (c < suc t) → (reaches n v r (suc t) 0 ≡ true) ⊎ (reaches n v r (suc t) 0 ≡ false)
            → ((r' : ℕ) → c ≤ t → t < r' → held v r' (leader_at n r' 0) ≡ true → walk n m v 0 0 r' t ≡ chain n m v 0 0 c a ++ walk n m v c a r' t)
            → walk n m v 0 0 r (suc t) ≡ chain n m v 0 0 c a ++ walk n m v c a r (suc t)
        go (inl e) d ih =
            let reach : (x : ℕ) → x < a → reaches n v r (suc t) x ≡ true = λ x s. rw e at (all r x s (omega arith) h) in
            rw e (walk_at a r t (reach 0 some) (longest_reach m (reaches n v r (suc t)) a low reach))
        go (inr e) (inl d) ih =
            walk_take 0 0 r t (omega arith) d
            ∙ ap (λ (l : List ℕ). l ++ seats n (suc t) 0 (span n m v r (suc t))) (ih (suc t) (omega arith) (omega arith) (path_held n v r _ (suc t) _ d))
            ∙ append_assoc (chain n m v 0 0 c a) _ _ ∙ ap (λ (l : List ℕ). chain n m v 0 0 c a ++ l) (sym (walk_take c a r t e d))
        go (inr e) (inr d) ih = rw (walk_skip 0 0 r t d, walk_skip c a r t d) (ih r (omega arith) (omega arith) h)

    -- and a chain from above begins with its chain
    pub chain_split : (q b : ℕ) → c < q → held v q (leader_at n q 0) ≡ true → chain n m v 0 0 q b ≡ chain n m v 0 0 c a ++ chain n m v c a q b
    chain_split q b l h =
        chain_some 0 0 q b (omega arith) ∙ ap (λ (l : List ℕ). l ++ seats n q 0 b) (walk_split q (q - 1) (omega arith) (omega arith) h)
        ∙ append_assoc (chain n m v 0 0 c a) _ _ ∙ ap (λ (l : List ℕ). chain n m v 0 0 c a ++ l) (sym (chain_some c a q b l))

  -- within one round it begins with the chain of fewer of its leaders
  pub chain_longer : (q a b : ℕ) → zero < q → a ≤ b → chain n m v 0 0 q b ≡ chain n m v 0 0 q a ++ chain n m v q a q b
  chain_longer q a b pos l =
      chain_some 0 0 q b pos ∙ ap (λ (x : List ℕ). walk n m v 0 0 q (q - 1) ++ x) (seats_split n q 0 a b (omega arith) l)
      ∙ sym (append_assoc (walk n m v 0 0 q (q - 1)) (seats n q 0 a) _)
      ∙ ap₂ (λ (x : List ℕ) (y : List ℕ). x ++ y) (sym (chain_some 0 0 q a pos)) (sym (chain_here q a b))

-- ---- over a family

module _ (n m : ℕ) {I : Type 0} (dag : I → Dag) (honest : ℕ → Bool) (P : DagPremises n m dag honest) where
  -- from a main leader's vertex that two DAGs hold they take the same
  pub walk_same : (i j : I) (c a r t : ℕ) → held (dag i).vertex r (leader_at n r 0) ≡ true → held (dag j).vertex r (leader_at n r 0) ≡ true
      → walk n m (dag i).vertex c a r t ≡ walk n m (dag j).vertex c a r t
  unfolding walk
  walk_same i j c a r zero hi hj = refl
  walk_same i j c a r (suc t) hi hj =
      let e : (x : ℕ) → reaches n (dag i).vertex r (suc t) x ≡ reaches n (dag j).vertex r (suc t) x
      = λ x. path_same n m dag honest P i j r (leader_at n r 0) (suc t) (leader_at n (suc t) x) hi hj in
      ap (cond (ltb (suc t) c) []) (cond_cong (e 0)
      (λ s. ap₂ (λ (l : List ℕ) (k : ℕ). l ++ seats n (suc t) (cond (eqb (suc t) c) a 0) k)
      (walk_same i j c a (suc t) t (path_held n _ r _ (suc t) _ s) (path_held n _ r _ (suc t) _ (sym (e 0) ∙ s)))
      (longest_cong m _ _ (λ x l. e x)))
      (walk_same i j c a r t hi hj))

  -- and make the same chain of it
  pub chain_same : (i j : I) (c a q b : ℕ) → held (dag i).vertex q (leader_at n q 0) ≡ true → held (dag j).vertex q (leader_at n q 0) ≡ true
      → chain n m (dag i).vertex c a q b ≡ chain n m (dag j).vertex c a q b
  unfolding chain
  chain_same i j c a q b hi hj = ap (λ (l : List ℕ). cond (eqb c q) (seats n q a b) (l ++ seats n q 0 b)) (walk_same i j c a q (q - 1) hi hj)
