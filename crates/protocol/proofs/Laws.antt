-- What the crates above cite beside the laws of the other modules: equal vertex functions, the last place, the lengths of the lists, and the places that a
-- chain goes through.
use mathlib.Core.Path.{◌≡◌, sym, ◌∙◌, ap, fun_ext}
use mathlib.Core.Bool.{Bool, true, false, not, ◌&&◌}
use mathlib.Core.Logic.{◌⊎◌, inl, inr, ⊎_elim}
use mathlib.Core.List.{List, [], ◌∷◌, ◌++◌}
use Prim.Native.Nat.{ℕ, zero, suc, ◌+◌, ◌-◌, ◌*◌, ◌≤◌, ◌<◌}
use native.Mathlib.Nat.{eq-or-lt_of_le, mul-suc}
use native.Mathlib.Numerals.{sub-one}
use native.Mathlib.Omega.{arith}
use lib.Dec.{leb}
use lib.ListN.{length, get_or, length-append}
use borrow.Author.Tests.{leb-true, leb-false}
use Rattle.record.specs.Below.{select}
use Rattle.record.specs.Members.{legal, has, id_round, id_member, id_limit, voted_rounds}
use Rattle.record.proofs.Booleans.{which, never}
use Rattle.record.proofs.Below.{select_cong}
use Rattle.protocol.specs.Dag.{Records, Dag, held, backed, last, direct}
use Rattle.protocol.specs.Paths.{history, reaches}
use Rattle.protocol.specs.Chain.{leader_id, seats, span, walk, chain}
use Rattle.protocol.specs.Journal.{among, fresh}
use Rattle.protocol.specs.Premises.{ValidVertices}
use Rattle.protocol.specs.Claims.{Settled, Before}
use Rattle.protocol.specs.Masks.{history_masks}
use Rattle.record.proofs.Longest.{longest_le, longest_some}
use Rattle.protocol.proofs.Commit.{up_to_backed, up_to_highest, last_low, settled_backed}
use Rattle.protocol.proofs.Lists.{once, once_span}
use Rattle.protocol.proofs.Chain.{seats_none, seats_more, walk_none, walk_stop, walk_skip, walk_take, walk_last, chain_here, chain_some}
use Rattle.record.proofs.Rounds.{id_same}
use Rattle.protocol.proofs.History.{Named, history_held}
use Rattle.protocol.proofs.Masks.{history_claim}

-- two vertex functions that agree everywhere are the same
pub records_ext : (v w : Records) → ((r p : ℕ) → v r p ≡ w r p) → v ≡ w
records_ext v w h = fun_ext (λ r. fun_ext (λ p. h r p))

-- a settled place from which nothing more is ready is the last one
pub last_place_lem : (n m : ℕ) (d : Dag) (c a : ℕ) → 1 ≤ m → c ≤ voted_rounds → Settled n m d c a → direct n m d c ≤ a
    → ((q : ℕ) → c < q → q ≤ voted_rounds → backed n d q 0 ≡ false)
    → (c ≡ last n d) × (a ≡ direct n m d (last n d))
last_place_lem n m d c a lm lc S full none = (same, full_run)
  where
    -- the last round is no higher, for its main leader is backed
    low : last n d ≤ c
    low = ⊎_elim
        (λ e. leb-true (last n d) c e)
        (λ e. let l : c < last n d = leb-false (last n d) c e in
        never (up_to_backed n d voted_rounds (omega arith)) (none (last n d) l (last_low n d)))
        (which (leb (last n d) c))

    -- and no lower
    high : c ≤ last n d
    high = ⊎_elim
        (λ e. omega (arith, leb-true c 0 e))
        (λ e. let l : 0 < c = leb-false c 0 e in up_to_highest n d voted_rounds c l lc (settled_backed n m d c a S 0 (S.some l)))
        (which (leb c 0))

    same : c ≡ last n d
    same = omega (arith, low, high)

    full_run : a ≡ direct n m d (last n d)
    full_run = rw (← same) (omega (arith, full, S.committed))

-- ---- chains and journals of held leaders' vertices

module _ (n m : ℕ) (v : Records) where
  -- leaders a to b - 1 of a round
  pub seats_length : (r a b : ℕ) → a ≤ b → a + length (seats n r a b) ≡ b
  seats_length r a zero l = rw (seats_none n r a zero (omega arith)) (omega arith)
  seats_length r a (suc b) l = step (eq-or-lt_of_le l) (seats_length r a b)
    where
      step : (a ≡ suc b) ⊎ (a < suc b) → (a ≤ b → a + length (seats n r a b) ≡ b) → a + length (seats n r a (suc b)) ≡ suc b
      step (inl e) ih = rw (seats_none n r a (suc b) (omega arith)) (omega arith)
      step (inr k) ih = rw (seats_more n r a b (omega arith), length-append (seats n r a b) (leader_id n r b ∷ [])) (omega (arith, ih (omega arith)))

  seats_few : (r a b k : ℕ) → a ≤ k → b ≤ k → a + length (seats n r a b) ≤ k
  seats_few r a b k la lb = ⊎_elim
      (λ e. omega (arith, seats_length r a b (leb-true a b e)))
      (λ e. rw (seats_none n r a b (omega (arith, leb-false a b e))) (omega arith))
      (which (leb a b))

  -- of m leaders a round, from the place (c, a) on, there are at most those of the places in between
  pub walk_length : (c a r t : ℕ) → a ≤ m → c ≤ t → m * c + a + length (walk n m v c a r t) ≤ m * t + m
  walk_length c a r zero la l = let z : c ≡ 0 = omega arith in rw (walk_none n m v c a r, z) (omega arith)
  walk_length c a r (suc t) la l = go (eq-or-lt_of_le l) (which (reaches n v r (suc t) 0)) (λ r' l'. walk_length c a r' t la l')
    where
      spans : span n m v r (suc t) ≤ m
      spans = longest_le m (reaches n v r (suc t))

      more : m * suc t ≡ m * t + m
      more = mul-suc m t

      go : (c ≡ suc t) ⊎ (c < suc t) → (reaches n v r (suc t) 0 ≡ true) ⊎ (reaches n v r (suc t) 0 ≡ false)
          → ((r' : ℕ) → c ≤ t → m * c + a + length (walk n m v c a r' t) ≤ m * t + m) → m * c + a + length (walk n m v c a r (suc t)) ≤ m * suc t + m
      go (inl e) (inl d) ih = rw (e, walk_last n m v a r t d) (omega (arith, seats_few (suc t) a (span n m v r (suc t)) m la spans))
      go (inl e) (inr d) ih = rw (walk_skip n m v c a r t d, walk_stop n m v c a r t (omega arith), e) (omega arith)
      go (inr k) (inl d) ih =
          rw (walk_take n m v c a r t k d, length-append (walk n m v c a (suc t) t) (seats n (suc t) 0 (span n m v r (suc t))))
          (omega (arith, more, ih (suc t) (omega arith), seats_few (suc t) 0 (span n m v r (suc t)) m (omega arith) spans))
      go (inr k) (inr d) ih = rw (walk_skip n m v c a r t d) (omega (arith, more, ih r (omega arith)))

  pub chain_length : (c a q b : ℕ) → a ≤ m → Before c a q b → m * c + a + length (chain n m v c a q b) ≤ m * q + b
  chain_length c a q b la (inr w) = rw (w.0, chain_here n m v q a b) (omega (arith, seats_length q a b w.1))
  chain_length c a zero b la (inl l) = absurd (omega arith)
  chain_length c a (suc q) b la (inl l) =
      rw (chain_some n m v c a (suc q) b l, length-append (walk n m v c a (suc q) (suc q - 1)) (seats n (suc q) 0 b))
      (omega (arith, mul-suc m q, below, seats_length (suc q) 0 b (omega arith)))
    where
      below : m * c + a + length (walk n m v c a (suc q) (suc q - 1)) ≤ m * q + m
      below = rw (sub-one (suc q)) (walk_length c a (suc q) q la (omega arith))

  -- a journal of ids of rounds 1 to q, each once, has at most 16 q
  pub journal_length : (j : List ℕ) (q : ℕ) → once j ≡ true → ((y : ℕ) → among j y ≡ true → Named n v q y) → length j ≤ 16 * q
  journal_length j q p h =
      omega (arith, once_span 16 (16 * suc q) j (omega arith) p (λ y e. let N = h y e in (omega (arith, N.low), omega (arith, N.high))))

-- ---- the places that a chain goes through

-- From the place (c, a) by the ids of the list to the place (q, b), of m leaders a round: each id is of the next leader of the round of the last, or of a later
-- round's main leader.
pub data Turns (n m : ℕ) : ℕ → ℕ → List ℕ → ℕ → ℕ → Type 0 where
  stay : {q b : ℕ} → Turns n m q b [] q b
  same : {c a q b : ℕ} {l : List ℕ} → a < m → Turns n m c (suc a) l q b → Turns n m c a (leader_id n c a ∷ l) q b
  next : {c a q b : ℕ} {l : List ℕ} (r : ℕ) → c < r → Turns n m r 1 l q b → Turns n m c a (leader_id n r 0 ∷ l) q b

module _ (n m : ℕ) (v : Records) where
  -- one list after another
  pub turns_append : {c a r x q b : ℕ} {l k : List ℕ} → Turns n m c a l r x → Turns n m r x k q b → Turns n m c a (l ++ k) q b
  turns_append stay t = t
  turns_append (same k s) t = same k (turns_append s t)
  turns_append (next r l s) t = next r l (turns_append s t)

  -- more leaders of a round
  pub turns_more : (r a b : ℕ) → a ≤ b → b ≤ m → Turns n m r a (seats n r a b) r b
  turns_more r a zero l few = let e : a ≡ zero = omega arith in rw (seats_none n r a zero (omega arith), e) stay
  turns_more r a (suc b) l few = go (eq-or-lt_of_le l) (λ k. turns_more r a b k (omega arith))
    where
      go : (a ≡ suc b) ⊎ (a < suc b) → (a ≤ b → Turns n m r a (seats n r a b) r b) → Turns n m r a (seats n r a (suc b)) r (suc b)
      go (inl e) ih = rw (seats_none n r a (suc b) (omega arith), e) stay
      go (inr k) ih = rw (seats_more n r a b (omega arith)) (turns_append (ih (omega arith)) (same few stay))

  -- the first leaders of a later round
  pub turns_later : (c a r b : ℕ) → c < r → zero < b → b ≤ m → Turns n m c a (seats n r 0 b) r b
  turns_later c a r zero l p few = absurd (omega arith)
  turns_later c a r (suc b) l p few = go (which (leb b 0)) (λ k. turns_later c a r b l k (omega arith))
    where
      go : (leb b 0 ≡ true) ⊎ (leb b 0 ≡ false) → (zero < b → Turns n m c a (seats n r 0 b) r b) → Turns n m c a (seats n r 0 (suc b)) r (suc b)
      go (inl e) ih =
          let z : b ≡ 0 = omega (arith, leb-true b 0 e) in
          rw (seats_more n r 0 b (omega arith), z, seats_none n r 0 0 (omega arith)) (next r l stay)
      go (inr e) ih = rw (seats_more n r 0 b (omega arith)) (turns_append (ih (leb-false b 0 e)) (same few stay))

  -- a walk goes on from the last taken by turns
  pub turns_walk : 1 ≤ m → (c a r t : ℕ) → c ≤ t → (s x : ℕ) × (s ≤ t) × Turns n m c a (walk n m v c a r t) s x
  turns_walk lm c a r zero l = (c, a, l, rw (walk_none n m v c a r) stay)
  turns_walk lm c a r (suc t) l = go (eq-or-lt_of_le l) (which (reaches n v r (suc t) 0)) (λ r' l'. turns_walk lm c a r' t l')
    where
      go : (c ≡ suc t) ⊎ (c < suc t) → (reaches n v r (suc t) 0 ≡ true) ⊎ (reaches n v r (suc t) 0 ≡ false)
          → ((r' : ℕ) → c ≤ t → (s x : ℕ) × (s ≤ t) × Turns n m c a (walk n m v c a r' t) s x) → (s x : ℕ) × (s ≤ suc t)
          × Turns n m c a (walk n m v c a r (suc t)) s x
      go (inl e) (inl d) ih = rest (which (leb a (span n m v r (suc t))))
        where
          rest : (leb a (span n m v r (suc t)) ≡ true) ⊎ (leb a (span n m v r (suc t)) ≡ false) → (s x : ℕ) × (s ≤ suc t)
              × Turns n m c a (walk n m v c a r (suc t)) s x
          rest (inl k) = (
            suc t,
            span n m v r (suc t),
            omega arith,
            rw (e, walk_last n m v a r t d)
                (turns_more (suc t) a (span n m v r (suc t)) (leb-true _ _ k) (longest_le m (reaches n v r (suc t)))),
          )
          rest (inr k) = (
            c,
            a,
            l,
            rw (
              e,
              walk_last n m v a r t d,
              seats_none n (suc t) a (span n m v r (suc t))
                  (omega (arith, leb-false a (span n m v r (suc t)) k)),
            ) stay,
          )
      go (inl e) (inr d) ih = (c, a, l, rw (walk_skip n m v c a r t d, walk_stop n m v c a r t (omega arith)) stay)
      go (inr k) (inl d) ih =
          let w = ih (suc t) (omega arith) in (
            suc t,
            span n m v r (suc t),
            omega arith,
            rw (walk_take n m v c a r t k d) (turns_append w.3
                (turns_later w.0 w.1 (suc t) (span n m v r (suc t)) (omega (arith, w.2)) (longest_some m (reaches n v r (suc t)) lm d)
                (longest_le m (reaches n v r (suc t))))),
          )
      go (inr k) (inr d) ih = let w = ih r (omega arith) in (w.0, w.1, omega (arith, w.2), rw (walk_skip n m v c a r t d) w.3)

  -- and a chain by turns from one place to the other: by rising round, and in a round the leaders 0, 1, .. in turn without a gap
  pub turns_chain : 1 ≤ m → (c a q b : ℕ) → Before c a q b → zero < b → b ≤ m → Turns n m c a (chain n m v c a q b) q b
  turns_chain lm c a q b (inl l) p few =
      let w = turns_walk lm c a q (q - 1) (omega arith) in
      rw (chain_some n m v c a q b l) (turns_append w.3 (turns_later w.0 w.1 q b (omega (arith, w.2)) p few))
  turns_chain lm c a q b (inr w) p few = rw (w.0, chain_here n m v q a b) (turns_more q a b w.1 few)

-- what is fresh, by the masks of the history
pub fresh_masks : (n : ℕ) (v : Records) → legal n ≡ true → ValidVertices n v → (j : List ℕ) (x : ℕ) → held v (id_round x) (id_member x) ≡ true
    → fresh n v j x ≡ select id_limit (λ y. not (among j y) &&
    (leb 1 (id_round y) && has (get_or (history_masks n v (id_round x) (id_member x)) (id_round y - 1) 0) (id_member y)))
unfolding fresh
fresh_masks n v g W j x h = select_cong id_limit _ _ (λ y l. ap (λ (b : Bool). not (among j y) && b) (alike y l (which (leb 1 (id_round y)))))
  where
    alike : (y : ℕ) → y < id_limit → (leb 1 (id_round y) ≡ true) ⊎ (leb 1 (id_round y) ≡ false)
        → history n v (id_round x) (id_member x) y ≡
        (leb 1 (id_round y) && has (get_or (history_masks n v (id_round x) (id_member x)) (id_round y - 1) 0) (id_member y))
    alike y l (inl e) =
        rw e (ap (history n v (id_round x) (id_member x)) (sym (id_same y))
        ∙ sym (history_claim n v g W (id_round x) (id_member x) h (id_round y) (id_member y) (leb-true 1 (id_round y) e) (omega arith) (omega arith)))
    alike y l (inr e) = rw e (⊎_elim
        (λ d. absurd (omega (arith, leb-false 1 (id_round y) e, (history_held n v g W (id_round x) (id_member x) y h d).low))) (λ d. d)
        (which (history n v (id_round x) (id_member x) y)))
