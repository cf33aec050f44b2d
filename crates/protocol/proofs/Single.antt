-- m = 1 gives the lists of one leader a round.
use mathlib.Core.Path.{◌≡◌, refl, sym, ap, ap₂, ◌∙◌}
use mathlib.Core.Bool.{Bool, true, false, not, ◌&&◌}
use mathlib.Core.Logic.{◌⊎◌, inl, inr, ⊎_elim}
use mathlib.Core.List.{List, [], ◌∷◌, ◌++◌, map}
use Prim.Native.Nat.{ℕ, zero, suc, ◌-◌, ◌≤◌, ◌<◌}
use native.Mathlib.Nat.{eq-zero-or-pos, eq-or-lt_of_le}
use native.Mathlib.Omega.{arith}
use lib.Dec.{leb}
use borrow.Author.Tests.{leb-true, leb-false, lt-leb, ne_eqb}
use Rattle.record.specs.Members.{legal, leader, id_of, id_limit, voted_rounds, slots}
use Rattle.record.proofs.Booleans.{which, cond_cong}
use Rattle.record.proofs.Below.{select_cong}
use Rattle.record.proofs.Masks.{legal_range, leader_lt}
use Rattle.protocol.specs.Dag.{Records, Dag, voter, backed, last_up_to, last, direct}
use Rattle.protocol.specs.Paths.{history, reaches}
use Rattle.protocol.specs.Chain.{seats, span, walk, chain}
use Rattle.protocol.specs.Journal.{among, fresh, extend}
use Rattle.protocol.specs.Single.{one_committed, one_last_up_to, one_walk, one_chain, one_leaders, one_fresh, one_extend, one_taken, SingleClaim}
use Rattle.protocol.specs.Single.{SingleCommitClaim}
use Rattle.record.proofs.Longest.{longest_le, longest_one}
use Rattle.protocol.proofs.Lists.{map-append}
use Rattle.record.proofs.Rounds.{id_round_lem, id_member_lem}
use Rattle.protocol.proofs.Commit.{direct_le, last_settled}
use Rattle.protocol.proofs.Chain.{seats_none, seats_more, walk_none, walk_stop, walk_skip, walk_take, walk_last, chain_here, chain_some}

module _ (n : ℕ) where
  -- the id of the leader's vertex of round r
  abbrev one : ℕ → ℕ
  one r = id_of r (leader n r)

  seats_one : (r : ℕ) → seats n r 0 1 ≡ one r ∷ []
  seats_one r = seats_more n r 0 0 (omega arith) ∙ ap (λ (l : List ℕ). l ++ one r ∷ []) (seats_none n r 0 0 (omega arith))

  module _ (v : Records) where
    -- where the one leader of round c, if it is not 0, is the last taken
    walk_one : (c r t : ℕ) → walk n 1 v c (one_taken c) r t ≡ map one (one_walk n v c r t)
    unfolding one_walk
    walk_one c r zero = walk_none n 1 v c (one_taken c) r
    walk_one c r (suc t) = go (which (leb (suc t) c)) (which (reaches n v r (suc t) 0)) (walk_one c (suc t) t) (walk_one c r t)
      where
        -- of round c itself nothing is left
        over : suc t ≤ c → (reaches n v r (suc t) 0 ≡ true) ⊎ (reaches n v r (suc t) 0 ≡ false) → walk n 1 v c (one_taken c) r (suc t) ≡ []
        over l (inr e) = walk_skip n 1 v c (one_taken c) r t e ∙ walk_stop n 1 v c (one_taken c) r t (omega arith)
        over l (inl e) = ⊎_elim
            (λ (d : suc t ≡ c). here d)
            (λ d. walk_stop n 1 v c (one_taken c) r (suc t) d)
            (eq-or-lt_of_le l)
          where
            here : suc t ≡ c → walk n 1 v c (one_taken c) r (suc t) ≡ []
            here d =
                rw (← d) (walk_last n 1 v (one_taken (suc t)) r t e
                ∙ seats_none n (suc t) (one_taken (suc t)) (span n 1 v r (suc t))
                (rw (ne_eqb (suc t) 0 (λ s. omega arith)) (longest_le 1 (reaches n v r (suc t)))))

        go : (leb (suc t) c ≡ true) ⊎ (leb (suc t) c ≡ false) → (reaches n v r (suc t) 0 ≡ true) ⊎ (reaches n v r (suc t) 0 ≡ false)
            → walk n 1 v c (one_taken c) (suc t) t ≡ map one (one_walk n v c (suc t) t) → walk n 1 v c (one_taken c) r t ≡ map one (one_walk n v c r t)
            → walk n 1 v c (one_taken c) r (suc t) ≡ map one (one_walk n v c r (suc t))
        go (inl l) e taken left = rw l (over (leb-true (suc t) c l) e)
        go (inr l) (inl e) taken left =
            rw (l, e)
            (walk_take n 1 v c (one_taken c) r t (leb-false (suc t) c l) e
            ∙ ap₂ (λ (l : List ℕ) (k : List ℕ). l ++ k) taken (ap (seats n (suc t) 0) (longest_one (reaches n v r (suc t)) e) ∙ seats_one (suc t))
            ∙ sym (map-append one (one_walk n v c (suc t) t) (suc t ∷ [])))
        go (inr l) (inr e) taken left = rw (l, e) (walk_skip n 1 v c (one_taken c) r t e ∙ left)

    pub chain_one : (c q : ℕ) → c < q → chain n 1 v c (one_taken c) q 1 ≡ map one (one_chain n v c q)
    unfolding one_chain
    chain_one c q l =
        rw (lt-leb q c l)
        (chain_some n 1 v c (one_taken c) q 1 l ∙ ap₂ (λ (x : List ℕ) (y : List ℕ). x ++ y) (walk_one c q (q - 1)) (seats_one q)
        ∙ sym (map-append one (one_walk n v c q (q - 1)) (q ∷ [])))

    chain_zero : chain n 1 v 0 0 0 0 ≡ map one (one_chain n v 0 0)
    unfolding one_chain
    chain_zero = chain_here n 1 v 0 0 0 ∙ seats_none n 0 0 0 (omega arith)

    fresh_one : legal n ≡ true → (j : List ℕ) (r : ℕ) → fresh n v j (one r) ≡ one_fresh n v j r
    unfolding fresh one_fresh
    fresh_one g j r =
        let L = legal_range n g in
        let l : leader n r < slots = omega (arith, leader_lt n r (omega (arith, L.low)), L.high) in
        select_cong id_limit _ _ (λ y _. ap (λ (b : Bool). not (among j y) && b)
        (ap₂ (λ (s : ℕ) (p : ℕ). history n v s p y) (id_round_lem r (leader n r) l) (id_member_lem r (leader n r) l)))

    extend_one : legal n ≡ true → (j rs : List ℕ) → extend n v j (map one rs) ≡ one_extend n v j rs
    unfolding extend one_extend
    extend_one g j [] = refl
    extend_one g j (r ∷ rs) = ap (λ (l : List ℕ). extend n v (j ++ l) (map one rs)) (fresh_one g j r) ∙ extend_one g (j ++ one_fresh n v j r) rs

  module _ (d : Dag) where
    backed_one : (q : ℕ) → backed n d q 0 ≡ one_committed n d q
    unfolding backed voter one_committed
    backed_one q =
        refl

    last_one : (k : ℕ) → last_up_to n d k ≡ one_last_up_to n d k
    unfolding last_up_to one_last_up_to
    last_one zero = refl
    last_one (suc k) = cond_cong (backed_one (suc k)) (λ e. refl) (last_one k)

    leaders_one : chain n 1 d.vertex 0 0 (last n d) (direct n 1 d (last n d)) ≡ one_leaders n d
    leaders_one = ⊎_elim (λ e. none e) (λ l. some l) (eq-zero-or-pos (last n d))
      where
        none : last n d ≡ 0 → chain n 1 d.vertex 0 0 (last n d) (direct n 1 d (last n d)) ≡ one_leaders n d
        none e = rw (← last_one voted_rounds, e) (unfold direct in chain_zero d.vertex)

        some : zero < last n d → chain n 1 d.vertex 0 0 (last n d) (direct n 1 d (last n d)) ≡ one_leaders n d
        some l =
            let b : direct n 1 d (last n d) ≡ 1 = omega (arith, direct_le n 1 d (last n d), (last_settled n 1 d (omega arith)).some l) in
            rw (b, ← last_one voted_rounds) (chain_one d.vertex 0 (last n d) l)

pub single : SingleClaim
single n g d =
    let e = leaders_one n d in
    (e, ap (extend n d.vertex []) e ∙ extend_one n d.vertex g [] (one_chain n d.vertex 0 (one_last_up_to n d voted_rounds)))

pub single_commit : SingleCommitClaim
single_commit = chain_one
