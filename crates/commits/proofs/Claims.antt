-- The claims that the commits end when none is committable, and that either sighting alone is enough. Assumes nothing.
use mathlib.Core.Path.{◌≡◌, refl, sym, ◌∙◌}
use mathlib.Core.Bool.{true, false}
use mathlib.Core.Logic.{◌⊎◌, inl, inr, ⊎_elim}
use mathlib.Core.List.{List}
use Prim.Native.Nat.{ℕ, zero, suc, ◌+◌, ◌≤◌}
use native.Mathlib.Omega.{arith}
use Rattle.record.specs.Members.{rounds, leader}
use Rattle.record.proofs.Booleans.{which, never}
use Rattle.record.proofs.Below.{least_below}
use Rattle.record.proofs.Masks.{leader_lt}
use Rattle.protocol.specs.Dag.{held, votes, enough}
use Rattle.protocol.proofs.Commit.{by_either}
use Rattle.replica.specs.State.{member_count, vertices, firsts, dag}
use Rattle.replica.proofs.Formed.{formed}
use Rattle.commits.specs.Commit.{committable, grows, is_ready, commit_once, commit_up_to, most_commits}
use Rattle.commits.specs.Claims.{NoneCommittable, CommitsEnd, ReadyAlone, EitherAlone}
use Rattle.commits.specs.Standing.{Standing, Going}
use Rattle.commits.proofs.Ground.{standing, going}
use Rattle.commits.proofs.Repeating.{reach, committable_ready, once, going_on, reach_rises, reach_most, is_growing, is_lowest}
use Rattle.commits.proofs.Steps.{first_quorum, held_word, committable_at}

-- ---- again until none is committable

-- with as many turns as leaders are left, none is committable at the end
none_left : (k : ℕ) (l : List ℕ) → Going l → most_commits ≤ k + reach l → is_ready (commit_up_to l k) ≡ false
unfolding commit_up_to
none_left zero l G h = ⊎_elim
    (λ e. let w = once l G.high e in absurd (omega (arith, reach_most l G w.round w.seat w.ready)))
    (λ e. e) (which (is_ready l))
none_left (suc k) l G h = go (which (is_ready l)) (none_left k (commit_once l))
  where
    go : (is_ready l ≡ true) ⊎ (is_ready l ≡ false)
        → (Going (commit_once l) → most_commits ≤ k + reach (commit_once l) → is_ready (commit_up_to (commit_once l) k) ≡ false)
        → is_ready (commit_up_to l (suc k)) ≡ false
    go (inl e) ih =
        let w = once l G.high e in
        let G' = going_on l G w.round w.seat w.ready in
        let rises = reach_rises l G w.round w.seat w.ready in
        rw e (ih (rw w.is G') (rw w.is (omega arith)))
    go (inr e) ih = rw e e

none_ready : (l : List ℕ) → is_ready l ≡ false → NoneCommittable l
none_ready l h = record {
  main = λ q. ⊎_elim
      (λ e. let low = (committable_ready l q e).high in never (is_lowest l (omega (arith, least_below rounds (committable l) q (omega arith) e))) h)
      (λ e. e) (which (committable l q));
  next = ⊎_elim (λ e. never (is_growing l e) h) (λ e. e) (which (grows l));
}

pub commits_end : CommitsEnd
commits_end l size ok = none_ready _ (none_left most_commits l (going l (formed l size ok)) (omega arith))

-- ---- either sighting

module _ (l : List ℕ) (S : Standing l) (q : ℕ) (w : ReadyAlone l q) where
  abbrev n : ℕ
  n = member_count l

  -- the leader's vertex is held in the DAG of the state
  led : held (vertices l) q (leader n q) ≡ true
  led =
      let small = leader_lt n q (omega (arith, S.low)) in
      sym (held_word l S q (leader n q) (omega (arith, w.above)) (omega (arith, w.high)) (omega (arith, S.high))) ∙ w.led

  -- and a quorum of one kind votes for it there
  quorum_of_one : (enough n (λ p. votes n q 0 (firsts l (suc q) p)) ≡ true) ⊎ (enough n (λ p. votes n q 0 (vertices l (suc q) p)) ≡ true)
  quorum_of_one = ⊎_elim (λ e. inl (sym (first_quorum l S n q refl (omega (arith, w.above)) w.high) ∙ e)) (λ e. inr e) w.alone

  ready : committable l q ≡ true
  ready = sym (committable_at l n q refl w.above w.high) ∙ by_either n (dag l) q 0 led quorum_of_one

pub either_alone : EitherAlone
either_alone l size ok = ready l (standing l (formed l size ok))
