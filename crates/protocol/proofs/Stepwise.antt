-- A state's lists follow the DAG's: each commit keeps them at a settled place, and when none is ready that place is the last one.
use mathlib.Core.Path.{◌≡◌, refl}
use mathlib.Core.Bool.{Bool, true, false, ◌&&◌}
use mathlib.Core.Logic.{◌⊎◌, inl, inr, ⊎_elim}
use mathlib.Core.List.{List, [], ◌∷◌}
use Prim.Native.Nat.{ℕ, zero, suc, ◌+◌, ◌*◌, ◌≤◌, ◌<◌}
use native.Mathlib.Nat.{mul-suc, mul-le-mul_left}
use native.Mathlib.Omega.{arith}
use lib.Dec.{ltb}
use borrow.Author.Tests.{ltb-true, ltb-false, lt-ltb}
use Rattle.record.specs.Below.{least}
use Rattle.record.specs.Members.{rounds, voted_rounds}
use Rattle.record.proofs.Booleans.{which, never, and_left, and_right, and_both}
use Rattle.record.proofs.Below.{least_sat, least_off}
use Rattle.protocol.specs.Dag.{Dag, backed}
use Rattle.protocol.specs.Premises.{DagPremises}
use Rattle.protocol.specs.Stepwise.{Progress, opened, grows, lowest, commit, commit_up_to, commit_all, Rising, final, follow, StepwiseClaim}
use Rattle.protocol.proofs.Commit.{settled_low}
use Rattle.protocol.proofs.Tracking.{settled_main, settled_next, At, at_open, at_leaders, at_journal, at_commit, at_grow}

-- the lists are those of its place in d
abbrev pub Stands : (n m : ℕ) → Dag → Progress → Type 0
Stands n m d s = At n m d s.round s.taken s.leader_list s.journal_list

-- nothing is ready
pub record Dry (n m : ℕ) (d : Dag) (s : Progress) : Type 0 where
  pub full : zero < s.round → s.taken < m → backed n d s.round s.taken ≡ false
  pub none : (q : ℕ) → s.round < q → q ≤ voted_rounds → backed n d q 0 ≡ false

-- the commits have come to their end
record Ended (n m : ℕ) (d : Dag) (s : Progress) : Type 0 where
  stands : Stands n m d s
  dry : Dry n m d s
  high : s.round ≤ voted_rounds

module _ (n m : ℕ) (d : Dag) (s : Progress) where
  pub grows_in : grows n m d s ≡ true → (zero < s.round) × (s.taken < m) × (backed n d s.round s.taken ≡ true)
  unfolding grows
  grows_in e =
      let r : (ltb s.taken m && backed n d s.round s.taken) ≡ true = and_right (ltb 0 s.round) _ e in
      (ltb-true 0 s.round (and_left _ _ e), ltb-true s.taken m (and_left _ _ r), and_right (ltb s.taken m) _ r)

  pub grows_off : grows n m d s ≡ false → zero < s.round → s.taken < m → backed n d s.round s.taken ≡ false
  unfolding grows
  grows_off e l k = ⊎_elim
      (λ h. never (and_both (lt-ltb 0 s.round l) (and_both (lt-ltb s.taken m k) h)) e)
      (λ h. h)
      (which (backed n d s.round s.taken))

  pub lowest_in : lowest n m d s < rounds → (s.round < lowest n m d s) × (backed n d (lowest n m d s) 0 ≡ true)
  unfolding lowest
  lowest_in l =
      let t : ℕ → Bool = λ q. ltb s.round q && backed n d q 0 in
      let e : (ltb s.round (least rounds t) && backed n d (least rounds t) 0) ≡ true = least_sat rounds t l in
      (ltb-true s.round (least rounds t) (and_left _ _ e), and_right (ltb s.round (least rounds t)) _ e)

  pub lowest_off : rounds ≤ lowest n m d s → (q : ℕ) → s.round < q → q ≤ voted_rounds → backed n d q 0 ≡ false
  unfolding lowest
  lowest_off l q k h =
      let t : ℕ → Bool = λ q. ltb s.round q && backed n d q 0 in
      ⊎_elim (λ e. never (and_both (lt-ltb s.round q k) e) (least_off rounds t q (omega arith))) (λ e. e) (which (backed n d q 0))

module _ (n m : ℕ) {I : Type 0} (dag : I → Dag) (honest : ℕ → Bool) (P : DagPremises n m dag honest) where
  module _ (i : I) where
    -- one commit
    step_next : (s : Progress) → Stands n m (dag i) s → grows n m (dag i) s ≡ true → Stands n m (dag i) (commit n m (dag i) s s.round (suc s.taken))
    unfolding commit
    step_next s A e =
        let g = grows_in n m (dag i) s e in
        at_commit n m dag honest P i s.round s.taken s.round (suc s.taken) _ _ A (inr (refl, omega arith))
        (settled_next n m (dag i) s.round s.taken g.0 A.settled g.1 g.2)

    step_main : (s : Progress) → Stands n m (dag i) s → lowest n m (dag i) s < rounds → Stands n m (dag i) (commit n m (dag i) s (lowest n m (dag i) s) 1)
    unfolding commit
    step_main s A l =
        let g = lowest_in n m (dag i) s l in
        at_commit n m dag honest P i s.round s.taken (lowest n m (dag i) s) 1 _ _ A (inl g.0)
        (settled_main n m (dag i) (lowest n m (dag i) s) P.main_leader (omega (arith, g.0)) g.1)

    -- as many commits as there are leaders left come to where nothing is ready
    commits : (k : ℕ) (s : Progress) → Stands n m (dag i) s → s.round ≤ voted_rounds → m * rounds ≤ m * s.round + s.taken + k
        → Ended n m (dag i) (commit_up_to n m (dag i) s k)
    unfolding commit_up_to
    commits zero s A h b =
        let a : s.taken ≤ m = settled_low n m (dag i) s.round s.taken A.settled in
        record {
          stands = A;
          dry = record {
            full = λ l k. absurd (omega (arith, mul-le-mul_left m h));
            none = λ q l k. absurd (omega (arith, mul-le-mul_left m (below_top q l k), P.main_leader));
          };
          high = h;
        }
      where
        below_top : (q : ℕ) → s.round < q → q ≤ voted_rounds → s.round ≤ 30
        below_top q l k = omega arith
    commits (suc k) s A h b = go (which (grows n m (dag i) s)) (which (ltb (lowest n m (dag i) s) rounds)) (commits k)
      where
        go : (grows n m (dag i) s ≡ true) ⊎ (grows n m (dag i) s ≡ false)
            → (ltb (lowest n m (dag i) s) rounds ≡ true) ⊎ (ltb (lowest n m (dag i) s) rounds ≡ false)
            → ((s : Progress) → Stands n m (dag i) s → s.round ≤ voted_rounds → m * rounds ≤ m * s.round + s.taken + k
            → Ended n m (dag i) (commit_up_to n m (dag i) s k))
            → Ended n m (dag i) (commit_up_to n m (dag i) s (suc k))
        go (inl e) f ih = rw e (ih (commit n m (dag i) s s.round (suc s.taken)) (step_next s A e) (unfold commit in h) (unfold commit in omega arith))
        go (inr e) (inl f) ih =
            let l : lowest n m (dag i) s < rounds = ltb-true _ _ f in
            let a : s.taken ≤ m = settled_low n m (dag i) s.round s.taken A.settled in
            let g : s.round < lowest n m (dag i) s = (lowest_in n m (dag i) s l).0 in
            let p : m * suc s.round ≤ m * lowest n m (dag i) s = mul-le-mul_left m g in
            rw (e, f)
            (ih (commit n m (dag i) s (lowest n m (dag i) s) 1) (step_main s A l) (unfold commit in omega arith)
            (unfold commit in omega (arith, p, mul-suc m s.round)))
        go (inr e) (inr f) ih =
            rw (e, f) (record {
              stands = A;
              dry = record { full = grows_off n m (dag i) s e; none = lowest_off n m (dag i) s (ltb-false (lowest n m (dag i) s) rounds f) };
              high = h;
            })

  -- after the commits of each DAG the lists stand at a settled place of the last one, and nothing is ready
  following : (i : I) (js : List I) (s : Progress) → Ended n m (dag i) s → Rising n m dag i js
      → Ended n m (dag (final n m dag i js)) (follow n m dag s js)
  unfolding follow final
  following i [] s E R = E
  following i (j ∷ js) s E R =
      following j js (commit_all n m (dag j) s)
      (commits j (m * rounds) s (at_grow n m dag honest P i j s.round s.taken _ _ R.0 E.stands) E.high (omega arith)) R.1

-- The claim.
pub stepwise : StepwiseClaim
unfolding follow
stepwise n m I dag honest P i js R =
    let first = commits n m dag honest P i (m * rounds) opened (at_open n m (dag i)) (omega arith) (omega arith) in
    let w = following n m dag honest P i js (commit_all n m (dag i) opened) first R in (
      at_leaders n m _ _ _ _ _ w.stands P.main_leader w.high w.dry.full w.dry.none,
      at_journal n m _ _ _ _ _ w.stands P.main_leader w.high w.dry.full w.dry.none,
    )
