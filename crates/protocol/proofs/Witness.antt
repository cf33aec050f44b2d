-- The witness: its premises by tests over the lists of records, and the rest by computation.
use mathlib.Core.Path.{◌≡◌, refl, ap, ◌∙◌}
use mathlib.Core.Bool.{Bool, true, false, not, ◌&&◌, false≢true}
use mathlib.Core.Logic.{◌⊎◌, inl, inr}
use mathlib.Core.List.{List, [], ◌∷◌, ◌++◌}
use Prim.Native.Nat.{ℕ, zero, suc, ◌+◌, ◌-◌, ◌≤◌, ◌<◌}
use native.Mathlib.Numerals.{unary_clauses}
use native.Mathlib.Omega.{arith}
use lib.Dec.{eqb, leb, ltb, lit≤}
use lib.ListN.{length, get_or}
use borrow.Author.Tests.{leb-true, lt-ltb, le-leb, ltb-true, eqb-true, eq-eqb, not-true}
use Rattle.record.specs.Below.{all, any, count, select, least, longest}
use Rattle.record.specs.Members.{legal, has, leader_at, leader, id_round, id_member, rounds}
use Rattle.record.specs.Layout.{round_of, source_of, body_of, strong_of, timeouts_of, no_votes_of, no_votes_for, weak_count_of, weak_of, body_size}
use Rattle.record.specs.Admitted.{Admitted, Certified}
use Rattle.record.proofs.Booleans.{which, never, and_left, and_right, and_both, imp, imp_elim}
use Rattle.record.proofs.Below.{all_elim}
use Rattle.record.proofs.Masks.{has_bound, has_zero}
use Rattle.protocol.specs.Dag.{records_of, present, held, voter, backed, last_up_to, direct}
use Rattle.protocol.specs.Paths.{path}
use Rattle.protocol.specs.Chain.{seats, walk, chain, leaders}
use Rattle.protocol.specs.Journal.{among, fresh, extend}
use Rattle.protocol.specs.Premises.{ValidVertices}
use Rattle.protocol.specs.Masks.{join, join_weak, join_parents, join_round, fill, reach_masks}
use Rattle.protocol.specs.Witness.{early, late, first_of, vertex_of, witness_dag, honest, DagWitness}
use Rattle.protocol.proofs.Paths.{parent_present, no_vote_present, weak_present}
use Rattle.protocol.proofs.Laws.{fresh_masks}
use Rattle.protocol.proofs.Lists.{same, same_eq}

-- ---- tests

-- every record of the list passes the test of its round, source and body
every : (ℕ → ℕ → List ℕ → Bool) → List (List ℕ) → Bool
every t [] = true
every t (x ∷ l) = t (round_of x) (source_of x) (body_of x) && every t l

every_found : (t : ℕ → ℕ → List ℕ → Bool) (l : List (List ℕ)) → every t l ≡ true
    → (r p : ℕ) → present (records_of l r p) ≡ true → t r p (records_of l r p) ≡ true
unfolding every records_of
every_found t [] e r p h = absurd (false≢true h)
every_found t (x ∷ l) e r p h = go (which (eqb (round_of x) r && eqb (source_of x) p))
    (every_found t l (and_right (t (round_of x) (source_of x) (body_of x)) _ e) r p)
  where
    go : ((eqb (round_of x) r && eqb (source_of x) p) ≡ true) ⊎ ((eqb (round_of x) r && eqb (source_of x) p) ≡ false)
        → (present (records_of l r p) ≡ true → t r p (records_of l r p) ≡ true) → t r p (records_of (x ∷ l) r p) ≡ true
    go (inl d) ih =
        rw (d, ← eqb-true (round_of x) r (and_left _ _ d), ← eqb-true (source_of x) p (and_right (eqb (round_of x) r) _ d))
        (and_left (t (round_of x) (source_of x) (body_of x)) _ e)
    go (inr d) ih = rw d (ih (rw d at h))

-- ---- admitted records of four members with at most one weak id

quorum_in : ℕ → Bool
quorum_in m = leb 3 (count 4 (has m))

lacks : ℕ → List ℕ → Bool
lacks r b = leb 2 r && not (has (strong_of b) (leader 4 (r - 1)))

-- the tests of a record
fits : ℕ → ℕ → List ℕ → List Bool
fits r p b =
    eqb (length b) body_size
    ∷ leb 1 r
    ∷ leb r rounds
    ∷ ltb p 4
    ∷ ltb (strong_of b) 16
    ∷ ltb (timeouts_of b) 16
    ∷ ltb (no_votes_of b) 16
    ∷ imp (eqb r 1) (eqb (strong_of b) 0)
    ∷ imp (leb 2 r) (quorum_in (strong_of b))
    ∷ imp (lacks r b) (quorum_in (timeouts_of b))
    ∷ imp (lacks r b && eqb p (leader 4 r)) (quorum_in (no_votes_of b))
    ∷ leb (weak_count_of b) 1
    ∷ imp (eqb (weak_count_of b) 1) (ltb (id_member (weak_of b 0)) 4)
    ∷ imp (eqb (weak_count_of b) 1) (leb 1 (id_round (weak_of b 0)))
    ∷ imp (eqb (weak_count_of b) 1) (leb (id_round (weak_of b 0) + 2) r)
    ∷ []

both : List Bool → Bool
both [] = true
both (b ∷ l) = b && both l

pass : (l : List Bool) → both l ≡ true → (i : ℕ) → get_or l i true ≡ true
unfolding both
pass [] e i = refl
pass (b ∷ l) e zero = and_left b _ e
pass (b ∷ l) e (suc i) = pass l (and_right b _ e) i

fits_admitted : (r p : ℕ) (b : List ℕ) → both (fits r p b) ≡ true → Admitted 4 r p b
unfolding fits quorum_in lacks
fits_admitted r p b e = record {
  size = eqb-true (length b) body_size (pass t e 0);
  round_low = leb-true 1 r (pass t e 1);
  round_high = leb-true r rounds (pass t e 2);
  source_low = ltb-true p 4 (pass t e 3);
  strong_low = ltb-true (strong_of b) 16 (pass t e 4);
  timeouts_low = ltb-true (timeouts_of b) 16 (pass t e 5);
  no_votes_low = ltb-true (no_votes_of b) 16 (pass t e 6);
  strong_first = λ h. eqb-true (strong_of b) 0 (imp_elim _ _ (pass t e 7) (eq-eqb r 1 h));
  strong_later = λ h. leb-true 3 _ (imp_elim _ _ (pass t e 8) (le-leb 2 r h));
  timeout_quorum = λ h d. leb-true 3 _ (imp_elim _ _ (pass t e 9) (and_both (le-leb 2 r h) (ap not d)));
  weak_few = few;
  weak_member = λ i k l. ltb-true _ 4 (rw (first i l) (imp_elim _ _ (pass t e 12) (one i l)));
  weak_low = λ i k l. leb-true 1 _ (rw (first i l) (imp_elim _ _ (pass t e 13) (one i l)));
  weak_high = λ i k l. leb-true _ r (rw (first i l) (imp_elim _ _ (pass t e 14) (one i l)));
  weak_rising = λ i k l. absurd (omega (arith, few));
}
  where
    t : List Bool
    t = fits r p b

    few : weak_count_of b ≤ 1
    few = leb-true (weak_count_of b) 1 (pass t e 11)

    first : (i : ℕ) → i < weak_count_of b → i ≡ 0
    first i l = omega (arith, few)

    one : (i : ℕ) → i < weak_count_of b → eqb (weak_count_of b) 1 ≡ true
    one i l = eq-eqb (weak_count_of b) 1 (omega (arith, few))

fits_certified : (r p : ℕ) (b : List ℕ) → both (fits r p b) ≡ true → Certified 4 1 r p b
unfolding fits quorum_in lacks no_votes_for
fits_certified r p b e = record { no_vote_quorum = λ i l. main i (zero_of i l) }
  where
    zero_of : (i : ℕ) → i < 1 → i ≡ 0
    zero_of i l = omega arith

    main : (i : ℕ) → i ≡ 0 → 2 ≤ r → has (strong_of b) (leader_at 4 (r - 1) i) ≡ false → p ≡ leader 4 r → 3 ≤ count 4 (has (no_votes_for b i))
    main i z h d s =
        rw z (leb-true 3 _ (imp_elim _ _ (pass (fits r p b) e 10) (and_both (and_both (le-leb 2 r h) (ap not (rw z at d))) (eq-eqb p (leader 4 r) s))))

-- ---- the premises

module _ (l : List (List ℕ)) where
  -- the record is admitted and its parents are in the list
  kept : ℕ → ℕ → List ℕ → Bool
  kept r p b =
      both (fits r p b)
      && (all 4 (λ m. imp (has (strong_of b) m) (held (records_of l) (r - 1) m))
      && all 1 (λ i. imp (ltb i (weak_count_of b)) (held (records_of l) (id_round (weak_of b i)) (id_member (weak_of b i)))))

  kept_formed : every kept l ≡ true → ValidVertices 4 (records_of l)
  unfolding kept
  kept_formed e = record {
    admitted = ok;
    strong_held = λ r p m s.
        let h = parent_present _ m s in
        let k : m < 4 = has_bound 4 (strong_of (records_of l r p)) m (ok r p h).strong_low s in
        imp_elim _ _ (all_elim 4 _ (and_left _ _ (rest r p h)) m k) s;
    weak_held = λ r p i c.
        let h = weak_present _ i c in
        imp_elim _ _ (all_elim 1 _ (and_right (all 4 (λ m. imp (has (strong_of (records_of l r p)) m) (held (records_of l) (r - 1) m))) _ (rest r p h)) i
        (omega (arith, (ok r p h).weak_few)))
        (lt-ltb i _ c);
  }
    where
      ok : (r p : ℕ) → held (records_of l) r p ≡ true → Admitted 4 r p (records_of l r p)
      ok r p h = fits_admitted r p _ (and_left (both (fits r p (records_of l r p))) _ (every_found kept l e r p h))

      rest : (r p : ℕ) → held (records_of l) r p ≡ true
          → (all 4 (λ m. imp (has (strong_of (records_of l r p)) m) (held (records_of l) (r - 1) m))
          && all 1 (λ i. imp (ltb i (weak_count_of (records_of l r p)))
          (held (records_of l) (id_round (weak_of (records_of l r p) i)) (id_member (weak_of (records_of l r p) i))))) ≡ true
      rest r p h = and_right (both (fits r p (records_of l r p))) _ (every_found kept l e r p h)

  kept_certified : every kept l ≡ true → (r p : ℕ) → held (records_of l) r p ≡ true → Certified 4 1 r p (records_of l r p)
  unfolding kept
  kept_certified e r p h = fits_certified r p _ (and_left (both (fits r p (records_of l r p))) _ (every_found kept l e r p h))

formed : (i : Bool) → ValidVertices 4 (witness_dag i).vertex
unfolding witness_dag records_of early late vertex_of every kept both fits quorum_in lacks leader_at has count all strong_of timeouts_of no_votes_of
    weak_count_of weak_of
formed true = kept_formed (vertex_of true) refl
formed false = kept_formed (vertex_of false) refl

-- the body is that of the vertex of its round and member, if there is one
shared : Bool → ℕ → ℕ → List ℕ → Bool
shared j r p b = imp (held (witness_dag j).vertex r p) (same b ((witness_dag j).vertex r p))

shared_same : (j : Bool) (r p : ℕ) (b : List ℕ) → shared j r p b ≡ true → held (witness_dag j).vertex r p ≡ true → b ≡ (witness_dag j).vertex r p
unfolding shared
shared_same j r p b e h = same_eq _ _ (imp_elim (held (witness_dag j).vertex r p) _ e h)

all_shared : (i j : Bool) → every (shared j) (vertex_of i) ≡ true
unfolding witness_dag records_of early late vertex_of every shared same
all_shared true true = refl
all_shared true false = refl
all_shared false true = refl
all_shared false false = refl

one_vertex : (i j : Bool) (r p : ℕ) → held (witness_dag i).vertex r p ≡ true → held (witness_dag j).vertex r p ≡ true
    → (witness_dag i).vertex r p ≡ (witness_dag j).vertex r p
unfolding witness_dag
one_vertex i j r p h = shared_same j r p _ (every_found (shared j) (vertex_of i) (all_shared i j) r p h)

-- a first message of an honest member is its vertex
told : Bool → ℕ → ℕ → List ℕ → Bool
told j r p b = imp (honest p) (shared j r p b)

all_told : (i j : Bool) → every (told j) (first_of i) ≡ true
unfolding witness_dag records_of early late first_of vertex_of every told shared same
all_told true true = refl
all_told true false = refl
all_told false true = refl
all_told false false = refl

one_record : (i j : Bool) (r p : ℕ) → honest p ≡ true → present ((witness_dag i).first r p) ≡ true → held (witness_dag j).vertex r p ≡ true
    → (witness_dag i).first r p ≡ (witness_dag j).vertex r p
unfolding witness_dag told
one_record i j r p g h = shared_same j r p _ (imp_elim (honest p) _ (every_found (told j) (first_of i) (all_told i j) r p h) g)

-- no honest member of the record's no-vote mask is a voter
apart : Bool → ℕ → ℕ → List ℕ → Bool
apart i r p b = all 4 (λ q. imp (has (no_votes_of b) q) (imp (honest q) (not (voter 4 (witness_dag i) (r - 1) 0 q))))

all_apart : (i j : Bool) → every (apart i) (vertex_of j) ≡ true
unfolding witness_dag records_of early late first_of vertex_of every apart voter all has leader_at strong_of no_votes_of
all_apart true true = refl
all_apart true false = refl
all_apart false true = refl
all_apart false false = refl

main_both : (i j : Bool) (r p m : ℕ) → honest p ≡ true → voter 4 (witness_dag i) r 0 p ≡ true
    → has (no_votes_of ((witness_dag j).vertex (suc r) m)) p ≡ true → ⊥
unfolding apart witness_dag
main_both i j r p m g v s =
    let h : present (records_of (vertex_of j) (suc r) m) ≡ true = unfold no_votes_for in no_vote_present _ 0 p s in
    let k : p < 4 = has_bound 4 _ p ((formed j).admitted (suc r) m h).no_votes_low s in
    let t = all_elim 4 (λ q. imp (has (no_votes_of (records_of (vertex_of j) (suc r) m)) q) (imp (honest q) (not (voter 4 (witness_dag i) (suc r - 1) 0 q))))
    (every_found (apart i) (vertex_of j) (all_apart i j) (suc r) m h) p k in
    let u : not (voter 4 (witness_dag i) r 0 p) ≡ true = simp unary_clauses at (imp_elim (honest p) _ (imp_elim _ _ t s) g) in
    never v (not-true _ u)

certified : (i : Bool) (r p : ℕ) → held (witness_dag i).vertex r p ≡ true → Certified 4 1 r p ((witness_dag i).vertex r p)
unfolding witness_dag records_of early late vertex_of every kept both fits quorum_in lacks leader_at has count all strong_of timeouts_of no_votes_of
    weak_count_of weak_of
certified true = kept_certified (vertex_of true) refl
certified false = kept_certified (vertex_of false) refl

-- no record has a mask against the second leader of the round before, and every main leader's names that leader
second : ℕ → ℕ → List ℕ → Bool
second r p b = eqb (no_votes_for b 1) 0 && imp (leb 2 r && eqb p (leader 4 r)) (has (strong_of b) (leader_at 4 (r - 1) 1))

all_second : (i : Bool) → every second (vertex_of i) ≡ true
unfolding early late vertex_of every second no_votes_for leader_at has strong_of
all_second true = refl
all_second false = refl

seconds : (i : Bool) (r p : ℕ) → held (witness_dag i).vertex r p ≡ true → second r p ((witness_dag i).vertex r p) ≡ true
unfolding witness_dag
seconds i = every_found second (vertex_of i) (all_second i)

second_certified : (i : Bool) (r p : ℕ) → held (witness_dag i).vertex r p ≡ true → Certified 4 2 r p ((witness_dag i).vertex r p)
unfolding second
second_certified i r p h = record { no_vote_quorum = against }
  where
    b : List ℕ
    b = (witness_dag i).vertex r p

    against : (x : ℕ) → x < 2 → 2 ≤ r → has (strong_of b) (leader_at 4 (r - 1) x) ≡ false → p ≡ leader 4 r → 3 ≤ count 4 (has (no_votes_for b x))
    against zero l k d s = (certified i r p h).no_vote_quorum 0 (lit≤ tt) k d s
    against (suc zero) l k d s =
        never (imp_elim _ _ (and_right (eqb (no_votes_for b 1) 0) _ (seconds i r p h)) (and_both (le-leb 2 r k) (eq-eqb p (leader 4 r) s))) d
    against (suc (suc x)) l k d s = absurd (omega arith)

no_both : (i j : Bool) (r x p m : ℕ) → x < 2 → honest p ≡ true → voter 4 (witness_dag i) r x p ≡ true
    → has (no_votes_for ((witness_dag j).vertex (suc r) m) x) p ≡ true → ⊥
unfolding second
no_both i j r zero p m l g v s = main_both i j r p m g v (unfold no_votes_for in s)
no_both i j r (suc zero) p m l g v s = none (no_vote_present _ 1 p s)
  where
    none : held (witness_dag j).vertex (suc r) m ≡ true → ⊥
    none h =
        let z : no_votes_for ((witness_dag j).vertex (suc r) m) 1 ≡ 0 = eqb-true _ 0 (and_left _ _ (seconds j (suc r) m h)) in
        never (rw z at s) (has_zero p)
no_both i j r (suc (suc x)) p m l g v s = absurd (omega arith)

-- ---- the journals, by the masks of the histories

chain_first : leaders 4 1 (witness_dag true) ≡ 50 ∷ 67 ∷ []
unfolding witness_dag records_of early late first_of vertex_of last_up_to backed voter direct longest least leader_at has count strong_of chain walk
    seats path any
chain_first = refl

chain_second : leaders 4 1 (witness_dag false) ≡ 50 ∷ []
unfolding witness_dag records_of early late first_of vertex_of last_up_to backed voter direct longest least leader_at has count strong_of chain walk
    seats path any
chain_second = refl

fresh_three : (i : Bool) → fresh 4 (witness_dag i).vertex [] 50 ≡ 16 ∷ 17 ∷ 18 ∷ 19 ∷ 32 ∷ 34 ∷ 35 ∷ 50 ∷ []
unfolding witness_dag records_of early late vertex_of leader_at legal has strong_of weak_count_of weak_of among select reach_masks fill join_round join_parents
    join_weak join
fresh_three true = fresh_masks 4 (witness_dag true).vertex refl (formed true) [] 50 refl
fresh_three false = fresh_masks 4 (witness_dag false).vertex refl (formed false) [] 50 refl

fresh_four : fresh 4 (witness_dag true).vertex (16 ∷ 17 ∷ 18 ∷ 19 ∷ 32 ∷ 34 ∷ 35 ∷ 50 ∷ []) 67 ≡ 33 ∷ 48 ∷ 49 ∷ 51 ∷ 67 ∷ []
unfolding witness_dag records_of early late vertex_of leader_at legal has strong_of weak_count_of weak_of among select reach_masks fill join_round join_parents
    join_weak join
fresh_four = fresh_masks 4 (witness_dag true).vertex refl (formed true) (16 ∷ 17 ∷ 18 ∷ 19 ∷ 32 ∷ 34 ∷ 35 ∷ 50 ∷ []) 67 refl

-- with two leaders a round

chain_two_first : leaders 4 2 (witness_dag true) ≡ 50 ∷ 51 ∷ 67 ∷ 64 ∷ []
unfolding witness_dag records_of early late first_of vertex_of last_up_to backed voter direct longest least leader_at has count strong_of chain walk
    seats path any
chain_two_first = refl

chain_two_second : leaders 4 2 (witness_dag false) ≡ 50 ∷ 51 ∷ []
unfolding witness_dag records_of early late first_of vertex_of last_up_to backed voter direct longest least leader_at has count strong_of chain walk
    seats path any
chain_two_second = refl

-- the journal up to the main leader's vertex of round 3, and the second leader's
abbrev up_to : List ℕ
up_to = 16 ∷ 17 ∷ 18 ∷ 19 ∷ 32 ∷ 34 ∷ 35 ∷ 50 ∷ []

abbrev with51 : List ℕ
with51 = up_to ++ 51 ∷ []

fresh_second : (i : Bool) → fresh 4 (witness_dag i).vertex up_to 51 ≡ 51 ∷ []
unfolding witness_dag records_of early late vertex_of leader_at legal has strong_of weak_count_of weak_of among select reach_masks fill join_round join_parents
    join_weak join
fresh_second true = fresh_masks 4 (witness_dag true).vertex refl (formed true) up_to 51 refl
fresh_second false = fresh_masks 4 (witness_dag false).vertex refl (formed false) up_to 51 refl

fresh_main : fresh 4 (witness_dag true).vertex with51 67 ≡ 33 ∷ 48 ∷ 49 ∷ 67 ∷ []
unfolding witness_dag records_of early late vertex_of leader_at legal has strong_of weak_count_of weak_of among select reach_masks fill join_round join_parents
    join_weak join
fresh_main = fresh_masks 4 (witness_dag true).vertex refl (formed true) with51 67 refl

fresh_last : fresh 4 (witness_dag true).vertex (with51 ++ 33 ∷ 48 ∷ 49 ∷ 67 ∷ []) 64 ≡ 64 ∷ []
unfolding witness_dag records_of early late vertex_of leader_at legal has strong_of weak_count_of weak_of among select reach_masks fill join_round join_parents
    join_weak join
fresh_last = fresh_masks 4 (witness_dag true).vertex refl (formed true) (with51 ++ 33 ∷ 48 ∷ 49 ∷ 67 ∷ []) 64 refl

-- the journals of both, after the first two leaders
two_begun : (i : Bool) (xs : List ℕ) → extend 4 (witness_dag i).vertex [] (50 ∷ 51 ∷ xs) ≡ extend 4 (witness_dag i).vertex with51 xs
unfolding extend
two_begun i xs =
    ap (λ (j : List ℕ). extend 4 (witness_dag i).vertex (j ++ fresh 4 (witness_dag i).vertex j 51) xs) (fresh_three i)
    ∙ ap (λ (f : List ℕ). extend 4 (witness_dag i).vertex (up_to ++ f) xs) (fresh_second i)

two_ended : extend 4 (witness_dag true).vertex with51 (67 ∷ 64 ∷ []) ≡ with51 ++ 33 ∷ 48 ∷ 49 ∷ 67 ∷ 64 ∷ []
unfolding extend
two_ended =
    ap (λ (f : List ℕ). (with51 ++ f) ++ fresh 4 (witness_dag true).vertex (with51 ++ f) 64) fresh_main
    ∙ ap (λ (f : List ℕ). (with51 ++ 33 ∷ 48 ∷ 49 ∷ 67 ∷ []) ++ f) fresh_last

-- The witness.
pub witness : DagWitness
unfolding witness_dag records_of early late first_of vertex_of last_up_to backed voter direct longest least leader_at has count legal strong_of no_votes_of
    chain walk seats path any extend
witness = record {
  premises = λ m l h. record {
    members = refl;
    main_leader = l;
    well_formed = formed;
    certified = λ i r p k. record { no_vote_quorum = λ x z. (second_certified i r p k).no_vote_quorum x (omega arith) };
    few_faulty = lit≤ tt;
    one_vertex = one_vertex;
    one_record = one_record;
    no_both = λ i j r x p s z. no_both i j r x p s (omega arith);
  };
  two_faced = (refl, refl);
  skipped = (refl, refl, refl);
  by_vertices = refl;
  no_vertices = refl;
  no_messages = refl;
  by_both = refl;
  leaders_first = chain_first;
  leaders_second = chain_second;
  journal_first =
      ap (extend 4 (witness_dag true).vertex []) chain_first ∙ ap (λ (j : List ℕ). j ++ fresh 4 (witness_dag true).vertex j 67) (fresh_three true)
      ∙ ap (λ (l : List ℕ). 16 ∷ 17 ∷ 18 ∷ 19 ∷ 32 ∷ 34 ∷ 35 ∷ 50 ∷ l) fresh_four;
  journal_second = ap (extend 4 (witness_dag false).vertex []) chain_second ∙ fresh_three false;
  two_first = chain_two_first;
  two_second = chain_two_second;
  two_journal_first = ap (extend 4 (witness_dag true).vertex []) chain_two_first ∙ two_begun true (67 ∷ 64 ∷ []) ∙ two_ended;
  two_journal_second = ap (extend 4 (witness_dag false).vertex []) chain_two_second ∙ two_begun false [];
}
