-- The leaders that a commit takes: held, in turn, and the last of them the leader that is committed. Assumes nothing.
use mathlib.Core.Path.{◌≡◌, refl, sym, ap, ◌∙◌}
use mathlib.Core.Bool.{true, false}
use mathlib.Core.Logic.{◌⊎◌, inl, inr}
use mathlib.Core.List.{List, [], ◌∷◌, ◌++◌}
use Prim.Native.Nat.{ℕ, zero, suc, ◌+◌, ◌-◌, ◌*◌, ◌≤◌, ◌<◌}
use native.Mathlib.Nat.{mul-suc, mul-le-mul_left}
use native.Mathlib.Numerals.{add-one}
use native.Mathlib.Omega.{arith}
use lib.Dec.{eqb, leb}
use borrow.Author.Tests.{eqb-true, eqb-false, eq-eqb, ne_eqb, leb-true, le-leb, lt-leb}
use Rattle.record.specs.Members.{legal, leader_at, id_round, id_member, voted_rounds}
use Rattle.record.proofs.Booleans.{which}
use Rattle.protocol.specs.Dag.{Records, held}
use Rattle.protocol.specs.Chain.{leader_id, seats, walk, chain}
use Rattle.protocol.specs.Journal.{among}
use Rattle.protocol.specs.Claims.{Before}
use Rattle.protocol.specs.Premises.{ValidVertices}
use Rattle.protocol.proofs.Chain.{seats_none, seats_more, seats_held, chain_here, chain_some, chain_full, chain_held}
use Rattle.replica.specs.State.{member_count, committed_round, vertices, width, last_place}
use Rattle.commits.specs.Commit.{taken}
use Rattle.commits.specs.Taken.{taken_of, lowest_taken}
use Rattle.commits.specs.Standing.{Step, Ready}

-- of the next leader of the committed round it is that one alone
pub further_one : (l : List ℕ) (q seat : ℕ) → q ≡ committed_round l → seat ≡ last_place l → taken l q seat ≡ leader_id (member_count l) q seat ∷ []
further_one l q seat e f =
    (rw (← e, ← f) (chain_here (member_count l) (width l) (vertices l) q seat (seat + 1)))
    ∙ ap (seats (member_count l) q seat) (add-one seat) ∙ seats_more (member_count l) q seat seat (omega arith)
    ∙ ap (λ (z : List ℕ). z ++ leader_id (member_count l) q seat ∷ []) (seats_none (member_count l) q seat seat (omega arith))

module _ (l : List ℕ) (g : legal (member_count l) ≡ true) (W : ValidVertices (member_count l) (vertices l)) (q seat : ℕ) (r : Ready l q seat) where
  -- the place that is come to is not before the one before
  pub ready_before : Before (committed_round l) (last_place l) q (seat + 1)
  ready_before = go r.step
    where
      go : Step l q seat → Before (committed_round l) (last_place l) q (seat + 1)
      go (inl w) = inl w.1
      go (inr w) = inr (sym w.0, omega (arith, w.1))

  -- so what is taken is a run of one
  further : (q ≡ committed_round l) → (seat ≡ last_place l) → taken l q seat ≡ seats (member_count l) q seat (seat + 1)
  further e f = rw (← e, ← f) (chain_here (member_count l) (width l) (vertices l) q seat (seat + 1))

  pub taken_held : (y : ℕ) → among (taken l q seat) y ≡ true
      → (held (vertices l) (id_round y) (id_member y) ≡ true) × (1 ≤ id_round y) × (id_round y ≤ voted_rounds)
  taken_held y e = let w = go r.step in (w.0, (W.admitted (id_round y) (id_member y) w.0).round_low, omega (arith, w.1, r.high))
    where
      only : (x : ℕ) → seat ≤ x → x < seat + 1 → held (vertices l) q (leader_at (member_count l) q x) ≡ true
      only x a b = let z : x ≡ seat = omega arith in rw z r.there

      go : Step l q seat → (held (vertices l) (id_round y) (id_member y) ≡ true) × (id_round y ≤ q)
      go (inl w) =
          let k = chain_held (member_count l) (width l) (vertices l) g (committed_round l) (last_place l) q (seat + 1) y (omega (arith, w.1))
          (λ x b. only x (omega (arith, w.0)) b) e in
          (k.0, k.2)
      go (inr w) =
          let k = seats_held (member_count l) (width l) (vertices l) g q seat (seat + 1) y only (rw (further w.0 w.1) at e) in
          (k.0, omega (arith, k.1))

  pub taken_last : (xs : List ℕ) × (taken l q seat ≡ xs ++ leader_id (member_count l) q seat ∷ [])
  taken_last = go r.step
    where
      go : Step l q seat → (xs : List ℕ) × (taken l q seat ≡ xs ++ leader_id (member_count l) q seat ∷ [])
      go (inl w) =
          let v = walk (member_count l) (width l) (vertices l) (committed_round l) (last_place l) q (q - 1) in (
            v,
            chain_some (member_count l) (width l) (vertices l) (committed_round l) (last_place l) q (seat + 1) w.1
                ∙ ap (λ (z : List ℕ). v ++ z) (rw w.0 (seats_more (member_count l) q 0 0 (omega arith)
                ∙ ap (λ (z : List ℕ). z ++ leader_id (member_count l) q 0 ∷ []) (seats_none (member_count l) q 0 0 (omega arith)))),
          )
      go (inr w) = ([], further_one l q seat w.0 w.1)

  -- each commit comes further
  pub ready_rises : last_place l ≤ width l → width l * committed_round l + last_place l < width l * q + (seat + 1)
  ready_rises p = go r.step
    where
      go : Step l q seat → width l * committed_round l + last_place l < width l * q + (seat + 1)
      go (inl w) = let k : suc (committed_round l) ≤ q = w.1 in omega (arith, mul-suc (width l) (committed_round l), mul-le-mul_left (width l) k)
      go (inr w) = rw w.0 (omega (arith, w.1))

-- ---- the lowest round of which leaders are left

pub lowest_none : (c a m : ℕ) → c ≡ 0 → 1 ≡ lowest_taken c a m
lowest_none c a m e = rw e

pub lowest_full : (c a m : ℕ) → (c ≡ 0 → ⊥) → m ≤ a → c + 1 ≡ lowest_taken c a m
lowest_full c a m h k = rw (ne_eqb c 0 h, le-leb m a k)

pub lowest_left : (c a m : ℕ) → (c ≡ 0 → ⊥) → a < m → c ≡ lowest_taken c a m
lowest_left c a m h k = rw (ne_eqb c 0 h, lt-leb m a k)

-- the chain to round q begins there
pub record Lowest (n m : ℕ) (v : Records) (c a q low b : ℕ) : Type 0 where
  pub some : 1 ≤ low
  pub order : low ≤ q
  pub is : chain n m v c a q 1 ≡ chain n m v low b q 1

lowest_above : (n m : ℕ) (v : Records) (c a q : ℕ) → c < q → (c ≡ 0) ⊎ (m ≤ a) → Lowest n m v c a q (c + 1) (taken_of (c + 1) c a)
lowest_above n m v c a q l h = record {
  some = omega arith;
  order = omega arith;
  is = rw (ne_eqb (c + 1) c (λ e. omega arith), add-one c) (chain_full n m v c a q 1 l h);
}

lowest_here : (n m : ℕ) (v : Records) (c a q : ℕ) → c < q → (c ≡ 0 → ⊥) → Lowest n m v c a q c (taken_of c c a)
lowest_here n m v c a q l h = record { some = positive c h; order = omega arith; is = rw (eq-eqb c c refl) }
  where
    positive : (x : ℕ) → (x ≡ 0 → ⊥) → 1 ≤ x
    positive zero h = absurd (h refl)
    positive (suc x) h = omega arith

pub lowest_known : (n m : ℕ) (v : Records) (c a q low b : ℕ) → c < q → low ≡ lowest_taken c a m → b ≡ taken_of low c a → Lowest n m v c a q low b
lowest_known n m v c a q low b l e d = go (which (eqb c 0)) (which (leb m a))
  where
    go : (eqb c 0 ≡ true) ⊎ (eqb c 0 ≡ false) → (leb m a ≡ true) ⊎ (leb m a ≡ false) → Lowest n m v c a q low b
    go (inl z) k =
        let f : low ≡ c + 1 = e ∙ rw z in
        rw (d, f) (lowest_above n m v c a q l (inl (eqb-true c 0 z)))
    go (inr z) (inl k) =
        let f : low ≡ c + 1 = e ∙ rw (z, k) in
        rw (d, f) (lowest_above n m v c a q l (inr (leb-true m a k)))
    go (inr z) (inr k) =
        let f : low ≡ c = e ∙ rw (z, k) in
        rw (d, f) (lowest_here n m v c a q l (eqb-false c 0 z))
