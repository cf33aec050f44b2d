-- A formed state is one that commits can stand on, with room in its journal. Assumes nothing.
use mathlib.Core.Path.{◌≡◌, refl, sym, ap, ◌∙◌}
use mathlib.Core.Bool.{Bool, true, false}
use mathlib.Core.Logic.{◌⊎◌, inl, inr, ⊎_elim}
use mathlib.Core.List.{List, [], ◌∷◌, ◌++◌}
use Prim.Native.Nat.{ℕ, zero, suc, ◌+◌, ◌*◌, ◌≤◌, ◌<◌}
use native.Mathlib.Nat.{eq-or-lt_of_le, mul-suc, mul-le-mul_left}
use native.Mathlib.Omega.{arith}
use Rattle.record.specs.Below.{count}
use lib.ListN.{take, drop}
use lib.Dec.{eqb}
use borrow.Author.Tests.{eqb-true, eqb-false}
use Rattle.record.specs.Members.{id_round, id_limit, slots, rounds, voted_rounds}
use Rattle.record.proofs.Booleans.{which, and_left}
use Rattle.record.proofs.Below.{count_cong}
use Rattle.record.proofs.Rounds.{round_range}
use Rattle.protocol.specs.Journal.{among}
use Rattle.protocol.proofs.Lists.{once_length}
use Rattle.protocol.specs.Single.{one_taken}
use Rattle.replica.specs.Layout.{leaders_at, leaders_size, journal_size}
use Rattle.replica.specs.State.{committed_round, leader_count, leader_word, leader_list, journal_list, held_id, ordered_id}
use Rattle.replica.specs.State.{width, leader_index, last_place}
use Rattle.replica.proofs.Width.{width_room, width_one}
use Rattle.replica.proofs.Formed.{WellFormed, Led, led_split, part_more, leaders_few, leaders_place, journal_length, ordered_limit}
use Rattle.replica.proofs.Dags.{dag_well_formed, vertex_words}
use Rattle.commits.specs.Standing.{Standing, Room, Going}

-- every formed state stands
pub standing : (l : List ℕ) → WellFormed l → Standing l
standing l S = record {
  size = S.size;
  members = S.front.members;
  low = S.front.low;
  high = S.front.high;
  valid = dag_well_formed l S;
  words = vertex_words l S;
  held_low = S.masks.held_low;
  votes_low = S.masks.votes_low;
  votes_heard = S.masks.votes_heard;
}

-- the journal's entries are distinct ordered ids
pub room : (l : List ℕ) → WellFormed l → Room l
room l S =
    omega (
      arith,
      journal_length l S,
      once_length id_limit (journal_list l) S.journal.alone (λ y e. ordered_limit l S.size y (sym (S.journal.names y) ∙ e)),
      count_cong id_limit (among (journal_list l)) (ordered_id l) (λ y k. S.journal.names y),
    )

-- a set that begins at low has at most so many numbers below k
count_from : (t : ℕ → Bool) (low k : ℕ) → ((y : ℕ) → y < low → t y ≡ false) → low ≤ k → low + count k t ≤ k
unfolding count
count_from t low zero f h = omega arith
count_from t low (suc k) f h = go (eq-or-lt_of_le h) (λ m. count_from t low k f m)
  where
    none : (k : ℕ) → k ≤ low → count k t ≡ 0
    none zero m = refl
    none (suc k) m = rw (f k m) (omega (arith, none k (omega arith)))

    go : (low ≡ suc k) ⊎ (low < suc k) → (low ≤ k → low + count k t ≤ k) → low + count (suc k) t ≤ suc k
    go (inl e) ih = omega (arith, none (suc k) (omega arith))
    go (inr m) ih = ⊎_elim (λ e. rw e (omega (arith, ih (omega arith)))) (λ e. rw e (omega (arith, ih (omega arith)))) (which (t k))

-- no more ids are ever ordered than the journal has words
pub room_limit : (l : List ℕ) → count id_limit (ordered_id l) ≤ journal_size
room_limit l = omega (arith, count_from (ordered_id l) slots id_limit (λ y k. ⊎_elim (λ e. absurd (low y k e)) (λ e. e) (which (ordered_id l y))) (omega arith))
  where
    low : (y : ℕ) → y < slots → ordered_id l y ≡ true → ⊥
    low y k e = omega (arith, (round_range (id_round y) (and_left _ _ e)).0)

-- ---- where the leader list ends

-- the leaders of all rounds up to q have room in it
pub width_fits : (l : List ℕ) (q : ℕ) → q ≤ voted_rounds → width l * q + width l ≤ leaders_size
width_fits l q h = let k : suc q ≤ rounds = omega arith in omega (arith, mul-suc (width l) q, mul-le-mul_left (width l) k, width_room l)

-- the last entry of a list of some entries
end_some : (l : List ℕ) → WellFormed l → (c : ℕ) → leader_count l ≡ suc c → (0 < committed_round l) × (0 < last_place l)
unfolding Led
end_some l S c e =
    let d : leader_list l ≡ take c (drop leaders_at l) ++ leader_word l c ∷ [] =
    ap (λ (k : ℕ). take k (drop leaders_at l)) e ∙ part_more l leaders_at c (omega (arith, S.size, S.leaders.few)) in
    let w = led_split (width l) (held_id l) (leader_index l) 0 0 (committed_round l) (last_place l) (take c (drop leaders_at l)) (leader_word l c ∷ [])
    (rw d at S.leaders.led) in
    (omega (arith, (round_range (id_round (leader_word l c)) (and_left _ _ w.3.0)).0, w.3.3.0), omega (arith, w.3.3.1))

end_none : (l : List ℕ) → WellFormed l → leader_count l ≡ 0 → (committed_round l ≡ 0) × (last_place l ≡ 0)
unfolding Led
end_none l S e = let w = rw (ap (λ (k : ℕ). take k (drop leaders_at l)) e) at S.leaders.led in (sym w.0, sym w.1)

-- the place that the list of a formed state comes to: one of the committed round, and none exactly if that is 0
pub record Ended (l : List ℕ) : Type 0 where
  pub place : last_place l ≤ width l
  pub few : leader_count l ≤ width l * committed_round l + last_place l
  pub none : committed_round l ≡ 0 → last_place l ≡ 0
  pub some : 0 < committed_round l → 0 < last_place l

pub ended : (l : List ℕ) → WellFormed l → Ended l
ended l S = record { place = leaders_place l S; few = leaders_few l S; none = none (leader_count l) refl; some = some (leader_count l) refl }
  where
    none : (k : ℕ) → leader_count l ≡ k → committed_round l ≡ 0 → last_place l ≡ 0
    none zero e z = (end_none l S e).1
    none (suc c) e z = absurd (omega (arith, (end_some l S c e).0))

    some : (k : ℕ) → leader_count l ≡ k → 0 < committed_round l → 0 < last_place l
    some zero e h = absurd (omega (arith, (end_none l S e).0))
    some (suc c) e h = (end_some l S c e).1

-- so it has what the commits ask
pub going : (l : List ℕ) → WellFormed l → Going l
going l S = record { standing = standing l S; room = room l S; place = (ended l S).place; few = (ended l S).few; high = S.leaders.committed_high }

-- where a round has one leader, the committed round's one leader is in the list
pub one_place : (l : List ℕ) → WellFormed l → last_place l ≡ one_taken (committed_round l)
one_place l S = go (which (eqb (committed_round l) 0))
  where
    go : (eqb (committed_round l) 0 ≡ true) ⊎ (eqb (committed_round l) 0 ≡ false) → last_place l ≡ one_taken (committed_round l)
    go (inl e) = rw e ((ended l S).none (eqb-true _ _ e))
    go (inr e) = rw e (omega (arith, (ended l S).place, width_one l, (ended l S).some (positive (committed_round l) (eqb-false _ _ e))))
      where
        positive : (x : ℕ) → (x ≡ 0 → ⊥) → 0 < x
        positive zero h = absurd (h refl)
        positive (suc x) h = omega arith
