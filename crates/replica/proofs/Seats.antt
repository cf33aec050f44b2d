-- The places of the leader list. Assumes nothing.
use mathlib.Core.Path.{◌≡◌, refl, sym, ap, ap₂, ◌∙◌}
use mathlib.Core.Bool.{Bool, true, false, cond, not}
use mathlib.Core.Logic.{◌⊎◌, inl, inr}
use mathlib.Core.List.{List}
use Prim.Native.Nat.{ℕ, zero, suc, ◌+◌, ◌-◌, ◌≤◌, ◌<◌}
use native.Mathlib.Omega.{arith}
use lib.Dec.{eqb, ltb}
use borrow.Author.Tests.{eq-eqb, ne_eqb, lt-ltb, le-ltb, not-true}
use Rattle.record.specs.Below.{any, least}
use Rattle.record.specs.Members.{leader_at, most_leaders, id_round, id_member, is_round, rounds, slots}
use Rattle.record.proofs.Booleans.{which, and_left, and_fails_left, and_fails_right, cond_true, cond_false}
use Rattle.record.proofs.Below.{any_false, least_at, least_le}
use Rattle.record.proofs.Masks.{leader_at_lt, leaders_apart}
use Rattle.record.proofs.Rounds.{round_range, round_in, id_round_lem, id_member_lem}
use Rattle.protocol.specs.Chain.{leader_id}
use Rattle.replica.specs.State.{member_count, leader_count, leader_word, width, leader_index, last_leader, last_place, held_id}
use Rattle.replica.specs.WellFormed.{round_before, place_before, comes_next, leader_ok}
use Rattle.replica.proofs.Width.{width_most, width_same}

-- the vertex with the id x is of leader i of its round
abbrev pub is_leader : List ℕ → ℕ → ℕ → Bool
is_leader l x i = eqb (leader_at (member_count l) (id_round x) i) (id_member x)

pub index_le : (l : List ℕ) (x : ℕ) → leader_index l x ≤ width l
unfolding leader_index
index_le l x = go (is_round (id_round x))
  where
    go : (b : Bool) → cond b (least (width l) (is_leader l x)) (width l) ≤ width l
    go true = least_le (width l) (is_leader l x)
    go false = omega arith

-- an id of no round
pub index_no_id : (l : List ℕ) (x w : ℕ) (b : Bool) → b ≡ is_round (id_round x) → not b ≡ true → w ≡ width l → w ≡ leader_index l x
unfolding leader_index
index_no_id l x w b e h f = f ∙ sym (cond_false _ _ (sym e ∙ not-true b h))

-- the search for the index
pub index_at : (l : List ℕ) (n x i p : ℕ) → is_round (id_round x) ≡ true → n ≡ member_count l → any i (is_leader l x) ≡ false → i < width l
    → p ≡ leader_at n (id_round x) i
    → p ≡ id_member x → i ≡ leader_index l x
unfolding leader_index
index_at l n x i p r e a k f g = sym (cond_true _ _ r ∙ least_at (width l) (is_leader l x) i k a (rw (← e, ← f) (eq-eqb p (id_member x) g)))

pub index_least : (l : List ℕ) (n x w i : ℕ) → is_round (id_round x) ≡ true → n ≡ member_count l → w ≡ width l
    → i ≡ least w (λ k. eqb (leader_at n (id_round x) k) (id_member x)) → i ≡ leader_index l x
unfolding leader_index
index_least l n x w i r e f h = h ∙ rw (e, f) (sym (cond_true _ _ r))

-- it rests on the member count and the width alone
pub index_kept : (l m : List ℕ) → member_count m ≡ member_count l → (x : ℕ) → leader_index m x ≡ leader_index l x
unfolding leader_index
index_kept l m e x = rw (e, width_same l m)

-- the end of the list
pub place_none : (l : List ℕ) → leader_count l ≡ 0 → last_place l ≡ 0
unfolding last_place
place_none l e = rw e

pub place_some : (l : List ℕ) → (leader_count l ≡ 0 → ⊥) → last_place l ≡ leader_index l (last_leader l) + 1
unfolding last_place
place_some l h = rw (ne_eqb (leader_count l) 0 h)

pub place_kept : (l m : List ℕ) → member_count m ≡ member_count l → leader_count m ≡ leader_count l
    → (0 < leader_count l → leader_word m (leader_count l - 1) ≡ last_leader l)
    → last_place m ≡ last_place l
place_kept l m e f g = go (leader_count l) refl
  where
    go : (k : ℕ) → leader_count l ≡ k → last_place m ≡ last_place l
    go zero d = place_none m (f ∙ d) ∙ sym (place_none l d)
    go (suc k) d =
        let at : last_leader m ≡ last_leader l = ap (λ (x : ℕ). leader_word m (x - 1)) f ∙ g (omega arith) in
        place_some m (λ z. omega arith) ∙ ap (λ (x : ℕ). x + 1) (ap (leader_index m) at ∙ index_kept l m e (last_leader l))
        ∙ sym (place_some l (λ z. omega arith))

-- what reading it needs of the last entry
pub end_at : (l : List ℕ) → (leader_count l ≡ 0 → ⊥)
    → (leader_index l (last_leader l) ≤ most_leaders) × (leader_index l (last_leader l) + 1 ≡ last_place l)
end_at l h = (omega (arith, index_le l (last_leader l), width_most l), sym (place_some l h))

-- ---- an entry of the list

-- what comes next, in the order of the tests
pub next_main : (c a r i : ℕ) (b : Bool) → i ≡ 0 → b ≡ ltb c r → b ≡ comes_next c a r i
next_main c a r i b e f = f ∙ sym (cond_true _ _ (eq-eqb i 0 e))

pub next_other : (c a r i : ℕ) → (i ≡ 0 → ⊥) → (r ≡ c → ⊥) → false ≡ comes_next c a r i
next_other c a r i e f = sym (cond_false _ _ (ne_eqb i 0 e) ∙ and_fails_left _ (ne_eqb r c f))

pub next_same : (c a r i : ℕ) (b : Bool) → (i ≡ 0 → ⊥) → r ≡ c → b ≡ eqb i a → b ≡ comes_next c a r i
next_same c a r i b e f g = g ∙ sym (cond_false _ _ (ne_eqb i 0 e) ∙ rw (eq-eqb r c f))

-- behind nothing only a main leader comes
pub first_next : (r i : ℕ) → 0 < r → eqb i 0 ≡ comes_next 0 0 r i
first_next r i h = go (which (eqb i 0))
  where
    go : (eqb i 0 ≡ true) ⊎ (eqb i 0 ≡ false) → eqb i 0 ≡ comes_next 0 0 r i
    go (inl e) = rw e (sym (lt-ltb 0 r h))
    go (inr e) = rw (e, ne_eqb r 0 (λ d. omega arith))

module _ (l : List ℕ) (i : ℕ) where
  abbrev entry : ℕ
  entry = leader_word l i

  pub entry_no : held_id l entry ≡ false → false ≡ leader_ok l i
  unfolding leader_ok
  entry_no h = sym (and_fails_left _ h)

  pub entry_none : held_id l entry ≡ true → width l ≤ leader_index l entry → false ≡ leader_ok l i
  unfolding leader_ok
  entry_none h k = sym (and_fails_right (held_id l entry) (and_fails_left _ (le-ltb _ _ k)))

  entry_some : held_id l entry ≡ true → leader_index l entry < width l
      → comes_next (round_before l i) (place_before l i) (id_round entry) (leader_index l entry) ≡ leader_ok l i
  unfolding leader_ok
  entry_some h k = sym (rw (h, lt-ltb _ _ k))

  pub entry_first : (b : Bool) → held_id l entry ≡ true → leader_index l entry < width l → i ≡ 0 → b ≡ eqb (leader_index l entry) 0 → b ≡ leader_ok l i
  entry_first b h k e f =
      let r = (round_range (id_round entry) (and_left _ _ h)).0 in
      f ∙ first_next (id_round entry) (leader_index l entry) r
      ∙ ap (λ (t : Bool). comes_next (cond t 0 (id_round (leader_word l (i - 1)))) (cond t 0 (leader_index l (leader_word l (i - 1)) + 1)) (id_round entry)
      (leader_index l entry)) (sym (eq-eqb i 0 e))
      ∙ entry_some h k

  pub entry_later : (b : Bool) → held_id l entry ≡ true → leader_index l entry < width l → (i ≡ 0 → ⊥)
      → b ≡ comes_next (id_round (leader_word l (i - 1))) (leader_index l (leader_word l (i - 1)) + 1) (id_round entry) (leader_index l entry)
      → b ≡ leader_ok l i
  entry_later b h k e f =
      f ∙ ap (λ (t : Bool). comes_next (cond t 0 (id_round (leader_word l (i - 1)))) (cond t 0 (leader_index l (leader_word l (i - 1)) + 1))
      (id_round entry) (leader_index l entry)) (sym (ne_eqb i 0 e))
      ∙ entry_some h k

-- ---- the leaders of a round

-- they differ, so the vertex of leader i has the index i
pub index_leader : (l : List ℕ) (r i : ℕ) → 1 ≤ r → r ≤ rounds → i < width l → 4 ≤ member_count l → member_count l ≤ slots
    → (id_round (leader_id (member_count l) r i) ≡ r) × (leader_index l (leader_id (member_count l) r i) ≡ i)
index_leader l r i a b k low high =
    let n = member_count l in
    let few : leader_at n r i < slots = omega (arith, leader_at_lt n r i (omega arith)) in
    let er : id_round (leader_id n r i) ≡ r = id_round_lem r (leader_at n r i) few in
    let em : id_member (leader_id n r i) ≡ leader_at n r i = id_member_lem r (leader_at n r i) few in
    let most = width_most l in (
      er,
      sym (index_at l n (leader_id n r i) i (leader_at n r i) (ap is_round er ∙ round_in r a b) refl
          (any_false i _ (λ j h. ap₂ (λ (x y : ℕ). eqb (leader_at n x j) y) er em
          ∙ ne_eqb _ _ (λ e. absurd (omega (arith, leaders_apart n r j i (omega arith) (omega arith) e)))))
          k (ap (λ (x : ℕ). leader_at n x i) (sym er)) (sym em)),
    )
