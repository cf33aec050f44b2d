-- Laws of the clauses of well-formedness. Assumes nothing.
use mathlib.Core.Path.{◌≡◌, refl, sym, ap, ◌∙◌}
use mathlib.Core.Bool.{Bool, true, false, not, ◌&&◌, ◌||◌, and-true, and-false}
use mathlib.Core.List.{List, [], ◌∷◌}
use Prim.Native.Nat.{ℕ, zero, suc, ◌+◌, ◌≤◌, ◌<◌}
use native.Mathlib.Omega.{arith}
use lib.Bits.{bit_or}
use lib.Dec.{eqb, leb, ltb}
use lib.ListN.{length, get_or, take, drop}
use borrow.Author.Tests.{leb-true, le-leb, lt-leb, eq-eqb, ne_eqb}
use Rattle.record.specs.Below.{all}
use Rattle.record.specs.Members.{legal, rounds, slots, voted_rounds}
use Rattle.record.proofs.Booleans.{and_left, and_right, and_fails_left, and_fails_right, passed, failed}
use Rattle.record.proofs.Masks.{or_zero}
use Rattle.replica.specs.Layout.{state_size, leaders_at, leaders_size, journal_at, journal_size, leaders_end, journal_end}
use Rattle.replica.specs.State.{member_count, current_round, committed_round, leader_count, journal_count, held_mask, heard_mask, votes_mask, ordered_mask}
use Rattle.replica.specs.State.{own_word, made_rounds, signed_rounds}
use Rattle.replica.specs.WellFormed.{own_ok, each_round, subset, masks_within, cell_ok, leaders_ok, journal_ok, rest_zero, every, clauses, well_formed}
use Rattle.record.proofs.Zeros.{blank, rest_part}

-- ---- the five parts of the test

-- words 0 to 7, and the masks and cells
abbrev pub head_part : List ℕ → Bool
head_part l = every (take 4 (clauses l))

abbrev pub body_part : List ℕ → Bool
body_part l = every (take 4 (drop 4 (clauses l)))

every_split : (k : ℕ) (bs : List Bool) → every bs ≡ (every (take k bs) && every (drop k bs))
every_split zero bs = refl
every_split (suc k) [] = refl
every_split (suc k) (true ∷ bs) = every_split k bs
every_split (suc k) (false ∷ bs) = refl

pub well_parts : (l : List ℕ) → well_formed l ≡ (head_part l && (body_part l && (leaders_ok l && (journal_ok l && rest_zero l))))
unfolding well_formed
well_parts l =
    every_split 4 (clauses l)
    ∙ ap (λ (b : Bool). head_part l && b) (every_split 4 (drop 4 (clauses l))
    ∙ ap (λ (b : Bool). body_part l && (leaders_ok l && (journal_ok l && b))) (and-true (rest_zero l)))

-- where a part fails
module _ (l : List ℕ) (b : Bool) where
  pub head_no : b ≡ head_part l → not b ≡ true → false ≡ well_formed l
  head_no e h = sym (well_parts l ∙ and_fails_left (body_part l && (leaders_ok l && (journal_ok l && rest_zero l))) (failed e h))

  pub body_no : b ≡ body_part l → not b ≡ true → false ≡ well_formed l
  body_no e h = sym (well_parts l ∙ and_fails_right (head_part l) (and_fails_left (leaders_ok l && (journal_ok l && rest_zero l)) (failed e h)))

  pub leaders_no : b ≡ leaders_ok l → not b ≡ true → false ≡ well_formed l
  leaders_no e h =
      sym (well_parts l ∙ and_fails_right (head_part l) (and_fails_right (body_part l) (and_fails_left (journal_ok l && rest_zero l) (failed e h))))

  pub journal_no : b ≡ journal_ok l → not b ≡ true → false ≡ well_formed l
  journal_no e h =
      sym (well_parts l
      ∙ and_fails_right (head_part l) (and_fails_right (body_part l) (and_fails_right (leaders_ok l) (and_fails_left (rest_zero l) (failed e h)))))

  -- what a part gives where it holds
  pub head_legal : b ≡ head_part l → not b ≡ false → legal (member_count l) ≡ true
  head_legal e h = and_left (legal (member_count l)) _ (passed e h)

  pub body_masks : b ≡ body_part l → not b ≡ false → each_round (masks_within l) ≡ true
  body_masks e h = and_left (each_round (masks_within l)) _ (passed e h)

  pub leaders_few : b ≡ leaders_ok l → not b ≡ false → leader_count l ≤ leaders_size
  unfolding leaders_ok
  leaders_few e h = leb-true (leader_count l) leaders_size (and_left (leb (leader_count l) leaders_size) _ (passed e h))

  pub journal_few : b ≡ journal_ok l → not b ≡ false → journal_count l ≤ journal_size
  unfolding journal_ok
  journal_few e h = leb-true (journal_count l) journal_size (and_left (leb (journal_count l) journal_size) _ (passed e h))

-- where the first four hold, the last decides
pub rest_decides : (l : List ℕ) (a b c d r : Bool) → a ≡ head_part l → not a ≡ false → b ≡ body_part l → not b ≡ false → c ≡ leaders_ok l → not c ≡ false
    → d ≡ journal_ok l → not d ≡ false → r ≡ rest_zero l → r ≡ well_formed l
rest_decides l a b c d r ea ha eb hb ec hc ed hd e =
    e
    ∙ sym (well_parts l
    ∙ last_part (head_part l) (body_part l) (leaders_ok l) (journal_ok l) (rest_zero l) (passed ea ha) (passed eb hb) (passed ec hc) (passed ed hd))
  where
    last_part : (a b c d e : Bool) → a ≡ true → b ≡ true → c ≡ true → d ≡ true → (a && (b && (c && (d && e)))) ≡ e
    last_part a b c d e p q r s = rw (p, q, r, s)

-- ---- the clauses of the first two parts

-- words 5 to 7
module _ (l : List ℕ) where
  pub own_high : member_count l < own_word l → false ≡ own_ok l
  unfolding own_ok
  own_high h = sym (and_fails_left _ (lt-leb _ _ h))

  module _ (few : own_word l ≤ member_count l) where
    pub own_member_lem : (own_word l ≡ 0 → ⊥) → true ≡ own_ok l
    unfolding own_ok
    own_member_lem h = simp (le-leb _ _ few, ne_eqb _ _ h)

    pub own_watcher : own_word l ≡ 0 → eqb (bit_or (made_rounds l) (signed_rounds l)) 0 ≡ own_ok l
    unfolding own_ok
    own_watcher h = or_zero (made_rounds l) (signed_rounds l) ∙ simp (le-leb _ _ few, eq-eqb _ _ h)

-- words 0 to 7
module _ (l : List ℕ) (a : Bool) (ea : a ≡ legal (member_count l)) where
  pub group_no : not a ≡ true → false ≡ head_part l
  group_no h = simp (failed ea h)

  module _ (pa : not a ≡ false) where
    pub round_low : current_round l < 1 → false ≡ head_part l
    round_low h = simp (passed ea pa, lt-leb _ _ h)

    module _ (low : 1 ≤ current_round l) where
      pub round_high : rounds + 1 < current_round l → false ≡ head_part l
      round_high h = simp (passed ea pa, le-leb _ _ low, lt-leb _ _ h)

      module _ (high : current_round l ≤ rounds + 1) where
        pub committed_high : voted_rounds < committed_round l → false ≡ head_part l
        committed_high h = simp (passed ea pa, le-leb _ _ low, le-leb _ _ high, lt-leb _ _ h)

        pub own_decides : committed_round l ≤ voted_rounds → (z : Bool) → z ≡ own_ok l → z ≡ head_part l
        own_decides h z e = simp (passed ea pa, le-leb _ _ low, le-leb _ _ high, le-leb _ _ h, and-true) e

-- the masks and the cells
module _ (l : List ℕ) (a : Bool) (ea : a ≡ each_round (masks_within l)) where
  pub within_no : not a ≡ true → false ≡ body_part l
  within_no h = simp (failed ea h)

  module _ (pa : not a ≡ false) (b : Bool) (eb : b ≡ each_round (λ r. subset (votes_mask l r) (heard_mask l r))) where
    pub votes_no : not b ≡ true → false ≡ body_part l
    votes_no h = simp (passed ea pa, failed eb h)

    module _ (pb : not b ≡ false) (v : ℕ) (ev : v ≡ votes_mask l 1) where
      pub first_no_lem : (v ≡ 0 → ⊥) → false ≡ body_part l
      first_no_lem h = simp (passed ea pa, passed eb pb, ne_eqb _ _ (rw ev at h))

      module _ (pv : v ≡ 0) (d : Bool) (ed : d ≡ each_round (λ r. all slots (cell_ok l r))) where
        pub cells_no : not d ≡ true → false ≡ body_part l
        cells_no h = simp (passed ea pa, passed eb pb, eq-eqb _ _ (rw ev at pv), failed ed h, and-false)

        pub ordered_decides : not d ≡ false → (z : Bool) → z ≡ each_round (λ r. subset (ordered_mask l r) (held_mask l r)) → z ≡ body_part l
        ordered_decides h z e = simp (passed ea pa, passed eb pb, eq-eqb _ _ (rw ev at pv), passed ed h, and-true) e

-- the counts of a well-formed state
pub counts : (l : List ℕ) → well_formed l ≡ true → (leader_count l ≤ leaders_size) × (journal_count l ≤ journal_size)
counts l e =
    let a : (body_part l && (leaders_ok l && (journal_ok l && rest_zero l))) ≡ true = and_right (head_part l) _ (sym (well_parts l) ∙ e) in
    let b : (leaders_ok l && (journal_ok l && rest_zero l)) ≡ true = and_right (body_part l) _ a in
    let d : (journal_ok l && rest_zero l) ≡ true = and_right (leaders_ok l) _ b in
    (leaders_few l true (sym (and_left (leaders_ok l) _ b)) refl, journal_few l true (sym (and_left (journal_ok l) _ d)) refl)

-- ---- list words beyond the counts

-- the two lists decide, one after the other
module _ (l : List ℕ) (size : length l ≡ state_size) (few : leader_count l ≤ leaders_size) (y : Bool)
    (ey : y ≡ blank l (leaders_at + leader_count l) leaders_end) where
  rest_leaders : y ≡ all leaders_size (λ i. ltb i (leader_count l) || eqb (get_or l (leaders_at + i) 0) 0)
  rest_leaders = ey ∙ rest_part l leaders_at leaders_size _ few (omega arith)

  pub rest_no : not y ≡ true → false ≡ rest_zero l
  unfolding rest_zero
  rest_no h = simp (failed rest_leaders h)

  pub rest_journal : not y ≡ false → (z : Bool) → journal_count l ≤ journal_size → z ≡ blank l (journal_at + journal_count l) journal_end
      → z ≡ rest_zero l
  unfolding rest_zero
  rest_journal h z many ez = simp (passed rest_leaders h) (ez ∙ rest_part l journal_at journal_size _ many (omega arith))
