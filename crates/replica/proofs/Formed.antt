-- What it means that a state is well formed, as facts, and that the test of `specs/ValidVertices` says exactly this. Assumes nothing.
use mathlib.Core.Path.{◌≡◌, refl, sym, ap, ap₂, ◌∙◌, subst}
use mathlib.Core.Bool.{Bool, true, false, not, ◌&&◌, ◌||◌}
use mathlib.Core.Logic.{◌⊎◌, inl, inr, ⊎_elim}
use mathlib.Core.List.{List, [], ◌∷◌, ◌++◌}
use Prim.Native.Nat.{ℕ, zero, suc, ◌+◌, ◌-◌, ◌*◌, ◌^◌, ◌≤◌, ◌<◌}
use native.Mathlib.Nat.{mul-suc, mul-le-mul_left}
use native.Mathlib.Numerals.{sub-one}
use native.Mathlib.Omega.{arith}
use lib.Bits.{bit_and, and_le_l}
use lib.Dec.{eqb, leb, ltb}
use lib.ListN.{length, get_or, take, drop, length-drop}
use lib.Seq.{take-suc, take-take, get_or-drop, length-take-le}
use borrow.Author.Tests.{leb-true, le-leb, ltb-true, lt-ltb, ltb-false, eqb-true, eqb-false, eq-eqb, ne_eqb, not-true}
use Rattle.record.specs.Below.{all}
use Rattle.record.specs.Members.{legal, has, within, id_round, id_limit, rounds, slots, voted_rounds}
use Rattle.record.specs.Refusals.{number_of}
use Rattle.record.specs.Questions.{body_refusal}
use Rattle.record.proofs.Booleans.{which, never, and_left, and_right, and_both, or_cases, or_left, or_right, or_neither, bool_ext, cond_true, cond_false}
use Rattle.record.proofs.Below.{all_elim, all_intro}
use Rattle.record.proofs.Masks.{legal_range, within_lt, has_and, mask_ext}
use Rattle.record.proofs.Rounds.{round_range}
use Rattle.protocol.specs.Journal.{among}
use Rattle.protocol.proofs.Lists.{among_none, among_append, among_one, once, once_append, once_none}
use Rattle.record.specs.Layout.{body_size}
use Rattle.replica.specs.Layout.{state_size, cell_at, leaders_at, leaders_size, journal_at, journal_size}
use Rattle.replica.specs.State.{member_count, current_round, committed_round, leader_count, journal_count, held_mask, heard_mask, votes_mask}
use Rattle.replica.specs.State.{timeouts_mask, no_votes_mask, ordered_mask, leader_word, journal_word, leader_list, journal_list, cell, held_id}
use Rattle.replica.specs.State.{ordered_id, width, leader_index, last_place}
use Rattle.replica.specs.Parents.{parents_held}
use Rattle.replica.specs.WellFormed.{own_ok, subset, masks_within, cell_ok, round_before, place_before, comes_next, leader_ok, last_leader_round}
use Rattle.replica.specs.WellFormed.{leaders_ok, entry_ok, journal_ok}
use Rattle.replica.specs.WellFormed.{rest_zero, well_formed}

-- ---- the facts

-- words 0, 1 and 5 to 7
pub record Front (l : List ℕ) : Type 0 where
  pub members : legal (member_count l) ≡ true
  pub low : 4 ≤ member_count l
  pub high : member_count l ≤ slots
  pub round_low : 1 ≤ current_round l
  pub round_high : current_round l ≤ rounds + 1
  pub own : own_ok l ≡ true

-- the masks but for the ordered ones
pub record Masks (l : List ℕ) : Type 0 where
  pub held_low : (r : ℕ) → 1 ≤ r → r ≤ rounds → held_mask l r < 2 ^ member_count l
  pub heard_low : (r : ℕ) → 1 ≤ r → r ≤ rounds → heard_mask l r < 2 ^ member_count l
  pub votes_low : (r : ℕ) → 1 ≤ r → r ≤ rounds → votes_mask l r < 2 ^ member_count l
  pub timeouts_low : (r : ℕ) → 1 ≤ r → r ≤ rounds → timeouts_mask l r < 2 ^ member_count l
  pub no_votes_low : (r : ℕ) → 1 ≤ r → r ≤ rounds → no_votes_mask l r < 2 ^ member_count l
  pub votes_heard : (r p : ℕ) → 1 ≤ r → r ≤ rounds → has (votes_mask l r) p ≡ true → has (heard_mask l r) p ≡ true
  pub votes_first : votes_mask l 1 ≡ 0

-- the cells
pub record Cells (l : List ℕ) : Type 0 where
  pub admits : (r p : ℕ) → 1 ≤ r → r ≤ rounds → p < slots → has (held_mask l r) p ≡ true → number_of (body_refusal (member_count l) r p (cell l r p)) ≡ 0
  pub parents : (r p : ℕ) → 1 ≤ r → r ≤ rounds → p < slots → has (held_mask l r) p ≡ true → parents_held l r (cell l r p) ≡ true
  pub zero_cell : (r p i : ℕ) → 1 ≤ r → r ≤ rounds → p < slots → i < body_size → has (held_mask l r) p ≡ false → get_or l (cell_at r p + i) 0 ≡ 0

-- leader i of round r comes next behind the first a leaders of round c
abbrev pub Next : ℕ → ℕ → ℕ → ℕ → Type 0
Next c a r i = ((i ≡ 0) × (c < r)) ⊎ ((0 < i) × (r ≡ c) × (i ≡ a))

-- The ids of a leader list from the place (c, a) to the place (q, b): vertices that h has, of the leaders of their rounds that g says, of m leaders a round,
-- each next behind the one before.
unfoldable pub Led : ℕ → (ℕ → Bool) → (ℕ → ℕ) → ℕ → ℕ → List ℕ → ℕ → ℕ → Type 0
Led m h g c a [] q b = (c ≡ q) × (a ≡ b)
Led m h g c a (x ∷ xs) q b = (h x ≡ true) × (g x < m) × Next c a (id_round x) (g x) × Led m h g (id_round x) (g x + 1) xs q b

-- the committed round and the leader list
pub record Leaders (l : List ℕ) : Type 0 where
  pub committed_high : committed_round l ≤ voted_rounds
  pub few : leader_count l ≤ leaders_size
  pub led : Led (width l) (held_id l) (leader_index l) 0 0 (leader_list l) (committed_round l) (last_place l)
  pub rest : (i : ℕ) → leader_count l ≤ i → i < leaders_size → leader_word l i ≡ 0

-- the ordered masks and the journal
pub record Journal (l : List ℕ) : Type 0 where
  pub ordered_low : (r : ℕ) → 1 ≤ r → r ≤ rounds → ordered_mask l r < 2 ^ member_count l
  pub ordered_held : (r p : ℕ) → 1 ≤ r → r ≤ rounds → has (ordered_mask l r) p ≡ true → has (held_mask l r) p ≡ true
  pub few : journal_count l ≤ journal_size
  pub alone : once (journal_list l) ≡ true
  pub names : (y : ℕ) → among (journal_list l) y ≡ ordered_id l y
  pub rest : (i : ℕ) → journal_count l ≤ i → i < journal_size → journal_word l i ≡ 0

pub record WellFormed (l : List ℕ) : Type 0 where
  pub size : length l ≡ state_size
  pub front : Front l
  pub masks : Masks l
  pub cells : Cells l
  pub leaders : Leaders l
  pub journal : Journal l

-- ---- masks within masks

-- a member of a mask is in every mask around it
pub subset_has : (a b : ℕ) → subset a b ≡ true → (p : ℕ) → has a p ≡ true → has b p ≡ true
subset_has a b e p h = and_right (has a p) (has b p) (sym (has_and a b p) ∙ ap (λ (x : ℕ). has x p) (eqb-true _ _ e) ∙ h)

-- and a mask whose members are all in another lies within it
pub has_subset : (k a b : ℕ) → a < 2 ^ k → ((p : ℕ) → has a p ≡ true → has b p ≡ true) → subset a b ≡ true
has_subset k a b l h = eq-eqb _ _ (mask_ext k (bit_and a b) a (omega (arith, and_le_l a b)) l (λ p m. has_and a b p ∙ both p (which (has a p))))
  where
    both : (p : ℕ) → (has a p ≡ true) ⊎ (has a p ≡ false) → (has a p && has b p) ≡ has a p
    both p (inl e) = rw (e, h p e)
    both p (inr e) = rw e

-- ---- leader lists

-- one list after another
pub led_append : (m : ℕ) (h : ℕ → Bool) (g : ℕ → ℕ) (c a r x q b : ℕ) (xs ys : List ℕ) → Led m h g c a xs r x → Led m h g r x ys q b
    → Led m h g c a (xs ++ ys) q b
unfolding Led
led_append m h g c a r x q b [] ys p t = rw (p.0, p.1) t
led_append m h g c a r x q b (y ∷ xs) ys p t = (p.0, p.1, p.2, led_append m h g (id_round y) (g y + 1) r x q b xs ys p.3 t)

-- and taken apart
pub led_split : (m : ℕ) (h : ℕ → Bool) (g : ℕ → ℕ) (c a q b : ℕ) (xs ys : List ℕ) → Led m h g c a (xs ++ ys) q b
    → (r x : ℕ) × Led m h g c a xs r x × Led m h g r x ys q b
unfolding Led
led_split m h g c a q b [] ys p = (c, a, (refl, refl), p)
led_split m h g c a q b (y ∷ xs) ys p = let w = led_split m h g (id_round y) (g y + 1) q b xs ys p.3 in (w.0, w.1, (p.0, p.1, p.2, w.2), w.3)

-- where more is held, and the indices are the same
pub led_more : (m : ℕ) (h k : ℕ → Bool) (g f : ℕ → ℕ) (c a q b : ℕ) (xs : List ℕ) → ((y : ℕ) → h y ≡ true → k y ≡ true) → ((y : ℕ) → f y ≡ g y)
    → Led m h g c a xs q b → Led m k f c a xs q b
unfolding Led
led_more m h k g f c a q b [] s t p = p
led_more m h k g f c a q b (x ∷ xs) s t p =
    (s x p.0, rw (t x) p.1, rw (t x) p.2, rw (t x) (led_more m h k g f (id_round x) (g x + 1) q b xs s t p.3))

-- it comes to a place of m leaders a round
pub led_place : (m : ℕ) (h : ℕ → Bool) (g : ℕ → ℕ) (c a q b : ℕ) (xs : List ℕ) → a ≤ m → Led m h g c a xs q b → b ≤ m
unfolding Led
led_place m h g c a q b [] l p = omega (arith, p.1)
led_place m h g c a q b (x ∷ xs) l p = led_place m h g (id_round x) (g x + 1) q b xs (omega (arith, p.1)) p.3

-- at most as many entries as there are places
pub led_length : (m : ℕ) (h : ℕ → Bool) (g : ℕ → ℕ) (c a q b : ℕ) (xs : List ℕ) → a ≤ m → Led m h g c a xs q b → m * c + a + length xs ≤ m * q + b
unfolding Led
led_length m h g c a q b [] l p = rw (p.0, p.1) (omega arith)
led_length m h g c a q b (x ∷ xs) l p =
    omega (arith, led_length m h g (id_round x) (g x + 1) q b xs (omega (arith, p.1)) p.3, step p.2)
  where
    step : Next c a (id_round x) (g x) → m * c + a ≤ m * id_round x + g x
    step (inl w) = let k : suc c ≤ id_round x = w.1 in omega (arith, mul-suc m c, mul-le-mul_left m k, w.0)
    step (inr w) = rw w.1 (omega (arith, w.2))

-- ---- lists that name nothing twice

-- one more, and one less
pub once_more : (xs : List ℕ) (x : ℕ) → once xs ≡ true → among xs x ≡ false → once (xs ++ x ∷ []) ≡ true
once_more xs x p q = once_append xs (x ∷ []) p one (λ y e. among_one x y ∙ ne_eqb x y (λ d. never e (rw d at q)))
  where
    one : once (x ∷ []) ≡ true
    one = unfold once in and_both (ap not (among_none x)) once_none

-- what a list was before its last entry
pub once_less : (xs : List ℕ) (x : ℕ) → once (xs ++ x ∷ []) ≡ true → (once xs ≡ true) × (among xs x ≡ false)
unfolding once among
once_less [] x p = (refl, refl)
once_less (y ∷ xs) x p =
    let w = once_less xs x (and_right (not (among (xs ++ x ∷ []) y)) _ p) in
    let m : among (xs ++ x ∷ []) y ≡ false = not-true _ (and_left _ _ p) in
    let a = or_neither (among xs y) (among (x ∷ []) y) (sym (among_append xs (x ∷ []) y) ∙ m) in
    (and_both (ap not a.0) w.0, ap₂ ◌||◌ (ne_eqb y x (λ d. never (eq-eqb x y (sym d)) (sym (among_one x y) ∙ a.1))) w.1)

-- ---- words of the lists

-- n words of a state from word k on
pub length_part : (l : List ℕ) (k c : ℕ) → k + c ≤ length l → length (take c (drop k l)) ≡ c
length_part l k c h = length-take-le c (drop k l) (rw length-drop (omega arith))

-- one word more
pub part_more : (l : List ℕ) (k c : ℕ) → k + c < length l → take (suc c) (drop k l) ≡ take c (drop k l) ++ get_or l (k + c) 0 ∷ []
part_more l k c h = take-suc (drop k l) c 0 (rw length-drop (omega arith)) ∙ ap (λ (x : ℕ). take c (drop k l) ++ x ∷ []) (get_or-drop k l c 0)

-- ---- from the tests to the facts, and back

module _ (l : List ℕ) (size : length l ≡ state_size) where
  before_suc : (c : ℕ) → round_before l (suc c) ≡ id_round (leader_word l c)
  before_suc c = rw (ne_eqb (suc c) 0 (λ e. omega arith), sub-one (suc c))

  place_suc : (c : ℕ) → place_before l (suc c) ≡ leader_index l (leader_word l c) + 1
  place_suc c = rw (ne_eqb (suc c) 0 (λ e. omega arith), sub-one (suc c))

  -- the test of what comes next, and back
  to_next : (c a r i : ℕ) → comes_next c a r i ≡ true → Next c a r i
  to_next c a r i e = go (which (eqb i 0))
    where
      go : (eqb i 0 ≡ true) ⊎ (eqb i 0 ≡ false) → Next c a r i
      go (inl d) = inl (eqb-true i 0 d, ltb-true c r (sym (cond_true _ _ d) ∙ e))
      go (inr d) =
          let t = sym (cond_false _ _ d) ∙ e in
          inr (some i (eqb-false i 0 d), eqb-true r c (and_left _ _ t), eqb-true i a (and_right (eqb r c) _ t))
        where
          some : (x : ℕ) → (x ≡ 0 → ⊥) → 0 < x
          some zero h = absurd (h refl)
          some (suc x) h = omega arith

  from_next : (c a r i : ℕ) → Next c a r i → comes_next c a r i ≡ true
  from_next c a r i (inl w) = cond_true _ _ (eq-eqb i 0 w.0) ∙ lt-ltb c r w.1
  from_next c a r i (inr w) = cond_false _ _ (ne_eqb i 0 (λ e. omega (arith, w.0))) ∙ and_both (eq-eqb r c w.1) (eq-eqb i a w.2)

  -- the leader list
  to_led : (c : ℕ) → c ≤ leaders_size → all c (leader_ok l) ≡ true
      → Led (width l) (held_id l) (leader_index l) 0 0 (take c (drop leaders_at l)) (round_before l c) (place_before l c)
  unfolding all leader_ok Led
  to_led zero k e = (refl, refl)
  to_led (suc c) k e =
      let t : leader_ok l c ≡ true = and_right (all c (leader_ok l)) _ e in
      let t' = and_right (held_id l (leader_word l c)) _ t in
      rw (part_more l leaders_at c (omega arith), before_suc c, place_suc c)
      (led_append (width l) (held_id l) (leader_index l) 0 0 (round_before l c) (place_before l c) (id_round (leader_word l c))
      (leader_index l (leader_word l c) + 1)
      (take c (drop leaders_at l)) (leader_word l c ∷ [])
      (to_led c (omega arith) (and_left _ _ e))
      (and_left _ _ t, ltb-true _ _ (and_left _ _ t'), to_next _ _ _ _ (and_right (ltb (leader_index l (leader_word l c)) (width l)) _ t'), (refl, refl)))

  from_led : (c q b : ℕ) → c ≤ leaders_size → Led (width l) (held_id l) (leader_index l) 0 0 (take c (drop leaders_at l)) q b
      → (all c (leader_ok l) ≡ true) × (q ≡ round_before l c) × (b ≡ place_before l c)
  unfolding all leader_ok Led
  from_led zero q b k d = (refl, sym d.0, sym d.1)
  from_led (suc c) q b k d =
      let w = led_split (width l) (held_id l) (leader_index l) 0 0 q b (take c (drop leaders_at l)) (leader_word l c ∷ [])
      (rw (part_more l leaders_at c (omega arith)) at d) in
      let i = from_led c w.0 w.1 (omega arith) w.2 in
      let t = w.3 in (
        and_both i.0 (and_both t.0 (and_both (lt-ltb _ _ t.1) (from_next _ _ _ _ (rw (i.1, i.2) at t.2)))),
        sym t.3.0 ∙ sym (before_suc c),
        sym t.3.1 ∙ sym (place_suc c),
      )

  -- the journal
  to_once : (c : ℕ) → c ≤ journal_count l → journal_count l ≤ journal_size → all c (entry_ok l) ≡ true
      → (once (take c (drop journal_at l)) ≡ true) × ((y : ℕ) → among (take c (drop journal_at l)) y ≡ true → ordered_id l y ≡ true)
  unfolding all entry_ok
  to_once zero k m e = (once_none, λ y d. never d (among_none y))
  to_once (suc c) k m e =
      let t : entry_ok l c ≡ true = and_right (all c (entry_ok l)) _ e in
      let i = to_once c (omega arith) m (and_left _ _ e) in
      let a : among (take c (drop journal_at l)) (journal_word l c) ≡ false =
      ap (λ (xs : List ℕ). among xs (journal_word l c)) (sym (take-take c (journal_count l) (drop journal_at l) (omega arith)))
      ∙ not-true _ (and_right (ordered_id l (journal_word l c)) _ t) in
      rw (part_more l journal_at c (omega arith)) (
        once_more (take c (drop journal_at l)) (journal_word l c) i.0 a,
        λ y d. ⊎_elim (i.1 y) (λ f. ap (ordered_id l) (sym (eqb-true (journal_word l c) y (sym (among_one (journal_word l c) y) ∙ f))) ∙ and_left _ _ t)
            (or_cases _ _ (sym (among_append (take c (drop journal_at l)) (journal_word l c ∷ []) y) ∙ d)),
      )

  from_once : (c : ℕ) → c ≤ journal_count l → journal_count l ≤ journal_size → once (take c (drop journal_at l)) ≡ true
      → ((y : ℕ) → among (take c (drop journal_at l)) y ≡ true → ordered_id l y ≡ true) → all c (entry_ok l) ≡ true
  unfolding all entry_ok
  from_once zero k m p f = refl
  from_once (suc c) k m p f =
      let w = once_less (take c (drop journal_at l)) (journal_word l c) (rw (part_more l journal_at c (omega arith)) at p) in
      let g : (y : ℕ) → (among (take c (drop journal_at l)) y || among (journal_word l c ∷ []) y) ≡ true → ordered_id l y ≡ true =
      λ y d. f y (rw (part_more l journal_at c (omega arith)) (among_append (take c (drop journal_at l)) (journal_word l c ∷ []) y ∙ d)) in
      and_both (from_once c (omega arith) m w.0 (λ y d. g y (or_left _ d)))
      (and_both (g (journal_word l c) (or_right (among (take c (drop journal_at l)) (journal_word l c))
      (among_one (journal_word l c) (journal_word l c) ∙ eq-eqb (journal_word l c) _ refl)))
      (ap not (ap (λ (xs : List ℕ). among xs (journal_word l c)) (take-take c (journal_count l) (drop journal_at l) (omega arith)) ∙ w.1)))

  -- an ordered id is of a round up to 32
  pub ordered_limit : (y : ℕ) → ordered_id l y ≡ true → y < id_limit
  ordered_limit y e = omega (arith, (round_range (id_round y) (and_left _ _ e)).1)

  -- rounds from 1 and numbers from 0
  each : (t : ℕ → Bool) → all rounds (λ i. t (i + 1)) ≡ true → (r : ℕ) → 1 ≤ r → r ≤ rounds → t r ≡ true
  each t e r a b = ap t (omega arith) ∙ all_elim rounds (λ i. t (i + 1)) e (r - 1) (omega arith)

  every_round : (t : ℕ → Bool) → ((r : ℕ) → 1 ≤ r → r ≤ rounds → t r ≡ true) → all rounds (λ i. t (i + 1)) ≡ true
  every_round t f = all_intro rounds (λ i. t (i + 1)) (λ i k. f (i + 1) (omega arith) (omega arith))

  -- the six bounds of a round
  bounds : (r : ℕ) → masks_within l r ≡ true → (held_mask l r < 2 ^ member_count l) × (heard_mask l r < 2 ^ member_count l)
      × (votes_mask l r < 2 ^ member_count l)
      × (timeouts_mask l r < 2 ^ member_count l) × (no_votes_mask l r < 2 ^ member_count l) × (ordered_mask l r < 2 ^ member_count l)
  unfolding masks_within
  bounds r e =
      let n = member_count l in
      let e1 = and_right (within n (held_mask l r)) _ e in
      let e2 = and_right (within n (heard_mask l r)) _ e1 in
      let e3 = and_right (within n (votes_mask l r)) _ e2 in
      let e4 = and_right (within n (timeouts_mask l r)) _ e3 in (
        within_lt n _ (and_left _ _ e),
        within_lt n _ (and_left _ _ e1),
        within_lt n _ (and_left _ _ e2),
        within_lt n _ (and_left _ _ e3),
        within_lt n _ (and_left _ _ e4),
        within_lt n _ (and_right (within n (no_votes_mask l r)) _ e4),
      )

  bounded : (m : ℕ) → m < 2 ^ member_count l → within (member_count l) m ≡ true
  unfolding within
  bounded m h = lt-ltb _ _ h

  -- a cell that is held, and one that is not
  cell_held : (r p : ℕ) → cell_ok l r p ≡ true → has (held_mask l r) p ≡ true
      → (number_of (body_refusal (member_count l) r p (cell l r p)) ≡ 0) × (parents_held l r (cell l r p) ≡ true)
  unfolding cell_ok
  cell_held r p e h =
      let t = sym (cond_true _ _ h) ∙ e in
      (eqb-true _ _ (and_left _ _ t), and_right (eqb (number_of (body_refusal (member_count l) r p (cell l r p))) 0) _ t)

  cell_free : (r p : ℕ) → cell_ok l r p ≡ true → has (held_mask l r) p ≡ false → (i : ℕ) → i < body_size → get_or l (cell_at r p + i) 0 ≡ 0
  unfolding cell_ok
  cell_free r p e h i k = eqb-true _ _ (all_elim body_size (λ i. eqb (get_or l (cell_at r p + i) 0) 0) (sym (cond_false _ _ h) ∙ e) i k)

  cell_test : Cells l → (r p : ℕ) → 1 ≤ r → r ≤ rounds → p < slots → cell_ok l r p ≡ true
  unfolding cell_ok
  cell_test C r p a b k = ⊎_elim
      (λ h. cond_true _ _ h ∙ and_both (eq-eqb _ _ (C.admits r p a b k h)) (C.parents r p a b k h))
      (λ h. cond_false _ _ h ∙ all_intro body_size _ (λ i m. eq-eqb _ _ (C.zero_cell r p i a b k m h)))
      (which (has (held_mask l r) p))

  -- words beyond a count
  beyond : (c k : ℕ) (w : ℕ → ℕ) → all k (λ i. ltb i c || eqb (w i) 0) ≡ true → (i : ℕ) → c ≤ i → i < k → w i ≡ 0
  beyond c k w e i a b = ⊎_elim (λ h. absurd (omega (arith, ltb-true i c h))) (λ h. eqb-true _ _ h) (or_cases (ltb i c) (eqb (w i) 0) (all_elim k _ e i b))

  not_beyond : (c k : ℕ) (w : ℕ → ℕ) → ((i : ℕ) → c ≤ i → i < k → w i ≡ 0) → all k (λ i. ltb i c || eqb (w i) 0) ≡ true
  not_beyond c k w f = all_intro k _ (λ i b. ⊎_elim (λ h. or_left _ h) (λ h. or_right (ltb i c) (eq-eqb _ _ (f i (ltb-false i c h) b))) (which (ltb i c)))

-- A well-formed state has all the facts.
pub formed : (l : List ℕ) → length l ≡ state_size → well_formed l ≡ true → WellFormed l
unfolding well_formed leaders_ok journal_ok rest_zero last_leader_round last_place
formed l size e =
    let n = member_count l in
    let e1 = and_right (legal n) _ e in
    let e2 = and_right (leb 1 (current_round l) && leb (current_round l) (rounds + 1)) _ e1 in
    let e3 = and_right (leb (committed_round l) voted_rounds) _ e2 in
    let e4 = and_right (own_ok l) _ e3 in
    let e5 = and_right (all rounds (λ i. masks_within l (i + 1))) _ e4 in
    let e6 = and_right (all rounds (λ i. subset (votes_mask l (i + 1)) (heard_mask l (i + 1))) && eqb (votes_mask l 1) 0) _ e5 in
    let e7 = and_right (all rounds (λ i. subset (ordered_mask l (i + 1)) (held_mask l (i + 1)))) _ e6 in
    let e8 = and_right (all rounds (λ i. all slots (cell_ok l (i + 1)))) _ e7 in
    let e9 = and_right (leaders_ok l) _ e8 in
    let e10 = and_right (journal_ok l) _ e9 in
    let rest = and_left (rest_zero l) _ e10 in
    let g = legal_range n (and_left _ _ e) in
    let round = and_left (leb 1 (current_round l) && leb (current_round l) (rounds + 1)) _ e1 in
    let masks : (r : ℕ) → 1 ≤ r → r ≤ rounds → masks_within l r ≡ true = each l size (masks_within l) (and_left _ _ e4) in
    let votes = and_left (all rounds (λ i. subset (votes_mask l (i + 1)) (heard_mask l (i + 1))) && eqb (votes_mask l 1) 0) _ e5 in
    let cells : (r p : ℕ) → 1 ≤ r → r ≤ rounds → p < slots → cell_ok l r p ≡ true =
    λ r p a b k. all_elim slots (cell_ok l r) (each l size (λ r. all slots (cell_ok l r)) (and_left _ _ e7) r a b) p k in
    let leads = and_left (leaders_ok l) _ e8 in
    let leads' = and_right (leb (leader_count l) leaders_size) _ leads in
    let few : leader_count l ≤ leaders_size = leb-true _ _ (and_left _ _ leads) in
    let words = and_left (journal_ok l) _ e9 in
    let words' = and_right (leb (journal_count l) journal_size) _ words in
    let few' : journal_count l ≤ journal_size = leb-true _ _ (and_left _ _ words) in
    let listed = to_once l size (journal_count l) (omega arith) few' (and_left _ _ words') in
    record {
      size = size;
      front = record {
        members = and_left _ _ e;
        low = g.low;
        high = g.high;
        round_low = leb-true _ _ (and_left _ _ round);
        round_high = leb-true _ _ (and_right (leb 1 (current_round l)) _ round);
        own = and_left (own_ok l) _ e3;
      };
      masks = record {
        held_low = λ r a b. (bounds l size r (masks r a b)).0;
        heard_low = λ r a b. (bounds l size r (masks r a b)).1;
        votes_low = λ r a b. (bounds l size r (masks r a b)).2;
        timeouts_low = λ r a b. (bounds l size r (masks r a b)).3;
        no_votes_low = λ r a b. (bounds l size r (masks r a b)).4;
        votes_heard = λ r p a b h. subset_has _ _ (each l size (λ r. subset (votes_mask l r) (heard_mask l r)) (and_left _ _ votes) r a b) p h;
        votes_first = eqb-true _ _ (and_right (all rounds (λ i. subset (votes_mask l (i + 1)) (heard_mask l (i + 1)))) _ votes);
      };
      cells = record {
        admits = λ r p a b k h. (cell_held l size r p (cells r p a b k) h).0;
        parents = λ r p a b k h. (cell_held l size r p (cells r p a b k) h).1;
        zero_cell = λ r p i a b k m h. cell_free l size r p (cells r p a b k) h i m;
      };
      leaders = record {
        committed_high = leb-true _ _ (and_left _ _ e2);
        few = few;
        led = subst (λ (x : ℕ). Led (width l) (held_id l) (leader_index l) 0 0 (leader_list l) x (last_place l))
            (eqb-true _ _ (and_right (all (leader_count l) (leader_ok l)) _ leads'))
            (to_led l size (leader_count l) few (and_left _ _ leads'));
        rest = beyond l size (leader_count l) leaders_size (leader_word l) (and_left _ _ rest);
      };
      journal = record {
        ordered_low = λ r a b. (bounds l size r (masks r a b)).5;
        ordered_held = λ r p a b h. subset_has _ _ (each l size (λ r. subset (ordered_mask l r) (held_mask l r)) (and_left _ _ e6) r a b) p h;
        few = few';
        alone = listed.0;
        names = λ y. bool_ext (listed.1 y) (λ d. ⊎_elim (λ h. never d (not-true _ h)) (λ h. h) (or_cases (not (ordered_id l y)) _
            (all_elim id_limit (λ y. not (ordered_id l y) || among (journal_list l) y) (and_right (all (journal_count l) (entry_ok l)) _ words') y
            (ordered_limit l size y d))));
        rest = beyond l size (journal_count l) journal_size (journal_word l)
            (and_right (all leaders_size (λ i. ltb i (leader_count l) || eqb (leader_word l i) 0)) _ rest);
      };
    }

-- And a state that has them is well formed.
pub well_formed_lem : (l : List ℕ) → WellFormed l → well_formed l ≡ true
unfolding well_formed leaders_ok journal_ok rest_zero last_leader_round masks_within
well_formed_lem l S =
    let size = S.size in
    let n = member_count l in
    let M = S.masks in
    let J = S.journal in
    let w = from_led l size (leader_count l) (committed_round l) (last_place l) S.leaders.few S.leaders.led in
    and_both S.front.members
    (and_both (and_both (le-leb _ _ S.front.round_low) (le-leb _ _ S.front.round_high))
    (and_both (le-leb _ _ S.leaders.committed_high)
    (and_both S.front.own
    (and_both (every_round l size (masks_within l) (λ r a b.
    and_both (bounded l size _ (M.held_low r a b))
    (and_both (bounded l size _ (M.heard_low r a b))
    (and_both (bounded l size _ (M.votes_low r a b))
    (and_both (bounded l size _ (M.timeouts_low r a b)) (and_both (bounded l size _ (M.no_votes_low r a b)) (bounded l size _ (J.ordered_low r a b))))))))
    (and_both (and_both (every_round l size (λ r. subset (votes_mask l r) (heard_mask l r)) (λ r a b.
    has_subset n (votes_mask l r) (heard_mask l r) (M.votes_low r a b) (λ p h. M.votes_heard r p a b h))) (eq-eqb _ _ M.votes_first))
    (and_both (every_round l size (λ r. subset (ordered_mask l r) (held_mask l r)) (λ r a b.
    has_subset n (ordered_mask l r) (held_mask l r) (J.ordered_low r a b) (λ p h. J.ordered_held r p a b h)))
    (and_both (every_round l size (λ r. all slots (cell_ok l r)) (λ r a b. all_intro slots (cell_ok l r) (λ p k. cell_test l size S.cells r p a b k)))
    (and_both (and_both (le-leb _ _ S.leaders.few) (and_both w.0 (eq-eqb _ _ (sym w.1))))
    (and_both (and_both (le-leb _ _ J.few)
    (and_both (from_once l size (journal_count l) (omega arith) J.few J.alone (λ y d. sym (J.names y) ∙ d))
    (all_intro id_limit (λ y. not (ordered_id l y) || among (journal_list l) y) (λ y k. named y (which (ordered_id l y))))))
    (and_both
    (and_both (not_beyond l size (leader_count l) leaders_size (leader_word l) S.leaders.rest)
    (not_beyond l size (journal_count l) journal_size (journal_word l) J.rest))
    refl))))))))))
  where
    named : (y : ℕ) → (ordered_id l y ≡ true) ⊎ (ordered_id l y ≡ false) → (not (ordered_id l y) || among (journal_list l) y) ≡ true
    named y (inl e) = or_right (not (ordered_id l y)) (S.journal.names y ∙ e)
    named y (inr e) = or_left _ (ap not e)

-- ---- the lists, an entry at a time

module _ (l : List ℕ) (S : WellFormed l) where
  -- each list is as long as its count says
  pub leader_length : length (leader_list l) ≡ leader_count l
  leader_length = let few = S.leaders.few in length_part l leaders_at (leader_count l) (omega (arith, S.size))

  -- so the journal
  pub journal_length : length (journal_list l) ≡ journal_count l
  journal_length = let few = S.journal.few in length_part l journal_at (journal_count l) (omega (arith, S.size))

  -- the list is no longer than there are places up to the one that it comes to
  pub leaders_few : leader_count l ≤ width l * committed_round l + last_place l
  leaders_few =
      omega (
        arith,
        leader_length,
        led_length (width l) (held_id l) (leader_index l) 0 0 (committed_round l) (last_place l) (leader_list l) (omega arith)
            S.leaders.led,
      )

  -- which is one of the committed round
  pub leaders_place : last_place l ≤ width l
  leaders_place = led_place (width l) (held_id l) (leader_index l) 0 0 (committed_round l) (last_place l) (leader_list l) (omega arith) S.leaders.led
