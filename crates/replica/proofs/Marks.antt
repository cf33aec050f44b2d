-- Laws of the marks that the test of the journal sets, a mask for each round. Assumes nothing.
use mathlib.Core.Path.{◌≡◌, refl, sym, ap, ap₂, ◌∙◌}
use mathlib.Core.Bool.{Bool, true, false, not, ◌&&◌, ◌||◌, or-false}
use mathlib.Core.List.{List}
use mathlib.Core.Logic.{⊎_elim}
use Prim.Native.Nat.{ℕ, ◌+◌, ◌-◌, ◌^◌, ◌≤◌, ◌<◌}
use native.Mathlib.Omega.{arith}
use lib.Dec.{eqb, leb, lit<}
use lib.ListN.{length, get_or, take, set, replicate, length-set, length-replicate, get_or-replicate}
use lib.Seq.{get_or-set_same, get_or-set_other}
use borrow.Author.Tests.{eqb-true, eqb-false, eq-eqb, ne_eqb, le-leb, lt-leb}
use Rattle.record.specs.Below.{all}
use Rattle.record.specs.Members.{legal, has, add, id_of, id_round, id_member, is_round, id_limit, rounds, slots}
use Rattle.record.proofs.Booleans.{which, and_left, and_right, and_both, and_fails_left, and_fails_right, bool_ext, passed, failed, imp_elim}
use Rattle.record.proofs.Below.{all_none, all_more, all_intro, all_elim, all_stop}
use Rattle.record.proofs.Masks.{has_zero, has_add, add_lt, mask_ext}
use Rattle.record.proofs.Rounds.{round_range, id_same}
use Rattle.protocol.specs.Journal.{among}
use Rattle.replica.specs.Layout.{state_size, journal_size}
use Rattle.replica.specs.State.{member_count, journal_count, ordered_mask, journal_word, journal_list, ordered_id}
use Rattle.replica.specs.WellFormed.{each_round, masks_within, entry_ok, journal_ok}
use Rattle.replica.proofs.Words.{ordered_id_lem, masks_small, legal_pow, journal_length, journal_at_lem, journal_whole}
use Rattle.replica.proofs.Words.{among_more, among_index, index_among}
use Rattle.protocol.proofs.Lists.{among_none}

-- the marks after i entries: bit p of mask r is set if the id of round r + 1 and member p is among them
pub record Marked (l : List ℕ) (i : ℕ) (marks : List ℕ) : Type 0 where
  pub long : length marks ≡ rounds
  pub small : (r : ℕ) → r < rounds → get_or marks r 0 < 2 ^ slots
  pub same : (r p : ℕ) → r < rounds → p < slots → has (get_or marks r 0) p ≡ among (take i (journal_list l)) (id_of (r + 1) p)

pub marked_none : (l : List ℕ) → Marked l 0 (replicate rounds 0)
marked_none l = record {
  long = length-replicate {A = ℕ} rounds 0;
  small = λ r b. rw (get_or-replicate {A = ℕ} rounds r 0 0 b) (lit< tt);
  same = λ r p b h. rw (get_or-replicate {A = ℕ} rounds r 0 0 b) (has_zero p ∙ sym (among_none (id_of (r + 1) p)));
}

-- the mark of an id
pub mark_at : (l : List ℕ) (i : ℕ) (marks : List ℕ) (x at : ℕ) → Marked l i marks → 1 ≤ id_round x → id_round x ≤ rounds → at ≡ id_round x - 1
    → has (get_or marks at 0) (id_member x) ≡ among (take i (journal_list l)) x
mark_at l i marks x at m a b e =
    let y : id_of (at + 1) (id_member x) ≡ x = omega arith in
    m.same at (id_member x) (omega arith) (omega arith) ∙ ap (among (take i (journal_list l))) y

-- a mark more
pub marked_more : (l : List ℕ) (i : ℕ) (marks : List ℕ) (x at : ℕ) → length l ≡ state_size → journal_count l ≤ journal_size → i < journal_count l
    → x ≡ journal_word l i
    → Marked l i marks → 1 ≤ id_round x → id_round x ≤ rounds → at ≡ id_round x - 1
    → Marked l (i + 1) (set marks at (add (get_or marks at 0) (id_member x)))
marked_more l i marks x at e f h ex m a b d = record {
  long = length-set marks at _ ∙ m.long;
  small = λ r k. ⊎_elim (λ t. small_same r (eqb-true r at t) k)
      (λ t. rw (get_or-set_other marks at r (add (get_or marks at 0) (id_member x)) 0 (eqb-false r at t)) (m.small r k)) (which (eqb r at));
  same = λ r p k q. ⊎_elim (λ t. same_same r p (eqb-true r at t) q) (λ t. same_other r p k q (eqb-false r at t)) (which (eqb r at));
}
  where
    low : at < rounds
    low = omega arith

    added : (p : ℕ) → p < slots → (r : ℕ)
        → among (take (i + 1) (journal_list l)) (id_of (r + 1) p) ≡ (among (take i (journal_list l)) (id_of (r + 1) p) || eqb x (id_of (r + 1) p))
    added p q r =
        among_more (journal_list l) i (id_of (r + 1) p) (omega (arith, journal_length l e f))
        ∙ ap (λ (z : ℕ). among (take i (journal_list l)) (id_of (r + 1) p) || eqb z (id_of (r + 1) p)) (journal_at_lem l i h ∙ sym ex)

    small_same : (r : ℕ) → r ≡ at → r < rounds → get_or (set marks at (add (get_or marks at 0) (id_member x))) r 0 < 2 ^ slots
    small_same r t k =
        rw (t, get_or-set_same marks at (add (get_or marks at 0) (id_member x)) 0 (omega (arith, m.long)))
        (add_lt slots (get_or marks at 0) (id_member x) (m.small at low) (omega arith))

    same_same : (r p : ℕ) → r ≡ at → p < slots
        → has (get_or (set marks at (add (get_or marks at 0) (id_member x))) r 0) p ≡ among (take (i + 1) (journal_list l)) (id_of (r + 1) p)
    same_same r p t q =
        rw (t, get_or-set_same marks at (add (get_or marks at 0) (id_member x)) 0 (omega (arith, m.long)))
        (has_add (get_or marks at 0) (id_member x) p
        ∙ ap₂ ◌||◌ (m.same at p low q) (bool_ext
        (λ s. let u : id_member x ≡ p = eqb-true (id_member x) p s in eq-eqb x (id_of (at + 1) p) (omega arith))
        (λ s. let u : x ≡ id_of (at + 1) p = eqb-true x (id_of (at + 1) p) s in eq-eqb (id_member x) p (omega arith)))
        ∙ sym (added p q at))

    same_other : (r p : ℕ) → r < rounds → p < slots → (r ≡ at → ⊥)
        → has (get_or (set marks at (add (get_or marks at 0) (id_member x))) r 0) p ≡ among (take (i + 1) (journal_list l)) (id_of (r + 1) p)
    same_other r p k q t =
        rw (get_or-set_other marks at r (add (get_or marks at 0) (id_member x)) 0 t)
        (m.same r p k q ∙ sym (or-false (among (take i (journal_list l)) (id_of (r + 1) p)))
        ∙ ap (λ (c : Bool). among (take i (journal_list l)) (id_of (r + 1) p) || c) (sym (ne_eqb x (id_of (r + 1) p) (λ u. t (omega arith))))
        ∙ sym (added p q r))

-- ---- one entry

-- it is an id, and no entry before it is the same
pub new_id : List ℕ → ℕ → Bool
new_id l i = is_round (id_round (journal_word l i)) && not (among (take i (journal_list l)) (journal_word l i))

pub entry_new : (l : List ℕ) (i : ℕ) → is_round (id_round (journal_word l i)) ≡ true → among (take i (journal_list l)) (journal_word l i) ≡ false
    → new_id l i ≡ true
unfolding new_id
entry_new l i a b = and_both a (ap not b)

-- a new id is as it should be if it is ordered
pub new_ordered : (l : List ℕ) (i : ℕ) → new_id l i ≡ true
    → (is_round (id_round (journal_word l i)) ≡ true → has (ordered_mask l (id_round (journal_word l i))) (id_member (journal_word l i)) ≡ true)
    → entry_ok l i ≡ true
unfolding new_id entry_ok
new_ordered l i e h =
    let a = and_left (is_round (id_round (journal_word l i))) _ e in
    and_both (and_both a (h a)) (and_right (is_round (id_round (journal_word l i))) _ e)

pub entry_strange : (l : List ℕ) (i : ℕ) → is_round (id_round (journal_word l i)) ≡ false → entry_ok l i ≡ false
unfolding entry_ok
entry_strange l i a = and_fails_left (not (among (take i (journal_list l)) (journal_word l i))) (and_fails_left _ a)

pub entry_twice : (l : List ℕ) (i : ℕ) → among (take i (journal_list l)) (journal_word l i) ≡ true → entry_ok l i ≡ false
unfolding entry_ok
entry_twice l i b = and_fails_right (ordered_id l (journal_word l i)) (ap not b)

pub entry_ordered : (l : List ℕ) (i : ℕ) → entry_ok l i ≡ true → ordered_id l (journal_word l i) ≡ true
unfolding entry_ok
entry_ordered l i e = and_left (ordered_id l (journal_word l i)) _ e

-- ---- the journal

pub journal_long : (l : List ℕ) → journal_size < journal_count l → false ≡ journal_ok l
unfolding journal_ok
journal_long l h = sym (and_fails_left _ (lt-leb (journal_count l) journal_size h))

journal_stop : (l : List ℕ) (i : ℕ) → i < journal_count l → entry_ok l i ≡ false → false ≡ journal_ok l
unfolding journal_ok
journal_stop l i h e =
    sym (and_fails_right (leb (journal_count l) journal_size) (and_fails_left _ (all_stop (journal_count l) (entry_ok l) i h e)))

pub imply : (a b : Bool) → (a ≡ true → b ≡ true) → (not a || b) ≡ true
imply true b h = h refl
imply false b h = refl

-- y is listed if it is ordered
abbrev pub named : List ℕ → ℕ → Bool
named l y = not (ordered_id l y) || among (journal_list l) y

-- an entry of the journal is ordered
pub among_ordered : (l : List ℕ) (y : ℕ) → length l ≡ state_size → journal_count l ≤ journal_size → all (journal_count l) (entry_ok l) ≡ true
    → among (journal_list l) y ≡ true → ordered_id l y ≡ true
among_ordered l y e f h a =
    let w = among_index (journal_list l) y a in
    let k : w.0 < journal_count l = omega (arith, journal_length l e f) in
    let z : journal_word l w.0 ≡ y = sym (journal_at_lem l w.0 k) ∙ w.2 in
    rw z at (entry_ordered l w.0 (all_elim (journal_count l) (entry_ok l) h w.0 k))

-- where all entries pass, their marks decide
entries_decide : (l marks : List ℕ) → length l ≡ state_size → legal (member_count l) ≡ true → each_round (masks_within l) ≡ true
    → journal_count l ≤ journal_size
    → all (journal_count l) (entry_ok l) ≡ true → Marked l (journal_count l) marks
    → all rounds (λ i. eqb (get_or marks i 0) (ordered_mask l (i + 1))) ≡ journal_ok l
unfolding journal_ok
entries_decide l marks e g w f h m =
    bool_ext there back ∙ sym (both (leb (journal_count l) journal_size) (all (journal_count l) (entry_ok l)) (all id_limit (named l))
    (le-leb (journal_count l) journal_size f) h)
  where
    both : (a b c : Bool) → a ≡ true → b ≡ true → (a && (b && c)) ≡ c
    both a b c p q = rw (p, q)

    whole : (r p : ℕ) → r < rounds → p < slots → has (get_or marks r 0) p ≡ among (journal_list l) (id_of (r + 1) p)
    whole r p b q = m.same r p b q ∙ ap (λ (z : List ℕ). among z (id_of (r + 1) p)) (journal_whole l)

    there_at : all rounds (λ i. eqb (get_or marks i 0) (ordered_mask l (i + 1))) ≡ true → (y : ℕ) → ordered_id l y ≡ true → among (journal_list l) y ≡ true
    there_at t y o =
        let q = round_range (id_round y) (and_left _ _ o) in
        let k : (id_round y - 1) + 1 ≡ id_round y = omega arith in
        let low : id_round y - 1 < rounds = omega arith in
        let eq : get_or marks (id_round y - 1) 0
        ≡ ordered_mask l (id_round y - 1 + 1) = eqb-true _ _ (all_elim rounds (λ i. eqb (get_or marks i 0) (ordered_mask l (i + 1))) t (id_round y - 1) low)
        in
        let o₁ : has (ordered_mask l (id_round y - 1 + 1)) (id_member y) ≡ true = ap (λ (z : ℕ). has (ordered_mask l z) (id_member y)) k
        ∙ and_right (is_round (id_round y)) (has (ordered_mask l (id_round y)) (id_member y)) o in
        ap (among (journal_list l)) (sym (ap (λ (z : ℕ). id_of z (id_member y)) k ∙ id_same y))
        ∙ sym (whole (id_round y - 1) (id_member y) low (omega arith))
        ∙ ap (λ (z : ℕ). has z (id_member y)) eq ∙ o₁

    there : all rounds (λ i. eqb (get_or marks i 0) (ordered_mask l (i + 1))) ≡ true → all id_limit (named l) ≡ true
    there t = all_intro id_limit (named l) (λ y b. imply (ordered_id l y) (among (journal_list l) y) (there_at t y))

    back_at : all id_limit (named l) ≡ true → (r : ℕ) → r < rounds → (p : ℕ) → p < slots → has (get_or marks r 0) p ≡ has (ordered_mask l (r + 1)) p
    back_at t r b p q =
        whole r p b q
        ∙ bool_ext (among_ordered l (id_of (r + 1) p) e f h) (imp_elim (ordered_id l (id_of (r + 1) p)) (among (journal_list l) (id_of (r + 1) p))
        (all_elim id_limit (named l) t (id_of (r + 1) p) (omega arith)))
        ∙ ordered_id_lem l (r + 1) p (omega arith) (omega arith) q

    back : all id_limit (named l) ≡ true → all rounds (λ i. eqb (get_or marks i 0) (ordered_mask l (i + 1))) ≡ true
    back t = all_intro rounds (λ i. eqb (get_or marks i 0) (ordered_mask l (i + 1))) (λ r b. eq-eqb (get_or marks r 0) (ordered_mask l (r + 1))
        (mask_ext slots (get_or marks r 0) (ordered_mask l (r + 1)) (m.small r b)
        (legal_pow (member_count l) (ordered_mask l (r + 1)) g (masks_small l (r + 1) (all_elim rounds (λ k. masks_within l (k + 1)) w r b)).ordered)
        (back_at t r b)))

-- the marks of new ids decide
journal_decides : (l marks : List ℕ) → length l ≡ state_size → legal (member_count l) ≡ true → each_round (masks_within l) ≡ true
    → journal_count l ≤ journal_size
    → all (journal_count l) (new_id l) ≡ true → Marked l (journal_count l) marks
    → all rounds (λ i. eqb (get_or marks i 0) (ordered_mask l (i + 1))) ≡ journal_ok l
unfolding journal_ok
journal_decides l marks e g w f h m = bool_ext
    (λ t. sym (entries_decide l marks e g w f (entries t) m) ∙ t)
    (λ t. entries_decide l marks e g w f (and_left (all (journal_count l) (entry_ok l)) _ (and_right (leb (journal_count l) journal_size) _ t)) m ∙ t)
  where
    at_mark : all rounds (λ i. eqb (get_or marks i 0) (ordered_mask l (i + 1))) ≡ true → (i : ℕ) → i < journal_count l
        → is_round (id_round (journal_word l i)) ≡ true
        → has (ordered_mask l (id_round (journal_word l i))) (id_member (journal_word l i)) ≡ true
    at_mark t i b o =
        let x = journal_word l i in
        let q = round_range (id_round x) o in
        let k : (id_round x - 1) + 1 ≡ id_round x = omega arith in
        let eq : get_or marks (id_round x - 1) 0
        ≡ ordered_mask l (id_round x - 1 + 1) = eqb-true _ _ (all_elim rounds (λ i. eqb (get_or marks i 0) (ordered_mask l (i + 1))) t (id_round x - 1)
        (omega arith)) in
        ap (λ (z : ℕ). has (ordered_mask l z) (id_member x)) (sym k)
        ∙ ap (λ (z : ℕ). has z (id_member x)) (sym eq)
        ∙ mark_at l (journal_count l) marks x (id_round x - 1) m q.0 q.1 refl
        ∙ ap (λ (z : List ℕ). among z x) (journal_whole l)
        ∙ index_among (journal_list l) i x (omega (arith, journal_length l e f)) (journal_at_lem l i b)

    entries : all rounds (λ i. eqb (get_or marks i 0) (ordered_mask l (i + 1))) ≡ true → all (journal_count l) (entry_ok l) ≡ true
    entries t = all_intro (journal_count l) (entry_ok l) (λ i b. new_ordered l i (all_elim (journal_count l) (new_id l) h i b) (at_mark t i b))

-- ---- the test, entry after entry

-- the first i entries are new ids, and the marks are theirs
pub record Reading (l : List ℕ) (i : ℕ) (marks : List ℕ) : Type 0 where
  pub below : i ≤ journal_count l
  pub few : journal_count l ≤ journal_size
  pub new : all i (new_id l) ≡ true
  pub marked : Marked l i marks

pub reading_start : (l : List ℕ) → journal_count l ≤ journal_size → Reading l 0 (replicate rounds 0)
reading_start l f = record { below = omega arith; few = f; new = all_none (new_id l); marked = marked_none l }

-- x is entry i
module _ (l : List ℕ) (i : ℕ) (marks : List ℕ) (R : Reading l i marks) (h : i < journal_count l) (x : ℕ) (is : x ≡ journal_word l i) (b : Bool)
    (e : b ≡ is_round (id_round x)) where
  word : b ≡ is_round (id_round (journal_word l i))
  word = rw is at e

  -- it is no id
  pub reading_strange : not b ≡ true → false ≡ journal_ok l
  reading_strange t = journal_stop l i h (entry_strange l i (failed word t))

  -- or it is one: it stops the test if it is marked, and is marked if it is not
  module _ (t : not b ≡ false) (m : Bool) (f : m ≡ has (get_or marks (id_round x - 1) 0) (id_member x)) where
    entry_range : (1 ≤ id_round x) × (id_round x ≤ rounds)
    entry_range = round_range _ (passed e t)

    entry_mark : among (take i (journal_list l)) (journal_word l i) ≡ m
    entry_mark = rw (← is) (sym (f ∙ mark_at l i marks x _ R.marked entry_range.0 entry_range.1 refl))

    pub reading_twice : m ≡ true → false ≡ journal_ok l
    reading_twice y = journal_stop l i h (entry_twice l i (entry_mark ∙ y))

    pub reading_more : m ≡ false → (b : ℕ) → b ≡ add (get_or marks (id_round x - 1) 0) (id_member x) → length l ≡ state_size
        → Reading l (i + 1) (set marks (id_round x - 1) b)
    reading_more y b g size = record {
      below = omega arith;
      few = R.few;
      new = all_more _ _ R.new (entry_new l i (passed word t) (entry_mark ∙ y));
      marked = rw g (marked_more l i marks x _ size (omega (arith, R.few)) h is R.marked entry_range.0 entry_range.1 refl);
    }

-- at the end the marks decide
pub reading_decides : (l : List ℕ) (i : ℕ) (marks : List ℕ) (z : Bool) → Reading l i marks → journal_count l ≤ i → length l ≡ state_size
    → legal (member_count l) ≡ true → each_round (masks_within l) ≡ true → z ≡ all rounds (λ k. eqb (get_or marks k 0) (ordered_mask l (k + 1)))
    → z ≡ journal_ok l
reading_decides l i marks z R h e g w d =
    let same : i ≡ journal_count l = omega arith in
    d ∙ journal_decides l marks e g w (omega arith) (rw same at R.new) (rw same at R.marked)
