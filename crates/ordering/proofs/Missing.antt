-- The search for a parent that is not held: weak ids, which rise, and then the strong bits, all in rising order of ids. Assumes nothing.
use Rattle.std.specs.Prelude.{Some, None}
use mathlib.Core.Path.{◌≡◌, sym, ap, ◌∙◌}
use mathlib.Core.Bool.{Bool, true, false, not}
use mathlib.Core.Logic.{◌⊎◌, inl, inr, ⊎_elim}
use mathlib.Core.List.{List}
use Prim.Native.Nat.{ℕ, zero, suc, ◌+◌, ◌-◌, ◌≤◌, ◌<◌}
use native.Mathlib.Nat.{eq-or-lt_of_le}
use native.Mathlib.Numerals.{add-one}
use native.Mathlib.Omega.{arith}
use lib.Dec.{ltb}
use lib.ListN.{length, get_or, take, drop}
use lib.Seq.{get_or-take, get_or-drop}
use borrow.Author.Tests.{ltb-true, ltb-false}
use Rattle.record.specs.Below.{least, if_below}
use Rattle.record.specs.Members.{legal, has, id_of, id_round, id_member, rounds, slots, id_limit}
use Rattle.record.specs.Layout.{body_size, weak_slots, strong_of, weak_count_of, weak_of, strong_place, weak_count_place, weak_place}
use Rattle.record.specs.Admitted.{Admitted}
use Rattle.record.proofs.Booleans.{which, never, and_both, and_fails_left, and_fails_right, failed}
use Rattle.record.proofs.Below.{any_false, least_none, least_at, below_some, below_none}
use Rattle.record.proofs.Masks.{legal_range, has_bound}
use Rattle.record.proofs.Turn.{admitted}
use Rattle.replica.specs.Layout.{state_size}
use Rattle.replica.specs.State.{held_id}
use Rattle.replica.specs.Parents.{is_parent, missing}
use Rattle.replica.proofs.ParentLaws.{strong_parent, weak_parent_lem, parent_cases, weak_five, weak_small}
use Rattle.ordering.specs.Inner.{Searching}

-- the first i weak ids are held
abbrev pub WeakHeld : List ℕ → List ℕ → ℕ → Type 0
WeakHeld l body i = (k : ℕ) → k < i → held_id l (weak_of body k) ≡ true

-- all weak ids are held, and the strong parents below m
pub record StrongHeld (r : ℕ) (l body : List ℕ) (m : ℕ) : Type 0 where
  pub weak : WeakHeld l body (weak_count_of body)
  pub strong : (k : ℕ) → k < m → has (strong_of body) k ≡ true → held_id l (id_of (r - 1) k) ≡ true

-- what holds below i and at i holds below i + 1
one_more : (P : ℕ → Type 0) (i : ℕ) → ((k : ℕ) → k < i → P k) → P i → (k : ℕ) → k < i + 1 → P k
one_more P i f h k b = ⊎_elim (λ (e : k ≡ i). rw e h) (λ q. f k q) (eq-or-lt_of_le (le_of b))
  where
    le_of : k < i + 1 → k ≤ i
    le_of q = omega arith

module _ (n r p : ℕ) (l body : List ℕ) (group : legal n ≡ true) (a : Admitted n r p body) where
  -- no id that is held is missing, and none that is no parent's
  not_missing : (y : ℕ) → held_id l y ≡ true → missing l r body y ≡ false
  unfolding missing
  not_missing y h = and_fails_right (is_parent r body y) (ap not h)

  not_parent : (y : ℕ) → is_parent r body y ≡ false → missing l r body y ≡ false
  unfolding missing
  not_parent y h = and_fails_left _ h

  -- weak ids rise with their slots
  weak_rises : (i j : ℕ) → i < j → j < weak_count_of body → weak_of body i < weak_of body j
  weak_rises i zero h c = absurd (omega arith)
  weak_rises i (suc j) h c = go (eq-or-lt_of_le h) (λ k. weak_rises i j k (omega arith))
    where
      step : weak_of body j < weak_of body (suc j)
      step = rw (add-one j) at (a.weak_rising j (omega (arith, weak_five n r p l body group a, add-one j)) (omega (arith, add-one j)))

      go : (suc i ≡ suc j) ⊎ (suc i < suc j) → (i < j → weak_of body i < weak_of body j) → weak_of body i < weak_of body (suc j)
      go (inl e) ih = let q : i ≡ j = omega arith in rw q step
      go (inr k) ih = omega (arith, ih (omega arith), step)

  -- after i held weak ids one that is not held is the smallest missing id
  weak_found : (i : ℕ) → i < weak_count_of body → WeakHeld l body i → held_id l (weak_of body i) ≡ false → weak_of body i ≡ least id_limit (missing l r body)
  unfolding missing
  weak_found i c w h = sym (least_at id_limit (missing l r body) (weak_of body i) (weak_small n r p l body group a i c) (any_false _ _ lower)
      (and_both (weak_parent_lem r body i c) (ap not h)))
    where
      high : id_round (weak_of body i) + 2 ≤ r
      high = a.weak_high i (omega (arith, weak_five n r p l body group a)) c

      lower : (y : ℕ) → y < weak_of body i → missing l r body y ≡ false
      lower y q = ⊎_elim (λ e. ⊎_elim (λ s. absurd (omega (arith, s.0, high))) (λ t. below t.0 t.1 t.2) (parent_cases r body y e))
          (not_parent y) (which (is_parent r body y))
        where
          below : (k : ℕ) → k < weak_count_of body → weak_of body k ≡ y → missing l r body y ≡ false
          below k ck e = ⊎_elim
              (λ t. not_missing y (ap (held_id l) (sym e) ∙ w k (ltb-true k i t)))
              (λ t. absurd (above (ltb-false k i t)))
              (which (ltb k i))
            where
              above : i ≤ k → ⊥
              above t = ⊎_elim (λ s. omega (arith, ap (weak_of body) s, e)) (λ s. omega (arith, weak_rises i k s ck, e)) (eq-or-lt_of_le t)

  -- a missing id is none of those that were looked at
  none_below : (m : ℕ) → StrongHeld r l body m → (y : ℕ) → (id_round y + 1 ≡ r → has (strong_of body) (id_member y) ≡ true → id_member y < m)
      → missing l r body y ≡ false
  none_below m w y f = ⊎_elim
      (λ e. ⊎_elim
      (λ s. not_missing y (ap (held_id l) (strong_id s.0) ∙ w.strong (id_member y) (f s.0 s.1) s.1))
      (λ t. not_missing y (ap (held_id l) (sym t.2) ∙ w.weak t.0 t.1))
      (parent_cases r body y e))
      (not_parent y) (which (is_parent r body y))
    where
      strong_id : id_round y + 1 ≡ r → y ≡ id_of (r - 1) (id_member y)
      strong_id q = omega arith

  -- after all weak ids and the strong parents below m one that is not held is the smallest missing id
  strong_found : (m : ℕ) → m < n → StrongHeld r l body m → has (strong_of body) m ≡ true → held_id l (id_of (r - 1) m) ≡ false
      → id_of (r - 1) m ≡ least id_limit (missing l r body)
  unfolding missing
  strong_found m c w e h =
      let q = legal_range n group in
      let x : id_member (id_of (r - 1) m) ≡ m = omega arith in
      sym (least_at id_limit (missing l r body) (id_of (r - 1) m) (omega (arith, a.round_high))
      (any_false _ _ (λ y b. none_below m w y (λ s t. omega arith)))
      (and_both (strong_parent r body (id_of (r - 1) m) (omega (arith, a.round_low)) (rw x e)) (ap not h)))

  -- all parents are held
  none_found : (m : ℕ) → n ≤ m → StrongHeld r l body m → id_limit ≡ least id_limit (missing l r body)
  none_found m c w = sym (least_none id_limit (missing l r body) (any_false id_limit (missing l r body)
      (λ y b. none_below m w y (λ s t. omega (arith, has_bound n (strong_of body) (id_member y) a.strong_low t)))))

-- a weak id as the code reads it
abbrev pub weak_word : List ℕ → ℕ → ℕ
weak_word body i = get_or (take (weak_place + get_or body weak_count_place 0 - weak_place) (drop weak_place body)) i 0

weak_read : (body : List ℕ) (i : ℕ) → i < get_or body weak_count_place 0 → weak_word body i ≡ weak_of body i
unfolding weak_of
weak_read body i h = get_or-take _ (drop weak_place body) i 0 (omega arith) ∙ get_or-drop weak_place body i 0

-- what each step of the search may use, in the terms of the code
pub record Search (n r : ℕ) (l body : List ℕ) : Type 0 where
  pub state_long : length l ≡ state_size
  pub size : length body ≡ body_size
  pub low : 1 ≤ r
  pub high : r ≤ rounds
  pub few : n ≤ slots
  pub used : get_or body weak_count_place 0 ≤ weak_slots
  pub start : WeakHeld l body 0
  pub weak_more : (i : ℕ) → i < get_or body weak_count_place 0 → WeakHeld l body i → (t : Bool) → t ≡ held_id l (weak_word body i) → t ≡ true
      → WeakHeld l body (i + 1)
  pub weak_lacks : (i : ℕ) → i < get_or body weak_count_place 0 → WeakHeld l body i → (t : Bool) → t ≡ held_id l (weak_word body i) → t ≡ false
      → Some (weak_word body i) ≡ if_below id_limit (least id_limit (missing l r body))
  pub weak_all : (i : ℕ) → get_or body weak_count_place 0 ≤ i → WeakHeld l body i → WeakHeld l body (weak_count_of body)
  pub strong_none : WeakHeld l body (weak_count_of body) → StrongHeld r l body 0
  pub strong_more : (m : ℕ) → StrongHeld r l body m → (b : Bool) → b ≡ has (get_or body strong_place 0) m → (b ≡ false) ⊎ (held_id l (id_of (r - 1) m) ≡ true)
      → StrongHeld r l body (m + 1)
  pub strong_lacks : (m : ℕ) → StrongHeld r l body m → m < n → (b : Bool) → b ≡ has (get_or body strong_place 0) m → b ≡ true
      → (t : Bool) → t ≡ held_id l (id_of (r - 1) m) → not t ≡ true → Some (id_of (r - 1) m) ≡ if_below id_limit (least id_limit (missing l r body))
  pub strong_all : (m : ℕ) → StrongHeld r l body m → n ≤ m → None ≡ if_below id_limit (least id_limit (missing l r body))

pub searched : (l : List ℕ) (n r : ℕ) (body : List ℕ) → Searching l n r body → Search n r l body
unfolding strong_of weak_count_of weak_of
searched l n r body searching =
    let p = searching.source in
    let pre = searching.placing in
    let a = admitted n r p body pre.admitted in
    record {
      state_long = pre.size;
      size = a.size;
      low = a.round_low;
      high = a.round_high;
      few = (legal_range n pre.legit).high;
      used = weak_five n r p l body pre.legit a;
      start = λ k b. absurd (omega arith);
      weak_more = λ i b w t e h. one_more (λ k. held_id l (weak_of body k) ≡ true) i w (ap (held_id l) (sym (weak_read body i b)) ∙ sym e ∙ h);
      weak_lacks = λ i b w t e h.
          let d = weak_read body i b in
          let small = weak_small n r p l body pre.legit a i b in
          below_some _ _ _ (d ∙ weak_found n r p l body pre.legit a i b w (ap (held_id l) (sym d) ∙ sym e ∙ h)) (omega (arith, d, small));
      weak_all = λ i b w k d. w k (omega arith);
      strong_none = λ w. record { weak = w; strong = λ k d. absurd (omega arith) };
      strong_more = λ m w b e h. record {
        weak = w.weak;
        strong = one_more (λ k. has (strong_of body) k ≡ true → held_id l (id_of (r - 1) k) ≡ true) m w.strong
            (λ q. ⊎_elim (λ d. never q (sym e ∙ d)) (λ d. d) h);
      };
      strong_lacks = λ m w b q c e t f h.
          let g = legal_range n pre.legit in
          below_some _ _ _ (strong_found n r p l body pre.legit a m b w (sym c ∙ e) (failed f h)) (omega (arith, a.round_high));
      strong_all = λ m w b. below_none _ _ (omega (arith, none_found n r p l body pre.legit a m b w));
    }
