-- How the leader list and the journal grow: by one, by many, and by a commit. Assumes nothing.
use mathlib.Core.Path.{◌≡◌, refl, sym, ap, ap₂, ◌∙◌}
use mathlib.Core.Bool.{Bool, true, false, not, ◌&&◌, ◌||◌, or-false}
use mathlib.Core.Logic.{◌⊎◌, inl, inr, ⊎_elim}
use mathlib.Core.List.{List, [], ◌∷◌, ◌++◌, append_assoc, append-nil}
use Prim.Native.Nat.{ℕ, zero, suc, ◌+◌, ◌^◌, ◌≤◌, ◌<◌}
use native.Mathlib.Numerals.{add-one}
use native.Mathlib.Omega.{arith}
use lib.Dec.{eqb, ltb}
use lib.ListN.{length, get_or, set, drop, length-append, length-drop}
use lib.Seq.{lt-length-set, get_or-set_same, get_or-set_other, drop-set-lt, drop-set-add, take-suc-set}
use borrow.Author.Tests.{eqb-true, eqb-false, eq-eqb, ne_eqb, not-true}
use Rattle.record.specs.Below.{count, select}
use Rattle.record.specs.Members.{legal, has, add, id_round, id_member, is_round, id_limit, rounds}
use Rattle.record.proofs.Booleans.{which, never, and_left, and_right, or_cases, or_left, or_right, bool_ext}
use Rattle.record.proofs.Below.{count_mono, count_cong, select_cong, digit_mono}
use Rattle.record.proofs.Masks.{has_add, add_lt}
use Rattle.record.proofs.Rounds.{round_range, round_in}
use Rattle.protocol.specs.Dag.{Records, held}
use Rattle.protocol.specs.Paths.{history}
use Rattle.protocol.specs.Chain.{chain}
use Rattle.protocol.specs.Single.{one_taken}
use Rattle.protocol.specs.Journal.{among, fresh, extend}
use Rattle.protocol.specs.Premises.{ValidVertices}
use Rattle.protocol.proofs.Lists.{or_assoc, among_none, among_append, among_one, among_select, once, once_select}
use Rattle.protocol.proofs.History.{Named, named_up, history_held}
use Rattle.protocol.proofs.Laws.{chain_length}
use Rattle.replica.specs.Layout.{committed_round_at}
use Rattle.replica.specs.Layout.{state_size, ordered_at, leaders_at, leaders_size, journal_at, journal_size, leader_count_at, journal_count_at, member_count_at}
use Rattle.replica.specs.State.{member_count, committed_round, leader_count, journal_count, ordered_mask, leader_word, journal_word, leader_list, journal_list}
use Rattle.replica.specs.State.{vertices, firsts, ordered_id, add_member, width, last_place}
use Rattle.replica.proofs.Formed.{WellFormed, journal_length}
use Rattle.replica.proofs.Dags.{dag_well_formed}
use Rattle.replica.proofs.Width.{width_one}
use Rattle.replica.proofs.Keeping.{Keeps, keeps_refl, keeps_trans, keeps_less, keeps_set, leader_list_kept, journal_list_kept, ordered_id_kept}
use Rattle.commits.specs.Commit.{append_leader, append_leaders, enter, enter_all, order_leader, order_leaders, taken, commit}
use Rattle.commits.specs.Standing.{Standing, Room, Ready}
use Rattle.commits.proofs.Readying.{ready_before, taken_held}
use Rattle.commits.proofs.Ground.{room, room_limit, width_fits, ended, one_place}
use Rattle.commits.proofs.Frames.{OffLeaders, OffJournal, OffLists, keeps_leader, keeps_entry, journal_lists, lists_standing}
use Rattle.commits.proofs.Frames.{lists_vertices, lists_firsts}

-- ---- words set one after the other

module _ (l : List ℕ) (i x j y : ℕ) where
  last_of_two : j < length l → get_or (set (set l i x) j y) j 0 ≡ y
  last_of_two h = get_or-set_same (set l i x) j y 0 (lt-length-set l i x h)

  none_of_two : (m : ℕ) → (m ≡ i → ⊥) → (m ≡ j → ⊥) → get_or (set (set l i x) j y) m 0 ≡ get_or l m 0
  none_of_two m a b = get_or-set_other (set l i x) j m y 0 b ∙ get_or-set_other l i m x 0 a

  module _ (k z : ℕ) where
    last_of_three : k < length l → get_or (set (set (set l i x) j y) k z) k 0 ≡ z
    last_of_three h = get_or-set_same (set (set l i x) j y) k z 0 (lt-length-set (set l i x) j y (lt-length-set l i x h))

    first_of_three : i < length l → (i ≡ j → ⊥) → (i ≡ k → ⊥) → get_or (set (set (set l i x) j y) k z) i 0 ≡ x
    first_of_three h a b = get_or-set_other (set (set l i x) j y) k i z 0 b ∙ get_or-set_other (set l i x) j i y 0 a ∙ get_or-set_same l i x 0 h

    none_of_three : (m : ℕ) → (m ≡ i → ⊥) → (m ≡ j → ⊥) → (m ≡ k → ⊥) → get_or (set (set (set l i x) j y) k z) m 0 ≡ get_or l m 0
    none_of_three m a b c = get_or-set_other (set (set l i x) j y) k m z 0 c ∙ none_of_two m a b

-- ---- the leader list

-- l' is l with these ids appended to the leader list
pub record Appended (l xs l' : List ℕ) : Type 0 where
  pub kept : Keeps OffLeaders l l'
  pub list : leader_list l' ≡ leader_list l ++ xs
  pub count : leader_count l' ≡ leader_count l + length xs
  pub rest : (i : ℕ) → leader_count l' ≤ i → i < leaders_size → leader_word l' i ≡ leader_word l i

-- nothing appended
pub appended_none : (l : List ℕ) → Appended l [] l
appended_none l = record { kept = keeps_refl OffLeaders l; list = sym (append-nil (leader_list l)); count = omega arith; rest = λ i a b. refl }

-- first these, then those
pub appended_trans : (a b c xs ys : List ℕ) → Appended a xs b → Appended b ys c → Appended a (xs ++ ys) c
appended_trans a b c xs ys p q = record {
  kept = keeps_trans OffLeaders a b c p.kept q.kept;
  list = q.list ∙ ap (λ (z : List ℕ). z ++ ys) p.list ∙ append_assoc (leader_list a) xs ys;
  count = omega (arith, p.count, q.count, length-append xs ys);
  rest = λ i h k. q.rest i h k ∙ p.rest i (omega (arith, q.count)) k;
}

-- one leader
pub append_one : (l : List ℕ) (r : ℕ) → length l ≡ state_size → leader_count l < leaders_size → Appended l (r ∷ []) (append_leader l r)
append_one l r size h = record { kept = keeps_leader l r h; list = grown; count = counted ∙ omega arith; rest = beyond }
  where
    counted : leader_count (append_leader l r) ≡ leader_count l + 1
    counted = unfold append_leader in last_of_two l (leaders_at + leader_count l) r leader_count_at (leader_count l + 1) (omega arith)

    words : drop leaders_at (append_leader l r) ≡ set (drop leaders_at l) (leader_count l) r
    words = unfold append_leader in
        drop-set-lt leaders_at (set l (leaders_at + leader_count l) r) leader_count_at (leader_count l + 1) (omega arith)
        ∙ drop-set-add leaders_at l (leader_count l) r

    grown : leader_list (append_leader l r) ≡ leader_list l ++ r ∷ []
    grown = rw (counted, words, add-one (leader_count l)) (take-suc-set (drop leaders_at l) (leader_count l) r
        (rw length-drop (omega arith)))

    beyond : (i : ℕ) → leader_count (append_leader l r) ≤ i → i < leaders_size → leader_word (append_leader l r) i ≡ leader_word l i
    beyond i a b = other (rw counted at a)
      where
        other : leader_count l + 1 ≤ i → leader_word (append_leader l r) i ≡ leader_word l i
        other a = unfold append_leader in
            none_of_two l (leaders_at + leader_count l) r leader_count_at (leader_count l + 1) (leaders_at + i)
            (λ e. omega arith) (λ e. omega arith)

-- several leaders
pub append_all : (l rs : List ℕ) → length l ≡ state_size → leader_count l + length rs ≤ leaders_size → Appended l rs (append_leaders l rs)
unfolding append_leaders
append_all l [] size h = appended_none l
append_all l (r ∷ rs) size h =
    let a = append_one l r size (omega arith) in
    let rest = append_all (append_leader l r) rs (a.kept.size ∙ size) (omega (arith, a.count)) in
    appended_trans l (append_leader l r) (append_leaders (append_leader l r) rs) (r ∷ []) rs a rest

-- ---- one journal entry

-- a larger set counts more
count_larger : (s t : ℕ → Bool) (y k : ℕ) → ((i : ℕ) → s i ≡ true → t i ≡ true) → s y ≡ false → t y ≡ true → y < k → count k s + 1 ≤ count k t
unfolding count
count_larger s t y zero f a b h = absurd (omega arith)
count_larger s t y (suc k) f a b h = go (which (eqb y k)) (count_larger s t y k f a b)
  where
    go : (eqb y k ≡ true) ⊎ (eqb y k ≡ false) → (y < k → count k s + 1 ≤ count k t) → count (suc k) s + 1 ≤ count (suc k) t
    go (inl q) ih = rw (ap s (sym (eqb-true y k q)) ∙ a, ap t (sym (eqb-true y k q)) ∙ b) (omega (arith, count_mono k s t f))
    go (inr q) ih = omega (arith, ih (omega (arith, eqb-false y k q)), digit_mono (s k) (t k) (f k))

module _ (l : List ℕ) (y : ℕ) (size : length l ≡ state_size) (low : 1 ≤ id_round y) (high : id_round y ≤ rounds) where
  -- the ordered masks afterwards
  mask_here : ordered_mask (enter l y) (id_round y) ≡ add (ordered_mask l (id_round y)) (id_member y)
  unfolding enter add_member
  mask_here = first_of_three l (ordered_at (id_round y)) (add (ordered_mask l (id_round y)) (id_member y)) (journal_at + journal_count l) y journal_count_at
      (journal_count l + 1)
      (omega arith) (λ e. omega arith) (λ e. omega arith)

  mask_other : (r : ℕ) → 1 ≤ r → r ≤ rounds → (id_round y ≡ r → ⊥) → ordered_mask (enter l y) r ≡ ordered_mask l r
  unfolding enter add_member
  mask_other r a b h = none_of_three l (ordered_at (id_round y)) (add (ordered_mask l (id_round y)) (id_member y))
      (journal_at + journal_count l) y journal_count_at (journal_count l + 1)
      (ordered_at r) (λ e. h (omega arith)) (λ e. omega arith) (λ e. omega arith)

  -- y is ordered besides
  pub enter_ordered : (z : ℕ) → ordered_id (enter l y) z ≡ (ordered_id l z || eqb y z)
  enter_ordered z = go (which (is_round (id_round z))) (which (eqb (id_round y) (id_round z)))
    where
      members : id_round y ≡ id_round z → eqb (id_member y) (id_member z) ≡ eqb y z
      members e = bool_ext (λ d. eq-eqb y z (omega (arith, eqb-true (id_member y) (id_member z) d))) (λ d. eq-eqb (id_member y) (id_member z)
          (ap id_member (eqb-true y z d)))

      apart : (id_round y ≡ id_round z → ⊥) → eqb y z ≡ false
      apart h = ne_eqb y z (λ e. h (ap id_round e))

      go : (is_round (id_round z) ≡ true) ⊎ (is_round (id_round z) ≡ false) → (eqb (id_round y) (id_round z) ≡ true) ⊎ (eqb (id_round y) (id_round z) ≡ false)
          → ordered_id (enter l y) z ≡ (ordered_id l z || eqb y z)
      go (inr e) d = rw e (sym (apart (λ q. never (round_in (id_round y) low high) (ap is_round q ∙ e))))
      go (inl e) (inl d) =
          let q = eqb-true (id_round y) (id_round z) d in
          rw e (ap (λ (r : ℕ). has (ordered_mask (enter l y) r) (id_member z)) (sym q) ∙ ap (λ (m : ℕ). has m (id_member z)) mask_here
          ∙ has_add (ordered_mask l (id_round y)) (id_member y) (id_member z)
          ∙ ap₂ ◌||◌ (ap (λ (r : ℕ). has (ordered_mask l r) (id_member z)) q) (members q))
      go (inl e) (inr d) =
          let w = round_range (id_round z) e in
          let h = eqb-false (id_round y) (id_round z) d in
          rw (e, apart h) (ap (λ (m : ℕ). has m (id_member z)) (mask_other (id_round z) w.0 w.1 h)
          ∙ sym (or-false (has (ordered_mask l (id_round z)) (id_member z))))

  -- the ordered masks stay below a bound that is above y's member
  pub enter_low : (k : ℕ) → id_member y < k → ((r : ℕ) → 1 ≤ r → r ≤ rounds → ordered_mask l r < 2 ^ k) → (r : ℕ) → 1 ≤ r → r ≤ rounds
      → ordered_mask (enter l y) r < 2 ^ k
  enter_low k h f r a b = ⊎_elim
      (λ d. let q = eqb-true (id_round y) r d in rw (← q) (rw mask_here (add_lt k _ (id_member y) (f (id_round y) low high) h)))
      (λ d. rw (mask_other r a b (eqb-false (id_round y) r d)) (f r a b))
      (which (eqb (id_round y) r))

  -- one entry more
  pub enter_count : journal_count (enter l y) ≡ journal_count l + 1
  enter_count = unfold enter in unfold add_member in
      last_of_three l (ordered_at (id_round y)) (add (ordered_mask l (id_round y)) (id_member y)) (journal_at + journal_count l) y journal_count_at
      (journal_count l + 1) (omega arith)

  -- y is the last entry, and the words beyond stay
  pub enter_list : journal_count l < journal_size → journal_list (enter l y) ≡ journal_list l ++ y ∷ []
  enter_list fits = rw (enter_count, words, add-one (journal_count l)) (take-suc-set (drop journal_at l) (journal_count l) y (rw length-drop (omega arith)))
    where
      words : drop journal_at (enter l y) ≡ set (drop journal_at l) (journal_count l) y
      words = unfold enter in unfold add_member in
          drop-set-lt journal_at (set (set l (ordered_at (id_round y)) (add (ordered_mask l (id_round y)) (id_member y)))
          (journal_at + journal_count l) y) journal_count_at
          (journal_count l + 1) (omega arith)
          ∙ drop-set-add journal_at (set l (ordered_at (id_round y)) (add (ordered_mask l (id_round y)) (id_member y))) (journal_count l) y
          ∙ ap (λ (xs : List ℕ). set xs (journal_count l) y)
          (drop-set-lt journal_at l (ordered_at (id_round y)) (add (ordered_mask l (id_round y)) (id_member y))
          (omega arith))

  enter_rest : (i : ℕ) → journal_count l + 1 ≤ i → journal_word (enter l y) i ≡ journal_word l i
  unfolding enter add_member
  enter_rest i h =
      none_of_three l (ordered_at (id_round y)) (add (ordered_mask l (id_round y)) (id_member y)) (journal_at + journal_count l) y journal_count_at
      (journal_count l + 1) (journal_at + i)
      (λ e. omega arith) (λ e. omega arith) (λ e. omega arith)

  -- where y is not ordered yet, there is room for it, and room again afterwards
  module _ (R : Room l) (new : ordered_id l y ≡ false) where
    more : count id_limit (ordered_id l) + 1 ≤ count id_limit (ordered_id (enter l y))
    more = count_larger (ordered_id l) (ordered_id (enter l y)) y id_limit (λ i e. enter_ordered i ∙ or_left _ e) new
        (enter_ordered y ∙ or_right (ordered_id l y) (eq-eqb y y refl)) (omega arith)

    -- the journal is not full
    pub enter_fits : journal_count l < journal_size
    enter_fits = omega (arith, R, more, room_limit (enter l y))

    -- and Room holds again
    pub enter_room : Room (enter l y)
    enter_room = omega (arith, R, more, enter_count)

-- ---- many entries

-- l' is l with these ids ordered and entered in the journal
pub record Entered (l xs l' : List ℕ) : Type 0 where
  pub kept : Keeps OffJournal l l'
  pub room : Room l'
  pub list : journal_list l' ≡ journal_list l ++ xs
  pub count : journal_count l' ≡ journal_count l + length xs
  pub rest : (i : ℕ) → journal_count l' ≤ i → i < journal_size → journal_word l' i ≡ journal_word l i
  pub ordered : (z : ℕ) → ordered_id l' z ≡ (ordered_id l z || among xs z)
  pub low : (k : ℕ) → ((y : ℕ) → among xs y ≡ true → id_member y < k) → ((r : ℕ) → 1 ≤ r → r ≤ rounds → ordered_mask l r < 2 ^ k)
      → (r : ℕ) → 1 ≤ r → r ≤ rounds → ordered_mask l' r < 2 ^ k

-- nothing entered
pub entered_none : (l : List ℕ) → Room l → Entered l [] l
entered_none l R = record {
  kept = keeps_refl OffJournal l;
  room = R;
  list = sym (append-nil (journal_list l));
  count = omega arith;
  rest = λ i a b. refl;
  ordered = λ z. sym (ap (λ (b : Bool). ordered_id l z || b) (among_none z) ∙ or-false (ordered_id l z));
  low = λ k f g. g;
}

-- first these, then those
pub entered_trans : (a b c xs ys : List ℕ) → Entered a xs b → Entered b ys c → Entered a (xs ++ ys) c
entered_trans a b c xs ys p q = record {
  kept = keeps_trans OffJournal a b c p.kept q.kept;
  room = q.room;
  list = q.list ∙ ap (λ (z : List ℕ). z ++ ys) p.list ∙ append_assoc (journal_list a) xs ys;
  count = omega (arith, p.count, q.count, length-append xs ys);
  rest = λ i h k. q.rest i h k ∙ p.rest i (omega (arith, q.count)) k;
  ordered = λ z. q.ordered z ∙ ap (λ (t : Bool). t || among ys z) (p.ordered z) ∙ or_assoc (ordered_id a z) (among xs z) (among ys z)
      ∙ ap (λ (t : Bool). ordered_id a z || t) (sym (among_append xs ys z));
  low = λ k f g. q.low k (λ y e. f y (among_append xs ys y ∙ or_right (among xs y) e)) (p.low k (λ y e. f y (among_append xs ys y ∙ or_left _ e)) g);
}

-- one
pub enter_one : (l : List ℕ) (y : ℕ) → length l ≡ state_size → Room l → 1 ≤ id_round y → id_round y ≤ rounds → ordered_id l y ≡ false
    → Entered l (y ∷ []) (enter l y)
enter_one l y size R a b new = record {
  kept = keeps_entry l y a b fits;
  room = enter_room l y size a b R new;
  list = enter_list l y size a b fits;
  count = enter_count l y size a b ∙ omega arith;
  rest = λ i h k. enter_rest l y size a b i (rw (enter_count l y size a b) at h);
  ordered = λ z. enter_ordered l y size a b z ∙ ap (λ (t : Bool). ordered_id l z || t) (sym (among_one y z));
  low = λ k f g. enter_low l y size a b k (f y (among_one y y ∙ eq-eqb y y refl)) g;
}
  where
    fits : journal_count l < journal_size
    fits = enter_fits l y size a b R new

-- a list without repetition of ids that are not ordered yet
pub enter_all_lem : (l ys : List ℕ) → length l ≡ state_size → Room l → once ys ≡ true
    → ((y : ℕ) → among ys y ≡ true → (1 ≤ id_round y) × (id_round y ≤ rounds) × (ordered_id l y ≡ false)) → Entered l ys (enter_all l ys)
unfolding enter_all once among
enter_all_lem l [] size R p f = entered_none l R
enter_all_lem l (y ∷ ys) size R p f =
    let w = f y (or_left _ (eq-eqb y y refl)) in
    let one = enter_one l y size R w.0 w.1 w.2 in
    entered_trans l (enter l y) (enter_all (enter l y) ys) (y ∷ []) ys one
    (enter_all_lem (enter l y) ys (one.kept.size ∙ size) one.room (and_right (not (among ys y)) _ p)
    (λ z e. let u = f z (or_right (eqb y z) e) in
    (u.0, u.1, one.ordered z ∙ ap₂ ◌||◌ u.2 (among_one y z ∙ ne_eqb y z (λ d. never e (rw d at (not-true (among ys y) (and_left _ _ p))))))))

-- ---- the histories of leaders

-- l' is l with the histories of these rounds' leaders entered
pub record Ordered (n : ℕ) (v : Records) (l rs l' : List ℕ) : Type 0 where
  pub ids : List ℕ
  pub entered : Entered l ids l'
  pub extends : journal_list l ++ ids ≡ extend n v (journal_list l) rs
  pub named : (y : ℕ) → among ids y ≡ true → Named n v rounds y

-- the ordered ids are those of the journal
abbrev pub Names : List ℕ → Type 0
Names l = (y : ℕ) → among (journal_list l) y ≡ ordered_id l y

-- entries are ordered, so the journal goes on naming the ordered ids
entered_names : (l xs l' : List ℕ) → Names l → Entered l xs l' → Names l'
entered_names l xs l' N E y =
    ap (λ (j : List ℕ). among j y) E.list ∙ among_append (journal_list l) xs y ∙ ap (λ (b : Bool). b || among xs y) (N y) ∙ sym (E.ordered y)

module _ (n : ℕ) (v : Records) (g : legal n ≡ true) (W : ValidVertices n v) where
  -- one leader
  module _ (l : List ℕ) (r : ℕ) (e : member_count l ≡ n) (size : length l ≡ state_size) (R : Room l) (h : held v (id_round r) (id_member r) ≡ true) where
    -- what is entered
    pub new : List ℕ
    new = select id_limit (λ y. not (ordered_id l y) && history n v (id_round r) (id_member r) y)

    new_among : (y : ℕ) → among new y ≡ true → (Named n v rounds y) × (ordered_id l y ≡ false)
    unfolding new
    new_among y d =
        let t : (not (ordered_id l y) && history n v (id_round r) (id_member r) y) ≡ true =
        and_right (ltb y id_limit) _ (sym (among_select id_limit (λ y. not (ordered_id l y) && history n v (id_round r) (id_member r) y) y) ∙ d) in (
          named_up n v (id_round r) rounds y (W.admitted (id_round r) (id_member r) h).round_high
              (history_held n v g W (id_round r) (id_member r) y h (and_right (not (ordered_id l y)) _ t)),
          not-true (ordered_id l y) (and_left _ _ t),
        )

    -- its history is entered
    pub order_one : Entered l new (order_leader v l r)
    unfolding new order_leader
    order_one = rw e (enter_all_lem l new size R (once_select id_limit (λ y. not (ordered_id l y) && history n v (id_round r) (id_member r) y))
        (λ y d. let w = new_among y d in (w.0.low, w.0.high, w.1)))

    new_fresh : Names l → new ≡ fresh n v (journal_list l) r
    unfolding new fresh
    new_fresh N = select_cong id_limit _ _ (λ y k. ap (λ (b : Bool). not b && history n v (id_round r) (id_member r) y) (sym (N y)))

  -- the leaders of these rounds
  pub order_all : (l rs : List ℕ) → member_count l ≡ n → length l ≡ state_size → Room l → Names l
      → ((r : ℕ) → among rs r ≡ true → held v (id_round r) (id_member r) ≡ true)
      → Ordered n v l rs (order_leaders v l rs)
  unfolding order_leaders extend among
  order_all l [] e size R N h = record { ids = []; entered = entered_none l R; extends = append-nil (journal_list l); named = λ y d. never d (among_none y) }
  order_all l (r ∷ rs) e size R N h =
      let k = h r (or_left _ (eq-eqb r r refl)) in
      let one = order_one l r e size R k in
      let l₁ = order_leader v l r in
      let rest = order_all l₁ rs (one.kept.same member_count_at (λ d. omega arith, λ a b. omega arith, λ s a b d. omega arith) ∙ e) (one.kept.size
      ∙ size) one.room
      (entered_names l (new l r e size R k) l₁ N one) (λ s d. h s (or_right (eqb r s) d)) in
      record {
        ids = new l r e size R k ++ rest.ids;
        entered = entered_trans l l₁ (order_leaders v l₁ rs) (new l r e size R k) rest.ids one rest.entered;
        extends = sym (append_assoc (journal_list l) (new l r e size R k) rest.ids) ∙ ap (λ (j : List ℕ). j ++ rest.ids) (sym one.list) ∙ rest.extends
            ∙ ap (λ (j : List ℕ). extend n v j rs) (one.list ∙ ap (λ (x : List ℕ). journal_list l ++ x) (new_fresh l r e size R k N));
        named = λ y d. ⊎_elim (λ c. (new_among l r e size R k y c).0) (λ c. rest.named y c)
            (or_cases _ _ (sym (among_append (new l r e size R k) rest.ids y) ∙ d));
      }

-- where a round has one leader, a commit takes what the walk over one leader a round does
pub taken_one : (l : List ℕ) → WellFormed l → (q : ℕ)
    → taken l q 0 ≡ chain (member_count l) 1 (vertices l) (committed_round l) (one_taken (committed_round l)) q 1
taken_one l S q = ap₂ (λ (m a : ℕ). chain (member_count l) m (vertices l) (committed_round l) a q 1) (width_one l) (one_place l S)

-- ---- a commit

-- l' is l with the leader of round q and of that seat committed
pub record Committed (l : List ℕ) (q seat : ℕ) (l' : List ℕ) : Type 0 where
  pub kept : Keeps OffLists l l'
  pub committed : committed_round l' ≡ q
  pub leaders : leader_list l' ≡ leader_list l ++ taken l q seat
  pub leaders_counted : leader_count l' ≡ leader_count l + length (taken l q seat)
  pub leader_rest : (i : ℕ) → leader_count l' ≤ i → i < leaders_size → leader_word l' i ≡ leader_word l i
  pub ids : List ℕ
  pub journal : journal_list l' ≡ journal_list l ++ ids
  pub extends : journal_list l' ≡ extend (member_count l) (vertices l) (journal_list l) (taken l q seat)
  pub journal_counted : journal_count l' ≡ journal_count l + length ids
  pub journal_rest : (i : ℕ) → journal_count l' ≤ i → i < journal_size → journal_word l' i ≡ journal_word l i
  pub ordered : (z : ℕ) → ordered_id l' z ≡ (ordered_id l z || among ids z)
  pub ordered_low : (r : ℕ) → 1 ≤ r → r ≤ rounds → ordered_mask l' r < 2 ^ member_count l
  pub named : (y : ℕ) → among ids y ≡ true → Named (member_count l) (vertices l) rounds y
  pub room : Room l'

-- off the leader list and the committed round
abbrev OffLeading : ℕ → Type 0
OffLeading j = (j ≡ committed_round_at → ⊥) × OffLeaders j

module _ (l : List ℕ) (S : WellFormed l) (q seat : ℕ) (ready : Ready l q seat) where
  -- the leader list has at most so many entries as there are places
  pub leaders_fit : leader_count l + length (taken l q seat) ≤ leaders_size
  leaders_fit =
      let E = ended l S in
      omega (
        arith,
        E.few,
        chain_length (member_count l) (width l) (vertices l) (committed_round l) (last_place l) q (seat + 1) E.place
            (ready_before l S.front.members (dag_well_formed l S) q seat ready),
        width_fits l q ready.high,
        ready.index,
      )

  -- the leaders, then the committed round
  first : List ℕ
  first = append_leaders l (taken l q seat)

  second : List ℕ
  unfolding first
  second = set first committed_round_at q

  appended : Appended l (taken l q seat) first
  unfolding first
  appended = append_all l (taken l q seat) S.size (omega (arith, leaders_fit))

  first_few : leader_count first ≤ leaders_size
  first_few = rw appended.count (omega (arith, leaders_fit))

  set_two : Keeps (λ j. j ≡ committed_round_at → ⊥) first second
  unfolding second
  set_two = keeps_set (λ j. j ≡ committed_round_at → ⊥) first committed_round_at q (λ j k e. k e)

  leading : Keeps OffLeading l second
  leading = keeps_trans OffLeading l first second (keeps_less OffLeaders OffLeading l first (λ j k. k.1) appended.kept)
      (keeps_less (λ j. j ≡ committed_round_at → ⊥) OffLeading first second (λ j k. k.0) set_two)

  second_journal : journal_list second ≡ journal_list l
  second_journal = journal_list_kept OffLeading l second leading (λ r a b. (λ e. omega arith, (λ e. omega arith, λ c d. omega arith)))
      (λ e. omega arith, (λ e. omega arith, λ c d. omega arith)) (λ j a b. (λ e. omega arith, (λ e. omega arith, λ c d. omega arith))) S.journal.few

  second_ordered : (y : ℕ) → ordered_id second y ≡ ordered_id l y
  second_ordered = ordered_id_kept OffLeading l second leading (λ r a b. (λ e. omega arith, (λ e. omega arith, λ c d. omega arith)))

  second_word : (j : ℕ) → OffLeading j → get_or second j 0 ≡ get_or l j 0
  second_word = leading.same

  second_count : journal_count second ≡ journal_count l
  second_count = second_word journal_count_at (λ e. omega arith, (λ e. omega arith, λ c d. omega arith))

  second_room : Room second
  second_room = rw (second_count, count_cong id_limit (ordered_id second) (ordered_id l) (λ y k. second_ordered y)) (room l S)

  second_ordered_mask : (r : ℕ) → 1 ≤ r → r ≤ rounds → ordered_mask second r ≡ ordered_mask l r
  second_ordered_mask r a b = second_word (ordered_at r) (λ e. omega arith, (λ e. omega arith, λ c d. omega arith))

  -- then the histories
  histories : Ordered (member_count l) (vertices l) second (taken l q seat) (commit l q seat)
  unfolding commit second first
  histories = order_all (member_count l) (vertices l) S.front.members (dag_well_formed l S) second (taken l q seat)
      (second_word 0 (λ e. omega arith, (λ e. omega arith, λ c d. omega arith))) (leading.size ∙ S.size) second_room
      (λ y. ap (λ (j : List ℕ). among j y) second_journal ∙ S.journal.names y ∙ sym (second_ordered y))
      (λ y e. (taken_held l S.front.members (dag_well_formed l S) q seat ready y e).0)

  after : Entered second histories.ids (commit l q seat)
  after = histories.entered

  second_count_led : leader_count second ≡ leader_count first
  second_count_led = set_two.same leader_count_at (λ e. omega arith)

  leader_list_after : leader_list (commit l q seat) ≡ leader_list l ++ taken l q seat
  leader_list_after =
      leader_list_kept OffJournal second (commit l q seat) after.kept (λ e. omega arith, λ c d. omega arith, λ r a b e. omega arith)
      (λ j a b. (λ e. omega arith, λ c d. omega arith, λ r c d e. omega arith)) (rw second_count_led first_few)
      ∙ leader_list_kept (λ j. j ≡ committed_round_at → ⊥) first second set_two (λ e. omega arith) (λ j a b e. omega arith) first_few
      ∙ appended.list

  count_after : leader_count (commit l q seat) ≡ leader_count first
  count_after = after.kept.same leader_count_at (λ e. omega arith, λ c d. omega arith, λ r a b e. omega arith) ∙ second_count_led

  leader_word_after : (i : ℕ) → i < leaders_size → leader_word (commit l q seat) i ≡ leader_word first i
  leader_word_after i k =
      after.kept.same (leaders_at + i) (λ e. omega arith, λ c d. omega arith, λ r a b e. omega arith) ∙ set_two.same (leaders_at + i) (λ e. omega arith)

  committed_after : committed_round (commit l q seat) ≡ q
  committed_after = after.kept.same committed_round_at (λ e. omega arith, λ c d. omega arith, λ r a b e. omega arith) ∙ at_two
    where
      at_two : committed_round second ≡ q
      at_two = unfold second in get_or-set_same first committed_round_at q 0 (rw appended.kept.size (omega (arith, S.size)))

  -- What a commit does.
  pub grown : Committed l q seat (commit l q seat)
  grown = record {
    kept = keeps_trans OffLists l second (commit l q seat)
        (keeps_less OffLeading OffLists l second (λ j k. (k.not_committed, k.off_leaders)) leading) (journal_lists second (commit l q seat) after.kept);
    committed = committed_after;
    leaders = leader_list_after;
    leaders_counted = count_after ∙ appended.count;
    leader_rest = λ i a b. leader_word_after i b ∙ appended.rest i (rw count_after at a) b;
    ids = histories.ids;
    journal = after.list ∙ ap (λ (j : List ℕ). j ++ histories.ids) second_journal;
    extends = after.list ∙ histories.extends ∙ ap (λ (j : List ℕ). extend (member_count l) (vertices l) j (taken l q seat)) second_journal;
    journal_counted = after.count ∙ ap (λ (x : ℕ). x + length histories.ids) second_count;
    journal_rest = λ i a b. after.rest i a b ∙ second_word (journal_at + i) (λ e. omega arith, (λ e. omega arith, λ c d. omega arith));
    ordered = λ z. after.ordered z ∙ ap (λ (b : Bool). b || among histories.ids z) (second_ordered z);
    ordered_low = after.low (member_count l) (λ y e. (histories.named y e).member) (λ r a b. rw (second_ordered_mask r a b) (S.journal.ordered_low r a b));
    named = histories.named;
    room = after.room;
  }

  -- the DAG stays, and the lists and their counts grow as the protocol says
  pub commit_vertices : vertices (commit l q seat) ≡ vertices l
  commit_vertices = lists_vertices l (commit l q seat) grown.kept

  -- the first messages
  pub commit_firsts : firsts (commit l q seat) ≡ firsts l
  commit_firsts = lists_firsts l (commit l q seat) grown.kept

  -- the committed round
  pub commit_round : committed_round (commit l q seat) ≡ q
  commit_round = grown.committed

  -- the leader list
  pub commit_leaders : leader_list (commit l q seat) ≡ leader_list l ++ taken l q seat
  commit_leaders = grown.leaders

  -- the journal
  pub commit_journal : journal_list (commit l q seat) ≡ extend (member_count l) (vertices l) (journal_list l) (taken l q seat)
  commit_journal = grown.extends

  -- the leader count, by the leaders taken
  pub commit_leader_count : leader_count (commit l q seat) ≡ leader_count l + length (taken l q seat)
  commit_leader_count = grown.leaders_counted

  -- the journal count, by the list
  pub commit_journal_length : journal_count (commit l q seat) ≡ length (extend (member_count l) (vertices l) (journal_list l) (taken l q seat))
  commit_journal_length =
      grown.journal_counted ∙ omega (arith, length-append (journal_list l) grown.ids, journal_length l S) ∙ ap length (sym grown.journal ∙ grown.extends)

-- ---- Standing, and room, are kept

-- by entries
entered_standing : (l xs l' : List ℕ) → Entered l xs l' → Standing l → Standing l'
entered_standing l xs l' E T = lists_standing l l' (journal_lists l l' E.kept) T

module _ (n : ℕ) (v : Records) (g : legal n ≡ true) (W : ValidVertices n v) where
  -- by a leader's history
  pub standing_order : (l : List ℕ) (r : ℕ) → member_count l ≡ n → Standing l → Room l → held v (id_round r) (id_member r) ≡ true
      → Standing (order_leader v l r) × Room (order_leader v l r) × (member_count (order_leader v l r) ≡ n)
  standing_order l r e T R h =
      let E = order_one n v g W l r e T.size R h in
      (entered_standing l _ (order_leader v l r) E T, E.room, E.kept.same member_count_at (λ d. omega arith, λ a b. omega arith, λ s a b d. omega arith) ∙ e)

  -- by those of several leaders
  pub standing_order_all : (l rs : List ℕ) → member_count l ≡ n → Standing l → Room l → ((r : ℕ) → among rs r ≡ true → held v (id_round r) (id_member r) ≡ true)
      → Standing (order_leaders v l rs) × Room (order_leaders v l rs)
  unfolding order_leaders among
  standing_order_all l [] e T R h = (T, R)
  standing_order_all l (r ∷ rs) e T R h =
      let w = standing_order l r e T R (h r (or_left _ (eq-eqb r r refl))) in
      standing_order_all (order_leader v l r) rs w.2 w.0 w.1 (λ s d. h s (or_right (eqb r s) d))
