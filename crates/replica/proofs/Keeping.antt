-- States that share words: what a part of a state means depends on its words alone. Assumes nothing.
use mathlib.Core.Path.{◌≡◌, refl, sym, ap, ap₂, ◌∙◌}
use mathlib.Core.Bool.{true, false, cond, not, ◌&&◌}
use mathlib.Core.Logic.{◌⊎◌, inl, inr, ⊎_elim}
use mathlib.Core.List.{List, [], ◌∷◌}
use Prim.Native.Nat.{ℕ, ◌+◌, ◌-◌, ◌^◌, ◌≤◌, ◌<◌, min}
use native.Mathlib.Omega.{arith}
use lib.Dec.{ltb}
use lib.ListN.{length, get_or, set, take, drop, length-take, length-drop, length-set}
use lib.Seq.{get_or-take, get_or-drop, get_or-set_other, ext_get_or}
use borrow.Author.Tests.{not-true, not-false, ltb-true}
use Rattle.record.specs.Members.{legal, leader, has, id_round, id_member, id_limit, rounds, slots}
use Rattle.record.specs.Refusals.{number_of}
use Rattle.record.specs.Questions.{body_refusal}
use Rattle.record.proofs.Booleans.{which, and_left, and_cong, and_fails_left, and_fails_right, cond_cong}
use Rattle.record.proofs.Below.{any_off, any_false}
use Rattle.record.proofs.Rounds.{round_range}
use Rattle.protocol.specs.Journal.{among}
use Rattle.protocol.proofs.Lists.{once}
use Rattle.protocol.proofs.Laws.{records_ext}
use Rattle.record.specs.Layout.{body_size}
use Rattle.replica.specs.Layout.{ordered_kind, held_kind, heard_kind, votes_kind, timeouts_kind, no_votes_kind, current_round_at}
use Rattle.replica.specs.Layout.{journal_at, journal_size, cells_at, member_count_at, committed_round_at, leader_count_at, journal_count_at, own_at}
use Rattle.replica.specs.Layout.{made_at, signed_at}
use Rattle.replica.specs.Layout.{masks_at, held_at, heard_at, votes_at, timeouts_at, no_votes_at, ordered_at, cell_at, head_size, leaders_at, leaders_size}
use Rattle.replica.specs.Layout.{leaders_end, journal_end, cells_end}
use Rattle.replica.specs.State.{member_count, own_word, made_rounds, signed_rounds}
use Rattle.replica.specs.WellFormed.{own_ok}
use Rattle.replica.specs.State.{leader_count, journal_count, held_mask, ordered_mask, leader_list, journal_list, cell, vertices, firsts, held_id, ordered_id}
use Rattle.replica.specs.Parents.{is_parent, missing, parents_held}
use Rattle.replica.proofs.Formed.{Front, Masks, Cells, Leaders, Journal, WellFormed, led_more}
use Rattle.replica.proofs.Width.{width_same}
use Rattle.replica.proofs.Seats.{index_kept, place_kept}
use Rattle.replica.specs.State.{leader_index}

-- l' is as long as l, and has the same words where K holds
pub record Keeps (K : ℕ → Type 0) (l l' : List ℕ) : Type 0 where
  pub size : length l' ≡ length l
  pub same : (j : ℕ) → K j → get_or l' j 0 ≡ get_or l j 0

-- nothing changed
pub keeps_refl : (K : ℕ → Type 0) (l : List ℕ) → Keeps K l l
keeps_refl K l = record { size = refl; same = λ j k. refl }

-- one change after another
pub keeps_trans : (K : ℕ → Type 0) (a b c : List ℕ) → Keeps K a b → Keeps K b c → Keeps K a c
keeps_trans K a b c p q = record { size = q.size ∙ p.size; same = λ j k. q.same j k ∙ p.same j k }

-- fewer words
pub keeps_less : (K M : ℕ → Type 0) (a b : List ℕ) → ((j : ℕ) → M j → K j) → Keeps K a b → Keeps M a b
keeps_less K M a b f p = record { size = p.size; same = λ j m. p.same j (f j m) }

-- one word changed
pub keeps_set : (K : ℕ → Type 0) (l : List ℕ) (i x : ℕ) → ((j : ℕ) → K j → j ≡ i → ⊥) → Keeps K l (set l i x)
keeps_set K l i x f = record { size = length-set l i x; same = λ j k. get_or-set_other l i j x 0 (f j k) }

-- the same run of words
pub keeps_part : (K : ℕ → Type 0) (l l' : List ℕ) → Keeps K l l' → (k c : ℕ) → ((j : ℕ) → k ≤ j → j < k + c → K j) → take c (drop k l') ≡ take c (drop k l)
keeps_part K l l' p k c f = ext_get_or 0 (take c (drop k l')) (take c (drop k l)) (long l' ∙ ap (λ (x : ℕ). min c (x - k)) p.size ∙ sym (long l)) word
  where
    long : (l : List ℕ) → length (take c (drop k l)) ≡ min c (length l - k)
    long l = length-take c (drop k l) ∙ ap (min c) (length-drop k l)

    one : (l : List ℕ) (i : ℕ) → i < c → get_or (take c (drop k l)) i 0 ≡ get_or l (k + i) 0
    one l i h = get_or-take c (drop k l) i 0 h ∙ get_or-drop k l i 0

    word : (i : ℕ) → i < length (take c (drop k l')) → get_or (take c (drop k l')) i 0 ≡ get_or (take c (drop k l)) i 0
    word i h = let m : i < c = omega (arith, long l') in one l' i m ∙ p.same (k + i) (f (k + i) (omega arith) (omega arith)) ∙ sym (one l i m)

-- where a slot is known of the members below 16
pub guarded : (q : ℕ) {x y : List ℕ} → (q < slots → x ≡ y) → cond (ltb q slots) x [] ≡ cond (ltb q slots) y []
guarded q {x} {y} f = ⊎_elim (λ e. rw e (f (ltb-true q slots e))) (λ e. rw e) (which (ltb q slots))

-- ---- parents

-- where more is held, no parent goes missing
pub parents_more : (l l' : List ℕ) → ((y : ℕ) → held_id l y ≡ true → held_id l' y ≡ true) → (r : ℕ) (body : List ℕ)
    → parents_held l r body ≡ true → parents_held l' r body ≡ true
unfolding parents_held missing
parents_more l l' f r body e =
    ap not (any_false id_limit (missing l' r body) (λ y k. go y (which (is_parent r body y)) (any_off id_limit (missing l r body) (not-true _ e) y k)))
  where
    go : (y : ℕ) → (is_parent r body y ≡ true) ⊎ (is_parent r body y ≡ false) → (is_parent r body y && not (held_id l y)) ≡ false
        → (is_parent r body y && not (held_id l' y)) ≡ false
    go y (inl p) d = and_fails_right (is_parent r body y) (ap not (f y (not-false (held_id l y) (rw p at d))))
    go y (inr p) d = and_fails_left _ p

-- ---- the own words

-- what is asked of them depends on words 0 and 5 to 7
pub own_same : (l l' : List ℕ) → member_count l' ≡ member_count l → own_word l' ≡ own_word l → made_rounds l' ≡ made_rounds l
    → signed_rounds l' ≡ signed_rounds l
    → own_ok l' ≡ own_ok l
unfolding own_ok
own_same l l' n p m s = rw (n, p, m, s)

-- ---- the parts of a state

module _ (K : ℕ → Type 0) (l l' : List ℕ) (p : Keeps K l l') where
  -- words 0, 1 and 5 to 7
  pub front_kept : ((j : ℕ) → j ≤ current_round_at → K j) → ((j : ℕ) → own_at ≤ j → j < head_size → K j) → Front l → Front l'
  front_kept f g F =
      let n = p.same member_count_at (f member_count_at (omega arith)) in
      let r = p.same current_round_at (f current_round_at (omega arith)) in
      record {
        members = ap legal n ∙ F.members;
        low = rw n F.low;
        high = rw n F.high;
        round_low = rw r F.round_low;
        round_high = rw r F.round_high;
        own = own_same l l' n (p.same own_at (g own_at (omega arith) (omega arith))) (p.same made_at (g made_at (omega arith) (omega arith)))
            (p.same signed_at (g signed_at (omega arith) (omega arith))) ∙ F.own;
      }

  -- the masks but for the ordered ones
  pub masks_kept : K member_count_at → ((r i : ℕ) → 1 ≤ r → r ≤ rounds → i < ordered_kind → K (masks_at r + i)) → Masks l → Masks l'
  masks_kept k f M =
      let n = p.same member_count_at k in
      record {
        held_low = λ r a b. rw (n, p.same (held_at r) (f r held_kind a b (omega arith))) (M.held_low r a b);
        heard_low = λ r a b. rw (n, p.same (heard_at r) (f r heard_kind a b (omega arith))) (M.heard_low r a b);
        votes_low = λ r a b. rw (n, p.same (votes_at r) (f r votes_kind a b (omega arith))) (M.votes_low r a b);
        timeouts_low = λ r a b. rw (n, p.same (timeouts_at r) (f r timeouts_kind a b (omega arith))) (M.timeouts_low r a b);
        no_votes_low = λ r a b. rw (n, p.same (no_votes_at r) (f r no_votes_kind a b (omega arith))) (M.no_votes_low r a b);
        votes_heard = λ r q a b h. ap (λ (m : ℕ). has m q) (p.same (heard_at r) (f r heard_kind a b (omega arith)))
            ∙ M.votes_heard r q a b (ap (λ (m : ℕ). has m q) (sym (p.same (votes_at r) (f r votes_kind a b (omega arith)))) ∙ h);
        votes_first = p.same (votes_at 1) (f 1 votes_kind (omega arith) (omega arith) (omega arith)) ∙ M.votes_first;
      }

  module _ (held : (r : ℕ) → 1 ≤ r → r ≤ rounds → K (held_at r)) where
    -- who is held in a round
    pub held_kept : (r q : ℕ) → 1 ≤ r → r ≤ rounds → has (held_mask l' r) q ≡ has (held_mask l r) q
    held_kept r q a b = ap (λ (m : ℕ). has m q) (p.same (held_at r) (held r a b))

    -- the same of an id
    pub held_id_kept : (y : ℕ) → held_id l' y ≡ held_id l y
    held_id_kept y = and_cong refl (λ e. let w = round_range (id_round y) e in held_kept (id_round y) (id_member y) w.0 w.1)

    -- the cells, and the vertices
    module _ (words : (j : ℕ) → cells_at ≤ j → j < cells_end → K j) where
      pub cell_kept : (r q : ℕ) → 1 ≤ r → r ≤ rounds → q < slots → cell l' r q ≡ cell l r q
      cell_kept r q x y z = keeps_part K l l' p (cell_at r q) body_size (λ j a b. words j (omega arith) (omega arith))

      pub cells_kept : K member_count_at → Cells l → Cells l'
      cells_kept k C = record {
        admits = λ r q a b m h. ap₂ (λ (n : ℕ) (c : List ℕ). number_of (body_refusal n r q c)) (p.same member_count_at k) (cell_kept r q a b m)
            ∙ C.admits r q a b m (sym (held_kept r q a b) ∙ h);
        parents = λ r q a b m h. parents_more l l' (λ y e. held_id_kept y ∙ e) r (cell l' r q)
            (ap (parents_held l r) (cell_kept r q a b m) ∙ C.parents r q a b m (sym (held_kept r q a b) ∙ h));
        zero_cell = λ r q i a b m h e. p.same (cell_at r q + i) (words _ (omega arith) (omega arith))
            ∙ C.zero_cell r q i a b m h (sym (held_kept r q a b) ∙ e);
      }

      pub vertices_kept : vertices l' ≡ vertices l
      unfolding vertices
      vertices_kept = records_ext (vertices l') (vertices l) (λ r q.
          cond_cong (and_cong refl (λ e. let w = round_range r e in held_kept r q w.0 w.1)) (λ e. let w = round_range r (and_left _ _ e) in
          guarded q (λ k. cell_kept r q w.0 w.1 k)) refl)

  -- the first messages
  pub firsts_kept : K member_count_at → ((r : ℕ) → 1 ≤ r → r ≤ rounds → K (heard_at r)) → ((r : ℕ) → 1 ≤ r → r ≤ rounds → K (votes_at r)) → firsts l' ≡ firsts l
  unfolding firsts
  firsts_kept k f g = records_ext (firsts l') (firsts l) (λ r q.
      cond_cong (and_cong refl (λ e. let w = round_range r e in ap (λ (m : ℕ). has m q) (p.same (heard_at r) (f r w.0 w.1))))
      (λ e. let w = round_range r (and_left _ _ e) in
      ap₂ (λ (n m : ℕ). cond (has m q) (2 ^ leader n (r - 1)) 0 ∷ []) (p.same member_count_at k) (p.same (votes_at r) (g r w.0 w.1))) refl)

  -- the leader list, where no vertex is lost
  pub leader_list_kept : K leader_count_at → ((j : ℕ) → leaders_at ≤ j → j < leaders_end → K j) → leader_count l ≤ leaders_size → leader_list l' ≡ leader_list l
  leader_list_kept k f few = rw (p.same leader_count_at k) (keeps_part K l l' p leaders_at (leader_count l) (λ j a b. f j a (omega arith)))

  -- and all that is said of it
  pub leaders_kept : K member_count_at → K committed_round_at → K leader_count_at → ((j : ℕ) → leaders_at ≤ j → j < leaders_end → K j)
      → ((y : ℕ) → held_id l y ≡ true → held_id l' y ≡ true) → Leaders l → Leaders l'
  leaders_kept k₀ k₂ k₃ f g L =
      let c = p.same leader_count_at k₃ in
      record {
        committed_high = rw (p.same committed_round_at k₂) L.committed_high;
        few = rw c L.few;
        led = rw (
          p.same committed_round_at k₂,
          leader_list_kept k₃ f L.few,
          width_same l l',
          place_kept l l' (p.same member_count_at k₀)
              (p.same leader_count_at k₃) (λ h. p.same (leaders_at + (leader_count l - 1))
              (f (leaders_at + (leader_count l - 1)) (omega arith) (omega (arith, L.few)))),
        )
            (led_more _ (held_id l) (held_id l') (leader_index l) (leader_index l') 0 0 _ _ _ g (index_kept l l' (p.same member_count_at k₀)) L.led);
        rest = λ i a b. p.same (leaders_at + i) (f (leaders_at + i) (omega arith) (omega arith)) ∙ L.rest i (omega arith) b;
      }

  -- the journal
  module _ (ordered : (r : ℕ) → 1 ≤ r → r ≤ rounds → K (ordered_at r)) where
    -- who is ordered in a round
    pub ordered_kept : (r q : ℕ) → 1 ≤ r → r ≤ rounds → has (ordered_mask l' r) q ≡ has (ordered_mask l r) q
    ordered_kept r q a b = ap (λ (m : ℕ). has m q) (p.same (ordered_at r) (ordered r a b))

    -- the same of an id
    pub ordered_id_kept : (y : ℕ) → ordered_id l' y ≡ ordered_id l y
    ordered_id_kept y = and_cong refl (λ e. let w = round_range (id_round y) e in ordered_kept (id_round y) (id_member y) w.0 w.1)

    -- its entries
    pub journal_list_kept : K journal_count_at → ((j : ℕ) → journal_at ≤ j → j < journal_end → K j) → journal_count l ≤ journal_size
        → journal_list l' ≡ journal_list l
    journal_list_kept k f few = rw (p.same journal_count_at k) (keeps_part K l l' p journal_at (journal_count l) (λ j a b. f j a (omega arith)))

    -- and all that is said of it, where no vertex is lost
    pub journal_kept : K member_count_at → K journal_count_at → ((j : ℕ) → journal_at ≤ j → j < journal_end → K j)
        → ((r q : ℕ) → 1 ≤ r → r ≤ rounds → has (held_mask l r) q ≡ true → has (held_mask l' r) q ≡ true) → Journal l → Journal l'
    journal_kept k₀ k₄ f g J =
        let c = p.same journal_count_at k₄ in
        let e = journal_list_kept k₄ f J.few in
        record {
          ordered_low = λ r a b. rw (p.same member_count_at k₀, p.same (ordered_at r) (ordered r a b)) (J.ordered_low r a b);
          ordered_held = λ r q a b h. g r q a b (J.ordered_held r q a b (sym (ordered_kept r q a b) ∙ h));
          few = rw c J.few;
          alone = ap once e ∙ J.alone;
          names = λ y. ap (λ (j : List ℕ). among j y) e ∙ J.names y ∙ sym (ordered_id_kept y);
          rest = λ i a b. p.same (journal_at + i) (f (journal_at + i) (omega arith) (omega arith)) ∙ J.rest i (omega arith) b;
        }

-- ---- a word of the head

-- a word that neither the masks, the cells nor the lists depend on: the current round, and the own words
pub record Spare (i : ℕ) : Type 0 where
  pub head : i < head_size
  pub not_members : i ≡ member_count_at → ⊥
  pub not_committed : i ≡ committed_round_at → ⊥
  pub not_leaders : i ≡ leader_count_at → ⊥
  pub not_journal : i ≡ journal_count_at → ⊥

-- changed, it leaves a state formed where the front is
pub formed_word : (l : List ℕ) (i x : ℕ) → Spare i → Front (set l i x) → WellFormed l → WellFormed (set l i x)
formed_word l i x s F S = record {
  size = p.size ∙ S.size;
  front = F;
  masks = masks_kept K l l' p (λ e. s.not_members (sym e)) (λ r k c d h e. omega (arith, s.head)) S.masks;
  cells = cells_kept K l l' p held (λ j c d e. omega (arith, s.head)) (λ e. s.not_members (sym e)) S.cells;
  leaders = leaders_kept K l l' p (λ e. s.not_members (sym e)) (λ e. s.not_committed (sym e)) (λ e. s.not_leaders (sym e))
      (λ j c d e. omega (arith, s.head)) (λ y e. held_id_kept K l l' p held y ∙ e) S.leaders;
  journal = journal_kept K l l' p (λ r c d e. omega (arith, s.head)) (λ e. s.not_members (sym e)) (λ e. s.not_journal (sym e))
      (λ j c d e. omega (arith, s.head)) (λ r q c d e. held_kept K l l' p held r q c d ∙ e) S.journal;
}
  where
    l' : List ℕ
    l' = set l i x

    K : ℕ → Type 0
    K j = j ≡ i → ⊥

    p : Keeps K l l'
    p = keeps_set K l i x (λ j k e. k e)

    held : (r : ℕ) → 1 ≤ r → r ≤ rounds → K (held_at r)
    held r c d e = omega (arith, s.head)
