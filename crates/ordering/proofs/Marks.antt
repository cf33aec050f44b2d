-- What an admitted call writes first keeps a state formed: a higher round, a member in a mask, a vertex in its cell. Assumes nothing.
use mathlib.Core.Path.{◌≡◌, refl, sym, ap, ap₂, ◌∙◌}
use mathlib.Core.Bool.{true, false}
use mathlib.Core.Logic.{◌⊎◌, inl, inr, ⊎_elim}
use mathlib.Core.List.{List}
use Prim.Native.Nat.{ℕ, ◌+◌, ◌-◌, ◌^◌, ◌≤◌, ◌<◌}
use native.Mathlib.Omega.{arith}
use lib.Bits.{bit_or, or_lt}
use lib.Pow.{pow-lt}
use lib.Dec.{eqb, ltb}
use lib.ListN.{length, get_or, set, length-set}
use lib.Seq.{get_or-set_same, get_or-set_other, length-paste}
use borrow.Author.Tests.{eqb-true, eqb-false, eq-eqb, ltb-true, ltb-false}
use Rattle.record.specs.Members.{legal, leader, has, add, id_round, id_member, is_round, rounds, slots}
use Rattle.record.specs.Refusals.{number_of}
use Rattle.record.specs.Questions.{body_refusal}
use Rattle.record.specs.Admitted.{Admitted}
use Rattle.record.proofs.Booleans.{which, never, and_left, and_right, and_both, or_cases, or_left, or_right}
use Rattle.record.proofs.Masks.{has_zero, has_or, has_add}
use Rattle.record.proofs.Turn.{admitted}
use Rattle.record.proofs.Rounds.{round_range}
use Rattle.protocol.specs.Dag.{votes}
use Rattle.record.specs.Layout.{body_size}
use Rattle.replica.specs.Layout.{votes_kind, timeouts_kind, no_votes_kind, ordered_kind, current_round_at}
use Rattle.replica.specs.Layout.{masks_at, held_at, heard_at, votes_at, timeouts_at, no_votes_at, cell_at, kinds, member_count_at, own_at, made_at}
use Rattle.replica.specs.Layout.{signed_at, heard_kind}
use Rattle.replica.specs.State.{member_count, current_round, held_mask, heard_mask, votes_mask, timeouts_mask, cell, held_id, add_member, add_members}
use Rattle.replica.specs.Parents.{parents_held}
use Rattle.replica.proofs.Formed.{Front, Masks, Cells, WellFormed}
use Rattle.replica.proofs.Keeping.{Keeps, keeps_set, keeps_part, parents_more, front_kept, cells_kept, held_kept, held_id_kept}
use Rattle.replica.proofs.Keeping.{leaders_kept, journal_kept, own_same, Spare, formed_word}
use Rattle.commits.specs.Commit.{highest_passable, raise_round}
use Rattle.ordering.specs.Calls.{put_vertex, hear}
use Rattle.ordering.proofs.Rule.{highest_high, raise_as}
use Rattle.ordering.proofs.Copying.{paste_before, paste_after, paste_part}

-- ---- the current round

pub round_spare : Spare current_round_at
round_spare = record {
  head = omega arith;
  not_members = λ e. omega arith;
  not_committed = λ e. omega arith;
  not_leaders = λ e. omega arith;
  not_journal = λ e. omega arith;
}

-- any round from 1 to 33
pub formed_round : (l : List ℕ) (x : ℕ) → 1 ≤ x → x ≤ rounds + 1 → WellFormed l → WellFormed (set l current_round_at x)
formed_round l x a b S = formed_word l current_round_at x round_spare front S
  where
    l' : List ℕ
    l' = set l current_round_at x

    other : (j : ℕ) → (j ≡ current_round_at → ⊥) → get_or l' j 0 ≡ get_or l j 0
    other j h = get_or-set_other l current_round_at j x 0 h

    n : member_count l' ≡ member_count l
    n = other member_count_at (λ e. omega arith)

    here : current_round l' ≡ x
    here = get_or-set_same l current_round_at x 0 (omega (arith, S.size))

    front : Front l'
    front = record {
      members = ap legal n ∙ S.front.members;
      low = rw n S.front.low;
      high = rw n S.front.high;
      round_low = rw here a;
      round_high = rw here b;
      own = own_same l l' n (other own_at (λ e. omega arith)) (other made_at (λ e. omega arith)) (other signed_at (λ e. omega arith)) ∙ S.front.own;
    }

-- The round rule keeps the state formed.
pub formed_raise : (l : List ℕ) → WellFormed l → WellFormed (raise_round l)
formed_raise l S = raise_as l WellFormed (λ e. S)
    (λ e. formed_round l (1 + highest_passable l rounds) (omega arith) (omega (arith, highest_high l rounds)) S)

-- ---- the members of a mask added to a mask

module _ (l : List ℕ) (at m : ℕ) (fits : at < length l) where
  pub join_here : get_or (add_members l at m) at 0 ≡ bit_or (get_or l at 0) m
  unfolding add_members
  join_here = get_or-set_same l at (bit_or (get_or l at 0) m) 0 fits

  pub join_other : (j : ℕ) → (j ≡ at → ⊥) → get_or (add_members l at m) j 0 ≡ get_or l j 0
  unfolding add_members
  join_other j h = get_or-set_other l at j (bit_or (get_or l at 0) m) 0 h

  -- no bound of a mask is passed
  join_low : (k j : ℕ) → m < 2 ^ k → get_or l j 0 < 2 ^ k → get_or (add_members l at m) j 0 < 2 ^ k
  join_low k j h w = ⊎_elim
      (λ d. let e = eqb-true j at d in rw e (rw join_here (or_lt k (get_or l at 0) m (rw e at w) h)))
      (λ d. rw (join_other j (eqb-false j at d)) w)
      (which (eqb j at))

  -- nobody is lost
  pub join_more : (j q : ℕ) → has (get_or l j 0) q ≡ true → has (get_or (add_members l at m) j 0) q ≡ true
  join_more j q h = ⊎_elim
      (λ d. let e = eqb-true j at d in rw e (rw join_here (has_or (get_or l at 0) m q ∙ or_left _ (rw e at h))))
      (λ d. rw (join_other j (eqb-false j at d)) h)
      (which (eqb j at))

-- ---- one member: the mask of it alone

module _ (l : List ℕ) (at p : ℕ) (fits : at < length l) where
  add_here : get_or (add_member l at p) at 0 ≡ add (get_or l at 0) p
  unfolding add_member add_members
  add_here = join_here l at (2 ^ p) fits

  add_other : (j : ℕ) → (j ≡ at → ⊥) → get_or (add_member l at p) j 0 ≡ get_or l j 0
  unfolding add_member add_members
  add_other = join_other l at (2 ^ p) fits

  add_low : (k j : ℕ) → p < k → get_or l j 0 < 2 ^ k → get_or (add_member l at p) j 0 < 2 ^ k
  unfolding add_member add_members
  add_low k j h = join_low l at (2 ^ p) fits k j (pow-lt h)

  add_more : (j q : ℕ) → has (get_or l j 0) q ≡ true → has (get_or (add_member l at p) j 0) q ≡ true
  unfolding add_member add_members
  add_more = join_more l at (2 ^ p) fits

  -- only p is new
  add_new : (j q : ℕ) → has (get_or (add_member l at p) j 0) q ≡ true → (has (get_or l j 0) q ≡ true) ⊎ ((j ≡ at) × (p ≡ q))
  add_new j q h = go (which (eqb j at))
    where
      go : (eqb j at ≡ true) ⊎ (eqb j at ≡ false) → (has (get_or l j 0) q ≡ true) ⊎ ((j ≡ at) × (p ≡ q))
      go (inl d) =
          let e = eqb-true j at d in
          ⊎_elim (λ c. inl (rw e c)) (λ c. inr (e, eqb-true p q c))
          (or_cases _ _ (sym (ap (λ (i : ℕ). has (get_or (add_member l at p) i 0) q) e ∙ ap (λ (m : ℕ). has m q) add_here ∙ has_add (get_or l at 0) p q) ∙ h))
      go (inr d) = inl (rw (add_other j (eqb-false j at d)) at h)

  add_there : has (get_or (add_member l at p) at 0) p ≡ true
  add_there = rw add_here (has_add (get_or l at 0) p p ∙ or_right (has (get_or l at 0) p) (eq-eqb p p refl))

-- ---- the masks that no list and no cell depends on

-- j is none of the masks 1 to 4 of a round: heard, votes, timeouts, no-votes
abbrev OffNotes : ℕ → Type 0
OffNotes j = (r i : ℕ) → 1 ≤ r → r ≤ rounds → 1 ≤ i → i < ordered_kind → j ≡ masks_at r + i → ⊥

-- a state in which only those masks differ
formed_notes : (l l' : List ℕ) → Keeps OffNotes l l' → Masks l' → WellFormed l → WellFormed l'
formed_notes l l' p M S = record {
  size = p.size ∙ S.size;
  front = front_kept OffNotes l l' p (λ j h r i a b c d e. omega arith) (λ j h k r i a b c d e. omega arith) S.front;
  masks = M;
  cells = cells_kept OffNotes l l' p held (λ j h r i a b c d e. omega arith) (λ r i a b c d e. omega arith) S.cells;
  leaders = leaders_kept OffNotes l l' p (λ r i a b c d e. omega arith) (λ r i a b c d e. omega arith) (λ r i a b c d e. omega arith)
      (λ j h k r i a b c d e. omega arith) (λ y e. held_id_kept OffNotes l l' p held y ∙ e) S.leaders;
  journal = journal_kept OffNotes l l' p (λ s h k r i a b c d e. omega arith) (λ r i a b c d e. omega arith) (λ r i a b c d e. omega arith)
      (λ j h k r i a b c d e. omega arith) (λ r q a b e. held_kept OffNotes l l' p held r q a b ∙ e) S.journal;
}
  where
    held : (s : ℕ) → 1 ≤ s → s ≤ rounds → OffNotes (held_at s)
    held s h k r i a b c d e = omega arith

-- the votes are within heard
abbrev VotesHeard : List ℕ → Type 0
VotesHeard l = (s q : ℕ) → 1 ≤ s → s ≤ rounds → has (votes_mask l s) q ≡ true → has (heard_mask l s) q ≡ true

-- where they are, and no word passes the bound of a mask, the masks are as they should be
masks_low : (l l' : List ℕ) → Masks l → ((j : ℕ) → get_or l j 0 < 2 ^ member_count l → get_or l' j 0 < 2 ^ member_count l')
    → VotesHeard l' → votes_mask l' 1 ≡ 0 → Masks l'
masks_low l l' M low f g = record {
  held_low = λ s a b. low (held_at s) (M.held_low s a b);
  heard_low = λ s a b. low (heard_at s) (M.heard_low s a b);
  votes_low = λ s a b. low (votes_at s) (M.votes_low s a b);
  timeouts_low = λ s a b. low (timeouts_at s) (M.timeouts_low s a b);
  no_votes_low = λ s a b. low (no_votes_at s) (M.no_votes_low s a b);
  votes_heard = f;
  votes_first = g;
}

module _ (l : List ℕ) (S : WellFormed l) (r p : ℕ) (low : 1 ≤ r) (high : r ≤ rounds) (few : p < member_count l) where
  module _ (i : ℕ) (from : 1 ≤ i) (to : i < ordered_kind) where
    note_fits : masks_at r + i < length l
    note_fits = omega (arith, S.size)

    note_keeps : Keeps OffNotes l (add_member l (masks_at r + i) p)
    unfolding add_member
    note_keeps = keeps_set OffNotes l (masks_at r + i) (add (get_or l (masks_at r + i) 0) p) (λ j k e. k r i low high from to e)

    note_members : member_count (add_member l (masks_at r + i) p) ≡ member_count l
    note_members = add_other l (masks_at r + i) p note_fits 0 (λ e. omega arith)

    note_low : (j : ℕ) → get_or l j 0 < 2 ^ member_count l → get_or (add_member l (masks_at r + i) p) j 0 < 2 ^ member_count (add_member l (masks_at r + i) p)
    note_low j h = rw note_members (add_low l (masks_at r + i) p note_fits (member_count l) j few h)

    note_masks : VotesHeard (add_member l (masks_at r + i) p) → votes_mask (add_member l (masks_at r + i) p) 1 ≡ 0 → Masks (add_member l (masks_at r + i) p)
    note_masks = masks_low l (add_member l (masks_at r + i) p) S.masks note_low

    -- a member in any of the four masks but votes
    pub formed_note : (i ≡ votes_kind → ⊥) → WellFormed (add_member l (masks_at r + i) p)
    formed_note h = formed_notes l (add_member l (masks_at r + i) p) note_keeps (note_masks
        (λ s q a b e. add_more l (masks_at r + i) p note_fits (heard_at s) q (S.masks.votes_heard s q a b
        (rw (add_other l (masks_at r + i) p note_fits (votes_at s) (λ d. h (omega arith))) at e)))
        (add_other l (masks_at r + i) p note_fits (votes_at 1) (λ d. h (omega arith)) ∙ S.masks.votes_first)) S

  -- a member that is heard in votes, after round 1
  pub formed_votes : (r ≡ 1 → ⊥) → has (heard_mask l r) p ≡ true → WellFormed (add_member l (votes_at r) p)
  formed_votes h e = formed_notes l (add_member l (votes_at r) p) (note_keeps votes_kind (omega arith) (omega arith))
      (note_masks votes_kind (omega arith) (omega arith)
      (λ s q a b d. add_more l (votes_at r) p fits (heard_at s) q
      (⊎_elim (λ c. S.masks.votes_heard s q a b c) (λ c. same s q a c.0 c.1) (add_new l (votes_at r) p fits (votes_at s) q d)))
      (add_other l (votes_at r) p fits (votes_at 1) (λ d. h (omega arith)) ∙ S.masks.votes_first)) S
    where
      fits : votes_at r < length l
      fits = note_fits votes_kind (omega arith) (omega arith)

      same : (s q : ℕ) → 1 ≤ s → votes_at s ≡ votes_at r → p ≡ q → has (heard_mask l s) q ≡ true
      same s q a c d = ap₂ (λ (x y : ℕ). has (heard_mask l x) y) (omega arith) (sym d) ∙ e

  -- ---- a first message

  heard : WellFormed (add_member l (heard_at r) p)
  heard = formed_note heard_kind (omega arith) (omega arith) (λ e. omega arith)

-- a first message of round 1 has no vote
pub formed_hear : (l : List ℕ) → WellFormed l → (r p : ℕ) (body : List ℕ) → Admitted (member_count l) r p body → WellFormed (hear l r p body)
unfolding hear
formed_hear l S r p body A = go (which (votes (member_count l) (r - 1) 0 body))
  where
    H : WellFormed (add_member l (heard_at r) p)
    H = heard l S r p A.round_low A.round_high A.source_low

    fits : heard_at r < length l
    fits = omega (arith, S.size, A.round_low, A.round_high)

    members : member_count (add_member l (heard_at r) p) ≡ member_count l
    members = add_other l (heard_at r) p fits 0 (λ e. omega arith)

    later : votes (member_count l) (r - 1) 0 body ≡ true → r ≡ 1 → ⊥
    later e d = never (ap (λ (m : ℕ). has m (leader (member_count l) (r - 1))) (sym (A.strong_first d)) ∙ e) (has_zero (leader (member_count l) (r - 1)))

    go : (votes (member_count l) (r - 1) 0 body ≡ true) ⊎ (votes (member_count l) (r - 1) 0 body ≡ false) → WellFormed (hear l r p body)
    go (inl e) =
        rw e (formed_votes (add_member l (heard_at r) p) H r p A.round_low A.round_high (rw members A.source_low) (later e)
        (add_there l (heard_at r) p fits))
    go (inr e) = rw e H

-- ---- a mask that joins the timeouts of a round

module _ (l : List ℕ) (S : WellFormed l) (r m : ℕ) (low : 1 ≤ r) (high : r ≤ rounds) (small : m < 2 ^ member_count l) where
  abbrev joined : List ℕ
  joined = add_members l (timeouts_at r) m

  join_fits : timeouts_at r < length l
  join_fits = omega (arith, S.size)

  join_keeps : Keeps OffNotes l joined
  unfolding add_members
  join_keeps = keeps_set OffNotes l (timeouts_at r) (bit_or (timeouts_mask l r) m) (λ j k e. k r timeouts_kind low high (omega arith) (omega arith) e)

  same : (j : ℕ) → (j ≡ timeouts_at r → ⊥) → get_or joined j 0 ≡ get_or l j 0
  same = join_other l (timeouts_at r) m join_fits

  pub formed_joined : WellFormed joined
  formed_joined = formed_notes l joined join_keeps (masks_low l joined S.masks
      (λ j h. rw (same member_count_at (λ e. omega arith)) (join_low l (timeouts_at r) m join_fits (member_count l) j small h))
      (λ s q a b e. ap (λ (x : ℕ). has x q) (same (heard_at s) (λ d. omega arith))
      ∙ S.masks.votes_heard s q a b (rw (same (votes_at s) (λ d. omega arith)) at e))
      (same (votes_at 1) (λ d. omega arith) ∙ S.masks.votes_first)) S

-- ---- a vertex

module _ (l : List ℕ) (S : WellFormed l) (r p : ℕ) (body : List ℕ) (ok : number_of (body_refusal (member_count l) r p body) ≡ 0)
    (there : parents_held l r body ≡ true) where
  A : Admitted (member_count l) r p body
  A = admitted (member_count l) r p body ok

  low : 1 ≤ r
  low = A.round_low

  high : r ≤ rounds
  high = A.round_high

  few : p < slots
  few = omega (arith, A.source_low, S.front.high)

  marked : List ℕ
  marked = add_member l (held_at r) p

  mark_fits : held_at r < length l
  mark_fits = omega (arith, low, high, S.size)

  mark_size : length marked ≡ length l
  unfolding marked add_member
  mark_size = length-set l (held_at r) (add (get_or l (held_at r) 0) p)

  cell_fits : cell_at r p + body_size ≤ length marked
  cell_fits = rw mark_size (omega (arith, low, high, few, S.size))

  -- the words that stay
  OffVertex : ℕ → Type 0
  OffVertex j = (j ≡ held_at r → ⊥) × (cell_at r p ≤ j → j < cell_at r p + body_size → ⊥)

  word : (j : ℕ) → (cell_at r p ≤ j → j < cell_at r p + body_size → ⊥) → get_or (put_vertex l r p body) j 0 ≡ get_or marked j 0
  unfolding put_vertex marked
  word j h = ⊎_elim
      (λ e. paste_before marked (cell_at r p) body body_size cell_fits A.size j (ltb-true j (cell_at r p) e))
      (λ e. paste_after marked (cell_at r p) body body_size cell_fits A.size j (past (ltb-false j (cell_at r p) e) (which (ltb j (cell_at r p + body_size)))))
      (which (ltb j (cell_at r p)))
    where
      past : cell_at r p ≤ j → (ltb j (cell_at r p + body_size) ≡ true) ⊎ (ltb j (cell_at r p + body_size) ≡ false) → cell_at r p + body_size ≤ j
      past a (inl e) = absurd (h a (ltb-true j (cell_at r p + body_size) e))
      past a (inr e) = ltb-false j (cell_at r p + body_size) e

  put_keeps : Keeps OffVertex l (put_vertex l r p body)
  unfolding OffVertex
  put_keeps = record { size = put_size ∙ mark_size; same = λ j k. word j k.1 ∙ other j k.0 }
    where
      put_size : length (put_vertex l r p body) ≡ length marked
      put_size = unfold put_vertex marked in length-paste marked (cell_at r p) body body_size cell_fits (omega (arith, A.size))

      other : (j : ℕ) → (j ≡ held_at r → ⊥) → get_or marked j 0 ≡ get_or l j 0
      other j h = unfold marked in add_other l (held_at r) p mark_fits j h

  put_cell : cell (put_vertex l r p body) r p ≡ body
  put_cell = unfold put_vertex marked in paste_part marked (cell_at r p) body body_size cell_fits A.size

  -- the held masks
  mask_word : (s : ℕ) → 1 ≤ s → s ≤ rounds → held_mask (put_vertex l r p body) s ≡ held_mask (add_member l (held_at r) p) s
  unfolding marked
  mask_word s a b = word (held_at s) (λ c d. omega arith)

  pub put_more : (s q : ℕ) → 1 ≤ s → s ≤ rounds → has (held_mask l s) q ≡ true → has (held_mask (put_vertex l r p body) s) q ≡ true
  put_more s q a b h = ap (λ (m : ℕ). has m q) (mask_word s a b) ∙ add_more l (held_at r) p mark_fits (held_at s) q h

  put_new : (s q : ℕ) → 1 ≤ s → s ≤ rounds → has (held_mask (put_vertex l r p body) s) q ≡ true → (has (held_mask l s) q ≡ true) ⊎ ((s ≡ r) × (p ≡ q))
  put_new s q a b h = ⊎_elim (λ c. inl c) (λ c. let e = c.0 in inr (omega (arith, low), c.1))
      (add_new l (held_at r) p mark_fits (held_at s) q (ap (λ (m : ℕ). has m q) (sym (mask_word s a b)) ∙ h))

  put_there : has (held_mask (put_vertex l r p body) r) p ≡ true
  put_there = ap (λ (m : ℕ). has m p) (mask_word r low high) ∙ add_there l (held_at r) p mark_fits

  put_id : (y : ℕ) → held_id l y ≡ true → held_id (put_vertex l r p body) y ≡ true
  put_id y e =
      let t : is_round (id_round y) ≡ true = and_left _ _ e in
      let w = round_range (id_round y) t in
      and_both t (put_more (id_round y) (id_member y) w.0 w.1 (and_right (is_round (id_round y)) _ e))

  members : member_count (put_vertex l r p body) ≡ member_count l
  unfolding OffVertex
  members = put_keeps.same member_count_at (λ e. omega arith, λ a b. omega arith)

  -- a word of another mask
  off_mask : (s i : ℕ) → 1 ≤ s → s ≤ rounds → 1 ≤ i → i < kinds → OffVertex (masks_at s + i)
  unfolding OffVertex
  off_mask s i a b c d = (λ e. omega arith, λ e f. omega arith)

  put_masks : Masks (put_vertex l r p body)
  put_masks = record {
    held_low = λ s a b. rw (members, mask_word s a b) (add_low l (held_at r) p mark_fits (member_count l) (held_at s) A.source_low (M.held_low s a b));
    heard_low = λ s a b. rw (members, same s heard_kind a b (omega arith) (omega arith)) (M.heard_low s a b);
    votes_low = λ s a b. rw (members, same s votes_kind a b (omega arith) (omega arith)) (M.votes_low s a b);
    timeouts_low = λ s a b. rw (members, same s timeouts_kind a b (omega arith) (omega arith)) (M.timeouts_low s a b);
    no_votes_low = λ s a b. rw (members, same s no_votes_kind a b (omega arith) (omega arith)) (M.no_votes_low s a b);
    votes_heard = λ s q a b h. ap (λ (m : ℕ). has m q) (same s heard_kind a b (omega arith) (omega arith))
        ∙ M.votes_heard s q a b (ap (λ (m : ℕ). has m q) (sym (same s votes_kind a b (omega arith) (omega arith))) ∙ h);
    votes_first = same 1 votes_kind (omega arith) (omega arith) (omega arith) (omega arith) ∙ M.votes_first;
  }
    where
      M : Masks l
      M = S.masks

      same : (s i : ℕ) → 1 ≤ s → s ≤ rounds → 1 ≤ i → i < kinds → get_or (put_vertex l r p body) (masks_at s + i) 0 ≡ get_or l (masks_at s + i) 0
      same s i a b c d = put_keeps.same (masks_at s + i) (off_mask s i a b c d)

  -- the other cells
  other_cell : (s q : ℕ) → (cell_at s q ≡ cell_at r p → ⊥) → (j : ℕ) → cell_at s q ≤ j → j < cell_at s q + body_size → OffVertex j
  unfolding OffVertex
  other_cell s q h j a b = (λ e. omega (arith, low, high), λ c d. h (omega arith))

  cell_same : (s q : ℕ) → (cell_at s q ≡ cell_at r p → ⊥) → cell (put_vertex l r p body) s q ≡ cell l s q
  cell_same s q h = keeps_part OffVertex l (put_vertex l r p body) put_keeps (cell_at s q) body_size (other_cell s q h)

  same_place : (s q : ℕ) → 1 ≤ s → q < slots → cell_at s q ≡ cell_at r p → (s ≡ r) × (q ≡ p)
  same_place s q a b e = let d : s ≡ r = omega (arith, low, few) in (d, omega arith)

  put_cells : Cells (put_vertex l r p body)
  put_cells = record { admits = admits; parents = parents; zero_cell = zeros }
    where
      old : (s q : ℕ) → 1 ≤ s → s ≤ rounds → (cell_at s q ≡ cell_at r p → ⊥) → has (held_mask (put_vertex l r p body) s) q ≡ true → has (held_mask l s) q ≡ true
      old s q a b h e = ⊎_elim (λ c. c) (λ c. absurd (h (ap₂ cell_at c.0 (sym c.1)))) (put_new s q a b e)

      admits : (s q : ℕ) → 1 ≤ s → s ≤ rounds → q < slots → has (held_mask (put_vertex l r p body) s) q ≡ true
          → number_of (body_refusal (member_count (put_vertex l r p body)) s q (cell (put_vertex l r p body) s q)) ≡ 0
      admits s q a b k h = go (which (eqb (cell_at s q) (cell_at r p)))
        where
          go : (eqb (cell_at s q) (cell_at r p) ≡ true) ⊎ (eqb (cell_at s q) (cell_at r p) ≡ false)
              → number_of (body_refusal (member_count (put_vertex l r p body)) s q (cell (put_vertex l r p body) s q)) ≡ 0
          go (inl e) =
              let w = same_place s q a k (eqb-true _ _ e) in
              rw (w.0, w.1) (ap₂ (λ (n : ℕ) (c : List ℕ). number_of (body_refusal n r p c)) members put_cell ∙ ok)
          go (inr e) =
              let d = eqb-false (cell_at s q) (cell_at r p) e in
              ap₂ (λ (n : ℕ) (c : List ℕ). number_of (body_refusal n s q c)) members (cell_same s q d) ∙ S.cells.admits s q a b k (old s q a b d h)

      parents : (s q : ℕ) → 1 ≤ s → s ≤ rounds → q < slots → has (held_mask (put_vertex l r p body) s) q ≡ true
          → parents_held (put_vertex l r p body) s (cell (put_vertex l r p body) s q) ≡ true
      parents s q a b k h = parents_more l (put_vertex l r p body) put_id s (cell (put_vertex l r p body) s q) (go (which (eqb (cell_at s q) (cell_at r p))))
        where
          go : (eqb (cell_at s q) (cell_at r p) ≡ true) ⊎ (eqb (cell_at s q) (cell_at r p) ≡ false) → parents_held l s (cell (put_vertex l r p body) s q) ≡ true
          go (inl e) =
              let w = same_place s q a k (eqb-true _ _ e) in
              rw (w.0, w.1) (ap (parents_held l r) put_cell ∙ there)
          go (inr e) =
              let d = eqb-false (cell_at s q) (cell_at r p) e in
              ap (parents_held l s) (cell_same s q d) ∙ S.cells.parents s q a b k (old s q a b d h)

      zeros : (s q i : ℕ) → 1 ≤ s → s ≤ rounds → q < slots → i < body_size → has (held_mask (put_vertex l r p body) s) q ≡ false
          → get_or (put_vertex l r p body) (cell_at s q + i) 0 ≡ 0
      zeros s q i a b k m h = go (which (eqb (cell_at s q) (cell_at r p)))
        where
          go : (eqb (cell_at s q) (cell_at r p) ≡ true) ⊎ (eqb (cell_at s q) (cell_at r p) ≡ false) → get_or (put_vertex l r p body) (cell_at s q + i) 0 ≡ 0
          go (inl e) =
              let w = same_place s q a k (eqb-true _ _ e) in
              never (ap₂ (λ (x y : ℕ). has (held_mask (put_vertex l r p body) x) y) w.0 w.1 ∙ put_there) h
          go (inr e) =
              let d = eqb-false (cell_at s q) (cell_at r p) e in
              put_keeps.same (cell_at s q + i) (other_cell s q d (cell_at s q + i) (omega arith) (omega arith))
              ∙ S.cells.zero_cell s q i a b k m (⊎_elim (λ c. never (put_more s q a b c) h) (λ c. c) (which (has (held_mask l s) q)))

  -- A vertex that no question refuses keeps the state formed.
  pub formed_put : WellFormed (put_vertex l r p body)
  unfolding OffVertex
  formed_put = record {
    size = put_keeps.size ∙ S.size;
    front = front_kept OffVertex l (put_vertex l r p body) put_keeps (λ j a. (λ e. omega arith, λ b c. omega arith))
        (λ j a b. (λ e. omega arith, λ c d. omega arith)) S.front;
    masks = put_masks;
    cells = put_cells;
    leaders = leaders_kept OffVertex l (put_vertex l r p body) put_keeps (λ e. omega arith, λ b c. omega arith) (λ e. omega arith, λ b c. omega arith)
        (λ e. omega arith, λ b c. omega arith) (λ j a b. (λ e. omega (arith, low, high), λ c d. omega (arith, low, high, few))) put_id S.leaders;
    journal = journal_kept OffVertex l (put_vertex l r p body) put_keeps (λ s a b. off_mask s ordered_kind a b (omega arith) (omega arith)) (
      λ e. omega arith,
      λ b c. omega arith,
    )
        (λ e. omega arith, λ b c. omega arith) (λ j a b. (λ e. omega (arith, low, high), λ c d. omega arith)) put_more S.journal;
  }
