-- Which words the commits change, and that Standing rests on none of them. Assumes nothing.
use mathlib.Core.Path.{◌≡◌, sym, ap, ◌∙◌}
use mathlib.Core.List.{List}
use Prim.Native.Nat.{ℕ, ◌+◌, ◌≤◌, ◌<◌}
use native.Mathlib.Omega.{arith}
use lib.ListN.{get_or}
use Rattle.record.specs.Members.{legal, has, id_round, rounds}
use Rattle.protocol.specs.Dag.{Records}
use Rattle.replica.specs.Layout.{committed_round_at, held_kind, heard_kind, votes_kind, leaders_end, journal_end, cells_end}
use Rattle.replica.specs.Layout.{cells_at, member_count_at, leader_count_at, journal_count_at, own_at, ordered_kind, current_round_at, timeouts_kind}
use Rattle.replica.specs.Layout.{masks_at, held_at, heard_at, votes_at, ordered_at, cell_at, head_size, leaders_at, leaders_size, journal_at, journal_size}
use Rattle.replica.specs.State.{member_count, leader_count, journal_count, vertices, firsts, add_member}
use Rattle.replica.proofs.Keeping.{Keeps, keeps_trans, keeps_less, keeps_set, vertices_kept, firsts_kept}
use Rattle.commits.specs.Commit.{append_leader, enter}
use Rattle.commits.specs.Standing.{Standing}

-- ---- the words that the lists are written in

-- j is neither the leader count nor in the leader list
abbrev pub OffLeaders : ℕ → Type 0
OffLeaders j = (j ≡ leader_count_at → ⊥) × (leaders_at ≤ j → j < leaders_end → ⊥)

-- j is neither the journal count, nor in the journal, nor an ordered mask
abbrev pub OffJournal : ℕ → Type 0
OffJournal j = (j ≡ journal_count_at → ⊥) × (journal_at ≤ j → j < journal_end → ⊥) × ((r : ℕ) → 1 ≤ r → r ≤ rounds → j ≡ ordered_at r → ⊥)

-- j is none of these, nor the committed round
pub record OffLists (j : ℕ) : Type 0 where
  pub not_committed : j ≡ committed_round_at → ⊥
  pub off_leaders : OffLeaders j
  pub off_journal : OffJournal j

-- words 0 and 1, the own words, the other masks and the cells are off the lists
pub off_front : (j : ℕ) → j ≤ current_round_at → OffLists j
off_front j a = record {
  not_committed = λ e. omega arith;
  off_leaders = (λ e. omega arith, λ b c. omega arith);
  off_journal = (λ e. omega arith, λ b c. omega arith, λ r b c e. omega arith);
}

-- words 5 to 7
pub off_own : (j : ℕ) → own_at ≤ j → j < head_size → OffLists j
off_own j a b = record {
  not_committed = λ e. omega arith;
  off_leaders = (λ e. omega arith, λ c d. omega arith);
  off_journal = (λ e. omega arith, λ c d. omega arith, λ r c d e. omega arith);
}

-- masks 0 to 4 of a round
pub off_mask : (r i : ℕ) → 1 ≤ r → r ≤ rounds → i < ordered_kind → OffLists (masks_at r + i)
off_mask r i a b k = record {
  not_committed = λ e. omega arith;
  off_leaders = (λ e. omega arith, λ c d. omega arith);
  off_journal = (λ e. omega arith, λ c d. omega arith, λ s c d e. omega arith);
}

-- the cells
pub off_cells : (j : ℕ) → cells_at ≤ j → j < cells_end → OffLists j
off_cells j a b = record {
  not_committed = λ e. omega arith;
  off_leaders = (λ e. omega arith, λ c d. omega arith);
  off_journal = (λ e. omega arith, λ c d. omega arith, λ s c d e. omega arith);
}

-- ---- a state with the same vertices stands as well

-- what Standing says rests on word 0, the held, heard and votes masks, and the cells
pub standing_kept : (K : ℕ → Type 0) (l l' : List ℕ) → Keeps K l l' → K member_count_at
    → ((r i : ℕ) → 1 ≤ r → r ≤ rounds → i < timeouts_kind → K (masks_at r + i))
    → ((j : ℕ) → cells_at ≤ j → j < cells_end → K j) → Standing l → Standing l'
standing_kept K l l' p k f g S =
    let n = p.same member_count_at k in
    let v = vertices_kept K l l' p (λ r a b. f r held_kind a b (omega arith)) g in
    record {
      size = p.size ∙ S.size;
      members = ap legal n ∙ S.members;
      low = rw n S.low;
      high = rw n S.high;
      valid = rw (n, v) S.valid;
      words = λ r q i a b c d. ap (λ (x : Records). get_or (x r q) i 0) v ∙ S.words r q i a b c d
          ∙ sym (p.same (cell_at r q + i) (g (cell_at r q + i) (omega arith) (omega arith)));
      held_low = λ r a b. rw (n, p.same (held_at r) (f r held_kind a b (omega arith))) (S.held_low r a b);
      votes_low = λ r a b. rw (n, p.same (votes_at r) (f r votes_kind a b (omega arith))) (S.votes_low r a b);
      votes_heard = λ r q a b h. ap (λ (m : ℕ). has m q) (p.same (heard_at r) (f r heard_kind a b (omega arith)))
          ∙ S.votes_heard r q a b (ap (λ (m : ℕ). has m q) (sym (p.same (votes_at r) (f r votes_kind a b (omega arith)))) ∙ h);
    }

-- where only list words change
module _ (l l' : List ℕ) (p : Keeps OffLists l l') where
  -- Standing
  pub lists_standing : Standing l → Standing l'
  lists_standing = standing_kept OffLists l l' p (off_front member_count_at (omega arith)) (λ r i a b k. off_mask r i a b (omega arith)) off_cells

  -- the member count
  pub lists_members : member_count l' ≡ member_count l
  lists_members = p.same member_count_at (off_front member_count_at (omega arith))

  -- the vertices
  pub lists_vertices : vertices l' ≡ vertices l
  lists_vertices = vertices_kept OffLists l l' p (λ r a b. off_mask r 0 a b (omega arith)) off_cells

  -- the first messages
  pub lists_firsts : firsts l' ≡ firsts l
  lists_firsts = firsts_kept OffLists l l' p (off_front member_count_at (omega arith)) (λ r a b. off_mask r heard_kind a b (omega arith))
      (λ r a b. off_mask r votes_kind a b (omega arith))

-- words 1 to 4, an ordered word and a list word, set
abbrev pub Core : ℕ → Type 0
Core j = (current_round_at ≤ j → j ≤ journal_count_at → ⊥) × (leaders_at ≤ j → j < leaders_end → ⊥) × (journal_at ≤ j → j < journal_end → ⊥)
    × ((r : ℕ) → 1 ≤ r → r ≤ rounds → j ≡ ordered_at r → ⊥)

-- ---- what one append and one entry keep

-- a leader appended
pub keeps_leader : (l : List ℕ) (r : ℕ) → leader_count l < leaders_size → Keeps OffLeaders l (append_leader l r)
unfolding append_leader
keeps_leader l r h = keeps_trans OffLeaders l _ _
    (keeps_set OffLeaders l (leaders_at + leader_count l) _ (λ j k e. k.1 (omega arith) (omega arith)))
    (keeps_set OffLeaders _ leader_count_at _ (λ j k e. k.0 e))

-- an id entered
pub keeps_entry : (l : List ℕ) (y : ℕ) → 1 ≤ id_round y → id_round y ≤ rounds → journal_count l < journal_size → Keeps OffJournal l (enter l y)
unfolding enter add_member
keeps_entry l y a b h = keeps_trans OffJournal l _ _
    (keeps_set OffJournal l (ordered_at (id_round y)) _ (λ j k e. k.2 (id_round y) a b e))
    (keeps_trans OffJournal _ _ _
    (keeps_set OffJournal _ (journal_at + journal_count l) y (λ j k e. k.1 (omega arith) (omega arith)))
    (keeps_set OffJournal _ journal_count_at _ (λ j k e. k.0 e)))

-- the same of entries
pub journal_lists : (l l' : List ℕ) → Keeps OffJournal l l' → Keeps OffLists l l'
journal_lists l l' p = keeps_less OffJournal OffLists l l' (λ j k. k.off_journal) p
