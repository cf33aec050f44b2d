-- When a state is well formed (01: sound): a line for each clause of the paper, in its order.
use Rattle.std.specs.Prelude.{Bool, true, cond, not, ◌&&◌, ◌||◌, List, [], ◌∷◌, ℕ, ◌+◌, ◌-◌, eqb, leb, ltb, get_or, take}
use Rattle.std.specs.Int.Bits.{bit_and}
use Rattle.record.specs.Below.{all}
use Rattle.record.specs.Members.{rounds, slots, legal, has, within, id_round, id_limit, voted_rounds}
use Rattle.record.specs.Refusals.{number_of}
use Rattle.record.specs.Layout.{body_size}
use Rattle.record.specs.Questions.{body_refusal}
use Rattle.protocol.specs.Journal.{among}
use Rattle.replica.specs.Layout.{held_kind, heard_kind, votes_kind, ordered_kind, watcher, leaders_size, journal_size, cell_at}
use Rattle.replica.specs.State.{member_count, current_round, committed_round, leader_count, journal_count, mask_of, held_mask, heard_mask, votes_mask}
use Rattle.replica.specs.State.{width, leader_index, last_leader}
use Rattle.replica.specs.State.{own_word, made_rounds, signed_rounds}
use Rattle.replica.specs.State.{timeouts_mask, no_votes_mask, ordered_mask, leader_word, journal_word, journal_list, cell, held_id, ordered_id}
use Rattle.replica.specs.Parents.{parents_held}

-- every round from 1 to 32 satisfies t
abbrev pub each_round : (ℕ → Bool) → Bool
each_round t = all rounds (λ i. t (i + 1))

-- the mask a lies within the mask b
abbrev pub subset : ℕ → ℕ → Bool
subset a b = eqb (bit_and a b) a

-- the own member is below n; a watcher has made no record and signed no no-vote
unfoldable pub own_ok : List ℕ → Bool
own_ok l = leb (own_word l) (member_count l) && cond (eqb (own_word l) watcher) (eqb (made_rounds l) 0 && eqb (signed_rounds l) 0) true

-- no mask of round r has a bit at n or above
unfoldable pub masks_within : List ℕ → ℕ → Bool
masks_within l r =
    within (member_count l) (held_mask l r)
    && (within (member_count l) (heard_mask l r)
    && (within (member_count l) (votes_mask l r)
    && (within (member_count l) (timeouts_mask l r)
    && (within (member_count l) (no_votes_mask l r)
    && within (member_count l) (ordered_mask l r)))))

-- each round's mask of the one kind lies within that of the other
abbrev pub kind_within : List ℕ → ℕ → ℕ → Bool
kind_within l kind other = each_round (λ r. subset (mask_of l kind r) (mask_of l other r))

-- a held record passes questions 5 to 11 and 14, and a cell not held is zero
abbrev pub record_ok : List ℕ → ℕ → ℕ → List ℕ → Bool
record_ok l r p body = eqb (number_of (body_refusal (member_count l) r p body)) 0 && parents_held l r body

unfoldable pub cell_ok : List ℕ → ℕ → ℕ → Bool
cell_ok l r p =
    cond (has (held_mask l r) p)
    (record_ok l r p (cell l r p))
    (all body_size (λ i. eqb (get_or l (cell_at r p + i) 0) 0))

-- the place before entry i of the leader list: the round of the entry before it, and how many leaders of that round are in the list by then
abbrev pub round_before : List ℕ → ℕ → ℕ
round_before l i = cond (eqb i 0) 0 (id_round (leader_word l (i - 1)))

abbrev pub place_before : List ℕ → ℕ → ℕ
place_before l i = cond (eqb i 0) 0 (leader_index l (leader_word l (i - 1)) + 1)

-- leader i of round r comes next behind the first a leaders of round c: it is the main one of a later round, or the next one of the same round
abbrev pub comes_next : ℕ → ℕ → ℕ → ℕ → Bool
comes_next c a r i = cond (eqb i 0) (ltb c r) (eqb r c && eqb i a)

-- entry i of the leader list is the held vertex of a leader of its round, and comes next behind the entry before
unfoldable pub leader_ok : List ℕ → ℕ → Bool
leader_ok l i =
    held_id l (leader_word l i)
    && (ltb (leader_index l (leader_word l i)) (width l)
    && comes_next (round_before l i) (place_before l i) (id_round (leader_word l i)) (leader_index l (leader_word l i)))

-- the last round of the leader list, 0 if it is empty
unfoldable pub last_leader_round : List ℕ → ℕ
last_leader_round l = cond (eqb (leader_count l) 0) 0 (id_round (last_leader l))

-- the leader list names held leader vertices by rising round, in a round by index 0, 1, .. without a gap; its last round is the committed round, so it is
-- empty exactly if that is 0
unfoldable pub leaders_ok : List ℕ → Bool
leaders_ok l = leb (leader_count l) leaders_size && (all (leader_count l) (leader_ok l) && eqb (last_leader_round l) (committed_round l))

-- entry i of the journal is an ordered vertex, and no entry before it is the same
unfoldable pub entry_ok : List ℕ → ℕ → Bool
entry_ok l i = ordered_id l (journal_word l i) && not (among (take i (journal_list l)) (journal_word l i))

-- the journal names exactly the ordered vertices, each once
unfoldable pub journal_ok : List ℕ → Bool
journal_ok l = leb (journal_count l) journal_size && (all (journal_count l) (entry_ok l) && all id_limit (λ y. not (ordered_id l y) || among (journal_list l) y))

-- list words beyond the counts are 0
unfoldable pub rest_zero : List ℕ → Bool
rest_zero l =
    all leaders_size (λ i. ltb i (leader_count l) || eqb (leader_word l i) 0)
    && all journal_size (λ i. ltb i (journal_count l) || eqb (journal_word l i) 0)

-- every clause holds
abbrev pub every : List Bool → Bool
every [] = true
every (clause ∷ rest) = clause && every rest

abbrev pub clauses : List ℕ → List Bool
clauses l =
    legal (member_count l)
    ∷ (leb 1 (current_round l) && leb (current_round l) (rounds + 1))
    ∷ leb (committed_round l) voted_rounds
    ∷ own_ok l
    ∷ each_round (masks_within l)
    ∷ (kind_within l votes_kind heard_kind && eqb (votes_mask l 1) 0)
    ∷ kind_within l ordered_kind held_kind
    ∷ each_round (λ r. all slots (cell_ok l r))
    ∷ leaders_ok l
    ∷ journal_ok l
    ∷ rest_zero l
    ∷ []

unfoldable pub well_formed : List ℕ → Bool
well_formed l = every (clauses l)
