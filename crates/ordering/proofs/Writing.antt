-- What the calls write before any commit: which words stay, and what becomes of the vertices and the first messages. Assumes nothing.
use mathlib.Core.Path.{◌≡◌, refl, sym, ap, ap₂, ◌∙◌}
use mathlib.Core.Bool.{Bool, true, false, cond, ◌&&◌, or-false}
use mathlib.Core.Logic.{◌⊎◌, inl, inr, ⊎_elim}
use mathlib.Core.List.{List, [], ◌∷◌}
use Prim.Native.Nat.{ℕ, zero, suc, ◌+◌, ◌-◌, ◌^◌, ◌≤◌, ◌<◌}
use native.Mathlib.Omega.{arith}
use lib.Dec.{eqb, ltb}
use lib.ListN.{length, get_or, set, take, drop, length-set}
use lib.Seq.{get_or-set_same, get_or-set_other, paste, length-paste}
use borrow.Author.Tests.{eqb-true, eqb-false, eq-eqb, ltb-true, ltb-false, lt-ltb}
use Rattle.record.specs.Members.{leader, has, add, is_round, rounds, slots}
use Rattle.record.specs.Layout.{strong_of, body_size}
use Rattle.record.proofs.Booleans.{which, never, and_left, and_right, and_both, and_cong, cond_true, cond_cong}
use Rattle.record.proofs.Masks.{has_add, has_add_same, has_zero, has_one, has_bound}
use Rattle.record.proofs.Rounds.{round_range, round_in}
use Rattle.protocol.specs.Dag.{present, votes}
use Rattle.replica.specs.Layout.{journal_size, cells_at, leader_count_at, journal_count_at, timeouts_kind, current_round_at, own_at, leaders_end, journal_end}
use Rattle.replica.specs.Layout.{cells_end, masks_end}
use Rattle.replica.specs.Layout.{masks_at, held_at, heard_at, votes_at, cell_at, state_size, head_size, kinds, leaders_at, leaders_size, journal_at}
use Rattle.replica.specs.State.{member_count, committed_round, leader_count, journal_count, held_mask, heard_mask, votes_mask, leader_list}
use Rattle.replica.specs.State.{journal_list, cell, vertices, firsts, add_member, add_members}
use Rattle.replica.proofs.Keeping.{Keeps, keeps_part, vertices_kept, Spare}
use Rattle.commits.specs.Commit.{highest_passable, raise_round}
use Rattle.ordering.specs.Calls.{put_vertex, hear}
use Rattle.ordering.proofs.Copying.{paste_before, paste_after, paste_part}
use Rattle.ordering.proofs.Rule.{raise_as}
use Rattle.ordering.proofs.Marks.{round_spare}
use Rattle.commits.proofs.Frame.{Alike, alike_self, alike_set, loose_head}

-- ---- the lists stay

-- the counts, the committed round, and the words of both lists are the same
pub record Calm (l m : List ℕ) : Type 0 where
  pub size : length m ≡ length l
  pub head : (j : ℕ) → j < own_at → (j ≡ current_round_at → ⊥) → get_or m j 0 ≡ get_or l j 0
  pub lists : (j : ℕ) → leaders_at ≤ j → j < leaders_end → get_or m j 0 ≡ get_or l j 0
  pub entries : (j : ℕ) → journal_at ≤ j → j < journal_end → get_or m j 0 ≡ get_or l j 0

-- nothing changed
pub calm_self : (l : List ℕ) → Calm l l
calm_self l = record { size = refl; head = λ j a b. refl; lists = λ j a b. refl; entries = λ j a b. refl }

-- one change after another
pub calm_then : {l m o : List ℕ} → Calm l m → Calm m o → Calm l o
calm_then a b = record {
  size = b.size ∙ a.size;
  head = λ j x y. b.head j x y ∙ a.head j x y;
  lists = λ j x y. b.lists j x y ∙ a.lists j x y;
  entries = λ j x y. b.entries j x y ∙ a.entries j x y;
}

-- the current round, or an own word
pub calm_spare : (l : List ℕ) (i x : ℕ) → Spare i → Calm l (set l i x)
calm_spare l i x s = record {
  size = length-set l i x;
  head = λ j a b. get_or-set_other l i j x 0 (λ e. apart j a b (sym e));
  lists = λ j a b. get_or-set_other l i j x 0 (λ e. omega (arith, s.head));
  entries = λ j a b. get_or-set_other l i j x 0 (λ e. omega (arith, s.head));
}
  where
    apart : (j : ℕ) → j < own_at → (j ≡ current_round_at → ⊥) → i ≡ j → ⊥
    apart zero a b e = s.not_members e
    apart (suc zero) a b e = b refl
    apart (suc (suc zero)) a b e = s.not_committed e
    apart (suc (suc (suc zero))) a b e = s.not_leaders e
    apart (suc (suc (suc (suc zero)))) a b e = s.not_journal e
    apart (suc (suc (suc (suc (suc j))))) a b e = absurd (omega arith)

-- a word of the masks
pub calm_mask : (l : List ℕ) (i x : ℕ) → head_size ≤ i → i < masks_end → Calm l (set l i x)
calm_mask l i x low high = record {
  size = length-set l i x;
  head = λ j a b. get_or-set_other l i j x 0 (λ e. omega arith);
  lists = λ j a b. get_or-set_other l i j x 0 (λ e. omega arith);
  entries = λ j a b. get_or-set_other l i j x 0 (λ e. omega arith);
}

-- where they differ in no word that matters
same_words : (l m : List ℕ) → length m ≡ length l → Keeps (λ j. get_or m j 0 ≡ get_or l j 0) l m
same_words l m size = record { size = size; same = λ j e. e }

-- the same run of words
part_same : (l m : List ℕ) (k c : ℕ) → length m ≡ length l → ((j : ℕ) → k ≤ j → j < k + c → get_or m j 0 ≡ get_or l j 0) → take c (drop k m) ≡ take c (drop k l)
part_same l m k c size same = keeps_part (λ j. get_or m j 0 ≡ get_or l j 0) l m (same_words l m size) k c same

module _ {l m : List ℕ} (C : Calm l m) where
  -- the member count
  pub calm_members : member_count m ≡ member_count l
  calm_members = C.head 0 (omega arith) (λ e. omega arith)

  -- the committed round
  pub calm_committed : committed_round m ≡ committed_round l
  calm_committed = C.head 2 (omega arith) (λ e. omega arith)

  -- the leader list
  pub calm_leaders : leader_count l ≤ leaders_size → leader_list m ≡ leader_list l
  calm_leaders few = rw (C.head leader_count_at (omega arith) (λ e. omega arith)) (part_same l m leaders_at (leader_count l) C.size
      (λ j a b. C.lists j a (omega arith)))

  -- the journal
  pub calm_journal : journal_count l ≤ journal_size → journal_list m ≡ journal_list l
  calm_journal few = rw (C.head journal_count_at (omega arith) (λ e. omega arith)) (part_same l m journal_at (journal_count l) C.size
      (λ j a b. C.entries j a (omega arith)))

-- ---- where the vertices and the first messages stay

-- the vertices rest on the held masks and the cells
vertices_by : (l m : List ℕ) → length m ≡ length l → ((s : ℕ) → 1 ≤ s → s ≤ rounds → held_mask m s ≡ held_mask l s)
    → ((j : ℕ) → cells_at ≤ j → j < cells_end → get_or m j 0 ≡ get_or l j 0)
    → vertices m ≡ vertices l
vertices_by l m size masks cells = vertices_kept (λ j. get_or m j 0 ≡ get_or l j 0) l m (same_words l m size) masks cells

-- a first message rests on its two bits
firsts_by : (l m : List ℕ) → member_count m ≡ member_count l → (s q : ℕ) → (1 ≤ s → s ≤ rounds → has (heard_mask m s) q ≡ has (heard_mask l s) q)
    → (1 ≤ s → s ≤ rounds → has (votes_mask m s) q ≡ has (votes_mask l s) q) → firsts m s q ≡ firsts l s q
unfolding firsts
firsts_by l m members s q heard voted = cond_cong
    (and_cong {a = is_round s} refl (λ e. let w = round_range s e in heard w.0 w.1))
    (λ e. let w = round_range s (and_left (is_round s) _ e) in
    ap₂ (λ (n : ℕ) (b : Bool). cond b (2 ^ leader n (s - 1)) 0 ∷ []) members (voted w.0 w.1)) refl

-- ---- the round rule, and a note

-- the lists stay
pub raise_calm : (l : List ℕ) → Calm l (raise_round l)
raise_calm l = raise_as l (Calm l) (λ e. calm_self l) (λ e. calm_spare l current_round_at (1 + highest_passable l rounds) round_spare)

-- the records stay
pub raise_alike : (l : List ℕ) → Alike l (raise_round l)
raise_alike l = raise_as l (Alike l) (λ e. alike_self l)
    (λ e. alike_set l current_round_at (1 + highest_passable l rounds) (loose_head current_round_at (omega arith) (omega arith)))

-- the members of a mask in the timeouts or in the no-votes of round r
module _ (l : List ℕ) (r i m : ℕ) (low : 1 ≤ r) (high : r ≤ rounds) where
  -- the lists stay
  pub join_calm : i < kinds → Calm l (add_members l (masks_at r + i) m)
  unfolding add_members
  join_calm h = calm_mask l (masks_at r + i) _ (omega arith) (omega arith)

  -- the records stay
  pub join_alike : timeouts_kind ≤ i → i < kinds → Alike l (add_members l (masks_at r + i) m)
  unfolding add_members
  join_alike h k = alike_set l (masks_at r + i) _ (record { low = omega arith; off = λ a b. omega arith; apart = λ s j a b c e. omega arith })

-- and one member
module _ (l : List ℕ) (r i p : ℕ) (low : 1 ≤ r) (high : r ≤ rounds) where
  pub note_calm : i < kinds → Calm l (add_member l (masks_at r + i) p)
  unfolding add_member add_members
  note_calm = join_calm l r i (2 ^ p) low high

  pub note_alike : timeouts_kind ≤ i → i < kinds → Alike l (add_member l (masks_at r + i) p)
  unfolding add_member add_members
  note_alike = join_alike l r i (2 ^ p) low high

-- ---- a first message

module _ (l : List ℕ) (r p : ℕ) (body : List ℕ) (size : length l ≡ state_size) (low : 1 ≤ r) (high : r ≤ rounds) where
  -- the words after it: both masks of the round, and all others
  heard_word : (j : ℕ) → (j ≡ heard_at r → ⊥) → (j ≡ votes_at r → ⊥) → get_or (hear l r p body) j 0 ≡ get_or l j 0
  unfolding hear add_member
  heard_word j a b = go (which (votes (member_count l) (r - 1) 0 body))
    where
      go : (votes (member_count l) (r - 1) 0 body ≡ true) ⊎ (votes (member_count l) (r - 1) 0 body ≡ false) → get_or (hear l r p body) j 0 ≡ get_or l j 0
      go (inl e) = rw e (get_or-set_other (set l (heard_at r) (add (get_or l (heard_at r) 0) p)) (votes_at r) j _ 0 b ∙ get_or-set_other l (heard_at r) j _ 0 a)
      go (inr e) = rw e (get_or-set_other l (heard_at r) j _ 0 a)

  -- the head stays
  pub hear_head : (j : ℕ) → j < head_size → get_or (hear l r p body) j 0 ≡ get_or l j 0
  hear_head j a = heard_word j (λ e. omega arith) (λ e. omega arith)

  -- the heard mask
  heard_mask_lem : heard_mask (hear l r p body) r ≡ add (heard_mask l r) p
  unfolding hear add_member
  heard_mask_lem = go (which (votes (member_count l) (r - 1) 0 body))
    where
      here : get_or (set l (heard_at r) (add (get_or l (heard_at r) 0) p)) (heard_at r) 0 ≡ add (heard_mask l r) p
      here = get_or-set_same l (heard_at r) (add (get_or l (heard_at r) 0) p) 0 (omega arith)

      go : (votes (member_count l) (r - 1) 0 body ≡ true) ⊎ (votes (member_count l) (r - 1) 0 body ≡ false)
          → heard_mask (hear l r p body) r ≡ add (heard_mask l r) p
      go (inl e) = rw e (get_or-set_other (set l (heard_at r) (add (get_or l (heard_at r) 0) p)) (votes_at r) (heard_at r) _ 0 (λ d. omega arith) ∙ here)
      go (inr e) = rw e here

  -- the votes mask
  votes_mask_lem : votes_mask (hear l r p body) r ≡ cond (votes (member_count l) (r - 1) 0 body) (add (votes_mask l r) p) (votes_mask l r)
  unfolding hear add_member
  votes_mask_lem = go (which (votes (member_count l) (r - 1) 0 body))
    where
      before : get_or (set l (heard_at r) (add (get_or l (heard_at r) 0) p)) (votes_at r) 0 ≡ votes_mask l r
      before = get_or-set_other l (heard_at r) (votes_at r) _ 0 (λ d. omega arith)

      go : (votes (member_count l) (r - 1) 0 body ≡ true) ⊎ (votes (member_count l) (r - 1) 0 body ≡ false)
          → votes_mask (hear l r p body) r ≡ cond (votes (member_count l) (r - 1) 0 body) (add (votes_mask l r) p) (votes_mask l r)
      go (inl e) = rw e (get_or-set_same (set l (heard_at r) (add (get_or l (heard_at r) 0) p)) (votes_at r) _ 0
          (omega (arith, length-set l (heard_at r) (add (get_or l (heard_at r) 0) p)))
          ∙ ap (λ (m : ℕ). add m p) before)
      go (inr e) = rw e before

  -- the lists stay
  pub hear_calm : Calm l (hear l r p body)
  unfolding hear add_member
  hear_calm = go (which (votes (member_count l) (r - 1) 0 body))
    where
      first : Calm l (set l (heard_at r) (add (get_or l (heard_at r) 0) p))
      first = calm_mask l (heard_at r) _ (omega arith) (omega arith)

      go : (votes (member_count l) (r - 1) 0 body ≡ true) ⊎ (votes (member_count l) (r - 1) 0 body ≡ false) → Calm l (hear l r p body)
      go (inl e) = rw e (calm_then first (calm_mask (set l (heard_at r) (add (get_or l (heard_at r) 0) p)) (votes_at r) _ (omega arith) (omega arith)))
      go (inr e) = rw e first

  -- the vertices stay
  pub hear_vertices : vertices (hear l r p body) ≡ vertices l
  hear_vertices = vertices_by l (hear l r p body) hear_calm.size (λ s a b. heard_word (held_at s) (λ e. omega arith) (λ e. omega arith))
      (λ j a b. heard_word j (λ e. omega arith) (λ e. omega arith))

  -- any other first message stays
  pub hear_other : (s q : ℕ) → (eqb r s && eqb p q) ≡ false → firsts (hear l r p body) s q ≡ firsts l s q
  hear_other s q e = go (which (eqb r s))
    where
      members : member_count (hear l r p body) ≡ member_count l
      members = calm_members hear_calm

      go : (eqb r s ≡ true) ⊎ (eqb r s ≡ false) → firsts (hear l r p body) s q ≡ firsts l s q
      go (inl d) =
          let same : r ≡ s = eqb-true r s d in
          let k : eqb p q ≡ false = ⊎_elim (λ t. never (and_both d t) e) (λ t. t) (which (eqb p q)) in
          let plus : (m : ℕ) → has (add m p) q ≡ has m q = λ m. has_add m p q ∙ rw k (or-false (has m q)) in
          rw (← same) (firsts_by l (hear l r p body) members r q (λ a b. ap (λ (m : ℕ). has m q) heard_mask_lem ∙ plus (heard_mask l r))
          (λ a b. ap (λ (m : ℕ). has m q) votes_mask_lem ∙ chosen (votes (member_count l) (r - 1) 0 body) (plus (votes_mask l r))))
        where
          chosen : (b : Bool) → has (add (votes_mask l r) p) q ≡ has (votes_mask l r) q
              → has (cond b (add (votes_mask l r) p) (votes_mask l r)) q ≡ has (votes_mask l r) q
          chosen true h = h
          chosen false h = refl
      go (inr d) =
          let apart : r ≡ s → ⊥ = eqb-false r s d in
          firsts_by l (hear l r p body) members s q
          (λ a b. ap (λ (m : ℕ). has m q) (heard_word (heard_at s) (λ t. apart (omega arith)) (λ t. omega arith)))
          (λ a b. ap (λ (m : ℕ). has m q) (heard_word (votes_at s) (λ t. omega arith) (λ t. apart (omega arith))))

  -- its bit is set
  in_round : (is_round r && has (heard_mask (hear l r p body) r) p) ≡ true
  in_round = and_both (round_in r low high) (ap (λ (m : ℕ). has m p) heard_mask_lem ∙ has_add_same (heard_mask l r) p)

  -- what is kept of it
  first_word : firsts (hear l r p body) r p ≡ cond (has (votes_mask (hear l r p body) r) p) (2 ^ leader (member_count (hear l r p body)) (r - 1)) 0 ∷ []
  unfolding firsts
  first_word = cond_true _ _ in_round

  -- the one that was heard is there
  pub hear_here : present (firsts (hear l r p body) r p) ≡ true
  hear_here = ap present first_word

  -- and votes as its record does, if its vote was not there
  pub hear_vote : has (votes_mask l r) p ≡ false → (n : ℕ) → n ≡ member_count l → votes n (r - 1) 0 (firsts (hear l r p body) r p) ≡ votes n (r - 1) 0 body
  unfolding strong_of
  hear_vote h n e = ap (votes n (r - 1) 0) first_word ∙ go (which (votes n (r - 1) 0 body))
    where
      same : n ≡ member_count (hear l r p body)
      same = e ∙ sym (calm_members hear_calm)

      bit : has (votes_mask (hear l r p body) r) p ≡ has (cond (votes n (r - 1) 0 body) (add (votes_mask l r) p) (votes_mask l r)) p
      bit = ap (λ (x : ℕ). has x p) votes_mask_lem ∙ ap (λ (x : ℕ). has (cond (votes x (r - 1) 0 body) (add (votes_mask l r) p) (votes_mask l r)) p) (sym e)

      go : (votes n (r - 1) 0 body ≡ true) ⊎ (votes n (r - 1) 0 body ≡ false)
          → has (cond (has (votes_mask (hear l r p body) r) p) (2 ^ leader (member_count (hear l r p body)) (r - 1)) 0) (leader n (r - 1)) ≡ votes n
          (r - 1) 0 body
      go (inl d) =
          let b : has (votes_mask (hear l r p body) r) p ≡ true = bit ∙ rw d (has_add_same (votes_mask l r) p) in
          ap (λ (c : Bool). has (cond c (2 ^ leader (member_count (hear l r p body)) (r - 1)) 0) (leader n (r - 1))) b
          ∙ ap (λ (x : ℕ). has (2 ^ leader x (r - 1)) (leader n (r - 1))) (sym same)
          ∙ has_one (leader n (r - 1)) (leader n (r - 1)) ∙ eq-eqb (leader n (r - 1)) (leader n (r - 1)) refl ∙ sym d
      go (inr d) =
          let b : has (votes_mask (hear l r p body) r) p ≡ false = bit ∙ rw d h in
          ap (λ (c : Bool). has (cond c (2 ^ leader (member_count (hear l r p body)) (r - 1)) 0) (leader n (r - 1))) b ∙ has_zero (leader n (r - 1)) ∙ sym d

-- ---- a vertex

module _ (l : List ℕ) (r p : ℕ) (body : List ℕ) (size : length l ≡ state_size) (low : 1 ≤ r) (high : r ≤ rounds) (few : p < slots) (long : length body
    ≡ body_size) where
  -- the held mask is written first
  marked : List ℕ
  marked = add_member l (held_at r) p

  -- its size
  mark_size : length marked ≡ length l
  unfolding marked add_member
  mark_size = length-set l (held_at r) _

  -- any other word
  mark_other : (j : ℕ) → (j ≡ held_at r → ⊥) → get_or marked j 0 ≡ get_or l j 0
  unfolding marked add_member
  mark_other j h = get_or-set_other l (held_at r) j _ 0 h

  -- the mask
  mark_here : get_or marked (held_at r) 0 ≡ add (held_mask l r) p
  unfolding marked add_member
  mark_here = get_or-set_same l (held_at r) _ 0 (omega arith)

  -- the cell lies within the state
  fits : cell_at r p + body_size ≤ length marked
  fits = omega (arith, mark_size)

  -- then the cell
  put_is : put_vertex l r p body ≡ paste marked (cell_at r p) body body_size
  unfolding put_vertex marked
  put_is = refl

  -- a word before the cells
  put_before : (j : ℕ) → j < cells_at → get_or (put_vertex l r p body) j 0 ≡ get_or marked j 0
  put_before j h = ap (λ (x : List ℕ). get_or x j 0) put_is ∙ paste_before marked (cell_at r p) body body_size fits long j (omega arith)

  -- the size stays
  put_size : length (put_vertex l r p body) ≡ length l
  put_size = ap length put_is ∙ length-paste marked (cell_at r p) body body_size fits (omega arith) ∙ mark_size

  -- a word outside the cell
  put_outside : (j : ℕ) → (cell_at r p ≤ j → j < cell_at r p + body_size → ⊥) → get_or (put_vertex l r p body) j 0 ≡ get_or marked j 0
  put_outside j h = ap (λ (x : List ℕ). get_or x j 0) put_is ∙ go (which (ltb j (cell_at r p))) (which (ltb j (cell_at r p + body_size)))
    where
      go : (ltb j (cell_at r p) ≡ true) ⊎ (ltb j (cell_at r p) ≡ false) → (ltb j (cell_at r p + body_size) ≡ true) ⊎ (ltb j (cell_at r p + body_size) ≡ false)
          → get_or (paste marked (cell_at r p) body body_size) j 0 ≡ get_or marked j 0
      go (inl e) d = paste_before marked (cell_at r p) body body_size fits long j (ltb-true j (cell_at r p) e)
      go (inr e) (inl d) = absurd (h (ltb-false j (cell_at r p) e) (ltb-true j (cell_at r p + body_size) d))
      go (inr e) (inr d) = paste_after marked (cell_at r p) body body_size fits long j (ltb-false j (cell_at r p + body_size) d)

  -- a word of a cell but this one
  put_off : (j : ℕ) → cells_at ≤ j → (cell_at r p ≤ j → j < cell_at r p + body_size → ⊥) → get_or (put_vertex l r p body) j 0 ≡ get_or l j 0
  put_off j a h = put_outside j h ∙ mark_other j (λ e. omega arith)

  -- the head stays
  pub put_head : (j : ℕ) → j < head_size → get_or (put_vertex l r p body) j 0 ≡ get_or l j 0
  put_head j a = put_before j (omega arith) ∙ mark_other j (λ e. omega arith)

  -- the lists stay
  pub put_calm : Calm l (put_vertex l r p body)
  put_calm = record {
    size = put_size;
    head = λ j a b. put_head j (omega arith);
    lists = λ j a b. put_outside j (λ x y. omega arith) ∙ mark_other j (λ e. omega arith);
    entries = λ j a b. put_before j (omega arith) ∙ mark_other j (λ e. omega arith);
  }

  -- the first messages stay
  pub put_firsts : (s q : ℕ) → firsts (put_vertex l r p body) s q ≡ firsts l s q
  put_firsts s q = firsts_by l (put_vertex l r p body) (calm_members put_calm) s q
      (λ a b. ap (λ (m : ℕ). has m q) (put_before (heard_at s) (omega arith) ∙ mark_other (heard_at s) (λ e. omega arith)))
      (λ a b. ap (λ (m : ℕ). has m q) (put_before (votes_at s) (omega arith) ∙ mark_other (votes_at s) (λ e. omega arith)))

  -- the vertex is there
  pub put_here : vertices (put_vertex l r p body) r p ≡ body
  unfolding vertices
  put_here = cond_true _ _ (and_both (round_in r low high) (ap (λ (m : ℕ). has m p) (put_before (held_at r) (omega arith) ∙ mark_here)
      ∙ has_add_same (held_mask l r) p))
      ∙ cond_true _ _ (lt-ltb p slots few)
      ∙ ap (λ (x : List ℕ). take body_size (drop (cell_at r p) x)) put_is ∙ paste_part marked (cell_at r p) body body_size fits long

  -- any other stays, where no mask has a bit at 16 or above
  pub put_other : ((s : ℕ) → 1 ≤ s → s ≤ rounds → held_mask l s < 2 ^ slots) → (s q : ℕ) → (eqb r s && eqb p q) ≡ false
      → vertices (put_vertex l r p body) s q ≡ vertices l s q
  unfolding vertices
  put_other small s q e = cond_cong (and_cong {a = is_round s} refl (λ d. let w = round_range s d in bit w.0 w.1 (which (eqb r s))))
      (λ d. ap (λ (x : List ℕ). cond (ltb q slots) x []) (same d)) refl
    where
      bit : 1 ≤ s → s ≤ rounds → (eqb r s ≡ true) ⊎ (eqb r s ≡ false) → has (held_mask (put_vertex l r p body) s) q ≡ has (held_mask l s) q
      bit a b (inl d) =
          let k : eqb p q ≡ false = ⊎_elim (λ t. never (and_both d t) e) (λ t. t) (which (eqb p q)) in
          let h : r ≡ s = eqb-true r s d in
          rw (← h) (ap (λ (m : ℕ). has m q) (put_before (held_at r) (omega arith) ∙ mark_here) ∙ has_add (held_mask l r) p q
          ∙ rw k (or-false (has (held_mask l r) q)))
      bit a b (inr d) =
          let h : r ≡ s → ⊥ = eqb-false r s d in
          ap (λ (m : ℕ). has m q) (put_before (held_at s) (omega arith) ∙ mark_other (held_at s) (λ t. h (omega arith)))

      same : (is_round s && has (held_mask (put_vertex l r p body) s) q) ≡ true → cell (put_vertex l r p body) s q ≡ cell l s q
      same d =
          let w = round_range s (and_left (is_round s) _ d) in
          let k : q < slots = has_bound slots (held_mask l s) q (small s w.0 w.1) (sym (bit w.0 w.1 (which (eqb r s)))
          ∙ and_right (is_round s) _ d) in
          part_same l (put_vertex l r p body) (cell_at s q) body_size put_size (λ j a b. put_off j (omega arith) (λ x y. never (and_both
          (eq-eqb r s (omega arith)) (eq-eqb p q (omega arith))) e))
