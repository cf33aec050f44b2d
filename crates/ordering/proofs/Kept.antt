-- Commits keep a state formed, and so does every call. Assumes nothing.
use mathlib.Core.Path.{◌≡◌, refl, sym, ap, ◌∙◌}
use mathlib.Core.Bool.{Bool, true, false, ◌&&◌, ◌||◌}
use mathlib.Core.Logic.{◌⊎◌, inl, inr, ⊎_elim}
use mathlib.Core.List.{List, ◌∷◌}
use Prim.Native.Nat.{ℕ, zero, suc, ◌+◌, ◌≤◌, ◌<◌}
use native.Mathlib.Numerals.{add-one}
use native.Mathlib.Omega.{arith}
use lib.Dec.{eqb, leb, ltb}
use lib.ListN.{length}
use borrow.Author.Tests.{eq-eqb, leb-true, ltb-true}
use Rattle.record.specs.Members.{leader_at, leader, has, id_of, id_round, id_member, is_round, rounds, slots, voted_rounds}
use Rattle.record.specs.Refusals.{Verdict, number_of, first_no}
use Rattle.record.proofs.Booleans.{which, and_left, and_right, and_both, or_cases, or_left, or_right}
use Rattle.record.proofs.Masks.{leader_at_lt, has_bound}
use Rattle.record.proofs.Rounds.{round_in, id_round_lem, id_member_lem}
use Rattle.protocol.specs.Dag.{held, committed}
use Rattle.protocol.specs.Chain.{leader_id}
use Rattle.protocol.specs.Journal.{among}
use Rattle.protocol.proofs.Commit.{backed_held}
use Rattle.protocol.proofs.Lists.{among_append, once}
use Rattle.protocol.proofs.Laws.{Turns, stay, same, next, turns_chain}
use Rattle.protocol.proofs.Journal.{extend_once}
use Rattle.replica.specs.Layout.{state_size, masks_at, held_at, timeouts_kind, no_votes_kind, ordered_kind, member_count_at}
use Rattle.replica.specs.State.{member_count, committed_round, held_mask, ordered_mask, leader_list, journal_list, vertices, dag, add_member}
use Rattle.replica.specs.State.{held_id, ordered_id, width, leader_index, last_place}
use Rattle.replica.specs.WellFormed.{well_formed}
use Rattle.replica.specs.Outcome.{outcome}
use Rattle.replica.proofs.Formed.{WellFormed, Leaders, Journal, Led, led_append, led_more, formed, well_formed_lem}
use Rattle.replica.proofs.Dags.{held_id_lem, in_mask, dag_well_formed}
use Rattle.replica.proofs.Width.{width_some, width_same}
use Rattle.replica.proofs.Seats.{index_kept, index_leader}
use Rattle.replica.proofs.Keeping.{Keeps, front_kept, masks_kept, cells_kept, held_kept, held_id_kept}
use Rattle.commits.specs.Commit.{taken, commit, committable, is_ready, commit_once, commit_up_to, most_commits, commit_all, raise_round}
use Rattle.ordering.specs.Calls.{hear, take_body, take_first_body, take_timeout, take_no_vote, take_timeouts, vertex_questions}
use Rattle.ordering.specs.Calls.{first_questions, note_refusal}
use Rattle.ordering.specs.Kept.{LeavesWellFormed, KeepsWellFormed}
use Rattle.commits.proofs.Ground.{room_limit, ended, going}
use Rattle.commits.proofs.Frames.{OffLists, off_front, off_own, off_mask, off_cells}
use Rattle.commits.proofs.Growing.{Committed, grown, leaders_fit}
use Rattle.commits.proofs.Repeating.{commit_place, once as next-commit}
use Rattle.commits.proofs.Readying.{ready_before, taken_held}
use Rattle.commits.specs.Standing.{Ready}
use Rattle.ordering.proofs.Turns.{outcome_words, record_passed, note_passed}
use Rattle.ordering.proofs.Marks.{formed_raise, formed_hear, formed_note, formed_joined}
use Rattle.ordering.proofs.Bundled.{bundle_passed}
use Rattle.ordering.proofs.Carried.{written, vertex_written}

-- ---- the leaders taken

-- what a list names: its first, and what its rest does
among_first : (x : ℕ) (xs : List ℕ) → among (x ∷ xs) x ≡ true
unfolding among
among_first x xs = or_left _ (eq-eqb x x refl)

among_later : (x y : ℕ) (xs : List ℕ) → among xs y ≡ true → among (x ∷ xs) y ≡ true
unfolding among
among_later x y xs e = or_right (eqb x y) e

-- leaders in turn, that h has, are such a list
module _ (l : List ℕ) (h : ℕ → Bool) (low : 4 ≤ member_count l) (high : member_count l ≤ slots) where
  abbrev Fact : ℕ → Type 0
  Fact x = (h x ≡ true) × (1 ≤ id_round x) × (id_round x ≤ rounds)

  -- its round and its index
  known : (r i : ℕ) → i < width l → Fact (leader_id (member_count l) r i)
      → (id_round (leader_id (member_count l) r i) ≡ r) × (leader_index l (leader_id (member_count l) r i) ≡ i) × (1 ≤ r)
  known r i k w =
      let n = member_count l in
      let e : id_round (leader_id n r i) ≡ r = id_round_lem r (leader_at n r i) (omega (arith, leader_at_lt n r i (omega arith))) in
      let a : 1 ≤ r = omega (arith, w.1) in
      (e, (index_leader l r i a (omega (arith, w.2)) k low high).1, a)

  led_same : (c a q b : ℕ) (xs : List ℕ) → a < width l → (0 < c → 0 < a) → Fact (leader_id (member_count l) c a)
      → Led (width l) h (leader_index l) c (suc a) xs q b
      → Led (width l) h (leader_index l) c a (leader_id (member_count l) c a ∷ xs) q b
  led_same c a q b xs k z w t =
      let i = known c a k w in
      let t' : Led (width l) h (leader_index l) c (a + 1) xs q b = rw (add-one a) t in
      unfold Led in (w.0, rw i.1 k, rw (i.0, i.1) (inr (z i.2, refl, refl)), rw (i.0, i.1) t')

  led_next : (c a r q b : ℕ) (xs : List ℕ) → c < r → Fact (leader_id (member_count l) r 0) → Led (width l) h (leader_index l) r 1 xs q b
      → Led (width l) h (leader_index l) c a (leader_id (member_count l) r 0 ∷ xs) q b
  led_next c a r q b xs k w t =
      let i = known r 0 (width_some l) w in
      unfold Led in (w.0, rw i.1 (width_some l), rw (i.0, i.1) (inl (refl, k)), rw (i.0, i.1) t)

  led_turns : {c a q b : ℕ} {xs : List ℕ} → Turns (member_count l) (width l) c a xs q b → (0 < c → 0 < a) → ((x : ℕ) → among xs x ≡ true → Fact x)
      → Led (width l) h (leader_index l) c a xs q b
  led_turns stay z f = unfold Led in (refl, refl)
  led_turns (same k t) z f = led_same _ _ _ _ _ k z (f _ (among_first _ _)) (led_turns t (λ p. omega arith) (λ x m. f x (among_later _ x _ m)))
  led_turns (next r k t) z f = led_next _ _ r _ _ _ k (f _ (among_first _ _)) (led_turns t (λ p. omega arith) (λ x m. f x (among_later _ x _ m)))

-- ---- a commit

module _ (l : List ℕ) (S : WellFormed l) (q seat : ℕ) (ready : Ready l q seat) where
  C : Committed l q seat (commit l q seat)
  C = grown l S q seat ready

  F : Keeps OffLists l (commit l q seat)
  F = C.kept

  members : member_count (commit l q seat) ≡ member_count l
  members = F.same member_count_at (off_front member_count_at (omega arith))

  held_off : (r : ℕ) → 1 ≤ r → r ≤ rounds → OffLists (held_at r)
  held_off r a b = off_mask r 0 a b (omega arith)

  held_same : (y : ℕ) → held_id (commit l q seat) y ≡ held_id l y
  held_same = held_id_kept OffLists l (commit l q seat) F held_off

  -- the leaders taken continue the list
  taken_led : Led (width l) (held_id l) (leader_index l) (committed_round l) (last_place l) (taken l q seat) q (seat + 1)
  taken_led = led_turns l (held_id l) S.front.low S.front.high
      (turns_chain (member_count l) (width l) (vertices l) (width_some l) (committed_round l) (last_place l) q (seat + 1)
      (ready_before l S.front.members (dag_well_formed l S) q seat ready) (omega arith) (omega (arith, ready.index)))
      (ended l S).some
      (λ x e. let w = taken_held l S.front.members (dag_well_formed l S) q seat ready x e in (held_id_lem l S.size x ∙ w.0, w.1, omega (arith, w.2)))

  -- and come to the place of the leader that is committed
  place : last_place (commit l q seat) ≡ seat + 1
  place = commit_place l (going l S) q seat ready

  commit_leaders_formed : Leaders (commit l q seat)
  commit_leaders_formed = record {
    committed_high = rw C.committed ready.high;
    few = rw C.leaders_counted (omega (arith, leaders_fit l S q seat ready));
    led = rw (width_same l (commit l q seat), place, C.committed, C.leaders)
        (led_more (width l) (held_id l) (held_id (commit l q seat)) (leader_index l) (leader_index (commit l q seat)) 0 0 q (seat + 1) _
        (λ y e. held_same y ∙ e) (index_kept l (commit l q seat) members)
        (led_append (width l) (held_id l) (leader_index l) 0 0 (committed_round l) (last_place l) q (seat + 1) (leader_list l) (taken l q seat)
        S.leaders.led taken_led));
    rest = λ i a b. C.leader_rest i a b ∙ S.leaders.rest i (omega (arith, C.leaders_counted)) b;
  }

  commit_journal_formed : Journal (commit l q seat)
  commit_journal_formed = record {
    ordered_low = λ r a b. rw members (C.ordered_low r a b);
    ordered_held = now_held;
    few = omega (arith, C.room, room_limit (commit l q seat));
    alone = ap once C.extends ∙ extend_once (member_count l) (vertices l) (journal_list l) (taken l q seat) S.journal.alone;
    names = λ y. ap (λ (j : List ℕ). among j y) C.journal ∙ among_append (journal_list l) C.ids y
        ∙ ap (λ (b : Bool). b || among C.ids y) (S.journal.names y)
        ∙ sym (C.ordered y);
    rest = λ i a b. C.journal_rest i a b ∙ S.journal.rest i (omega (arith, C.journal_counted)) b;
  }
    where
      now_held : (r p : ℕ) → 1 ≤ r → r ≤ rounds → has (ordered_mask (commit l q seat) r) p ≡ true → has (held_mask (commit l q seat) r) p ≡ true
      now_held r p a b e =
          let k : p < slots = omega (arith, has_bound (member_count l) (ordered_mask (commit l q seat) r) p (C.ordered_low r a b) e, S.front.high) in
          held_kept OffLists l (commit l q seat) F held_off r p a b ∙ was k
        where
          was : p < slots → has (held_mask l r) p ≡ true
          was k =
              let t : ordered_id (commit l q seat) (id_of r p) ≡ true = rw (id_round_lem r p k, id_member_lem r p k) (and_both (round_in r a b) e) in
              ⊎_elim
              (λ d. S.journal.ordered_held r p a b (rw (id_round_lem r p k, id_member_lem r p k) at
              (and_right (is_round (id_round (id_of r p))) (has (ordered_mask l (id_round (id_of r p))) (id_member (id_of r p))) d)))
              (λ d. rw (id_round_lem r p k, id_member_lem r p k) at
              (in_mask l S.size (id_round (id_of r p)) (id_member (id_of r p)) (C.named (id_of r p) d).there).2)
              (or_cases (ordered_id l (id_of r p)) (among C.ids (id_of r p)) (sym (C.ordered (id_of r p)) ∙ t))

  -- A commit of a round whose leader's vertex is held keeps the state formed.
  pub formed_commit : WellFormed (commit l q seat)
  formed_commit = record {
    size = F.size ∙ S.size;
    front = front_kept OffLists l (commit l q seat) F off_front off_own S.front;
    masks = masks_kept OffLists l (commit l q seat) F (off_front member_count_at (omega arith)) off_mask S.masks;
    cells = cells_kept OffLists l (commit l q seat) F held_off off_cells (off_front member_count_at (omega arith)) S.cells;
    leaders = commit_leaders_formed;
    journal = commit_journal_formed;
  }

-- ---- all commits

-- what a committable round is
pub committable_round : (l : List ℕ) (q : ℕ) → committable l q ≡ true
    → (committed_round l < q) × (q ≤ voted_rounds) × (committed (member_count l) (dag l) q ≡ true) × (held (vertices l) q (leader (member_count l) q) ≡ true)
unfolding committable
committable_round l q e =
    let t : (leb q voted_rounds && committed (member_count l) (dag l) q) ≡ true = and_right (ltb (committed_round l) q) _ e in
    let c : committed (member_count l) (dag l) q ≡ true = and_right (leb q voted_rounds) _ t in
    (ltb-true _ _ (and_left _ _ e), leb-true _ _ (and_left _ _ t), c, backed_held (member_count l) (dag l) q 0 c)

-- The next commit keeps the state formed, and so do all that follow.
pub formed_once : (l : List ℕ) (S : WellFormed l) (e : is_ready l ≡ true) → WellFormed (commit_once l)
formed_once l S e = let w = next-commit l S.leaders.committed_high e in rw w.is (formed_commit l S w.round w.seat w.ready)

pub formed_commits : (k : ℕ) (l : List ℕ) → WellFormed l → WellFormed (commit_up_to l k)
unfolding commit_up_to
formed_commits zero l S = S
formed_commits (suc k) l S = go (which (is_ready l)) (formed_commits k (commit_once l))
  where
    go : (is_ready l ≡ true) ⊎ (is_ready l ≡ false) → (WellFormed (commit_once l) → WellFormed (commit_up_to (commit_once l) k))
        → WellFormed (commit_up_to l (suc k))
    go (inl e) ih = rw e (ih (formed_once l S e))
    go (inr e) ih = rw e S

-- ---- the calls

-- a call whose words would be formed where it is admitted
pub leaves : (why : Verdict) (l after : List ℕ) → WellFormed l → (number_of why ≡ 0 → WellFormed after) → LeavesWellFormed (outcome why l after)
leaves why l after S f = outcome_words (λ k. (length k ≡ state_size) × (well_formed k ≡ true)) why l after (good l S) (λ e. good after (f e))
  where
    good : (k : List ℕ) → WellFormed k → (length k ≡ state_size) × (well_formed k ≡ true)
    good k S = (S.size, well_formed_lem k S)

module _ (l : List ℕ) (S : WellFormed l) where
  -- after an admitted vertex
  pub formed_vertex : (r p : ℕ) (body : List ℕ) → number_of (first_no (vertex_questions l r p body)) ≡ 0
      → WellFormed (commit_all (raise_round (written l r p body)))
  formed_vertex r p body e = formed_commits most_commits _ (formed_raise _ (vertex_written l r p body e).formed)

  -- after an admitted first message
  pub formed_first : (r p : ℕ) (body : List ℕ) → number_of (first_no (first_questions l r p body)) ≡ 0 → WellFormed (commit_all (hear l r p body))
  formed_first r p body e = formed_commits most_commits (hear l r p body) (formed_hear l S r p body (record_passed l r p body _ e).1)

  -- after an admitted timeout or no-vote, whose masks are the round's 3 and 4
  pub formed_noted : (r p i : ℕ) → timeouts_kind ≤ i → i < ordered_kind → number_of (note_refusal l r p i) ≡ 0 → WellFormed (add_member l (masks_at r + i) p)
  formed_noted r p i from to e = let w = note_passed l r p _ e in formed_note l S r p w.1 w.2 w.3 i (omega arith) to (λ d. omega arith)

-- Every call keeps a well-formed state well formed.
pub keeps : KeepsWellFormed
unfolding take_body take_first_body take_timeout take_no_vote take_timeouts
keeps l size e =
    let S = formed l size e in (
      λ r p body. leaves _ l _ S (formed_vertex l S r p body),
      λ r p body. leaves _ l _ S (formed_first l S r p body),
      λ r p. leaves _ l _ S (λ d. formed_raise _ (formed_noted l S r p timeouts_kind (omega arith) (omega arith) d)),
      λ r p. leaves _ l _ S (formed_noted l S r p no_votes_kind (omega arith) (omega arith)),
      λ r mask. leaves _ l _ S (λ d. let w = bundle_passed l r mask d in formed_raise _ (formed_joined l S r mask w.low w.high w.small)),
    )
