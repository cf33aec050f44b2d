-- No call changes the member count or an own word: words 0 and 5 to 7. Assumes nothing.
use mathlib.Core.Path.{◌≡◌}
use mathlib.Core.Bool.{true, false}
use mathlib.Core.Logic.{◌⊎◌, inl, inr}
use mathlib.Core.List.{List}
use Prim.Native.Nat.{ℕ, zero, suc, ◌+◌, ◌-◌, ◌^◌, ◌≤◌, ◌<◌}
use native.Mathlib.Omega.{arith}
use Rattle.record.specs.Members.{rounds}
use Rattle.record.specs.Refusals.{number_of, first_no}
use Rattle.record.specs.Layout.{timeouts_of}
use Rattle.record.proofs.Booleans.{which}
use Rattle.replica.specs.Layout.{masks_at, head_size, member_count_at, current_round_at, own_at, timeouts_kind, no_votes_kind}
use Rattle.replica.specs.State.{add_member, add_members}
use Rattle.replica.proofs.Formed.{WellFormed}
use Rattle.replica.proofs.Keeping.{Keeps, keeps_refl, keeps_trans, keeps_less, keeps_set}
use Rattle.commits.specs.Commit.{highest_passable, raise_round, is_ready, commit_once, commit_up_to, most_commits, commit_all}
use Rattle.commits.proofs.Frames.{OffLists, off_front, off_own}
use Rattle.commits.proofs.Repeating.{once}
use Rattle.commits.proofs.Growing.{grown}
use Rattle.ordering.specs.Calls.{put_vertex, carry_timeouts, hear, vertex_questions, first_questions, take_body, take_first_body, take_timeout, take_no_vote}
use Rattle.ordering.specs.Calls.{take_timeouts}
use Rattle.ordering.proofs.Turns.{outcome_words, record_passed}
use Rattle.ordering.proofs.Rule.{raise_as}
use Rattle.ordering.proofs.Writing.{put_head, hear_head, hear_calm}
use Rattle.ordering.proofs.Marks.{formed_raise, formed_hear}
use Rattle.ordering.proofs.Carried.{carry_as, written, vertex_written}
use Rattle.ordering.proofs.Kept.{formed_once}

-- word j of the head is neither the current round nor one that commits write
pub record Fixed (j : ℕ) : Type 0 where
  pub head : j < head_size
  pub not_round : j ≡ current_round_at → ⊥
  pub off_lists : OffLists j

-- the member count
pub fixed_members : Fixed member_count_at
fixed_members = record { head = omega arith; not_round = λ e. omega arith; off_lists = off_front member_count_at (omega arith) }

-- the own words
pub fixed_own : (j : ℕ) → own_at ≤ j → j < head_size → Fixed j
fixed_own j a b = record { head = b; not_round = λ e. omega arith; off_lists = off_own j a b }

-- ---- what the calls write

-- the round rule
fixed_raise : (l : List ℕ) → Keeps Fixed l (raise_round l)
fixed_raise l = raise_as l (Keeps Fixed l) (λ e. keeps_refl Fixed l)
    (λ e. keeps_set Fixed l current_round_at (1 + highest_passable l rounds) (λ j k. k.not_round))

-- the members of a mask in a mask
fixed_joined : (l : List ℕ) (r i m : ℕ) → Keeps Fixed l (add_members l (masks_at r + i) m)
unfolding add_members
fixed_joined l r i m = keeps_set Fixed l (masks_at r + i) _ (λ j k e. omega (arith, k.head))

-- one member
pub fixed_note : (l : List ℕ) (r i p : ℕ) → Keeps Fixed l (add_member l (masks_at r + i) p)
unfolding add_member add_members
fixed_note l r i p = fixed_joined l r i (2 ^ p)

-- the timeout mask of a vertex
fixed_carried : (l : List ℕ) (r m : ℕ) → Keeps Fixed l (carry_timeouts l r m)
fixed_carried l r m = carry_as l r m (Keeps Fixed l) (keeps_refl Fixed l) (λ h. fixed_joined l (r - 1) timeouts_kind m)

-- the next commit
once_kept : (l : List ℕ) → WellFormed l → is_ready l ≡ true → Keeps OffLists l (commit_once l)
once_kept l S e = let w = once l S.leaders.committed_high e in rw w.is (grown l S w.round w.seat w.ready).kept

-- all commits: the lists, their counts, the committed round and the ordered masks
pub commits_keep : (k : ℕ) (l : List ℕ) → WellFormed l → Keeps OffLists l (commit_up_to l k)
unfolding commit_up_to
commits_keep zero l S = keeps_refl OffLists l
commits_keep (suc k) l S = go (which (is_ready l)) (commits_keep k (commit_once l))
  where
    go : (is_ready l ≡ true) ⊎ (is_ready l ≡ false) → (WellFormed (commit_once l) → Keeps OffLists (commit_once l) (commit_up_to (commit_once l) k))
        → Keeps OffLists l (commit_up_to l (suc k))
    go (inl e) ih = rw e (keeps_trans OffLists l (commit_once l) (commit_up_to (commit_once l) k) (once_kept l S e) (ih (formed_once l S e)))
    go (inr e) ih = rw e (keeps_refl OffLists l)

fixed_commits : (k : ℕ) (l : List ℕ) → WellFormed l → Keeps Fixed l (commit_up_to l k)
fixed_commits k l S = keeps_less OffLists Fixed l (commit_up_to l k) (λ j h. h.off_lists) (commits_keep k l S)

-- ---- the calls

module _ (l : List ℕ) (S : WellFormed l) where
  -- an admitted vertex
  fixed_vertex : (r p : ℕ) (body : List ℕ) → number_of (first_no (vertex_questions l r p body)) ≡ 0
      → Keeps Fixed l (commit_all (raise_round (written l r p body)))
  fixed_vertex r p body e =
      let w = vertex_written l r p body e in
      let A = w.admit in
      let after = written l r p body in
      keeps_trans Fixed l (put_vertex l r p body) (commit_all (raise_round after))
      (record { size = w.put_calm.size; same = λ j k. put_head l r p body S.size A.round_low A.round_high w.few A.size j k.head })
      (keeps_trans Fixed (put_vertex l r p body) after (commit_all (raise_round after)) (fixed_carried (put_vertex l r p body) r (timeouts_of body))
      (keeps_trans Fixed after (raise_round after) (commit_all (raise_round after)) (fixed_raise after)
      (fixed_commits most_commits (raise_round after) (formed_raise after w.formed))))

  -- an admitted first message
  fixed_first : (r p : ℕ) (body : List ℕ) → number_of (first_no (first_questions l r p body)) ≡ 0 → Keeps Fixed l (commit_all (hear l r p body))
  fixed_first r p body e =
      let A = (record_passed l r p body _ e).1 in
      keeps_trans Fixed l (hear l r p body) (commit_all (hear l r p body))
      (record {
        size = (hear_calm l r p body S.size A.round_low A.round_high).size;
        same = λ j k. hear_head l r p body S.size A.round_low A.round_high j k.head;
      })
      (fixed_commits most_commits (hear l r p body) (formed_hear l S r p body A))

  -- Each call, admitted or refused.
  pub vertex_fixed : (r p : ℕ) (body : List ℕ) → Keeps Fixed l (take_body l r p body).words
  unfolding take_body
  vertex_fixed r p body = outcome_words (Keeps Fixed l) _ l _ (keeps_refl Fixed l) (fixed_vertex r p body)

  pub first_fixed : (r p : ℕ) (body : List ℕ) → Keeps Fixed l (take_first_body l r p body).words
  unfolding take_first_body
  first_fixed r p body = outcome_words (Keeps Fixed l) _ l _ (keeps_refl Fixed l) (fixed_first r p body)

-- a timeout
pub timeout_fixed : (l : List ℕ) (r p : ℕ) → Keeps Fixed l (take_timeout l r p).words
unfolding take_timeout
timeout_fixed l r p = outcome_words (Keeps Fixed l) _ l _ (keeps_refl Fixed l)
    (λ e. keeps_trans Fixed l _ _ (fixed_note l r timeouts_kind p) (fixed_raise _))

-- a bundle of timeouts
pub bundle_fixed : (l : List ℕ) (r mask : ℕ) → Keeps Fixed l (take_timeouts l r mask).words
unfolding take_timeouts
bundle_fixed l r mask = outcome_words (Keeps Fixed l) _ l _ (keeps_refl Fixed l)
    (λ e. keeps_trans Fixed l _ _ (fixed_joined l r timeouts_kind mask) (fixed_raise _))

-- a no-vote
pub no_vote_fixed : (l : List ℕ) (r p : ℕ) → Keeps Fixed l (take_no_vote l r p).words
unfolding take_no_vote
no_vote_fixed l r p = outcome_words (Keeps Fixed l) _ l _ (keeps_refl Fixed l) (λ e. fixed_note l r no_votes_kind p)
