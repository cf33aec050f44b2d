-- An admitted vertex leaves the current round at its own or above: the round before is passable then. Assumes nothing.
use mathlib.Core.Path.{◌≡◌, refl, sym, ap, ◌∙◌}
use mathlib.Core.Bool.{true, false, ◌||◌}
use mathlib.Core.Logic.{◌⊎◌, inl, inr}
use mathlib.Core.List.{List}
use Prim.Native.Nat.{ℕ, ◌-◌, ◌≤◌}
use native.Mathlib.Omega.{arith}
use lib.Dec.{ltb}
use borrow.Author.Tests.{ltb-true, ltb-false}
use Rattle.record.specs.Members.{leader, has, meets, rounds}
use Rattle.record.specs.Refusals.{first_no}
use Rattle.record.specs.Layout.{round_of, source_of, body_of, strong_of, timeouts_of}
use Rattle.record.proofs.Booleans.{which, and_left, and_both, or_left, or_right}
use Rattle.record.proofs.Below.{count_mono}
use Rattle.replica.specs.Layout.{current_round_at}
use Rattle.replica.specs.State.{member_count, current_round, held_mask, timeouts_mask}
use Rattle.replica.specs.Outcome.{Outcome}
use Rattle.replica.proofs.Laws.{subset_has}
use Rattle.replica.proofs.ParentLaws.{later_held}
use Rattle.commits.specs.Commit.{passable, raise_round, most_commits, commit_all}
use Rattle.commits.proofs.Frames.{off_front}
use Rattle.ordering.specs.Calls.{vertex_questions, take_body}
use Rattle.ordering.specs.Reached.{ReachesItsRound}
use Rattle.ordering.proofs.Turns.{outcome_zero, outcome_admitted}
use Rattle.ordering.proofs.Writing.{calm_members}
use Rattle.ordering.proofs.Carried.{written, VertexWritten, vertex_written}
use Rattle.ordering.proofs.Rule.{quorum_meets, highest_least, raise_reaches}
use Rattle.ordering.proofs.Marks.{formed_raise}
use Rattle.ordering.proofs.Own.{commits_keep}

-- ---- an admitted vertex

-- the round before is passable: its strong parents are held, and its leader is one of them or the timeout mask is a quorum
module _ (l : List ℕ) (r p : ℕ) (body : List ℕ) (w : VertexWritten l r p body) (later : 2 ≤ r) where
  abbrev after : List ℕ
  after = written l r p body

  n : member_count after ≡ member_count l
  n = calm_members w.calm

  strong_held : (q : ℕ) → has (strong_of body) q ≡ true → has (held_mask after (r - 1)) q ≡ true
  strong_held q h = w.held (r - 1) q (omega arith) (omega (arith, w.admit.round_high)) (subset_has (strong_of body) (held_mask l (r - 1)) q
      (and_left _ _ (sym (later_held (member_count l) r p l body w.first.front.members w.admit later) ∙ w.parents)) h)

  held_enough : meets (member_count after) (held_mask after (r - 1)) ≡ true
  held_enough = quorum_meets (member_count after) (held_mask after (r - 1))
      (w.formed.masks.held_low (r - 1) (omega arith) (omega (arith, w.admit.round_high)))
      (rw n (omega (
        arith,
        w.admit.strong_later later,
        count_mono (member_count l) (has (strong_of body)) (has (held_mask after (r - 1))) strong_held,
      )))

  timeouts_enough : has (strong_of body) (leader (member_count l) (r - 1)) ≡ false → meets (member_count after) (timeouts_mask after (r - 1)) ≡ true
  timeouts_enough h = quorum_meets (member_count after) (timeouts_mask after (r - 1))
      (w.formed.masks.timeouts_low (r - 1) (omega arith) (omega (arith, w.admit.round_high)))
      (rw n (omega (
        arith,
        w.admit.timeout_quorum later h,
        count_mono (member_count l) (has (timeouts_of body)) (has (timeouts_mask after (r - 1))) (w.carried later),
      )))

  pub passable_before : passable after (r - 1) ≡ true
  unfolding passable
  passable_before = and_both held_enough (go (which (has (strong_of body) (leader (member_count l) (r - 1)))))
    where
      go : (has (strong_of body) (leader (member_count l) (r - 1)) ≡ true) ⊎ (has (strong_of body) (leader (member_count l) (r - 1)) ≡ false)
          → (has (held_mask after (r - 1)) (leader (member_count after) (r - 1)) || meets (member_count after) (timeouts_mask after (r - 1))) ≡ true
      go (inl h) = or_left {a = has (held_mask after (r - 1)) (leader (member_count after) (r - 1))} _ (rw n (strong_held (leader (member_count l) (r - 1)) h))
      go (inr h) = or_right (has (held_mask after (r - 1)) (leader (member_count after) (r - 1))) (timeouts_enough h)

-- the current round is its round or a later one, before the commits and after them
written_reaches : (l : List ℕ) (r p : ℕ) (body : List ℕ) → VertexWritten l r p body → r ≤ current_round (raise_round (written l r p body))
written_reaches l r p body w = go (which (ltb r 2))
  where
    go : (ltb r 2 ≡ true) ⊎ (ltb r 2 ≡ false) → r ≤ current_round (raise_round (written l r p body))
    go (inl e) = omega (arith, ltb-true r 2 e, (formed_raise _ w.formed).front.round_low)
    go (inr e) =
        let later : 2 ≤ r = ltb-false r 2 e in
        omega (
          arith,
          raise_reaches _ w.formed,
          highest_least (written l r p body) rounds (r - 1) (omega arith) (omega (arith, w.admit.round_high))
              (passable_before l r p body w later),
        )

-- After an admitted vertex of round r the current round is at least r.
pub reaches_its_round : ReachesItsRound
unfolding take_body
reaches_its_round l rec e =
    let why = first_no (vertex_questions l (round_of rec) (source_of rec) (body_of rec)) in
    let z = outcome_zero why l _ e in
    let w = vertex_written l (round_of rec) (source_of rec) (body_of rec) z in
    let after = raise_round (written l (round_of rec) (source_of rec) (body_of rec)) in
    let kept = (commits_keep most_commits after (formed_raise _ w.formed)).same current_round_at (off_front current_round_at (omega arith)) in
    let words = ap (λ (o : Outcome). o.words) (sym (outcome_admitted why why l (commit_all after) refl z)) in
    rw words (omega (arith, kept, written_reaches l (round_of rec) (source_of rec) (body_of rec) w))
