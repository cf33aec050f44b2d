-- What an admitted vertex writes ahead of the round rule: its cell, its bit, and the timeout mask that it carries. Assumes nothing.
use mathlib.Core.Path.{◌≡◌, refl, sym, ap, ◌∙◌}
use mathlib.Core.Bool.{true, false}
use mathlib.Core.Logic.{◌⊎◌, inl, inr}
use mathlib.Core.List.{List}
use Prim.Native.Nat.{ℕ, ◌+◌, ◌-◌, ◌^◌, ◌≤◌, ◌<◌}
use native.Mathlib.Omega.{arith}
use lib.Dec.{ltb}
use borrow.Author.Tests.{ltb-true, lt-ltb, le-ltb}
use Rattle.record.specs.Members.{has, rounds, slots}
use Rattle.record.specs.Refusals.{number_of, first_no}
use Rattle.record.specs.Layout.{timeouts_of}
use Rattle.record.specs.Admitted.{Admitted}
use Rattle.record.proofs.Booleans.{which, or_right}
use Rattle.record.proofs.Masks.{has_or}
use Rattle.replica.specs.Layout.{masks_at, timeouts_at, held_kind, timeouts_kind}
use Rattle.replica.specs.State.{member_count, held_mask, timeouts_mask, add_members}
use Rattle.replica.specs.Parents.{parents_held}
use Rattle.replica.proofs.Formed.{WellFormed}
use Rattle.commits.specs.Commit.{raise_round}
use Rattle.commits.proofs.Frame.{Alike, alike_self}
use Rattle.ordering.specs.Calls.{place_questions, vertex_questions, put_vertex, carry_timeouts}
use Rattle.ordering.proofs.Marks.{formed_put, put_more, join_here, formed_joined}
use Rattle.ordering.proofs.Writing.{Calm, calm_self, calm_then, calm_members, join_calm, join_alike, put_calm}
use Rattle.ordering.proofs.Turns.{record_passed, parents_passed}

-- ---- the timeout mask: one word is written, or none

module _ (l : List ℕ) (r m : ℕ) where
  -- what holds of the words as they were, and of those with the mask in the round before, holds of those that are left
  pub carry_as : (P : List ℕ → Type 0) → P l → (1 < r → P (add_members l (timeouts_at (r - 1)) m)) → P (carry_timeouts l r m)
  unfolding carry_timeouts
  carry_as P same more = go (which (ltb 1 r))
    where
      go : (ltb 1 r ≡ true) ⊎ (ltb 1 r ≡ false) → P (carry_timeouts l r m)
      go (inl e) = rw e (more (ltb-true 1 r e))
      go (inr e) = rw e same

  -- round 1 writes nothing, and a later one the timeouts of the round before
  pub carried_none : r < 2 → l ≡ carry_timeouts l r m
  unfolding carry_timeouts
  carried_none h = rw (le-ltb 1 r (omega arith))

  pub carried_before : 2 ≤ r → (at : ℕ) → at ≡ masks_at (r - 1) → (o : List ℕ) → o ≡ add_members l (at + timeouts_kind) m → o ≡ carry_timeouts l r m
  unfolding carry_timeouts
  carried_before h at a o e = e ∙ rw (a, lt-ltb 1 r (omega arith))

  -- and then the round rule
  pub carried_raised : (c : List ℕ) → c ≡ carry_timeouts l r m → (o : List ℕ) → o ≡ raise_round c → o ≡ raise_round (carry_timeouts l r m)
  carried_raised c e o d = d ∙ ap raise_round e

  module _ (high : r ≤ rounds) where
    -- the lists stay
    pub carry_calm : Calm l (carry_timeouts l r m)
    carry_calm = carry_as (Calm l) (calm_self l) (λ h. join_calm l (r - 1) timeouts_kind m (omega arith) (omega arith) (omega arith))

    -- the member count, as the code has it
    pub carried_members : (n : ℕ) → n ≡ member_count l → (o : List ℕ) → o ≡ carry_timeouts l r m → n ≡ member_count o
    carried_members n e o d = e ∙ sym (calm_members carry_calm) ∙ ap member_count (sym d)

    -- the records stay
    pub carry_alike : Alike l (carry_timeouts l r m)
    carry_alike = carry_as (Alike l) (alike_self l)
        (λ h. join_alike l (r - 1) timeouts_kind m (omega arith) (omega arith) (omega arith) (omega arith))

    -- the held masks stay
    pub carry_held : (s : ℕ) → 1 ≤ s → s ≤ rounds → held_mask (carry_timeouts l r m) s ≡ held_mask l s
    carry_held s a b = carry_alike.masks s held_kind a b (omega arith)

    -- the mask's members are in the timeouts of the round before
    pub carry_in : WellFormed l → 2 ≤ r → (q : ℕ) → has m q ≡ true → has (timeouts_mask (carry_timeouts l r m) (r - 1)) q ≡ true
    carry_in S h q e =
        let same = carried_before h (masks_at (r - 1)) refl (add_members l (timeouts_at (r - 1)) m) refl in
        ap (λ (o : List ℕ). has (timeouts_mask o (r - 1)) q) (sym same)
        ∙ ap (λ (x : ℕ). has x q) (join_here l (timeouts_at (r - 1)) m (omega (arith, S.size)))
        ∙ has_or (timeouts_mask l (r - 1)) m q ∙ or_right (has (timeouts_mask l (r - 1)) q) e

    -- the state stays formed
    pub formed_carried : WellFormed l → m < 2 ^ member_count l → WellFormed (carry_timeouts l r m)
    formed_carried S small = carry_as WellFormed S (λ h. formed_joined l S (r - 1) m (omega arith) (omega arith) small)

-- ---- the whole

-- the words that an admitted vertex leaves ahead of the round rule
abbrev pub written : List ℕ → ℕ → ℕ → List ℕ → List ℕ
written l r p body = carry_timeouts (put_vertex l r p body) r (timeouts_of body)

-- what is known of them
pub record VertexWritten (l : List ℕ) (r p : ℕ) (body : List ℕ) : Type 0 where
  pub first : WellFormed l
  pub admit : Admitted (member_count l) r p body
  pub few : p < slots
  pub parents : parents_held l r body ≡ true
  pub put : WellFormed (put_vertex l r p body)
  pub put_calm : Calm l (put_vertex l r p body)
  pub formed : WellFormed (written l r p body)
  pub calm : Calm l (written l r p body)
  pub held : (s q : ℕ) → 1 ≤ s → s ≤ rounds → has (held_mask l s) q ≡ true → has (held_mask (written l r p body) s) q ≡ true
  pub carried : 2 ≤ r → (q : ℕ) → has (timeouts_of body) q ≡ true → has (timeouts_mask (written l r p body) (r - 1)) q ≡ true

pub vertex_written : (l : List ℕ) (r p : ℕ) (body : List ℕ) → number_of (first_no (vertex_questions l r p body)) ≡ 0 → VertexWritten l r p body
vertex_written l r p body e =
    let w = record_passed l r p body (place_questions l r p body) e in
    let S = w.0 in
    let A = w.1 in
    let few : p < slots = omega (arith, A.source_low, S.front.high) in
    let held = parents_passed l r p body w.3 in
    let put = formed_put l S r p body w.2 held in
    let C : Calm l (put_vertex l r p body) = put_calm l r p body S.size A.round_low A.round_high few A.size in
    let small : timeouts_of body < 2 ^ member_count (put_vertex l r p body) = rw (calm_members C) A.timeouts_low in
    record {
      first = S;
      admit = A;
      few = few;
      parents = held;
      put = put;
      put_calm = C;
      formed = formed_carried _ r (timeouts_of body) A.round_high put small;
      calm = calm_then C (carry_calm _ r (timeouts_of body) A.round_high);
      held = λ s q a b h. ap (λ (x : ℕ). has x q) (carry_held _ r (timeouts_of body) A.round_high s a b)
          ∙ put_more l S r p body w.2 held s q a b h;
      carried = carry_in _ r (timeouts_of body) A.round_high put;
    }
