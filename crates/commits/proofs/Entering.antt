-- The journal's growth by one leader's history, an id at a time. Assumes nothing.
use mathlib.Core.Path.{◌≡◌, refl, sym, ap, ◌∙◌, subst}
use mathlib.Core.Bool.{Bool, true, false, not, ◌&&◌, or-false}
use mathlib.Core.Logic.{◌⊎◌, inl, inr, ⊎_elim}
use mathlib.Core.List.{List}
use Prim.Native.Nat.{ℕ, zero, suc, ◌+◌, ◌-◌, ◌*◌, ◌≤◌, ◌<◌}
use native.Mathlib.Numerals.{add-one}
use native.Mathlib.Omega.{arith}
use lib.ListN.{length, get_or}
use borrow.Author.Tests.{not-true, ne_eqb}
use Rattle.record.specs.Below.{select}
use Rattle.record.specs.Members.{has, id_of, id_round, id_member, rounds, slots, voted_rounds, id_limit}
use Rattle.record.proofs.Booleans.{which, and_both, and_left, and_right, and_fails_left, and_fails_right}
use Rattle.protocol.specs.Dag.{held}
use Rattle.protocol.specs.Paths.{history}
use Rattle.protocol.specs.Masks.{history_masks}
use Rattle.protocol.proofs.History.{history_held}
use Rattle.protocol.proofs.Masks.{history_claim}
use Rattle.replica.specs.Layout.{state_size}
use Rattle.replica.specs.State.{member_count, vertices, ordered_id}
use Rattle.commits.specs.Commit.{enter, enter_all, order_leader}
use Rattle.commits.specs.Standing.{Standing, Room, order_id, order_round}
use Rattle.commits.proofs.Steps.{select_none, select_zero, select_in, select_out, enter_none, enter_more, order_out, order_old, order_new}
use Rattle.commits.proofs.Frame.{Alike, alike_self, alike_then, alike_enter}
use Rattle.commits.proofs.Growing.{enter_ordered, enter_fits, enter_room}
use Rattle.record.proofs.Rounds.{id_same, id_member_lem}

-- a state of the right length, with room
abbrev pub Roomy : List ℕ → Type 0
Roomy l = (length l ≡ state_size) × Room l

-- ordering an id leaves such a state so
order_keeps : (l : List ℕ) (mask y : ℕ) → slots ≤ y → y < id_limit → Roomy l → Roomy (order_id l mask y)
order_keeps l mask y low high h = go (which (has mask (id_member y))) (which (ordered_id l y))
  where
    go : (has mask (id_member y) ≡ true) ⊎ (has mask (id_member y) ≡ false) → (ordered_id l y ≡ true) ⊎ (ordered_id l y ≡ false) → Roomy (order_id l mask y)
    go (inr a) b = subst Roomy (order_out l mask y a) h
    go (inl a) (inl b) = subst Roomy (order_old l mask y b) h
    go (inl a) (inr b) =
        let space = enter_fits l y h.0 (omega arith) (omega arith) h.1 b in
        subst Roomy (order_new l mask y a b) ((alike_enter l y low high space).size ∙ h.0, enter_room l y h.0 (omega arith) (omega arith) h.1 b)

-- and so does ordering a round's ids
round_keeps : (l : List ℕ) (mask r k : ℕ) → 1 ≤ r → r ≤ rounds → k ≤ slots → Roomy l → Roomy (order_round l mask r k)
unfolding order_round
round_keeps l mask r zero low high few h = h
round_keeps l mask r (suc k) low high few h =
    order_keeps (order_round l mask r k) mask (id_of r k) (omega arith) (omega arith) (round_keeps l mask r k low high (omega arith) h)

pub round_kept : (l m : List ℕ) (mask r k : ℕ) → 1 ≤ r → r ≤ rounds → k ≤ slots → length l ≡ state_size → Room l → m ≡ order_round l mask r k → Roomy m
round_kept l m mask r k low high few size room e = rw e (round_keeps l mask r k low high few (size, room))

-- an id of the history of the leader x that was not ordered at first
pub wanted_in : ℕ → List ℕ → ℕ → ℕ → Bool
wanted_in n l x y = not (ordered_id l y) && history n (vertices l) (id_round x) (id_member x) y

-- the state after the wanted ids below y
pub so_far_in : ℕ → List ℕ → ℕ → ℕ → List ℕ
so_far_in n l x y = enter_all l (select y (wanted_in n l x))

module _ (n : ℕ) (l : List ℕ) (S : Standing l) (R : Room l) (e : n ≡ member_count l) (x : ℕ) (there : held (vertices l) (id_round x) (id_member x) ≡ true) where
  abbrev wanted : ℕ → Bool
  wanted = wanted_in n l x

  abbrev so_far : ℕ → List ℕ
  so_far = so_far_in n l x

  -- a wanted id is that of a vertex of rounds 1 to 32, and of none above the leader's
  wanted_range : (y : ℕ) → wanted y ≡ true → (slots ≤ y) × (y < id_limit) × (y < slots * (id_round x + 1))
  unfolding wanted_in
  wanted_range y h =
      let d = history_held n (vertices l) (rw e S.members) (rw e S.valid) (id_round x) (id_member x) y there (and_right (not (ordered_id l y)) _ h) in
      (omega (arith, d.low), d.limit, omega (arith, d.high))

  record Entering (y : ℕ) : Type 0 where
    alike : Alike l (so_far y)
    room : Room (so_far y)
    later : (z : ℕ) → y ≤ z → ordered_id (so_far y) z ≡ ordered_id l z

  so_far_in_lem : (y : ℕ) → wanted y ≡ true → enter (so_far y) y ≡ so_far (y + 1)
  unfolding so_far_in
  so_far_in_lem y h = enter_more l (select y wanted) y ∙ ap (enter_all l) (sym (select_in y wanted h))

  so_far_out : (y : ℕ) → wanted y ≡ false → so_far y ≡ so_far (y + 1)
  unfolding so_far_in
  so_far_out y h = ap (enter_all l) (sym (select_out y wanted h))

  enter_step : (y : ℕ) → Entering y → wanted y ≡ true → Entering (y + 1)
  unfolding wanted_in
  enter_step y E h =
      let b = wanted_range y h in
      let fresh : ordered_id (so_far y) y ≡ false = E.later y (omega arith) ∙ not-true _ (and_left (not (ordered_id l y)) _ h) in
      let size : length (so_far y) ≡ state_size = E.alike.size ∙ S.size in
      let space = enter_fits (so_far y) y size (omega (arith, b.0)) (omega (arith, b.1)) E.room fresh in
      let kept : (z : ℕ) → y + 1 ≤ z → ordered_id (enter (so_far y) y) z ≡ ordered_id l z =
      λ z k. enter_ordered (so_far y) y size (omega (arith, b.0)) (omega (arith, b.1)) z
      ∙ rw (ne_eqb y z (λ d. omega arith)) (or-false (ordered_id (so_far y) z) ∙ E.later z (omega arith))
      in
      record {
        alike = subst (λ (x : List ℕ). Alike l x) (so_far_in_lem y h) (alike_then E.alike (alike_enter (so_far y) y b.0 b.1 space));
        room = subst Room (so_far_in_lem y h) (enter_room (so_far y) y size (omega (arith, b.0)) (omega (arith, b.1)) E.room fresh);
        later = λ z k. ap (λ (x : List ℕ). ordered_id x z) (sym (so_far_in_lem y h)) ∙ kept z k;
      }

  skip_step : (y : ℕ) → Entering y → wanted y ≡ false → Entering (y + 1)
  skip_step y E h = record {
    alike = subst (λ (x : List ℕ). Alike l x) (so_far_out y h) E.alike;
    room = subst Room (so_far_out y h) E.room;
    later = λ z k. ap (λ (x : List ℕ). ordered_id x z) (sym (so_far_out y h)) ∙ E.later z (omega arith);
  }

  -- what holds after the ids below any y
  entering : (y : ℕ) → Entering y
  unfolding so_far_in
  entering zero = record {
    alike = subst (λ (x : List ℕ). Alike l x) none (alike_self l);
    room = subst Room none R;
    later = λ z k. ap (λ (x : List ℕ). ordered_id x z) (sym none);
  }
    where
      none : l ≡ enter_all l (select 0 wanted)
      none = enter_none l ∙ ap (enter_all l) (sym (select_zero wanted))
  entering (suc y) = subst Entering (add-one y) (⊎_elim (enter_step y (entering y)) (skip_step y (entering y)) (which (wanted y)))

  -- the first 16 numbers are no ids
  start : l ≡ so_far slots
  unfolding so_far_in
  start = enter_none l
      ∙ ap (enter_all l) (sym (select_none slots wanted (λ y k. ⊎_elim (λ h. absurd (omega (arith, (wanted_range y h).0))) (λ h. h) (which (wanted y)))))

  -- one id, by the mask of its round
  step : (y mask : ℕ) → has mask (id_member y) ≡ history n (vertices l) (id_round x) (id_member x) y → order_id (so_far y) mask y ≡ so_far (y + 1)
  unfolding wanted_in
  step y mask h = go (which (ordered_id l y)) (which (history n (vertices l) (id_round x) (id_member x) y))
    where
      same : ordered_id (so_far y) y ≡ ordered_id l y
      same = (entering y).later y (omega arith)

      go : (ordered_id l y ≡ true) ⊎ (ordered_id l y ≡ false)
          → (history n (vertices l) (id_round x) (id_member x) y ≡ true) ⊎ (history n (vertices l) (id_round x) (id_member x) y ≡ false)
          → order_id (so_far y) mask y ≡ so_far (y + 1)
      go (inl a) b = sym (order_old (so_far y) mask y (same ∙ a)) ∙ so_far_out y (and_fails_left _ (ap not a))
      go (inr a) (inl b) = sym (order_new (so_far y) mask y (h ∙ b) (same ∙ a)) ∙ so_far_in_lem y (and_both (ap not a) b)
      go (inr a) (inr b) = sym (order_out (so_far y) mask y (h ∙ b)) ∙ so_far_out y (and_fails_right (not (ordered_id l y)) b)

  so_far_alike : (y : ℕ) → Alike l (so_far y)
  so_far_alike y = (entering y).alike

  so_far_room : (y : ℕ) → Room (so_far y)
  so_far_room y = (entering y).room

  -- after the last id the history has been ordered
  finish : so_far id_limit ≡ order_leader (vertices l) l x
  unfolding so_far_in wanted_in order_leader
  finish = ap (λ (m : ℕ). enter_all l (select id_limit (λ y. not (ordered_id l y) && history m (vertices l) (id_round x) (id_member x) y))) e

  -- the mask of an id's round, in the history's masks
  mask_of_lem : (y : ℕ) → slots ≤ y → y < id_limit → has (get_or (history_masks n (vertices l) (id_round x) (id_member x)) (id_round y - 1) 0) (id_member y)
      ≡ history n (vertices l) (id_round x) (id_member x) y
  mask_of_lem y low high =
      history_claim n (vertices l) (rw e S.members) (rw e S.valid) (id_round x) (id_member x) there (id_round y) (id_member y) (omega arith) (omega arith)
      (omega arith)
      ∙ ap (history n (vertices l) (id_round x) (id_member x)) (id_same y)

  -- the ids of a round below its member k, by the round's mask
  members_step : (s mask k : ℕ) → k ≤ slots → ((p : ℕ) → p < slots → has mask p ≡ history n (vertices l) (id_round x) (id_member x) (id_of s p))
      → order_round (so_far (slots * s)) mask s k ≡ so_far (id_of s k)
  unfolding order_round
  members_step s mask zero few h = ap so_far (omega arith)
  members_step s mask (suc k) few h =
      ap (λ (x : List ℕ). order_id x mask (id_of s k)) (members_step s mask k (omega arith) h)
      ∙ step (id_of s k) mask (ap (has mask) (id_member_lem s k (omega arith)) ∙ h k (omega arith))
      ∙ ap so_far (omega arith)

  -- one round, by its mask in the history's masks
  round_step : (s : ℕ) (o : List ℕ) (mask : ℕ) → s < rounds → o ≡ so_far (slots * (s + 1))
      → mask ≡ get_or (history_masks n (vertices l) (id_round x) (id_member x)) s 0
      → order_round o mask (s + 1) slots ≡ so_far (slots * (s + 1 + 1))
  round_step s o mask high e d = rw e (members_step (s + 1) mask slots (omega arith) named ∙ ap so_far (omega arith))
    where
      named : (p : ℕ) → p < slots → has mask p ≡ history n (vertices l) (id_round x) (id_member x) (id_of (s + 1) p)
      named p few =
          let a : id_round (id_of (s + 1) p) - 1 ≡ s = omega arith in
          rw d (rw (a, id_member_lem (s + 1) p few) at (mask_of_lem (id_of (s + 1) p) (omega arith) (omega arith)))

  -- above the leader's round there is nothing
  nothing_above : (k : ℕ) → so_far (slots * (id_round x + 1)) ≡ so_far (slots * (id_round x + 1) + k)
  nothing_above zero = ap so_far (omega arith)
  nothing_above (suc k) =
      let y = slots * (id_round x + 1) + k in
      nothing_above k ∙ so_far_out y (⊎_elim (λ h. absurd (omega (arith, (wanted_range y h).2))) (λ h. h) (which (wanted y))) ∙ ap so_far (omega arith)

  -- so the leader's round is the last
  last_round : id_round x ≤ rounds → so_far (slots * (id_round x + 1)) ≡ order_leader (vertices l) l x
  last_round high = nothing_above (id_limit - slots * (id_round x + 1)) ∙ ap so_far (omega arith) ∙ finish

-- what each step of the code may use, that orders the history of the leader x round by round
pub record Growth (n : ℕ) (l : List ℕ) (x : ℕ) : Type 0 where
  pub begun : l ≡ so_far_in n l x slots
  pub kept : (s : ℕ) (m : List ℕ) → m ≡ so_far_in n l x (slots * (s + 1)) → Roomy m
  pub more : (s p : ℕ) (m o masks : List ℕ) → s < rounds → m ≡ so_far_in n l x (slots * (s + 1)) → p ≡ id_member x
      → masks ≡ history_masks n (vertices l) (id_round x) p
      → o ≡ order_round m (get_or masks s 0) (s + 1) slots → o ≡ so_far_in n l x (slots * (s + 1 + 1))
  pub done : (m : List ℕ) → m ≡ so_far_in n l x (slots * (id_round x + 1)) → m ≡ order_leader (vertices l) l x

pub growth : (n : ℕ) (l : List ℕ) (x : ℕ) → Standing l → Room l → n ≡ member_count l → id_round x ≤ voted_rounds
    → held (vertices l) (id_round x) (id_member x) ≡ true → Growth n l x
growth n l x S R e high there = record {
  begun = start n l S R e x there;
  kept = λ s m d. let y = slots * (s + 1) in rw d ((so_far_alike n l S R e x there y).size ∙ S.size, so_far_room n l S R e x there y);
  more = λ s p m o masks h d ep em f.
      f ∙ round_step n l S R e x there s m (get_or masks s 0) h d (ap (λ (x : List ℕ). get_or x s 0) (rw ep at em));
  done = λ m d. d ∙ last_round n l S R e x there (omega arith);
}

-- ordering a leader's history leaves the rest alike, and room for more
pub leader_alike : (l : List ℕ) → Standing l → Room l → (x : ℕ) → held (vertices l) (id_round x) (id_member x) ≡ true → Alike l (order_leader (vertices l) l x)
leader_alike l S R x h = subst (λ (x : List ℕ). Alike l x) (finish (member_count l) l S R refl x h) (so_far_alike (member_count l) l S R refl x h id_limit)

pub leader_room : (l : List ℕ) → Standing l → Room l → (x : ℕ) → held (vertices l) (id_round x) (id_member x) ≡ true → Room (order_leader (vertices l) l x)
leader_room l S R x h = subst Room (finish (member_count l) l S R refl x h) (so_far_room (member_count l) l S R refl x h id_limit)
