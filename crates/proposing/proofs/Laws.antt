-- Each case of the definitions, as a law. Assumes nothing.
use Rattle.std.specs.Prelude.{Option, Some, None}
use Rattle.record.specs.Refusals.{or_zero}
use Rattle.record.specs.Handed.{handed_if}
use mathlib.Core.Path.{◌≡◌, refl, sym, ap, ap₂, ◌∙◌}
use mathlib.Core.Bool.{Bool, true, false, cond, not, ◌&&◌}
use mathlib.Core.List.{List}
use mathlib.Core.Logic.{◌⊎◌, inl, inr}
use Prim.Native.Nat.{ℕ, zero, suc, ◌+◌, ◌-◌, ◌≤◌, ◌<◌}
use native.Mathlib.Numerals.{add-one}
use native.Mathlib.Omega.{arith}
use lib.Bits.{bit_and}
use lib.Dec.{eqb}
use lib.ListN.{get_or}
use borrow.Author.Tests.{eq-eqb, ne_eqb, lt-ltb, le-ltb}
use Rattle.record.specs.Members.{is_round, leader, has, without, rounds, slots, id_of, id_member}
use Rattle.record.proofs.Booleans.{which, and_left, and_right, and_both, and_fails_left, and_fails_right, cond_true, cond_false, passed, failed}
use Rattle.record.proofs.Masks.{has_and}
use Rattle.record.proofs.Rounds.{round_range, id_member_lem}
use Rattle.replica.specs.Layout.{timeouts_kind, no_votes_kind}
use Rattle.replica.specs.State.{current_round, own_word, signed_rounds, held_mask, mask_of}
use Rattle.record.specs.Questions.{lacks_leader}
use Rattle.record.specs.declared.members.Members.{Members}
use Rattle.record.proofs.Composed.{lacking_law}
use Rattle.proposing.specs.declared.making.Draft.{Draft}
use Rattle.proposing.specs.Own.{marks_round}
use Rattle.proposing.specs.Making.{parents_in, made_strong, wants_timeouts, wants_no_votes}
use Rattle.proposing.specs.Inner.{Current, draft_of, enough_in, count_in, add_weak, offer_id, offer_round, offer_rounds}

-- ---- marks of rounds

pub marks_none : (word r : ℕ) (b : Bool) → b ≡ is_round r → not b ≡ true → false ≡ marks_round word r
unfolding marks_round
marks_none word r b e h = sym (and_fails_left _ (failed e h))

pub marks_bit : (word r : ℕ) (b h : Bool) → b ≡ is_round r → not b ≡ false → h ≡ has word (r - 1) → h ≡ marks_round word r
unfolding marks_round
marks_bit word r b h e p d = rw (passed e p) d

-- what the test of a round says
pub round_known : (r : ℕ) (b : Bool) → b ≡ is_round r → not b ≡ false → (1 ≤ r) × (r ≤ rounds)
round_known r b e p = round_range r (passed e p)

-- ---- weak ids

-- an id that is not held, one that is reached, and one too many: the record stays
pub offer_out : (rec : List ℕ) (most held reached y : ℕ) → has held (id_member y) ≡ false → rec ≡ offer_id rec most held reached y
unfolding offer_id
offer_out rec most held reached y h = sym (cond_false _ _ (and_fails_left _ h))

pub offer_reached : (rec : List ℕ) (most held reached y : ℕ) → has reached (id_member y) ≡ true → rec ≡ offer_id rec most held reached y
unfolding offer_id
offer_reached rec most held reached y h =
    sym (cond_false _ _ (and_fails_right (has held (id_member y)) (and_fails_left _ (ap not h))))

pub offer_full : (rec : List ℕ) (most held reached y : ℕ) → most ≤ count_in rec → rec ≡ offer_id rec most held reached y
unfolding offer_id
offer_full rec most held reached y h =
    sym (cond_false _ _ (and_fails_right (has held (id_member y)) (and_fails_right (not (has reached (id_member y))) (le-ltb _ _ h))))

-- any other joins
pub offer_new : (rec : List ℕ) (most held reached y : ℕ) → has held (id_member y) ≡ true → has reached (id_member y) ≡ false → count_in rec < most
    → add_weak rec y ≡ offer_id rec most held reached y
unfolding offer_id
offer_new rec most held reached y h k m = sym (cond_true _ _ (and_both h (and_both (ap not k) (lt-ltb _ _ m))))

-- the ids of a round, one after the other
pub round_none : (rec : List ℕ) (most held reached r : ℕ) → rec ≡ offer_round rec most held reached r 0
unfolding offer_round
round_none rec most held reached r = refl

pub round_more : (rec : List ℕ) (most held reached r p : ℕ) (x y : List ℕ) → x ≡ offer_round rec most held reached r p
    → y ≡ offer_id x most held reached (id_of r p) → y ≡ offer_round rec most held reached r (p + 1)
unfolding offer_round
round_more rec most held reached r p x y e d = rw (add-one p) (d ∙ ap (λ (z : List ℕ). offer_id z most held reached (id_of r p)) e)

-- where all that is held is reached, none joins
pub round_all : (rec : List ℕ) (most held reached r k : ℕ) → k ≤ slots → bit_and held reached ≡ held → rec ≡ offer_round rec most held reached r k
unfolding offer_round
round_all rec most held reached r zero few e = refl
round_all rec most held reached r (suc k) few e =
    round_all rec most held reached r k (omega arith) e ∙ one (offer_round rec most held reached r k) (which (has held k))
  where
    one : (x : List ℕ) → (has held k ≡ true) ⊎ (has held k ≡ false) → x ≡ offer_id x most held reached (id_of r k)
    one x (inl h) = offer_reached x most held reached (id_of r k) (rw (id_member_lem r k (omega arith)) (and_right (has held k) _
        (sym (has_and held reached k) ∙ ap (λ (m : ℕ). has m k) e ∙ h)))
    one x (inr h) = offer_out x most held reached (id_of r k) (rw (id_member_lem r k (omega arith)) h)

-- the rounds, one after the other
pub rounds_none : (rec : List ℕ) (most : ℕ) (l reached : List ℕ) → rec ≡ offer_rounds rec most l reached 0
unfolding offer_rounds
rounds_none rec most l reached = refl

pub rounds_more : (rec : List ℕ) (most : ℕ) (l reached : List ℕ) (t held : ℕ) (x y : List ℕ) → x ≡ offer_rounds rec most l reached t
    → held ≡ held_mask l (t + 1) → y ≡ offer_round x most held (get_or reached t 0) (t + 1) slots → y ≡ offer_rounds rec most l reached (t + 1)
unfolding offer_rounds
rounds_more rec most l reached t held x y e h d = rw (add-one t) (d ∙ same)
  where
    same : offer_round x most held (get_or reached t 0) (t + 1) slots
        ≡ offer_round (offer_rounds rec most l reached t) most (held_mask l (suc t)) (get_or reached t 0) (suc t) slots
    same = rw (h, e, add-one t)

-- ---- the strong mask

module _ (l : List ℕ) (n round : ℕ) (C : Current l n round) where
  pub strong_first : round ≡ 1 → 0 ≡ made_strong l
  unfolding made_strong
  strong_first h = sym (cond_true _ _ (eq-eqb (current_round l) 1 (sym C.opened.current ∙ h)))

  module _ (later : round ≡ 1 → ⊥) (h : ℕ) (eh : h ≡ held_mask l (round - 1)) (b : Bool) (eb : b ≡ marks_round (signed_rounds l) (round - 1)) where
    from_before : made_strong l ≡ parents_in l (round - 1)
    unfolding made_strong
    from_before =
        cond_false _ _ (ne_eqb (current_round l) 1 (λ e. later (C.opened.current ∙ e))) ∙ ap (λ (r : ℕ). parents_in l (r - 1)) (sym C.opened.current)

    pub strong_held : not b ≡ true → h ≡ made_strong l
    unfolding parents_in
    strong_held p = eh ∙ sym (from_before ∙ cond_false _ _ (failed eb p))

    pub strong_less : not b ≡ false → (q : ℕ) → q ≡ leader n (round - 1) → (x : Members) → x ≡ without (record { bits = h }) q
        → x.bits ≡ made_strong l
    unfolding parents_in
    strong_less p q eq x ex =
        ap (λ (m : Members). m.bits) ex
        ∙ rw (eh, eq, C.opened.members) (sym (from_before ∙ cond_true _ _ (passed eb p)))

-- ---- the draft

-- a certificate is wanted from round 2 on only
pub wanted_later : (n r s : ℕ) (a : Bool) → a ≡ lacks_leader n r s → a ≡ true → 2 ≤ r
wanted_later n r s a e h = lacking_law n r s (sym e ∙ h)

pub led_later : (n r s : ℕ) (a b c : Bool) → a ≡ lacks_leader n r s → b ≡ (a && c) → b ≡ true → 2 ≤ r
led_later n r s a b c e d h = wanted_later n r s a e (and_left a c (sym d ∙ h))

-- a mask as an option where it is wanted is the mask itself, and 0 where not
pub wanted_mask : (w : Bool) (m : ℕ) → or_zero (cond w (Some m) None) ≡ cond w m 0
wanted_mask true m = refl
wanted_mask false m = refl

pub wanted_enough : (q : ℕ) (w : Bool) (m : ℕ) → enough_in q (cond w (Some m) None) ≡ handed_if q w (cond w m 0)
unfolding handed_if
wanted_enough q true m = refl
wanted_enough q false m = refl

pub draft_is : (l : List ℕ) (n round : ℕ) → Current l n round → (s : ℕ) → s ≡ made_strong l
    → (a : Bool) → a ≡ lacks_leader n round s → (b : Bool) → b ≡ (a && eqb (own_word l - 1) (leader n round))
    → (x : Option ℕ) → x ≡ cond a (Some (mask_of l timeouts_kind (round - 1))) None
    → (y : Option ℕ) → y ≡ cond b (Some (mask_of l no_votes_kind (round - 1))) None
    → record { strong = s; timeouts = x; no_votes = y } ≡ draft_of l
draft_is l n round C s es a ea b eb x ex y ey = all_same es
    (ex ∙ ap₂ (λ (w : Bool) (r : ℕ). cond w (Some (mask_of l timeouts_kind (r - 1))) None) wants C.opened.current)
    (ey ∙ ap₂ (λ (w : Bool) (r : ℕ). cond w (Some (mask_of l no_votes_kind (r - 1))) None) leads C.opened.current)
  where
    wants : a ≡ wants_timeouts l
    wants = ea ∙ rw (es, C.opened.members, C.opened.current)

    leads : b ≡ wants_no_votes l
    leads = eb ∙ ap₂ ◌&&◌ wants (rw (C.opened.members, C.opened.current))

    all_same : {s s' : ℕ} {x y x' y' : Option ℕ} → s ≡ s' → x ≡ x' → y ≡ y'
        → ◌≡◌ {A = Draft} (record { strong = s; timeouts = x; no_votes = y }) (record { strong = s'; timeouts = x'; no_votes = y' })
    all_same p q r = cc
