-- A record composed of admissible values is admitted, and what 8 and 9 ask of a strong mask. Assumes nothing.
use mathlib.Core.Path.{◌≡◌, refl, sym, ap, ◌∙◌}
use mathlib.Core.Bool.{true}
use mathlib.Core.Logic.{⊎_elim}
use mathlib.Core.List.{List, [], ◌∷◌, ◌++◌, append_assoc}
use Prim.Native.Nat.{ℕ, zero, suc, ◌+◌, ◌-◌, ◌≤◌, ◌<◌}
use native.Mathlib.Omega.{arith}
use lib.Dec.{leb, ltb}
use lib.ListN.{length, get_or, replicate, length-append, length-replicate, get_or-replicate, get_or-append}
use lib.Seq.{get_or-append-add}
use borrow.Author.Tests.{leb-true, le-leb, lt-ltb, ltb-true, ltb-false, eq-eqb, ne_eqb}
use Rattle.record.specs.Members.{faulty}
use Rattle.record.specs.Refusals.{number_of}
use Rattle.record.specs.Layout.{digest_size, weak_place, weak_slots, body_size, body_of, strong_of, timeouts_of, no_votes_of, weak_count_of, weak_of}
use Rattle.record.specs.Layout.{Digest, slot_words, record_words}
use Rattle.record.specs.Questions.{masks_ok, strong_ok, lacks_leader, timeouts_ok, no_votes_ok, weak_id_ok, rises, slot_ok, weak_ok, signer_questions}
use Rattle.record.specs.Questions.{record_questions}
use Rattle.record.specs.Admitted.{StrongLaw, LackingLaw, Composed, ComposedLaw}
use Rattle.record.proofs.Booleans.{which, and_left, and_both, cond_true, cond_false}
use Rattle.record.proofs.Below.{all_intro}
use Rattle.record.proofs.Masks.{lt_within}
use Rattle.record.proofs.Turn.{next, done, known}

-- ---- what a strong mask is asked

-- in round 1 the empty mask is enough, and later a quorum
pub strong_law : StrongLaw
unfolding strong_ok
strong_law n = (refl, λ round strong h. cond_false _ _ (ne_eqb round 1 h))

-- the previous leader is lacking from round 2 on only
pub lacking_law : LackingLaw
unfolding lacks_leader
lacking_law n round strong e = leb-true 2 round (and_left (leb 2 round) _ e)

-- ---- the words of a composed record

slots_long : (weak : List ℕ) → length weak ≤ weak_slots → length (slot_words weak) ≡ weak_slots
slots_long weak h = length-append weak _ ∙ ap (λ (x : ℕ). length weak + x) (length-replicate {A = ℕ} (weak_slots - length weak) 0) ∙ omega arith

slot_used : (weak : List ℕ) (i : ℕ) → i < length weak → get_or (slot_words weak) i 0 ≡ get_or weak i 0
slot_used weak i h = get_or-append weak (replicate (weak_slots - length weak) 0) 0 i h

slot_free : (weak : List ℕ) (i : ℕ) → length weak ≤ i → i < weak_slots → get_or (slot_words weak) i 0 ≡ 0
slot_free weak i h k =
    let e : i ≡ length weak + (i - length weak) = omega arith in
    ap (λ (j : ℕ). get_or (slot_words weak) j 0) e
    ∙ get_or-append-add weak (replicate (weak_slots - length weak) 0) (i - length weak) 0
    ∙ get_or-replicate {A = ℕ} (weak_slots - length weak) (i - length weak) 0 0 (omega arith)

-- ---- of its body

-- behind so many words stand those appended
pub get_d_append_size : (s t : List ℕ) (k i : ℕ) → length s ≡ k → get_or (s ++ t) (k + i) 0 ≡ get_or t i 0
get_d_append_size s t k i e = ap (λ (x : ℕ). get_or (s ++ t) (x + i) 0) (sym e) ∙ get_or-append-add s t i 0

module _ (n round source strong timeouts no_votes : ℕ) (digest : Digest) (weak : List ℕ) where
  -- the record, and its body
  abbrev whole : List ℕ
  whole = record_words round source strong timeouts no_votes digest.words weak

  abbrev body : List ℕ
  body = body_of whole

  strong_is : strong_of body ≡ strong
  unfolding strong_of
  strong_is = refl

  timeouts_is : timeouts_of body ≡ timeouts
  unfolding timeouts_of
  timeouts_is = refl

  no_votes_is : no_votes_of body ≡ no_votes
  unfolding no_votes_of
  no_votes_is = refl

  pub count_is : weak_count_of body ≡ length weak
  unfolding weak_count_of
  count_is = get_d_append_size digest.words _ digest_size 0 digest.size

  -- the words before the slots, and the slots
  abbrev front : List ℕ
  front = strong ∷ timeouts ∷ no_votes ∷ (digest.words ++ length weak ∷ [])

  in_two : body ≡ front ++ slot_words weak
  in_two = ap (λ (x : List ℕ). strong ∷ timeouts ∷ no_votes ∷ x) (sym (append_assoc digest.words (length weak ∷ []) (slot_words weak)))

  front_long : length front ≡ weak_place
  front_long = omega (arith, length-append digest.words (length weak ∷ []), digest.size)

  weak_is : (i : ℕ) → weak_of body i ≡ get_or (slot_words weak) i 0
  unfolding weak_of
  weak_is i = ap (λ (x : List ℕ). get_or x (weak_place + i) 0) in_two ∙ get_d_append_size front (slot_words weak) weak_place i front_long

  -- a slot that is used has its weak id
  pub weak_slot : (i : ℕ) → i < length weak → weak_of body i ≡ get_or weak i 0
  weak_slot i h = weak_is i ∙ slot_used weak i h

  module _ (c : Composed n round source strong timeouts no_votes weak) where
    long : length body ≡ body_size
    long = omega (arith, ap length in_two, length-append front (slot_words weak), front_long, slots_long weak c.weak_fit)

    masks : masks_ok n body ≡ true
    unfolding masks_ok
    masks = rw (strong_is, timeouts_is, no_votes_is)
        (and_both (lt_within n strong c.strong_low) (and_both (lt_within n timeouts c.timeouts_low) (lt_within n no_votes c.no_votes_low)))

    certificate : timeouts_ok n round body ≡ true
    unfolding timeouts_ok
    certificate = rw (strong_is, timeouts_is) c.timeouts_wanted

    against : no_votes_ok n round source body ≡ true
    unfolding no_votes_ok
    against = rw (strong_is, no_votes_is) c.no_votes_wanted

    rising : (i : ℕ) → i < length weak → rises body i ≡ true
    unfolding rises
    rising zero h = refl
    rising (suc i) h =
        let down : suc i - 1 ≡ i = omega arith in
        let a : weak_of body (suc i - 1) ≡ get_or weak i 0 = weak_is (suc i - 1) ∙ rw down (slot_used weak i (omega arith)) in
        let b : weak_of body (suc i) ≡ get_or weak (suc i) 0 = weak_slot (suc i) h in
        let more : get_or weak i 0 < get_or weak (i + 1) 0 = c.weak_rising i (omega arith) in
        let up : i + 1 ≡ suc i = omega arith in
        cond_false true _ (ne_eqb (suc i) 0 (λ d. omega arith)) ∙ rw (a, b) (lt-ltb (get_or weak i 0) (get_or weak (suc i) 0) (rw up at more))

    each : (i : ℕ) → i < length weak → weak_id_ok n round (get_or weak i 0) ≡ true
    unfolding weak_id_ok
    each i h = and_both (lt-ltb _ n (c.weak_member i h)) (and_both (le-leb 1 _ (c.weak_low i h)) (le-leb _ round (c.weak_high i h)))

    slot : (i : ℕ) → i < weak_slots → slot_ok n round body i ≡ true
    unfolding slot_ok
    slot i k = ⊎_elim
        (λ e. let h : i < length weak = ltb-true i (length weak) (ap (ltb i) (sym count_is) ∙ e) in
        cond_true _ _ e ∙ and_both (rising i h) (rw (weak_slot i h) (each i h)))
        (λ e. let h : length weak ≤ i = ltb-false i (length weak) (ap (ltb i) (sym count_is) ∙ e) in
        cond_false _ _ e ∙ eq-eqb _ 0 (weak_is i ∙ slot_free weak i h k))
        (which (ltb i (weak_count_of body)))

    weaks : weak_ok n round body ≡ true
    unfolding weak_ok
    weaks = and_both (le-leb (weak_count_of body) (faulty n) (rw count_is c.weak_few)) (all_intro weak_slots (slot_ok n round body) slot)

-- The law.
pub composed : ComposedLaw
unfolding record_questions signer_questions
composed n round source strong timeouts no_votes digest weak c =
    let b : List ℕ = body n round source strong timeouts no_votes digest weak in
    ap number_of (sym (known n round source b _ c.placed.round_low c.placed.round_high c.placed.member_low
    (long n round source strong timeouts no_votes digest weak c)
    (next _ _ (masks n round source strong timeouts no_votes digest weak c)
    (next _ _ (ap (strong_ok n round) (strong_is n round source strong timeouts no_votes digest weak) ∙ c.strong_enough)
    (next _ _ (certificate n round source strong timeouts no_votes digest weak c)
    (next _ _ (against n round source strong timeouts no_votes digest weak c)
    (next _ _ (weaks n round source strong timeouts no_votes digest weak c) done)))))))
