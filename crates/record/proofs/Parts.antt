-- Laws of questions 7 to 10 together, and of 7 to 11, for programs that do not ask them in turn. Assumes nothing.
use mathlib.Core.Path.{◌≡◌, refl, sym, ap, ◌∙◌}
use mathlib.Core.Bool.{Bool, true, false, cond, not, ◌&&◌}
use mathlib.Core.Logic.{⊎_elim}
use mathlib.Core.List.{List}
use Prim.Native.Nat.{ℕ, ◌^◌, ◌≤◌, ◌<◌}
use native.Mathlib.Omega.{arith}
use lib.Bits.{bit_or, or_lt}
use lib.Count.{ones}
use lib.Dec.{eqb, leb}
use lib.ListN.{length}
use lib.Pow.{pow_pos}
use borrow.Author.Tests.{eqb-true, eqb-false, eq-eqb, ne_eqb, le-leb, lt-leb}
use Rattle.record.specs.Members.{leader, within, rounds}
use Rattle.record.specs.Refusals.{Verdict, number_of}
use Rattle.record.specs.Layout.{strong_of, timeouts_of, no_votes_of, body_size}
use Rattle.record.specs.Questions.{masks_ok, lacks_leader, weak_ok, signer_questions, record_questions, body_refusal}
use Rattle.record.specs.Handed.{QuorumOf, handed_strong, handed_if, handed_timeouts, handed_no_votes, handed_questions, handed_refusal}
use Rattle.record.specs.Inner.{Known, certified, masks_admitted}
use Rattle.record.specs.Terms.{largest_mask, largest_strong}
use Rattle.record.proofs.Booleans.{which, and_left, and_right, and_both, and_fails_left, and_fails_right, bool_ext, passed, failed}
use Rattle.record.proofs.Booleans.{cond_true, cond_false}
use Rattle.record.proofs.Masks.{or_zero, lt_within, within_or, within_largest}
use Rattle.record.proofs.Composed.{lacking_law}
use Rattle.record.proofs.Handed.{handed_law}
use Rattle.record.proofs.Turn.{next, done, known, both_yes}

-- ---- the strong mask: 7 and 8 of it together

module _ (n q round strong most : ℕ) (e : most ≡ largest_strong n round) where
  -- one above the largest is refused
  pub strong_above : strong < 2 ^ 32 → most < strong → false ≡ (within n strong && handed_strong q round strong)
  unfolding handed_strong
  strong_above h l = sym (⊎_elim first later (which (eqb round 1)))
    where
      first : eqb round 1 ≡ true → (within n strong && cond (eqb round 1) (eqb strong 0) (leb q (ones strong))) ≡ false
      first d = and_fails_right (within n strong) (rw d (ne_eqb strong 0 (λ z. omega arith)))

      later : eqb round 1 ≡ false → (within n strong && cond (eqb round 1) (eqb strong 0) (leb q (ones strong))) ≡ false
      later d =
          let m : most ≡ largest_mask n = e ∙ cond_false _ _ d in
          and_fails_left _ (sym (within_largest n strong h) ∙ lt-leb strong (largest_mask n) (omega arith))

  -- that of round 1 is 0
  pub strong_first : round ≡ 1 → strong ≤ most → true ≡ (within n strong && handed_strong q round strong)
  unfolding handed_strong
  strong_first d l =
      let z : strong ≡ 0 = omega (arith, e ∙ cond_true _ _ (eq-eqb round 1 d)) in
      rw (z, d) (sym (and_both (lt_within n 0 (pow_pos n)) refl))

  -- later ones are asked for the quorum
  pub strong_later : strong < 2 ^ 32 → (round ≡ 1 → ⊥) → strong ≤ most → leb q (ones strong) ≡ (within n strong && handed_strong q round strong)
  unfolding handed_strong
  strong_later h d l =
      let m : most ≡ largest_mask n = e ∙ cond_false _ _ (ne_eqb round 1 d) in
      let w : within n strong ≡ true = sym (within_largest n strong h) ∙ le-leb strong (largest_mask n) (omega (arith, m)) in
      rw (w, ne_eqb round 1 d)

-- once 7 is answered yes, that is 8
pub strong_asked : (n q round : ℕ) (body : List ℕ) (b : Bool) → masks_ok n body ≡ true
    → b ≡ (within n (strong_of body) && handed_strong q round (strong_of body)) → b ≡ handed_strong q round (strong_of body)
unfolding masks_ok
strong_asked n q round body b m e = e ∙ ap (λ (x : Bool). x && handed_strong q round (strong_of body)) (and_left (within n (strong_of body)) _ m)

-- ---- the two other masks, where the strong mask lacks the previous leader

-- their largest is that of the group
pub lacks_largest : (n round strong most : ℕ) → most ≡ largest_strong n round → lacks_leader n round strong ≡ true → most ≡ largest_mask n
lacks_largest n round strong most e k = e ∙ cond_false _ _ (ne_eqb round 1 (λ d. omega (arith, lacking_law n round strong k)))

module _ (n q most timeouts no_votes : ℕ) (leads : Bool) (e : most ≡ largest_mask n) (x : timeouts < 2 ^ 32) (y : no_votes < 2 ^ 32) where
  both : leb (bit_or timeouts no_votes) most ≡ (within n timeouts && within n no_votes)
  both = ap (leb _) e ∙ within_largest n _ (or_lt 32 timeouts no_votes x y) ∙ within_or n _ _

  -- it refuses them, or the quorums decide
  pub certified_above : most < bit_or timeouts no_votes → false ≡ certified n q leads timeouts no_votes
  unfolding certified
  certified_above l = sym (and_fails_left _ (sym both ∙ lt-leb _ _ l))

  module _ (l : bit_or timeouts no_votes ≤ most) (a : Bool) (ea : a ≡ handed_if q true timeouts) where
    pub certified_few : not a ≡ true → false ≡ certified n q leads timeouts no_votes
    unfolding certified
    certified_few h = sym (and_fails_right (within n timeouts && within n no_votes) (and_fails_left _ (failed ea h)))

    pub certified_decides : not a ≡ false → (b : Bool) → b ≡ handed_if q leads no_votes → b ≡ certified n q leads timeouts no_votes
    unfolding certified
    certified_decides h b d = d ∙ rw (sym both ∙ le-leb _ _ l, passed ea h)

-- ---- the masks

module _ (n q round source : ℕ) (body : List ℕ) where
  pub masks_strong : (within n (strong_of body) && handed_strong q round (strong_of body)) ≡ false → masks_admitted n q round source body ≡ false
  unfolding masks_admitted masks_ok
  masks_strong e = ⊎_elim
      (λ w. and_fails_right (masks_ok n body) (and_fails_left _ (sym (ap (λ (b : Bool). b && handed_strong q round (strong_of body)) w) ∙ e)))
      (λ w. and_fails_left _ (and_fails_left _ w))
      (which (within n (strong_of body)))

  -- where the previous leader is lacking
  pub masks_lacking : (within n (strong_of body) && handed_strong q round (strong_of body)) ≡ true → lacks_leader n round (strong_of body) ≡ true
      → certified n q (eqb source (leader n round)) (timeouts_of body) (no_votes_of body) ≡ masks_admitted n q round source body
  unfolding certified masks_admitted masks_ok handed_timeouts handed_no_votes
  masks_lacking s k = rw (and_left (within n (strong_of body)) _ s, and_right (within n (strong_of body)) _ s, k)

  -- and where it is not: the two other masks are empty
  pub masks_full : (within n (strong_of body) && handed_strong q round (strong_of body)) ≡ true → lacks_leader n round (strong_of body) ≡ false
      → masks_admitted n q round source body ≡ eqb (bit_or (timeouts_of body) (no_votes_of body)) 0
  unfolding masks_admitted masks_ok handed_timeouts handed_no_votes handed_if
  masks_full s k =
      rw (and_right (within n (strong_of body)) _ s, k, or_zero (timeouts_of body) (no_votes_of body))
      (bool_ext
      (λ e. and_right (within n (strong_of body) && (within n (timeouts_of body) && within n (no_votes_of body))) _ e)
      (λ both.
      let x : timeouts_of body ≡ 0 = eqb-true _ _ (and_left _ _ both) in
      let y : no_votes_of body ≡ 0 = eqb-true _ _ (and_right (eqb (timeouts_of body) 0) _ both) in
      and_both
      (and_both (and_left (within n (strong_of body)) _ s)
      (and_both (lt_within n (timeouts_of body) (omega (arith, pow_pos n))) (lt_within n (no_votes_of body) (omega (arith, pow_pos n))))) both))

  -- the answers to 7 to 10
  abbrev seven : Bool
  seven = masks_ok n body

  abbrev eight : Bool
  eight = handed_strong q round (strong_of body)

  abbrev nine : Bool
  nine = handed_timeouts n q round body

  abbrev ten : Bool
  ten = handed_no_votes n q round source body

  -- a body that 4 to 6 do not refuse is admitted exactly if its masks and its weak ids are
  pub admitted_parts : 1 ≤ round → round ≤ rounds → source < n → length body ≡ body_size
      → eqb (number_of (handed_refusal n q round source body)) 0 ≡ (masks_admitted n q round source body && weak_ok n round body)
  unfolding masks_admitted handed_questions record_questions signer_questions
  admitted_parts low high member size = bool_ext there back
    where
      there : eqb (number_of (handed_refusal n q round source body)) 0 ≡ true → ((seven && (eight && (nine && ten))) && weak_ok n round body) ≡ true
      there e =
          let q4 = both_yes _ _ _ (eqb-false 4 0 refl) (eqb-true (number_of (handed_refusal n q round source body)) 0 e) in
          let q5 = both_yes _ _ _ (eqb-false 5 0 refl) q4.1 in
          let q6 = both_yes _ _ _ (eqb-false 6 0 refl) q5.1 in
          let q7 = both_yes _ _ _ (eqb-false 7 0 refl) q6.1 in
          let q8 = both_yes _ _ _ (eqb-false 8 0 refl) q7.1 in
          let q9 = both_yes _ _ _ (eqb-false 9 0 refl) q8.1 in
          let q10 = both_yes _ _ _ (eqb-false 10 0 refl) q9.1 in
          let q11 = both_yes _ _ _ (eqb-false 11 0 refl) q10.1 in
          and_both (and_both q7.0 (and_both q8.0 (and_both q9.0 q10.0))) q11.0

      back : ((seven && (eight && (nine && ten))) && weak_ok n round body) ≡ true → eqb (number_of (handed_refusal n q round source body)) 0 ≡ true
      back e =
          let a = and_left (seven && (eight && (nine && ten))) _ e in
          let b = and_right seven _ a in
          let c = and_right eight _ b in
          eq-eqb _ 0 (sym (ap number_of (known n round source body _ low high member size
          (next _ _ (and_left seven _ a) (next _ _ (and_left eight _ b) (next _ _ (and_left nine _ c) (next _ _ (and_right nine _ c)
          (next _ _ (and_right (seven && (eight && (nine && ten))) _ e) done))))))))

-- ---- the test of a body of which 4 to 6 are answered yes

module _ (n q round source : ℕ) (body : List ℕ) (k : Known n round source body) (h : QuorumOf n q) (m : Bool)
    (e : m ≡ masks_admitted n q round source body) where
  decides : eqb (number_of (body_refusal n round source body)) 0 ≡ (masks_admitted n q round source body && weak_ok n round body)
  decides =
      ap (λ (w : Verdict). eqb (number_of w) 0) (sym (handed_law n q h round source body))
      ∙ admitted_parts n q round source body k.round_low k.round_high k.source_low k.size

  pub masks_no : not m ≡ true → false ≡ eqb (number_of (body_refusal n round source body)) 0
  masks_no h = sym (decides ∙ and_fails_left _ (failed e h))

  pub weak_decides : not m ≡ false → (w : Bool) → w ≡ weak_ok n round body → w ≡ eqb (number_of (body_refusal n round source body)) 0
  weak_decides h w d = d ∙ sym (decides ∙ rw (passed e h))
