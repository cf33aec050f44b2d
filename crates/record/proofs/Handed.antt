-- Terms of the claims of `specs/Handed`, of questions that are handed a number for the quorum. Assumes nothing.
use mathlib.Core.Path.{◌≡◌, refl, sym, ap, ◌∙◌}
use mathlib.Core.Bool.{Bool, true, false}
use mathlib.Core.List.{List, [], ◌∷◌}
use Prim.Native.Nat.{ℕ, zero, suc, ◌-◌, ◌/◌, ◌%◌, ◌^◌, ◌≤◌, ◌<◌}
use native.Mathlib.Nat.{pow-suc}
use native.Mathlib.Omega.{arith}
use lib.Count.{ones, ones_step}
use lib.Dec.{leb}
use lib.Pow.{pow_pos, pow_mono}
use borrow.Author.Tests.{eqb-false, leb-true, le-leb}
use Rattle.record.specs.Members.{quorum, meets}
use Rattle.record.specs.Refusals.{number_of, Question, first_no}
use Rattle.record.specs.Layout.{body_of, strong_of, timeouts_of, no_votes_of, tagged, record_words}
use Rattle.record.specs.Questions.{masks_ok, strong_ok, quorum_if, timeouts_ok, no_votes_ok, weak_ok, signer_questions, record_questions, body_refusal}
use Rattle.record.specs.Handed.{handed_strong, handed_if, handed_timeouts, handed_no_votes, handed_questions, handed_refusal}
use Rattle.record.specs.Handed.{HandedLaw, OnlyQuorumLaw}
use Rattle.record.specs.Admitted.{MeetsLaw, WantedLaw}
use Rattle.record.specs.declared.refusal.Refusal.TheVariants.{Strong, Timeouts, NoVotes, Weak}
use Rattle.record.proofs.Booleans.{and_both}
use Rattle.record.proofs.Masks.{ones_zero, legal_range, lt_within}
use Rattle.record.proofs.Turn.{next, known}

-- handed 2f + 1 of n, the questions are those of n alone
pub handed_law : HandedLaw
unfolding handed_questions handed_strong handed_timeouts handed_no_votes handed_if record_questions signer_questions strong_ok timeouts_ok no_votes_ok
    quorum_if meets
handed_law n q e round source body = rw e

-- so are the tests of a mask, and of one that may be wanted
pub meets_law : MeetsLaw
unfolding meets
meets_law n q mask e = rw e

pub wanted_law : WantedLaw
unfolding handed_if quorum_if meets
wanted_law n q wanted mask e = rw e

-- ---- no other number

-- the mask of the members below k has k members
full_count : (k : ℕ) → ones (2 ^ k - 1) ≡ k
full_count zero = ones_zero
full_count (suc k) =
    let h : (2 ^ suc k - 1) / 2 ≡ 2 ^ k - 1 = omega (arith, pow-suc 2 k, pow_pos k) in
    let o : (2 ^ suc k - 1) % 2 ≡ 1 = omega (arith, pow-suc 2 k, pow_pos k) in
    ones_step (2 ^ suc k - 1) ∙ rw (h, o, full_count k) (omega arith)

-- no question after 8 has its number
after_strong : (a b c : Bool) → number_of (first_no ((a, Timeouts) ∷ (b, NoVotes) ∷ (c, Weak) ∷ [])) ≡ 8 → ⊥
unfolding first_no
after_strong true true true e = eqb-false 0 8 refl e
after_strong true true false e = eqb-false 11 8 refl e
after_strong true false c e = eqb-false 10 8 refl e
after_strong false b c e = eqb-false 9 8 refl e

-- so with the same number, 8 has the same answer
same_answer : (s t : Bool) (xs ys : List Question) → (number_of (first_no xs) ≡ 8 → ⊥) → (number_of (first_no ys) ≡ 8 → ⊥)
    → number_of (first_no ((s, Strong) ∷ xs)) ≡ number_of (first_no ((t, Strong) ∷ ys)) → s ≡ t
unfolding first_no
same_answer true true xs ys f g e = refl
same_answer true false xs ys f g e = absurd (f e)
same_answer false true xs ys f g e = absurd (g (sym e))
same_answer false false xs ys f g e = refl

-- member 0's record of round 2 with the strong mask s and nothing else
abbrev body : ℕ → List ℕ
body s = body_of (record_words 2 0 s 0 0 (tagged 0).words [])

module _ (n q s : ℕ) (some : 0 < n) (small : s < 2 ^ n) where
  masks : masks_ok n (body s) ≡ true
  unfolding masks_ok strong_of timeouts_of no_votes_of
  masks = and_both (lt_within n s small) (and_both (lt_within n 0 (pow_pos n)) (lt_within n 0 (pow_pos n)))

  -- 4 to 7 are answered yes, so 8 and those after it decide
  handed_from : first_no ((handed_strong q 2 s, Strong) ∷ (handed_timeouts n q 2 (body s), Timeouts) ∷ (handed_no_votes n q 2 0 (body s), NoVotes)
      ∷ (weak_ok n 2 (body s), Weak) ∷ []) ≡ handed_refusal n q 2 0 (body s)
  unfolding handed_questions record_questions signer_questions strong_of
  handed_from = known n 2 0 (body s) _ (omega arith) (omega arith) some refl (next _ _ masks refl)

  alone_from : first_no ((strong_ok n 2 s, Strong) ∷ (timeouts_ok n 2 (body s), Timeouts) ∷ (no_votes_ok n 2 0 (body s), NoVotes)
      ∷ (weak_ok n 2 (body s), Weak) ∷ []) ≡ body_refusal n 2 0 (body s)
  unfolding record_questions signer_questions strong_of
  alone_from = known n 2 0 (body s) _ (omega arith) (omega arith) some refl (next _ _ masks refl)

  same_strong : number_of (handed_refusal n q 2 0 (body s)) ≡ number_of (body_refusal n 2 0 (body s)) → leb q (ones s) ≡ leb (quorum n) (ones s)
  unfolding handed_strong strong_ok meets
  same_strong e = same_answer (leb q (ones s)) (leb (quorum n) (ones s)) _ _ (after_strong _ _ _) (after_strong _ _ _)
      (ap number_of handed_from ∙ e ∙ sym (ap number_of alone_from))

pub only_quorum_law : OnlyQuorumLaw
only_quorum_law n q g h = omega (arith, at_most, at_least)
  where
    few : quorum n ≤ n
    few = let l = legal_range n g in omega (arith, l.low, l.thirds)

    -- a mask of k members meets both numbers or neither
    of_members : (k : ℕ) → k ≤ n → leb q k ≡ leb (quorum n) k
    of_members k l =
        let e = full_count k in
        rw e at (same_strong n q (2 ^ k - 1) (omega (arith, (legal_range n g).low)) (omega (arith, pow_pos k, pow_mono l)) (h 2 0 (body (2 ^ k - 1))))

    at_most : q ≤ quorum n
    at_most = leb-true q (quorum n) (of_members (quorum n) few ∙ le-leb (quorum n) (quorum n) (omega arith))

    at_least : quorum n ≤ q
    at_least = leb-true (quorum n) q (sym (of_members q (omega (arith, at_most, few))) ∙ le-leb q q (omega arith))
