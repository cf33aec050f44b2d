-- What the number of an opening says. Assumes nothing.
use mathlib.Core.Path.{◌≡◌, refl, sym, ap, ◌∙◌}
use mathlib.Core.Bool.{true, false, ◌&&◌}
use mathlib.Core.Logic.{◌⊎◌, inl, inr}
use mathlib.Core.List.{List}
use Prim.Native.Nat.{ℕ, ◌≤◌}
use lib.Dec.{leb}
use lib.ListN.{length}
use borrow.Author.Tests.{eqb-false, eq-eqb, leb-true, le-leb}
use Rattle.record.specs.Members.{legal}
use Rattle.record.specs.Refusals.{number_of, first_no}
use Rattle.record.proofs.Booleans.{never, and_left, and_right, and_both}
use Rattle.record.proofs.Turn.{next, done, both_yes}
use Rattle.replica.specs.Layout.{state_size}
use Rattle.replica.specs.Opening.{opened, open_questions, open_state}
use Rattle.ordering.proofs.Numbers.{number_yes, words_yes, number_no, words_no, decided}

-- its questions are answered yes
legal_yes : (l : List ℕ) (n own : ℕ) → number_of (first_no (open_questions l n own)) ≡ 0 → (legal n && leb own n) ≡ true
legal_yes l n own e =
    let q1 = both_yes _ _ _ (eqb-false 1 0 refl) e in
    let q2 = both_yes _ _ _ (eqb-false 2 0 refl) q1.1 in
    and_both q2.0 (both_yes _ _ _ (eqb-false 6 0 refl) q2.1).0

-- with answer 0: the member count is one of the five, the own member below it, and the words are those of an opened state
pub open_yes : (l : List ℕ) (n own : ℕ) → (open_state l n own).number ≡ 0 → (legal n ≡ true) × (own ≤ n) × ((open_state l n own).words ≡ opened n own)
unfolding open_state
open_yes l n own e = go (decided (first_no (open_questions l n own)))
  where
    go : (number_of (first_no (open_questions l n own)) ≡ 0) ⊎ (number_of (first_no (open_questions l n own)) ≡ 0 → ⊥)
        → (legal n ≡ true) × (own ≤ n) × ((open_state l n own).words ≡ opened n own)
    go (inl d) =
        let g = legal_yes l n own d in
        (and_left _ _ g, leb-true own n (and_right (legal n) _ g), words_yes (first_no (open_questions l n own)) l (opened n own) d)
    go (inr d) = absurd (d (sym (number_no (first_no (open_questions l n own)) l (opened n own) d) ∙ e))

-- four members
pub four : legal 4 ≡ true
unfolding legal
four = refl

-- a state's words, a member count of the five and an own member below it: answer 0
pub open_taken : (l : List ℕ) (n own : ℕ) → length l ≡ state_size → legal n ≡ true → own ≤ n → (open_state l n own).number ≡ 0
unfolding open_state
open_taken l n own size e few = number_yes (first_no (open_questions l n own)) l (opened n own)
    (ap number_of (sym (next _ _ (eq-eqb (length l) state_size size) (next _ _ e (next _ _ (le-leb own n few) done)))))

-- with another member count or own member: the words stay
pub open_no : (l : List ℕ) (n own : ℕ) → (legal n && leb own n) ≡ false → (open_state l n own).words ≡ l
unfolding open_state
open_no l n own e = words_no (first_no (open_questions l n own)) l (opened n own) (λ d. never (legal_yes l n own d) e)
