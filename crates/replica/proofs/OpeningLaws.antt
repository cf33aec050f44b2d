-- Laws of opening. Assumes nothing.
use Rattle.std.specs.Prelude.{Result, Ok, Err}
use mathlib.Core.Path.{◌≡◌, refl, sym, ap, ap₂, ◌∙◌}
use mathlib.Core.Bool.{Bool, true, false, not}
use mathlib.Core.List.{List}
use Prim.Native.Nat.{ℕ, ◌-◌, ◌≤◌, ◌<◌}
use native.Mathlib.Omega.{arith}
use lib.ListN.{length, set, replicate, length-set, length-replicate}
use borrow.Author.Tests.{eqb-false, eq-eqb, ne_eqb, le-leb, lt-leb}
use Rattle.record.specs.Members.{legal}
use Rattle.record.specs.Refusals.{Verdict, no_refusal, refusal_number, first_no}
use Rattle.record.specs.declared.refusal.Refusal.{Refusal}
use Rattle.record.specs.declared.refusal.Refusal.TheVariants.{StateSize, MemberCount, Source}
use Rattle.record.proofs.Booleans.{cond_false, passed, failed}
use Rattle.record.proofs.Turn.{next, stop, done}
use Rattle.replica.specs.Layout.{state_size, member_count_at, current_round_at, own_at}
use Rattle.replica.specs.State.{leader_count, journal_count}
use Rattle.replica.specs.Outcome.{Outcome, told, outcome}
use Rattle.replica.specs.Opening.{open_questions, opened, open_state}
use Rattle.replica.specs.declared.answer.Added.{Added}

open_refused : (l : List ℕ) (n own : ℕ) (a : Result Added Refusal) (why : Refusal) → a ≡ Err why → Err why ≡ first_no (open_questions l n own)
    → (refusal_number why ≡ 0 → ⊥) → told a l ≡ open_state l n own
unfolding open_state outcome
open_refused l n own a why ea e deny =
    ap (λ (x : Result Added Refusal). told x l) ea
    ∙ sym (cond_false _ _ (ne_eqb (refusal_number why) 0 deny))
    ∙ ap (λ (r : Verdict). outcome r l (opened n own)) e

open_words : (words : List ℕ) (n own k : ℕ) → words ≡ replicate k 0 → k ≡ state_size
    → set (set (set words member_count_at n) current_round_at 1) own_at own ≡ opened n own
unfolding opened
open_words words n own k e d = ap (λ (x : List ℕ). set (set (set x member_count_at n) current_round_at 1) own_at own) (e ∙ ap (λ (j : ℕ). replicate j 0) d)

opened_counts : (n own : ℕ) → (leader_count (opened n own) ≡ 0) × (journal_count (opened n own) ≡ 0)
unfolding opened
opened_counts n own = (refl, refl)

abbrev finished : ℕ → ℕ → List ℕ → Outcome
finished x y words = record { number = 0; id = 0; leaders = x; journal = y; words = words }

open_done : (l words : List ℕ) (n own : ℕ) → words ≡ opened n own → no_refusal ≡ first_no (open_questions l n own)
    → told (Ok (record { leaders = 0; journal = 0 })) words ≡ open_state l n own
unfolding open_state outcome
open_done l words n own e d =
    let z = opened_counts n own in
    let a : leader_count (opened n own) - leader_count l ≡ 0 = omega arith in
    let b : journal_count (opened n own) - journal_count l ≡ 0 = omega arith in
    ap (λ (w : List ℕ). told (Ok (record { leaders = 0; journal = 0 })) w) e
    ∙ ap₂ (λ (x y : ℕ). finished x y (opened n own)) (sym a) (sym b)
    ∙ ap (λ (r : Verdict). outcome r l (opened n own)) d

-- there is room for the own word
pub own_fits : (l m : List ℕ) (n : ℕ) → length l ≡ state_size → m ≡ replicate (length l) 0 → own_at < length (set (set m member_count_at n) current_round_at 1)
own_fits l m n size e = rw (length-set, length-set, e, length-replicate) (omega arith)

-- where opening stops, and where it does not
module _ (l : List ℕ) (n own : ℕ) where
  pub open_size : (length l ≡ state_size → ⊥) → (a : Result Added Refusal) → a ≡ Err StateSize → told a l ≡ open_state l n own
  open_size h a e = open_refused l n own a StateSize e (stop _ _ (ne_eqb _ _ h)) (eqb-false 1 0 refl)

  module _ (size : length l ≡ state_size) (b : Bool) (group : b ≡ legal n) where
    pub open_group : not b ≡ true → (a : Result Added Refusal) → a ≡ Err MemberCount → told a l ≡ open_state l n own
    open_group h a e = open_refused l n own a MemberCount e (next _ _ (eq-eqb _ _ size) (stop _ _ (failed group h))) (eqb-false 2 0 refl)

    module _ (h : not b ≡ false) where
      pub open_own : n < own → (a : Result Added Refusal) → a ≡ Err Source → told a l ≡ open_state l n own
      open_own k a e = open_refused l n own a Source e
          (next _ _ (eq-eqb _ _ size) (next _ _ (passed group h) (stop _ _ (lt-leb own n k)))) (eqb-false 6 0 refl)

      pub open_all : own ≤ n → (m : List ℕ) → m ≡ replicate (length l) 0
          → told (Ok (record { leaders = 0; journal = 0 })) (set (set (set m member_count_at n) current_round_at 1) own_at own) ≡ open_state l n own
      open_all k m e = open_done l _ n own (open_words m n own _ e size)
          (next _ _ (eq-eqb _ _ size) (next _ _ (passed group h) (next _ _ (le-leb own n k) done)))
