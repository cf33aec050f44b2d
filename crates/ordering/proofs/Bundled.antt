-- The questions of a bundle of timeouts in turn: what stopped it, and what is known where nothing did. Assumes nothing.
use Rattle.std.specs.Prelude.{Err}
use mathlib.Core.Path.{◌≡◌, refl, sym, ap, ◌∙◌}
use mathlib.Core.Bool.{Bool, true, false, not, ◌||◌, or-false}
use mathlib.Core.Logic.{◌⊎◌, inl, inr, ⊎_elim}
use mathlib.Core.List.{List, [], ◌∷◌}
use Prim.Native.Nat.{ℕ, ◌^◌, ◌≤◌, ◌<◌}
use lib.Bits.{bit_or, or_lt}
use lib.ListN.{length}
use borrow.Author.Tests.{eqb-false}
use Rattle.record.specs.Below.{any}
use Rattle.record.specs.Members.{is_round, rounds, has, within}
use Rattle.record.specs.Refusals.{Verdict, no_refusal, number_of, first_no}
use Rattle.record.specs.declared.refusal.Refusal.TheVariants.{Round, MaskBits, Duplicate}
use Rattle.record.proofs.Booleans.{which, never, or_right, passed, failed}
use Rattle.record.proofs.Below.{any_intro, any_false}
use Rattle.record.proofs.Masks.{has_or, mask_ext, within_lt}
use Rattle.record.proofs.Rounds.{round_range}
use Rattle.record.proofs.Turn.{next, stop, done, both_yes, both_fronts}
use Rattle.replica.specs.Layout.{state_size}
use Rattle.replica.specs.State.{member_count, timeouts_mask}
use Rattle.replica.specs.Status.{state_questions}
use Rattle.replica.proofs.StatusLaws.{state_numbered, state_ok}
use Rattle.ordering.proofs.Turns.{state_stops, state_past, state_formed}
use Rattle.replica.proofs.Formed.{WellFormed, formed}
use Rattle.ordering.specs.Calls.{is_new, bundle_questions, bundle_refusal}

-- ---- who is new

-- nobody is where the timeouts already have the whole mask
none_new : (l : List ℕ) (r mask : ℕ) → bit_or (timeouts_mask l r) mask ≡ timeouts_mask l r → any (member_count l) (is_new l r mask) ≡ false
unfolding is_new
none_new l r mask e = any_false (member_count l) (is_new l r mask) (λ p h. go p (which (has mask p)))
  where
    go : (p : ℕ) → (has mask p ≡ true) ⊎ (has mask p ≡ false) → is_new l r mask p ≡ false
    go p (inl d) = rw (d, sym (ap (λ (x : ℕ). has x p) e) ∙ has_or (timeouts_mask l r) mask p ∙ or_right (has (timeouts_mask l r) p) d)
    go p (inr d) = rw d

-- and somebody is where not
some_new : (l : List ℕ) → WellFormed l → (r mask : ℕ) → 1 ≤ r → r ≤ rounds → mask < 2 ^ member_count l
    → (bit_or (timeouts_mask l r) mask ≡ timeouts_mask l r → ⊥) → any (member_count l) (is_new l r mask) ≡ true
unfolding is_new
some_new l S r mask low high small h = ⊎_elim (λ e. e) (λ e. absurd (h (same e))) (which (any (member_count l) (is_new l r mask)))
  where
    old_low : timeouts_mask l r < 2 ^ member_count l
    old_low = S.masks.timeouts_low r low high

    same : any (member_count l) (is_new l r mask) ≡ false → bit_or (timeouts_mask l r) mask ≡ timeouts_mask l r
    same e = mask_ext (member_count l) _ _ (or_lt (member_count l) _ _ old_low small) old_low (λ p k. has_or (timeouts_mask l r) mask p
        ∙ go p k (which (has mask p)) (which (has (timeouts_mask l r) p)))
      where
        go : (p : ℕ) → p < member_count l → (has mask p ≡ true) ⊎ (has mask p ≡ false)
            → (has (timeouts_mask l r) p ≡ true) ⊎ (has (timeouts_mask l r) p ≡ false)
            → (has (timeouts_mask l r) p || has mask p) ≡ has (timeouts_mask l r) p
        go p k (inl d) (inl c) = rw c
        go p k (inl d) (inr c) = never (any_intro (member_count l) (is_new l r mask) p k (rw (d, c))) e
        go p k (inr d) c = rw d (or-false (has (timeouts_mask l r) p))

-- ---- the questions

module _ (l : List ℕ) (r mask : ℕ) (why : Verdict) (e : why ≡ first_no (state_questions l)) where
  pub bundle_state : (number_of why ≡ 0 → ⊥) → why ≡ bundle_refusal l r mask
  bundle_state h = state_stops l why e _ h

  module _ (h : number_of why ≡ 0) where
    past : {s : Verdict} → s ≡ first_no (bundle_questions l r mask) → s ≡ bundle_refusal l r mask
    past d = state_past l why e _ h _ d

    S : WellFormed l
    S = state_formed l why e h

    pub bundle_size : length l ≡ state_size
    bundle_size = S.size

    -- a is the code's answer to 5, b to 7, and m the timeouts of the round
    module _ (a : Bool) (ea : a ≡ is_round r) where
      pub bundle_off : not a ≡ true → Err Round ≡ bundle_refusal l r mask
      bundle_off q = past (stop _ _ (failed ea q))

      module _ (pa : not a ≡ false) (b : Bool) (eb : b ≡ within (member_count l) mask) where
        pub bundle_wide : not b ≡ true → Err MaskBits ≡ bundle_refusal l r mask
        bundle_wide q = past (next _ _ (passed ea pa) (stop _ _ (failed eb q)))

        module _ (pb : not b ≡ false) (m : ℕ) (em : m ≡ timeouts_mask l r) where
          last : {s : Verdict} → s ≡ first_no ((any (member_count l) (is_new l r mask), Duplicate) ∷ []) → s ≡ bundle_refusal l r mask
          last d = past (next _ _ (passed ea pa) (next _ _ (passed eb pb) d))

          pub bundle_again : bit_or m mask ≡ m → Err Duplicate ≡ bundle_refusal l r mask
          bundle_again q = last (stop _ _ (none_new l r mask (rw em at q)))

          pub bundle_new : (bit_or m mask ≡ m → ⊥) → no_refusal ≡ bundle_refusal l r mask
          bundle_new q =
              let w = round_range r (passed ea pa) in
              last (next _ _ (some_new l S r mask w.0 w.1 (within_lt _ _ (passed eb pb)) (rw em at q)) done)

-- what is known of a bundle that no question stopped
pub record BundlePassed (l : List ℕ) (r mask : ℕ) : Type 0 where
  pub formed : WellFormed l
  pub low : 1 ≤ r
  pub high : r ≤ rounds
  pub small : mask < 2 ^ member_count l
  pub some : any (member_count l) (is_new l r mask) ≡ true

pub bundle_passed : (l : List ℕ) (r mask : ℕ) → number_of (bundle_refusal l r mask) ≡ 0 → BundlePassed l r mask
bundle_passed l r mask e =
    let a = both_fronts (state_questions l) (bundle_questions l r mask) (state_numbered l) e in
    let s = state_ok l a.0 in
    let q5 = both_yes _ _ _ (eqb-false 5 0 refl) a.1 in
    let q7 = both_yes _ _ _ (eqb-false 7 0 refl) q5.1 in
    let q12 = both_yes _ _ _ (eqb-false 12 0 refl) q7.1 in
    let w = round_range r q5.0 in
    record { formed = formed l s.0 s.1; low = w.0; high = w.1; small = within_lt _ _ q7.0; some = q12.0 }
