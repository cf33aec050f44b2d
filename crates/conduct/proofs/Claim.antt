-- The conduct claim: along a list of calls a round that is marked stays so, and what the marks forbid is refused. Assumes nothing.
use mathlib.Core.Path.{◌≡◌, refl, sym, ap, ap₂, ◌∙◌}
use mathlib.Core.Bool.{true, false, cond, ◌||◌}
use mathlib.Core.Logic.{⊎_elim}
use mathlib.Core.List.Memᴰ
use mathlib.Core.List.{List, [], ◌∷◌, Memᴰ}
use Prim.Native.Nat.{ℕ, ◌+◌, ◌-◌, ◌≤◌}
use native.Mathlib.Omega.{arith}
use lib.Dec.{eqb}
use borrow.Author.Tests.{eqb-true, ne_eqb}
use Rattle.record.specs.Members.{is_round}
use Rattle.record.specs.Layout.{round_of, body_of}
use Rattle.record.proofs.Booleans.{which, never, and_left, and_right, cond_true, cond_false}
use Rattle.record.proofs.Rounds.{round_range}
use Rattle.protocol.specs.Dag.{votes}
use Rattle.protocol.specs.Journal.{among}
use Rattle.replica.specs.State.{member_count, current_round}
use Rattle.replica.specs.Opening.{open_state}
use Rattle.replica.proofs.Formed.{WellFormed}
use Rattle.replica.proofs.Opened.{opened_formed, opened_members}
use Rattle.proposing.specs.Own.{marks_round, was_made, was_signed}
use Rattle.proposing.specs.Signing.{signing_round}
use Rattle.proposing.specs.Claims.{Passes}
use Rattle.runs.specs.Call.{Call, outcome_of, allowed, all_allowed}
use Rattle.runs.proofs.Asked.{open_yes}
use Rattle.runs.proofs.Short.{formed_after}
use Rattle.runs.proofs.Own.{OwnKept, own_kept}
use Rattle.pending.specs.Buffer.{In}
use Rattle.conduct.specs.Made.{Made, all_made, rounds_signed, made_records}
use Rattle.conduct.specs.Claim.{of_round, ConductClaim}
use Rattle.conduct.proofs.Steps.{Did, neither, made, signed, did, all_made_lem, made_records_lem, all_signed}

-- a formed state of n members
pub record Ready (n : ℕ) (l : List ℕ) : Type 0 where
  pub formed : WellFormed l
  pub members : member_count l ≡ n

-- ---- the state after the first call

module _ (n : ℕ) (c : Call) (calls : List Call) (l : List ℕ) (R : Ready n l) (ok : all_allowed (c ∷ calls) ≡ true) where
  -- the own words
  after_own : OwnKept c l (outcome_of c l).words
  unfolding all_allowed
  after_own = own_kept l R.formed c (and_left (allowed c) _ ok)

  -- the other calls are allowed
  after_allowed : all_allowed calls ≡ true
  unfolding all_allowed
  after_allowed = and_right (allowed c) _ ok

  -- it is ready for them
  after_ready : Ready n (outcome_of c l).words
  after_ready = record { formed = formed_after l R.formed c; members = after_own.members ∙ R.members }

-- without calls there is no record
none_made : (l : List ℕ) (m : Made) → Memᴰ m (all_made l []) → ⊥
unfolding all_made
none_made l m i = Memᴰ.not-nil i

no_record_lem : (l x : List ℕ) → In x (made_records l []) → ⊥
unfolding all_made
no_record_lem l x i = Memᴰ.not-nil i

-- a number in front that is another one
among_other : (x y : ℕ) (l : List ℕ) → (x ≡ y → ⊥) → among l y ≡ false → among (x ∷ l) y ≡ false
unfolding among
among_other x y l d e = ap₂ ◌||◌ (ne_eqb x y d) e

-- ---- one record of a round

-- the records of a round, with one more
of_more : (r : ℕ) (x : List ℕ) (l : List (List ℕ)) → of_round r (x ∷ l) ≡ cond (eqb (round_of x) r) 1 0 + of_round r l
unfolding of_round
of_more r x l = refl

-- one that is of another round
of_other : (r : ℕ) (x : List ℕ) (l : List (List ℕ)) → eqb (round_of x) r ≡ false → of_round r (x ∷ l) ≡ of_round r l
of_other r x l e = of_more r x l ∙ ap (λ (k : ℕ). k + of_round r l) (cond_false 1 0 e) ∙ omega arith

-- no fewer than without it
pub of_most : (r : ℕ) (x : List ℕ) (l : List (List ℕ)) → of_round r l ≤ of_round r (x ∷ l)
of_most r x l = omega (arith, of_more r x l)

-- one that is of that round
pub of_same : (r : ℕ) (x : List ℕ) (l : List (List ℕ)) → eqb (round_of x) r ≡ true → of_round r (x ∷ l) ≡ 1 + of_round r l
of_same r x l e = of_more r x l ∙ ap (λ (k : ℕ). k + of_round r l) (cond_true 1 0 e)

module _ (n : ℕ) where
  -- none is made for a round that is marked
  marked_made : (calls : List Call) (l : List ℕ) → Ready n l → all_allowed calls ≡ true → (r : ℕ) → was_made l r ≡ true → of_round r (made_records l calls) ≡ 0
  marked_made [] l R ok r h = unfold all_made of_round in refl
  marked_made (c ∷ calls) l R ok r h = go (did l R.formed c)
      (marked_made calls (outcome_of c l).words (after_ready n c calls l R ok) (after_allowed n c calls l R ok) r
      ((after_own n c calls l R ok).made_more r h))
    where
      go : Did c l → of_round r (made_records (outcome_of c l).words calls) ≡ 0 → of_round r (made_records l (c ∷ calls)) ≡ 0
      go (neither e d) ih = ap (of_round r) (made_records_lem c calls l e) ∙ ih
      go (signed s) ih = ap (of_round r) (made_records_lem c calls l s.makes) ∙ ih
      go (made m) ih =
          ap (of_round r) (made_records_lem c calls l m.makes)
          ∙ of_other r m.words (made_records (outcome_of c l).words calls) (ne_eqb (round_of m.words) r (λ d. never h (other d))) ∙ ih
        where
          other : round_of m.words ≡ r → was_made l r ≡ false
          other d = ap (was_made l) (sym d ∙ m.round) ∙ m.new

  -- so at most one for any
  pub one_of_round : (calls : List Call) (l : List ℕ) → Ready n l → all_allowed calls ≡ true → (r : ℕ) → of_round r (made_records l calls) ≤ 1
  one_of_round [] l R ok r = unfold all_made of_round in omega arith
  one_of_round (c ∷ calls) l R ok r = go (did l R.formed c)
      (one_of_round calls (outcome_of c l).words (after_ready n c calls l R ok) (after_allowed n c calls l R ok) r)
      (marked_made calls (outcome_of c l).words (after_ready n c calls l R ok) (after_allowed n c calls l R ok) r)
    where
      go : Did c l → of_round r (made_records (outcome_of c l).words calls) ≤ 1
          → (was_made (outcome_of c l).words r ≡ true → of_round r (made_records (outcome_of c l).words calls) ≡ 0)
          → of_round r (made_records l (c ∷ calls)) ≤ 1
      go (neither e d) ih none = rw (made_records_lem c calls l e) ih
      go (signed s) ih none = rw (made_records_lem c calls l s.makes) ih
      go (made m) ih none = rw (made_records_lem c calls l m.makes) (⊎_elim here there (which (eqb (round_of m.words) r)))
        where
          rest : List (List ℕ)
          rest = made_records (outcome_of c l).words calls

          here : eqb (round_of m.words) r ≡ true → of_round r (m.words ∷ rest) ≤ 1
          here e = omega (
            arith,
            of_same r m.words rest e,
            none (ap (was_made (outcome_of c l).words) (sym (eqb-true (round_of m.words) r e) ∙ m.round) ∙ m.marked),
          )

          there : eqb (round_of m.words) r ≡ false → of_round r (m.words ∷ rest) ≤ 1
          there e = omega (arith, of_other r m.words rest e)

  -- ---- a vote or a no-vote

  -- no no-vote is signed for the round before one that is marked as made
  marked_signed : (calls : List Call) (l : List ℕ) → Ready n l → all_allowed calls ≡ true → (r : ℕ) → was_made l r ≡ true
      → among (rounds_signed l calls) (r - 1) ≡ false
  marked_signed [] l R ok r h = unfold rounds_signed among in refl
  marked_signed (c ∷ calls) l R ok r h = go (did l R.formed c)
      (marked_signed calls (outcome_of c l).words (after_ready n c calls l R ok) (after_allowed n c calls l R ok) r
      ((after_own n c calls l R ok).made_more r h))
    where
      low : 1 ≤ r
      low = (round_range r (unfold marks_round in and_left (is_round r) _ h)).0

      go : Did c l → among (rounds_signed (outcome_of c l).words calls) (r - 1) ≡ false → among (rounds_signed l (c ∷ calls)) (r - 1) ≡ false
      go (neither e d) ih = ap (λ (x : List ℕ). among x (r - 1)) (all_signed c calls l d) ∙ ih
      go (made m) ih = ap (λ (x : List ℕ). among x (r - 1)) (all_signed c calls l m.signs) ∙ ih
      go (signed s) ih = ap (λ (x : List ℕ). among x (r - 1)) (all_signed c calls l s.signs) ∙ among_other (signing_round l) (r - 1) _ apart ih
        where
          apart : signing_round l ≡ r - 1 → ⊥
          apart d = let e : r ≡ current_round l = omega (arith, s.later) in never h (ap (was_made l) e ∙ s.unmade)

  -- where a no-vote was signed for a round, no record of the next votes for its leader
  signed_against : (calls : List Call) (l : List ℕ) → Ready n l → all_allowed calls ≡ true → (x : List ℕ) → In x (made_records l calls)
      → was_signed l (round_of x - 1) ≡ true → votes n (round_of x - 1) 0 (body_of x) ≡ false
  signed_against [] l R ok x i h = absurd (no_record_lem l x i)
  signed_against (c ∷ calls) l R ok x i h = go (did l R.formed c)
      (λ j. signed_against calls (outcome_of c l).words (after_ready n c calls l R ok) (after_allowed n c calls l R ok) x j
      ((after_own n c calls l R ok).signed_more (round_of x - 1) h))
    where
      go : Did c l → (In x (made_records (outcome_of c l).words calls) → votes n (round_of x - 1) 0 (body_of x) ≡ false)
          → votes n (round_of x - 1) 0 (body_of x) ≡ false
      go (neither e d) ih = ih (rw (made_records_lem c calls l e) at i)
      go (signed s) ih = ih (rw (made_records_lem c calls l s.makes) at i)
      go (made m) ih = ⊎_elim here ih (Memᴰ.cases_cons (rw (made_records_lem c calls l m.makes) at i))
        where
          here : x ≡ m.words → votes n (round_of x - 1) 0 (body_of x) ≡ false
          here e =
              let d : round_of x ≡ current_round l = ap round_of e ∙ m.round in
              rw (d, e, ← R.members) (m.against (rw d at h))

  -- so never both
  pub never_both : (calls : List Call) (l : List ℕ) → Ready n l → all_allowed calls ≡ true → (x : List ℕ) → In x (made_records l calls)
      → votes n (round_of x - 1) 0 (body_of x) ≡ true → among (rounds_signed l calls) (round_of x - 1) ≡ false
  never_both [] l R ok x i v = absurd (no_record_lem l x i)
  never_both (c ∷ calls) l R ok x i v = go (did l R.formed c)
      (λ j. never_both calls (outcome_of c l).words (after_ready n c calls l R ok) (after_allowed n c calls l R ok) x j v)
    where
      go : Did c l → (In x (made_records (outcome_of c l).words calls) → among (rounds_signed (outcome_of c l).words calls) (round_of x - 1) ≡ false)
          → among (rounds_signed l (c ∷ calls)) (round_of x - 1) ≡ false
      go (neither e d) ih = ap (λ (y : List ℕ). among y (round_of x - 1)) (all_signed c calls l d) ∙ ih (rw (made_records_lem c calls l e) at i)
      go (made m) ih = ap (λ (y : List ℕ). among y (round_of x - 1)) (all_signed c calls l m.signs)
          ∙ ⊎_elim here ih (Memᴰ.cases_cons (rw (made_records_lem c calls l m.makes) at i))
        where
          here : x ≡ m.words → among (rounds_signed (outcome_of c l).words calls) (round_of x - 1) ≡ false
          here e = marked_signed calls (outcome_of c l).words (after_ready n c calls l R ok) (after_allowed n c calls l R ok) (round_of x)
              (ap (was_made (outcome_of c l).words) (ap round_of e ∙ m.round) ∙ m.marked)
      go (signed s) ih = ap (λ (y : List ℕ). among y (round_of x - 1)) (all_signed c calls l s.signs)
          ∙ among_other (signing_round l) (round_of x - 1) _ apart (ih j)
        where
          j : In x (made_records (outcome_of c l).words calls)
          j = rw (made_records_lem c calls l s.makes) at i

          apart : signing_round l ≡ round_of x - 1 → ⊥
          apart d = never v (signed_against calls (outcome_of c l).words (after_ready n c calls l R ok) (after_allowed n c calls l R ok) x j
              (ap (was_signed (outcome_of c l).words) (sym d) ∙ s.marked))

  -- ---- the questions

  -- every made record passes them
  all_pass : (calls : List Call) (l : List ℕ) → Ready n l → all_allowed calls ≡ true → (m : Made) → Memᴰ m (all_made l calls)
      → Passes m.state m.words
  all_pass [] l R ok x i = absurd (none_made l x i)
  all_pass (c ∷ calls) l R ok x i = go (did l R.formed c)
      (λ j. all_pass calls (outcome_of c l).words (after_ready n c calls l R ok) (after_allowed n c calls l R ok) x j)
    where
      go : Did c l → (Memᴰ x (all_made (outcome_of c l).words calls) → Passes x.state x.words) → Passes x.state x.words
      go (neither e d) ih = ih (rw (all_made_lem c calls l e) at i)
      go (signed s) ih = ih (rw (all_made_lem c calls l s.makes) at i)
      go (made m) ih = ⊎_elim (λ e. rw e m.passes) ih (Memᴰ.cases_cons (rw (all_made_lem c calls l m.makes) at i))

-- a state opened with answer 0 is ready
pub opened_ready : (n own : ℕ) (u : List ℕ) → (open_state u n own).number ≡ 0 → Ready n (open_state u n own).words
opened_ready n own u e =
    let w = open_yes u n own e in
    rw w.2 (record { formed = opened_formed n own w.0 w.1; members = opened_members n own })

-- THE CLAIM
pub conduct : ConductClaim
conduct n own u e calls ok =
    let R = opened_ready n own u e in
    let l = (open_state u n own).words in
    record { one_record = one_of_round n calls l R ok; no_both = never_both n calls l R ok; passing = all_pass n calls l R ok }
