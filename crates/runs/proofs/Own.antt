-- Which calls change which own word: making word 6, signing word 7, and either only gains marks. Assumes nothing.
use mathlib.Core.Path.{◌≡◌, refl, ap, ◌∙◌}
use mathlib.Core.Bool.{true}
use mathlib.Core.List.{List}
use Prim.Native.Nat.{ℕ}
use native.Mathlib.Omega.{arith}
use borrow.Author.Tests.{not-true}
use Rattle.record.specs.Members.{add}
use Rattle.record.specs.Layout.{round_of, source_of, body_of, Digest}
use Rattle.replica.specs.Layout.{member_count_at, own_at, made_at, signed_at}
use Rattle.replica.specs.State.{member_count, current_round, own_word, made_rounds, signed_rounds}
use Rattle.replica.proofs.Formed.{WellFormed}
use Rattle.replica.proofs.Keeping.{Keeps, keeps_refl, keeps_trans}
use Rattle.ordering.proofs.Turns.{outcome_words}
use Rattle.ordering.proofs.Own.{Fixed, fixed_members, fixed_own, vertex_fixed, first_fixed, timeout_fixed, no_vote_fixed, bundle_fixed}
use Rattle.pending.proofs.Claims.{with_keeps}
use Rattle.proposing.specs.Own.{marks_round, was_made, was_signed, mark_round}
use Rattle.proposing.specs.Making.{propose_vertex}
use Rattle.proposing.specs.Signing.{signing_round, put_own_no_vote, sign_no_vote}
use Rattle.proposing.proofs.Kept.{marks_more, mark_here, mark_other, signed_here, signed_other}
use Rattle.runs.specs.Call.{Call, opening, vertex, vertex_with, first_message, timeout, no_vote, bundle, status, ask_leader_list, ask_journal_list}
use Rattle.runs.specs.Call.{hand_leader_list, hand_journal_list, making, signing, outcome_of, allowed}
use Rattle.runs.proofs.Asked.{open_no}

-- the words k that the call c leaves of the words l
pub record OwnKept (c : Call) (l k : List ℕ) : Type 0 where
  -- the member count and the own member stay
  pub members : member_count k ≡ member_count l
  pub own : own_word k ≡ own_word l
  -- only making changes word 6, and only signing word 7
  pub made : ((digest : Digest) → c ≡ making digest → ⊥) → made_rounds k ≡ made_rounds l
  pub signed : (c ≡ signing → ⊥) → signed_rounds k ≡ signed_rounds l
  -- and no mark is lost
  pub made_more : (r : ℕ) → was_made l r ≡ true → was_made k r ≡ true
  pub signed_more : (r : ℕ) → was_signed l r ≡ true → was_signed k r ≡ true

-- no mark is lost in a word that stays
stays : {k l : ℕ} → k ≡ l → (r : ℕ) → marks_round l r ≡ true → marks_round k r ≡ true
stays e r h = ap (λ (x : ℕ). marks_round x r) e ∙ h

-- nor in one that gains a mark
gains : (l i : ℕ) {k : ℕ} → k ≡ add l i → (r : ℕ) → marks_round l r ≡ true → marks_round k r ≡ true
gains l i e r h = ap (λ (x : ℕ). marks_round x r) e ∙ marks_more l i r h

-- a call that changes no own word
all_kept : (c : Call) (l k : List ℕ) → Keeps Fixed l k → OwnKept c l k
all_kept c l k p =
    let made : made_rounds k ≡ made_rounds l = p.same made_at (fixed_own made_at (omega arith) (omega arith)) in
    let signed : signed_rounds k ≡ signed_rounds l = p.same signed_at (fixed_own signed_at (omega arith) (omega arith)) in
    record {
      members = p.same member_count_at fixed_members;
      own = p.same own_at (fixed_own own_at (omega arith) (omega arith));
      made = λ h. made;
      signed = λ h. signed;
      made_more = stays made;
      signed_more = stays signed;
    }

-- one that changes nothing
none_changed : (c : Call) (l : List ℕ) → OwnKept c l l
none_changed c l = all_kept c l l (keeps_refl Fixed l)

module _ (l : List ℕ) (S : WellFormed l) where
  -- a record that is made
  kept_made : (digest : Digest) → OwnKept (making digest) l (mark_round l made_at (current_round l))
  kept_made digest =
      let at = mark_other l made_at (current_round l) in
      let signed : signed_rounds (mark_round l made_at (current_round l)) ≡ signed_rounds l = at signed_at (λ e. omega arith) in
      record {
        members = at member_count_at (λ e. omega arith);
        own = at own_at (λ e. omega arith);
        made = λ h. absurd (h digest refl);
        signed = λ h. signed;
        made_more = gains (made_rounds l) _ (mark_here l made_at (current_round l) (omega (arith, S.size)));
        signed_more = stays signed;
      }

  -- a no-vote that is signed
  kept_signed : OwnKept signing l (put_own_no_vote l (signing_round l))
  kept_signed =
      let at = signed_other l (signing_round l) in
      let made : made_rounds (put_own_no_vote l (signing_round l)) ≡ made_rounds l = at made_at (omega arith) (λ e. omega arith) in
      record {
        members = at member_count_at (omega arith) (λ e. omega arith);
        own = at own_at (omega arith) (λ e. omega arith);
        made = λ h. made;
        signed = λ h. absurd (h refl);
        made_more = stays made;
        signed_more = gains (signed_rounds l) _ (signed_here l (signing_round l) (omega (arith, S.size)));
      }

  -- Every allowed call.
  pub own_kept : (c : Call) → allowed c ≡ true → OwnKept c l (outcome_of c l).words
  unfolding propose_vertex sign_no_vote
  own_kept (opening n own) ok = rw (open_no l n own (not-true _ ok)) (none_changed (opening n own) l)
  own_kept (vertex rec) ok = all_kept (vertex rec) l _ (vertex_fixed l S _ _ _)
  own_kept (vertex_with s rec) ok = all_kept (vertex_with s rec) l _ (with_keeps (Keeps Fixed l)
      (λ k x T h. keeps_trans Fixed l k _ h (vertex_fixed k T (round_of x) (source_of x) (body_of x))) l s rec (keeps_refl Fixed l))
  own_kept (first_message rec) ok = all_kept (first_message rec) l _ (first_fixed l S _ _ _)
  own_kept (timeout r p) ok = all_kept (timeout r p) l _ (timeout_fixed l r p)
  own_kept (no_vote r p) ok = all_kept (no_vote r p) l _ (no_vote_fixed l r p)
  own_kept (bundle r mask) ok = all_kept (bundle r mask) l _ (bundle_fixed l r mask)
  own_kept status ok = none_changed status l
  own_kept (ask_leader_list k) ok = none_changed (ask_leader_list k) l
  own_kept (ask_journal_list k) ok = none_changed (ask_journal_list k) l
  own_kept (hand_leader_list k) ok = none_changed (hand_leader_list k) l
  own_kept (hand_journal_list k) ok = none_changed (hand_journal_list k) l
  own_kept (making digest) ok = outcome_words (OwnKept (making digest) l) _ l _ (none_changed (making digest) l) (λ e. kept_made digest)
  own_kept signing ok = outcome_words (OwnKept signing l) _ l _ (none_changed signing l) (λ e. kept_signed)
