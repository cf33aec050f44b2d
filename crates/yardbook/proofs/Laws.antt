-- An answer as plain numbers, and the two cases of a hand-over. Assumes nothing.
use Rattle.std.specs.Prelude.{Result}
use mathlib.Core.Path.{◌≡◌, sym, ap, ◌∙◌}
use mathlib.Core.List.{List}
use Prim.Native.Nat.{ℕ, ◌+◌, ◌-◌, ◌≤◌}
use lib.ListN.{length, get_or}
use Rattle.replica.specs.Outcome.{Outcome, told}
use Rattle.replica.specs.Lists.{ask_list, hand_list}
use Rattle.replica.proofs.ListLaws.{list_ok, counted, span_none, span_some}
use Rattle.record.specs.declared.refusal.Refusal.{Refusal}
use Rattle.replica.specs.declared.answer.Added.{Added}
use Rattle.pending.specs.Early.{Ending, told_with}
use Rattle.proposing.specs.Making.{Proposed, told_proposal}
use Rattle.yardbook.specs.Plain.{plain, plain_with, plain_of, proposed, proposal_plain}
use Rattle.yardbook.specs.declared.answer.Answer.{Answer}
use Rattle.yardbook.specs.declared.answer.Proposal.{Proposal}
use Rattle.replica.specs.Layout.{state_size, journal_size, leader_count_at, journal_count_at}

-- an answer turned into plain numbers says the same outcome
pub answered : (a : Result Added Refusal) (r : Answer) (l : List ℕ) (o : Outcome) → r ≡ plain_of a → told a l ≡ o → plain r l ≡ o
answered a r l o e d = ap (λ (x : Answer). plain x l) e ∙ d

-- so its number is the outcome's
pub numbered : (a : Result Added Refusal) (r : Answer) (l : List ℕ) (o : Outcome) → r ≡ plain_of a → told a l ≡ o → r.number ≡ o.number
numbered a r l o e d = ap (λ (x : Outcome). x.number) (answered a r l o e d)

-- so with a pending buffer
pub answered_with : (a : Result Added Refusal) (r : Answer) (l s : List ℕ) (e : Ending) → r ≡ plain_of a → told_with a l s ≡ e → plain_with r l s ≡ e
answered_with a r l s e d f = ap (λ (x : Answer). plain_with x l s) d ∙ f

-- so for a proposal
pub answered_proposal : (p : Result (List ℕ) Refusal) (r : Proposal) (l : List ℕ) (o : Proposed) → r ≡ proposal_plain p → told_proposal p l ≡ o
    → proposed r l ≡ o
answered_proposal p r l o e d = ap (λ (x : Proposal). proposed x l) e ∙ d

-- what is known of a list that is handed over
pub record HandKnown (l : List ℕ) (k first count : ℕ) : Type 0 where
  pub size : length l ≡ state_size
  pub from : k ≤ count
  pub few : count ≤ journal_size
  pub given : record { number = 0; start = first + k; length = count - k } ≡ hand_list l k first count

module _ (l : List ℕ) (k number first c : ℕ) (e : number ≡ (ask_list l k (get_or l c 0)).number) (from : leader_count_at ≤ c) (to : c ≤ journal_count_at) where
  -- no words
  pub part_none : (number ≡ 0 → ⊥) → record { number = number; start = 0; length = 0 } ≡ hand_list l k first (get_or l c 0)
  part_none h =
      ap (λ (x : ℕ). record { number = x; start = 0; length = 0 }) e
      ∙ sym (span_none _ first k (get_or l c 0) (λ z. h (e ∙ z)))

  -- the entries
  pub part_known : number ≡ 0 → HandKnown l k first (get_or l c 0)
  part_known z =
      let w = list_ok l k (get_or l c 0) (sym e ∙ z) in
      record {
        size = w.0;
        from = w.2;
        few = counted l c from to w.1;
        given = sym (span_some _ first k (get_or l c 0) (sym e ∙ z));
      }
