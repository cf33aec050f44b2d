-- `check_first` meets its contract. Assumes nothing.
use Rattle.ordering.proofs.Turns.{record_stops, RecordKnown, record_known, heard_before, heard_first}
use Rattle.replica.specs.State.{heard_mask}
use Rattle.record.specs.Members.{has}
use Rattle.record.specs.Layout.{round_of, source_of}
use Rattle.record.proofs.Masks.{legal_range}
use Rattle.record.specs.Refusals.{Question}
use Rattle.record.specs.declared.refusal.Refusal.TheVariants.{Duplicate}
use mathlib.Core.Path.{◌≡◌, sym, ap, ◌∙◌}
use mathlib.Core.Bool.{not}
use mathlib.Core.List.{List, [], ◌∷◌}
use Prim.Native.Nat.{ℕ}
use borrow.Author.Rules.{rules}
use Rattle.record.proofs.Turn.{raised, was_err, was_ok}
use Rattle.ordering.proofs.first.check_first.Goals as goal
use Rattle.ordering.proofs.first.check_first.Goals.{After-has_bit, In_ok-check, Start}

abbrev rest : Start → List Question
rest s = (not (has (heard_mask (s.args.state.now) (round_of (s.args.rec.now))) (source_of (s.args.rec.now))), Duplicate) ∷ []

-- the record's questions are passed
known : (c : In_ok-check) → let s : Start = (goal.at.In_ok-check c).Start in RecordKnown c.args.group.n c.args.rec.now (rest s)
known c = record_known _ _ _ _ c.check.ensures (was_ok c.in_ok-check.was)

pub returns-in_err-check : goal.returns-in_err-check
returns-in_err-check c =
    let s : Start = (goal.at.returns-in_err-check c).Start in
    raised _ c.from_residual.ensures.1 ∙ sym c.in_err-check.was
    ∙ record_stops c.args.group.n c.args.rec.now (rest s) _ c.check.ensures (was_err c.in_err-check.was)

pub bounds-rec-0 : goal.bounds-rec-0
bounds-rec-0 c = let k = known (goal.at.bounds-rec-0 c).In_ok-check in search rules

pub mask_of-requires : goal.mask_of-requires
mask_of-requires c = let k = known (goal.at.mask_of-requires c).In_ok-check in search rules

pub bounds-rec-1 : goal.bounds-rec-1
bounds-rec-1 c = let k = known (goal.at.bounds-rec-1 c).In_ok-check in search rules

pub has_bit-requires : goal.has_bit-requires
has_bit-requires c = let g = legal_range _ c.requires.1 in let k = known (goal.at.has_bit-requires c).In_ok-check in search rules

-- what question 12 finds in the heard mask
heard : (c : After-has_bit) → c.has_bit.result ≡ has (heard_mask c.args.state.now (round_of c.args.rec.now)) (source_of c.args.rec.now)
heard c = c.has_bit.ensures ∙ ap (λ (x : ℕ). has x (source_of c.args.rec.now)) c.mask_of.ensures

pub returns-then-has_bit : goal.returns-then-has_bit
returns-then-has_bit c =
    (known (goal.at.returns-then-has_bit c).In_ok-check).last _
    (heard_before _ _ (sym (heard (goal.at.returns-then-has_bit c).After-has_bit) ∙ c.if-has_bit.true))

pub returns : goal.returns
returns c = (known (goal.at.returns c).In_ok-check).last _ (heard_first _ _ (sym (heard (goal.at.returns c).After-has_bit) ∙ c.if-has_bit.false))
