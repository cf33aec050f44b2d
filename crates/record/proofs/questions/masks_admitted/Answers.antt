-- `masks_strong`, `masks_lacking` and `masks_full` of `Parts`.
use Rattle.record.specs.Questions.{lacks_leader}
use Rattle.record.specs.Handed.{handed_strong}
use Rattle.record.specs.Layout.{strong_of, timeouts_of, no_votes_of}
use Rattle.record.specs.Members.{within}
use Rattle.record.specs.Inner.{masks_admitted}
use Rattle.record.proofs.Parts.{lacks_largest, masks_strong, masks_lacking, masks_full}
use mathlib.Core.Path.{◌≡◌, sym, ◌∙◌}
use mathlib.Core.Bool.{true, ◌&&◌}
use lib.Bits.{bit_or}
use lib.Dec.{eqb}
use Rattle.record.proofs.questions.masks_admitted.Goals as goal
use Rattle.record.proofs.questions.masks_admitted.Goals.{Else-lacks_leader, Else-not-strong_ok, Then-lacks_leader}

strong : (c : Else-not-strong_ok) → let a = c.args in
    (within a.terms.now.group.n (strong_of a.body.now) && handed_strong a.terms.now.group.quorum a.terms.now.round (strong_of a.body.now)) ≡ true
unfolding strong_of
strong c = sym c.strong_ok.ensures ∙ c.if-not-strong_ok.false

-- the mask has the previous leader
full : (c : Else-lacks_leader) → let a = c.args in masks_admitted a.terms.now.group.n a.terms.now.group.quorum a.terms.now.round a.source a.body.now
    ≡ eqb (bit_or (timeouts_of a.body.now) (no_votes_of a.body.now)) 0
unfolding strong_of
full c = masks_full _ _ _ _ _ (strong (goal.at.Else-lacks_leader c).Else-not-strong_ok) (cc)

pub returns-then-not-strong_ok : goal.returns-then-not-strong_ok
unfolding strong_of
returns-then-not-strong_ok c = sym (masks_strong _ _ _ _ _ (sym c.strong_ok.ensures ∙ c.if-not-strong_ok.true))

-- it lacks that leader
lacks : (c : Then-lacks_leader) → let a = c.args in lacks_leader a.terms.now.group.n a.terms.now.round (strong_of a.body.now) ≡ true
unfolding strong_of
lacks c = sym c.lacks_leader.ensures ∙ c.if-lacks_leader.true

pub certificates_ok-requires : goal.certificates_ok-requires
certificates_ok-requires c = lacks_largest _ _ _ _ c.args.terms.now.largest_is (lacks c)

pub returns-then-lacks_leader : goal.returns-then-lacks_leader
unfolding strong_of timeouts_of no_votes_of
returns-then-lacks_leader c =
    rw (c.args.terms.now.leader_is) at c.certificates_ok.ensures
    ∙ masks_lacking _ _ _ _ _ (strong (goal.at.returns-then-lacks_leader c).Else-not-strong_ok) (lacks (goal.at.returns-then-lacks_leader c).Then-lacks_leader)

pub returns : goal.returns
unfolding strong_of timeouts_of no_votes_of
returns c = sym (full c)
