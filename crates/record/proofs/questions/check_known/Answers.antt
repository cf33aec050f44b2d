-- Questions 4 to 6 are answered yes by what is required; each later test that passes leaves the questions after it, and one that fails gives its refusal.
use Rattle.record.specs.Questions.{masks_ok, signer_questions, record_questions}
use Rattle.record.specs.Handed.{handed_strong, handed_timeouts, handed_no_votes, handed_questions, handed_refusal}
use Rattle.record.specs.Layout.{strong_of, timeouts_of, no_votes_of}
use Rattle.record.specs.Refusals.{Verdict, first_no}
use Rattle.record.proofs.Parts.{strong_asked}
use Rattle.record.proofs.Turn.{next, stop, done, known}
use mathlib.Core.Path.{◌∙◌, sym, ◌≡◌}
use Prim.Native.Nat.{ℕ}
use lib.ListN.{drop}
use Rattle.record.proofs.questions.check_known.Goals as goal
use Rattle.record.proofs.questions.check_known.Goals.{After-masks_ok, After-no_votes_ok, After-quorum_if, After-strong_ok, Else-not-masks_ok}
use Rattle.record.proofs.questions.check_known.Goals.{Else-not-no_votes_ok, Else-not-quorum_if, Else-not-strong_ok, Start}

-- the questions from the one at k on decide
abbrev Left : Start → ℕ → Type 0
Left s k =
    (r : Verdict) → r ≡ first_no (drop k (handed_questions (s.args.terms.now.group.n) s.args.terms.now.group.quorum s.args.terms.now.round
    s.args.source (s.args.body.now)))
    → r ≡ handed_refusal (s.args.terms.now.group.n) s.args.terms.now.group.quorum s.args.terms.now.round s.args.source (s.args.body.now)

from_masks : (c : Start) → Left c 3
unfolding handed_questions record_questions signer_questions
from_masks c r = known _ _ _ c.args.body.now _ c.requires.round_low c.requires.round_high c.requires.source_low c.requires.size

-- what each test asks
masks : (c : After-masks_ok) → c.masks_ok.result ≡ masks_ok c.args.terms.now.group.n c.args.body.now
unfolding masks_ok strong_of timeouts_of no_votes_of
masks c = c.masks_ok.ensures

-- 7 is answered yes of the strong mask before 8 is asked
strong : (c : After-strong_ok) → c.strong_ok.result ≡ handed_strong c.args.terms.now.group.quorum c.args.terms.now.round (strong_of c.args.body.now)
unfolding strong_of
strong c =
    strong_asked _ _ _ _ _ (sym (masks (goal.at.After-strong_ok c).After-masks_ok) ∙ c.if-not-masks_ok.false) c.strong_ok.ensures

timeouts : (c : After-quorum_if) → c.quorum_if.result ≡ handed_timeouts c.args.terms.now.group.n c.args.terms.now.group.quorum c.args.terms.now.round
    c.args.body.now
unfolding handed_timeouts strong_of timeouts_of
timeouts c = cc

no_votes : (c : After-no_votes_ok) → c.no_votes_ok.result ≡ handed_no_votes c.args.terms.now.group.n c.args.terms.now.group.quorum
    c.args.terms.now.round c.args.source c.args.body.now
unfolding handed_no_votes strong_of no_votes_of
no_votes c =
    rw (c.lacks_leader-lack.ensures, c.args.terms.now.leader_is) at c.no_votes_ok.ensures

from_strong : (c : Else-not-masks_ok) → Left (goal.at.Else-not-masks_ok c).Start 4
unfolding handed_questions record_questions signer_questions
from_strong c r d =
    from_masks (goal.at.Else-not-masks_ok c).Start r (next _ _ (sym (masks (goal.at.Else-not-masks_ok c).After-masks_ok) ∙ c.if-not-masks_ok.false) d)

from_timeouts : (c : Else-not-strong_ok) → Left (goal.at.Else-not-strong_ok c).Start 5
unfolding handed_questions record_questions signer_questions
from_timeouts c r d =
    from_strong (goal.at.Else-not-strong_ok c).Else-not-masks_ok r
    (next _ _ (sym (strong (goal.at.Else-not-strong_ok c).After-strong_ok) ∙ c.if-not-strong_ok.false) d)

from_no_votes : (c : Else-not-quorum_if) → Left (goal.at.Else-not-quorum_if c).Start 6
unfolding handed_questions record_questions signer_questions
from_no_votes c r d =
    from_timeouts (goal.at.Else-not-quorum_if c).Else-not-strong_ok r
    (next _ _ (sym (timeouts (goal.at.Else-not-quorum_if c).After-quorum_if) ∙ c.if-not-quorum_if.false) d)

from_weak : (c : Else-not-no_votes_ok) → Left (goal.at.Else-not-no_votes_ok c).Start 7
unfolding handed_questions record_questions signer_questions
from_weak c r d =
    from_no_votes (goal.at.Else-not-no_votes_ok c).Else-not-quorum_if r
    (next _ _ (sym (no_votes (goal.at.Else-not-no_votes_ok c).After-no_votes_ok) ∙ c.if-not-no_votes_ok.false) d)

pub returns-then-not-masks_ok : goal.returns-then-not-masks_ok
unfolding handed_questions record_questions signer_questions
returns-then-not-masks_ok c =
    from_masks (goal.at.returns-then-not-masks_ok c).Start _
    (stop _ _ (sym (masks (goal.at.returns-then-not-masks_ok c).After-masks_ok) ∙ c.if-not-masks_ok.true))

pub returns-then-not-strong_ok : goal.returns-then-not-strong_ok
unfolding handed_questions record_questions signer_questions
returns-then-not-strong_ok c =
    from_strong (goal.at.returns-then-not-strong_ok c).Else-not-masks_ok _
    (stop _ _ (sym (strong (goal.at.returns-then-not-strong_ok c).After-strong_ok) ∙ c.if-not-strong_ok.true))

pub returns-then-not-quorum_if : goal.returns-then-not-quorum_if
unfolding handed_questions record_questions signer_questions
returns-then-not-quorum_if c =
    from_timeouts (goal.at.returns-then-not-quorum_if c).Else-not-strong_ok _
    (stop _ _ (sym (timeouts (goal.at.returns-then-not-quorum_if c).After-quorum_if) ∙ c.if-not-quorum_if.true))

pub returns-then-not-no_votes_ok : goal.returns-then-not-no_votes_ok
unfolding handed_questions record_questions signer_questions
returns-then-not-no_votes_ok c =
    from_no_votes (goal.at.returns-then-not-no_votes_ok c).Else-not-quorum_if _
    (stop _ _ (sym (no_votes (goal.at.returns-then-not-no_votes_ok c).After-no_votes_ok) ∙ c.if-not-no_votes_ok.true))

pub returns-then-not-weak_ok : goal.returns-then-not-weak_ok
unfolding handed_questions record_questions signer_questions
returns-then-not-weak_ok c = from_weak (goal.at.returns-then-not-weak_ok c).Else-not-no_votes_ok _ (stop _ _ (sym c.weak_ok.ensures ∙ c.if-not-weak_ok.true))

pub returns : goal.returns
unfolding handed_questions record_questions signer_questions
returns c = from_weak (goal.at.returns c).Else-not-no_votes_ok _ (next _ _ (sym c.weak_ok.ensures ∙ c.if-not-weak_ok.false) done)
