-- The five parts of the test: `well_parts` of `Clauses` and its cases.
use borrow.Author.Rules.{rules}
use Rattle.replica.proofs.Clauses.{head_no, body_no, leaders_no, journal_no, rest_decides, head_legal, body_masks, leaders_few, journal_few}
use Rattle.replica.proofs.wellformed.is_well_formed.Goals as goal

pub journal_ok-requires : goal.journal_ok-requires
journal_ok-requires c =
    record { size = search rules; group = search head_legal; masks = body_masks _ _ c.body_ok.ensures (search) }

pub rest_zero-requires : goal.rest_zero-requires
rest_zero-requires c =
    (search rules, leaders_few _ _ c.leaders_ok.ensures (search), journal_few _ _ c.journal_ok.ensures (search))

pub returns-then-not-head_ok : goal.returns-then-not-head_ok
returns-then-not-head_ok c = search head_no

pub body_ok-requires : goal.body_ok-requires
body_ok-requires c = search head_legal

pub returns-then-not-body_ok : goal.returns-then-not-body_ok
returns-then-not-body_ok c = search body_no

pub leaders_ok-requires : goal.leaders_ok-requires
leaders_ok-requires c = search head_legal

pub returns-then-not-leaders_ok : goal.returns-then-not-leaders_ok
returns-then-not-leaders_ok c = search leaders_no

pub returns-then-not-journal_ok : goal.returns-then-not-journal_ok
returns-then-not-journal_ok c = search journal_no

pub returns : goal.returns
returns c = search rest_decides
