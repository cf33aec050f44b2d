-- `made_early` and `made_late` of `Offering`.
use mathlib.Core.Path.{◌≡◌}
use lib.ListN.{length}
use Rattle.record.specs.Layout.{digest_size}
use Rattle.proposing.proofs.Offering.{digest_size_lem, stands, made_early, made_late}
use borrow.Author.Rules.{rules}
use Rattle.proposing.proofs.making.record_of.Goals as goal
use Rattle.proposing.proofs.making.record_of.Goals.{After-plain_record-words}

-- the digest has eight words, since the record that it stands in has its size by type
eight : (c : After-plain_record-words) → length c.args.digest.now ≡ digest_size
eight c =
    digest_size_lem _ _ _ _ _ c.args.digest.now _ c.plain_record-words.ensures c.plain_record-words.type_inv.1.0.1

pub reach_of-reached-requires : goal.reach_of-reached-requires
reach_of-reached-requires c =
    let z = stands _ _ _ c.requires in
    let m = c.requires.opened.members in
    let h = c.requires.high in
    search rules

pub bounds-state-5 : goal.bounds-state-5
bounds-state-5 c = let z = c.requires.opened.size in search rules

pub overflow_sub-state : goal.overflow_sub-state
overflow_sub-state c = let z = c.requires.opened.own in search rules

pub returns-then-round-lt3 : goal.returns-then-round-lt3
returns-then-round-lt3 c = let z = eight (goal.at.returns-then-round-lt3 c).After-plain_record-words in search made_early

pub returns : goal.returns
returns c = let z = eight (goal.at.returns c).After-plain_record-words in search made_late
