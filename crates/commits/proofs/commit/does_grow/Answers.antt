-- `does_grow` meets its contract. Assumes nothing.
use Rattle.commits.proofs.Repeating.{grow_none, grow_full, grow_asked}
use Rattle.replica.proofs.Width.{width_most}
use native.Mathlib.Omega.{arith}
use borrow.Author.Rules.{rules}
use Rattle.commits.proofs.commit.does_grow.Goals as goal

pub returns-then-committed-eq0 : goal.returns-then-committed-eq0
returns-then-committed-eq0 c = grow_none c.args.state.now _ c.requires.round c.if-committed-eq0.true

pub returns-then-width_of-place : goal.returns-then-width_of-place
returns-then-width_of-place c =
    let h = c.if-width_of-place.true in
    grow_full c.args.state.now _ _ c.requires.place c.width_of.ensures (omega arith)

pub is_backed-requires : goal.is_backed-requires
is_backed-requires c =
    let some = c.if-committed-eq0.false in
    let most = width_most c.args.state.now in
    let is = c.width_of.ensures in
    let h = c.if-width_of-place.false in
    let A = c.requires in
    record {
      standing = A.going.standing;
      members = A.members;
      low = omega arith;
      high = omega (arith, A.going.high, A.round);
      index = omega arith;
    }

pub returns : goal.returns
returns c =
    let h = c.if-width_of-place.false in
    let A = c.requires in
    grow_asked c.args.state.now _ _ _ _ _ A.members A.round A.place c.width_of.ensures c.if-committed-eq0.false (omega arith)
    c.is_backed.ensures

pub width_of-requires : goal.width_of-requires
width_of-requires c = let z = c.requires.going.standing.size in search rules
