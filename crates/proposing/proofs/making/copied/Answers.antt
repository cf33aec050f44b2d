use Rattle.std.specs.Prelude.{Some}
use mathlib.Core.Path.{◌≡◌, ap, sym, ◌∙◌}
use mathlib.Core.Bool.{true, false}
use Prim.Native.Nat.{◌≤◌}
use Rattle.record.proofs.Booleans.{cond_true, cond_false}
use borrow.Author.Rules.{rules}
use Rattle.proposing.proofs.making.copied.Goals as goal
use Rattle.proposing.proofs.making.copied.Goals.{Else-not-wanted}

-- the mask is wanted, so there is a round before
known : (c : Else-not-wanted) → 2 ≤ c.args.round
known c = c.requires.2 c.if-not-wanted.false

pub returns : goal.returns
returns c =
    let w : c.args.wanted ≡ true = c.if-not-wanted.false in
    ap Some c.mask_of.ensures ∙ sym (cond_true _ _ w)

pub returns-then-not-wanted : goal.returns-then-not-wanted
returns-then-not-wanted c = let w : c.args.wanted ≡ false = c.if-not-wanted.true in sym (cond_false _ _ w)

pub overflow_sub-round : goal.overflow_sub-round
overflow_sub-round c = let k = known c in search rules

pub mask_of-requires : goal.mask_of-requires
mask_of-requires c = let k = known c in search rules
