-- The test of the id, then the contracts of `mask_of` and `has_bit`.
use mathlib.Core.Path.{◌∙◌, sym}
use Prim.Native.Nat.{◌≤◌}
use borrow.Author.Rules.{rules}
use Rattle.record.specs.Members.{id_round, rounds}
use Rattle.record.proofs.Rounds.{round_range}
use Rattle.replica.proofs.masks.is_marked.Goals as goal
use Rattle.replica.proofs.masks.is_marked.Goals.{Else-not-is_id}

pub returns-then-not-is_id : goal.returns-then-not-is_id
returns-then-not-is_id c = simp (sym c.is_id.ensures ∙ c.if-not-is_id.true)

range : (c : Else-not-is_id) → (1 ≤ id_round c.args.x) × (id_round c.args.x ≤ rounds)
range c = round_range _ (sym c.is_id.ensures ∙ c.if-not-is_id.false)

pub returns : goal.returns
returns c =
    simp (sym c.is_id.ensures ∙ c.if-not-is_id.false) (rw c.mask_of.ensures at c.has_bit.ensures)

pub mask_of-requires : goal.mask_of-requires
mask_of-requires c = let r = range c in search rules
