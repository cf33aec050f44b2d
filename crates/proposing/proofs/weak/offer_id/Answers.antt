-- The laws of offering an id, of `Laws`.
use mathlib.Core.Path.{sym, ◌∙◌}
use Rattle.proposing.proofs.Laws.{offer_out, offer_reached, offer_full, offer_new}
use Rattle.proposing.proofs.weak.offer_id.Goals as goal

pub returns : goal.returns
returns c =
    c.add_weak.ensures ∙ offer_new _ _ _ _ _ (sym c.has_bit.ensures ∙ c.if-not-has_bit.false)
    (sym c.has_bit-2.ensures ∙ c.if-has_bit.false) c.if-most-words.false

pub returns-then-not-has_bit : goal.returns-then-not-has_bit
returns-then-not-has_bit c = offer_out _ _ _ _ _ (sym c.has_bit.ensures ∙ c.if-not-has_bit.true)

pub returns-then-has_bit : goal.returns-then-has_bit
returns-then-has_bit c = offer_reached _ _ _ _ _ (sym c.has_bit-2.ensures ∙ c.if-has_bit.true)

pub returns-then-most-words : goal.returns-then-most-words
returns-then-most-words c = offer_full _ _ _ _ _ c.if-most-words.true
