-- The term of the claim. Assumes nothing.
use mathlib.Core.Path.{◌≡◌, refl, sym, ap, ◌∙◌}
use mathlib.Core.List.{List, [], ◌∷◌, ◌++◌, append_assoc, append-nil}
use Prim.Native.Nat.{ℕ}
use lib.ListN.{take}
use Rattle.sheetlog.specs.Output.{Reading, feed, zeros, end_text, whole, output}
use Rattle.sheetlog.specs.Blocks.{kept_size, block}
use Rattle.sheetlog.specs.Claims.{joined, put_out, BlockByBlock}
use Rattle.sheetlog.proofs.Feeding.{cut_feed, feed_then, after, feed_after}

pub end_cut : (line state : List ℕ) → end_text (take kept_size line) state ≡ end_text line state
unfolding end_text
end_cut [] state = refl
end_cut (b ∷ s) state = refl

-- what a block prints, and what it leaves, is all that the bytes after it need
pub feed_block : (bytes : List ℕ) (r : Reading)
    → feed r bytes ≡ after r.printed (feed (record { printed = []; line = r.line; state = r.state }) bytes)
feed_block bytes r =
    ap (λ (p : List ℕ). feed (record { printed = p; line = r.line; state = r.state }) bytes) (sym (append-nil r.printed))
    ∙ feed_after bytes r.printed (record { printed = []; line = r.line; state = r.state })

from : (blocks : List (List ℕ)) (r : Reading) → r.printed ++ put_out (take kept_size r.line) r.state blocks ≡ whole (feed r (joined blocks))
unfolding put_out joined feed block
from [] r = ap (λ (t : List ℕ). r.printed ++ t) (end_cut r.line r.state)
from (bytes ∷ rest) r =
    let x : Reading = feed (record { printed = []; line = r.line; state = r.state }) bytes in
    ap (λ (q : Reading). r.printed ++ (q.printed ++ put_out q.line q.state rest))
    (cut_feed bytes (record { printed = []; line = r.line; state = r.state }))
    ∙ sym (append_assoc r.printed x.printed (put_out (take kept_size x.line) x.state rest))
    ∙ from rest (after r.printed x)
    ∙ ap (λ (q : Reading). whole (feed q (joined rest))) (sym (feed_block bytes r))
    ∙ ap whole (sym (feed_then bytes (joined rest) r))

pub block_by_block : BlockByBlock
unfolding output
block_by_block blocks = from blocks (record { printed = []; line = []; state = zeros })
