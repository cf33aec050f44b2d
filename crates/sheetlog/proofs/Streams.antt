-- Laws of what is answered of a reader's bytes. Assumes nothing.
use Rattle.std.proofs.Common.{◌≡◌, refl, sym, ap, ◌∙◌, subst, List, [], ◌++◌, ℕ, take}
use Rattle.std.proofs.Common.{Option, None, Some, IfSome}
use Rattle.std.specs.Io.KnownBytes.{Appends}
use Rattle.std.proofs.KnownBytes.{Appends-nil, Appends-trans}
use Rattle.transcript.specs.Text.{Appended}
use Rattle.sheetlog.specs.Output.{Reading, feed, zeros, end_text, output}
use Rattle.sheetlog.specs.Blocks.{kept_size, cut, block, held, Holds}
use Rattle.sheetlog.specs.Streams.{IsShort, fed, Answered}
use Rattle.sheetlog.specs.declared.buffers.Fill.{Fill}
use Rattle.sheetlog.proofs.Feeding.{cut_feed, feed_then, after}
use Rattle.sheetlog.proofs.Claims.{end_cut, feed_block}

pub answered_none : (began line : List ℕ) (a : Option (List ℕ)) → Answered [] began a a line 0 began
unfolding feed
answered_none began line a = record { printed = Appends-nil a; line_kept = refl; state_left = refl }

-- what a block prints and leaves, after what is kept of the line of r
block_cut : (r : Reading) (bytes : List ℕ)
    → block (take kept_size r.line) r.state bytes ≡ cut (feed (record { printed = []; line = r.line; state = r.state }) bytes)
unfolding block
block_cut r bytes = cut_feed bytes (record { printed = []; line = r.line; state = r.state })

-- a block more
pub answered_more : (bytes more began : List ℕ) {a b c : Option (List ℕ)} {line line' out state state' : List ℕ} {kept : ℕ} {fill : Fill}
    → Answered bytes began a b line kept state → Holds (block (take kept line) state more) line' fill out state' → Appends b c (take fill.filled out)
    → Answered (bytes ++ more) began a c line' fill.kept state'
answered_more bytes more began {a} {b} {c} {line} {line'} {out} {state} {state'} {kept} {fill} h t p =
    let r : Reading = fed began bytes in
    let x : Reading = feed (record { printed = []; line = r.line; state = r.state }) more in
    let now : held line' fill out state' ≡ cut x =
    t.equal ∙ ap (λ (l : List ℕ). block l state more) h.line_kept ∙ ap (λ (s : List ℕ). block (take kept_size r.line) s more) h.state_left ∙ block_cut r more in
    let all : fed began (bytes ++ more) ≡ after r.printed x =
    feed_then bytes more (record { printed = []; line = []; state = began }) ∙ feed_block more r in
    record {
      printed = subst (λ (q : Reading). Appends a c q.printed) (sym all)
          (Appends-trans a b c r.printed x.printed h.printed (subst (Appends b c) (ap (λ (q : Reading). q.printed) now) p));
      line_kept = ap (λ (q : Reading). q.line) now ∙ sym (ap (λ (q : Reading). take kept_size q.line) all);
      state_left = ap (λ (q : Reading). q.state) now ∙ sym (ap (λ (q : Reading). q.state) all);
    }

-- with what is printed at the end, it is the whole output
pub answered_output : (a b c : Option (List ℕ)) (bytes : List ℕ) {line state out out' : List ℕ} {kept filled : ℕ}
    → Answered bytes zeros a b line kept state → Appended out 0 (end_text (take kept line) state) out' filled → Appends b c (take filled out')
    → Appends a c (output bytes)
unfolding output
answered_output a b c bytes {line} {state} {out} {out'} {kept} {filled} h t p =
    let r : Reading = fed zeros bytes in
    let last : take filled out' ≡ end_text r.line r.state =
    t.held ∙ ap (λ (l : List ℕ). end_text l state) h.line_kept ∙ end_cut r.line state ∙ ap (end_text r.line) h.state_left in
    Appends-trans a b c r.printed (end_text r.line r.state) h.printed (subst (Appends b c) last p)

-- the same of all that the reader had left
pub whole_output : (u a b c : Option (List ℕ)) (line : List ℕ) (kept : ℕ) (state : List ℕ) {out out' : List ℕ} {filled : ℕ}
    → IfSome u (λ bytes. IsShort bytes → Answered bytes zeros a b line kept state) → Appended out 0 (end_text (take kept line) state) out' filled
    → Appends b c (take filled out') → IfSome u (λ bytes. IsShort bytes → Appends a c (output bytes))
whole_output None a b c line kept state h t p = tt
whole_output (Some bytes) a b c line kept state h t p = λ short. answered_output a b c bytes (h short) t p
