use mathlib.Core.Path.{◌∙◌, sym, ap}
use Prim.Native.Nat.{◌≤◌, ◌<◌}
use native.Mathlib.Omega.{arith}
use borrow.Author.Rules.{rules}
use Rattle.record.specs.declared.members.Members.{Members}
use Rattle.record.proofs.Rounds.{round_range}
use Rattle.replica.proofs.Marks.{reading_start, reading_strange, reading_twice, reading_more, reading_decides, journal_long}
use Rattle.record.proofs.Spans.{span_words}
use Rattle.replica.specs.Layout.{journal_at}
use Rattle.replica.specs.State.{journal_count}
use Rattle.replica.proofs.wellformed.journal_ok.Goals as goal
use Rattle.replica.proofs.wellformed.journal_ok.Goals.{Else-not-is_id}

pub loop-x-preserved : goal.loop-x-preserved
loop-x-preserved c =
    let part = span_words c.args.state.now journal_at (journal_count c.args.state.now) c.loop-x.x-index (omega arith) in
    let low : c.loop-x.x-index < journal_count c.args.state.now = omega arith in
    reading_more _ _ _ c.loop-x.invariant low _ (part.1 low) _ c.is_id.ensures (search) _ c.has.ensures (search) _
    (ap (λ (m : Members). m.bits) c.with-more.ensures) c.requires.size

pub returns-then-count-gt-JOURNAL_SIZE : goal.returns-then-count-gt-JOURNAL_SIZE
returns-then-count-gt-JOURNAL_SIZE c = search journal_long

pub loop-x-init : goal.loop-x-init
loop-x-init c = search reading_start

pub returns-then-not-is_id : goal.returns-then-not-is_id
returns-then-not-is_id c =
    let part = span_words c.args.state.now journal_at (journal_count c.args.state.now) c.loop-x.x-index (omega arith) in
    let low : c.loop-x.x-index < journal_count c.args.state.now = omega arith in
    reading_strange _ _ _ c.loop-x.invariant low _ (part.1 low) _ c.is_id.ensures (search)

pub overflow_sub-at : goal.overflow_sub-at
overflow_sub-at c = let k = round_range _ (sym c.is_id.ensures ∙ c.if-not-is_id.false) in search rules

pub bounds-marks-at : goal.bounds-marks-at
bounds-marks-at c = let k = round_range _ (sym c.is_id.ensures ∙ c.if-not-is_id.false) in search rules

pub returns-then-has : goal.returns-then-has
returns-then-has c =
    let part = span_words c.args.state.now journal_at (journal_count c.args.state.now) c.loop-x.x-index (omega arith) in
    let low : c.loop-x.x-index < journal_count c.args.state.now = omega arith in
    reading_twice _ _ _ c.loop-x.invariant low _ (part.1 low) _ c.is_id.ensures (search) _ c.has.ensures (search)

pub bounds-marks-at-in-loop-x : goal.bounds-marks-at-in-loop-x
bounds-marks-at-in-loop-x c = let k = round_range _ (sym c.is_id.ensures ∙ c.if-not-is_id.false) in search rules

pub returns : goal.returns
returns c =
    let part = span_words c.args.state.now journal_at (journal_count c.args.state.now) c.loop-x.x-index (omega arith) in
    let done : journal_count c.args.state.now ≤ c.loop-x.x-index = omega (arith, part.0) in
    search reading_decides
