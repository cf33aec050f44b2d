use Rattle.sheetlog.proofs.Feeding.{byte_joins, byte_ends}
use borrow.Author.Rules.{rules}
use Rattle.sheetlog.proofs.buffers.take_byte.Goals as goal

pub returns-then-b-eq-LINE_FEED : goal.returns-then-b-eq-LINE_FEED
returns-then-b-eq-LINE_FEED c =
    let k = byte_ends _ _ c.args.fill _ _ c.if-b-eq-LINE_FEED.true c.requires c.reply-end.ensures.appended c.reply-end.ensures.state_after in
    record { filled_bound = search rules; holds = k.holds }

pub returns-clause-holds : goal.returns-clause-holds
returns-clause-holds c =
    byte_joins _ _ c.args.fill _ _ c.if-b-eq-LINE_FEED.false c.requires c.keep.ensures.upper_bound c.keep.ensures.line_after
