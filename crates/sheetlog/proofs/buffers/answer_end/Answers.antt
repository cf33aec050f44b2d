use Prim.Native.Nat.{◌≤◌}
use native.Mathlib.Omega.{arith}
use lib.ListN.{length}
use Rattle.replica.specs.Lists.{hand_leaders, hand_journal}
use Rattle.sheetlog.proofs.Ending.{rest_few, part_few, list_few, an_end}
use Rattle.sheetlog.proofs.buffers.answer_end.Goals as goal
use Rattle.sheetlog.proofs.buffers.answer_end.Goals.{After-hand_journal, After-hand_leaders}

-- what is handed over is no longer than the state
leaders_few : (c : After-hand_leaders) → length c.hand_leaders.result.now ≤ length c.args.state.now
leaders_few c = part_few c.args.state c.hand_leaders.result (hand_leaders c.args.state.now 0)
    c.hand_leaders.ensures

journal_few : (c : After-hand_journal) → length c.hand_journal.result.now ≤ length c.args.state.now
journal_few c = part_few c.args.state c.hand_journal.result (hand_journal c.args.state.now 0)
    c.hand_journal.ensures

pub put_list-requires : goal.put_list-requires
put_list-requires c =
    omega (arith, rest_few c.args.rest.now, list_few 76 c.hand_leaders.result.now, leaders_few (goal.at.put_list-requires c).After-hand_leaders, journal_few c)

pub returns : goal.returns
returns c =
    an_end _ c.args.state c.hand_leaders.result c.hand_journal.result
    c.answer_rest-first.ensures c.hand_leaders.ensures c.put_list-last.ensures c.hand_journal.ensures c.put_list.ensures
