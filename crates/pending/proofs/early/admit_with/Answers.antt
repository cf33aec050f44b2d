-- `admit_with` meets its contract. Assumes nothing.
use borrow.Author.Rules.{rules}
use Rattle.replica.proofs.Formed.{WellFormed}
use Rattle.ordering.proofs.Carried.{vertex_written}
use Rattle.pending.proofs.Calling.{Admitting, admitting}
use Rattle.pending.proofs.early.admit_with.Goals as goal
use Rattle.pending.proofs.early.admit_with.Goals.{After-admit_vertex, Start}

S : (s : Start) → WellFormed (s.args.state.now)
S s = (vertex_written _ _ _ _ s.requires.0.passed).first

-- the vertex is admitted
known : (c : After-admit_vertex) → Admitting c.args.state.now c.args.buffer.now c.args.rec.now c.args.group.n c.admit_vertex.new.state
known c =
    admitting _ _ _ _ _ c.admit_vertex.result c.requires.0 c.requires.1 c.admit_vertex.ensures

pub release-requires : goal.release-requires
release-requires c = ((known (goal.at.release-requires c).After-admit_vertex).standing, c.requires.1)

pub overflow_sub-result : goal.overflow_sub-result
overflow_sub-result c =
    let g = (known (goal.at.overflow_sub-result c).After-admit_vertex).grown _ _ c.release.ensures in
    search rules

pub overflow_sub-result-2 : goal.overflow_sub-result-2
overflow_sub-result-2 c =
    let g = (known (goal.at.overflow_sub-result-2 c).After-admit_vertex).grown _ _ c.release.ensures in
    search rules

pub bounds-state-3-2 : goal.bounds-state-3-2
bounds-state-3-2 c =
    let g = ((known (goal.at.bounds-state-3-2 c).After-admit_vertex).grown _ _ c.release.ensures).formed.size in
    search rules

pub bounds-state-4-2 : goal.bounds-state-4-2
bounds-state-4-2 c =
    let g = ((known (goal.at.bounds-state-4-2 c).After-admit_vertex).grown _ _ c.release.ensures).formed.size in
    search rules

pub returns : goal.returns
returns c =
    (known (goal.at.returns c).After-admit_vertex).done _ _ c.release.ensures

pub bounds-state-3 : goal.bounds-state-3
bounds-state-3 c = let k = (S (goal.at.bounds-state-3 c).Start).size in search rules

pub bounds-state-4 : goal.bounds-state-4
bounds-state-4 c = let k = (S (goal.at.bounds-state-4 c).Start).size in search rules
