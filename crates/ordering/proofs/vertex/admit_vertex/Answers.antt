-- `admit_vertex` meets its contract. Assumes nothing.
use Rattle.ordering.proofs.Taking.{VertexTaken, vertex_taken_lem}
use mathlib.Core.Path.{refl}
use borrow.Author.Rules.{rules}
use Rattle.ordering.proofs.vertex.admit_vertex.Goals as goal
use Rattle.ordering.proofs.vertex.admit_vertex.Goals.{Start}

-- no question stopped the vertex
known : (s : Start) → VertexTaken (s.args.state.now) (s.args.rec.now)
known s = vertex_taken_lem _ _ _ refl s.requires.passed

pub bounds-rec-0 : goal.bounds-rec-0
bounds-rec-0 c = let k = known (goal.at.bounds-rec-0 c).Start in search rules

pub bounds-rec-1 : goal.bounds-rec-1
bounds-rec-1 c = let k = known (goal.at.bounds-rec-1 c).Start in search rules

pub slice_bounds-put_vertex-end : goal.slice_bounds-put_vertex-end
slice_bounds-put_vertex-end c = let k = known (goal.at.slice_bounds-put_vertex-end c).Start in search rules

pub put_vertex-requires : goal.put_vertex-requires
put_vertex-requires c = let k = known (goal.at.put_vertex-requires c).Start in search rules

pub bounds-rec-0-2 : goal.bounds-rec-0-2
bounds-rec-0-2 c = let k = known (goal.at.bounds-rec-0-2 c).Start in search rules

pub bounds-rec : goal.bounds-rec
bounds-rec c = let k = known (goal.at.bounds-rec c).Start in search rules

pub advance-requires : goal.advance-requires
advance-requires c =
    let k = known (goal.at.advance-requires c).Start in
    let ready = k.put _ c.put_vertex.ensures in
    search rules

pub settle-requires : goal.settle-requires
settle-requires c =
    let ready = (known (goal.at.settle-requires c).Start).advanced _ _ c.put_vertex.ensures c.advance.ensures in
    search rules

pub returns : goal.returns
returns c =
    (known (goal.at.returns c).Start).done _ _ _ c.put_vertex.ensures c.advance.ensures c.settle.ensures
