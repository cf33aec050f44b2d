-- `put_vertex` meets its contract. Assumes nothing.
use Rattle.ordering.proofs.Copying.{vertex_put}
use Rattle.ordering.proofs.vertex.put_vertex.Goals as goal

pub returns : goal.returns
returns c = search vertex_put
