use Rattle.record.proofs.members.Members.without.Goals as goal

pub returns : goal.returns
returns c =
    rw c.power.ensures
