-- What the questions are handed of a group and a round, worked out once for all records of the round.
use Rattle.std.specs.Prelude.{cond, ℕ, ◌-◌, ◌^◌, eqb, ltb}

-- the largest mask of n members: of 32 or more every word is one
unfoldable pub largest_mask : ℕ → ℕ
largest_mask n = cond (ltb n 32) (2 ^ n - 1) (2 ^ 32 - 1)

-- the largest strong mask of a round: 0 in round 1, and that of the group later
abbrev pub largest_strong : ℕ → ℕ → ℕ
largest_strong n round = cond (eqb round 1) 0 (largest_mask n)
