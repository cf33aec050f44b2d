-- The lists only grow over the commits, and an admitted record's answer says by how much. Assumes nothing.
use mathlib.Core.Path.{◌≡◌, ap, ap₂}
use mathlib.Core.Bool.{true, false}
use mathlib.Core.Logic.{◌⊎◌, inl, inr}
use mathlib.Core.List.{List}
use Prim.Native.Nat.{ℕ, zero, suc, ◌-◌, ◌≤◌}
use native.Mathlib.Omega.{arith}
use lib.ListN.{length, length-append}
use Rattle.record.proofs.Booleans.{which}
use Rattle.protocol.proofs.Journal.{extend_prefix}
use Rattle.replica.specs.State.{member_count, leader_count, journal_count, journal_list, vertices}
use Rattle.replica.specs.Outcome.{admitted}
use Rattle.replica.proofs.Formed.{WellFormed, journal_length}
use Rattle.commits.specs.Commit.{taken, is_ready, commit_once, commit_up_to, most_commits, commit_all}
use Rattle.commits.proofs.Repeating.{once}
use Rattle.commits.proofs.Growing.{commit_leader_count, commit_journal_length}
use Rattle.ordering.proofs.Kept.{formed_once}

-- over one commit
one : (l : List ℕ) → WellFormed l → is_ready l ≡ true → (leader_count l ≤ leader_count (commit_once l)) × (journal_count l ≤ journal_count (commit_once l))
one l S h =
    let w = once l S.leaders.committed_high h in
    let j = commit_journal_length l S w.round w.seat w.ready in
    let p = extend_prefix (member_count l) (vertices l) (journal_list l) (taken l w.round w.seat) in
    rw w.is (
      omega (arith, commit_leader_count l S w.round w.seat w.ready),
      omega (arith, j, ap length p.1, length-append (journal_list l) p.0, journal_length l S),
    )

-- over all of them
pub commits_grow : (k : ℕ) (l : List ℕ) → WellFormed l → (leader_count l ≤ leader_count (commit_up_to l k))
    × (journal_count l ≤ journal_count (commit_up_to l k))
unfolding commit_up_to
commits_grow zero l S = (omega arith, omega arith)
commits_grow (suc k) l S = go (which (is_ready l)) (commits_grow k (commit_once l))
  where
    go : (is_ready l ≡ true) ⊎ (is_ready l ≡ false)
        → (WellFormed (commit_once l) → (leader_count (commit_once l) ≤ leader_count (commit_up_to (commit_once l) k))
        × (journal_count (commit_once l) ≤ journal_count (commit_up_to (commit_once l) k)))
        → (leader_count l ≤ leader_count (commit_up_to l (suc k))) × (journal_count l ≤ journal_count (commit_up_to l (suc k)))
    go (inl e) ih =
        let a = one l S e in
        let b = ih (formed_once l S e) in
        rw e (omega arith, omega arith)
    go (inr e) ih = rw e (omega arith, omega arith)

-- a call that leaves the counts until the commits has added what the commits add
pub same_growth : (l m after : List ℕ) → leader_count m ≡ leader_count l → journal_count m ≡ journal_count l → admitted m after ≡ admitted l after
same_growth l m after a b =
    ap₂ (λ (x y : ℕ). record { number = 0; id = 0; leaders = leader_count after - x; journal = journal_count after - y; words = after }) a b

-- one that leaves them altogether has added nothing
pub no_growth : (l after : List ℕ) → leader_count after ≡ leader_count l → journal_count after ≡ journal_count l
    → record { number = 0; id = 0; leaders = 0; journal = 0; words = after } ≡ admitted l after
no_growth l after a b =
    let x : 0 ≡ leader_count after - leader_count l = omega arith in
    let y : 0 ≡ journal_count after - journal_count l = omega arith in
    ap₂ (λ (i j : ℕ). record { number = 0; id = 0; leaders = i; journal = j; words = after }) x y

-- the words after the commits have lists at least as long
pub record Settled (l after : List ℕ) : Type 0 where
  pub leaders : leader_count l ≤ leader_count after
  pub journal : journal_count l ≤ journal_count after

pub settled : (l after : List ℕ) → WellFormed l → after ≡ commit_all l → Settled l after
settled l after S e = let g = commits_grow most_commits l S in rw e (record { leaders = g.0; journal = g.1 })
