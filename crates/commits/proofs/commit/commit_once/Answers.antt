-- `commit_once` meets its contract. Assumes nothing.
use Rattle.commits.proofs.Repeating.{further, main_next, is_growing, is_lowest, is_over, once_growing, once_lowest, told_some, told_none}
use Rattle.commits.proofs.Ground.{width_fits}
use Rattle.commits.specs.Commit.{lowest, grows, commit}
use Rattle.commits.specs.Standing.{AtPlace}
use Rattle.replica.specs.State.{committed_round}
use mathlib.Core.Bool.{true, false}
use mathlib.Core.Path.{◌≡◌, refl, sym, ap, ◌∙◌}
use Prim.Native.Nat.{ℕ, ◌<◌}
use Rattle.record.specs.Members.{rounds}
use Rattle.record.proofs.Below.{below_is, below_off}
use native.Mathlib.Omega.{arith}
use borrow.Author.Rules.{rules}
use Rattle.commits.proofs.commit.commit_once.Goals as goal
use Rattle.commits.proofs.commit.commit_once.Goals.{After-last_place-place, Else-does_grow, In-Some, Then-does_grow}

pub last_place-place-requires : goal.last_place-place-requires
last_place-place-requires c =
    let G = c.requires.0 in (
      G.standing.size,
      c.requires.1,
      omega (arith, G.standing.low, c.requires.1),
      omega (arith, G.few, G.place, width_fits c.args.state.now _ G.high),
    )

-- the place that the list has come to
at : (c : After-last_place-place) → AtPlace c.args.state.now c.args.group.n (committed_round c.args.state.now) c.last_place-place.result
at c = record { going = c.requires.0; members = c.requires.1; round = refl; place = c.last_place-place.ensures }

pub does_grow-requires : goal.does_grow-requires
does_grow-requires c = at c

growing : (c : Then-does_grow) → grows c.args.state.now ≡ true
growing c = sym c.does_grow.ensures ∙ c.if-does_grow.true

still : (c : Else-does_grow) → grows c.args.state.now ≡ false
still c = sym c.does_grow.ensures ∙ c.if-does_grow.false

pub commit_next-requires : goal.commit_next-requires
commit_next-requires c =
    further c.args.state.now _ _ _ c.requires.0 c.requires.1 refl c.last_place-place.ensures (growing (goal.at.commit_next-requires c).Then-does_grow)

pub returns-then-does_grow : goal.returns-then-does_grow
returns-then-does_grow c =
    let g = growing (goal.at.returns-then-does_grow c).Then-does_grow in
    told_some c.args.state.now _ _ (is_growing _ g) refl
    (c.commit_next.ensures
    ∙ ap (commit c.args.state.now (committed_round c.args.state.now)) c.last_place-place.ensures
    ∙ once_growing c.args.state.now g)

pub returns : goal.returns
returns c =
    told_none c.args.state.now _ _ (is_over c.args.state.now (still (goal.at.returns c).Else-does_grow)
    (below_off _ _ (sym c.in_default.is ∙ c.lowest_committable.ensures))) refl refl

-- the lowest committable round is one
low : (c : In-Some) → (c.in-Some.q ≡ lowest c.args.state.now) × (c.in-Some.q < rounds)
low c = below_is _ _ _ (sym c.in-Some.is ∙ c.lowest_committable.ensures)

pub commit_round-requires : goal.commit_round-requires
commit_round-requires c =
    main_next c.args.state.now _ _ _ _ (at (goal.at.commit_round-requires c).After-last_place-place) (low (goal.at.commit_round-requires
    c).In-Some).0 (low (goal.at.commit_round-requires c).In-Some).1

pub returns-in-Some : goal.returns-in-Some
returns-in-Some c =
    let w = low (goal.at.returns-in-Some c).In-Some in
    told_some c.args.state.now _ _ (is_lowest c.args.state.now (omega (arith, w.0, w.1))) refl
    (c.commit_round.ensures
    ∙ ap (λ (x : ℕ). commit c.args.state.now x 0) w.0
    ∙ once_lowest c.args.state.now (still (goal.at.returns-in-Some c).Else-does_grow))

pub bounds-state-2 : goal.bounds-state-2
bounds-state-2 c = let z = c.requires.0.standing.size in search rules

pub lowest_committable-requires : goal.lowest_committable-requires
lowest_committable-requires c = let z = c.requires.0 in search rules
