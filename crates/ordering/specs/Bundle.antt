-- A bundle of timeouts ends as single timeouts do, as claims. `proofs/` has a term of each.
use Rattle.std.specs.Prelude.{◌≡◌, true, cond, List, [], ◌∷◌, ℕ, ◌+◌, eqb}
use Rattle.std.specs.Int.Bits.{bit_or}
use Rattle.record.specs.Below.{select}
use Rattle.record.specs.Members.{has}
use Rattle.record.specs.Refusals.{no_refusal, refusal_number}
use Rattle.record.specs.declared.refusal.Refusal.TheVariants.{MaskBits}
use Rattle.replica.specs.State.{member_count, timeouts_mask}
use Rattle.replica.specs.WellFormed.{subset}
use Rattle.replica.specs.Outcome.{Outcome, unchanged}
use Rattle.ordering.specs.Calls.{take_timeout, is_new, take_timeouts}

-- ---- single timeouts in turn

-- one outcome, and then a second one on the words that it left: their counts add up; a refused one is the end
unfoldable pub followed : Outcome → Outcome → Outcome
followed o next = cond (eqb o.number 0) (record {
  number = next.number;
  id = next.id;
  leaders = o.leaders + next.leaders;
  journal = o.journal + next.journal;
  words = next.words;
}) o

-- a single timeout of round r by each of these signers, in turn
unfoldable pub take_singly : List ℕ → ℕ → List ℕ → Outcome
take_singly l r [] = unchanged no_refusal l
take_singly l r (p ∷ ps) = followed (take_timeout l r p) (take_singly (take_timeout l r p).words r ps)

-- ---- an admitted bundle

-- the new members of a bundle, rising
abbrev pub new_members : List ℕ → ℕ → ℕ → List ℕ
new_members l r mask = select (member_count l) (is_new l r mask)

-- how often p stands in a list
unfoldable pub times : ℕ → List ℕ → ℕ
times p [] = 0
times p (q ∷ qs) = cond (eqb p q) 1 0 + times p qs

-- the lists have the same entries, in any order
abbrev pub Reordered : List ℕ → List ℕ → Type 0
Reordered ps qs = (p : ℕ) → times p ps ≡ times p qs

-- its answer and every word are those of single timeouts of its new members, rising, and in any order
abbrev pub EndsAsSingles : Type 0
EndsAsSingles = (l : List ℕ) (r mask : ℕ) → (take_timeouts l r mask).number ≡ 0
    → (take_singly l r (new_members l r mask) ≡ take_timeouts l r mask)
    × ((ps : List ℕ) → Reordered ps (new_members l r mask) → take_singly l r ps ≡ take_timeouts l r mask)

-- ---- members noted before

-- they do no harm: whatever the answer, a bundle ends the same with them and without
abbrev pub NotedDoNoHarm : Type 0
NotedDoNoHarm = (l : List ℕ) (r mask noted : ℕ) → subset noted (timeouts_mask l r) ≡ true
    → take_timeouts l r (bit_or mask noted) ≡ take_timeouts l r mask

-- ---- a refused bundle

-- unless it is with 7, a single timeout of any of its members ends as the bundle does
abbrev pub RefusedAsSingles : Type 0
RefusedAsSingles = (l : List ℕ) (r mask p : ℕ) → has mask p ≡ true
    → ((take_timeouts l r mask).number ≡ 0 → ⊥) → ((take_timeouts l r mask).number ≡ refusal_number MaskBits → ⊥)
    → take_timeout l r p ≡ take_timeouts l r mask
