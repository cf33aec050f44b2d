-- The passes over waiting records: from the lowest id up, pass after pass, until a pass admits none. What a trial is stays open: a state tries
-- a record by a vertex call, and the model of the agreement claim by what it holds.
use Rattle.std.specs.Prelude.{◌≡◌, Bool, true, false, cond, List, [], ◌∷◌, ◌++◌, ℕ, zero, suc, length}

-- what becomes of a record that is tried: it is admitted, it waits on, or it is dropped
pub data Fate : Type 0 where
  joins : Fate
  stays : Fate
  leaves : Fate

-- that, and what stands after the trial
pub record Trial (S : Type 0) : Type 0 where
  pub fate : Fate
  pub after : S

-- what stands after passes, the records admitted, in turn, and those that wait on, in their order
pub record Passed (S : Type 0) : Type 0 where
  pub after : S
  pub admitted : List (List ℕ)
  pub waiting : List (List ℕ)

-- a record of this fate ahead of the others of a pass
abbrev pub ahead : {S : Type 0} → List ℕ → Fate → Passed S → Passed S
ahead rec joins p = record { after = p.after; admitted = rec ∷ p.admitted; waiting = p.waiting }
ahead rec stays p = record { after = p.after; admitted = p.admitted; waiting = rec ∷ p.waiting }
ahead rec leaves p = p

-- one pass, and then others over those that wait on
abbrev pub followed_by : {S : Type 0} → Passed S → Passed S → Passed S
followed_by p q = record { after = q.after; admitted = p.admitted ++ q.admitted; waiting = q.waiting }

abbrev pub is_none : List (List ℕ) → Bool
is_none [] = true
is_none (rec ∷ recs) = false

module _ {S : Type 0} (attempt : S → List ℕ → Trial S) where
  -- one pass: each record in turn is tried on what the one before left
  unfoldable pub pass : S → List (List ℕ) → Passed S
  pass s [] = record { after = s; admitted = []; waiting = [] }
  pass s (rec ∷ recs) = ahead rec (attempt s rec).fate (pass (attempt s rec).after recs)

  -- pass after pass until one admits none, at most k
  unfoldable pub passes : ℕ → S → List (List ℕ) → Passed S
  passes zero s recs = record { after = s; admitted = []; waiting = recs }
  passes (suc k) s recs =
      cond (is_none (pass s recs).admitted)
      (pass s recs)
      (followed_by (pass s recs) (passes k (pass s recs).after (pass s recs).waiting))

  -- Every pass but the last admits one at least: one pass more than there are records is enough.
  abbrev pub release : S → List (List ℕ) → Passed S
  release s recs = passes (suc (length recs)) s recs

  -- only a trial that admits changes something
  abbrev pub ChangesByAdmission : Type 0
  ChangesByAdmission = (s : S) (rec : List ℕ) → ((attempt s rec).fate ≡ joins → ⊥) → (attempt s rec).after ≡ s

  -- the passes came to their end: one more than `release` makes admits none and changes nothing
  abbrev pub PassesOver : S → List (List ℕ) → Type 0
  PassesOver s recs = let p = release s recs in pass p.after p.waiting ≡ record { after = p.after; admitted = []; waiting = p.waiting }
