-- What a call ends in: the paper's answer, and every word of the state afterwards.
use Rattle.std.specs.Prelude.{cond, List, ℕ, ◌-◌, eqb, Result, Ok, Err}
use Rattle.record.specs.Refusals.{Verdict, number_of, id_in}
use Rattle.record.specs.declared.refusal.Refusal.{Refusal}
use Rattle.replica.specs.State.{leader_count, journal_count}
use Rattle.replica.specs.declared.answer.Added.{Added}

pub record Outcome : Type 0 where
  pub number : ℕ
  pub id : ℕ
  -- how many leaders and journal entries the call added
  pub leaders : ℕ
  pub journal : ℕ
  pub words : List ℕ

-- what an answer adds: a refused call adds nothing
abbrev pub leaders_in : Result Added Refusal → ℕ
leaders_in (Ok added) = added.leaders
leaders_in (Err why) = 0

abbrev pub journal_in : Result Added Refusal → ℕ
journal_in (Ok added) = added.journal
journal_in (Err why) = 0

-- what an answer and the words at exit say
abbrev pub told : Result Added Refusal → List ℕ → Outcome
told a l = record { number = number_of a; id = id_in a; leaders = leaders_in a; journal = journal_in a; words = l }

-- nothing is added, and the words stay: a refused call, and one that only reads
abbrev pub unchanged : Verdict → List ℕ → Outcome
unchanged why l = record { number = number_of why; id = id_in why; leaders = 0; journal = 0; words = l }

-- admitted: what was added is the growth of the lists
abbrev pub admitted : List ℕ → List ℕ → Outcome
admitted l after = record { number = 0; id = 0; leaders = leader_count after - leader_count l; journal = journal_count after - journal_count l; words = after }

-- the outcome of a call on the words l with this verdict, which would leave the words `after`
unfoldable pub outcome : Verdict → List ℕ → List ℕ → Outcome
outcome why l after = cond (eqb (number_of why) 0) (admitted l after) (unchanged why l)
