-- What the structs of the exported calls say, in the terms of the definitions that the library's own calls cite.
use Rattle.std.specs.Prelude.{List, ℕ, Result, Ok, Err}
use Rattle.record.specs.Refusals.{refusal_number, number_of, id_in}
use Rattle.replica.specs.Outcome.{Outcome, leaders_in, journal_in}
use Rattle.replica.specs.Place.{Span}
use Rattle.record.specs.declared.refusal.Refusal.{Refusal}
use Rattle.replica.specs.declared.answer.Added.{Added}
use Rattle.replica.specs.declared.answer.Status as head
use Rattle.pending.specs.Early.{Ending}
use Rattle.proposing.specs.Making.{Proposed, made_in}
use Rattle.yardbook.specs.declared.answer.Answer.{Answer}
use Rattle.yardbook.specs.declared.answer.Status.{Status}
use Rattle.yardbook.specs.declared.answer.Part.{Part}
use Rattle.yardbook.specs.declared.answer.Proposal.{Proposal}

-- the outcome that an answer and the words at exit say
abbrev pub plain : Answer → List ℕ → Outcome
plain a l = record { number = a.number; id = a.id; leaders = a.leaders; journal = a.journal; words = l }

-- so with the words of a pending buffer
abbrev pub plain_with : Answer → List ℕ → List ℕ → Ending
plain_with a l s = record { outcome = plain a l; buffer = s }

-- so for a proposal
abbrev pub proposed : Proposal → List ℕ → Proposed
proposed p l = record { outcome = plain p.answer l; made = p.words }

-- the span that a part says
abbrev pub span_of : Part → Span
span_of p = record { number = p.number; start = p.start; length = p.length }

-- an answer of the library as plain numbers
abbrev pub plain_of : Result Added Refusal → Answer
plain_of a = record { number = number_of a; id = id_in a; leaders = leaders_in a; journal = journal_in a }

-- a proposal of the library as plain numbers: making adds to neither list
abbrev pub proposal_plain : Result (List ℕ) Refusal → Proposal
proposal_plain p = record { answer = record { number = number_of p; id = id_in p; leaders = 0; journal = 0 }; words = made_in p }

-- a status of the library as plain numbers: zeros where it is refused
abbrev pub status_plain : Result head.Status Refusal → Status
status_plain (Ok s) = record {
  number = 0;
  current_round = s.current_round;
  committed_round = s.committed_round;
  leader_count = s.leader_count;
  journal_count = s.journal_count;
}
status_plain (Err why) = record { number = refusal_number why; current_round = 0; committed_round = 0; leader_count = 0; journal_count = 0 }
