-- Lists of calls on a replica state. What a call answers, leaves and gives is said by the very definitions that its contract cites.
use Rattle.std.specs.Prelude.{Bool, true, not, ◌&&◌, List, [], ◌∷◌, ℕ, leb, Result}
use Rattle.record.specs.Members.{legal}
use Rattle.record.specs.Refusals.{number_of}
use Rattle.record.specs.declared.refusal.Refusal.{Refusal}
use Rattle.record.specs.Layout.{Digest}
use Rattle.replica.specs.Outcome.{Outcome}
use Rattle.replica.specs.Opening.{open_state}
use Rattle.replica.specs.Status.{status_of}
use Rattle.replica.specs.Place.{Span, words_in}
use Rattle.replica.specs.Lists.{ask_leaders, ask_journal, hand_leaders, hand_journal}
use Rattle.replica.specs.declared.answer.Status.{Status}
use Rattle.ordering.specs.Calls.{take_vertex, take_first_message, take_timeout, take_no_vote, take_timeouts}
use Rattle.pending.specs.Early.{take_vertex_with}
use Rattle.proposing.specs.Making.{propose_vertex}
use Rattle.proposing.specs.Signing.{sign_no_vote}

-- the calls that document 01 names, and those that requests add on a state, with any arguments
pub data Call : Type 0 where
  opening : ℕ → ℕ → Call
  vertex : List ℕ → Call
  -- with a pending buffer: its words as lent, and the record
  vertex_with : List ℕ → List ℕ → Call
  first_message : List ℕ → Call
  timeout : ℕ → ℕ → Call
  no_vote : ℕ → ℕ → Call
  bundle : ℕ → ℕ → Call
  status : Call
  ask_leader_list : ℕ → Call
  ask_journal_list : ℕ → Call
  hand_leader_list : ℕ → Call
  hand_journal_list : ℕ → Call
  making : Digest → Call
  signing : Call

-- Status and handing over answer a number and no id, add nothing, and are lent the words to read. Handing over's number is the asking call's: the exported
-- call answers it, and the slice that `replica`'s call returns has no room for it, so there the asking call tells why a part is empty.
abbrev pub reading : ℕ → List ℕ → Outcome
reading number l = record { number = number; id = 0; leaders = 0; journal = 0; words = l }

-- what a call on the words l ends in
abbrev pub outcome_of : Call → List ℕ → Outcome
outcome_of (opening n own) l = open_state l n own
outcome_of (vertex rec) l = take_vertex l rec
outcome_of (vertex_with s rec) l = (take_vertex_with l s rec).outcome
outcome_of (first_message rec) l = take_first_message l rec
outcome_of (timeout r p) l = take_timeout l r p
outcome_of (no_vote r p) l = take_no_vote l r p
outcome_of (bundle r mask) l = take_timeouts l r mask
outcome_of status l = reading (number_of (status_of l)) l
outcome_of (ask_leader_list k) l = ask_leaders l k
outcome_of (ask_journal_list k) l = ask_journal l k
outcome_of (hand_leader_list k) l = reading (hand_leaders l k).number l
outcome_of (hand_journal_list k) l = reading (hand_journal l k).number l
outcome_of (making digest) l = (propose_vertex l digest.words).outcome
outcome_of signing l = sign_no_vote l

-- what it gives beside its outcome: status the struct, handing over a part of the words l, as its span and its words, making the record, and a
-- vertex with a pending buffer the words that it leaves of that
pub data Given : Type 0 where
  nothing : Given
  head : Result Status Refusal → Given
  part : Span → List ℕ → Given
  made : List ℕ → Given
  buffered : List ℕ → Given

abbrev pub given_of : Call → List ℕ → Given
given_of (opening n own) l = nothing
given_of (vertex rec) l = nothing
given_of (vertex_with s rec) l = buffered (take_vertex_with l s rec).buffer
given_of (first_message rec) l = nothing
given_of (timeout r p) l = nothing
given_of (no_vote r p) l = nothing
given_of (bundle r mask) l = nothing
given_of status l = head (status_of l)
given_of (ask_leader_list k) l = nothing
given_of (ask_journal_list k) l = nothing
given_of (hand_leader_list k) l = part (hand_leaders l k) (words_in l (hand_leaders l k))
given_of (hand_journal_list k) l = part (hand_journal l k) (words_in l (hand_journal l k))
given_of (making digest) l = made (propose_vertex l digest.words).made
given_of signing l = nothing

-- each call gets the words as the one before left them
unfoldable pub run : List ℕ → List Call → List ℕ
run l [] = l
run l (c ∷ calls) = run (outcome_of c l).words calls

-- an opening among the calls is a refused one
abbrev pub allowed : Call → Bool
allowed (opening n own) = not (legal n && leb own n)
allowed (vertex rec) = true
allowed (vertex_with s rec) = true
allowed (first_message rec) = true
allowed (timeout r p) = true
allowed (no_vote r p) = true
allowed (bundle r mask) = true
allowed status = true
allowed (ask_leader_list k) = true
allowed (ask_journal_list k) = true
allowed (hand_leader_list k) = true
allowed (hand_journal_list k) = true
allowed (making digest) = true
allowed signing = true

unfoldable pub all_allowed : List Call → Bool
all_allowed [] = true
all_allowed (c ∷ calls) = allowed c && all_allowed calls
