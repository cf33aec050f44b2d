-- The worked cases on four members, those that document 01 marks * and those of document 02's requests: one table of rows, and one claim about all
-- of them.
use Rattle.std.specs.Prelude.{◌≡◌, Bool, true, ◌&&◌, ℕ, ◌+◌, ◌-◌, eqb, replicate, set, take}
use mathlib.Core.List.{List, [], ◌∷◌, ◌++◌, Memᴰ}
use Rattle.replica.specs.Layout.{state_size, journal_at, cells_at, watcher}
use Rattle.replica.specs.State.{current_round, committed_round}
use Rattle.replica.specs.Outcome.{Outcome}
use Rattle.replica.specs.Place.{Span}
use Rattle.pending.specs.Layout.{buffer_size}
use Rattle.pending.specs.Buffer.{buffer_of}
use Rattle.runs.specs.Call.{Call, opening, vertex, vertex_with, first_message, timeout, bundle, ask_journal_list, hand_journal_list}
use Rattle.runs.specs.Call.{outcome_of, Given, nothing, part, buffered, given_of, run}
use Rattle.agreement.specs.Claim.{leaders_in, journal_in}
use Rattle.record.specs.Layout.{body_place, digest_place, digest_size, body_size, record_size, tagged, record_words}

-- what is seen after a call: its number and id, what it gives beside them, the rounds, and the two lists
pub record Seen : Type 0 where
  pub number : ℕ
  pub id : ℕ
  pub given : Given
  pub round : ℕ
  pub committed : ℕ
  pub leaders : List ℕ
  pub journal : List ℕ

abbrev pub seen : Outcome → Given → Seen
seen o given = record {
  number = o.number;
  id = o.id;
  given = given;
  round = current_round o.words;
  committed = committed_round o.words;
  leaders = leaders_in o.words;
  journal = journal_in o.words;
}

-- a row: calls on as many zero words as a state has, which are all admitted; a last call; and what must be seen then
pub record Row : Type 0 where
  pub calls : List Call
  pub last : Call
  pub end : Seen

abbrev pub zeros : List ℕ
zeros = replicate state_size 0

-- every call has the number 0
unfoldable pub all_admitted : List ℕ → List Call → Bool
all_admitted l [] = true
all_admitted l (c ∷ calls) = eqb (outcome_of c l).number 0 && all_admitted (outcome_of c l).words calls

-- what is seen after the last call
abbrev pub ending : Row → Seen
ending x = seen (outcome_of x.last (run zeros x.calls)) (given_of x.last (run zeros x.calls))

pub record Passes (x : Row) : Type 0 where
  pub admitted : all_admitted zeros x.calls ≡ true
  pub end : ending x ≡ x.end

-- ---- how a row is written

-- a record of round r and source p, with its three masks and its tag, and no weak ids
abbrev pub rec : ℕ → ℕ → ℕ → ℕ → ℕ → ℕ → List ℕ
rec r p strong timeouts no_votes tag = record_words r p strong timeouts no_votes (tagged tag).words []

-- a vertex and a first message r/p with this strong mask, the other masks 0
abbrev pub v : ℕ → ℕ → ℕ → Call
v r p strong = vertex (rec r p strong 0 0 0)

abbrev pub f : ℕ → ℕ → ℕ → Call
f r p strong = first_message (rec r p strong 0 0 0)

-- a vertex with timeouts, and with no-votes too
abbrev pub vt : ℕ → ℕ → ℕ → ℕ → Call
vt r p strong timeouts = vertex (rec r p strong timeouts 0 0)

abbrev pub vtn : ℕ → ℕ → ℕ → ℕ → ℕ → Call
vtn r p strong timeouts no_votes = vertex (rec r p strong timeouts no_votes 0)

-- a first message with timeouts
abbrev pub ft : ℕ → ℕ → ℕ → ℕ → Call
ft r p strong timeouts = first_message (rec r p strong timeouts 0 0)

-- a vertex of round 1, with its tag
abbrev pub v1 : ℕ → ℕ → Call
v1 p tag = vertex (rec 1 p 0 0 0 tag)

-- the calls before the last one, the last one, and then: number, id, what the last call gives, current round, committed round, leader list, journal
abbrev pub giving : List Call → Call → ℕ → ℕ → Given → ℕ → ℕ → List ℕ → List ℕ → Row
giving calls last number id given round committed leaders journal = record {
  calls = calls;
  last = last;
  end = record { number = number; id = id; given = given; round = round; committed = committed; leaders = leaders; journal = journal };
}

-- so where the last call gives nothing beside its number and id
abbrev pub row : List Call → Call → ℕ → ℕ → ℕ → ℕ → List ℕ → List ℕ → Row
row calls last number id round committed leaders journal = giving calls last number id nothing round committed leaders journal

-- a span: its number, its first word, and how many words it has
abbrev pub span : ℕ → ℕ → ℕ → Span
span number start length = record { number = number; start = start; length = length }

-- a state opened with 4, and after it S
abbrev pub fresh : List Call
fresh = opening 4 watcher ∷ []

abbrev pub s : List Call
s = opening 4 watcher ∷ v1 0 10 ∷ v1 1 11 ∷ v1 2 12 ∷ []

-- round 1 from 1, 2, 3 only
abbrev pub without_leader : List Call
without_leader = opening 4 watcher ∷ v1 1 11 ∷ v1 2 12 ∷ v1 3 13 ∷ []

-- a record of round 2 that comes before its parent 1/3
abbrev pub early : ℕ → List ℕ
early p = rec 2 p 15 0 0 0

-- the record with 1 as the eighth word of its digest
abbrev pub eighth : List ℕ → List ℕ
eighth x = set x (body_place + digest_place + (digest_size - 1)) 1

-- an empty buffer without its last word
abbrev pub short : List ℕ
short = take (buffer_size - 1) (buffer_of [])

-- ---- the table

unfoldable pub rows : List Row
rows =
    -- Open with 4 or 16: 0. With 5 or 19: 2.
    row [] (opening 4 watcher) 0 0 1 0 [] []
    ∷ row [] (opening 16 watcher) 0 0 1 0 [] []
    ∷ row [] (opening 5 watcher) 2 0 0 0 [] []
    ∷ row [] (opening 19 watcher) 2 0 0 0 [] []
    -- S, vertex 1/0 again: 12. With tag 99: 13.
    ∷ row s (v1 0 10) 12 0 2 0 [] []
    ∷ row s (v1 0 99) 13 0 2 0 [] []
    -- S, vertex 2/0, strong 7: 0. Strong 3: 8. Strong 23: 7.
    ∷ row s (v 2 0 7) 0 0 2 0 [] []
    ∷ row s (v 2 0 3) 8 0 2 0 [] []
    ∷ row s (v 2 0 23) 7 0 2 0 [] []
    -- S, vertex 2/0, strong 15: 14 with ref 19. Strong 14: 9. Strong 7 with timeouts 7: 9.
    ∷ row s (v 2 0 15) 14 19 2 0 [] []
    ∷ row s (v 2 0 14) 9 0 2 0 [] []
    ∷ row s (vt 2 0 7 7) 9 0 2 0 [] []
    -- S, vertex 2/1, strong 14, timeouts 7: 10.
    ∷ row s (vt 2 1 14 7) 10 0 2 0 [] []
    -- Round 1 from 1, 2, 3 only: current round 1; timeout notes from 0 and 1: still 1; from 2: current round 2.
    ∷ row (fresh ++ v1 1 11 ∷ v1 2 12 ∷ []) (v1 3 13) 0 0 1 0 [] []
    ∷ row (without_leader ++ timeout 1 0 ∷ []) (timeout 1 1) 0 0 1 0 [] []
    ∷ row (without_leader ++ timeout 1 0 ∷ timeout 1 1 ∷ []) (timeout 1 2) 0 0 2 0 [] []
    -- S, vertices 2/0 and 2/1, strong 7: committed 0. Then 2/2, strong 7: committed 1.
    ∷ row (s ++ v 2 0 7 ∷ []) (v 2 1 7) 0 0 2 0 [] []
    ∷ row (s ++ v 2 0 7 ∷ v 2 1 7 ∷ []) (v 2 2 7) 0 0 3 1 (16 ∷ []) (16 ∷ [])
    -- S, first messages 2/0 and 2/1, vertex 2/2, all strong 7: leaders 16, journal 16, as request A6 has it.
    ∷ row (s ++ f 2 0 7 ∷ f 2 1 7 ∷ []) (v 2 2 7) 0 0 2 1 (16 ∷ []) (16 ∷ [])
    -- S, vertices 1/3; 2/0 and 2/1, strong 7; 2/3, strong 14, timeouts 7; first messages 3/0, 3/1, 3/2, strong 11:
    -- leaders 16 33, journal 16 17 18 33.
    ∷ row (s ++ v1 3 13 ∷ v 2 0 7 ∷ v 2 1 7 ∷ vt 2 3 14 7 ∷ f 3 0 11 ∷ f 3 1 11 ∷ []) (f 3 2 11) 0 0 3 2 (16 ∷ 33 ∷ []) (16 ∷ 17 ∷ 18 ∷ 33 ∷ [])
    -- S, vertex 1/3; 2/0 and 2/2, strong 14, timeouts 7; 2/1, strong 14, timeouts 7, no-votes 14; first messages 3/0, 3/1, 3/2, strong 7:
    -- leaders 33, journal 17 18 19 33.
    ∷ row (s ++ v1 3 13 ∷ vt 2 0 14 7 ∷ vt 2 2 14 7 ∷ vtn 2 1 14 7 14 ∷ f 3 0 7 ∷ f 3 1 7 ∷ []) (f 3 2 7) 0 0 3 2 (33 ∷ []) (17 ∷ 18 ∷ 19 ∷ 33 ∷ [])
    -- Fresh state, journal from 0: 0 and an empty part. From 1: 15.
    ∷ row fresh (ask_journal_list 0) 0 0 1 0 [] []
    ∷ giving fresh (hand_journal_list 0) 0 0 (part (span 0 journal_at 0) []) 1 0 [] []
    ∷ row fresh (ask_journal_list 1) 15 0 1 0 [] []
    ∷ giving fresh (hand_journal_list 1) 15 0 (part (span 15 0 0) []) 1 0 [] []
    -- Request A2. Round 1 from 1, 2, 3 only, then vertex 2/0, strong 14, timeouts 7: current round 2 at once. Then timeout notes of round 1, from 0:
    -- 12, from 3: 0; of round 2, from 0: 0. In place of 2/0, vertex 2/1, which lacks no-votes: 10, still round 1.
    ∷ row without_leader (vt 2 0 14 7) 0 0 2 0 [] []
    ∷ row (without_leader ++ vt 2 0 14 7 ∷ []) (timeout 1 0) 12 0 2 0 [] []
    ∷ row (without_leader ++ vt 2 0 14 7 ∷ []) (timeout 1 3) 0 0 2 0 [] []
    ∷ row (without_leader ++ vt 2 0 14 7 ∷ []) (timeout 2 0) 0 0 2 0 [] []
    ∷ row without_leader (vt 2 1 14 7) 10 0 1 0 [] []
    -- Request A3. Round 1 from 1, 2, 3 only, then a bundle of round 1 by 0, 1, 2: current round 2. By 0 and 1: still round 1; then by 1 and 2: current
    -- round 2; by 0 and 1 again, or by 0 alone: 12; a timeout note from 0: 12.
    ∷ row without_leader (bundle 1 7) 0 0 2 0 [] []
    ∷ row without_leader (bundle 1 3) 0 0 1 0 [] []
    ∷ row (without_leader ++ bundle 1 3 ∷ []) (bundle 1 6) 0 0 2 0 [] []
    ∷ row (without_leader ++ bundle 1 3 ∷ []) (bundle 1 3) 12 0 1 0 [] []
    ∷ row (without_leader ++ bundle 1 3 ∷ []) (bundle 1 1) 12 0 1 0 [] []
    ∷ row (without_leader ++ bundle 1 3 ∷ []) (timeout 1 0) 12 0 1 0 [] []
    -- By nobody: 12. By 0, 1 and 4: 7. Of round 33 by 0, 1, 2 and 4: 5. Of round 2 by 0, 1, 2: 0, still round 1.
    ∷ row without_leader (bundle 1 0) 12 0 1 0 [] []
    ∷ row without_leader (bundle 1 19) 7 0 1 0 [] []
    ∷ row without_leader (bundle 33 23) 5 0 1 0 [] []
    ∷ row without_leader (bundle 2 7) 0 0 1 0 [] []
    -- Request A5. S, vertex 2/0, strong 15, with an empty buffer: 14 with ref 19, and it waits there. With a buffer where it waits: 12. Another of that
    -- ref: 13. With a buffer that is a word short, or with two of one ref: 19.
    ∷ giving s (vertex_with (buffer_of []) (early 0)) 14 19 (buffered (buffer_of (early 0 ∷ []))) 2 0 [] []
    ∷ giving s (vertex_with (buffer_of (early 0 ∷ [])) (early 0)) 12 0 (buffered (buffer_of (early 0 ∷ []))) 2 0 [] []
    ∷ giving s (vertex_with (buffer_of (early 0 ∷ [])) (rec 2 0 15 0 0 99)) 13 0 (buffered (buffer_of (early 0 ∷ []))) 2 0 [] []
    ∷ giving s (vertex_with short (early 0)) 19 0 (buffered short) 2 0 [] []
    ∷ giving s (vertex_with (buffer_of (early 0 ∷ early 0 ∷ [])) (early 0)) 19 0 (buffered (buffer_of (early 0 ∷ early 0 ∷ []))) 2 0 [] []
    -- Then vertex 1/3 with a buffer of 2/0, 2/1 and 2/2, strong 15, 3/0, strong 7, and 3/1, strong 15: 0. The first four are admitted, round 1 is
    -- committed, and 3/1 waits for 2/3.
    ∷ giving s (vertex_with (buffer_of (early 0 ∷ early 1 ∷ early 2 ∷ rec 3 0 7 0 0 0 ∷ rec 3 1 15 0 0 0 ∷ [])) (rec 1 3 0 0 0 13)) 0 0
    (buffered (buffer_of (rec 3 1 15 0 0 0 ∷ []))) 3 1 (16 ∷ []) (16 ∷ [])
    -- Request A6. S, first messages 2/0 and 2/1, vertex 2/1, all strong 7: committed 0, for member 1 counts once. Then vertex 2/2, strong 7: committed 1.
    ∷ row (s ++ f 2 0 7 ∷ f 2 1 7 ∷ []) (v 2 1 7) 0 0 2 0 [] []
    ∷ row (s ++ f 2 0 7 ∷ f 2 1 7 ∷ v 2 1 7 ∷ []) (v 2 2 7) 0 0 2 1 (16 ∷ []) (16 ∷ [])
    -- S, first messages 2/0, strong 14, timeouts 7, and 2/1, 2/2, strong 7: committed 0. Then vertex 2/0, strong 7: committed 1.
    ∷ row (s ++ ft 2 0 14 7 ∷ f 2 1 7 ∷ []) (f 2 2 7) 0 0 2 0 [] []
    ∷ row (s ++ ft 2 0 14 7 ∷ f 2 1 7 ∷ f 2 2 7 ∷ []) (v 2 0 7) 0 0 2 1 (16 ∷ []) (16 ∷ [])
    -- S, vertex 1/3, first message 2/0, strong 7, vertices 2/0, strong 14, timeouts 7, and 2/2, strong 7: committed 0. Then 2/3, strong 7: committed 1.
    ∷ row (s ++ v1 3 13 ∷ f 2 0 7 ∷ vt 2 0 14 7 ∷ []) (v 2 2 7) 0 0 2 0 [] []
    ∷ row (s ++ v1 3 13 ∷ f 2 0 7 ∷ vt 2 0 14 7 ∷ v 2 2 7 ∷ []) (v 2 3 7) 0 0 2 1 (16 ∷ []) (16 ∷ [])
    -- Request A7. S, vertex 1/0 with another eighth word of its digest: 13. Vertex 2/0, strong 15, with a buffer where it waits with another one: 13.
    ∷ row s (vertex (eighth (rec 1 0 0 0 0 10))) 13 0 2 0 [] []
    ∷ giving s (vertex_with (buffer_of (early 0 ∷ [])) (eighth (early 0))) 13 0 (buffered (buffer_of (early 0 ∷ []))) 2 0 [] []
    -- S, vertex 1/3 in 01's 12 words, without its last word, or with a word more: 4. With 1 as the second word of its digest, where 01 has the weak
    -- count: 0.
    ∷ row s (vertex (1 ∷ 3 ∷ 0 ∷ 0 ∷ 0 ∷ 13 ∷ 0 ∷ 0 ∷ 0 ∷ 0 ∷ 0 ∷ 0 ∷ [])) 4 0 2 0 [] []
    ∷ row s (vertex (take (record_size - 1) (rec 1 3 0 0 0 13))) 4 0 2 0 [] []
    ∷ row s (vertex (rec 1 3 0 0 0 13 ++ 0 ∷ [])) 4 0 2 0 [] []
    ∷ row s (vertex (set (rec 1 3 0 0 0 13) (body_place + digest_place + 1) 1)) 0 0 2 0 [] []
    ∷ []

-- the sizes of 02, which the layouts work out
pub record Sizes : Type 0 where
  pub of_record : record_size ≡ 19
  pub of_cell : body_size ≡ 17
  pub of_state : state_size ≡ 9448
  pub first_cell : cells_at ≡ 744
  pub of_buffer : buffer_size ≡ 609

-- THE CLAIM: every row of the table passes.
abbrev pub Worked : Type 0
Worked = (x : Row) → Memᴰ x rows → Passes x
