-- What a list of calls made and signed, by what the calls answered.
use Rattle.std.specs.Prelude.{cond, List, [], ◌∷◌, ◌++◌, map, ℕ, eqb}
use Rattle.proposing.specs.Making.{propose_vertex}
use Rattle.proposing.specs.Signing.{signing_round, sign_no_vote}
use Rattle.runs.specs.Call.{Call, opening, vertex, vertex_with, first_message, timeout, no_vote, bundle, status, ask_leader_list, ask_journal_list}
use Rattle.runs.specs.Call.{hand_leader_list, hand_journal_list, making, signing, outcome_of}

-- a record that making answered with the number 0, and the words of the state that made it
pub record Made : Type 0 where
  pub state : List ℕ
  pub words : List ℕ

-- what one call on the words l made
abbrev pub made_by : Call → List ℕ → List Made
made_by (making digest) l =
    cond (eqb (propose_vertex l digest.words).outcome.number 0) (record { state = l; words = (propose_vertex l digest.words).made } ∷ []) []
made_by (opening n own) l = []
made_by (vertex rec) l = []
made_by (vertex_with s rec) l = []
made_by (first_message rec) l = []
made_by (timeout r p) l = []
made_by (no_vote r p) l = []
made_by (bundle r mask) l = []
made_by status l = []
made_by (ask_leader_list k) l = []
made_by (ask_journal_list k) l = []
made_by (hand_leader_list k) l = []
made_by (hand_journal_list k) l = []
made_by signing l = []

-- the round for which one call on the words l signed a no-vote
abbrev pub signed_by : Call → List ℕ → List ℕ
signed_by signing l = cond (eqb (sign_no_vote l).number 0) (signing_round l ∷ []) []
signed_by (opening n own) l = []
signed_by (vertex rec) l = []
signed_by (vertex_with s rec) l = []
signed_by (first_message rec) l = []
signed_by (timeout r p) l = []
signed_by (no_vote r p) l = []
signed_by (bundle r mask) l = []
signed_by status l = []
signed_by (ask_leader_list k) l = []
signed_by (ask_journal_list k) l = []
signed_by (hand_leader_list k) l = []
signed_by (hand_journal_list k) l = []
signed_by (making digest) l = []

-- what the calls made and signed, in their order; each gets the words as the one before left them
unfoldable pub all_made : List ℕ → List Call → List Made
all_made l [] = []
all_made l (c ∷ calls) = made_by c l ++ all_made (outcome_of c l).words calls

unfoldable pub rounds_signed : List ℕ → List Call → List ℕ
rounds_signed l [] = []
rounds_signed l (c ∷ calls) = signed_by c l ++ rounds_signed (outcome_of c l).words calls

-- the made records
abbrev pub made_records : List ℕ → List Call → List (List ℕ)
made_records l calls = map (λ (m : Made). m.words) (all_made l calls)
