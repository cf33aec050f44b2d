-- What is printed of an input: a line feed ends a line and prints its reply, and any other byte joins the line.
use Rattle.std.specs.Prelude.{cond, List, [], ◌∷◌, ◌++◌, ℕ, eqb, replicate}
use Rattle.replica.specs.Layout.{state_size}
use Rattle.replica.specs.Place.{words_in}
use Rattle.replica.specs.Lists.{hand_leaders, hand_journal}
use Rattle.transcript.specs.Text.{line_feed, other_text, list_text}
use Rattle.transcript.specs.Commands.{command_of}
use Rattle.sheetlog.specs.Reply.{outcome_of, reply_text}

-- after some bytes: what they print, the line that no line feed ended yet, and the state
pub record Reading : Type 0 where
  pub printed : List ℕ
  pub line : List ℕ
  pub state : List ℕ

unfoldable pub feed_byte : Reading → ℕ → Reading
feed_byte r b =
    cond (eqb b line_feed)
    (record {
      printed = r.printed ++ reply_text (command_of r.line) r.state;
      line = [];
      state = (outcome_of (command_of r.line) r.state).words;
    })
    (record { printed = r.printed; line = r.line ++ b ∷ []; state = r.state })

unfoldable pub feed : Reading → List ℕ → Reading
feed r [] = r
feed r (b ∷ s) = feed (feed_byte r b) s

abbrev pub zeros : List ℕ
zeros = replicate state_size 0

-- bytes after the last line feed count as a line of another form
abbrev pub rest_text : List ℕ → List ℕ
rest_text [] = []
rest_text (b ∷ s) = other_text

-- what is printed at the end, with the line that no line feed ended: its reply, and the lists after the letters L and J
unfoldable pub end_text : List ℕ → List ℕ → List ℕ
end_text line state = rest_text line ++ list_text 76 (words_in state (hand_leaders state 0)) ++ list_text 74 (words_in state (hand_journal state 0))

-- what is printed if the input ends there
abbrev pub whole : Reading → List ℕ
whole r = r.printed ++ end_text r.line r.state

-- the whole output of an input
unfoldable pub output : List ℕ → List ℕ
output input = whole (feed (record { printed = []; line = []; state = zeros }) input)
