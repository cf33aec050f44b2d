-- Laws of bytes that are fed, and of a line of which only the start is kept. Assumes nothing.
use Rattle.std.specs.Prelude.{Option}
use mathlib.Core.Path.{◌≡◌, refl, sym, ap, ap₂, ◌∙◌}
use mathlib.Core.Bool.{true, false}
use mathlib.Core.Logic.{◌⊎◌, inl, inr, ⊎_elim}
use mathlib.Core.List.{List, [], ◌∷◌, ◌++◌, append_assoc}
use Prim.Native.Nat.{ℕ, ◌+◌, ◌≤◌, ◌<◌}
use native.Mathlib.Numerals.{add-one}
use native.Mathlib.Omega.{arith}
use lib.Dec.{eqb, leb}
use lib.ListN.{length, length-append, length-take, get_or, take, set}
use lib.Seq.{take_all, take-suc, take-suc-set, take-append-le}
use borrow.Author.Tests.{eq-eqb, ne_eqb, leb-true, leb-false}
use Rattle.transcript.specs.Text.{Appended, line_feed}
use Rattle.transcript.specs.Claims.{longest_answer}
use Rattle.transcript.specs.Commands.{command_of}
use Rattle.transcript.specs.declared.command.Command.{Command}
use Rattle.record.proofs.Booleans.{which}
use Rattle.transcript.proofs.Claims.{kept_lines}
use Rattle.transcript.proofs.Digits.{appended_fits}
use Rattle.sheetlog.specs.Reply.{outcome_of, reply_text}
use Rattle.sheetlog.specs.Output.{Reading, feed_byte, feed}
use Rattle.sheetlog.specs.Blocks.{kept_size, cut, block, held, Holds, Room}
use Rattle.sheetlog.specs.declared.buffers.Fill.{Fill}
use Rattle.sheetlog.proofs.Replies.{reply_few}

-- ---- a line of which only the first bytes are kept

cut_again : (line : List ℕ) → take kept_size (take kept_size line) ≡ take kept_size line
cut_again line = take_all kept_size (take kept_size line) (omega (arith, length-take kept_size line))

cut_more : (line : List ℕ) (b : ℕ) → take kept_size (take kept_size line ++ b ∷ []) ≡ take kept_size (line ++ b ∷ [])
cut_more line b =
    ⊎_elim (λ (h : leb (length line) kept_size ≡ true). ap (λ (s : List ℕ). take kept_size (s ++ b ∷ [])) (take_all kept_size line (leb-true _ _ h)))
    (λ h.
    let l : kept_size < length line = leb-false (length line) kept_size h in
    take-append-le kept_size (take kept_size line) (b ∷ []) (omega (arith, length-take kept_size line))
    ∙ cut_again line
    ∙ sym (take-append-le kept_size line (b ∷ []) (omega arith)))
    (which (leb (length line) kept_size))

pub keeps_more : (line : List ℕ) (kept b : ℕ) → length line ≡ kept_size → kept < length line
    → take (kept + 1) (set line kept b) ≡ take kept_size (take kept line ++ b ∷ [])
keeps_more line kept b e l =
    rw (add-one kept) (take-suc-set line kept b l)
    ∙ sym (take_all kept_size (take kept line ++ b ∷ []) (omega (arith, length-append (take kept line) (b ∷ []), length-take kept line)))

pub keeps_full : (line : List ℕ) (kept b : ℕ) → length line ≡ kept_size → kept ≤ length line → length line ≤ kept
    → take kept line ≡ take kept_size (take kept line ++ b ∷ [])
keeps_full line kept b e h l =
    sym (take-append-le kept_size (take kept line) (b ∷ []) (omega (arith, length-take kept line))
    ∙ take_all kept_size (take kept line) (omega (arith, length-take kept line)))

-- ---- what is kept is enough

cut_byte : (r : Reading) (b : ℕ) → cut (feed_byte (cut r) b) ≡ cut (feed_byte r b)
unfolding feed_byte
cut_byte r b = go (which (eqb b line_feed))
  where
    go : (eqb b line_feed ≡ true) ⊎ (eqb b line_feed ≡ false) → cut (feed_byte (cut r) b) ≡ cut (feed_byte r b)
    go (inl e) = rw e (ap (λ (c : Option Command). record {
      printed = r.printed ++ reply_text c r.state;
      line = [];
      state = (outcome_of c r.state).words;
    }) (kept_lines r.line kept_size (omega arith)))
    go (inr e) = rw e (ap (λ (s : List ℕ). record { printed = r.printed; line = s; state = r.state }) (cut_more r.line b))

pub cut_feed : (s : List ℕ) (r : Reading) → cut (feed (cut r) s) ≡ cut (feed r s)
unfolding feed
cut_feed [] r = ap (λ (s : List ℕ). record { printed = r.printed; line = s; state = r.state }) (cut_again r.line)
cut_feed (b ∷ s) r =
    sym (cut_feed s (feed_byte (cut r) b)) ∙ ap (λ (q : Reading). cut (feed q s)) (cut_byte r b) ∙ cut_feed s (feed_byte r b)

-- ---- bytes in turn

pub feed_then : (s t : List ℕ) (r : Reading) → feed r (s ++ t) ≡ feed (feed r s) t
unfolding feed
feed_then [] t r = refl
feed_then (b ∷ s) t r = feed_then s t (feed_byte r b)

-- the same after something else was printed
abbrev pub after : List ℕ → Reading → Reading
after p r = record { printed = p ++ r.printed; line = r.line; state = r.state }

after_byte : (p : List ℕ) (r : Reading) (b : ℕ) → feed_byte (after p r) b ≡ after p (feed_byte r b)
unfolding feed_byte
after_byte p r b = go (which (eqb b line_feed))
  where
    go : (eqb b line_feed ≡ true) ⊎ (eqb b line_feed ≡ false) → feed_byte (after p r) b ≡ after p (feed_byte r b)
    go (inl e) = rw e (ap (λ (t : List ℕ). record { printed = t; line = []; state = (outcome_of (command_of r.line) r.state).words })
        (append_assoc p r.printed (reply_text (command_of r.line) r.state)))
    go (inr e) = rw e refl

pub feed_after : (s p : List ℕ) (r : Reading) → feed (after p r) s ≡ after p (feed r s)
unfolding feed
feed_after [] p r = refl
feed_after (b ∷ s) p r = ap (λ (q : Reading). feed q s) (after_byte p r b) ∙ feed_after s p (feed_byte r b)

-- ---- one byte

-- what a byte that ends a line does
pub record Ended (b : ℕ) (line : List ℕ) (fill : Fill) (out state : List ℕ) (end : ℕ) (out' state' : List ℕ) : Type 0 where
  pub few : end ≤ fill.filled + longest_answer
  pub holds : Holds (cut (feed_byte (held line fill out state) b)) line (record { kept = 0; filled = end }) out' state'

pub byte_ends : (b : ℕ) (line : List ℕ) (fill : Fill) (out state : List ℕ) {out' state' : List ℕ} {end : ℕ} → b ≡ line_feed → Room 1 line fill out
    → Appended out fill.filled (reply_text (command_of (take fill.kept line)) state) out' end
    → state' ≡ (outcome_of (command_of (take fill.kept line)) state).words
    → Ended b line fill out state end out' state'
unfolding feed_byte
byte_ends b line fill out state e room a w =
    record {
      few = omega (arith, a.last, reply_few (command_of (take fill.kept line)) state);
      holds = record {
        kept = omega arith;
        filled = appended_fits a (omega (arith, room.replies));
        equal = rw (eq-eqb b line_feed e) (ap₂ (λ (p s : List ℕ). record { printed = p; line = []; state = s }) a.held w);
      };
    }

pub byte_joins : (b : ℕ) (line : List ℕ) (fill : Fill) (out state : List ℕ) {line' : List ℕ} {kept : ℕ} → (b ≡ line_feed → ⊥) → Room 1 line fill out
    → kept ≤ length line' → take kept line' ≡ take kept_size (take fill.kept line ++ b ∷ [])
    → Holds (cut (feed_byte (held line fill out state) b)) line' (record { kept = kept; filled = fill.filled }) out state
unfolding feed_byte
byte_joins b line fill out state h room l k =
    record {
      kept = l;
      filled = omega (arith, room.replies);
      equal = rw (ne_eqb b line_feed h) (ap (λ (s : List ℕ). record { printed = take fill.filled out; line = s; state = state }) k);
    }

-- ---- a block

pub holds_none : (line : List ℕ) (kept : ℕ) (out state : List ℕ) → length line ≡ kept_size → kept ≤ length line
    → Holds (block (take kept line) state []) line (record { kept = kept; filled = 0 }) out state
unfolding block feed
holds_none line kept out state e l =
    record {
      kept = l;
      filled = omega arith;
      equal = ap (λ (s : List ℕ). record { printed = []; line = s; state = state })
          (sym (take_all kept_size (take kept line) (omega (arith, length-take kept line))));
    }

block_turn : (line state s : List ℕ) (i : ℕ) → i < length s
    → cut (feed_byte (block line state (take i s)) (get_or s i 0)) ≡ block line state (take (i + 1) s)
unfolding block feed
block_turn line state s i l =
    let r : Reading = record { printed = []; line = line; state = state } in
    let one : take (i + 1) s ≡ take i s ++ get_or s i 0 ∷ [] = rw (add-one i) (take-suc s i 0 l) in
    cut_byte (feed r (take i s)) (get_or s i 0) ∙ ap cut (sym (feed_then (take i s) (get_or s i 0 ∷ []) r)) ∙ ap (λ (t : List ℕ). cut (feed r t)) (sym one)

-- a turn of the loop of `answer_block`
pub holds_turn : (first began s : List ℕ) (i : ℕ) {line out state line' out' state' : List ℕ} {fill fill' : Fill} → i < length s
    → Holds (block first began (take i s)) line fill out state
    → Holds (cut (feed_byte (held line fill out state) (get_or s i 0))) line' fill' out' state'
    → Holds (block first began (take (i + 1) s)) line' fill' out' state'
holds_turn first began s i l h t =
    record {
      kept = t.kept;
      filled = t.filled;
      equal = t.equal ∙ ap (λ (r : Reading). cut (feed_byte r (get_or s i 0))) h.equal ∙ block_turn first began s i l;
    }
