-- Laws of what is printed at the end. Assumes nothing.
use mathlib.Core.Path.{◌≡◌, ap}
use mathlib.Core.List.{List, [], ◌∷◌}
use Prim.Native.Nat.{ℕ, ◌+◌, ◌*◌, ◌≤◌}
use native.Mathlib.Omega.{arith}
use denote.Ref.{Bor}
use lib.ListN.{length, length-append, length-take, length-drop, drop}
use Rattle.replica.specs.Place.{Span, words_in, Part, part_of, cut}
use Rattle.replica.specs.Lists.{hand_leaders, hand_journal}
use Rattle.transcript.specs.Text.{item_size, items, list_text, Appended, line_feed}
use Rattle.transcript.proofs.Digits.{appended_then, items_few}
use Rattle.sheetlog.specs.Output.{rest_text, end_text}

pub rest_few : (rest : List ℕ) → length (rest_text rest) ≤ 2
rest_few [] = omega arith
rest_few (b ∷ s) = omega arith

-- a list is handed over as a part of the state
pub part_words : (x r : Bor (List ℕ)) (s : Span) → part_of r ≡ cut x s → r.now ≡ words_in x.now s
part_words x r s e = ap (λ (p : Part). p.words) e

pub part_few : (x r : Bor (List ℕ)) (s : Span) → part_of r ≡ cut x s → length r.now ≤ length x.now
part_few x r s e =
    rw (part_words x r s e) (omega (arith, length-take s.length (drop s.start x.now), length-drop s.start x.now))

pub list_few : (letter : ℕ) (ids : List ℕ) → length (list_text letter ids) ≤ item_size * length ids + 2
list_few letter ids = omega (arith, items_few ids, length-append (letter ∷ items ids) (line_feed ∷ []))

pub an_end : (rest : List ℕ) (x l j : Bor (List ℕ)) {d e f g : List ℕ} {a b c : ℕ}
    → Appended d 0 (rest_text rest) e a → part_of l ≡ cut x (hand_leaders x.now 0) → Appended e a (list_text 76 l.now) f b
    → part_of j ≡ cut x (hand_journal x.now 0) → Appended f b (list_text 74 j.now) g c → Appended d 0 (end_text rest x.now) g c
unfolding end_text
an_end rest x l j p m q n r = appended_then (appended_then p (rw (part_words x l (hand_leaders x.now 0) m) at q))
    (rw (part_words x j (hand_journal x.now 0) n) at r)
