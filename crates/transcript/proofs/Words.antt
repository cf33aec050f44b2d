-- Laws of words. Assumes nothing.
use Rattle.std.specs.Prelude.{Some, None}
use Rattle.std.proofs.lemmas.Option.{cond_some, none-some}
use mathlib.Core.Path.{◌≡◌, refl, sym, ap, ap₂, ◌∙◌}
use mathlib.Core.Bool.{true, false}
use mathlib.Core.Logic.{◌⊎◌, inl, inr}
use mathlib.Core.List.{List, [], ◌∷◌}
use Prim.Native.Nat.{ℕ, suc, ◌+◌, ◌-◌, ◌≤◌, ◌<◌}
use native.Mathlib.Numerals.{add-one}
use native.Mathlib.Omega.{arith}
use lib.Dec.{eqb}
use lib.ListN.{length, length-drop, get_or, drop, take, set, drop_of_length-le}
use lib.Seq.{drop-drop, sets}
use borrow.Author.Tests.{eq-eqb, ne_eqb}
use Rattle.record.specs.Layout.{record_size}
use Rattle.transcript.specs.Grammar.{value_of, numeral_ok, numeral_value, up_to_space, first_word, after_word, words_ok}
use Rattle.transcript.specs.Grammar.{words_in, placed, scanned, space}
use Rattle.transcript.specs.Commands.{word_count}
use Rattle.transcript.specs.declared.command.Kind.{Kind}
use Rattle.transcript.specs.declared.command.Kind.TheVariants.{Open, Vertex, First, Timeout, NoVote}
use Rattle.record.proofs.Booleans.{which, and_fails_left, and_fails_right, cond_true, cond_false}
use Rattle.transcript.proofs.Numerals.{split}

-- ---- up to the first space

module _ (s : List ℕ) (i : ℕ) (l : i < length s) where
  pub word_stop : get_or s i 0 ≡ space → length (up_to_space (drop i s)) ≡ 0
  unfolding up_to_space
  word_stop e =
      ap (λ (x : List ℕ). length (up_to_space x)) (split s i l) ∙ ap length (cond_true [] (get_or s i 0 ∷ up_to_space (drop (i + 1) s)) (eq-eqb _ space e))

  pub word_next : (get_or s i 0 ≡ space → ⊥) → length (up_to_space (drop i s)) ≡ suc (length (up_to_space (drop (i + 1) s)))
  unfolding up_to_space
  word_next e =
      ap (λ (x : List ℕ). length (up_to_space x)) (split s i l) ∙ ap length (cond_false [] (get_or s i 0 ∷ up_to_space (drop (i + 1) s)) (ne_eqb _ space e))

pub word_none : (s : List ℕ) (i : ℕ) → length s ≤ i → length (up_to_space (drop i s)) ≡ 0
unfolding up_to_space
word_none s i l = ap (λ (x : List ℕ). length (up_to_space x)) (drop_of_length-le s l)

pub word_short : (s : List ℕ) → length (up_to_space s) ≤ length s
unfolding up_to_space
word_short [] = omega arith
word_short (b ∷ s) = go (which (eqb b space)) (word_short s)
  where
    go : (eqb b space ≡ true) ⊎ (eqb b space ≡ false) → length (up_to_space s) ≤ length s → length (up_to_space (b ∷ s)) ≤ suc (length s)
    go (inl e) h = rw e (omega arith)
    go (inr e) h = rw e (omega arith)

pub word_starts : (s : List ℕ) → take (length (up_to_space s)) s ≡ up_to_space s
unfolding up_to_space
word_starts [] = refl
word_starts (b ∷ s) = go (which (eqb b space)) (word_starts s)
  where
    go : (eqb b space ≡ true) ⊎ (eqb b space ≡ false) → take (length (up_to_space s)) s ≡ up_to_space s
        → take (length (up_to_space (b ∷ s))) (b ∷ s) ≡ up_to_space (b ∷ s)
    go (inl e) h = rw e refl
    go (inr e) h = rw e (ap (λ (x : List ℕ). b ∷ x) h)

-- the part of the line that `numeral` is given
part_word : (s : List ℕ) (start end : ℕ) → end ≡ start + length (up_to_space (drop start s)) → take (end - start) (drop start s) ≡ up_to_space (drop start s)
part_word s start end e =
    let d : end - start ≡ length (up_to_space (drop start s)) = omega arith in
    ap (λ (k : ℕ). take k (drop start s)) d ∙ word_starts (drop start s)

-- ---- what `numeral` answered

numeral_yes : (s : List ℕ) (v : ℕ) → Some v ≡ numeral_value s → (numeral_ok s ≡ true) × (value_of s ≡ v)
unfolding numeral_value
numeral_yes s v e = cond_some (numeral_ok s) (value_of s) v (sym e)

numeral_no : (s : List ℕ) → None ≡ numeral_value s → numeral_ok s ≡ false
unfolding numeral_value
numeral_no s h = go (which (numeral_ok s))
  where
    go : (numeral_ok s ≡ true) ⊎ (numeral_ok s ≡ false) → numeral_ok s ≡ false
    go (inl e) = absurd (none-some (value_of s) (h ∙ cond_true (Some (value_of s)) None e))
    go (inr e) = e

-- ---- a turn of the loop of `read_words`, at index `at`, with j words to come after this one

first_byte : (s : List ℕ) (at : ℕ) → at < length s → get_or (drop at s) 0 0 ≡ get_or s at 0
first_byte s at l = ap (λ (x : List ℕ). get_or x 0 0) (split s at l)

words_short : (s : List ℕ) (at j k : ℕ) → k ≡ suc j → length s ≤ at → words_ok k (drop at s) ≡ false
unfolding words_ok
words_short s at j k p l = rw p (rw (drop_of_length-le s l) refl)

module _ (s : List ℕ) (at j k : ℕ) (p : k ≡ suc j) (l : at < length s) where
  words_apart : (get_or s at 0 ≡ space → ⊥) → words_ok k (drop at s) ≡ false
  unfolding words_ok
  words_apart h = rw p (and_fails_left _ (ne_eqb _ space (λ e. h (sym (first_byte s at l) ∙ e))))

  word_here : first_word (drop at s) ≡ up_to_space (drop (at + 1) s)
  word_here = ap up_to_space (drop-drop 1 at s)

  words_bad : None ≡ numeral_value (up_to_space (drop (at + 1) s)) → words_ok k (drop at s) ≡ false
  unfolding words_ok
  words_bad h =
      rw p (and_fails_right (eqb (get_or (drop at s) 0 0) space) (and_fails_left _ (ap numeral_ok word_here ∙ numeral_no (up_to_space (drop (at + 1) s)) h)))

  module _ (end v : ℕ) (e : end ≡ at + 1 + length (up_to_space (drop (at + 1) s))) (d : Some v ≡ numeral_value (up_to_space (drop (at + 1) s))) where
    read_here : (numeral_ok (up_to_space (drop (at + 1) s)) ≡ true) × (value_of (up_to_space (drop (at + 1) s)) ≡ v)
    read_here = numeral_yes (up_to_space (drop (at + 1) s)) v d

    rest_here : after_word (drop at s) ≡ drop end s
    rest_here =
        let q : at + (1 + length (up_to_space (drop (at + 1) s))) ≡ end = omega arith in
        ap (λ (w : List ℕ). drop (1 + length w) (drop at s)) word_here ∙ drop-drop (1 + length (up_to_space (drop (at + 1) s))) at s
        ∙ ap (λ (m : ℕ). drop m s) q

    words_next : get_or s at 0 ≡ space → words_ok k (drop at s) ≡ words_ok j (drop end s)
    unfolding words_ok
    words_next q =
        ap (λ (m : ℕ). words_ok m (drop at s)) p
        ∙ rw (eq-eqb _ space (first_byte s at l ∙ q), ap numeral_ok word_here ∙ read_here.0) (ap (words_ok j) rest_here)

    values_next : words_in k (drop at s) ≡ v ∷ words_in j (drop end s)
    unfolding words_in
    values_next =
        ap (λ (m : ℕ). words_in m (drop at s)) p
        ∙ ap₂ (λ (v : ℕ) (r : List ℕ). v ∷ words_in j r) (ap value_of word_here ∙ read_here.1) rest_here

-- ---- the loop of `read_words`: i words are read, up to index `at`

-- its invariant
pub record Reading (s : List ℕ) (count : ℕ) (words : List ℕ) (at i : ℕ) : Type 0 where
  pub few : count ≤ record_size
  pub inside : at ≤ length s
  pub rest : words_ok count (drop 1 s) ≡ words_ok (count - i) (drop at s)
  pub held : placed (words_in count (drop 1 s)) ≡ sets words i (words_in (count - i) (drop at s))

-- what each step may use: the next turn's invariant, and what is returned
pub record Turn (s : List ℕ) (count : ℕ) (words : List ℕ) (at i : ℕ) : Type 0 where
  pub short : i < count → length s ≤ at → None ≡ scanned count (drop 1 s)
  pub apart : i < count → at < length s → (get_or s at 0 ≡ space → ⊥) → None ≡ scanned count (drop 1 s)
  pub fits : (end : ℕ) → end ≡ at + 1 + length (up_to_space (drop (at + 1) s)) → at < length s → end ≤ length s
  pub bad : i < count → at < length s → (end : ℕ) → end ≡ at + 1 + length (up_to_space (drop (at + 1) s))
      → None ≡ numeral_value (take (end - (at + 1)) (drop (at + 1) s)) → None ≡ scanned count (drop 1 s)
  pub next : i < count → at < length s → get_or s at 0 ≡ space → (end v : ℕ) → end ≡ at + 1 + length (up_to_space (drop (at + 1) s))
      → Some v ≡ numeral_value (take (end - (at + 1)) (drop (at + 1) s)) → Reading s count (set words i v) end (i + 1)
  pub more : count ≤ i → (at ≡ length s → ⊥) → None ≡ scanned count (drop 1 s)
  pub done : count ≤ i → at ≡ length s → Some words ≡ scanned count (drop 1 s)

module _ (s : List ℕ) (count : ℕ) (words : List ℕ) (at i : ℕ) (w : Reading s count words at i) where
  -- where the rest is no words, the line is none
  scan_no : words_ok (count - i) (drop at s) ≡ false → None ≡ scanned count (drop 1 s)
  unfolding scanned
  scan_no e = sym (cond_false _ _ (w.rest ∙ e))

  fits : (end : ℕ) → end ≡ at + 1 + length (up_to_space (drop (at + 1) s)) → at < length s → end ≤ length s
  fits end e l = omega (arith, word_short (drop (at + 1) s), length-drop (at + 1) s)

  no_more : count ≤ i → (at ≡ length s → ⊥) → words_ok (count - i) (drop at s) ≡ false
  unfolding words_ok
  no_more k h =
      let z : count - i ≡ 0 = omega arith in
      rw z (ne_eqb (length (drop at s)) 0 (λ e. h (omega (arith, length-drop at s, w.inside))))

  scan_yes : count ≤ i → at ≡ length s → Some words ≡ scanned count (drop 1 s)
  unfolding scanned words_ok words_in
  scan_yes k e =
      let z : count - i ≡ 0 = omega arith in
      let all : words_ok (count - i) (drop at s) ≡ true = rw z (eq-eqb (length (drop at s)) 0 (omega (arith, length-drop at s))) in
      let none : words_in (count - i) (drop at s) ≡ [] = rw z refl in
      sym (cond_true _ _ (w.rest ∙ all) ∙ ap Some (w.held ∙ ap (sets words i) none))

  module _ (k : i < count) where
    one : count - i ≡ suc (count - (i + 1))
    one = omega arith

    next : at < length s → get_or s at 0 ≡ space → (end v : ℕ) → end ≡ at + 1 + length (up_to_space (drop (at + 1) s))
        → Some v ≡ numeral_value (up_to_space (drop (at + 1) s)) → Reading s count (set words i v) end (i + 1)
    next l q end v e d = record {
      few = w.few;
      inside = fits end e l;
      rest = w.rest ∙ words_next s at _ _ one l end v e d q;
      held = w.held ∙ ap (sets words i) (values_next s at _ _ one l end v e d)
          ∙ ap (λ (m : ℕ). sets (set words i v) m (words_in (count - (i + 1)) (drop end s))) (sym (add-one i));
    }

  pub turn : Turn s count words at i
  turn = record {
    short = λ k l. scan_no (words_short s at _ _ (one k) l);
    apart = λ k l h. scan_no (words_apart s at _ _ (one k) l h);
    fits = fits;
    bad = λ k l end e f. scan_no (words_bad s at _ _ (one k) l (f ∙ ap numeral_value (part_word s (at + 1) end e)));
    next = λ k l q end v e f. next k l q end v e (f ∙ ap numeral_value (part_word s (at + 1) end e));
    more = λ k h. scan_no (no_more k h);
    done = scan_yes;
  }

-- ---- a line

pub few_words : (kind : Kind) → word_count kind ≤ record_size
few_words Open = omega arith
few_words Vertex = omega arith
few_words First = omega arith
few_words Timeout = omega arith
few_words NoVote = omega arith
