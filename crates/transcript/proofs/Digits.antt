-- Laws of printed numbers, and of text that is appended in a buffer. Assumes nothing.
use mathlib.Core.Path.{◌≡◌, refl, sym, ap, ap₂, ◌∙◌}
use mathlib.Core.Bool.{true, false}
use mathlib.Core.Logic.{◌⊎◌, inl, inr}
use mathlib.Core.List.{List, [], ◌∷◌, ◌++◌, append_assoc, append-nil}
use Prim.Native.Nat.{ℕ, zero, suc, ◌+◌, ◌*◌, ◌/◌, ◌%◌, ◌≤◌, ◌<◌}
use native.Mathlib.Numerals.{add-one}
use native.Mathlib.Omega.{arith}
use lib.Dec.{eqb}
use lib.ListN.{length, length-append, length-set, length-take, get_or, drop, take, set}
use lib.Seq.{drop-cons, drop-set-lt, get_or-set_same, append_snoc, take-suc}
use borrow.Author.Tests.{eq-eqb, ne_eqb}
use Rattle.transcript.specs.Text.{item_size, digits_from, decimal, items, Appended}
use Rattle.record.proofs.Booleans.{which, cond_true, cond_false}
use Rattle.transcript.specs.Grammar.{space, zero_digit}

-- ---- digits

pub digits_done : (k n : ℕ) → n ≡ 0 → digits_from k n ≡ []
unfolding digits_from
digits_done zero n e = refl
digits_done (suc k) n e = cond_true _ _ (eq-eqb n 0 e)

pub digits_out : (k n : ℕ) → k ≡ 0 → digits_from k n ≡ []
unfolding digits_from
digits_out k n e = rw e refl

pub digits_next : (j k n : ℕ) → k ≡ suc j → (n ≡ 0 → ⊥) → digits_from k n ≡ digits_from j (n / 10) ++ (zero_digit + n % 10) ∷ []
unfolding digits_from
digits_next j k n p h = rw p (cond_false _ _ (ne_eqb n 0 h))

-- what stands from j on after a store there
pub drop_set_here : (s : List ℕ) (j b : ℕ) → j < length s → drop j (set s j b) ≡ b ∷ drop (suc j) s
drop_set_here s j b l =
    drop-cons (set s j b) j 0 (rw (length-set s j b) l)
    ∙ ap₂ (λ (x : ℕ) (r : List ℕ). x ∷ r) (get_or-set_same s j b 0 l) (drop-set-lt (suc j) s j b (omega arith))

-- a turn of the loop of `digits_of`
pub digits_turn : (all s : List ℕ) (j k n b : ℕ) → k ≡ suc j → j < length s → (n ≡ 0 → ⊥) → b ≡ zero_digit + n % 10 → digits_from k n ++ drop k s ≡ all
    → digits_from j (n / 10) ++ drop j (set s j b) ≡ all
digits_turn all s j k n b p l h e d =
    ap (λ (r : List ℕ). digits_from j (n / 10) ++ r) (drop_set_here s j b l)
    ∙ sym (append_snoc (digits_from j (n / 10)) b (drop (suc j) s))
    ∙ ap (λ (x : ℕ). (digits_from j (n / 10) ++ x ∷ []) ++ drop (suc j) s) e
    ∙ ap (λ (r : List ℕ). r ++ drop (suc j) s) (sym (digits_next j k n p h))
    ∙ ap (λ (m : ℕ). digits_from k n ++ drop m s) (sym p)
    ∙ d

pub decimal_zero : (n : ℕ) → n ≡ 0 → zero_digit ∷ [] ≡ decimal n
unfolding decimal
decimal_zero n e = sym (cond_true _ _ (eq-eqb n 0 e))

pub decimal_more : (n : ℕ) → (n ≡ 0 → ⊥) → digits_from 10 n ≡ decimal n
unfolding decimal
decimal_more n h = sym (cond_false _ _ (ne_eqb n 0 h))

-- where no digit is left to be put before those from i on
pub shown : (n : ℕ) (s : List ℕ) (i rest : ℕ) → digits_from i rest ≡ [] → (n ≡ 0 → ⊥) → digits_from i rest ++ drop i s ≡ digits_from 10 n → drop i s ≡ decimal n
shown n s i rest e h d = ap (λ (r : List ℕ). r ++ drop i s) (sym e) ∙ d ∙ decimal_more n h

digits_few : (k n : ℕ) → length (digits_from k n) ≤ k
unfolding digits_from
digits_few zero n = omega arith
digits_few (suc k) n = go (which (eqb n 0)) (digits_few k (n / 10))
  where
    go : (eqb n 0 ≡ true) ⊎ (eqb n 0 ≡ false) → length (digits_from k (n / 10)) ≤ k → length (digits_from (suc k) n) ≤ suc k
    go (inl e) h = rw e (omega arith)
    go (inr e) h = rw e (omega (arith, length-append (digits_from k (n / 10)) ((zero_digit + n % 10) ∷ [])))

pub decimal_few : (n : ℕ) → length (decimal n) ≤ 10
unfolding decimal
decimal_few n = go (which (eqb n 0)) (digits_few 10 n)
  where
    go : (eqb n 0 ≡ true) ⊎ (eqb n 0 ≡ false) → length (digits_from 10 n) ≤ 10 → length (decimal n) ≤ 10
    go (inl e) h = rw e (omega arith)
    go (inr e) h = rw e h

-- ---- items

pub items_none : items [] ≡ []
unfolding items
items_none = refl

pub items_one : (s : List ℕ) (n : ℕ) → items (s ++ n ∷ []) ≡ items s ++ space ∷ decimal n
unfolding items
items_one [] n = append-nil (space ∷ decimal n)
items_one (m ∷ s) n = ap (λ (r : List ℕ). (space ∷ decimal m) ++ r) (items_one s n) ∙ sym (append_assoc (space ∷ decimal m) (items s) (space ∷ decimal n))

pub items_few : (s : List ℕ) → length (items s) ≤ item_size * length s
unfolding items
items_few [] = omega arith
items_few (n ∷ s) = omega (arith, length-append (space ∷ decimal n) (items s), decimal_few n, items_few s)

-- ---- appended text

pub appended_none : (d : List ℕ) (at : ℕ) → Appended d at [] d at
appended_none d at = record { size = refl; last = omega arith; held = sym (append-nil (take at d)) }

pub appended_then : {d e f s t : List ℕ} {a b c : ℕ} → Appended d a s e b → Appended e b t f c → Appended d a (s ++ t) f c
appended_then {d} {e} {f} {s} {t} {a} {b} {c} p q = record {
  size = q.size ∙ p.size;
  last = omega (arith, p.last, q.last, length-append s t);
  held = q.held ∙ ap (λ (r : List ℕ). r ++ t) p.held ∙ append_assoc (take a d) s t;
}

pub appended_fits : {d e s : List ℕ} {a b : ℕ} → Appended d a s e b → a ≤ length d → b ≤ length e
appended_fits {d} {e} {s} {a} {b} p l =
    omega (arith, p.last, ap length p.held, length-append (take a d) s, length-take a d, length-take b e)

-- a turn of the loop of `put_items`: a space, and the digits of n
pub appended_item : {d e f g : List ℕ} (t : List ℕ) (at i b c k : ℕ) → i < length t → Appended d at (items (take i t)) e b
    → Appended e b (space ∷ []) f c → Appended f c (decimal (get_or t i 0)) g k
    → Appended d at (items (take (i + 1) t)) g k
appended_item t at i b c k l p q r =
    let one : items (take (i + 1) t) ≡ items (take i t) ++ space ∷ decimal (get_or t i 0) = rw (add-one i) (ap items (take-suc t i 0 l)
    ∙ items_one (take i t) (get_or t i 0)) in
    rw one (appended_then p (appended_then q r))
