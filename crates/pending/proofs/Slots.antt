-- The slots of a buffer: its records one by one, a slot written over, and the words of given records. Assumes nothing.
use mathlib.Core.Path.{◌≡◌, refl, sym, ap, ap₂, ◌∙◌}
use mathlib.Core.Bool.{Bool, false, ◌||◌}
use mathlib.Core.Logic.{◌⊎◌, inl, inr, ⊎_elim}
use mathlib.Core.List.Memᴰ
use mathlib.Core.List.{List, [], ◌∷◌, ◌++◌, append_assoc}
use Prim.Native.Nat.{ℕ, zero, suc, ◌+◌, ◌-◌, ◌*◌, ◌≤◌, ◌<◌}
use native.Mathlib.Numerals.{add-one}
use native.Mathlib.Omega.{arith}
use lib.ListN.{length, get_or, take, drop, replicate, length-drop, length-append, length-replicate, get_or-replicate, take-append-drop}
use lib.Seq.{take_at, drop_at, drop-drop, get_or-take, get_or-drop, length-take-le, take-take, ext_get_or, paste, length-paste, drop-cons, get_or-append-add}
use lib.Dec.{ltb}
use borrow.Author.Tests.{ltb-true, ltb-false}
use Rattle.record.specs.Layout.{record_size}
use Rattle.record.proofs.Booleans.{which}
use Rattle.ordering.proofs.Copying.{paste_before, paste_after, paste_part}
use Rattle.pending.specs.Layout.{buffer_size, buffer_slots, slot_at}
use Rattle.pending.specs.Buffer.{In, count_of, record_at, records_from, records_in, words_of, buffer_of}

-- two numbers that differ
pub apart : (i j : ℕ) → (i ≡ j → ⊥) → (i < j) ⊎ (j < i)
apart i j d = ⊎_elim (λ e. inl (ltb-true i j e))
    (λ e. ⊎_elim (λ f. inr (ltb-true j i f)) (λ f. absurd (d (omega (arith, ltb-false i j e, ltb-false j i f)))) (which (ltb j i))) (which (ltb i j))

-- neither of two tests
pub or-false : {a b : Bool} → a ≡ false → b ≡ false → (a || b) ≡ false
or-false d e = rw (d, e)

-- ---- reading

-- a slot lent as a part
pub slot_part : (s : List ℕ) (at j : ℕ) → at ≡ slot_at j → take (at + record_size - at) (drop at s) ≡ record_at s j
slot_part s at j e =
    let n : at + record_size - at ≡ record_size = omega arith in
    ap₂ (λ (k i : ℕ). take k (drop i s)) n e

-- the words of a slot are as many as a record has
pub slot_size : (s : List ℕ) (j : ℕ) → length s ≡ buffer_size → j < buffer_slots → length (record_at s j) ≡ record_size
slot_size s j e h = length-take-le record_size (drop (slot_at j) s) (omega (arith, length-drop (slot_at j) s))

-- from slot j up to the count: the record there, and those after it
pub records_at : (s : List ℕ) (j c : ℕ) → j < c → records_from s j (c - j) ≡ record_at s j ∷ records_from s (j + 1) (c - (j + 1))
unfolding records_from
records_at s j c h =
    let n : c - j ≡ suc (c - (j + 1)) = omega arith in
    ap (records_from s j) n ∙ ap (λ (i : ℕ). record_at s j ∷ records_from s i (c - (j + 1))) (sym (add-one j))

-- and none at its end
pub records_end : (s : List ℕ) (j c : ℕ) → c ≤ j → records_from s j (c - j) ≡ []
unfolding records_from
records_end s j c h = let n : c - j ≡ 0 = omega arith in ap (records_from s j) n

pub records_all : (s : List ℕ) (c : ℕ) → records_from s 0 (c - 0) ≡ records_from s 0 c
records_all s c = let n : c - 0 ≡ c = omega arith in ap (records_from s 0) n

-- as many as were asked for
pub records_length : (s : List ℕ) (j k : ℕ) → length (records_from s j k) ≡ k
unfolding records_from
records_length s j zero = refl
records_length s j (suc k) = ap suc (records_length s (suc j) k)

-- one more at the end
pub records_more : (s : List ℕ) (j k : ℕ) → records_from s j (suc k) ≡ records_from s j k ++ (record_at s (j + k) ∷ [])
unfolding records_from
records_more s j zero = let n : j + 0 ≡ j = omega arith in ap (λ (i : ℕ). record_at s i ∷ []) (sym n)
records_more s j (suc k) =
    let n : suc j + k ≡ j + suc k = omega arith in
    ap (λ (x : List (List ℕ)). record_at s j ∷ x)
    (records_more s (suc j) k ∙ ap (λ (i : ℕ). records_from s (suc j) k ++ (record_at s i ∷ [])) n)

-- those of two buffers are the same where their slots are
pub records_same : (s t : List ℕ) (j i k : ℕ) → ((d : ℕ) → d < k → record_at s (j + d) ≡ record_at t (i + d)) → records_from s j k ≡ records_from t i k
unfolding records_from
records_same s t j i zero e = refl
records_same s t j i (suc k) e =
    let a : j + 0 ≡ j = omega arith in
    let b : i + 0 ≡ i = omega arith in
    ap₂ (λ (x : List ℕ) (y : List (List ℕ)). x ∷ y) (rw (a, b) at (e 0 (omega arith))) (records_same s t (suc j) (suc i) k later)
  where
    later : (d : ℕ) → d < k → record_at s (suc j + d) ≡ record_at t (suc i + d)
    later d h =
        let a : suc j + d ≡ j + suc d = omega arith in
        let b : suc i + d ≡ i + suc d = omega arith in
        rw (a, b) (e (suc d) (omega arith))

-- in two steps
pub records_join : (s : List ℕ) (j a b : ℕ) → records_from s j (a + b) ≡ records_from s j a ++ records_from s (j + a) b
unfolding records_from
records_join s j zero b =
    let n : 0 + b ≡ b = omega arith in
    let m : j + 0 ≡ j = omega arith in
    ap₂ (λ (x i : ℕ). records_from s i x) n (sym m)
records_join s j (suc a) b =
    let n : suc a + b ≡ suc (a + b) = omega arith in
    let m : suc j + a ≡ j + suc a = omega arith in
    ap (records_from s j) n
    ∙ ap (λ (x : List (List ℕ)). record_at s j ∷ x) (records_join s (suc j) a b ∙ ap (λ (i : ℕ). records_from s (suc j) a ++ records_from s i b) m)

-- ---- a slot is decided by its words

pub slot_word : (s : List ℕ) (j i : ℕ) → i < record_size → get_or (record_at s j) i 0 ≡ get_or s (slot_at j + i) 0
slot_word s j i h = get_or-take record_size (drop (slot_at j) s) i 0 h ∙ get_or-drop (slot_at j) s i 0

pub slot_same : (s t : List ℕ) (j : ℕ) → length s ≡ buffer_size → length t ≡ buffer_size → j < buffer_slots
    → ((i : ℕ) → slot_at j ≤ i → i < slot_at (j + 1) → get_or s i 0 ≡ get_or t i 0) → record_at s j ≡ record_at t j
slot_same s t j a b h e = ext_get_or 0 (record_at s j) (record_at t j) (slot_size s j a h ∙ sym (slot_size t j b h))
    (λ i k.
    let q : i < record_size = omega (arith, slot_size s j a h) in
    slot_word s j i q ∙ e (slot_at j + i) (omega arith) (omega arith) ∙ sym (slot_word t j i q))

-- a word outside of what is written over
pub pasted_other : (s : List ℕ) (at : ℕ) (rec : List ℕ) (k i : ℕ) → at + k ≤ length s → k ≤ length rec → (i < at) ⊎ (at + k ≤ i)
    → get_or (paste s at rec k) i 0 ≡ get_or s i 0
pasted_other s at rec k i fits long =
    let same : paste s at rec k ≡ paste s at (take k rec) k = ap (λ (x : List ℕ). take at s ++ x ++ drop (at + k) s) (sym (take-take k k rec (omega arith))) in
    let size : length (take k rec) ≡ k = length-take-le k rec long in
    ⊎_elim (λ h. ap (λ (x : List ℕ). get_or x i 0) same ∙ paste_before s at (take k rec) k fits size i h)
    (λ h. ap (λ (x : List ℕ). get_or x i 0) same ∙ paste_after s at (take k rec) k fits size i h)

-- ---- a slot written over

module _ (s : List ℕ) (j : ℕ) (rec : List ℕ) (size : length s ≡ buffer_size) (low : j < buffer_slots) (long : length rec ≡ record_size) where
  abbrev over : List ℕ
  over = paste s (slot_at j) rec record_size

  fits : slot_at j + record_size ≤ length s
  fits = omega arith

  pub over_size : length over ≡ buffer_size
  over_size = length-paste s (slot_at j) rec record_size fits (omega arith) ∙ size

  pub over_here : record_at over j ≡ rec
  over_here = paste_part s (slot_at j) rec record_size fits long

  pub over_before : (i : ℕ) → i < slot_at j → get_or over i 0 ≡ get_or s i 0
  over_before = paste_before s (slot_at j) rec record_size fits long

  pub over_after : (i : ℕ) → slot_at (j + 1) ≤ i → get_or over i 0 ≡ get_or s i 0
  over_after i h = paste_after s (slot_at j) rec record_size fits long i (omega arith)

  pub over_there : (i : ℕ) → i < buffer_slots → (i ≡ j → ⊥) → record_at over i ≡ record_at s i
  over_there i h d = slot_same over s i over_size size h word
    where
      word : (k : ℕ) → slot_at i ≤ k → k < slot_at (i + 1) → get_or over k 0 ≡ get_or s k 0
      word k a b = ⊎_elim (λ q. over_before k (omega arith)) (λ q. over_after k (omega arith)) (apart i j d)

-- ---- the words of given records

-- every record has its size
abbrev pub Long : List (List ℕ) → Type 0
Long recs = (rec : List ℕ) → In rec recs → length rec ≡ record_size

words_length : (recs : List (List ℕ)) → Long recs → length (words_of recs) ≡ record_size * length recs
unfolding words_of
words_length [] L = refl
words_length (rec ∷ recs) L =
    let a = L rec (Memᴰ.head refl) in
    let b = words_length recs (λ x h. L x (Memᴰ.tail h)) in
    omega (arith, length-append rec (words_of recs), a, b)

-- the words from a slot on are those of its records and of what follows
words_from : (s : List ℕ) (j k : ℕ) → drop (slot_at j) s ≡ words_of (records_from s j k) ++ drop (slot_at (j + k)) s
unfolding words_of records_from
words_from s j zero = let n : j ≡ j + 0 = omega arith in ap (λ (i : ℕ). drop (slot_at i) s) n
words_from s j (suc k) =
    let n : slot_at j + record_size ≡ slot_at (suc j) = omega arith in
    let m : suc j + k ≡ j + suc k = omega arith in
    sym (take-append-drop record_size (drop (slot_at j) s))
    ∙ ap (λ (x : List ℕ). record_at s j ++ x) (drop-drop record_size (slot_at j) s ∙ ap (λ (i : ℕ). drop i s) n ∙ words_from s (suc j) k)
    ∙ sym (append_assoc (record_at s j) (words_of (records_from s (suc j) k)) (drop (slot_at (suc j + k)) s))
    ∙ ap (λ (i : ℕ). (record_at s j ++ words_of (records_from s (suc j) k)) ++ drop (slot_at i) s) m

-- and the other way
records_of_words : (s : List ℕ) (j : ℕ) (recs : List (List ℕ)) (z : List ℕ) → drop (slot_at j) s ≡ words_of recs ++ z → Long recs
    → records_from s j (length recs) ≡ recs
unfolding words_of records_from
records_of_words s j [] z e L = refl
records_of_words s j (rec ∷ recs) z e L =
    let a = L rec (Memᴰ.head refl) in
    let n : slot_at (suc j) ≡ slot_at j + record_size = omega arith in
    let d : drop (slot_at j) s ≡ rec ++ (words_of recs ++ z) = e ∙ append_assoc rec (words_of recs) z in
    ap₂ (λ (x : List ℕ) (y : List (List ℕ)). x ∷ y) (ap (take record_size) d ∙ take_at rec (words_of recs ++ z) record_size a)
    (records_of_words s (suc j) recs z
    (ap (λ (i : ℕ). drop i s) n ∙ sym (drop-drop record_size (slot_at j) s) ∙ ap (drop record_size) d ∙ drop_at rec (words_of recs ++ z) record_size a)
    (λ x h. L x (Memᴰ.tail h)))

-- the words after the records are 0
abbrev pub Zeros : List ℕ → ℕ → Type 0
Zeros s c = (i : ℕ) → slot_at c ≤ i → i < buffer_size → get_or s i 0 ≡ 0

-- a buffer is the one of its records
pub buffer_laid : (s : List ℕ) → length s ≡ buffer_size → count_of s ≤ buffer_slots → Zeros s (count_of s) → s ≡ buffer_of (records_in s)
unfolding buffer_of
buffer_laid s size few zeros =
    drop-cons s 0 0 (omega arith)
    ∙ ap (λ (x : List ℕ). count_of s ∷ x) (words_from s 0 (count_of s)
    ∙ ap (λ (x : List ℕ). words_of (records_in s) ++ x) (ap (λ (i : ℕ). drop (slot_at i) s) n ∙ blank))
    ∙ ap (λ (k : ℕ). k ∷ (words_of (records_in s) ++ replicate (buffer_size - slot_at k) 0)) (sym (records_length s 0 (count_of s)))
  where
    n : 0 + count_of s ≡ count_of s
    n = omega arith

    blank : drop (slot_at (count_of s)) s ≡ replicate (buffer_size - slot_at (count_of s)) 0
    blank =
        let a = length-drop (slot_at (count_of s)) s in
        let b = length-replicate {A = ℕ} (buffer_size - slot_at (count_of s)) 0 in
        ext_get_or 0 (drop (slot_at (count_of s)) s) (replicate (buffer_size - slot_at (count_of s)) 0) (omega arith)
        (λ i h. get_or-drop (slot_at (count_of s)) s i 0 ∙ zeros (slot_at (count_of s) + i) (omega arith) (omega arith)
        ∙ sym (get_or-replicate (buffer_size - slot_at (count_of s)) i 0 0 (omega arith)))

-- what is known of the buffer of given records
pub record Laid (recs : List (List ℕ)) : Type 0 where
  pub size : length (buffer_of recs) ≡ buffer_size
  pub count : count_of (buffer_of recs) ≡ length recs
  pub records : records_in (buffer_of recs) ≡ recs
  pub zeros : Zeros (buffer_of recs) (length recs)

pub laid : (recs : List (List ℕ)) → Long recs → length recs ≤ buffer_slots → Laid recs
unfolding buffer_of
laid recs L few =
    let w = words_length recs L in
    let z : List ℕ = replicate (buffer_size - slot_at (length recs)) 0 in
    let k : length z ≡ buffer_size - slot_at (length recs) = length-replicate {A = ℕ} (buffer_size - slot_at (length recs)) 0 in
    record {
      size = omega (arith, length-append (words_of recs) z);
      count = refl;
      records = records_of_words (length recs ∷ (words_of recs ++ z)) 0 recs z refl L;
      zeros = λ i a b.
          let n : i ≡ suc (length (words_of recs) + (i - slot_at (length recs))) = omega arith in
          ap (λ (x : ℕ). get_or (length recs ∷ (words_of recs ++ z)) x 0) n
          ∙ get_or-append-add (words_of recs) z (i - slot_at (length recs)) 0
          ∙ get_or-replicate (buffer_size - slot_at (length recs)) (i - slot_at (length recs)) 0 0 (omega arith);
    }
