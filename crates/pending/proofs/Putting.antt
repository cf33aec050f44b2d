-- A record put in among those that rise, and found there. Assumes nothing.
use mathlib.Core.Path.{◌≡◌, refl, sym, ap, ◌∙◌}
use mathlib.Core.Bool.{Bool, true, false, false≢true}
use mathlib.Core.Logic.{◌⊎◌, inl, inr, ⊎_elim}
use mathlib.Core.List.Memᴰ
use mathlib.Core.List.{List, [], ◌∷◌}
use Prim.Native.Nat.{ℕ, suc, ◌<◌}
use native.Mathlib.Omega.{arith}
use lib.Dec.{eqb, ltb}
use lib.ListN.{length, get_or}
use lib.Seq.{ext_get_or}
use borrow.Author.Tests.{eqb-true, eqb-false, eq-eqb, ltb-true, ltb-false}
use Rattle.record.specs.Refusals.{number_of}
use Rattle.record.specs.Layout.{record_size}
use Rattle.record.specs.Questions.{record_refusal}
use Rattle.record.proofs.Booleans.{which, or_cases, or_neither}
use Rattle.record.proofs.Below.{all_elim, all_intro}
use Rattle.pending.specs.Buffer.{In, record_id, same_record, same_id, some, put_in, records_ok}
use Rattle.pending.proofs.Slots.{apart}
use Rattle.pending.proofs.Order.{First, ok_first, first_ok}

-- ---- the same words

pub same_words : (rec other : List ℕ) → length rec ≡ record_size → length other ≡ record_size → same_record rec other ≡ true → rec ≡ other
unfolding same_record
same_words rec other a b e = ext_get_or 0 rec other (a ∙ sym b)
    (λ i h. eqb-true _ _ (all_elim record_size (λ k. eqb (get_or rec k 0) (get_or other k 0)) e i (omega arith)))

pub same_self : (rec : List ℕ) → same_record rec rec ≡ true
unfolding same_record
same_self rec = all_intro record_size _ (λ i h. eq-eqb (get_or rec i 0) (get_or rec i 0) refl)

-- ---- a record that passes a test

-- one of the list
pub record One (t : List ℕ → Bool) (recs : List (List ℕ)) : Type 0 where
  pub rec : List ℕ
  pub there : In rec recs
  pub passes : t rec ≡ true

pub some_one : (t : List ℕ → Bool) (recs : List (List ℕ)) → some t recs ≡ true → One t recs
unfolding some
some_one t [] e = absurd (false≢true e)
some_one t (rec ∷ recs) e = ⊎_elim (λ d. record { rec = rec; there = Memᴰ.head refl; passes = d })
    (λ d. let w = some_one t recs d in record { rec = w.rec; there = Memᴰ.tail w.there; passes = w.passes }) (or_cases (t rec) (some t recs) e)

-- none
pub some_off : (t : List ℕ → Bool) (recs : List (List ℕ)) → some t recs ≡ false → (rec : List ℕ) → In rec recs → t rec ≡ false
unfolding some
some_off t [] e rec h = absurd (Memᴰ.not-nil h)
some_off t (first ∷ recs) e rec h =
    let w = or_neither (t first) (some t recs) e in
    ⊎_elim (λ d. ap t d ∙ w.0) (some_off t recs w.1 rec) (Memᴰ.cases_cons h)

-- ---- a record put in

pub put_length : (rec : List ℕ) (recs : List (List ℕ)) → length (put_in rec recs) ≡ suc (length recs)
unfolding put_in
put_length rec [] = refl
put_length rec (other ∷ recs) = go (which (ltb (record_id other) (record_id rec))) (put_length rec recs)
  where
    go : (ltb (record_id other) (record_id rec) ≡ true) ⊎ (ltb (record_id other) (record_id rec) ≡ false) → length (put_in rec recs) ≡ suc (length recs)
        → length (put_in rec (other ∷ recs)) ≡ suc (suc (length recs))
    go (inl t) ih = rw t (ap suc ih)
    go (inr t) ih = rw t

-- it is there, and so are the others
pub put_here : (rec : List ℕ) (recs : List (List ℕ)) → In rec (put_in rec recs)
unfolding put_in
put_here rec [] = Memᴰ.head refl
put_here rec (other ∷ recs) = go (which (ltb (record_id other) (record_id rec))) (put_here rec recs)
  where
    go : (ltb (record_id other) (record_id rec) ≡ true) ⊎ (ltb (record_id other) (record_id rec) ≡ false) → In rec (put_in rec recs)
        → In rec (put_in rec (other ∷ recs))
    go (inl t) ih = rw t (Memᴰ.tail ih)
    go (inr t) ih = rw t (Memᴰ.head refl)

pub put_others : (rec x : List ℕ) (recs : List (List ℕ)) → In x recs → In x (put_in rec recs)
unfolding put_in
put_others rec x [] h = absurd (Memᴰ.not-nil h)
put_others rec x (other ∷ recs) h = go (which (ltb (record_id other) (record_id rec))) (put_others rec x recs) (Memᴰ.cases_cons h)
  where
    go : (ltb (record_id other) (record_id rec) ≡ true) ⊎ (ltb (record_id other) (record_id rec) ≡ false) → (In x recs → In x (put_in rec recs))
        → (x ≡ other) ⊎ In x recs → In x (put_in rec (other ∷ recs))
    go (inl t) ih (inl d) = rw t (Memᴰ.head d)
    go (inl t) ih (inr m) = rw t (Memᴰ.tail (ih m))
    go (inr t) ih m = rw t (Memᴰ.tail h)

-- they pass and rise with it, where none had its id
pub put_ok : (n low : ℕ) (rec : List ℕ) (recs : List (List ℕ)) → number_of (record_refusal n rec) ≡ 0 → low < record_id rec → records_ok n low recs ≡ true
    → some (same_id rec) recs ≡ false → records_ok n low (put_in rec recs) ≡ true
unfolding put_in some records_ok
put_ok n low rec [] a b e d = first_ok n low rec [] (record { passes = a; above = b; others = e })
put_ok n low rec (other ∷ recs) a b e d =
    let f = ok_first n low other recs e in
    let w = or_neither (same_id rec other) (some (same_id rec) recs) d in
    go f w.0 (which (ltb (record_id other) (record_id rec))) (λ h. put_ok n (record_id other) rec recs a h f.others w.1)
  where
    go : First n low other recs → same_id rec other ≡ false → (ltb (record_id other) (record_id rec) ≡ true) ⊎ (ltb (record_id other) (record_id rec) ≡ false)
        → (record_id other < record_id rec → records_ok n (record_id other) (put_in rec recs) ≡ true) → records_ok n low (put_in rec (other ∷ recs)) ≡ true
    go f new (inl t) ih = rw t (first_ok n low other (put_in rec recs) (record { passes = f.passes; above = f.above; others = ih (ltb-true _ _ t) }))
    go f new (inr t) ih =
        let h : record_id rec < record_id other = ⊎_elim (λ q. q) (λ q. absurd (omega (arith, ltb-false (record_id other) (record_id rec) t)))
        (apart (record_id rec) (record_id other) (eqb-false _ _ new)) in
        rw t (first_ok n low rec (other ∷ recs) (record {
          passes = a;
          above = b;
          others = first_ok n (record_id rec) other recs (record { passes = f.passes; above = h; others = f.others });
        }))
