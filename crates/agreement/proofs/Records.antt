-- Records found in a list of records. Assumes nothing.
use mathlib.Core.Path.{◌≡◌, refl, sym, ap, ◌∙◌}
use mathlib.Core.Bool.{true, false, ◌&&◌, false≢true}
use mathlib.Core.Logic.{◌⊎◌, inl, inr}
use mathlib.Core.List.Memᴰ
use mathlib.Core.List.{List, [], ◌∷◌}
use Prim.Native.Nat.{ℕ}
use lib.Dec.{eqb}
use borrow.Author.Tests.{eqb-true, eq-eqb}
use Rattle.record.specs.Layout.{round_of, source_of, body_of}
use Rattle.record.proofs.Booleans.{which, never, and_left, and_right, and_both, cond_true, cond_false}
use Rattle.protocol.specs.Dag.{records_of, present}
use Rattle.pending.specs.Buffer.{In}

-- the record of a list that stands for a round and a source
pub record Found (l : List (List ℕ)) (r p : ℕ) : Type 0 where
  pub rec : List ℕ
  pub there : In rec l
  pub round : round_of rec ≡ r
  pub source : source_of rec ≡ p
  pub body : records_of l r p ≡ body_of rec

-- none
pub records_none : (r p : ℕ) → records_of [] r p ≡ []
unfolding records_of
records_none r p = refl

-- the one in front
pub records_here : (x : List ℕ) (l : List (List ℕ)) → records_of (x ∷ l) (round_of x) (source_of x) ≡ body_of x
unfolding records_of
records_here x l = cond_true _ _ (and_both (eq-eqb (round_of x) (round_of x) refl) (eq-eqb (source_of x) (source_of x) refl))

-- one behind it
pub records_there : (x : List ℕ) (l : List (List ℕ)) (r p : ℕ) → (eqb (round_of x) r && eqb (source_of x) p) ≡ false → records_of (x ∷ l) r p ≡ records_of l r p
unfolding records_of
records_there x l r p e = cond_false _ _ e

-- what is found stands in the list, and is of the round and the source looked for
pub find_in : (l : List (List ℕ)) (r p : ℕ) → present (records_of l r p) ≡ true → Found l r p
unfolding records_of
find_in [] r p h = absurd (false≢true h)
find_in (x ∷ l) r p h = go (which (eqb (round_of x) r && eqb (source_of x) p)) (find_in l r p)
  where
    go : ((eqb (round_of x) r && eqb (source_of x) p) ≡ true) ⊎ ((eqb (round_of x) r && eqb (source_of x) p) ≡ false)
        → (present (records_of l r p) ≡ true → Found l r p)
        → Found (x ∷ l) r p
    go (inl e) ih = record {
      rec = x;
      there = Memᴰ.head refl;
      round = eqb-true _ _ (and_left _ _ e);
      source = eqb-true _ _ (and_right (eqb (round_of x) r) _ e);
      body = cond_true _ _ e;
    }
    go (inr e) ih =
        let f = ih (rw e at h) in
        record { rec = f.rec; there = Memᴰ.tail f.there; round = f.round; source = f.source; body = cond_false _ _ e ∙ f.body }

-- a record of the list with a body is found, or another of its round and source
pub in_find : (x : List ℕ) (l : List (List ℕ)) → In x l → ((y : List ℕ) → In y l → present (body_of y) ≡ true)
    → present (records_of l (round_of x) (source_of x)) ≡ true
unfolding records_of
in_find x [] h b = absurd (Memᴰ.not-nil h)
in_find x (y ∷ l) h b = go (which (eqb (round_of y) (round_of x) && eqb (source_of y) (source_of x))) (Memᴰ.cases_cons h)
    (λ m. in_find x l m (λ z k. b z (Memᴰ.tail k)))
  where
    go : ((eqb (round_of y) (round_of x) && eqb (source_of y) (source_of x)) ≡ true)
        ⊎ ((eqb (round_of y) (round_of x) && eqb (source_of y) (source_of x)) ≡ false)
        → (x ≡ y) ⊎ In x l → (In x l → present (records_of l (round_of x) (source_of x)) ≡ true)
        → present (records_of (y ∷ l) (round_of x) (source_of x)) ≡ true
    go (inl e) m ih = rw e (b y (Memᴰ.head refl))
    go (inr e) (inl s) ih = never (and_both (eq-eqb _ _ (ap round_of (sym s))) (eq-eqb _ _ (ap source_of (sym s)))) e
    go (inr e) (inr m) ih = rw e (ih m)

-- what holds of a record's own round and source, and of all others
pub by_record : (x : List ℕ) (C : ℕ → ℕ → Type 0) → C (round_of x) (source_of x)
    → ((r p : ℕ) → (eqb (round_of x) r && eqb (source_of x) p) ≡ false → C r p) → (r p : ℕ) → C r p
by_record x C here there r p = go (which (eqb (round_of x) r && eqb (source_of x) p))
  where
    go : ((eqb (round_of x) r && eqb (source_of x) p) ≡ true) ⊎ ((eqb (round_of x) r && eqb (source_of x) p) ≡ false) → C r p
    go (inl e) = rw (← eqb-true (round_of x) r (and_left _ _ e), ← eqb-true (source_of x) p (and_right (eqb (round_of x) r) _ e)) here
    go (inr e) = there r p e

-- a record of a round and source not yet there hides none
pub records_more : (x : List ℕ) (l : List (List ℕ)) → present (records_of l (round_of x) (source_of x)) ≡ false → (r p : ℕ) → present (records_of l r p) ≡ true
    → records_of l r p ≡ records_of (x ∷ l) r p
records_more x l new = by_record x (λ r p. present (records_of l r p) ≡ true → records_of l r p ≡ records_of (x ∷ l) r p)
    (λ e. never e new) (λ r p d e. sym (records_there x l r p d))
