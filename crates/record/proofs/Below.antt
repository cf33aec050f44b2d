-- Laws of the combinators of `specs/Below`. Assumes nothing.
use mathlib.Core.Path.{◌≡◌, refl, sym, ap, ap₂, ◌∙◌}
use mathlib.Core.Bool.{Bool, true, false, cond, not, ◌&&◌, true≢false, false≢true, ◌||◌}
use mathlib.Core.Logic.{◌⊎◌, inl, inr, ⊎_elim}
use mathlib.Core.List.{[], ◌∷◌, ◌++◌}
use Prim.Native.Nat.{ℕ, zero, suc, ◌+◌, ◌-◌, ◌*◌, ◌≤◌, ◌<◌}
use native.Mathlib.Nat.{eq-or-lt_of_le, le_of_suc-le-suc, not-suc-le-zero}
use native.Mathlib.Numerals.{add-one}
use native.Mathlib.Omega.{arith}
use lib.Dec.{ltb}
use denote.Param.Members.{Mut}
use Rattle.std.specs.Fn.{Called, CalledAt}
use Rattle.std.specs.Iterator.{ChecksAll, FindsItem}
use Rattle.std.specs.List.{list_all, range_with_len}
use Rattle.std.specs.Option.{MatchOption, unwrap_or}
use Rattle.std.proofs.Common.{Option, None, Some, Bor, is_some}
use Rattle.std.proofs.iter.Yields.{nat_range_steps}
use Rattle.std.proofs.lemmas.Iterator.{YieldsList-from_range, first_from_Range}
use Rattle.std.proofs.lemmas.Iterator.Search.{all_from_yields_List}
use Rattle.std.specs.declared.ops.Range.{Range}
use borrow.Author.Tests.{ltb-true, ltb-false, lt-ltb, le-ltb}
use Rattle.record.specs.Below.{all, any, count, select, least, if_below}
use Rattle.record.proofs.Booleans.{which, and_left, and_right, and_both, and_fails_left, and_fails_right, or_cases, or_left, or_right}
use Rattle.record.proofs.Booleans.{bool_ext, cond_false}

-- ---- all

pub all_none : (t : ℕ → Bool) → all 0 t ≡ true
unfolding all
all_none t = refl

-- a turn of a rising loop
pub all_more : (i : ℕ) (t : ℕ → Bool) → all i t ≡ true → t i ≡ true → all (i + 1) t ≡ true
unfolding all
all_more i t h e = rw (add-one i) (and_both h e)

pub all_stop : (k : ℕ) (t : ℕ → Bool) (i : ℕ) → i < k → t i ≡ false → all k t ≡ false
unfolding all
all_stop zero t i h e = absurd (not-suc-le-zero h)
all_stop (suc k) t i h e =
    ⊎_elim (λ q. and_fails_right (all k t) (ap t (sym q) ∙ e)) (λ q. and_fails_left (t k) (all_stop k t i q e)) (eq-or-lt_of_le (le_of_suc-le-suc h))

pub all_elim : (k : ℕ) (t : ℕ → Bool) → all k t ≡ true → (i : ℕ) → i < k → t i ≡ true
unfolding all
all_elim zero t e i h = absurd (not-suc-le-zero h)
all_elim (suc k) t e i h =
    ⊎_elim (λ q. ap t q ∙ and_right (all k t) (t k) e) (λ q. all_elim k t (and_left _ _ e) i q) (eq-or-lt_of_le (le_of_suc-le-suc h))

pub all_intro : (k : ℕ) (t : ℕ → Bool) → ((i : ℕ) → i < k → t i ≡ true) → all k t ≡ true
unfolding all
all_intro zero t h = refl
all_intro (suc k) t h = and_both (all_intro k t (λ i l. h i (omega arith))) (h k (omega arith))

pub all_cong : (k : ℕ) (s t : ℕ → Bool) → ((i : ℕ) → i < k → s i ≡ t i) → all k s ≡ all k t
unfolding all
all_cong zero s t h = refl
all_cong (suc k) s t h = ap₂ ◌&&◌ (all_cong k s t (λ i l. h i (omega arith))) (h k (omega arith))

-- the numbers below a + b as those below a and b more
pub all_join : (a b : ℕ) (t : ℕ → Bool) → all (a + b) t ≡ (all a t && all b (λ i. t (a + i)))
all_join a b t = bool_ext
    (λ e. and_both (all_intro a t (λ i l. all_elim (a + b) t e i (omega arith)))
    (all_intro b (λ i. t (a + i)) (λ i l. all_elim (a + b) t e (a + i) (omega arith))))
    (λ e. all_intro (a + b) t (λ i l. go e i l (which (ltb i a))))
  where
    go : (all a t && all b (λ i. t (a + i))) ≡ true → (i : ℕ) → i < a + b → (ltb i a ≡ true) ⊎ (ltb i a ≡ false) → t i ≡ true
    go e i l (inl h) = all_elim a t (and_left (all a t) _ e) i (ltb-true i a h)
    go e i l (inr h) =
        let low : a ≤ i = ltb-false i a h in
        let k : a + (i - a) ≡ i = omega arith in
        ap t (sym k) ∙ all_elim b (λ i. t (a + i)) (and_right (all a t) _ e) (i - a) (omega arith)

all_of : (k a : ℕ) (t : ℕ → Bool) → list_all t (range_with_len a k) ≡ all k (λ i. t (a + i))
unfolding all
all_of zero a t = refl
all_of (suc k) a t =
    let here : t a ≡ t (a + 0) = ap t (omega arith) in
    let turn : all k (λ i. t (a + 1 + i)) ≡ all k (λ i. t (a + (1 + i))) = all_cong k _ _ (λ i l. ap t (omega arith)) in
    let count : 1 + k ≡ suc k = omega arith in
    ap₂ ◌&&◌ here (all_of k (a + 1) t ∙ turn) ∙ sym (all_join 1 k (λ i. t (a + i))) ∙ ap (λ (n : ℕ). all n (λ i. t (a + i))) count

-- what the library's `all` gives over the range 0..k, with a closure that answers t of each number
pub all_range : {F : Type 0} {g : Mut F (ℕ × Unit {0}) Bool} (k : ℕ) (t : ℕ → Bool) (u : Range ℕ) (f : F) (r : Bool)
    → ChecksAll nat_range_steps g (record { start = 0; end = k }) f r u
    → ((x : ℕ) (b : Bool) (q : F) → Called g f (x, tt) b q → (q ≡ f) × (b ≡ t x)) → r ≡ all k t
all_range k t u f r ran each =
    all_from_yields_List t u f r ran (YieldsList-from_range 0 k k refl (omega arith)) each ∙ all_of k 0 t ∙ all_cong k _ _ (λ i l. ap t (omega arith))

-- ---- any

pub any_intro : (k : ℕ) (t : ℕ → Bool) (i : ℕ) → i < k → t i ≡ true → any k t ≡ true
unfolding any
any_intro zero t i h e = absurd (not-suc-le-zero h)
any_intro (suc k) t i h e =
    ⊎_elim (λ q. or_right (any k t) (ap t (sym q) ∙ e)) (λ q. or_left (t k) (any_intro k t i q e)) (eq-or-lt_of_le (le_of_suc-le-suc h))

pub any_elim : (k : ℕ) (t : ℕ → Bool) → any k t ≡ true → (i : ℕ) × (i < k) × (t i ≡ true)
unfolding any
any_elim zero t e = absurd (false≢true e)
any_elim (suc k) t e = go (or_cases (any k t) (t k) e) (any_elim k t)
  where
    go : (any k t ≡ true) ⊎ (t k ≡ true) → (any k t ≡ true → (i : ℕ) × (i < k) × (t i ≡ true)) → (i : ℕ) × (i < suc k) × (t i ≡ true)
    go (inl h) r = let w = r h in (w.0, omega arith, w.2)
    go (inr h) r = (k, omega arith, h)

-- a turn of a rising loop
pub any_less : (i : ℕ) (t : ℕ → Bool) → any i t ≡ false → t i ≡ false → any (i + 1) t ≡ false
unfolding any
any_less i t h e = rw (add-one i) (rw (h, e))

pub any_false : (k : ℕ) (t : ℕ → Bool) → ((i : ℕ) → i < k → t i ≡ false) → any k t ≡ false
unfolding any
any_false zero t h = refl
any_false (suc k) t h = rw (any_false k t (λ i l. h i (omega arith)), h k (omega arith))

pub any_off : (k : ℕ) (t : ℕ → Bool) → any k t ≡ false → (i : ℕ) → i < k → t i ≡ false
any_off k t e i l = ⊎_elim (λ h. absurd (true≢false (sym (any_intro k t i l h) ∙ e))) (λ h. h) (which (t i))

pub any_cong : (k : ℕ) (s t : ℕ → Bool) → ((i : ℕ) → i < k → s i ≡ t i) → any k s ≡ any k t
unfolding any
any_cong zero s t h = refl
any_cong (suc k) s t h = ap₂ ◌||◌ (any_cong k s t (λ i l. h i (omega arith))) (h k (omega arith))

-- ---- count

pub digit_mono : (a b : Bool) → (a ≡ true → b ≡ true) → cond a 1 0 ≤ cond b 1 0
digit_mono true b h = rw (h refl) (omega arith)
digit_mono false b h = omega arith

pub count_le : (k : ℕ) (t : ℕ → Bool) → count k t ≤ k
unfolding count
count_le zero t = omega arith
count_le (suc k) t = ⊎_elim (λ e. rw e (omega (arith, count_le k t))) (λ e. rw e (omega (arith, count_le k t))) (which (t k))

pub count_pos : (k : ℕ) (t : ℕ → Bool) → zero < count k t → (i : ℕ) × (i < k) × (t i ≡ true)
unfolding count
count_pos zero t h = absurd (not-suc-le-zero h)
count_pos (suc k) t h = go (which (t k)) (count_pos k t)
  where
    go : (t k ≡ true) ⊎ (t k ≡ false) → (zero < count k t → (i : ℕ) × (i < k) × (t i ≡ true)) → (i : ℕ) × (i < suc k) × (t i ≡ true)
    go (inl e) r = (k, omega arith, e)
    go (inr e) r = let w = r (omega (arith, cond_false {A = ℕ} 1 0 e)) in (w.0, omega arith, w.2)

pub count_mono : (k : ℕ) (s t : ℕ → Bool) → ((i : ℕ) → s i ≡ true → t i ≡ true) → count k s ≤ count k t
unfolding count
count_mono zero s t h = omega arith
count_mono (suc k) s t h = omega (arith, digit_mono (s k) (t k) (h k), count_mono k s t h)

pub count_cong : (k : ℕ) (s t : ℕ → Bool) → ((i : ℕ) → i < k → s i ≡ t i) → count k s ≡ count k t
unfolding count
count_cong zero s t h = refl
count_cong (suc k) s t h = ap₂ (λ (x : ℕ) (y : Bool). x + cond y 1 0) (count_cong k s t (λ i l. h i (omega arith))) (h k (omega arith))

-- the lowest counted first
pub count_low : (k : ℕ) (t : ℕ → Bool) → count (suc k) t ≡ cond (t 0) 1 0 + count k (λ i. t (suc i))
unfolding count
count_low zero t = omega arith
count_low (suc k) t = omega (arith, count_low k t)

-- of two sets and a third, by the numbers of each
three : (a b c : Bool) → cond a 1 0 + cond b 1 0 ≤ 1 + cond (not c) 1 0 + cond (a && (b && c)) 1 0
three true true true = omega arith
three true true false = omega arith
three true false true = omega arith
three true false false = omega arith
three false true true = omega arith
three false true false = omega arith
three false false true = omega arith
three false false false = omega arith

count_three : (k : ℕ) (s t h : ℕ → Bool) → count k s + count k t ≤ k + count k (λ p. not (h p)) + count k (λ p. s p && (t p && h p))
unfolding count
count_three zero s t h = omega arith
count_three (suc k) s t h = omega (arith, three (s k) (t k) (h k), count_three k s t h)

-- Two quorums of n = 3f + 1 members meet in a member of any set that lacks at most f.
pub meet : (f : ℕ) (s t h : ℕ → Bool) → 2 * f + 1 ≤ count (3 * f + 1) s → 2 * f + 1 ≤ count (3 * f + 1) t → count (3 * f + 1) (λ p. not (h p)) ≤ f
    → (p : ℕ) × (p < 3 * f + 1) × (s p ≡ true) × (t p ≡ true) × (h p ≡ true)
meet f s t h a b c =
    let w = count_pos (3 * f + 1) (λ p. s p && (t p && h p)) (omega (arith, count_three (3 * f + 1) s t h)) in
    let rest : (t w.0 && h w.0) ≡ true = and_right (s w.0) _ w.2 in
    (w.0, w.1, and_left _ _ w.2, and_left _ _ rest, and_right (t w.0) _ rest)

-- ---- select

pub select_cong : (k : ℕ) (s t : ℕ → Bool) → ((i : ℕ) → i < k → s i ≡ t i) → select k s ≡ select k t
unfolding select
select_cong zero s t h = refl
select_cong (suc k) s t h = ap₂ ◌++◌ (select_cong k s t (λ i l. h i (omega arith))) (ap (λ b. cond b (k ∷ []) []) (h k (omega arith)))

-- ---- least

pub least_none : (k : ℕ) (t : ℕ → Bool) → any k t ≡ false → least k t ≡ k
unfolding least any
least_none zero t h = refl
least_none (suc k) t h = go (which (any k t)) (which (t k))
  where
    go : (any k t ≡ true) ⊎ (any k t ≡ false) → (t k ≡ true) ⊎ (t k ≡ false) → least (suc k) t ≡ suc k
    go (inl e) d = absurd (true≢false (sym (or_left (t k) e) ∙ h))
    go (inr e) (inl d) = absurd (true≢false (sym (or_right (any k t) d) ∙ h))
    go (inr e) (inr d) = rw (e, d)

pub least_at : (k : ℕ) (t : ℕ → Bool) (i : ℕ) → i < k → any i t ≡ false → t i ≡ true → least k t ≡ i
unfolding least
least_at zero t i l h e = absurd (not-suc-le-zero l)
least_at (suc k) t i l h e = go (eq-or-lt_of_le (le_of_suc-le-suc l)) (λ q. least_at k t i q h e)
  where
    go : (i ≡ k) ⊎ (i < k) → (i < k → least k t ≡ i) → least (suc k) t ≡ i
    go (inl q) r = rw (rw q at h, rw q at e) (sym q)
    go (inr q) r = rw (any_intro k t i q e) (r q)

-- what the library's `find` gives over the range 0..k, or else k, with a closure that answers t of each number
pub least_range : {F : Type 0} {g : Mut F (Bor ℕ × Unit {0}) Bool} (k : ℕ) (t : ℕ → Bool) (u : Range ℕ) (f : F) (r : Option ℕ)
    → FindsItem nat_range_steps g (record { start = 0; end = k }) f r u
    → ((x : ℕ) (b : Bool) (q : F) → CalledAt g f x b q → (q ≡ f) × (b ≡ t x)) → unwrap_or r k ≡ least k t
least_range k t u f r ran each =
    go r (first_from_Range _ u f r (λ x. t x ≡ true) (λ x. t x ≡ false) ran (λ x q c. sym (each x true q c).1)
    (λ x q c. ((each x false q c).0, sym (each x false q c).1)))
  where
    go : (r : Option ℕ)
        → MatchOption r ((i : ℕ) → 0 ≤ i → i < k → t i ≡ false) (λ i. (0 ≤ i) × (i < k) × (t i ≡ true) × ((j : ℕ) → 0 ≤ j → j < i → t j ≡ false))
        → unwrap_or r k ≡ least k t
    go None h = sym (least_none k t (any_false k t (λ i l. h i (omega arith) l)))
    go (Some i) h = sym (least_at k t i h.1 (any_false i t (λ j l. h.3 j (omega arith) l)) h.2)

pub least_le : (k : ℕ) (t : ℕ → Bool) → least k t ≤ k
unfolding least
least_le zero t = omega arith
least_le (suc k) t = go (which (any k t)) (which (t k)) (least_le k t)
  where
    go : (any k t ≡ true) ⊎ (any k t ≡ false) → (t k ≡ true) ⊎ (t k ≡ false) → least k t ≤ k → least (suc k) t ≤ suc k
    go (inl e) d r = rw e (omega arith)
    go (inr e) (inl d) r = rw (e, d) (omega arith)
    go (inr e) (inr d) r = rw (e, d) (omega arith)

-- no number below the least one satisfies t
pub least_below : (k : ℕ) (t : ℕ → Bool) (i : ℕ) → i < k → t i ≡ true → least k t ≤ i
unfolding least
least_below zero t i l d = absurd (not-suc-le-zero l)
least_below (suc k) t i l d = go (which (any k t)) (eq-or-lt_of_le (le_of_suc-le-suc l)) (λ q. least_below k t i q d)
  where
    go : (any k t ≡ true) ⊎ (any k t ≡ false) → (i ≡ k) ⊎ (i < k) → (i < k → least k t ≤ i) → least (suc k) t ≤ i
    go (inl e) (inl q) r = rw e (omega (arith, least_le k t))
    go (inl e) (inr q) r = rw e (r q)
    go (inr e) (inl q) r = rw (e, rw q at d) (omega arith)
    go (inr e) (inr q) r = absurd (true≢false (sym (any_intro k t i q d) ∙ e))

pub least_off : (k : ℕ) (t : ℕ → Bool) (i : ℕ) → i < least k t → t i ≡ false
least_off k t i l = ⊎_elim (λ e. absurd (omega (arith, least_below k t i (omega (arith, least_le k t)) e))) (λ e. e) (which (t i))

-- the least number satisfies t, if one does
pub least_sat : (k : ℕ) (t : ℕ → Bool) → least k t < k → t (least k t) ≡ true
unfolding least
least_sat zero t h = absurd (not-suc-le-zero h)
least_sat (suc k) t h = go (which (any k t)) (which (t k)) (least_sat k t)
  where
    go : (any k t ≡ true) ⊎ (any k t ≡ false) → (t k ≡ true) ⊎ (t k ≡ false) → (least k t < k → t (least k t) ≡ true) → t (least (suc k) t) ≡ true
    go (inl e) d r = let w = any_elim k t e in rw e (r (omega (arith, w.1, least_below k t w.0 w.1 w.2)))
    go (inr e) (inl d) r = rw (e, d) d
    go (inr e) (inr d) r = absurd (omega (arith, rw (e, d) at h))

-- ---- a number where it lies below k

pub below_some : (k x y : ℕ) → y ≡ x → y < k → Some y ≡ if_below k x
below_some k x y e h = ap Some e ∙ sym (ap (λ (b : Bool). cond b (Some x) None) (lt-ltb x k (rw (← e) h)))

pub below_none : (k x : ℕ) → k ≤ x → None ≡ if_below k x
below_none k x h = sym (ap (λ (b : Bool). cond b (Some x) None) (le-ltb x k h))

pub below_is : (k x y : ℕ) → Some y ≡ if_below k x → (y ≡ x) × (y < k)
below_is k x y e = go (which (ltb x k))
  where
    go : (ltb x k ≡ true) ⊎ (ltb x k ≡ false) → (y ≡ x) × (y < k)
    go (inl h) = let s : y ≡ x = ap (or y) (rw h at e) in (s, rw s (ltb-true x k h))
      where
        or : ℕ → Option ℕ → ℕ
        or d None = d
        or d (Some z) = z
    go (inr h) = absurd (true≢false (ap is_some (rw h at e)))

pub below_off : (k x : ℕ) → None ≡ if_below k x → k ≤ x
below_off k x e = go (which (ltb x k))
  where
    go : (ltb x k ≡ true) ⊎ (ltb x k ≡ false) → k ≤ x
    go (inl h) = absurd (false≢true (ap is_some (rw h at e)))
    go (inr h) = ltb-false x k h
