-- The passes on a well-formed state over records that pass and rise: one pass is all of them. Assumes nothing.
use mathlib.Core.Path.{◌≡◌, refl, sym, ap, ap₂, ◌∙◌}
use mathlib.Core.Bool.{true, false, cond}
use mathlib.Core.Logic.{◌⊎◌, inl, inr, ⊎_elim}
use mathlib.Core.List.Memᴰ
use mathlib.Core.List.{List, [], ◌∷◌, append-nil}
use mathlib.Core.List.{Sublistᴰ}
use Prim.Native.Nat.{ℕ, suc, ◌+◌, ◌-◌, ◌≤◌}
use native.Mathlib.Omega.{arith}
use lib.ListN.{length}
use Rattle.record.specs.Refusals.{no_refusal, number_of, first_no}
use Rattle.record.specs.Layout.{round_of, source_of, body_of}
use Rattle.record.specs.Questions.{record_refusal}
use Rattle.record.proofs.Booleans.{which}
use Rattle.replica.specs.State.{member_count, leader_count, journal_count}
use Rattle.replica.specs.Outcome.{Outcome, unchanged, admitted}
use Rattle.replica.proofs.Formed.{WellFormed, formed, well_formed_lem}
use Rattle.ordering.specs.Calls.{vertex_questions, take_body, take_vertex}
use Rattle.ordering.specs.Bundle.{followed}
use Rattle.ordering.proofs.Turns.{outcome_admitted}
use Rattle.ordering.proofs.Kept.{keeps}
use Rattle.pending.specs.Buffer.{In, record_id, records_ok}
use Rattle.pending.specs.Passes.{Fate, Passed, ahead, followed_by, is_none, pass, passes, release, joins, stays, leaves}
use Rattle.pending.specs.Early.{try_vertex}
use Rattle.pending.specs.Claims.{take_in_turn}
use Rattle.pending.proofs.Order.{First, ok_first, first_ok, ok_lower}
use Rattle.pending.proofs.Holding.{Later, later_self, later_then, joined, Waiting, Joins, Stays, Leaves, ends, waiting_stays, waits_on}

-- a vertex call keeps a state well formed
pub vertex_formed : (l rec : List ℕ) → WellFormed l → WellFormed (take_vertex l rec).words
vertex_formed l rec S =
    let w = (keeps l S.size (well_formed_lem l S)).0 (round_of rec) (source_of rec) (body_of rec) in
    formed (take_vertex l rec).words w.0 w.1

-- a well-formed state of n members
pub record Good (n : ℕ) (l : List ℕ) : Type 0 where
  pub formed : WellFormed l
  pub members : member_count l ≡ n

waits_as : {l rec other : List ℕ} → other ≡ rec → Waiting l rec → Waiting l other
waits_as d w = rw d w

-- what a pass does with its first record, by the three ends of the trial
module _ (l rec : List ℕ) (recs : List (List ℕ)) where
  pub first_joins : Joins l rec → pass try_vertex l (rec ∷ recs) ≡ ahead rec joins (pass try_vertex (take_vertex l rec).words recs)
  unfolding pass
  first_joins j = rw j.fate

  pub first_stays : Stays l rec → pass try_vertex l (rec ∷ recs) ≡ ahead rec stays (pass try_vertex l recs)
  unfolding pass
  first_stays s = rw (s.fate, s.same)

  pub first_leaves : Leaves l rec → pass try_vertex l (rec ∷ recs) ≡ pass try_vertex l recs
  unfolding pass
  first_leaves s = rw (s.fate, s.same)

-- What holds of every pass: of none, and of one record more by its end. The records pass and rise from above low.
module _ (n : ℕ) (P : ℕ → List ℕ → List (List ℕ) → Passed (List ℕ) → Type 0)
    (none : (low : ℕ) (l : List ℕ) → Good n l → P low l [] (record { after = l; admitted = []; waiting = [] }))
    (joining : (low : ℕ) (l rec : List ℕ) (recs : List (List ℕ)) → Good n l → First n low rec recs → (j : Joins l rec) → (q : Passed (List ℕ))
    → q ≡ pass try_vertex (take_vertex l rec).words recs → P (record_id rec) (take_vertex l rec).words recs q → P low l (rec ∷ recs) (ahead rec joins q))
    (staying : (low : ℕ) (l rec : List ℕ) (recs : List (List ℕ)) → Good n l → First n low rec recs → Stays l rec → (q : Passed (List ℕ))
    → q ≡ pass try_vertex l recs → P (record_id rec) l recs q → P low l (rec ∷ recs) (ahead rec stays q))
    (leaving : (low : ℕ) (l rec : List ℕ) (recs : List (List ℕ)) → Good n l → First n low rec recs → Leaves l rec → (q : Passed (List ℕ))
    → q ≡ pass try_vertex l recs → P (record_id rec) l recs q → P low l (rec ∷ recs) q) where
  pub by_ends : (low : ℕ) (l : List ℕ) (recs : List (List ℕ)) → Good n l → records_ok n low recs ≡ true → P low l recs (pass try_vertex l recs)
  unfolding pass
  by_ends low l [] G e = none low l G
  by_ends low l (rec ∷ recs) G e =
      let f = ok_first n low rec recs e in
      go f (ends l rec G.formed (rw G.members f.passes)) (λ k H. by_ends (record_id rec) k recs H f.others)
    where
      go : First n low rec recs → Joins l rec ⊎ (Stays l rec ⊎ Leaves l rec) → ((k : List ℕ) → Good n k → P (record_id rec) k recs (pass try_vertex k recs))
          → P low l (rec ∷ recs) (pass try_vertex l (rec ∷ recs))
      go f (inl j) ih =
          let H : Good n (take_vertex l rec).words = record { formed = j.after.later.formed; members = j.after.later.members ∙ G.members } in
          rw (first_joins l rec recs j) (joining low l rec recs G f j _ refl (ih _ H))
      go f (inr (inl s)) ih = rw (first_stays l rec recs s) (staying low l rec recs G f s _ refl (ih l G))
      go f (inr (inr s)) ih = rw (first_leaves l rec recs s) (leaving low l rec recs G f s _ refl (ih l G))

-- passes that admit none after the first leave what that left
alone : (p m : Passed (List ℕ)) → m ≡ record { after = p.after; admitted = []; waiting = p.waiting } → cond (is_none p.admitted) p (followed_by p m) ≡ p
alone p m e = go (which (is_none p.admitted))
  where
    go : (is_none p.admitted ≡ true) ⊎ (is_none p.admitted ≡ false) → cond (is_none p.admitted) p (followed_by p m) ≡ p
    go (inl t) = rw t
    go (inr t) = rw (t, e) (ap (λ (x : List (List ℕ)). record { after = p.after; admitted = x; waiting = p.waiting }) (append-nil p.admitted))

module _ (n : ℕ) where
  -- the state afterwards
  pub pass_later : (low : ℕ) (l : List ℕ) (recs : List (List ℕ)) → Good n l → records_ok n low recs ≡ true → Later l (pass try_vertex l recs).after
  pass_later = by_ends n (λ low l recs p. Later l p.after)
      (λ low l G. later_self l G.formed)
      (λ low l rec recs G f j q e h. later_then j.after.later h)
      (λ low l rec recs G f s q e h. h)
      (λ low l rec recs G f s q e h. h)

  pub pass_good : (low : ℕ) (l : List ℕ) (recs : List (List ℕ)) → Good n l → records_ok n low recs ≡ true → Good n (pass try_vertex l recs).after
  pass_good low l recs G e = let h = pass_later low l recs G e in record { formed = h.formed; members = h.members ∙ G.members }

  -- those that wait on pass and rise as they did, and are no more than there were
  pub pass_waiting : (low : ℕ) (l : List ℕ) (recs : List (List ℕ)) → Good n l → records_ok n low recs ≡ true
      → (records_ok n low (pass try_vertex l recs).waiting ≡ true) × (length (pass try_vertex l recs).waiting ≤ length recs)
  unfolding records_ok
  pass_waiting = by_ends n (λ low l recs p. (records_ok n low p.waiting ≡ true) × (length p.waiting ≤ length recs))
      (λ low l G. (refl, omega arith))
      (λ low l rec recs G f j q e h. (ok_lower n (record_id rec) low q.waiting (omega (arith, f.above)) h.0, omega (arith, h.1)))
      (λ low l rec recs G f s q e h.
      (first_ok n low rec q.waiting (record { passes = f.passes; above = f.above; others = h.0 }), omega (arith, h.1)))
      (λ low l rec recs G f s q e h. (ok_lower n (record_id rec) low q.waiting (omega (arith, f.above)) h.0, omega (arith, h.1)))

  -- those admitted are some of the records, in their order
  pub pass_sublist : (low : ℕ) (l : List ℕ) (recs : List (List ℕ)) → Good n l → records_ok n low recs ≡ true
      → Sublistᴰ (pass try_vertex l recs).admitted recs
  pass_sublist = by_ends n (λ low l recs p. Sublistᴰ p.admitted recs)
      (λ low l G. Sublistᴰ.slnil)
      (λ low l rec recs G f j q e h. Sublistᴰ.cons-cons refl h)
      (λ low l rec recs G f s q e h. Sublistᴰ.cons h)
      (λ low l rec recs G f s q e h. Sublistᴰ.cons h)

  -- a record that waits does so still after a pass over records of higher ids
  through : (rec : List ℕ) → number_of (record_refusal n rec) ≡ 0 → (low : ℕ) (l : List ℕ) (recs : List (List ℕ)) → Good n l → records_ok n low recs ≡ true
      → record_id rec ≤ low → Waiting l rec → Waiting (pass try_vertex l recs).after rec
  through rec d = by_ends n (λ low l recs p. record_id rec ≤ low → Waiting l rec → Waiting p.after rec)
      (λ low l G h w. w)
      (λ low l other recs G f j q e ih h w. ih (omega (arith, f.above)) (waits_on l rec other G.formed (rw G.members d)
      (rw G.members f.passes) (omega (arith, f.above)) w))
      (λ low l other recs G f s q e ih h w. ih (omega (arith, f.above)) w)
      (λ low l other recs G f s q e ih h w. ih (omega (arith, f.above)) w)

  -- all that wait on do so in the state afterwards
  pub all_wait : (low : ℕ) (l : List ℕ) (recs : List (List ℕ)) → Good n l → records_ok n low recs ≡ true
      → (rec : List ℕ) → In rec (pass try_vertex l recs).waiting → Waiting (pass try_vertex l recs).after rec
  all_wait = by_ends n (λ low l recs p. (rec : List ℕ) → In rec p.waiting → Waiting p.after rec)
      (λ low l G rec h. absurd (Memᴰ.not-nil h))
      (λ low l rec recs G f j q e h. h)
      (λ low l rec recs G f s q e h other m. ⊎_elim
      (λ d. waits_as d (rw e (through rec f.passes (record_id rec) l recs G f.others (omega arith) s.waits))) (h other) (Memᴰ.cases_cons m))
      (λ low l rec recs G f s q e h. h)

  -- where all wait, a pass changes nothing
  still : (l : List ℕ) (recs : List (List ℕ)) → Good n l → (low : ℕ) → records_ok n low recs ≡ true → ((rec : List ℕ) → In rec recs → Waiting l rec)
      → pass try_vertex l recs ≡ record { after = l; admitted = []; waiting = recs }
  unfolding pass
  still l [] G low e w = refl
  still l (rec ∷ recs) G low e w =
      let f = ok_first n low rec recs e in
      first_stays l rec recs (waiting_stays l rec G.formed (rw G.members f.passes) (w rec (Memᴰ.head refl)))
      ∙ ap (ahead rec stays) (still l recs G (record_id rec) f.others (λ x h. w x (Memᴰ.tail h)))

  module _ (l : List ℕ) (recs : List (List ℕ)) (G : Good n l) (low : ℕ) (ok : records_ok n low recs ≡ true) where
    abbrev one : Passed (List ℕ)
    one = pass try_vertex l recs

    -- a second pass changes nothing
    pub second : pass try_vertex one.after one.waiting ≡ record { after = one.after; admitted = []; waiting = one.waiting }
    second = still one.after one.waiting (pass_good low l recs G ok) low (pass_waiting low l recs G ok).0 (all_wait low l recs G ok)

    -- so no pass after the first does
    more : (k : ℕ) → passes try_vertex (suc k) one.after one.waiting ≡ record { after = one.after; admitted = []; waiting = one.waiting }
    unfolding passes
    more k = rw second

  -- one pass is all passes
  pub one_pass : (l : List ℕ) (recs : List (List ℕ)) → Good n l → (low : ℕ) → records_ok n low recs ≡ true → release try_vertex l recs ≡ pass try_vertex l recs
  unfolding passes pass
  one_pass l [] G low e = refl
  one_pass l (rec ∷ recs) G low e = alone (pass try_vertex l (rec ∷ recs)) _ (more l (rec ∷ recs) G low e (length recs))

-- ---- what plain vertex calls keep

-- on a well-formed state
abbrev pub Kept : (List ℕ → Type 0) → Type 0
Kept P = (k rec : List ℕ) → WellFormed k → P k → P (take_vertex k rec).words

pub ahead_after : (rec : List ℕ) (f : Fate) (p : Passed (List ℕ)) → (ahead rec f p).after ≡ p.after
ahead_after rec joins p = refl
ahead_after rec stays p = refl
ahead_after rec leaves p = refl

-- a pass keeps
pub pass_keeps : (P : List ℕ → Type 0) → Kept P → (recs : List (List ℕ)) (l : List ℕ) → WellFormed l → P l → P (pass try_vertex l recs).after
unfolding pass
pass_keeps P h [] l S x = x
pass_keeps P h (rec ∷ recs) l S x =
    rw (ahead_after rec (try_vertex l rec).fate (pass try_vertex (take_vertex l rec).words recs))
    (pass_keeps P h recs (take_vertex l rec).words (vertex_formed l rec S) (h l rec S x))

-- ---- plain vertex calls in turn

-- the growth of the lists adds up
grown : {l k m : List ℕ} → Later l k → Later k m → followed (admitted l k) (admitted k m) ≡ admitted l m
unfolding followed
grown {l} {k} {m} a b =
    let x : leader_count k - leader_count l + (leader_count m - leader_count k) ≡ leader_count m - leader_count l = omega (arith, a.leaders, b.leaders) in
    let y : journal_count k - journal_count l + (journal_count m - journal_count k) ≡ journal_count m - journal_count l = omega (arith, a.journal, b.journal) in
    ap₂ (λ (i j : ℕ). record { number = 0; id = 0; leaders = i; journal = j; words = m }) x y

-- a vertex call that admits
admits : (l rec : List ℕ) → number_of (first_no (vertex_questions l (round_of rec) (source_of rec) (body_of rec))) ≡ 0
    → take_vertex l rec ≡ admitted l (take_vertex l rec).words
unfolding take_body
admits l rec ok =
    let o = sym (outcome_admitted _ _ l _ refl ok) in
    o ∙ ap (admitted l) (ap (λ (x : Outcome). x.words) (sym o))

-- no call
none_added : (l : List ℕ) → unchanged no_refusal l ≡ admitted l l
none_added l =
    let x : 0 ≡ leader_count l - leader_count l = omega arith in
    let y : 0 ≡ journal_count l - journal_count l = omega arith in
    ap₂ (λ (i j : ℕ). record { number = 0; id = 0; leaders = i; journal = j; words = l }) x y

-- first one that admits, then the others
pub turn_first : (l rec : List ℕ) (recs : List (List ℕ)) (m : List ℕ)
    → number_of (first_no (vertex_questions l (round_of rec) (source_of rec) (body_of rec))) ≡ 0
    → Later (take_vertex l rec).words m
    → take_in_turn (take_vertex l rec).words recs ≡ admitted (take_vertex l rec).words m → take_in_turn l (rec ∷ recs) ≡ admitted l m
unfolding take_in_turn
turn_first l rec recs m ok L e = ap₂ followed (admits l rec ok) e ∙ grown (joined l rec ok).later L

-- those admitted by a pass
pub pass_in_turn : (n low : ℕ) (l : List ℕ) (recs : List (List ℕ)) → Good n l → records_ok n low recs ≡ true
    → take_in_turn l (pass try_vertex l recs).admitted ≡ admitted l (pass try_vertex l recs).after
unfolding take_in_turn
pass_in_turn n = by_ends n (λ low l recs p. take_in_turn l p.admitted ≡ admitted l p.after)
    (λ low l G. none_added l)
    (λ low l rec recs G f j q e h.
    let H : Good n (take_vertex l rec).words = record { formed = j.after.later.formed; members = j.after.later.members ∙ G.members } in
    turn_first l rec q.admitted q.after j.asked (rw e (pass_later n (record_id rec) _ recs H f.others)) h)
    (λ low l rec recs G f s q e h. h)
    (λ low l rec recs G f s q e h. h)
