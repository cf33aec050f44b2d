-- The sweep over the slots of a buffer: it is one pass over the records, and one pass is all passes. Assumes nothing.
use Rattle.std.specs.Prelude.{Result}
use Rattle.record.specs.declared.refusal.Refusal.{Refusal}
use mathlib.Core.Path.{◌≡◌, refl, sym, ap, ap₂, ◌∙◌}
use mathlib.Core.Bool.{Bool, true, false, cond}
use mathlib.Core.Logic.{◌⊎◌, inl, inr, ⊎_elim}
use mathlib.Core.List.{List, [], ◌∷◌, ◌++◌, append_assoc, append-nil}
use Prim.Native.Nat.{ℕ, suc, ◌+◌, ◌-◌, ◌≤◌, ◌<◌}
use native.Mathlib.Omega.{arith}
use lib.Dec.{eqb, ltb}
use borrow.Author.Tests.{ltb-true, ltb-false}
use lib.ListN.{length, get_or, drop, set, replicate, length-replicate, get_or-replicate}
use lib.Seq.{paste, length-paste, get_or-take, get_or-drop}
use Rattle.record.specs.Refusals.{number_of, missing_number}
use Rattle.record.specs.Layout.{record_size}
use Rattle.record.proofs.Booleans.{which}
use Rattle.replica.specs.Outcome.{told}
use Rattle.replica.specs.declared.answer.Added.{Added}
use Rattle.replica.proofs.Formed.{well_formed_lem}
use Rattle.ordering.specs.Calls.{take_vertex}
use Rattle.ordering.proofs.Copying.{paste_before, paste_after, paste_part}
use Rattle.pending.specs.Layout.{buffer_size, buffer_slots, count_place, slot_at}
use Rattle.pending.specs.Buffer.{count_of, record_at, records_from, records_in, buffer_of}
use Rattle.pending.specs.Passes.{Passed, pass}
use Rattle.pending.specs.Early.{try_vertex}
use Rattle.pending.specs.Inner.{Sweeping, Swept, swept, sweep_one, both, released, release_in}
use Rattle.pending.proofs.Slots.{Zeros, buffer_laid, slot_size, slot_same, records_end, records_at, records_all, records_more}
use Rattle.pending.proofs.Slots.{records_same, over_size, over_here, over_there, over_after}
use Rattle.pending.proofs.Order.{Formed, slot_passes}
use Rattle.pending.proofs.Upward.{counted_size, counted, counted_word, counted_slot}
use Rattle.pending.proofs.Holding.{Joins, Stays, Leaves, ends}
use Rattle.pending.proofs.Passing.{Good, one_pass, first_joins, first_stays, first_leaves}

-- ---- one slot

module _ (l s m : List ℕ) where
  pub sweep_stays : (t : List ℕ) (j k : ℕ) (a : Result Added Refusal) (rec : List ℕ) → told a m ≡ take_vertex l rec → rec ≡ record_at s j → (b : Bool)
      → b ≡ eqb (number_of a) missing_number → b ≡ true → t ≡ paste s (slot_at k) (record_at s j) record_size → swept (k + 1) m t ≡ sweep_one l s j k
  sweep_stays t j k a rec e d b f h g =
      let o : told a m ≡ take_vertex l (record_at s j) = e ∙ ap (take_vertex l) d in
      let n : eqb (number_of a) missing_number ≡ true = sym f ∙ h in
      rw (g, ← o, n)

  pub sweep_goes : (j k : ℕ) (a : Result Added Refusal) (rec : List ℕ) → told a m ≡ take_vertex l rec → rec ≡ record_at s j → (b : Bool)
      → b ≡ eqb (number_of a) missing_number
      → b ≡ false → swept k m s ≡ sweep_one l s j k
  sweep_goes j k a rec e d b f h =
      let o : told a m ≡ take_vertex l (record_at s j) = e ∙ ap (take_vertex l) d in
      let n : eqb (number_of a) missing_number ≡ false = sym f ∙ h in
      rw (← o, n)

-- what holds of what the definition gives holds of what the code left
cast_swept : (G : Swept → Type 0) {x y : Swept} → x ≡ y → G y → G x
cast_swept G d w = rw d w

-- ---- the loop

-- The state l and the buffer s, once the records of s₀ below slot j are tried on l₀, and k of them kept: c is the count.
pub record Going (n : ℕ) (l₀ s₀ l s : List ℕ) (k j c : ℕ) : Type 0 where
  pub good : Good n l
  pub size : length s ≡ buffer_size
  pub few : k ≤ j
  pub rest : (d : ℕ) → j ≤ d → d < buffer_slots → record_at s d ≡ record_at s₀ d
  pub zeros : Zeros s c
  pub after : (pass try_vertex l (records_from s₀ j (c - j))).after ≡ (pass try_vertex l₀ (records_in s₀)).after
  pub waiting : records_from s 0 k ++ (pass try_vertex l (records_from s₀ j (c - j))).waiting ≡ (pass try_vertex l₀ (records_in s₀)).waiting

pub going_start : (n : ℕ) (l s : List ℕ) → Good n l → Formed n s → Going n l s l s 0 0 (count_of s)
unfolding records_from
going_start n l s G F = record {
  good = G;
  size = F.size;
  few = omega arith;
  rest = λ d a b. refl;
  zeros = F.zeros;
  after = ap (λ (x : List (List ℕ)). (pass try_vertex l x).after) (records_all s (count_of s));
  waiting = ap (λ (x : List (List ℕ)). (pass try_vertex l x).waiting) (records_all s (count_of s));
}

-- what is asked of the record in slot j
pub going_trying : (n : ℕ) (l₀ s₀ l s : List ℕ) (k j : ℕ) → Formed n s₀ → Going n l₀ s₀ l s k j (count_of s₀) → j < count_of s₀
    → Sweeping l s n j k
going_trying n l₀ s₀ l s k j F g b =
    let few = F.few in
    let same : record_at s j ≡ record_at s₀ j = g.rest j (omega arith) (omega arith) in
    record {
      size = g.size;
      slot = omega arith;
      kept = g.few;
      trying = record {
        state = record { size = g.good.formed.size; formed = well_formed_lem l g.good.formed; members = sym g.good.members };
        admitted = rw same (slot_passes n s₀ F j b);
      };
    }

module _ (n : ℕ) (l₀ s₀ l s : List ℕ) (k j : ℕ) (F : Formed n s₀) (g : Going n l₀ s₀ l s k j (count_of s₀)) (b : j < count_of s₀) where
  abbrev c : ℕ
  c = count_of s₀

  abbrev rec : List ℕ
  rec = record_at s₀ j

  abbrev others : List (List ℕ)
  others = records_from s₀ (j + 1) (c - (j + 1))

  in_slots : c ≤ buffer_slots
  in_slots = F.few

  same : record_at s j ≡ rec
  same = g.rest j (omega arith) (omega (arith, in_slots))

  -- one record more: its end decides
  pub step : (k' : ℕ) (m t : List ℕ) → swept k' m t ≡ sweep_one l s j k → Going n l₀ s₀ m t k' (j + 1) c
  step k' m t e = go (ends l rec g.good.formed (rw g.good.members (slot_passes n s₀ F j b)))
    where
      e' : swept k' m t ≡ cond (eqb (take_vertex l rec).number missing_number)
          (swept (k + 1) (take_vertex l rec).words (paste s (slot_at k) rec record_size)) (swept k (take_vertex l rec).words s)
      e' = e ∙ rw same

      next : {p : Passed (List ℕ)} → pass try_vertex l (rec ∷ others) ≡ p → pass try_vertex l (records_from s₀ j (c - j)) ≡ p
      next d = ap (pass try_vertex l) (records_at s₀ j c b) ∙ d

      -- it is kept
      kept : Stays l rec → Going n l₀ s₀ (take_vertex l rec).words (paste s (slot_at k) rec record_size) (k + 1) (j + 1) c
      kept d =
          let long : length rec ≡ record_size = slot_size s₀ j F.size (omega (arith, in_slots)) in
          let low : k < buffer_slots = omega (arith, g.few, in_slots) in
          let p = next (first_stays l rec others d) in
          let one : k + 1 ≡ suc k = omega arith in
          let at : 0 + k ≡ k = omega arith in
          record {
            good = rw d.same g.good;
            size = over_size s k rec g.size low long;
            few = omega (arith, g.few);
            rest = λ i x y. over_there s k rec g.size low long i y (λ q. omega (arith, g.few)) ∙ g.rest i (omega arith) y;
            zeros = λ i x y. over_after s k rec g.size low long i (omega (arith, g.few)) ∙ g.zeros i x y;
            after = rw d.same (ap (λ (q : Passed (List ℕ)). q.after) (sym p) ∙ g.after);
            waiting = rw d.same (
                ap (λ (i : ℕ). records_from (paste s (slot_at k) rec record_size) 0 i ++ (pass try_vertex l others).waiting) one
                ∙ ap (λ (x : List (List ℕ)). x ++ (pass try_vertex l others).waiting) (records_more (paste s (slot_at k) rec record_size) 0 k
                ∙ ap₂ (λ (x : List (List ℕ)) (y : List ℕ). x ++ (y ∷ []))
                (records_same (paste s (slot_at k) rec record_size) s 0 0 k
                (λ i h. over_there s k rec g.size low long (0 + i) (omega arith) (λ q. omega arith)))
                (ap (record_at (paste s (slot_at k) rec record_size)) at ∙ over_here s k rec g.size low long))
                ∙ append_assoc (records_from s 0 k) (rec ∷ []) (pass try_vertex l others).waiting
                ∙ ap (λ (q : Passed (List ℕ)). records_from s 0 k ++ q.waiting) (sym p) ∙ g.waiting);
          }

      -- it is not: the buffer stays
      passed_over : (k' : List ℕ) → Good n k' → (p : Passed (List ℕ)) → pass try_vertex l (rec ∷ others) ≡ p → p.after ≡ (pass try_vertex k' others).after
          → p.waiting ≡ (pass try_vertex k' others).waiting → Going n l₀ s₀ k' s k (j + 1) c
      passed_over k' H p d x y = record {
        good = H;
        size = g.size;
        few = omega (arith, g.few);
        rest = λ i u v. g.rest i (omega arith) v;
        zeros = g.zeros;
        after = sym x ∙ ap (λ (q : Passed (List ℕ)). q.after) (sym (next d)) ∙ g.after;
        waiting = ap (λ (z : List (List ℕ)). records_from s 0 k ++ z) (sym y)
            ∙ ap (λ (q : Passed (List ℕ)). records_from s 0 k ++ q.waiting) (sym (next d)) ∙ g.waiting;
      }

      -- as the code left them
      as_left : {x : Swept} → swept k' m t ≡ x → Going n l₀ s₀ x.state x.buffer x.kept (j + 1) c → Going n l₀ s₀ m t k' (j + 1) c
      as_left d w = cast_swept (λ x. Going n l₀ s₀ x.state x.buffer x.kept (j + 1) c) d w

      go : Joins l rec ⊎ (Stays l rec ⊎ Leaves l rec) → Going n l₀ s₀ m t k' (j + 1) c
      go (inl d) = as_left (e' ∙ rw d.number) (passed_over (take_vertex l rec).words
          (record { formed = d.after.later.formed; members = d.after.later.members ∙ g.good.members }) _ (first_joins l rec others d) refl refl)
      go (inr (inl d)) = as_left (e' ∙ rw d.number) (kept d)
      go (inr (inr d)) = as_left (e' ∙ rw d.number) (passed_over (take_vertex l rec).words (rw d.same g.good) _ (first_leaves l rec others d)
          (rw d.same) (rw d.same))

-- ---- its end: the slots that are not used are cleared, and the count is written

module _ (n : ℕ) (l₀ s₀ l s t u : List ℕ) (k from to : ℕ) (F : Formed n s₀) (G₀ : Good n l₀) (g : Going n l₀ s₀ l s k (count_of s₀) (count_of s₀))
    (a : from ≡ slot_at k) (z : to ≡ slot_at (count_of s₀)) (d : t ≡ paste s from (replicate (to - from) 0) (to - from)) (e : u ≡ set t count_place k) where
  abbrev last : ℕ
  last = count_of s₀

  zeros : List ℕ
  zeros = replicate (to - from) 0

  few : k ≤ last
  few = g.few

  fits : from + (to - from) ≤ length s
  fits = omega (arith, F.few, g.size, a, z, few)

  long : length zeros ≡ to - from
  unfolding zeros
  long = length-replicate (to - from) 0

  t_size : length t ≡ buffer_size
  unfolding zeros
  t_size = ap length d ∙ length-paste s from zeros (to - from) fits (omega (arith, long)) ∙ g.size

  t_low : (i : ℕ) → i < slot_at k → get_or t i 0 ≡ get_or s i 0
  unfolding zeros
  t_low i h = ap (λ (x : List ℕ). get_or x i 0) d ∙ paste_before s from zeros (to - from) fits long i (omega arith)

  t_zeros : Zeros t k
  unfolding zeros
  t_zeros i x y = ⊎_elim (λ h. inside (ltb-true i to h)) (λ h. beyond (ltb-false i to h)) (which (ltb i to))
    where
      inside : i < to → get_or t i 0 ≡ 0
      inside h =
          let m : from + (i - from) ≡ i = omega arith in
          ap (λ (v : List ℕ). get_or v i 0) d ∙ ap (λ (j : ℕ). get_or (paste s from zeros (to - from)) j 0) (sym m)
          ∙ sym (get_or-drop from (paste s from zeros (to - from)) (i - from) 0)
          ∙ sym (get_or-take (to - from) (drop from (paste s from zeros (to - from))) (i - from) 0 (omega arith))
          ∙ ap (λ (v : List ℕ). get_or v (i - from) 0) (paste_part s from zeros (to - from) fits long)
          ∙ get_or-replicate (to - from) (i - from) 0 0 (omega arith)

      beyond : to ≤ i → get_or t i 0 ≡ 0
      beyond h = ap (λ (v : List ℕ). get_or v i 0) d ∙ paste_after s from zeros (to - from) fits long i (omega arith) ∙ g.zeros i (omega arith) y

  u_size : length u ≡ buffer_size
  u_size = ap length e ∙ counted_size t k t_size

  u_count : count_of u ≡ k
  u_count = ap count_of e ∙ counted t k t_size

  u_records : records_in u ≡ records_from s 0 k
  u_records = ap (records_from u 0) u_count ∙ records_same u s 0 0 k (λ i h.
      ap (λ (v : List ℕ). record_at v (0 + i)) e ∙ counted_slot t k t_size (0 + i) (omega (arith, few, F.few))
      ∙ slot_same t s (0 + i) t_size g.size (omega (arith, few, F.few)) (λ w p q. t_low w (omega arith)))

  u_zeros : Zeros u (count_of u)
  u_zeros i x y =
      ap (λ (v : List ℕ). get_or v i 0) e ∙ counted_word t k t_size i (omega arith) ∙ t_zeros i (omega (arith, u_count)) y

  pub sweep_done : both l u ≡ release_in l₀ s₀
  unfolding pass
  sweep_done =
      let p = one_pass n l₀ (records_in s₀) G₀ 0 F.records in
      let x : records_from s₀ last (last - last) ≡ [] = records_end s₀ last last (omega arith) in
      let state : l ≡ (pass try_vertex l₀ (records_in s₀)).after = ap (λ (r : List (List ℕ)). (pass try_vertex l r).after) (sym x) ∙ g.after in
      let left : records_from s 0 k ≡ (pass try_vertex l₀ (records_in s₀)).waiting =
      sym (append-nil (records_from s 0 k)) ∙ ap (λ (r : List (List ℕ)). records_from s 0 k ++ (pass try_vertex l r).waiting) (sym x) ∙ g.waiting in
      ap₂ both state (buffer_laid u u_size (omega (arith, u_count, few, F.few)) u_zeros ∙ ap buffer_of (u_records ∙ left))
      ∙ ap released (sym p)
