-- The passes of the model beside those of the state: the same records join, wait on and leave, and the state follows the model. Assumes nothing.
use mathlib.Core.Path.{◌≡◌, refl, sym, ap, ◌∙◌}
use mathlib.Core.Bool.{Bool, true, false, not, ◌||◌}
use mathlib.Core.Logic.{◌⊎◌, inl, inr}
use mathlib.Core.List.Memᴰ
use mathlib.Core.List.{List, [], ◌∷◌}
use Prim.Native.Nat.{ℕ, zero, suc, ◌<◌}
use lib.ListN.{length}
use Rattle.record.specs.Members.{legal, id_round, id_member, id_limit}
use Rattle.record.specs.Layout.{round_of, source_of, body_of}
use Rattle.record.proofs.Booleans.{which, or_left, or_right, imp_elim, bool_ext}
use Rattle.record.proofs.Below.{all_elim, all_intro}
use Rattle.protocol.specs.Dag.{Records, records_of, present, held}
use Rattle.replica.specs.State.{vertices}
use Rattle.replica.specs.Parents.{is_parent, parents_held}
use Rattle.replica.proofs.Dags.{held_id_lem}
use Rattle.replica.proofs.ParentLaws.{parents_intro, parents_elim}
use Rattle.ordering.specs.Calls.{take_vertex}
use Rattle.pending.specs.Buffer.{In, record_id, records_ok}
use Rattle.pending.specs.Passes.{Fate, joins, stays, leaves, Trial, Passed, ahead, is_none, pass, passes, release, ChangesByAdmission}
use Rattle.pending.specs.Early.{try_vertex}
use Rattle.pending.proofs.Order.{ok_first}
use Rattle.pending.proofs.Ending.{any_passes_end}
use Rattle.pending.proofs.Holding.{Joins, Stays, Leaves, ends, waiting_lacks, joined_words}
use Rattle.pending.proofs.Passing.{Good, first_joins, first_stays, first_leaves, pass_waiting}
use Rattle.agreement.specs.Model.{Model, parents_there, try_record, ModelPassesEnd}
use Rattle.agreement.specs.Claim.{Premises}
use Rattle.agreement.proofs.Family.{Inside, Either, either_before}
use Rattle.agreement.proofs.Following.{Holds, Follows, vertex_follows}

-- ---- the parents of a record, in the state and in the model

module _ (n : ℕ) (l : List ℕ) (m : Model) (h : Holds n l m) (rec : List ℕ) where
  abbrev v : Records
  v = records_of m.vertices

  abbrev r : ℕ
  r = round_of rec

  abbrev body : List ℕ
  body = body_of rec

  same : (y : ℕ) → held (vertices l) (id_round y) (id_member y) ≡ held v (id_round y) (id_member y)
  same y = ap present (h.vertex (id_round y) (id_member y))

  -- a parent is there
  pub parent_there : parents_there v r body ≡ true → (y : ℕ) → y < id_limit → is_parent r body y ≡ true → held v (id_round y) (id_member y) ≡ true
  unfolding parents_there
  parent_there e y b d = imp_elim (is_parent r body y) _ (all_elim id_limit (λ z. not (is_parent r body z) || held v (id_round z) (id_member z)) e y b) d

  -- all are there exactly if all are held
  parents_are : parents_held l r body ≡ parents_there v r body
  unfolding parents_there
  parents_are = bool_ext
      (λ e. all_intro id_limit _ (λ y b. there e y b (which (is_parent r body y))))
      (λ e. parents_intro l r body (λ y b d. held_id_lem l h.formed.size y ∙ same y ∙ parent_there e y b d))
    where
      there : parents_held l r body ≡ true → (y : ℕ) → y < id_limit → (is_parent r body y ≡ true) ⊎ (is_parent r body y ≡ false)
          → (not (is_parent r body y) || held v (id_round y) (id_member y)) ≡ true
      there e y b (inr d) = or_left _ (ap not d)
      there e y b (inl d) = or_right (not (is_parent r body y)) (sym (same y) ∙ sym (held_id_lem l h.formed.size y) ∙ parents_elim l r body e y b d)

  -- the record is there exactly if it is held
  place : held (vertices l) r (source_of rec) ≡ held v r (source_of rec)
  place = ap present (h.vertex r (source_of rec))

  -- so its trial on the model ends as that on the state
  pub book_joins : Joins l rec → try_record m.vertices rec ≡ record { fate = joins; after = rec ∷ m.vertices }
  book_joins j =
      let a : held v r (source_of rec) ≡ false = sym place ∙ j.free in
      let b : parents_there v r body ≡ true = sym parents_are ∙ j.parents in
      rw (a, b)

  pub book_stays : Stays l rec → try_record m.vertices rec ≡ record { fate = stays; after = m.vertices }
  book_stays s =
      let a : held v r (source_of rec) ≡ false = sym place ∙ s.waits.free in
      let b : parents_there v r body ≡ false = sym parents_are ∙ waiting_lacks l rec h.formed s.waits in
      rw (a, b)

  pub book_leaves : Leaves l rec → try_record m.vertices rec ≡ record { fate = leaves; after = m.vertices }
  book_leaves s = let a : held v r (source_of rec) ≡ true = sym place ∙ s.there in rw a

-- ---- the passes end

-- a trial that does not admit leaves the vertices
model_quiet : ChangesByAdmission try_record
model_quiet v rec h = go (which (held (records_of v) (round_of rec) (source_of rec))) (which (parents_there (records_of v) (round_of rec) (body_of rec)))
  where
    go : (held (records_of v) (round_of rec) (source_of rec) ≡ true) ⊎ (held (records_of v) (round_of rec) (source_of rec) ≡ false)
        → (parents_there (records_of v) (round_of rec) (body_of rec) ≡ true) ⊎ (parents_there (records_of v) (round_of rec) (body_of rec) ≡ false)
        → (try_record v rec).after ≡ v
    go (inl a) b = rw a
    go (inr a) (inl b) = absurd (h (rw (a, b)))
    go (inr a) (inr b) = rw (a, b)

pub model_passes_end : ModelPassesEnd
model_passes_end = any_passes_end (List (List ℕ)) try_record model_quiet

-- ---- the model only gains records

-- by a trial
try_more : (v : List (List ℕ)) (rec x : List ℕ) → In x v → In x (try_record v rec).after
try_more v rec x h = go (which (held (records_of v) (round_of rec) (source_of rec))) (which (parents_there (records_of v) (round_of rec) (body_of rec)))
  where
    go : (held (records_of v) (round_of rec) (source_of rec) ≡ true) ⊎ (held (records_of v) (round_of rec) (source_of rec) ≡ false)
        → (parents_there (records_of v) (round_of rec) (body_of rec) ≡ true) ⊎ (parents_there (records_of v) (round_of rec) (body_of rec) ≡ false)
        → In x (try_record v rec).after
    go (inl a) b = rw a h
    go (inr a) (inl b) = rw (a, b) (Memᴰ.tail h)
    go (inr a) (inr b) = rw (a, b) h

after_ahead : (rec : List ℕ) (f : Fate) (p : Passed (List (List ℕ))) → (ahead rec f p).after ≡ p.after
after_ahead rec joins p = refl
after_ahead rec stays p = refl
after_ahead rec leaves p = refl

-- by a pass
pass_more : (recs v : List (List ℕ)) (x : List ℕ) → In x v → In x (pass try_record v recs).after
unfolding pass
pass_more [] v x h = h
pass_more (rec ∷ recs) v x h =
    rw (after_ahead rec (try_record v rec).fate (pass try_record (try_record v rec).after recs))
    (pass_more recs (try_record v rec).after x (try_more v rec x h))

-- by the passes after the first
passes_more : (k : ℕ) (recs v : List (List ℕ)) (x : List ℕ) → In x (pass try_record v recs).after → In x (passes try_record (suc k) v recs).after
unfolding passes
passes_more zero recs v x h = go (which (is_none (pass try_record v recs).admitted))
  where
    go : (is_none (pass try_record v recs).admitted ≡ true) ⊎ (is_none (pass try_record v recs).admitted ≡ false) → In x (passes try_record 1 v recs).after
    go (inl a) = rw a h
    go (inr a) = rw a h
passes_more (suc k) recs v x h = go (which (is_none (pass try_record v recs).admitted))
    (passes_more k (pass try_record v recs).waiting (pass try_record v recs).after x
    (pass_more (pass try_record v recs).waiting (pass try_record v recs).after x h))
  where
    go : (is_none (pass try_record v recs).admitted ≡ true) ⊎ (is_none (pass try_record v recs).admitted ≡ false)
        → In x (passes try_record (suc k) (pass try_record v recs).after (pass try_record v recs).waiting).after
        → In x (passes try_record (suc (suc k)) v recs).after
    go (inl a) ih = rw a h
    go (inr a) ih = rw a ih

-- by all of them
pub release_more : (recs v : List (List ℕ)) (x : List ℕ) → In x v → In x (release try_record v recs).after
release_more recs v x h = passes_more (length recs) recs v x (pass_more recs v x h)

-- ---- the state follows the model

module _ (n : ℕ) (a b : Model) (honest : ℕ → Bool) (g : legal n ≡ true) (P : Premises n a b honest) (m : Model) where
  -- the model with these vertices
  abbrev pub having : List (List ℕ) → Model
  having v = record { n = m.n; vertices = v; firsts = m.firsts }

  inside : (v w : List (List ℕ)) → ((x : List ℕ) → In x v → In x w) → Inside (having v) (having w)
  inside v w h = record { members = refl; vertices = h; firsts = λ x k. k }

  -- a pass over the state and one over the model, side by side
  record Beside (l : List ℕ) (v recs : List (List ℕ)) : Type 0 where
    follows : Follows n (pass try_vertex l recs).after (having (pass try_record v recs).after)
    admitted : (pass try_vertex l recs).admitted ≡ (pass try_record v recs).admitted
    waiting : (pass try_vertex l recs).waiting ≡ (pass try_record v recs).waiting

  beside : (low : ℕ) (recs : List (List ℕ)) (l : List ℕ) (v : List (List ℕ)) → records_ok n low recs ≡ true → Follows n l (having v)
      → Either a b (having (pass try_record v recs).after) → Beside l v recs
  unfolding pass
  beside low [] l v e f i = record { follows = f; admitted = refl; waiting = refl }
  beside low (rec ∷ recs) l v e f i =
      let t = ok_first n low rec recs e in
      go (ends l rec f.holds.formed (rw f.holds.members t.passes)) (λ k w. beside (record_id rec) recs k w t.others)
    where
      -- the pass over the model, by the end of the first trial
      first : (t : Trial (List (List ℕ))) → try_record v rec ≡ t → pass try_record v (rec ∷ recs) ≡ ahead rec t.fate (pass try_record t.after recs)
      first t d = ap (λ (x : Trial (List (List ℕ))). ahead rec x.fate (pass try_record x.after recs)) d

      go : Joins l rec ⊎ (Stays l rec ⊎ Leaves l rec)
          → ((k : List ℕ) (w : List (List ℕ)) → Follows n k (having w) → Either a b (having (pass try_record w recs).after) → Beside k w recs)
          → Beside l v (rec ∷ recs)
      go (inl j) ih =
          let d = first _ (book_joins n l (having v) f.holds rec j) in
          let i' : Either a b (having (pass try_record (rec ∷ v) recs).after) = rw d at i in
          let j₁ : Either a b (having (rec ∷ v)) = either_before (inside _ _ (pass_more recs (rec ∷ v))) i' in
          let j₀ : Either a b (having v) = either_before (inside v (rec ∷ v) (λ x h. Memᴰ.tail h)) j₁ in
          let F : Follows n (take_vertex l rec).words (having (rec ∷ v)) = rw (joined_words l rec j.asked)
          (vertex_follows n a b honest g P l (having v) rec f.holds j.asked j₀ j₁) in
          let B = ih (take_vertex l rec).words (rec ∷ v) F i' in
          let c = first_joins l rec recs j in
          let x = ap (λ (y : List (List ℕ)). rec ∷ y) B.admitted in
          record { follows = rw (c, d) B.follows; admitted = rw (c, d) x; waiting = rw (c, d) B.waiting }
      go (inr (inl s)) ih =
          let d = first _ (book_stays n l (having v) f.holds rec s) in
          let B = ih l v f (rw d at i) in
          let c = first_stays l rec recs s in
          let x = ap (λ (y : List (List ℕ)). rec ∷ y) B.waiting in
          record { follows = rw (c, d) B.follows; admitted = rw (c, d) B.admitted; waiting = rw (c, d) x }
      go (inr (inr s)) ih =
          let d = first _ (book_leaves n l (having v) f.holds rec s) in
          let B = ih l v f (rw d at i) in
          let c = first_leaves l rec recs s in
          record { follows = rw (c, d) B.follows; admitted = rw (c, d) B.admitted; waiting = rw (c, d) B.waiting }

  -- pass after pass
  passes_follow : (k low : ℕ) (recs : List (List ℕ)) (l : List ℕ) (v : List (List ℕ)) → records_ok n low recs ≡ true → Follows n l (having v)
      → Either a b (having (passes try_record k v recs).after) → Follows n (passes try_vertex k l recs).after (having (passes try_record k v recs).after)
  unfolding passes
  passes_follow zero low recs l v e f i = f
  passes_follow (suc k) low recs l v e f i =
      let B = beside low recs l v e f (either_before (inside _ _ (passes_more k recs v)) i) in
      let G : Good n l = record { formed = f.holds.formed; members = f.holds.members } in
      go B (which (is_none (pass try_record v recs).admitted))
      (passes_follow k low (pass try_record v recs).waiting (pass try_vertex l recs).after (pass try_record v recs).after
      (ap (records_ok n low) (sym B.waiting) ∙ (pass_waiting n low l recs G e).0) B.follows)
    where
      go : Beside l v recs → (is_none (pass try_record v recs).admitted ≡ true) ⊎ (is_none (pass try_record v recs).admitted ≡ false)
          → (Either a b (having (passes try_record k (pass try_record v recs).after (pass try_record v recs).waiting).after)
          → Follows n (passes try_vertex k (pass try_vertex l recs).after (pass try_record v recs).waiting).after
          (having (passes try_record k (pass try_record v recs).after (pass try_record v recs).waiting).after))
          → Follows n (passes try_vertex (suc k) l recs).after (having (passes try_record (suc k) v recs).after)
      go B (inl d) ih = rw (B.admitted, d) B.follows
      go B (inr d) ih = rw (B.admitted, d, B.waiting) (ih (rw d at i))

  pub release_follows : (recs : List (List ℕ)) (l : List ℕ) (v : List (List ℕ)) → records_ok n 0 recs ≡ true → Follows n l (having v)
      → Either a b (having (release try_record v recs).after) → Follows n (release try_vertex l recs).after (having (release try_record v recs).after)
  release_follows recs = passes_follow (suc (length recs)) 0 recs
