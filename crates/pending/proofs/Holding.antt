-- What a trial leaves: a record that is admitted is held and the others stay, one with a missing parent waits, and one that is held leaves. Assumes nothing.
use Rattle.std.specs.Prelude.{Err}
use mathlib.Core.Path.{◌≡◌, refl, sym, ap, ◌∙◌}
use mathlib.Core.Bool.{true, false, not, ◌&&◌}
use mathlib.Core.Logic.{◌⊎◌, inl, inr, ⊎_elim}
use mathlib.Core.List.{List}
use Prim.Native.Nat.{ℕ, zero, suc, ◌^◌, ◌≤◌, ◌<◌}
use native.Mathlib.Omega.{arith}
use lib.Dec.{eqb, ltb}
use borrow.Author.Tests.{eqb-true, eqb-false, ltb-true, ltb-false, not-true}
use Rattle.record.specs.Below.{least}
use Rattle.record.specs.Members.{rounds, slots, has, id_of, id_round, id_member, id_limit}
use Rattle.record.specs.Refusals.{Verdict, no_refusal, number_of, missing_number, first_no}
use Rattle.record.specs.Layout.{round_of, source_of, body_of, timeouts_of}
use Rattle.record.specs.Questions.{record_refusal}
use Rattle.record.specs.Admitted.{Admitted}
use Rattle.record.specs.declared.refusal.Refusal.TheVariants.{Duplicate, Conflict, MissingParent}
use Rattle.record.proofs.Booleans.{which, never, and_left, and_right}
use Rattle.record.proofs.Below.{least_sat}
use Rattle.record.proofs.Rounds.{round_in}
use Rattle.protocol.specs.Dag.{Records, held, present}
use Rattle.replica.specs.Layout.{member_count_at, leader_count_at, journal_count_at}
use Rattle.replica.specs.State.{member_count, leader_count, journal_count, held_mask, vertices, held_id}
use Rattle.replica.specs.Parents.{is_parent, missing, parents_held}
use Rattle.replica.proofs.Words.{legal_pow}
use Rattle.replica.proofs.Formed.{WellFormed}
use Rattle.replica.proofs.Dags.{held_vertex, held_id_lem}
use Rattle.replica.proofs.ParentLaws.{parent_cases, parents_elim, weak_five}
use Rattle.commits.specs.Commit.{is_ready, commit_once, commit_up_to, most_commits, commit_all, raise_round}
use Rattle.commits.proofs.Frame.{vertices_same}
use Rattle.commits.proofs.Growing.{commit_vertices}
use Rattle.commits.proofs.Repeating.{once}
use Rattle.ordering.specs.Calls.{same_body, place_questions, vertex_questions, put_vertex, take_body, take_vertex}
use Rattle.ordering.proofs.Turns.{PlaceKnown, place_known}
use Rattle.ordering.proofs.Numbers.{number_yes, words_yes, number_no, words_no, vertex_yes}
use Rattle.ordering.proofs.Writing.{Calm, raise_calm, raise_alike, calm_then, put_here, put_other}
use Rattle.ordering.proofs.Marks.{formed_raise}
use Rattle.ordering.proofs.Kept.{formed_once, formed_vertex}
use Rattle.ordering.proofs.Counts.{commits_grow}
use Rattle.ordering.proofs.Own.{fixed_members, vertex_fixed}
use Rattle.ordering.proofs.Carried.{written, VertexWritten, vertex_written, carry_alike}
use Rattle.pending.specs.Buffer.{record_id}
use Rattle.pending.specs.Passes.{joins, stays, leaves}
use Rattle.pending.specs.Early.{fate_of, try_vertex}
use Rattle.pending.proofs.Order.{admit}
use Rattle.pending.proofs.Trying.{place_decides}

-- the vertices stay over the next commit
once_vertices : (l : List ℕ) → WellFormed l → is_ready l ≡ true → vertices (commit_once l) ≡ vertices l
once_vertices l S e = let w = once l S.leaders.committed_high e in rw w.is (commit_vertices l S w.round w.seat w.ready)

-- and over all of them
commits_vertices : (k : ℕ) (l : List ℕ) → WellFormed l → vertices (commit_up_to l k) ≡ vertices l
unfolding commit_up_to
commits_vertices zero l S = refl
commits_vertices (suc k) l S = go (which (is_ready l)) (commits_vertices k (commit_once l))
  where
    go : (is_ready l ≡ true) ⊎ (is_ready l ≡ false) → (WellFormed (commit_once l) → vertices (commit_up_to (commit_once l) k) ≡ vertices (commit_once l))
        → vertices (commit_up_to l (suc k)) ≡ vertices l
    go (inl e) ih = rw e (ih (formed_once l S e) ∙ once_vertices l S e)
    go (inr e) ih = rw e

-- ---- the state afterwards

-- k comes after l: it is well formed and of the same members, and its lists are no shorter
pub record Later (l k : List ℕ) : Type 0 where
  pub formed : WellFormed k
  pub members : member_count k ≡ member_count l
  pub leaders : leader_count l ≤ leader_count k
  pub journal : journal_count l ≤ journal_count k

pub later_self : (l : List ℕ) → WellFormed l → Later l l
later_self l S = record { formed = S; members = refl; leaders = omega arith; journal = omega arith }

pub later_then : {l k m : List ℕ} → Later l k → Later k m → Later l m
later_then a b = record {
  formed = b.formed;
  members = b.members ∙ a.members;
  leaders = omega (arith, a.leaders, b.leaders);
  journal = omega (arith, a.journal, b.journal);
}

-- after an admitted record it is held, and the others are as they were
pub record Joined (l rec k : List ℕ) : Type 0 where
  pub later : Later l k
  pub here : vertices k (round_of rec) (source_of rec) ≡ body_of rec
  pub other : (s q : ℕ) → (eqb (round_of rec) s && eqb (source_of rec) q) ≡ false → vertices k s q ≡ vertices l s q

module _ (l rec : List ℕ) (ok : number_of (first_no (vertex_questions l (round_of rec) (source_of rec) (body_of rec))) ≡ 0) where
  W : VertexWritten l (round_of rec) (source_of rec) (body_of rec)
  W = vertex_written l (round_of rec) (source_of rec) (body_of rec) ok

  abbrev put : List ℕ
  put = put_vertex l (round_of rec) (source_of rec) (body_of rec)

  abbrev raised : List ℕ
  raised = raise_round (written l (round_of rec) (source_of rec) (body_of rec))

  raised_formed : WellFormed raised
  raised_formed = formed_raise _ W.formed

  same : vertices (commit_all raised) ≡ vertices put
  same =
      commits_vertices most_commits raised raised_formed ∙ vertices_same (raise_alike (written l (round_of rec) (source_of rec) (body_of rec)))
      ∙ vertices_same (carry_alike put (round_of rec) (timeouts_of (body_of rec)) W.admit.round_high)

  calm : Calm l raised
  calm = calm_then W.calm (raise_calm _)

  pub joined_words : (take_vertex l rec).words ≡ commit_all raised
  unfolding take_body
  joined_words = words_yes (first_no (vertex_questions l (round_of rec) (source_of rec) (body_of rec))) l (commit_all raised) ok

  small : (t : ℕ) → 1 ≤ t → t ≤ rounds → held_mask l t < 2 ^ slots
  small t x y = legal_pow (member_count l) (held_mask l t) W.first.front.members (W.first.masks.held_low t x y)

  pub joined : Joined l rec (take_vertex l rec).words
  joined =
      let A = W.admit in
      let g = commits_grow most_commits raised raised_formed in
      let a = calm.head leader_count_at (omega arith) (λ e. omega arith) in
      let b = calm.head journal_count_at (omega arith) (λ e. omega arith) in
      record {
        later = record {
          formed = rw joined_words (formed_vertex l W.first (round_of rec) (source_of rec) (body_of rec) ok);
          members = (vertex_fixed l W.first (round_of rec) (source_of rec) (body_of rec)).same member_count_at fixed_members;
          leaders = rw joined_words (omega (arith, g.0, a));
          journal = rw joined_words (omega (arith, g.1, b));
        };
        here = ap (λ (x : List ℕ). vertices x (round_of rec) (source_of rec)) joined_words ∙ ap (λ (v : Records). v (round_of rec) (source_of rec)) same
            ∙ put_here l (round_of rec) (source_of rec) (body_of rec) W.first.size A.round_low A.round_high W.few A.size;
        other = λ s q e. ap (λ (x : List ℕ). vertices x s q) joined_words ∙ ap (λ (v : Records). v s q) same
            ∙ put_other l (round_of rec) (source_of rec) (body_of rec) W.first.size A.round_low A.round_high W.few A.size small s q e;
      }

-- ---- a record that waits

-- its place is free, and a parent is missing
pub record Waiting (l rec : List ℕ) : Type 0 where
  pub free : held (vertices l) (round_of rec) (source_of rec) ≡ false
  pub parent : ℕ
  pub within : parent < id_limit
  pub is_a_parent : is_parent (round_of rec) (body_of rec) parent ≡ true
  pub not_held : held (vertices l) (id_round parent) (id_member parent) ≡ false

-- not all of its parents are held
pub waiting_lacks : (l rec : List ℕ) → WellFormed l → Waiting l rec → parents_held l (round_of rec) (body_of rec) ≡ false
waiting_lacks l rec S w = ⊎_elim
    (λ e. never (sym (held_id_lem l S.size w.parent) ∙ parents_elim l (round_of rec) (body_of rec) e w.parent w.within w.is_a_parent) w.not_held)
    (λ e. e) (which (parents_held l (round_of rec) (body_of rec)))

-- ---- the three ends of a trial

-- of a record that passes its own questions, on a well-formed state
pub record Joins (l rec : List ℕ) : Type 0 where
  pub fate : (try_vertex l rec).fate ≡ joins
  pub number : (take_vertex l rec).number ≡ 0
  pub free : held (vertices l) (round_of rec) (source_of rec) ≡ false
  pub parents : parents_held l (round_of rec) (body_of rec) ≡ true
  pub asked : number_of (first_no (vertex_questions l (round_of rec) (source_of rec) (body_of rec))) ≡ 0
  pub after : Joined l rec (take_vertex l rec).words

pub record Stays (l rec : List ℕ) : Type 0 where
  pub fate : (try_vertex l rec).fate ≡ stays
  pub number : (take_vertex l rec).number ≡ missing_number
  pub same : (take_vertex l rec).words ≡ l
  pub waits : Waiting l rec

pub record Leaves (l rec : List ℕ) : Type 0 where
  pub fate : (try_vertex l rec).fate ≡ leaves
  pub number : eqb (take_vertex l rec).number missing_number ≡ false
  pub same : (take_vertex l rec).words ≡ l
  pub there : held (vertices l) (round_of rec) (source_of rec) ≡ true

module _ (l rec : List ℕ) (S : WellFormed l) (e : number_of (record_refusal (member_count l) rec) ≡ 0) where
  abbrev r : ℕ
  r = round_of rec

  abbrev p : ℕ
  p = source_of rec

  abbrev body : List ℕ
  body = body_of rec

  abbrev why : Verdict
  why = first_no (vertex_questions l r p body)

  K : PlaceKnown l (member_count l) r p body
  K = place_known l (member_count l) r p body S.front.members e

  A : Admitted (member_count l) r p body
  A = admit (member_count l) rec e

  place : held (vertices l) r p ≡ has (held_mask l r) p
  place = held_vertex l S.size r p K.few ∙ rw (round_in r A.round_low A.round_high)

  -- a refusal: the words stay, and the number is its own
  refused : (x : Verdict) → x ≡ first_no (place_questions l r p body) → (number_of x ≡ 0 → ⊥)
      → ((take_vertex l rec).words ≡ l) × ((take_vertex l rec).number ≡ number_of x)
  unfolding take_body
  refused x d h =
      let f = place_decides l rec S e x d in
      let h' : number_of why ≡ 0 → ⊥ = λ z. h (ap number_of f ∙ z) in
      (words_no why l _ h', number_no why l _ h' ∙ sym (ap number_of f))

  taken : has (held_mask l r) p ≡ true → (x : Verdict) → x ≡ first_no (place_questions l r p body) → (number_of x ≡ 0 → ⊥) → fate_of (number_of x) ≡ leaves
      → eqb (number_of x) missing_number ≡ false → Leaves l rec
  taken t x d h f g =
      let w = refused x d h in
      record { fate = ap fate_of w.1 ∙ f; number = ap (λ (y : ℕ). eqb y missing_number) w.1 ∙ g; same = w.0; there = place ∙ t }

  lacking : has (held_mask l r) p ≡ false → least id_limit (missing l r body) < id_limit → Stays l rec
  unfolding missing
  lacking t b =
      let x = least id_limit (missing l r body) in
      let w = refused (Err (MissingParent x)) (K.lacking x t refl b) (eqb-false 14 0 refl) in
      let m : (is_parent r body x && not (held_id l x)) ≡ true = least_sat id_limit (missing l r body) b in
      record {
        fate = ap fate_of w.1;
        number = w.1;
        same = w.0;
        waits = record {
          free = place ∙ t;
          parent = x;
          within = b;
          is_a_parent = and_left _ _ m;
          not_held = sym (held_id_lem l S.size x) ∙ not-true _ (and_right (is_parent r body x) _ m);
        };
      }

  ready : has (held_mask l r) p ≡ false → id_limit ≤ least id_limit (missing l r body) → Joins l rec
  unfolding take_body
  ready t b =
      let f = place_decides l rec S e no_refusal (K.free t b) in
      let z : number_of why ≡ 0 = sym (ap number_of f) in
      let n : (take_vertex l rec).number ≡ 0 = number_yes why l _ z in
      record {
        fate = ap fate_of n;
        number = n;
        free = place ∙ t;
        parents = (vertex_yes l r p body z).2;
        asked = z;
        after = joined l rec z;
      }

  pub ends : Joins l rec ⊎ (Stays l rec ⊎ Leaves l rec)
  ends = go (which (has (held_mask l r) p)) (which (same_body l r p body)) (which (ltb (least id_limit (missing l r body)) id_limit))
    where
      go : (has (held_mask l r) p ≡ true) ⊎ (has (held_mask l r) p ≡ false) → (same_body l r p body ≡ true) ⊎ (same_body l r p body ≡ false)
          → (ltb (least id_limit (missing l r body)) id_limit ≡ true) ⊎ (ltb (least id_limit (missing l r body)) id_limit ≡ false)
          → Joins l rec ⊎ (Stays l rec ⊎ Leaves l rec)
      go (inl t) (inl u) v = inr (inr (taken t (Err Duplicate) (K.same t u) (eqb-false 12 0 refl) refl refl))
      go (inl t) (inr u) v = inr (inr (taken t (Err Conflict) (K.other t u) (eqb-false 13 0 refl) refl refl))
      go (inr t) u (inl v) = inr (inl (lacking t (ltb-true _ _ v)))
      go (inr t) u (inr v) = inl (ready t (ltb-false _ _ v))

  -- a record that waits gets 14
  pub waiting_stays : Waiting l rec → Stays l rec
  waiting_stays w = ⊎_elim (λ j. never j.parents (waiting_lacks l rec S w)) (⊎_elim (λ s. s) (λ g. never g.there w.free)) ends

-- ---- parents have lower ids

pub parent_lower : (l rec : List ℕ) → WellFormed l → number_of (record_refusal (member_count l) rec) ≡ 0 → (y : ℕ)
    → is_parent (round_of rec) (body_of rec) y ≡ true
    → y < record_id rec
parent_lower l rec S e y d =
    let A = admit (member_count l) rec e in
    ⊎_elim (λ w. omega (arith, w.0))
    (λ w.
    let k = weak_five (member_count l) (round_of rec) (source_of rec) l (body_of rec) S.front.members A in
    let h = A.weak_high w.0 (omega (arith, w.1)) w.1 in
    let z = w.2 in
    omega (arith, ap id_round z)) (parent_cases (round_of rec) (body_of rec) y d)

-- so a record that waits does so still after one of a higher id is tried
pub waits_on : (l rec other : List ℕ) → WellFormed l → number_of (record_refusal (member_count l) rec) ≡ 0
    → number_of (record_refusal (member_count l) other) ≡ 0
    → record_id rec < record_id other → Waiting l rec → Waiting (take_vertex l other).words rec
waits_on l rec other S e d h w = go (ends l other S d)
  where
    few : source_of rec < slots
    few = omega (arith, (admit (member_count l) rec e).source_low, S.front.high)

    few_other : source_of other < slots
    few_other = omega (arith, (admit (member_count l) other d).source_low, S.front.high)

    -- the other is no vertex of a lower id
    apart : (s q : ℕ) → id_of s q < record_id other → (eqb (round_of other) s && eqb (source_of other) q) ≡ false
    apart s q b = ⊎_elim
        (λ t. absurd (omega (arith, eqb-true (round_of other) s (and_left _ _ t), eqb-true (source_of other) q (and_right (eqb (round_of other) s) _ t))))
        (λ t. t) (which (eqb (round_of other) s && eqb (source_of other) q))

    go : Joins l other ⊎ (Stays l other ⊎ Leaves l other) → Waiting (take_vertex l other).words rec
    go (inl j) = record {
      free = ap present (j.after.other (round_of rec) (source_of rec) (apart (round_of rec) (source_of rec) h)) ∙ w.free;
      parent = w.parent;
      within = w.within;
      is_a_parent = w.is_a_parent;
      not_held =
          let b = parent_lower l rec S e w.parent w.is_a_parent in
          let c = apart (id_round w.parent) (id_member w.parent) (omega arith) in
          ap present (j.after.other (id_round w.parent) (id_member w.parent) c) ∙ w.not_held;
    }
    go (inr (inl s)) = rw s.same w
    go (inr (inr s)) = rw s.same w
