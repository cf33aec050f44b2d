-- Laws of the questions in turn, and of a record that none refuses. Assumes nothing.
use mathlib.Core.Path.{◌≡◌, refl, sym, ap, ◌∙◌}
use mathlib.Core.Bool.{Bool, true, false, not, ◌&&◌, and-true, and-false, true≢false, false≢true}
use Rattle.std.specs.Prelude.{Result, Ok, Err, is_ok, is_err, IsErrAnd}
use mathlib.Core.List.{List, [], ◌∷◌, ◌++◌}
use Prim.Native.Nat.{ℕ, ◌+◌, ◌-◌, ◌^◌, ◌≤◌, ◌<◌}
use native.Mathlib.Omega.{arith}
use lib.Dec.{eqb, leb, ltb}
use lib.ListN.{length}
use borrow.Author.Tests.{leb-true, ltb-true, lt-ltb, eqb-true, eqb-false, ne_eqb, eq-eqb, le-leb}
use Rattle.record.specs.Below.{count}
use Rattle.record.specs.Members.{faulty, quorum, leader_at, leader, has, within, meets, id_round, id_member, rounds, is_round}
use Rattle.record.specs.Refusals.{Verdict, no_refusal, refusal_number, number_of, Question, first_no, numbered}
use Rattle.record.specs.Layout.{strong_of, timeouts_of, no_votes_of, no_votes_for, weak_count_of, weak_of, body_size, weak_slots}
use Rattle.record.specs.Questions.{masks_ok, strong_ok, lacks_leader, quorum_if, timeouts_ok, no_votes_ok, weak_id_ok, rises, slot_ok, weak_ok}
use Rattle.record.specs.Questions.{signer_questions, record_questions, body_refusal}
use Rattle.record.specs.Handed.{handed_if}
use Rattle.record.specs.Admitted.{SignerLaw, PlacedLaw, NoRoundLaw, AdmittedLaw, CertifiedLaw, NumberedLaw, LastNumberLaw}
use Rattle.record.specs.declared.refusal.Refusal.{Refusal}
use Rattle.record.specs.declared.refusal.Refusal.TheVariants.{StateSize, MemberCount, Malformed, RecordSize, Round, Source, MaskBits}
use Rattle.record.specs.declared.refusal.Refusal.TheVariants.{Strong, Timeouts, NoVotes, Weak, Duplicate, Conflict, MissingParent, PastEnd}
use Rattle.record.specs.declared.refusal.Refusal.TheVariants.{Watcher, Signing, FewParents, Buffer, BufferFull}
use Rattle.record.proofs.Booleans.{never, and_left, and_right, and_both, cond_true, cond_false}
use Rattle.record.proofs.Below.{all_elim}
use Rattle.record.proofs.Rounds.{round_in, round_range}
use Rattle.record.proofs.Masks.{within_lt, meets_count}

-- ---- the first no

-- a question answered yes is passed over, and one answered no gives its refusal
pub next : {t : Bool} {r : Verdict} (why : Refusal) (rest : List Question) → t ≡ true → r ≡ first_no rest → r ≡ first_no ((t, why) ∷ rest)
unfolding first_no
next {t = true} why rest e h = h
next {t = false} why rest e h = absurd (false≢true e)

pub stop : {t : Bool} (why : Refusal) (rest : List Question) → t ≡ false → Err why ≡ first_no ((t, why) ∷ rest)
unfolding first_no
stop {t = true} why rest e = absurd (true≢false e)
stop {t = false} why rest e = refl

pub done : no_refusal ≡ first_no []
unfolding first_no
done = refl

-- ---- the number of a refusal

pub never_zero : (why : Refusal) → refusal_number why ≡ 0 → ⊥
never_zero StateSize = eqb-false 1 0 refl
never_zero MemberCount = eqb-false 2 0 refl
never_zero Malformed = eqb-false 3 0 refl
never_zero RecordSize = eqb-false 4 0 refl
never_zero Round = eqb-false 5 0 refl
never_zero Source = eqb-false 6 0 refl
never_zero MaskBits = eqb-false 7 0 refl
never_zero Strong = eqb-false 8 0 refl
never_zero Timeouts = eqb-false 9 0 refl
never_zero NoVotes = eqb-false 10 0 refl
never_zero Weak = eqb-false 11 0 refl
never_zero Duplicate = eqb-false 12 0 refl
never_zero Conflict = eqb-false 13 0 refl
never_zero (MissingParent x) = eqb-false 14 0 refl
never_zero PastEnd = eqb-false 15 0 refl
never_zero Watcher = eqb-false 16 0 refl
never_zero Signing = eqb-false 17 0 refl
never_zero FewParents = eqb-false 18 0 refl
never_zero Buffer = eqb-false 19 0 refl
never_zero BufferFull = eqb-false 20 0 refl

pub err_number : {T : Type 0} (a : Result T Refusal) → is_err a ≡ true → number_of a ≡ 0 → ⊥
err_number (Ok x) e = absurd (false≢true e)
err_number (Err why) e = never_zero why

pub ok_number : {T : Type 0} (a : Result T Refusal) → is_err a ≡ false → number_of a ≡ 0
ok_number (Ok x) e = refl
ok_number (Err why) e = absurd (true≢false e)

pub was_err : {T : Type 0} {a : Result T Refusal} {why : Refusal} → a ≡ Err why → number_of a ≡ 0 → ⊥
was_err {why = w} e z = never_zero w (sym (ap number_of e) ∙ z)

pub was_ok : {T : Type 0} {a : Result T Refusal} {x : T} → a ≡ Ok x → number_of a ≡ 0
was_ok e = ap number_of e

-- a verdict that is not 0 is a refusal
pub refusal_of : (v : Verdict) → (number_of v ≡ 0 → ⊥) → (why : Refusal) × (v ≡ Err why)
refusal_of (Ok passed) h = absurd (h refl)
refusal_of (Err why) h = (why, refl)

-- ---- a refusal that is handed on

pub raised : {T : Type 0} {why : Refusal} (a : Result T Refusal) → IsErrAnd a (λ (x : Refusal). x ≡ why) → a ≡ Err why
raised {why = w} (Err x) h = ap Err h
raised {why = w} (Ok x) h = absurd h

-- ---- the first no of two lists

pub front_no : (xs ys : List Question) → (number_of (first_no xs) ≡ 0 → ⊥) → first_no xs ≡ first_no (xs ++ ys)
unfolding first_no
front_no [] ys h = absurd (h refl)
front_no ((true, why) ∷ xs) ys h = front_no xs ys h
front_no ((false, why) ∷ xs) ys h = refl

-- a refusal of the first list is one of both
pub front_err : {why : Refusal} (xs ys : List Question) → first_no xs ≡ Err why → first_no (xs ++ ys) ≡ Err why
unfolding first_no
front_err {why = w} [] ys h = absurd (true≢false (ap is_ok h))
front_err {why = w} ((true, why) ∷ xs) ys h = front_err xs ys h
front_err {why = w} ((false, why) ∷ xs) ys h = h

pub front_yes : (xs ys : List Question) → numbered xs ≡ true → number_of (first_no xs) ≡ 0 → first_no ys ≡ first_no (xs ++ ys)
unfolding first_no numbered
front_yes [] ys n h = refl
front_yes ((true, why) ∷ xs) ys n h = front_yes xs ys (and_right (not (eqb (refusal_number why) 0)) _ n) h
front_yes ((false, why) ∷ xs) ys n h = never (and_left (not (eqb (refusal_number why) 0)) _ n) (ap not (eq-eqb (refusal_number why) 0 h))

-- if all are answered yes, so are those of both lists
pub both_fronts : (xs ys : List Question) → numbered xs ≡ true → number_of (first_no (xs ++ ys)) ≡ 0 → (number_of (first_no xs) ≡ 0)
    × (number_of (first_no ys) ≡ 0)
unfolding first_no numbered
both_fronts [] ys n h = (refl, h)
both_fronts ((true, why) ∷ xs) ys n h = both_fronts xs ys (and_right (not (eqb (refusal_number why) 0)) _ n) h
both_fronts ((false, why) ∷ xs) ys n h = never (and_left (not (eqb (refusal_number why) 0)) _ n) (ap not (eq-eqb (refusal_number why) 0 h))

-- the questions of a record and of a signer
pub numbered_law : NumberedLaw
unfolding numbered signer_questions record_questions
numbered_law n round source = (refl, λ body. refl)

-- every question has a refusal with a number of at most k
unfoldable up_to : ℕ → List Question → Bool
up_to k [] = true
up_to k (q ∷ rest) = leb (refusal_number q.1) k && up_to k rest

up_to_lem : (k : ℕ) (xs : List Question) → up_to k xs ≡ true → number_of (first_no xs) ≤ k
unfolding first_no up_to
up_to_lem k [] e = omega arith
up_to_lem k ((true, why) ∷ xs) e = up_to_lem k xs (and_right (leb (refusal_number why) k) _ e)
up_to_lem k ((false, why) ∷ xs) e = leb-true (refusal_number why) k (and_left _ _ e)

-- so those of a record with one of at most 11
pub last_number_law : LastNumberLaw
unfolding up_to signer_questions record_questions
last_number_law n round source body = up_to_lem (refusal_number Weak) (record_questions n round source body) refl

-- where questions 4 to 6 are answered yes, those from 7 on decide
pub known : (n round source : ℕ) (body : List ℕ) (rest : List Question) {r : Verdict} → 1 ≤ round → round ≤ rounds → source < n → length body ≡ body_size
    → r ≡ first_no rest → r ≡ first_no ((eqb (length body) body_size, RecordSize) ∷ (signer_questions n round source ++ rest))
unfolding signer_questions
known n round source body rest l h k e d =
    next _ _ (eq-eqb _ _ e) (next _ _ (round_in round l h) (next _ _ (lt-ltb source n k) d))

-- question 10's mask, where the source leads its round and where not
pub wanted_leading : (q : ℕ) (lack leads : Bool) (mask : ℕ) → leads ≡ true → handed_if q lack mask ≡ handed_if q (lack && leads) mask
wanted_leading q lack leads mask e = ap (λ (b : Bool). handed_if q b mask) (sym (ap (λ (b : Bool). lack && b) e ∙ and-true lack))

pub wanted_not : (q : ℕ) (lack leads : Bool) (mask : ℕ) → leads ≡ false → eqb mask 0 ≡ handed_if q (lack && leads) mask
unfolding handed_if
wanted_not q lack leads mask e = sym (cond_false _ _ (ap (λ (b : Bool). lack && b) e ∙ and-false lack))

-- ---- an admitted record

pub both_yes : (t : Bool) (why : Refusal) (rest : List Question) → (refusal_number why ≡ 0 → ⊥) → number_of (first_no ((t, why) ∷ rest)) ≡ 0 → (t ≡ true)
    × (number_of (first_no rest) ≡ 0)
unfolding first_no
both_yes true why rest h e = (refl, e)
both_yes false why rest h e = absurd (h e)

-- ---- questions 7 to 11, answered yes

masks_range : (n : ℕ) (body : List ℕ) → masks_ok n body ≡ true → (strong_of body < 2 ^ n) × (timeouts_of body < 2 ^ n) × (no_votes_of body < 2 ^ n)
unfolding masks_ok
masks_range n body e =
    let rest : (within n (timeouts_of body) && within n (no_votes_of body)) ≡ true = and_right (within n (strong_of body)) _ e in (
      within_lt n _ (and_left _ _ e),
      within_lt n _ (and_left _ _ rest),
      within_lt n _ (and_right (within n (timeouts_of body)) _ rest),
    )

-- a mask below 2 ^ n that meets the quorum
met : (n m : ℕ) → m < 2 ^ n → meets n m ≡ true → quorum n ≤ count n (has m)
met n m l e = leb-true _ _ (sym (meets_count n m l) ∙ e)

strong_none : (n round strong : ℕ) → strong_ok n round strong ≡ true → round ≡ 1 → strong ≡ 0
unfolding strong_ok
strong_none n round strong e h = eqb-true strong 0 (sym (cond_true (eqb strong 0) (meets n strong) (eq-eqb round 1 h)) ∙ e)

strong_many : (n round strong : ℕ) → strong < 2 ^ n → strong_ok n round strong ≡ true → 2 ≤ round → quorum n ≤ count n (has strong)
unfolding strong_ok
strong_many n round strong l e h = met n strong l (sym (cond_false (eqb strong 0) (meets n strong) (ne_eqb round 1 (λ d. omega arith))) ∙ e)

lacking : (n round strong : ℕ) → 2 ≤ round → has strong (leader n (round - 1)) ≡ false → lacks_leader n round strong ≡ true
unfolding lacks_leader
lacking n round strong l e = and_both (le-leb 2 round l) (ap not e)

wanted : (n : ℕ) (t : Bool) (mask : ℕ) → mask < 2 ^ n → quorum_if n t mask ≡ true → t ≡ true → quorum n ≤ count n (has mask)
unfolding quorum_if
wanted n t mask l e h = met n mask l (sym (cond_true (meets n mask) (eqb mask 0) h) ∙ e)

-- what a used slot holds
used : (n round : ℕ) (body : List ℕ) → weak_ok n round body ≡ true → (i : ℕ) → i < weak_slots → i < weak_count_of body
    → (rises body i && weak_id_ok n round (weak_of body i)) ≡ true
unfolding weak_ok slot_ok
used n round body e i l h =
    let s : slot_ok n round body i ≡ true = all_elim weak_slots (slot_ok n round body) (and_right (leb (weak_count_of body) (faulty n)) _ e) i l in
    sym (cond_true (rises body i && weak_id_ok n round (weak_of body i)) (eqb (weak_of body i) 0) (lt-ltb i (weak_count_of body) h)) ∙ s

pub weak_id : (n round x : ℕ) → weak_id_ok n round x ≡ true → (id_member x < n) × (1 ≤ id_round x) × (id_round x + 2 ≤ round)
unfolding weak_id_ok
weak_id n round x e =
    let rest : (leb 1 (id_round x) && leb (id_round x + 2) round) ≡ true = and_right (ltb (id_member x) n) _ e in
    (ltb-true _ _ (and_left _ _ e), leb-true _ _ (and_left _ _ rest), leb-true _ _ (and_right (leb 1 (id_round x)) _ rest))

rising : (body : List ℕ) (i : ℕ) → rises body (i + 1) ≡ true → weak_of body i < weak_of body (i + 1)
unfolding rises
rising body i e =
    rw (sub_add i) at (ltb-true (weak_of body (i + 1 - 1)) (weak_of body (i + 1)) (sym (cond_false true _ (ne_eqb (i + 1) 0 (λ d. omega arith))) ∙ e))
  where
    sub_add : (k : ℕ) → k + 1 - 1 ≡ k
    sub_add k = omega arith

weak_count : (n round : ℕ) (body : List ℕ) → weak_ok n round body ≡ true → weak_count_of body ≤ faulty n
unfolding weak_ok
weak_count n round body e = leb-true _ _ (and_left (leb (weak_count_of body) (faulty n)) _ e)

-- A round and a signer with the number 0 are of the group.
pub placed : SignerLaw
unfolding signer_questions
placed n round signer e =
    let q5 = both_yes _ _ _ (eqb-false 5 0 refl) e in
    let q6 = both_yes _ _ _ (eqb-false 6 0 refl) q5.1 in
    let r = round_range round q5.0 in
    record { round_low = r.0; round_high = r.1; member_low = ltb-true _ _ q6.0 }

-- And those of the group have the refusal of none.
pub placed_law : PlacedLaw
unfolding signer_questions
placed_law n round signer p = sym (next _ _ (round_in round p.round_low p.round_high) (next _ _ (lt-ltb signer n p.member_low) done))

-- What is no round is refused as such.
pub no_round_law : NoRoundLaw
unfolding signer_questions
no_round_law n round signer e = sym (stop Round _ e)

-- questions 4 to 11, all answered yes
record Answered (n round source : ℕ) (body : List ℕ) : Type 0 where
  size : eqb (length body) body_size ≡ true
  in_rounds : is_round round ≡ true
  below : ltb source n ≡ true
  masks : masks_ok n body ≡ true
  strong : strong_ok n round (strong_of body) ≡ true
  timeouts : timeouts_ok n round body ≡ true
  no_votes : no_votes_ok n round source body ≡ true
  weak : weak_ok n round body ≡ true

answered : (n round source : ℕ) (body : List ℕ) → number_of (body_refusal n round source body) ≡ 0 → Answered n round source body
unfolding record_questions signer_questions
answered n round source body e =
    let q4 = both_yes _ _ _ (eqb-false 4 0 refl) e in
    let q5 = both_yes _ _ _ (eqb-false 5 0 refl) q4.1 in
    let q6 = both_yes _ _ _ (eqb-false 6 0 refl) q5.1 in
    let q7 = both_yes _ _ _ (eqb-false 7 0 refl) q6.1 in
    let q8 = both_yes _ _ _ (eqb-false 8 0 refl) q7.1 in
    let q9 = both_yes _ _ _ (eqb-false 9 0 refl) q8.1 in
    let q10 = both_yes _ _ _ (eqb-false 10 0 refl) q9.1 in
    let q11 = both_yes _ _ _ (eqb-false 11 0 refl) q10.1 in
    record {
      size = q4.0;
      in_rounds = q5.0;
      below = q6.0;
      masks = q7.0;
      strong = q8.0;
      timeouts = q9.0;
      no_votes = q10.0;
      weak = q11.0;
    }

-- A record with the number 0 is admitted.
pub admitted : AdmittedLaw
unfolding timeouts_ok
admitted n round source body e =
    let a = answered n round source body e in
    let r = round_range round a.in_rounds in
    let m = masks_range n body a.masks in
    let u = used n round body a.weak in
    record {
      size = eqb-true _ _ a.size;
      round_low = r.0;
      round_high = r.1;
      source_low = ltb-true _ _ a.below;
      strong_low = m.0;
      timeouts_low = m.1;
      no_votes_low = m.2;
      strong_first = strong_none n round (strong_of body) a.strong;
      strong_later = strong_many n round (strong_of body) m.0 a.strong;
      timeout_quorum = λ l d. wanted n _ (timeouts_of body) m.1 a.timeouts (lacking n round (strong_of body) l d);
      weak_few = weak_count n round body a.weak;
      weak_member = λ i l h. (weak_id n round (weak_of body i) (and_right (rises body i) _ (u i l h))).0;
      weak_low = λ i l h. (weak_id n round (weak_of body i) (and_right (rises body i) _ (u i l h))).1;
      weak_high = λ i l h. (weak_id n round (weak_of body i) (and_right (rises body i) _ (u i l h))).2;
      weak_rising = λ i l h. rising body i (and_left (rises body (i + 1)) _ (u (i + 1) l h));
    }

-- And it has its certificate against the one leader of the round before.
pub certified : CertifiedLaw
unfolding no_votes_ok no_votes_for
certified n round source body e =
    let a = answered n round source body e in
    let m = masks_range n body a.masks in
    record {
      no_vote_quorum = λ i l. main i (zero_of i l)
          (λ h d s. wanted n _ (no_votes_of body) m.2 a.no_votes (and_both (lacking n round (strong_of body) h d) (eq-eqb _ _ s)));
    }
  where
    zero_of : (i : ℕ) → i < 1 → i ≡ 0
    zero_of i l = omega arith

    main : (i : ℕ) → i ≡ 0
        → (2 ≤ round → has (strong_of body) (leader_at n (round - 1) 0) ≡ false → source ≡ leader n round → quorum n ≤ count n (has (no_votes_of body)))
        → 2 ≤ round → has (strong_of body) (leader_at n (round - 1) i) ≡ false → source ≡ leader n round → quorum n ≤ count n (has (no_votes_for body i))
    main i z k h d s = rw z (k h (rw z at d) s)
