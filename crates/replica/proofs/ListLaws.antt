-- Laws of asking for and handing over a list. Assumes nothing.
use Rattle.std.specs.Prelude.{Result, Ok, Err, is_err}
use mathlib.Core.Path.{◌≡◌, refl, sym, ap, ◌∙◌}
use mathlib.Core.Bool.{Bool, true, false}
use mathlib.Core.Logic.{◌⊎◌, inl, inr, ⊎_elim}
use mathlib.Core.List.{List, []}
use Prim.Native.Nat.{ℕ, ◌+◌, ◌-◌, ◌*◌, ◌≤◌, ◌<◌}
use native.Mathlib.Nat.{eq-or-lt_of_le}
use native.Mathlib.Omega.{arith}
use lib.Dec.{eqb}
use lib.ListN.{length, take, drop, get_or, length-drop}
use lib.Seq.{take-add, drop_at, drop-drop, length-take-le}
use borrow.Author.Tests.{eqb-true, eqb-false, eq-eqb, ne_eqb, leb-true, le-leb, lt-leb}
use denote.Ref.{Bor}
use Rattle.record.specs.Refusals.{Verdict, no_refusal, number_of, first_no}
use Rattle.record.specs.declared.refusal.Refusal.{Refusal}
use Rattle.record.specs.declared.refusal.Refusal.TheVariants.{PastEnd}
use Rattle.record.proofs.Booleans.{which, cond_true, cond_false}
use Rattle.record.proofs.Turn.{both_yes, next, stop, done, ok_number, err_number, front_err, front_yes, both_fronts}
use Rattle.replica.specs.Inner.{ListAt}
use Rattle.replica.specs.Layout.{state_size, leaders_at, journal_at, journal_size, leader_count_at, journal_count_at}
use Rattle.replica.specs.State.{leader_count, journal_count}
use Rattle.replica.specs.WellFormed.{well_formed}
use Rattle.replica.specs.Outcome.{Outcome, told, unchanged}
use Rattle.replica.specs.Status.{state_questions}
use Rattle.replica.specs.Place.{Part, cut, word_size}
use Rattle.replica.specs.Lists.{ask_list, span_if, hand_list, Handed, HandOverLaw}
use Rattle.replica.specs.declared.answer.Added.{Added}
use Rattle.replica.proofs.Clauses.{counts}
use Rattle.replica.proofs.StatusLaws.{state_numbered, state_ok}

-- ---- asking

-- what the number 0 says
pub list_ok : (l : List ℕ) (k count : ℕ) → (ask_list l k count).number ≡ 0 → (length l ≡ state_size) × (well_formed l ≡ true) × (k ≤ count)
list_ok l k count e =
    let w = both_fronts (state_questions l) _ (state_numbered l) e in
    let s = state_ok l w.0 in
    (s.0, s.1, leb-true k count (both_yes _ _ _ (eqb-false 15 0 refl) w.1).0)

-- the two words of the counts
pub counted : (l : List ℕ) (c : ℕ) → leader_count_at ≤ c → c ≤ journal_count_at → well_formed l ≡ true → get_or l c 0 ≤ journal_size
counted l c low high f = ⊎_elim
    (λ e. rw e (counts l f).1)
    (λ h. let e : c ≡ leader_count_at = omega arith in rw e (omega (arith, (counts l f).0)))
    (eq-or-lt_of_le high)

module _ (l : List ℕ) (v : Verdict) (e : v ≡ first_no (state_questions l)) where
  -- the state is refused
  pub ask_state : (why : Refusal) → v ≡ Err why → (k count : ℕ) (a : Result Added Refusal) → a ≡ Err why → told a l ≡ ask_list l k count
  ask_state why d k count a da =
      ap (λ (x : Result Added Refusal). told x l) da
      ∙ ap (λ (r : Verdict). unchanged r l) (sym (front_err (state_questions l) _ (sym e ∙ d)))

  module _ (z : v ≡ Ok tt) where
    sure : number_of (first_no (state_questions l)) ≡ 0
    sure = ap number_of (sym e ∙ z)

    -- it has all its words
    pub ask_size : length l ≡ state_size
    ask_size = (state_ok l sure).0

    -- the start is past the end
    pub ask_past : (k count : ℕ) → count < k → (a : Result Added Refusal) → a ≡ Err PastEnd → told a l ≡ ask_list l k count
    ask_past k count h a d =
        ap (λ (x : Result Added Refusal). told x l) d
        ∙ ap (λ (r : Verdict). unchanged r l) (stop _ _ (lt-leb k count h) ∙ front_yes (state_questions l) _ (state_numbered l) sure)

    -- or it is not
    pub ask_done : (k count : ℕ) → k ≤ count → unchanged no_refusal l ≡ ask_list l k count
    ask_done k count h =
        ap (λ (r : Verdict). unchanged r l) (next _ _ (le-leb k count h) done ∙ front_yes (state_questions l) _ (state_numbered l) sure)

-- ---- handing over

-- the words from one place up to another of a slice, where they lie in it
abbrev pub between : Bor (List ℕ) → ℕ → ℕ → Part
between x a b = record { block = x.ref_ptr.0; byte = a * word_size + x.ref_ptr.1; words = take (b - a) (drop a x.now) }

pub span_none : (number first k count : ℕ) → (number ≡ 0 → ⊥) → span_if number first k count ≡ record { number = number; start = 0; length = 0 }
unfolding span_if
span_none number first k count h = cond_false _ _ (ne_eqb number 0 h)

pub span_some : (number first k count : ℕ) → number ≡ 0 → span_if number first k count ≡ record { number = 0; start = first + k; length = count - k }
unfolding span_if
span_some number first k count h = cond_true _ _ (eq-eqb number 0 h)

-- what the code may use where the asking call answers 0
pub record Handing (x : Bor (List ℕ)) (k first count : ℕ) : Type 0 where
  pub size : length x.now ≡ state_size
  pub low : k ≤ count
  pub high : first + count ≤ state_size
  pub done : between x (first + k) (first + count) ≡ cut x (hand_list x.now k first count)

module _ (x : Bor (List ℕ)) (k first c : ℕ) (at : ListAt first c) (a : Result Added Refusal) (e : told a x.now
    ≡ ask_list x.now k (get_or x.now c 0))
    (m : Bool) (f : m ≡ is_err a) where
  asked : number_of a ≡ (ask_list x.now k (get_or x.now c 0)).number
  asked = ap (λ (o : Outcome). o.number) e

  -- no words
  pub hand_none : m ≡ true → record { block = x.ref_ptr.0; byte = x.ref_ptr.1; words = [] } ≡ cut x (hand_list x.now k first (get_or x.now c 0))
  hand_none h =
      let here : x.ref_ptr.1 ≡ 0 * word_size + x.ref_ptr.1 = omega arith in
      ap (λ (b : ℕ). record { block = x.ref_ptr.0; byte = b; words = [] }) here
      ∙ sym (ap (cut x) (span_none _ first k (get_or x.now c 0) (λ z. err_number a (sym f ∙ h) (asked ∙ z))))

  -- the entries
  pub handing : m ≡ false → Handing x k first (get_or x.now c 0)
  handing z =
      let w = list_ok x.now k (get_or x.now c 0) (sym asked ∙ ok_number a (sym f ∙ z)) in
      record {
        size = w.0;
        low = w.2;
        high = ⊎_elim
            (λ p. rw (p.0, p.1) (omega (arith, (counts x.now w.1).0)))
            (λ p. rw (p.0, p.1) (omega (arith, (counts x.now w.1).1)))
            at.list;
        done =
            let d : (first + get_or x.now c 0) - (first + k) ≡ get_or x.now c 0 - k = omega arith in
            rw d (sym (ap (cut x) (span_some _ first k (get_or x.now c 0) (sym asked ∙ ok_number a (sym f ∙ z)))));
      }

-- ---- the law of hand-overs

-- the part from entry k to the count is the rest of the list
hand_part : (l : List ℕ) (first k count : ℕ) → k ≤ count → first + count ≤ length l → take (count - k) (drop (first + k) l) ≡ drop k (take count (drop first l))
hand_part l first k count h f =
    let s : k + (count - k) ≡ count = omega arith in
    ap (take (count - k)) (sym (drop-drop k first l))
    ∙ sym (drop_at (take k (drop first l)) (take (count - k) (drop k (drop first l))) k (length-take-le k (drop first l) (omega (arith, length-drop first l))))
    ∙ ap (drop k) (sym (take-add k (count - k) (drop first l)))
    ∙ ap (λ (x : ℕ). drop k (take x (drop first l))) s

handed_one : (l : List ℕ) (k first count : ℕ) → (well_formed l ≡ true → first + count ≤ state_size)
    → Handed l k (take count (drop first l)) (hand_list l k first count)
handed_one l k first count room = go (which (eqb (ask_list l k count).number 0))
  where
    N : ℕ
    N = (ask_list l k count).number

    go : (eqb N 0 ≡ true) ⊎ (eqb N 0 ≡ false) → Handed l k (take count (drop first l)) (hand_list l k first count)
    go (inl t) =
        let e = eqb-true N 0 t in
        let w = list_ok l k count e in
        let r = room w.1 in
        rw (span_some N first k count e) (record {
          within = omega (arith, w.0, w.2);
          given = λ z. hand_part l first k count w.2 (omega (arith, w.0));
          refused = λ h. absurd (h refl);
        })
    go (inr t) =
        let h = eqb-false N 0 t in
        rw (span_none N first k count h) (record { within = omega arith; given = λ z. absurd (h z); refused = λ z. refl })

pub hand_over : HandOverLaw
hand_over l k = (
  handed_one l k leaders_at (leader_count l) (λ f. omega (arith, (counts l f).0)),
  handed_one l k journal_at (journal_count l) (λ f. omega (arith, (counts l f).1)),
)
