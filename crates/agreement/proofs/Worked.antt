-- The worked cases. Every call of a row but the opening is on a formed state, so a row is computed by its short run. Assumes nothing.
use Rattle.std.specs.Prelude.{Err}
use mathlib.Core.Path.{◌≡◌, refl, sym, ap, ap₂, ◌∙◌}
use mathlib.Core.Bool.{Bool, true, false, ◌&&◌}
use mathlib.Core.Logic.{⊎_elim}
use mathlib.Core.List.Memᴰ
use mathlib.Core.List.{List, [], ◌∷◌, map, Memᴰ}
use Prim.Native.Nat.{ℕ}
use native.Mathlib.Omega.{arith}
use lib.Count.{ones, ones_in}
use lib.Dec.{eqb}
use lib.ListN.{length, take, drop, length-replicate}
use borrow.Author.Tests.{eq-eqb, le-leb}
use Rattle.record.specs.Below.{all, any, count, select, least, longest}
use Rattle.record.specs.Members.{legal, leader_at, has, within, meets, is_round}
use Rattle.record.specs.Refusals.{Verdict, no_refusal, first_no}
use Rattle.record.specs.Layout.{strong_of, timeouts_of, no_votes_of, weak_count_of, weak_of}
use Rattle.record.specs.Questions.{masks_ok, strong_ok, lacks_leader, quorum_if, timeouts_ok, no_votes_ok, weak_id_ok, rises, slot_ok, weak_ok}
use Rattle.record.specs.Questions.{signer_questions, record_questions}
use Rattle.record.specs.declared.refusal.Refusal.TheVariants.{MemberCount}
use Rattle.record.proofs.Booleans.{and_both}
use Rattle.record.proofs.Turn.{next, stop, done}
use Rattle.protocol.specs.Dag.{voter, backed}
use Rattle.protocol.specs.Paths.{path, history_up_to}
use Rattle.protocol.specs.Chain.{chain, walk, seats}
use Rattle.replica.specs.Layout.{state_size, watcher}
use Rattle.replica.specs.State.{current_round, committed_round, leader_list, journal_list, vertices, firsts, add_member, add_members}
use Rattle.replica.specs.State.{width, leader_index, last_place}
use Rattle.replica.specs.Parents.{is_parent, missing, parents_held}
use Rattle.replica.specs.WellFormed.{well_formed}
use Rattle.replica.specs.Outcome.{Outcome, outcome}
use Rattle.replica.specs.Opening.{opened, open_state}
use Rattle.replica.specs.Lists.{span_if}
use Rattle.replica.proofs.Formed.{WellFormed, well_formed_lem}
use Rattle.replica.proofs.Opened.{opened_formed}
use Rattle.commits.specs.Commit.{passable, highest_passable, raise_round, append_leader, append_leaders, enter, enter_all, order_leader}
use Rattle.commits.specs.Commit.{order_leaders, grows, is_ready}
use Rattle.commits.specs.Commit.{committable}
use Rattle.ordering.specs.Calls.{same_body, put_vertex, carry_timeouts, hear, is_new}
use Rattle.runs.specs.Call.{Call, opening, outcome_of, Given, nothing, given_of, run}
use Rattle.runs.proofs.Asked.{four, open_yes, open_taken}
use Rattle.runs.proofs.Short.{line, listed, by_list, commit_by, once_by, short_commits, short_vertex, short_first, short_note, short_list, short_span, short_of}
use Rattle.runs.proofs.Short.{short_given}
use Rattle.pending.specs.Buffer.{same_record, some, put_in, records_from, words_of, buffer_of, records_ok, rest_zero, buffer_ok}
use Rattle.pending.specs.Passes.{pass, passes}
use Rattle.pending.specs.Early.{in_place}
use Rattle.runs.proofs.Short.{short_take, short_with, short_try, short_ending, short_bundle, short_run, short_is, given_is, formed_after, run_is}
use Rattle.agreement.specs.Worked.{Seen, seen, Row, zeros, all_admitted, ending, Passes, rows, Sizes, Worked}
use Rattle.agreement.proofs.Handing.{hand_leaders_lem, hand_journal_lem}

-- ---- what a row's calls end in

-- every call has the number 0
short_admitted : List ℕ → List Call → Bool
short_admitted l [] = true
short_admitted l (c ∷ calls) = eqb (short_of c l).number 0 && short_admitted (short_of c l).words calls

-- the same test
admitted_is : (calls : List Call) (l : List ℕ) → WellFormed l → all_admitted l calls ≡ short_admitted l calls
unfolding all_admitted short_admitted
admitted_is [] l S = refl
admitted_is (c ∷ calls) l S =
    ap (λ (b : Bool). eqb (outcome_of c l).number 0 && b) (admitted_is calls (outcome_of c l).words (formed_after l S c))
    ∙ ap (λ (o : Outcome). eqb o.number 0 && short_admitted o.words calls) (short_is l S c)

-- what is seen, without asking for the lists
short_seen : Outcome → Given → Seen
short_seen o given = record {
  number = o.number;
  id = o.id;
  given = given;
  round = current_round o.words;
  committed = committed_round o.words;
  leaders = leader_list o.words;
  journal = journal_list o.words;
}

-- it is the same
seen_is : (o : Outcome) (given : Given) → WellFormed o.words → seen o given ≡ short_seen o given
unfolding short_seen
seen_is o given S =
    let l = o.words in
    ap₂ (λ (x y : List ℕ).
    record { number = o.number; id = o.id; given = given; round = current_round l; committed = committed_round l; leaders = x; journal = y })
    (hand_leaders_lem l S.size (well_formed_lem l S)) (hand_journal_lem l S.size (well_formed_lem l S))

-- ---- the rows

-- as many words as a state has
zeros_size : length zeros ≡ state_size
zeros_size = length-replicate {A = ℕ} state_size 0

-- an opening with a member count of the five
opens : (n : ℕ) → legal n ≡ true → (open_state zeros n watcher).words ≡ opened n watcher
opens n e = (open_yes zeros n watcher (open_taken zeros n watcher zeros_size e (omega arith))).2

-- what a row's calls end in where they start with opening 4
short_end : Row → Seen
short_end x =
    let l = short_run (opened 4 watcher) (drop 1 x.calls) in
    short_seen (short_of x.last l) (short_given x.last l)

-- it is what the row's calls end in
end_is : (x : Row) → x.calls ≡ opening 4 watcher ∷ drop 1 x.calls → ending x ≡ short_end x
unfolding run short_end
end_is x e =
    let before = drop 1 x.calls in
    let start : run zeros x.calls ≡ run (opened 4 watcher) before = ap (run zeros) e ∙ ap (λ (l : List ℕ). run l before) (opens 4 four) in
    let w = run_is before (opened 4 watcher) (opened_formed 4 watcher four (omega arith)) in
    let l : List ℕ = run (opened 4 watcher) before in
    ap (λ (m : List ℕ). seen (outcome_of x.last m) (given_of x.last m)) start
    ∙ seen_is (outcome_of x.last l) (given_of x.last l) (formed_after l w.1 x.last)
    ∙ ap₂ short_seen (short_is l w.1 x.last ∙ ap (short_of x.last) w.0) (given_is l w.1 x.last ∙ ap (short_given x.last) w.0)

-- its calls before the last are admitted where the test says so of those after the opening
calls_admitted : (x : Row) → x.calls ≡ opening 4 watcher ∷ drop 1 x.calls → short_admitted (opened 4 watcher) (drop 1 x.calls) ≡ true
    → all_admitted zeros x.calls ≡ true
unfolding all_admitted
calls_admitted x e h =
    let before = drop 1 x.calls in
    ap (all_admitted zeros) e
    ∙ and_both (eq-eqb _ 0 (open_taken zeros 4 watcher zeros_size four (omega arith)))
    (ap (λ (l : List ℕ). all_admitted l before) (opens 4 four) ∙ admitted_is before (opened 4 watcher) (opened_formed 4 watcher four (omega arith)) ∙ h)

-- two functions with the same values over a list agree at each of its members
same_at : {A : Type 0} (f g : Row → A) (xs : List Row) → map f xs ≡ map g xs → (x : Row) → Memᴰ x xs → f x ≡ g x
same_at f g [] e x m = absurd (Memᴰ.not-nil m)
same_at f g (y ∷ xs) e x m = ⊎_elim (λ d. ap f d ∙ here ∙ sym (ap g d)) (same_at f g xs there x) (Memᴰ.cases_cons m)
  where
    here : f y ≡ g y
    here = cc

    there : map f xs ≡ map g xs
    there = cc

-- the rows after the four about opening
later : List Row
later = drop 4 rows

-- they start with opening 4
starts : map (λ (x : Row). x.calls) later ≡ map (λ (x : Row). opening 4 watcher ∷ drop 1 x.calls) later
unfolding later rows
starts = refl

-- their other calls before the last are admitted, and they end as they must: this computes them
computed : Row → Bool × Seen
computed x = (short_admitted (opened 4 watcher) (drop 1 x.calls), short_end x)

ends : map computed later ≡ map (λ (x : Row). (true, x.end)) later
unfolding later rows computed short_admitted short_end short_seen short_of short_given short_span span_if short_vertex short_first short_note
    short_bundle short_list
    short_take short_with short_try short_ending in_place pass passes buffer_of words_of records_from same_record some put_in records_ok rest_zero buffer_ok
    short_run opened outcome legal leader_at
    has within meets
    first_no strong_of timeouts_of no_votes_of weak_count_of weak_of is_round masks_ok strong_ok lacks_leader quorum_if timeouts_ok no_votes_ok weak_id_ok rises
    slot_ok weak_ok signer_questions record_questions
    all any count select least voter backed path history_up_to chain walk seats longest width leader_index last_place vertices firsts is_parent missing
    parents_held passable
    highest_passable raise_round append_leader append_leaders enter enter_all order_leader order_leaders line listed by_list commit_by once_by short_commits
    grows is_ready committable add_member add_members same_body put_vertex carry_timeouts hear is_new ones ones_in
ends = refl

-- what is seen after an opening with answer 0
opened_seen : (n : ℕ) → legal n ≡ true
    → seen (open_state zeros n watcher) nothing ≡ record { number = 0; id = 0; given = nothing; round = 1; committed = 0; leaders = []; journal = [] }
opened_seen n e = ap (λ (o : Outcome). seen o nothing) same
    ∙ seen_is (outcome no_refusal zeros (opened n watcher)) nothing (unfold outcome in opened_formed n watcher e (omega arith))
    ∙ unfold outcome short_seen opened in refl
  where
    same : open_state zeros n watcher ≡ outcome no_refusal zeros (opened n watcher)
    same = unfold open_state in ap (λ (why : Verdict). outcome why zeros (opened n watcher))
        (sym (next _ _ (eq-eqb _ _ zeros_size) (next _ _ e (next _ _ (le-leb watcher n (omega arith)) done))))

-- and after one with another member count
refused_seen : (n : ℕ) → legal n ≡ false
    → seen (open_state zeros n watcher) nothing ≡ record { number = 2; id = 0; given = nothing; round = 0; committed = 0; leaders = []; journal = [] }
refused_seen n e = ap (λ (o : Outcome). seen o nothing) same ∙ unfold outcome span_if first_no well_formed legal in refl
  where
    same : open_state zeros n watcher ≡ outcome (Err MemberCount) zeros (opened n watcher)
    same = unfold open_state in ap (λ (why : Verdict). outcome why zeros (opened n watcher)) (sym (next _ _ (eq-eqb _ _ zeros_size) (stop _ _ e)))

-- equal lists from equal entries
cons : {x y : Seen} {xs ys : List Seen} → x ≡ y → xs ≡ ys → x ∷ xs ≡ y ∷ ys
cons e d = ap₂ (λ (z : Seen) (zs : List Seen). z ∷ zs) e d

-- the four rows about opening
openings : map ending (take 4 rows) ≡ map (λ (x : Row). x.end) (take 4 rows)
unfolding rows legal run
openings = cons (opened_seen 4 refl) (cons (opened_seen 16 refl) (cons (refused_seen 5 refl) (cons (refused_seen 19 refl) refl)))

-- one of the later rows
later_row : (x : Row) → Memᴰ x later → Passes x
unfolding computed
later_row x m =
    let start : x.calls ≡ opening 4 watcher ∷ drop 1 x.calls =
    same_at (λ (y : Row). y.calls) (λ (y : Row). opening 4 watcher ∷ drop 1 y.calls) later starts x m in
    let made : computed x ≡ (true, x.end) = same_at computed (λ (y : Row). (true, y.end)) later ends x m in
    record { admitted = calls_admitted x start (ap (λ (w : Bool × Seen). w.0) made); end = end_is x start ∙ ap (λ (w : Bool × Seen). w.1) made }

-- one of the first four, which have no call before the last
first_row : (x : Row) → Memᴰ x (take 4 rows) → Passes x
unfolding rows all_admitted
first_row x m = record {
  admitted = same_at (λ (y : Row). all_admitted zeros y.calls) (λ (y : Row). true) (take 4 rows) refl x m;
  end = same_at ending (λ (y : Row). y.end) (take 4 rows) openings x m;
}

-- The sizes compute.
pub sizes : Sizes
sizes = record { of_record = refl; of_cell = refl; of_state = refl; first_cell = refl; of_buffer = refl }

-- All rows of the table.
pub worked : Worked
unfolding rows later
worked x m = ⊎_elim (first_row x) (later_row x) (Memᴰ.append_cases (take 4 rows) m)
