-- A waiting record tried as a vertex call: its own questions and the state's are passed, so its place decides. Assumes nothing.
use Rattle.std.specs.Prelude.{Result, Err}
use Rattle.record.specs.declared.refusal.Refusal.{Refusal}
use mathlib.Core.Path.{◌≡◌, refl, sym, ap, ◌∙◌}
use mathlib.Core.List.{List}
use Prim.Native.Nat.{ℕ}
use lib.ListN.{length, take, drop}
use Rattle.record.specs.Refusals.{Verdict, number_of, first_no}
use Rattle.record.specs.Layout.{round_of, source_of, body_of, record_size, body_size, body_place}
use Rattle.record.specs.Questions.{record_refusal}
use Rattle.replica.specs.State.{member_count}
use Rattle.replica.specs.Outcome.{told}
use Rattle.replica.specs.declared.answer.Added.{Added}
use Rattle.replica.proofs.Formed.{WellFormed, formed}
use Rattle.ordering.specs.Calls.{place_questions, vertex_questions, take_vertex}
use Rattle.ordering.specs.Inner.{Placing, Unstopped}
use Rattle.ordering.proofs.Turns.{record_known}
use Rattle.ordering.proofs.Numbers.{past_state}
use Rattle.ordering.proofs.Taking.{vertex_refused}
use Rattle.pending.specs.Inner.{Trying}

-- the questions of its place decide
pub place_decides : (l rec : List ℕ) → WellFormed l → number_of (record_refusal (member_count l) rec) ≡ 0 → (why : Verdict)
    → why ≡ first_no (place_questions l (round_of rec) (source_of rec) (body_of rec))
    → why ≡ first_no (vertex_questions l (round_of rec) (source_of rec) (body_of rec))
place_decides l rec S e why d =
    let k = record_known (member_count l) rec (place_questions l (round_of rec) (source_of rec) (body_of rec)) (record_refusal (member_count l) rec) refl e in
    k.last why d ∙ past_state l _ S

-- what each step of the code may use
pub record Tried (l : List ℕ) (n : ℕ) (rec : List ℕ) : Type 0 where
  pub long : length rec ≡ record_size
  pub placing : Placing l n (round_of rec) (source_of rec) (take body_size (drop body_place rec))
  pub stopped : (why : Verdict) → why ≡ first_no (place_questions l (round_of rec) (source_of rec) (take body_size (drop body_place rec)))
      → (w : Refusal) → why ≡ Err w
      → (a : Result Added Refusal) → a ≡ Err w → told a l ≡ take_vertex l rec
  pub unstopped : (why : Verdict) → why ≡ first_no (place_questions l (round_of rec) (source_of rec) (take body_size (drop body_place rec))) → number_of why ≡ 0
      → Unstopped l n rec

pub tried : (l : List ℕ) (n : ℕ) (rec : List ℕ) → Trying l n rec → Tried l n rec
tried l n rec T =
    let S = formed l T.state.size T.state.formed in
    let e : number_of (record_refusal (member_count l) rec) ≡ 0 = rw T.state.members at T.admitted in
    let k = record_known n rec (place_questions l (round_of rec) (source_of rec) (body_of rec)) (record_refusal n rec) refl T.admitted in
    record {
      long = k.long;
      placing = record { size = T.state.size; legit = rw T.state.members S.front.members; admitted = k.body };
      stopped = λ why d w h a f. vertex_refused l rec why (place_decides l rec S e why (rw k.whole at d)) w h a f;
      unstopped = λ why d h. record {
        members = T.state.members;
        passed = ap number_of (sym (place_decides l rec S e why (rw k.whole at d))) ∙ h;
      };
    }
