-- A state just opened is formed, with empty lists and no records. Assumes nothing.
use mathlib.Core.Path.{◌≡◌, refl, sym, ap, ◌∙◌}
use mathlib.Core.Bool.{Bool, true, false, cond}
use mathlib.Core.Logic.{⊎_elim}
use mathlib.Core.List.{List, []}
use Prim.Native.Nat.{ℕ, ◌+◌, ◌^◌, ◌≤◌, ◌<◌}
use native.Mathlib.Omega.{arith}
use lib.Dec.{eqb, ltb}
use lib.ListN.{length, get_or, set, replicate, length-set, length-replicate, get_or-replicate, get_or-eq_default}
use lib.Seq.{get_or-set_same, get_or-set_other}
use lib.Pow.{pow_pos}
use borrow.Author.Tests.{le-leb, ltb-true, ltb-false}
use Rattle.record.specs.Members.{legal, has, id_round, id_member, is_round}
use Rattle.record.proofs.Booleans.{which, never, and_both, and_fails_right, cond_false}
use Rattle.record.proofs.Masks.{legal_range, has_zero}
use Rattle.protocol.proofs.Lists.{among_none, once, once_none}
use Rattle.replica.specs.Layout.{committed_round_at, leader_count_at, journal_count_at, held_kind, heard_kind, votes_kind, timeouts_kind, no_votes_kind}
use Rattle.replica.specs.Layout.{state_size, masks_at, cell_at, leaders_at, journal_at, own_at, made_at, signed_at, ordered_kind, member_count_at}
use Rattle.replica.specs.Layout.{current_round_at, votes_at}
use Rattle.replica.specs.State.{member_count, current_round, own_word, leader_list, journal_list, vertices, firsts}
use Rattle.replica.specs.WellFormed.{own_ok}
use Rattle.replica.specs.Opening.{opened}
use Rattle.replica.proofs.Formed.{WellFormed, Led}
use Rattle.replica.proofs.Seats.{place_none}

-- every word of a run of zeros, and beyond it
blank : (k j : ℕ) → ◌≡◌ {A = ℕ} (get_or (replicate k 0) j 0) 0
blank k j = ⊎_elim
    (λ e. get_or-replicate {A = ℕ} k j 0 0 (ltb-true j k e))
    (λ e. get_or-eq_default {A = ℕ} (replicate k 0) 0 (rw (length-replicate {A = ℕ} k 0) (ltb-false j k e)))
    (which (ltb j k))

-- as many zeros as a state has words
abbrev zeros : List ℕ
zeros = replicate state_size 0

zeros_long : length zeros ≡ state_size
zeros_long = length-replicate {A = ℕ} state_size 0

module _ (n own : ℕ) where
  -- as many words as a state has
  pub opened_size : length (opened n own) ≡ state_size
  unfolding opened
  opened_size = rw (length-set, length-set, length-set, length-replicate)

  -- the member count is n
  pub opened_members : member_count (opened n own) ≡ n
  unfolding opened
  opened_members =
      get_or-set_other (set (set zeros member_count_at n) current_round_at 1) own_at member_count_at own 0 (λ e. omega arith)
      ∙ get_or-set_other (set zeros member_count_at n) current_round_at member_count_at 1 0 (λ e. omega arith)
      ∙ get_or-set_same zeros member_count_at n 0 (omega (arith, zeros_long))

  -- the current round is 1
  pub opened_round : current_round (opened n own) ≡ 1
  unfolding opened
  opened_round =
      get_or-set_other (set (set zeros member_count_at n) current_round_at 1) own_at current_round_at own 0 (λ e. omega arith)
      ∙ get_or-set_same (set zeros member_count_at n) current_round_at 1 0 (omega (arith, zeros_long, length-set zeros member_count_at n))

  -- the own word is as handed
  pub opened_own : own_word (opened n own) ≡ own
  unfolding opened
  opened_own = get_or-set_same (set (set zeros member_count_at n) current_round_at 1) own_at own 0
      (omega (arith, zeros_long, length-set zeros member_count_at n, length-set (set zeros member_count_at n) current_round_at 1))

  -- all other later words are 0
  pub opened_word : (j : ℕ) → current_round_at < j → (j ≡ own_at → ⊥) → get_or (opened n own) j 0 ≡ 0
  unfolding opened
  opened_word j h k =
      get_or-set_other (set (set zeros member_count_at n) current_round_at 1) own_at j own 0 k
      ∙ get_or-set_other (set zeros member_count_at n) current_round_at j 1 0 (λ e. omega arith)
      ∙ get_or-set_other zeros member_count_at j n 0 (λ e. omega arith)
      ∙ blank state_size j

  -- so nobody is in a mask
  opened_mask : (r i q : ℕ) → has (get_or (opened n own) (masks_at r + i) 0) q ≡ false
  opened_mask r i q = ap (λ (m : ℕ). has m q) (opened_word (masks_at r + i) (omega arith) (λ e. omega arith)) ∙ has_zero q

  -- the leader list is empty
  pub opened_leaders : leader_list (opened n own) ≡ []
  opened_leaders = rw (opened_word leader_count_at (omega arith) (λ e. omega arith))

  -- the journal is empty
  pub opened_journal : journal_list (opened n own) ≡ []
  opened_journal = rw (opened_word journal_count_at (omega arith) (λ e. omega arith))

  -- there are no vertices
  pub opened_vertices : (r p : ℕ) → vertices (opened n own) r p ≡ []
  unfolding vertices
  opened_vertices r p = cond_false _ _ (and_fails_right (is_round r) (opened_mask r held_kind p))

  -- and no first messages
  pub opened_firsts : (r p : ℕ) → firsts (opened n own) r p ≡ []
  unfolding firsts
  opened_firsts r p = cond_false _ _ (and_fails_right (is_round r) (opened_mask r heard_kind p))

  -- A state just opened is formed.
  pub opened_formed : legal n ≡ true → own ≤ n → WellFormed (opened n own)
  unfolding Led
  opened_formed g few = record {
    size = opened_size;
    front = record {
      members = ap legal opened_members ∙ g;
      low = rw opened_members (legal_range n g).low;
      high = rw opened_members (legal_range n g).high;
      round_low = rw opened_round (omega arith);
      round_high = rw opened_round (omega arith);
      own = own_fresh;
    };
    masks = record {
      held_low = λ r a b. small r held_kind;
      heard_low = λ r a b. small r heard_kind;
      votes_low = λ r a b. small r votes_kind;
      timeouts_low = λ r a b. small r timeouts_kind;
      no_votes_low = λ r a b. small r no_votes_kind;
      votes_heard = λ r p a b e. never e (opened_mask r votes_kind p);
      votes_first = opened_word (votes_at 1) (omega arith) (λ e. omega arith);
    };
    cells = record {
      admits = λ r p a b k e. never e (opened_mask r held_kind p);
      parents = λ r p a b k e. never e (opened_mask r held_kind p);
      zero_cell = λ r p i a b k m e. opened_word (cell_at r p + i) (omega arith) (λ e. omega arith);
    };
    leaders = record {
      committed_high = rw (opened_word committed_round_at (omega arith) (λ e. omega arith)) (omega arith);
      few = rw (opened_word leader_count_at (omega arith) (λ e. omega arith)) (omega arith);
      led = rw opened_leaders (
        sym (opened_word committed_round_at (omega arith) (λ e. omega arith)),
        sym
            (place_none (opened n own) (opened_word leader_count_at (omega arith) (λ e. omega arith))),
      );
      rest = λ i a b. opened_word (leaders_at + i) (omega arith) (λ e. omega arith);
    };
    journal = record {
      ordered_low = λ r a b. small r ordered_kind;
      ordered_held = λ r p a b e. never e (opened_mask r ordered_kind p);
      few = rw (opened_word journal_count_at (omega arith) (λ e. omega arith)) (omega arith);
      alone = ap once opened_journal ∙ once_none;
      names = λ y. rw opened_journal (among_none y ∙ sym (and_fails_right (is_round (id_round y)) (opened_mask (id_round y) ordered_kind (id_member y))));
      rest = λ i a b. opened_word (journal_at + i) (omega arith) (λ e. omega arith);
    };
  }
    where
      own_fresh : own_ok (opened n own) ≡ true
      own_fresh = unfold own_ok in
          and_both (le-leb (own_word (opened n own)) (member_count (opened n own)) (rw (opened_own, opened_members) few))
          (rw (opened_word made_at (omega arith) (λ e. omega arith), opened_word signed_at (omega arith) (λ e. omega arith))
          (either (eqb (own_word (opened n own)) 0)))
        where
          either : (b : Bool) → cond b true true ≡ true
          either true = refl
          either false = refl

      small : (r i : ℕ) → get_or (opened n own) (masks_at r + i) 0 < 2 ^ member_count (opened n own)
      small r i = rw (opened_word (masks_at r + i) (omega arith) (λ e. omega arith)) (pow_pos (member_count (opened n own)))
