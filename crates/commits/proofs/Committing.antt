-- One commit, step by step: what stays alike, and what is left to do. Assumes nothing.
use mathlib.Core.Path.{◌≡◌, refl, sym, ap, ap₂, ◌∙◌}
use mathlib.Core.Bool.{true}
use mathlib.Core.Logic.{inl, inr}
use mathlib.Core.List.{List, [], ◌∷◌}
use Prim.Native.Nat.{ℕ, zero, suc, ◌+◌, ◌-◌, ◌*◌, ◌≤◌, ◌<◌}
use native.Mathlib.Omega.{arith}
use borrow.Author.Tests.{eq-eqb}
use lib.Dec.{eqb}
use lib.ListN.{length, get_or, set}
use lib.Seq.{get_or-set_other}
use Rattle.record.specs.Members.{most_leaders, has, add, id_round, id_member, is_round, id_limit, rounds, voted_rounds}
use Rattle.record.proofs.Booleans.{and_cong, or_left, or_right}
use Rattle.record.proofs.Below.{count_cong}
use Rattle.record.proofs.Rounds.{round_range}
use Rattle.protocol.specs.Dag.{Records, held}
use Rattle.protocol.specs.Journal.{among}
use Rattle.protocol.specs.Chain.{leader_id}
use Rattle.protocol.proofs.Laws.{chain_length}
use Rattle.replica.specs.Layout.{ordered_at, state_size, leaders_at, journal_at, leaders_size, leader_count_at, journal_count_at, committed_round_at}
use Rattle.replica.specs.Layout.{leaders_end}
use Rattle.replica.specs.State.{member_count, committed_round, leader_count, journal_count, leader_word, ordered_mask, vertices, ordered_id, add_member}
use Rattle.replica.specs.State.{width, last_place}
use Rattle.replica.proofs.Width.{width_some, width_most}
use Rattle.commits.specs.Commit.{append_leader, append_leaders, enter, enter_all, order_leader, order_leaders, taken, commit}
use Rattle.commits.specs.Taken.{taken_of, lowest_taken, gather, TakenRuns}
use Rattle.commits.specs.Standing.{Standing, Room, LeaderRoom, LeaderReady, RunsReady, entries, order_from, LeadersReady}
use Rattle.commits.specs.Standing.{Going, Ready, Next, Further}
use Rattle.commits.proofs.Readying.{lowest_known, ready_before, taken_held, further_one}
use Rattle.commits.proofs.Steps.{append_count}
use Rattle.commits.proofs.Frame.{Alike, alike_self, alike_then, alike_set, loose_head, loose_leader, vertices_same, standing_kept}
use Rattle.commits.proofs.Entering.{leader_alike, leader_room}
use Rattle.commits.proofs.Growing.{order_one}
use Rattle.commits.proofs.Ground.{width_fits}
use Rattle.commits.proofs.Appending.{entries_none, entries_more, entries_cong, entries_among, entries_new}

-- ---- the histories of the leaders taken, one after the other

pub order_none : (v : Records) (l : List ℕ) → order_leaders v l [] ≡ l
unfolding order_leaders
order_none v l = refl

pub order_first : (v : Records) (l xs : List ℕ) (x : ℕ) → order_leaders v l (x ∷ xs) ≡ order_leaders v (order_leader v l x) xs
unfolding order_leaders
order_first v l xs x = refl

-- what ordering one history leaves of the leader list
leader_words : (l : List ℕ) → Standing l → Room l → (x : ℕ) → held (vertices l) (id_round x) (id_member x) ≡ true → (j : ℕ) → j < leaders_size
    → leader_word (order_leader (vertices l) l x) j ≡ leader_word l j
leader_words l S R x h j k =
    (order_one (member_count l) (vertices l) S.members S.valid l x refl S.size R h).kept.same (leaders_at + j)
    (λ e. omega arith, λ a b. omega arith, λ r a b e. omega arith)

-- the histories of the leaders before entry i of the list have been ordered, those from entry first on
pub record Ordering (n : ℕ) (l₀ : List ℕ) (first i : ℕ) (l : List ℕ) : Type 0 where
  pub alike : Alike l₀ l
  pub standing : Standing l
  pub room : Room l
  pub members : n ≡ member_count l
  pub words : (j : ℕ) → j < leaders_size → leader_word l j ≡ leader_word l₀ j
  pub is : order_leaders (vertices l₀) l₀ (entries l₀ first (leader_count l₀ - first)) ≡ order_leaders (vertices l₀) l (entries l₀ i (leader_count l₀ - i))

module _ (n : ℕ) (l₀ : List ℕ) (first : ℕ) (L : LeadersReady l₀ n first) where
  -- the next entry's history may be ordered
  pub ordering_ready : (i : ℕ) (l : List ℕ) → Ordering n l₀ first i l → first ≤ i → i < leader_count l₀
      → LeaderReady l n (leader_word l i)
  ordering_ready i l o low h =
      let same = o.words i (omega (arith, L.few)) in
      rw same (record {
        standing = o.standing;
        room = o.room;
        members = o.members;
        low = L.low i low (omega arith);
        high = L.high i low (omega arith);
        there = rw (vertices_same o.alike) (L.there i low (omega arith));
      })

  pub ordering_next : (i : ℕ) (l m : List ℕ) → Ordering n l₀ first i l → first ≤ i → i < leader_count l₀
      → m ≡ order_leader (vertices l) l (leader_word l i)
      → Ordering n l₀ first (i + 1) m
  ordering_next i l m o low h d =
      let R = ordering_ready i l o low h in
      let x = leader_word l i in
      let A = leader_alike l o.standing o.room x R.there in
      let k : leader_count l₀ - i ≡ suc (leader_count l₀ - (i + 1)) = omega arith in
      rw d (record {
        alike = alike_then o.alike A;
        standing = standing_kept A o.standing;
        room = leader_room l o.standing o.room x R.there;
        members = o.members ∙ sym A.members;
        words = λ j b. leader_words l o.standing o.room x R.there j b ∙ o.words j b;
        is = o.is ∙ ap (λ (z : ℕ). order_leaders (vertices l₀) l (entries l₀ i z)) k
            ∙ ap (order_leaders (vertices l₀) l) (entries_more l₀ i (leader_count l₀ - (i + 1)))
            ∙ order_first (vertices l₀) l (entries l₀ (i + 1) (leader_count l₀ - (i + 1))) (leader_word l₀ i)
            ∙ ap₂ (λ (v : Records) (y : ℕ). order_leaders (vertices l₀) (order_leader v l y) (entries l₀ (i + 1) (leader_count l₀ - (i + 1))))
            (sym (vertices_same o.alike)) (sym (o.words i (omega (arith, L.few))));
      })

  pub ordering_end : (i : ℕ) (l : List ℕ) → Ordering n l₀ first i l → leader_count l₀ ≤ i
      → l ≡ order_leaders (vertices l₀) l₀ (entries l₀ first (leader_count l₀ - first))
  ordering_end i l o h =
      sym (o.is ∙ ap (order_leaders (vertices l₀) l) (entries_none l₀ i (leader_count l₀ - i) (omega arith)) ∙ order_none (vertices l₀) l)

-- so for any list of ids of held vertices
pub ordered_kept : (rs l : List ℕ) (v : Records) → v ≡ vertices l → Standing l → Room l
    → ((x : ℕ) → among rs x ≡ true → held (vertices l) (id_round x) (id_member x) ≡ true)
    → Alike l (order_leaders v l rs) × Room (order_leaders v l rs) × ((j : ℕ) → j < leaders_size → leader_word (order_leaders v l rs) j ≡ leader_word l j)
unfolding order_leaders among
ordered_kept [] l v e S R h = (alike_self l, R, λ j k. refl)
ordered_kept (r ∷ rs) l v e S R h =
    let k : held (vertices l) (id_round r) (id_member r) ≡ true = h r (or_left _ (eq-eqb r r refl)) in
    let A : Alike l (order_leader v l r) = rw e (leader_alike l S R r k) in
    let B : Room (order_leader v l r) = rw e (leader_room l S R r k) in
    let C : (j : ℕ) → j < leaders_size → leader_word (order_leader v l r) j ≡ leader_word l j = rw e (leader_words l S R r k) in
    let w = ordered_kept rs (order_leader v l r) v (e ∙ sym (vertices_same A)) (standing_kept A S) B
    (λ x m. rw (vertices_same A) (h x (or_right (eqb r x) m)))
    in
    (alike_then A w.0, w.1, λ j b. w.2 j b ∙ C j b)

-- ---- words 0 to 3, which the journal's growth leaves

pub enter_head : (l : List ℕ) (y j : ℕ) → j < journal_count_at → get_or (enter l y) j 0 ≡ get_or l j 0
unfolding enter add_member
enter_head l y j h =
    let a = set l (ordered_at (id_round y)) (add (ordered_mask l (id_round y)) (id_member y)) in
    get_or-set_other (set a (journal_at + journal_count l) y) journal_count_at j (journal_count l + 1) 0 (λ e. omega arith)
    ∙ get_or-set_other a (journal_at + journal_count l) j y 0 (λ e. omega arith)
    ∙ get_or-set_other l (ordered_at (id_round y)) j (add (ordered_mask l (id_round y)) (id_member y)) 0 (λ e. omega arith)

enter_all_head : (ys l : List ℕ) (j : ℕ) → j < journal_count_at → get_or (enter_all l ys) j 0 ≡ get_or l j 0
unfolding enter_all
enter_all_head [] l j h = refl
enter_all_head (y ∷ ys) l j h = enter_all_head ys (enter l y) j h ∙ enter_head l y j h

pub order_head : (v : Records) (rs l : List ℕ) (j : ℕ) → j < journal_count_at → get_or (order_leaders v l rs) j 0 ≡ get_or l j 0
unfolding order_leaders order_leader
order_head v [] l j h = refl
order_head v (r ∷ rs) l j h = order_head v rs (order_leader v l r) j h ∙ enter_all_head _ l j h

-- ---- leaders appended: the ordered masks and the journal's count stay too

pub record Quiet (l m : List ℕ) : Type 0 where
  pub alike : Alike l m
  pub ordered : (r : ℕ) → 1 ≤ r → r ≤ rounds → ordered_mask m r ≡ ordered_mask l r
  pub journal : journal_count m ≡ journal_count l

pub quiet_then : {l m o : List ℕ} → Quiet l m → Quiet m o → Quiet l o
quiet_then a b =
    record { alike = alike_then a.alike b.alike; ordered = λ r x y. b.ordered r x y ∙ a.ordered r x y; journal = b.journal ∙ a.journal }

-- a word of the head but the journal's count, or one from the leader list on
pub quiet_head : (l : List ℕ) (j x : ℕ) → 0 < j → j < journal_count_at → Quiet l (set l j x)
quiet_head l j x a b = record {
  alike = alike_set l j x (loose_head j a (omega arith));
  ordered = λ r c d. get_or-set_other l j (ordered_at r) x 0 (λ e. omega arith);
  journal = get_or-set_other l j journal_count_at x 0 (λ e. omega arith);
}

quiet_list : (l : List ℕ) (j x : ℕ) → leaders_at ≤ j → j < leaders_end → Quiet l (set l j x)
quiet_list l j x a b = record {
  alike = alike_set l j x (loose_leader j a b);
  ordered = λ r c d. get_or-set_other l j (ordered_at r) x 0 (λ e. omega arith);
  journal = get_or-set_other l j journal_count_at x 0 (λ e. omega arith);
}

pub quiet_leader : (l : List ℕ) (r : ℕ) → leader_count l < leaders_size → Quiet l (append_leader l r)
unfolding append_leader
quiet_leader l r h =
    quiet_then (quiet_list l (leaders_at + leader_count l) r (omega arith) (omega arith))
    (quiet_head (set l (leaders_at + leader_count l) r) leader_count_at (leader_count l + 1) (omega arith) (omega arith))

pub quiet_leaders : (rs l : List ℕ) → length l ≡ state_size → leader_count l + length rs ≤ leaders_size → Quiet l (append_leaders l rs)
    × (leader_count (append_leaders l rs) ≡ leader_count l + length rs)
unfolding append_leaders
quiet_leaders [] l s h = (record { alike = alike_self l; ordered = λ r a b. refl; journal = refl }, omega arith)
quiet_leaders (r ∷ rs) l s h =
    let q = quiet_leader l r (omega arith) in
    let c = append_count l r s in
    let w = quiet_leaders rs (append_leader l r) (q.alike.size ∙ s) (omega arith) in
    (quiet_then q w.0, w.1 ∙ omega arith)

pub quiet_room : {l m : List ℕ} → Quiet l m → Room l → Room m
quiet_room {l} {m} q R = omega (
  arith,
  R,
  q.journal,
  count_cong id_limit (ordered_id m) (ordered_id l) (λ y h. and_cong {a = is_round (id_round y)} refl (λ e. same y e)),
)
  where
    same : (y : ℕ) → is_round (id_round y) ≡ true → has (ordered_mask m (id_round y)) (id_member y) ≡ has (ordered_mask l (id_round y)) (id_member y)
    same y e = let h = round_range (id_round y) e in ap (λ (x : ℕ). has x (id_member y)) (q.ordered (id_round y) h.0 h.1)

-- ---- one commit

module _ (l : List ℕ) (G : Going l) (q seat : ℕ) (r : Ready l q seat) where
  -- those taken are held, and not of round 0
  pub going_held : (y : ℕ) → among (taken l q seat) y ≡ true → (held (vertices l) (id_round y) (id_member y) ≡ true) × (1 ≤ id_round y)
      × (id_round y ≤ voted_rounds)
  going_held = taken_held l G.standing.members G.standing.valid q seat r

  -- they find room
  pub taken_fit : leader_count l + length (taken l q seat) ≤ width l * q + (seat + 1)
  taken_fit = omega (
    arith,
    G.few,
    chain_length (member_count l) (width l) (vertices l) (committed_round l) (last_place l) q (seat + 1) G.place
        (ready_before l G.standing.members G.standing.valid q seat r),
  )

  pub taken_room : leader_count l + length (taken l q seat) ≤ leaders_size
  taken_room = omega (arith, taken_fit, width_fits l q r.high, r.index)

  -- the state with the leaders appended and the committed round set
  abbrev pub second : List ℕ
  second = set (append_leaders l (taken l q seat)) committed_round_at q

  pub quiet_led : Quiet l second × (leader_count (append_leaders l (taken l q seat)) ≡ leader_count l + length (taken l q seat))
  quiet_led =
      let w = quiet_leaders (taken l q seat) l G.standing.size taken_room in
      (quiet_then w.0 (quiet_head (append_leaders l (taken l q seat)) committed_round_at q (omega arith) (omega arith)), w.1)

  -- the entries of the list then
  second_count : leader_count second ≡ leader_count l + length (taken l q seat)
  second_count = get_or-set_other (append_leaders l (taken l q seat)) committed_round_at leader_count_at q 0 (λ e. omega arith) ∙ quiet_led.1

  second_new : entries second (leader_count l) (length (taken l q seat)) ≡ taken l q seat
  second_new =
      entries_cong (append_leaders l (taken l q seat)) second (leader_count l) (length (taken l q seat))
      (λ j. get_or-set_other (append_leaders l (taken l q seat)) committed_round_at (leaders_at + j) q 0 (λ e. omega arith))
      ∙ entries_new (taken l q seat) l G.standing.size taken_room

  second_taken : (j : ℕ) → leader_count l ≤ j → j < leader_count second → among (taken l q seat) (leader_word second j) ≡ true
  second_taken j a b =
      let e = entries_among second (leader_count l) (length (taken l q seat)) j a (omega (arith, second_count)) in
      rw second_new at e

  pub led_ready : LeadersReady second (member_count l) (leader_count l)
  led_ready =
      let Q = quiet_led.0 in
      record {
        standing = standing_kept Q.alike G.standing;
        room = quiet_room Q G.room;
        members = sym Q.alike.members;
        few = omega (arith, second_count, taken_room);
        low = λ j a b. (going_held _ (second_taken j a b)).1;
        high = λ j a b. (going_held _ (second_taken j a b)).2;
        there = λ j a b. rw (vertices_same Q.alike) (going_held _ (second_taken j a b)).0;
      }

  pub committed_is : (o : List ℕ) → o ≡ order_from second (leader_count l) → o ≡ commit l q seat
  unfolding commit
  committed_is o d =
      let k : leader_count second - leader_count l ≡ length (taken l q seat) = omega (arith, second_count) in
      d ∙ ap₂ (λ (v : Records) (z : ℕ). order_leaders v second (entries second (leader_count l) z)) (vertices_same quiet_led.0.alike) k
      ∙ ap (order_leaders (vertices l) second) second_new

-- what each later step may use of the leaders taken, of how many of each round from low to q, where the first b of round low are already taken
pub record Taken (l : List ℕ) (n low b q : ℕ) (runs : List ℕ) : Type 0 where
  pub fits : RunsReady l n low b q runs
  pub led : (m : List ℕ) → m ≡ append_leaders l (gather n low b runs rounds) → LeadersReady (set m committed_round_at q) n (leader_count l)
  pub done : (m o : List ℕ) → m ≡ append_leaders l (gather n low b runs rounds) → o ≡ order_from (set m committed_round_at q) (leader_count l)
      → o ≡ commit l q 0

pub taken_known : (l : List ℕ) (n m c a q low b : ℕ) (runs : List ℕ) → Next l n c a q → m ≡ width l → low ≡ lowest_taken c a m → b ≡ taken_of low c a
    → TakenRuns n m (vertices l) low q runs → Taken l n low b q runs
taken_known l n m c a q low b runs N em el eb T =
    let A = N.at in
    let en = A.members in
    let G = A.going in
    let r : Ready l q 0 = record {
      step = inl (refl, omega (arith, A.round, N.low));
      high = N.high;
      index = width_some l;
      there = rw (← en) N.there;
    } in
    let L = lowest_known n m (vertices l) c a q low b N.low el eb in
    let is : gather n low b runs rounds ≡ taken l q 0 = T.is b ∙ sym L.is ∙ rw (en, em, A.round, A.place) in
    record {
      fits = record {
        room = record { size = G.standing.size; room = rw is (taken_room l G q 0 r) };
        members = en;
        some = omega (arith, G.standing.low);
        low = L.some;
        order = L.order;
        high = N.high;
        below = T.below;
        above = T.above;
        few = λ t. omega (arith, T.few t, width_most l);
      };
      led = λ x d. rw (d, is, en) (led_ready l G q 0 r);
      done = λ x o d f. committed_is l G q 0 r o (rw (d, is) at f);
    }

-- and of the next leader of the committed round
pub record Grown (l : List ℕ) (n q i : ℕ) : Type 0 where
  pub room : LeaderRoom l 1
  pub low : 1 ≤ q
  pub high : q ≤ voted_rounds
  pub few : i < most_leaders
  pub led : (m : List ℕ) → m ≡ append_leader l (leader_id n q i) → LeadersReady m n (leader_count l)
  pub done : (m o : List ℕ) → m ≡ append_leader l (leader_id n q i) → o ≡ order_from m (leader_count l) → o ≡ commit l q i

append_only : (l : List ℕ) (x : ℕ) → append_leader l x ≡ append_leaders l (x ∷ [])
unfolding append_leaders
append_only l x = refl

-- a word set to what it holds
set_self : (l : List ℕ) (i d : ℕ) → set l i (get_or l i d) ≡ l
set_self [] i d = refl
set_self (x ∷ l) zero d = refl
set_self (x ∷ l) (suc i) d = ap (λ (k : List ℕ). x ∷ k) (set_self l i d)

-- the committed round stays with a leader more
append_round : (l : List ℕ) (x q : ℕ) → q ≡ committed_round l → set (append_leader l x) committed_round_at q ≡ append_leader l x
unfolding append_leader
append_round l x q e =
    ap (set (append_leader l x) committed_round_at)
    (e ∙ sym (get_or-set_other (set l (leaders_at + leader_count l) x) leader_count_at committed_round_at (leader_count l + 1) 0 (λ d. omega arith)
    ∙ get_or-set_other l (leaders_at + leader_count l) committed_round_at x 0 (λ d. omega arith)))
    ∙ set_self (append_leader l x) committed_round_at 0

pub grown_known : (l : List ℕ) (n q i : ℕ) → Further l n q i → Grown l n q i
grown_known l n q i F =
    let A = F.at in
    let en = A.members in
    let G = A.going in
    let high : q ≤ voted_rounds = omega (arith, A.round, G.high) in
    let r : Ready l q i = record { step = inr (A.round, A.place, F.some); high = high; index = F.index; there = rw (← en) F.there } in
    let one = further_one l q i A.round A.place in
    let is : append_leader l (leader_id n q i) ≡ set (append_leaders l (taken l q i)) committed_round_at q =
    sym (append_round l (leader_id n q i) q A.round)
    ∙ ap (λ (m : List ℕ). set m committed_round_at q)
    (append_only l (leader_id n q i) ∙ ap (append_leaders l) (ap (λ (z : ℕ). leader_id z q i ∷ []) en ∙ sym one)) in
    record {
      room = record { size = G.standing.size; room = omega (arith, taken_room l G q i r, ap length one) };
      low = F.some;
      high = high;
      few = omega (arith, F.index, width_most l);
      led = λ m d. rw (d, is, en) (led_ready l G q i r);
      done = λ m o d f. committed_is l G q i r o (rw (d, is) at f);
    }
