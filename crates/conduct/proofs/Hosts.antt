-- Members that use the library meet the premises of agreement, so their replicas agree. Assumes nothing.
use mathlib.Core.Path.{◌≡◌, refl, sym, ap, ◌∙◌}
use mathlib.Core.Bool.{Bool}
use mathlib.Core.Logic.{◌⊎◌, inl, inr, ⊎_elim}
use mathlib.Core.List.Memᴰ
use mathlib.Core.List.{List, [], ◌∷◌}
use Prim.Native.Nat.{ℕ, suc, ◌-◌, ◌≤◌}
use native.Mathlib.Omega.{arith}
use borrow.Author.Tests.{eq-eqb}
use Rattle.record.specs.Layout.{round_of, source_of}
use Rattle.record.proofs.Booleans.{never}
use Rattle.protocol.specs.Journal.{among}
use Rattle.replica.specs.Opening.{open_state}
use Rattle.agreement.specs.Model.{Model, model_of}
use Rattle.pending.specs.Buffer.{In}
use Rattle.agreement.proofs.Claim.{agreement_claim}
use Rattle.conduct.specs.Made.{made_records, rounds_signed}
use Rattle.conduct.specs.Claim.{of_round}
use Rattle.conduct.specs.Hosts.{Hosted, HostsMeetPremises, HostsAgree, HonestMember, HostedIsHonest}
use Rattle.conduct.proofs.Claim.{Ready, of_same, of_most, one_of_round, never_both, opened_ready}

-- a record of round r is counted
counted : (r : ℕ) (x : List ℕ) (l : List (List ℕ)) → In x l → round_of x ≡ r → 1 ≤ of_round r l
counted r x [] i e = absurd (Memᴰ.not-nil i)
counted r x (y ∷ l) i e = ⊎_elim
    (λ d. omega (arith, of_same r y l (eq-eqb (round_of y) r (ap round_of (sym d) ∙ e))))
    (λ j. omega (arith, of_most r y l, counted r x l j e))
    (Memᴰ.cases_cons i)

-- two records of a round of which there is one at most are the same
only_one : (r : ℕ) (x y : List ℕ) (l : List (List ℕ)) → of_round r l ≤ 1 → In x l → In y l → round_of x ≡ r → round_of y ≡ r → x ≡ y
only_one r x y [] few i j e d = absurd (Memᴰ.not-nil i)
only_one r x y (z ∷ l) few i j e d = go (Memᴰ.cases_cons i) (Memᴰ.cases_cons j) (only_one r x y l)
  where
    -- the first one is of round r, so no later one is
    both : (w v : List ℕ) → w ≡ z → round_of w ≡ r → In v l → round_of v ≡ r → ⊥
    both w v a b k c = omega (arith, of_same r z l (eq-eqb (round_of z) r (ap round_of (sym a) ∙ b)), counted r v l k c)

    go : (x ≡ z) ⊎ In x l → (y ≡ z) ⊎ In y l → (of_round r l ≤ 1 → In x l → In y l → round_of x ≡ r → round_of y ≡ r → x ≡ y) → x ≡ y
    go (inl a) (inl b) ih = a ∙ sym b
    go (inl a) (inr k) ih = absurd (both x y a e k d)
    go (inr k) (inl b) ih = absurd (both y x b d k e)
    go (inr k) (inr h) ih = ih (omega (arith, of_most r z l)) k h e d

module _ (n : ℕ) (a b : Model) (honest : ℕ → Bool) (p : ℕ) (H : Hosted n a b honest p) where
  -- the state that was opened for the member
  abbrev start : List ℕ
  start = (open_state H.words n (suc p)).words

  -- what its calls made and signed
  ready : Ready n start
  ready = opened_ready n (suc p) H.words H.opens

  -- two of its records of one round are the same, and no no-vote of it stands beside its vote
  is_honest : HonestMember n a b honest p
  is_honest = record {
    one_record = λ x y h k t s. only_one (round_of y) x y (made_records start H.calls) (one_of_round n H.calls start ready H.allowed (round_of y))
        (H.records x h s) (H.records y k (sym t.source ∙ s)) t.round refl;
    no_both = λ x y h k e s v w. never (H.no_votes y k w)
        (ap (λ (r : ℕ). among (rounds_signed start H.calls) (r - 1)) (sym e)
        ∙ never_both n H.calls start ready H.allowed x (H.records x h s) v);
  }

-- THE COROLLARY
pub hosted_is_honest : HostedIsHonest
hosted_is_honest = is_honest

-- the premises of agreement
pub hosts_meet_premises : HostsMeetPremises
hosts_meet_premises n a b honest H = record {
  few_faulty = H.few_faulty;
  one_vertex = H.one_vertex;
  one_record = λ x y h k t e. (is_honest n a b honest (source_of x) (H.hosted (source_of x) e)).one_record x y (inr h) (inl k) t refl;
  no_both = λ x y h k r e v w. (is_honest n a b honest (source_of x) (H.hosted (source_of x) e)).no_both x y h k r refl v w;
}

-- and agreement
pub hosts_agree : HostsAgree
hosts_agree n own other u w eu ew calls others ok fine honest H =
    let l = (open_state u n own).words in
    let k = (open_state w n other).words in
    agreement_claim n own other u w eu ew calls others ok fine honest (hosts_meet_premises n (model_of n l calls) (model_of n k others) honest H)
