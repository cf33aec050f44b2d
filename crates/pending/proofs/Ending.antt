-- The passes end, whatever a trial is: every pass but the last admits a record, and one that admits none changes nothing. Assumes nothing.
use mathlib.Core.Path.{◌≡◌, refl, sym, ap, ap₂, ◌∙◌}
use mathlib.Core.Bool.{Bool, true, false, false≢true}
use mathlib.Core.Logic.{◌⊎◌, inl, inr}
use mathlib.Core.List.{List, [], ◌∷◌}
use Prim.Native.Nat.{ℕ, zero, suc, ◌+◌, ◌≤◌, ◌<◌}
use native.Mathlib.Nat.{not-suc-le-zero}
use native.Mathlib.Omega.{arith}
use lib.ListN.{length}
use Rattle.record.specs.Refusals.{number_of, first_no}
use Rattle.record.proofs.Booleans.{which}
use Rattle.record.specs.Layout.{round_of, source_of, body_of}
use Rattle.ordering.specs.Calls.{vertex_questions, take_body}
use Rattle.ordering.proofs.Numbers.{number_yes, words_no, decided}
use Rattle.pending.specs.Passes.{Fate, joins, stays, leaves, Trial, Passed, ahead, is_none, pass, passes, ChangesByAdmission}
use Rattle.pending.specs.Early.{fate_of, try_vertex}
use Rattle.pending.specs.Claims.{AnyPassesEnd, VertexPassesEnd}

-- what admits is neither of the other two
abbrev is_joins : Fate → Bool
is_joins joins = true
is_joins stays = false
is_joins leaves = false

-- a record is there
some_there : {x : List ℕ} {recs : List (List ℕ)} → x ∷ recs ≡ [] → ⊥
some_there e = false≢true (ap is_none e)

-- where none is, the list is empty
none_there : (recs : List (List ℕ)) → is_none recs ≡ true → recs ≡ []
none_there [] e = refl
none_there (rec ∷ recs) e = absurd (false≢true e)

some_long : (recs : List (List ℕ)) → is_none recs ≡ false → 1 ≤ length recs
some_long [] e = absurd (false≢true (sym e))
some_long (rec ∷ recs) e = omega arith

module _ {S : Type 0} (attempt : S → List ℕ → Trial S) where
  -- what a pass does with its first record
  first_is : (s t : S) (rec : List ℕ) (recs : List (List ℕ)) (f : Fate) → (attempt s rec).fate ≡ f → (attempt s rec).after ≡ t
      → pass attempt s (rec ∷ recs) ≡ ahead rec f (pass attempt t recs)
  unfolding pass
  first_is s t rec recs f e d = ap₂ (λ (x : Fate) (y : S). ahead rec x (pass attempt y recs)) e d

  none_is : (s : S) → pass attempt s [] ≡ record { after = s; admitted = []; waiting = [] }
  unfolding pass
  none_is s = refl

  -- no record both waits on and is admitted
  fewer : (recs : List (List ℕ)) (s : S) → length (pass attempt s recs).waiting + length (pass attempt s recs).admitted ≤ length recs
  unfolding pass
  fewer [] s = omega arith
  fewer (rec ∷ recs) s = go (attempt s rec).fate (pass attempt (attempt s rec).after recs) (fewer recs (attempt s rec).after)
    where
      go : (f : Fate) (p : Passed S) → length p.waiting + length p.admitted ≤ length recs
          → length (ahead rec f p).waiting + length (ahead rec f p).admitted ≤ suc (length recs)
      go joins p h = omega arith
      go stays p h = omega arith
      go leaves p h = omega arith

  module _ (Q : ChangesByAdmission attempt) where
    -- a pass that changes nothing
    abbrev still : S → List (List ℕ) → Passed S
    still s recs = record { after = s; admitted = []; waiting = recs }

    -- A pass that admits none leaves what stood before it, and the records that it leaves waiting stay once more.
    record Idle (s : S) (recs : List (List ℕ)) : Type 0 where
      same : (pass attempt s recs).after ≡ s
      again : pass attempt s (pass attempt s recs).waiting ≡ still s (pass attempt s recs).waiting

    idle : (recs : List (List ℕ)) (s : S) → (pass attempt s recs).admitted ≡ [] → Idle s recs
    idle [] s e = record { same = rw (none_is s); again = rw (none_is s) (none_is s) }
    idle (rec ∷ recs) s e = go (attempt s rec).fate refl (idle recs s)
      where
        -- a record that is not admitted leaves what stands
        calm : (f : Fate) → (attempt s rec).fate ≡ f → is_joins f ≡ false → (attempt s rec).after ≡ s
        calm f d x = Q s rec (λ j. false≢true (sym x ∙ sym (ap is_joins d) ∙ ap is_joins j))

        -- and the rest admits none
        rest : (p : Passed S) → pass attempt s (rec ∷ recs) ≡ p → p.admitted ≡ []
        rest p b = sym (ap (λ (x : Passed S). x.admitted) b) ∙ e

        go : (f : Fate) → (attempt s rec).fate ≡ f → ((pass attempt s recs).admitted ≡ [] → Idle s recs) → Idle s (rec ∷ recs)
        go joins d ih = absurd (some_there (rest _ (first_is s _ rec recs joins d refl)))
        go stays d ih =
            let q = calm stays d refl in
            let b = first_is s s rec recs stays d q in
            let w = ih (rest _ b) in
            let more = first_is s s rec (pass attempt s recs).waiting stays d q ∙ ap (ahead rec stays) w.again in
            record { same = rw b w.same; again = rw b more }
        go leaves d ih =
            let b = first_is s s rec recs leaves d (calm leaves d refl) in
            let w = ih (rest _ b) in
            record { same = rw b w.same; again = rw b w.again }

    -- more passes than records come to their end
    passes_over : (k : ℕ) (s : S) (recs : List (List ℕ)) → length recs < k
        → pass attempt (passes attempt k s recs).after (passes attempt k s recs).waiting
        ≡ still (passes attempt k s recs).after (passes attempt k s recs).waiting
    unfolding passes
    passes_over zero s recs h = absurd (not-suc-le-zero h)
    passes_over (suc k) s recs h =
        go (which (is_none (pass attempt s recs).admitted)) (passes_over k (pass attempt s recs).after (pass attempt s recs).waiting)
      where
        go : (is_none (pass attempt s recs).admitted ≡ true) ⊎ (is_none (pass attempt s recs).admitted ≡ false)
            → (length (pass attempt s recs).waiting < k
            → pass attempt (passes attempt k (pass attempt s recs).after (pass attempt s recs).waiting).after
            (passes attempt k (pass attempt s recs).after (pass attempt s recs).waiting).waiting
            ≡ still (passes attempt k (pass attempt s recs).after (pass attempt s recs).waiting).after
            (passes attempt k (pass attempt s recs).after (pass attempt s recs).waiting).waiting)
            → pass attempt (passes attempt (suc k) s recs).after (passes attempt (suc k) s recs).waiting
            ≡ still (passes attempt (suc k) s recs).after (passes attempt (suc k) s recs).waiting
        go (inl e) ih = let w = idle recs s (none_there (pass attempt s recs).admitted e) in rw (e, w.same) w.again
        go (inr e) ih = rw e (ih (omega (arith, fewer recs s, some_long (pass attempt s recs).admitted e)))

pub any_passes_end : AnyPassesEnd
any_passes_end S attempt Q s recs = passes_over attempt Q (suc (length recs)) s recs (omega arith)

-- a vertex call that does not admit changes no word
vertex_quiet : ChangesByAdmission try_vertex
unfolding take_body
vertex_quiet l rec h = go (decided (first_no (vertex_questions l (round_of rec) (source_of rec) (body_of rec))))
  where
    go : (number_of (first_no (vertex_questions l (round_of rec) (source_of rec) (body_of rec))) ≡ 0)
        ⊎ (number_of (first_no (vertex_questions l (round_of rec) (source_of rec) (body_of rec))) ≡ 0 → ⊥) → (try_vertex l rec).after ≡ l
    go (inl z) = absurd (h (ap fate_of (number_yes _ l _ z)))
    go (inr d) = words_no _ l _ d

pub vertex_passes_end : VertexPassesEnd
vertex_passes_end = any_passes_end (List ℕ) try_vertex vertex_quiet
