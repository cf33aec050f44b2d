-- The words of a pending buffer as what they mean: the records that wait for their parents, and when a buffer is well formed.
use Rattle.std.specs.Prelude.{Bool, true, false, cond, ◌&&◌, ◌||◌, ℕ, zero, suc, ◌-◌, eqb, leb, ltb, length, get_or, take, drop, replicate}
use mathlib.Core.List.{List, [], ◌∷◌, ◌++◌, Memᴰ}
use Rattle.record.specs.Below.{all}
use Rattle.record.specs.Members.{id_of}
use Rattle.record.specs.Refusals.{number_of}
use Rattle.record.specs.Layout.{record_size, round_of, source_of}
use Rattle.record.specs.Questions.{record_refusal}
use Rattle.pending.specs.Layout.{buffer_size, buffer_slots, count_place, slot_at}

-- ---- records

-- the record stands in the list
abbrev pub In : List ℕ → List (List ℕ) → Type 0
In rec recs = Memᴰ rec recs

-- the id (01: ref) of a record
abbrev pub record_id : List ℕ → ℕ
record_id rec = id_of (round_of rec) (source_of rec)

-- two records have the same words
unfoldable pub same_record : List ℕ → List ℕ → Bool
same_record rec other = all record_size (λ i. eqb (get_or rec i 0) (get_or other i 0))

-- two records have the same id
abbrev pub same_id : List ℕ → List ℕ → Bool
same_id rec other = eqb (record_id rec) (record_id other)

-- a record of the list satisfies t
unfoldable pub some : (List ℕ → Bool) → List (List ℕ) → Bool
some t [] = false
some t (rec ∷ recs) = t rec || some t recs

-- the list with a record put in behind those of lower ids
unfoldable pub put_in : List ℕ → List (List ℕ) → List (List ℕ)
put_in rec [] = rec ∷ []
put_in rec (other ∷ recs) = cond (ltb (record_id other) (record_id rec)) (other ∷ put_in rec recs) (rec ∷ other ∷ recs)

-- ---- the records of a buffer

-- how many there are
abbrev pub count_of : List ℕ → ℕ
count_of s = get_or s count_place 0

-- the words of slot j
abbrev pub record_at : List ℕ → ℕ → List ℕ
record_at s j = take record_size (drop (slot_at j) s)

-- those of k slots from slot j on
unfoldable pub records_from : List ℕ → ℕ → ℕ → List (List ℕ)
records_from s j zero = []
records_from s j (suc k) = record_at s j ∷ records_from s (suc j) k

abbrev pub records_in : List ℕ → List (List ℕ)
records_in s = records_from s 0 (count_of s)

-- ---- the buffer of given records

-- the words of records, one record after the other
unfoldable pub words_of : List (List ℕ) → List ℕ
words_of [] = []
words_of (rec ∷ recs) = rec ++ words_of recs

-- their count, the records, and zeros after them
unfoldable pub buffer_of : List (List ℕ) → List ℕ
buffer_of recs = length recs ∷ (words_of recs ++ replicate (buffer_size - slot_at (length recs)) 0)

-- ---- well-formedness (02: sound), for n members

-- each record passes questions 5 to 11, and their ids rise strictly, all above the number low
unfoldable pub records_ok : ℕ → ℕ → List (List ℕ) → Bool
records_ok n low [] = true
records_ok n low (rec ∷ recs) = (eqb (number_of (record_refusal n rec)) 0 && ltb low (record_id rec)) && records_ok n (record_id rec) recs

-- the words after the records are 0
unfoldable pub rest_zero : List ℕ → Bool
rest_zero s = all buffer_size (λ i. ltb i (slot_at (count_of s)) || eqb (get_or s i 0) 0)

-- It has its size, at most 32 records, these pass and rise, and zeros follow. Every id of a record that passes is above 0.
unfoldable pub buffer_ok : ℕ → List ℕ → Bool
buffer_ok n s = eqb (length s) buffer_size && (leb (count_of s) buffer_slots && (records_ok n 0 (records_in s) && rest_zero s))
