-- What an answer says: each refusal's number, the id that it carries, and the first question that is answered no.
use Rattle.std.specs.Prelude.{Bool, true, false, not, ◌&&◌, List, [], ◌∷◌, ℕ, eqb, Option, Some, None, Result, Ok, Err, ⊤}
use Rattle.record.specs.declared.refusal.Refusal.{Refusal}
use Rattle.record.specs.declared.refusal.Refusal.TheVariants.{StateSize, MemberCount, Malformed, RecordSize, Round, Source, MaskBits}
use Rattle.record.specs.declared.refusal.Refusal.TheVariants.{Strong, Timeouts, NoVotes, Weak, Duplicate, Conflict, MissingParent, PastEnd}
use Rattle.record.specs.declared.refusal.Refusal.TheVariants.{Watcher, Signing, FewParents, Buffer, BufferFull}

-- the paper's number of a refusal
abbrev pub refusal_number : Refusal → ℕ
refusal_number StateSize = 1
refusal_number MemberCount = 2
refusal_number Malformed = 3
refusal_number RecordSize = 4
refusal_number Round = 5
refusal_number Source = 6
refusal_number MaskBits = 7
refusal_number Strong = 8
refusal_number Timeouts = 9
refusal_number NoVotes = 10
refusal_number Weak = 11
refusal_number Duplicate = 12
refusal_number Conflict = 13
refusal_number (MissingParent x) = 14
refusal_number PastEnd = 15
refusal_number Watcher = 16
refusal_number Signing = 17
refusal_number FewParents = 18
refusal_number Buffer = 19
refusal_number BufferFull = 20

-- the missing parent's id, where that is the refusal
abbrev pub missing_in : Refusal → Option ℕ
missing_in StateSize = None
missing_in MemberCount = None
missing_in Malformed = None
missing_in RecordSize = None
missing_in Round = None
missing_in Source = None
missing_in MaskBits = None
missing_in Strong = None
missing_in Timeouts = None
missing_in NoVotes = None
missing_in Weak = None
missing_in Duplicate = None
missing_in Conflict = None
missing_in (MissingParent x) = Some x
missing_in PastEnd = None
missing_in Watcher = None
missing_in Signing = None
missing_in FewParents = None
missing_in Buffer = None
missing_in BufferFull = None

-- what the questions of a call give: no refusal, or one
abbrev pub Verdict : Type 0
Verdict = Result ⊤ Refusal

abbrev pub no_refusal : Verdict
no_refusal = Ok tt

-- the number of a verdict, and of an answer: 0, or that of the refusal
abbrev pub number_of : {T : Type 0} → Result T Refusal → ℕ
number_of (Ok x) = 0
number_of (Err why) = refusal_number why

-- a number, and 0 where there is none
abbrev pub or_zero : Option ℕ → ℕ
or_zero None = 0
or_zero (Some x) = x

-- the id that goes with the number: with 14 the missing parent's, and else 0
abbrev pub id_in : {T : Type 0} → Result T Refusal → ℕ
id_in (Ok x) = 0
id_in (Err why) = or_zero (missing_in why)

-- the number of a missing parent, of whatever id
abbrev pub missing_number : ℕ
missing_number = refusal_number (MissingParent 0)

abbrev pub is_missing : Verdict → Bool
is_missing why = eqb (number_of why) missing_number

-- a question: its answer, and the refusal if that is no
abbrev pub Question : Type 0
Question = Bool × Refusal

-- the refusal of the first question that is answered no, and none where all are answered yes
unfoldable pub first_no : List Question → Verdict
first_no [] = no_refusal
first_no ((true, why) ∷ rest) = first_no rest
first_no ((false, why) ∷ rest) = Err why

-- every question has a refusal with a number other than 0
unfoldable pub numbered : List Question → Bool
numbered [] = true
numbered (q ∷ rest) = not (eqb (refusal_number q.1) 0) && numbered rest
