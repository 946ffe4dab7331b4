-- What `confirm` does.
use Rattle.std.specs.Prelude.{◌≡◌, ℕ, ◌+◌, ◌*◌, ◌^◌, ◌<◌, List, [], ◌∷◌, ◌++◌, Option, None, Some, Result, Ok, Err}
use Rattle.std.specs.Prelude.{codes, decimal, length, take}
use Rattle.std.specs.List.{flat_map}
use Rattle.std.specs.Io.KnownBytes.{Appends}
use Rattle.octet_devices.specs.Device.{InputState, OutputState}
use Rattle.archive_text.specs.Entries.{Entry}
use Rattle.archive_proof.specs.Answering.{AreAnswered}
use Rattle.archive_proof.specs.declared.proof.Answer.{Answer}
use Rattle.archive_proof.specs.declared.proof.Answer.TheVariants.{Present, Absent, NotShown}
use Rattle.archive_proof.specs.declared.writing.TheConstants.{PROOF_MAX}
use Rattle.archive_tree.specs.declared.head.TreeHead.{TreeHead}
use Rattle.driver.specs.Devices.{Devices}
use Rattle.driver.specs.declared.status.TheConstants.{DONE, FAULT, NO_MEMORY, REFUSED}
use Rattle.driver.specs.Ended.{EndsAs, Telling}
use Rattle.proof_engine.specs.Asking.{AskingFailures, HasAsked, IsNotAsked, asking_line, asking_status, is_no_record}
use Rattle.proof_engine.specs.Bounded.{GoesOn, IsCutOff, IsText, TextFailures}
use Rattle.proof_engine.specs.declared.asking.AskingFault.{AskingFault}
use Rattle.proof_engine.specs.declared.bounded.TextFault.{TextFault}
use Rattle.proof_engine.specs.declared.bounded.TextFault.TheVariants as text_fault
use Rattle.proof_engine.specs.declared.confirm.ConfirmFault.{ConfirmFault}
use Rattle.proof_engine.specs.declared.confirm.ConfirmFault.TheVariants.{Records, Read, TooLong, Trailing, Write, Memory}

-- the line on a record
abbrev pub answer_line : Answer → List ℕ
answer_line Present = codes "present\n"
answer_line Absent = codes "absent\n"
answer_line NotShown = codes "not shown\n"

-- the status where no octets follow the last proof: whether something is shown of each record
abbrev pub shown_status : List Answer → ℕ
shown_status [] = DONE
shown_status (NotShown ∷ answers) = REFUSED
shown_status (a ∷ answers) = shown_status answers

-- the most octets of the text of so many proofs, and as many as one more
abbrev pub proofs_max : ℕ → ℕ
proofs_max n = (n + 1) * PROOF_MAX

-- behind how many octets of the text others follow the last proof, if there is one for each record, and they do
abbrev pub IsTrailing : List ℕ → Option (List ℕ) → Option ℕ → Type 0
IsTrailing text None trailing = trailing ≡ None
IsTrailing text (Some []) trailing = trailing ≡ None
IsTrailing text (Some (x ∷ xs)) trailing = (at : ℕ) × (trailing ≡ Some at) × (at + length (x ∷ xs) ≡ length text)

-- records were read, then a text of proofs, each to its end, and these are the answers
pub record Confirms (head : TreeHead) (q r d e : InputState) (answers : List Answer) (trailing : Option ℕ) : Type 0 where
  pub rs : List Entry
  pub text : List ℕ
  pub left : Option (List ℕ)
  pub asked : HasAsked q r rs
  pub read : IsText (proofs_max (length rs)) d e text
  pub answered : AreAnswered head rs text answers left
  pub is_trailing : IsTrailing text left trailing

-- no octets follow the last proof, and the line on each record was written
pub record Confirmed (head : TreeHead) (q r d e : InputState) (taken_old taken_new : Option (List ℕ)) (status : ℕ) : Type 0
  where
    pub answers : List Answer
    pub confirms : Confirms head q r d e answers None
    pub written : Appends taken_old taken_new (flat_map answer_line answers)
    pub status_is : status ≡ shown_status answers

-- octets follow the last proof, behind so many, and the lines were written
pub record IsTrailed (at : ℕ) (head : TreeHead) (q r d e : InputState) (taken_old taken_new : Option (List ℕ)) : Type 0
  where
    pub answers : List Answer
    pub confirms : Confirms head q r d e answers (Some at)
    pub written : Appends taken_old taken_new (flat_map answer_line answers)

-- the writer took so many octets of the lines, and not all
pub record IsCutAt (sent : ℕ) (head : TreeHead) (q r d e : InputState) (taken_old taken_new : Option (List ℕ)) : Type 0
  where
    pub answers : List Answer
    pub trailing : Option ℕ
    pub confirms : Confirms head q r d e answers trailing
    pub some_left : sent < length (flat_map answer_line answers)
    pub written : Appends taken_old taken_new (take sent (flat_map answer_line answers))

-- why the records and their proofs were not read; if the records were not, the other input was not called
abbrev pub IsNotRead : ConfirmFault → InputState → InputState → InputState → InputState → Type 0
IsNotRead (Records fault) q r d e = IsNotAsked fault q r × (e ≡ d)
IsNotRead Read q r d e = (rs : List Entry) × HasAsked q r rs × IsCutOff (proofs_max (length rs)) d e
IsNotRead TooLong q r d e = (rs : List Entry) × HasAsked q r rs × GoesOn (proofs_max (length rs)) d e
IsNotRead Memory q r d e = Unit {0}
IsNotRead fault q r d e = ⊥

-- a fault stopped it; but for the first two the writer was not called
abbrev pub Stopped : TreeHead → ConfirmFault → InputState → InputState → InputState → InputState → OutputState
    → OutputState → Type 0
Stopped head (Trailing at) q r d e w v = IsTrailed at head q r d e w.taken v.taken
Stopped head (Write sent) q r d e w v = IsCutAt sent head q r d e w.taken v.taken
Stopped head fault q r d e w v = IsNotRead fault q r d e × (v ≡ w)

-- ---- what is told

-- trailing AT: behind how many octets others follow the last proof
abbrev pub trailing_text : ℕ → List ℕ
trailing_text at = codes "trailing " ++ decimal at ++ codes "\n"

abbrev pub confirm_line : ConfirmFault → List ℕ
confirm_line (Records fault) = asking_line fault
confirm_line Read = codes "read fault\n"
confirm_line TooLong = codes "too-long\n"
confirm_line (Trailing at) = trailing_text at
confirm_line (Write sent) = codes "write fault\n"
confirm_line Memory = codes "want of memory\n"

abbrev pub confirm_status : ConfirmFault → ℕ
confirm_status (Records fault) = asking_status fault
confirm_status Read = FAULT
confirm_status TooLong = FAULT
confirm_status (Trailing at) = REFUSED
confirm_status (Write sent) = FAULT
confirm_status Memory = NO_MEMORY

abbrev pub is_refusal : ConfirmFault → Type 0
is_refusal (Records fault) = is_no_record fault
is_refusal Read = ⊥
is_refusal TooLong = ⊥
is_refusal (Trailing at) = ⊥
is_refusal (Write sent) = ⊥
is_refusal Memory = ⊥

abbrev pub confirm_telling : Telling ConfirmFault
confirm_telling = record { line = confirm_line; status = confirm_status; takes_memory = is_refusal }

-- the fault of the records in it, and that of the text of proofs
abbrev pub asking_in : {X : Type 0} → Result X ConfirmFault → Result ℕ AskingFault
asking_in (Err (Records fault)) = Err fault
asking_in r = Ok 0

abbrev pub text_in : {X : Type 0} → Result X ConfirmFault → Result ℕ TextFault
text_in (Err Read) = Err text_fault.Read
text_in r = Ok 0

-- the writer failed at its own fault alone
abbrev pub WriteFailures : {X : Type 0} → Result X ConfirmFault → ℕ → ℕ → Type 0
WriteFailures (Err (Write sent)) old new = old < 2 ^ 63 → old < new
WriteFailures r old new = new ≡ old

-- each reader's fault is told just where it failed
pub record ReadFailures {X : Type 0} (result : Result X ConfirmFault) (q r d e : InputState) : Type 0 where
  pub records : AskingFailures (asking_in result) q.failures r.failures
  pub reader : TextFailures (text_in result) d.failures e.failures

-- each device's is
pub record ConfirmFailures {X : Type 0} (result : Result X ConfirmFault) (q r d e : InputState) (w v : OutputState) : Type 0
  where
    pub readers : ReadFailures result q r d e
    pub writer : WriteFailures result w.failures v.failures

-- what it ended with
abbrev pub result_of : Option ConfirmFault → Result ℕ ConfirmFault
result_of None = Ok 0
result_of (Some fault) = Err fault

-- what `confirm` does, whatever the devices do
pub record RanConfirm (head : TreeHead) (q r : InputState) (old new : Devices) (status : ℕ) : Type 0 where
  pub ending : Option ConfirmFault
  pub outcome : EndsAs confirm_telling (Confirmed head q r old.input new.input old.output.taken new.output.taken)
      (λ fault. Stopped head fault q r old.input new.input old.output new.output) ending old.diagnostics new.diagnostics
      status
  -- a device failed exactly where that is told
  pub failures : ConfirmFailures (result_of ending) q r old.input new.input old.output new.output
