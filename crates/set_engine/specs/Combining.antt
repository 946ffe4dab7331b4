-- What `union`, `common`, `minus` and `diff` do.
use Rattle.std.specs.Prelude.{◌≡◌, ℕ, zero, suc, ◌+◌, Bool, List, ◌++◌, Option, None, Some, Result, Ok, Err, codes, decimal}
use Rattle.octet_devices.specs.Device.{InputState, OutputState}
use Rattle.archive_text.specs.Entries.{Entry}
use Rattle.archive_text.specs.Text.{entry_text}
use Rattle.archive_join.specs.Failures.{TellsFailures}
use Rattle.archive_join.specs.Joined.{Joined, Stopped}
use Rattle.archive_join.specs.Keeping.{DoAllHave, HasFirstAlone, HasOneOfTwo, diff_line}
use Rattle.archive_join.specs.declared.fault.JoinFault.{JoinFault}
use Rattle.archive_join.specs.declared.fault.JoinFault.TheVariants.{Archive, Read, Endless, Write, Memory}
use Rattle.archive_reports.specs.FaultLines.{fault_words}
use Rattle.driver.specs.declared.status.TheConstants.{DONE, FAULT, NO_MEMORY, REFUSED}
use Rattle.driver.specs.Ended.{EndsAs, Telling}
use Rattle.set_engine.specs.declared.combination.Combination.{Combination}
use Rattle.set_engine.specs.declared.combination.Combination.TheVariants.{Union, Common, Minus, Diff}

-- by who has it, whether an entry is kept
abbrev pub keeps_of : Combination → List Bool → Type 0
keeps_of Union = λ _. Unit {0}
keeps_of Common = DoAllHave
keeps_of Minus = HasFirstAlone
keeps_of Diff = HasOneOfTwo

-- what is written of it
abbrev pub text_by : Combination → List Bool → Entry → List ℕ
text_by Union = λ _ e. entry_text e
text_by Common = λ _ e. entry_text e
text_by Minus = λ _ e. entry_text e
text_by Diff = diff_line

-- the words on the input of this number, from 0
abbrev pub input_words : Combination → ℕ → List ℕ
input_words Union n = codes "file " ++ decimal (n + 1) ++ codes " "
input_words how zero = codes "left "
input_words how (suc n) = codes "right "

abbrev pub join_line : Combination → JoinFault → List ℕ
join_line how (Archive input fault) = input_words how input ++ fault_words fault
join_line how (Read input) = input_words how input ++ codes "read fault\n"
join_line how (Endless input) = input_words how input ++ codes "endless input\n"
join_line how (Write sent) = codes "write fault\n"
join_line how Memory = codes "want of memory\n"

-- the status where an input is no archive
abbrev pub refused_status : Combination → ℕ
refused_status Union = REFUSED
refused_status Common = REFUSED
refused_status Minus = REFUSED
refused_status Diff = FAULT

abbrev pub join_status : Combination → JoinFault → ℕ
join_status how (Archive input fault) = refused_status how
join_status how (Read input) = FAULT
join_status how (Endless input) = FAULT
join_status how (Write sent) = FAULT
join_status how Memory = NO_MEMORY

abbrev pub is_on_input : JoinFault → Type 0
is_on_input (Archive input fault) = Unit {0}
is_on_input (Read input) = Unit {0}
is_on_input (Endless input) = Unit {0}
is_on_input (Write sent) = ⊥
is_on_input Memory = ⊥

abbrev pub join_telling : Combination → Telling JoinFault
join_telling how = record { line = join_line how; status = join_status how; takes_memory = is_on_input }

-- the status where all archives were joined, and so many entries kept
abbrev pub joined_status : Combination → ℕ → ℕ
joined_status Diff zero = DONE
joined_status Diff (suc n) = REFUSED
joined_status how n = DONE

-- what is kept of the archives was written
abbrev pub IsJoined : (List Bool → Type 0) → (List Bool → Entry → List ℕ) → Combination → List InputState
    → List InputState → OutputState → OutputState → ℕ → Type 0
IsJoined keeps text how ds es w w_new status =
    (n : ℕ) × Joined keeps text ds es w.taken w_new.taken n × (status ≡ joined_status how n)

-- what a join ended with
abbrev pub result_of : Option JoinFault → Result ℕ JoinFault
result_of None = Ok 0
result_of (Some fault) = Err fault

-- what a join does, whatever the devices do
pub record RanJoinBy (keeps : List Bool → Type 0) (text : List Bool → Entry → List ℕ) (how : Combination)
    (ds es : List InputState) (w w_new n n_new : OutputState) (status : ℕ) : Type 0
  where
    pub ending : Option JoinFault
    pub outcome : EndsAs (join_telling how) (IsJoined keeps text how ds es w w_new)
        (λ fault. Stopped keeps text fault ds es w.taken w_new.taken) ending n n_new status
    -- a device failed exactly where that is told
    pub failures : TellsFailures (result_of ending) ds es w w_new
    -- memory ran out before anything was touched
    pub memory : ending ≡ Some Memory → (es ≡ ds) × (w_new ≡ w)

abbrev pub RanJoin : Combination → List InputState → List InputState → OutputState → OutputState → OutputState → OutputState
    → ℕ → Type 0
RanJoin how ds es w w_new n n_new status = RanJoinBy (keeps_of how) (text_by how) how ds es w w_new n n_new status
