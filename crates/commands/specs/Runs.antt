-- What a run of each command does, whatever the devices do.
use Rattle.std.specs.Prelude.{◌≡◌, ◌⊎◌, ℕ, List, [], ◌∷◌, Option, Bool, true, false, IfSome, IsSome, codes, string_bytes}
use Rattle.octet_devices.specs.Device.{InputState, OutputState}
use Rattle.octet_devices.specs.Transfers.{WroteAll}
use Rattle.driver.specs.Devices.{Devices, OutputFailed, Reports, devices}
use Rattle.driver.specs.Run.{RanWithin, WritesPrefix, limits_by}
use Rattle.driver.specs.Sessions.{Meaning}
use Rattle.driver.specs.declared.limits.ReadLimit.{ReadLimit}
use Rattle.driver.specs.declared.limits.ReadLimit.TheVariants.{Standard}
use Rattle.driver.specs.declared.status.TheConstants.{DONE, FAULT, NO_MEMORY}
use Rattle.syslog_legacy.specs.declared.frame_reading.FrameReading.{FrameReading}
use Rattle.colored_show.specs.Handling.{colored_handling}
use Rattle.frame_engine.specs.Checked.{check_handling, refused_line}
use Rattle.frame_engine.specs.Converted.{convert_handling, noted_line}
use Rattle.frame_engine.specs.Handling.{Handling, nothing_at_end}
use Rattle.frame_engine.specs.Sessions.{handler_meaning}
use Rattle.frame_engine.specs.Showing.{show_handling}
use Rattle.frame_engine.specs.ShowingJson.{show_json_handling}
use Rattle.frame_engine.specs.Summaries.{check_end}
use Rattle.archive_engine.specs.Archived.{archive_meaning}
use Rattle.archive_engine.specs.Merged.{RanMerge, merge_devices}
use Rattle.archive_engine.specs.Migrated.{RanMigrate}
use Rattle.archive_sets.specs.Together.{MeetsAll}
use Rattle.archive_text.specs.declared.period.Period.{Period}
use Rattle.archive_sets.specs.declared.conditions.Conditions.{Conditions}
use Rattle.condition_words.specs.Conditions.{ConditionsAsked, conditions_asked}
use Rattle.command_line.specs.Requests.{Add, Answer, Archive, Asked, Backup, Check, Collect, Common, Compact}
use Rattle.command_line.specs.Requests.{Confirm, Convert, Count, Diff, Digest, Expire, Follow, Merge, Migrate, Minus, Prove}
use Rattle.command_line.specs.Requests.{Read, Reconcile, Root, Seal, Select, Send, Serve, Show, SpillArchive, Stat, Union}
use Rattle.command_line.specs.Requests.{Verify}
use Rattle.command_line.specs.declared.request.ColorWhen.{ColorWhen}
use Rattle.command_line.specs.declared.request.ColorWhen.TheVariants.{Always, Auto, Never}
use Rattle.command_line.specs.declared.words.WordsFault.{WordsFault}
use Rattle.command_line.specs.declared.words.WordsFault.TheVariants.{Help, Usage, Memory as OutOfMemory}
use Rattle.send_engine.specs.Sending.{RanSend}
use Rattle.proof_engine.specs.Rooted.{RanRoot}
use Rattle.archive_counts.specs.declared.options.CountForm.{CountForm}
use Rattle.archive_counts.specs.declared.key.CountKey.{CountKey}
use Rattle.archive_counts.specs.declared.options.CountOptions.{CountOptions}
use Rattle.set_engine.specs.Counting.{RanCount}
use Rattle.set_engine.specs.Digesting.{RanDigest, RanRootedDigest}
use Rattle.set_engine.specs.Selecting.{RanSelect}
use Rattle.set_engine.specs.declared.combination.Combination.TheVariants as combination
use Rattle.commands.specs.JoinedFiles.{RanJoinFiles}
use Rattle.commands.specs.Proved.{RanConfirmFile, RanProveFile}
use Rattle.commands.specs.Stored.{LacksFile, Opens, RanOut, Stored}

-- a command on the standard input; whatever the status, a prefix of the right output was written
pub record RanInputWithin (limit : ReadLimit) (M : Meaning) (old new : Devices) (status : ℕ) : Type 0 where
  pub ran : RanWithin (limits_by limit) M old new status
  pub prefix : WritesPrefix M old new

-- so it is of an input that has a limit
abbrev pub RanInput : Meaning → Devices → Devices → ℕ → Type 0
RanInput M old new status = RanInputWithin Standard M old new status

-- two files are merged; the first name without a file is told before one is read
abbrev pub RanMergeFiles : Stored → List ℕ → List ℕ → OutputState → OutputState → OutputState → OutputState → ℕ
    → Type 0
RanMergeFiles stored left right w w_new n n_new status =
    RanOut w w_new n n_new status
    ⊎ (LacksFile stored left (codes "left no file\n") w w_new n n_new status
    ⊎ ((IfSome stored (λ octets. IsSome (octets left))
    × LacksFile stored right (codes "right no file\n") w w_new n n_new status)
    ⊎ ((l : InputState) × (r : InputState) × (l_new : InputState) × (r_new : InputState)
    × Opens stored left l × Opens stored right r
    × RanMerge (merge_devices l r w n) (merge_devices l_new r_new w_new n_new) status)))

-- a file is migrated; a name without a file is told
abbrev pub RanMigrateFile : Stored → List ℕ → OutputState → OutputState → OutputState → OutputState → ℕ → Type 0
RanMigrateFile stored file w w_new n n_new status =
    RanOut w w_new n n_new status
    ⊎ (LacksFile stored file (codes "old no file\n") w w_new n n_new status
    ⊎ ((o : InputState) × (o_new : InputState) × Opens stored file o
    × RanMigrate (devices o w n) (devices o_new w_new n_new) status))

-- a command that needs what only a program has, as sockets, is no command of a run: this line tells that, unless
-- memory ran out
abbrev pub RanWithout : List ℕ → OutputState → OutputState → OutputState → OutputState → ℕ → Type 0
RanWithout line w w_new n n_new status =
    RanOut w w_new n n_new status ⊎ ((w_new ≡ w) × Reports line FAULT n n_new status)

-- what is written of the fields of a record: colored, where that is always asked for
abbrev pub fields_by : FrameReading → ColorWhen → Handling
fields_by way Always = colored_handling way
fields_by way Auto = show_handling way
fields_by way Never = show_handling way

-- what `show` does with each frame: with `--json` it writes a line of JSON
abbrev pub show_by : FrameReading → Bool → ColorWhen → Handling
show_by way true color = show_json_handling way
show_by way false color = fields_by way color

-- what is selected by these conditions of the archive on the input; or memory ran out before it was read
abbrev pub RanSelectBy : ConditionsAsked → Devices → Devices → ℕ → Type 0
RanSelectBy asked old new status =
    ((new.input ≡ old.input) × RanOut old.output new.output old.diagnostics new.diagnostics status)
    ⊎ ((conditions : Conditions) × (conditions_asked conditions ≡ asked)
    × RanSelect (MeetsAll conditions) old new status)

-- what is counted of the archive on the input
abbrev pub RanCountBy : List CountKey → Option ℕ → CountForm → Devices → Devices → ℕ → Type 0
RanCountBy keys top form old new status =
    ((new.input ≡ old.input) × RanOut old.output new.output old.diagnostics new.diagnostics status)
    ⊎ ((options : CountOptions) × (options.keys.items ≡ keys) × (options.top ≡ top) × (options.form ≡ form)
    × RanCount options old new status)

-- the archive on the input is summed up, with the roots or without them
abbrev pub RanDigestBy : Bool → Period → Devices → Devices → ℕ → Type 0
RanDigestBy false period old new status = RanDigest period old new status
RanDigestBy true period old new status = RanRootedDigest period old new status

-- so of each command
abbrev pub RanAs : Asked → Stored → Devices → Devices → ℕ → Type 0
RanAs (Check way framing limit summary) stored old new status =
    RanInputWithin limit (handler_meaning (check_handling way) refused_line (check_end way summary) framing) old new status
RanAs (Show way framing limit json color) stored old new status =
    RanInputWithin limit (handler_meaning (show_by way json color) noted_line nothing_at_end framing) old new status
RanAs (Convert way framing limit to) stored old new status =
    RanInputWithin limit (handler_meaning (convert_handling way to) noted_line nothing_at_end framing) old new status
RanAs (Archive way framing) stored old new status = RanInput (archive_meaning way framing) old new status
RanAs (Merge left right) stored old new status =
    RanMergeFiles stored left right old.output new.output old.diagnostics new.diagnostics status
RanAs (Union files) stored old new status =
    RanJoinFiles combination.Union stored files old.output new.output old.diagnostics new.diagnostics status
RanAs (Common left right) stored old new status =
    RanJoinFiles combination.Common stored (left ∷ right ∷ []) old.output new.output old.diagnostics new.diagnostics status
RanAs (Minus left right) stored old new status =
    RanJoinFiles combination.Minus stored (left ∷ right ∷ []) old.output new.output old.diagnostics new.diagnostics status
RanAs (Diff left right) stored old new status =
    RanJoinFiles combination.Diff stored (left ∷ right ∷ []) old.output new.output old.diagnostics new.diagnostics status
RanAs (Select asked) stored old new status = RanSelectBy asked old new status
RanAs (Digest period roots) stored old new status = RanDigestBy roots period old new status
RanAs (Count keys top form) stored old new status = RanCountBy keys top form old new status
RanAs Root stored old new status = RanRoot old new status
RanAs (Prove records) stored old new status = RanProveFile stored records old new status
RanAs (Confirm head records) stored old new status = RanConfirmFile head stored records old new status
RanAs (Migrate file) stored old new status =
    RanMigrateFile stored file old.output new.output old.diagnostics new.diagnostics status
RanAs (Send texts) stored old new status =
    RanSend texts old.output new.output old.diagnostics new.diagnostics status
RanAs (SpillArchive way framing dir memory) stored old new status =
    RanWithout (codes "spill fault\n") old.output new.output old.diagnostics new.diagnostics status
RanAs (Read dir conditions words) stored old new status =
    RanWithout (codes "store fault\n") old.output new.output old.diagnostics new.diagnostics status
RanAs (Follow dir conditions words) stored old new status =
    RanWithout (codes "store fault\n") old.output new.output old.diagnostics new.diagnostics status
RanAs (Verify dir against) stored old new status =
    RanWithout (codes "store fault\n") old.output new.output old.diagnostics new.diagnostics status
RanAs (Stat dir) stored old new status =
    RanWithout (codes "store fault\n") old.output new.output old.diagnostics new.diagnostics status
RanAs (Compact dir) stored old new status =
    RanWithout (codes "store fault\n") old.output new.output old.diagnostics new.diagnostics status
RanAs (Add dir) stored old new status =
    RanWithout (codes "store fault\n") old.output new.output old.diagnostics new.diagnostics status
RanAs (Expire dir words) stored old new status =
    RanWithout (codes "store fault\n") old.output new.output old.diagnostics new.diagnostics status
RanAs (Seal dir before) stored old new status =
    RanWithout (codes "store fault\n") old.output new.output old.diagnostics new.diagnostics status
RanAs (Reconcile dir words) stored old new status =
    RanWithout (codes "store fault\n") old.output new.output old.diagnostics new.diagnostics status
RanAs (Answer dir words) stored old new status =
    RanWithout (codes "store fault\n") old.output new.output old.diagnostics new.diagnostics status
RanAs (Backup dir to) stored old new status =
    RanWithout (codes "store fault\n") old.output new.output old.diagnostics new.diagnostics status
RanAs (Collect words) stored old new status =
    RanWithout (codes "socket fault\n") old.output new.output old.diagnostics new.diagnostics status
RanAs (Serve words) stored old new status =
    RanWithout (codes "socket fault\n") old.output new.output old.diagnostics new.diagnostics status

-- the commands of a run that read the standard input
abbrev pub ReadsInput : Asked → Type 0
ReadsInput (Check way framing limit summary) = Unit {0}
ReadsInput (Show way framing limit json color) = Unit {0}
ReadsInput (Convert way framing limit to) = Unit {0}
ReadsInput (Archive way framing) = Unit {0}
ReadsInput (Merge left right) = ⊥
ReadsInput (Union files) = ⊥
ReadsInput (Common left right) = ⊥
ReadsInput (Minus left right) = ⊥
ReadsInput (Diff left right) = ⊥
ReadsInput (Select conditions) = Unit {0}
ReadsInput (Digest period roots) = Unit {0}
ReadsInput (Count keys top form) = Unit {0}
ReadsInput Root = Unit {0}
ReadsInput (Prove records) = Unit {0}
ReadsInput (Confirm head records) = Unit {0}
ReadsInput (Migrate file) = ⊥
ReadsInput (Send texts) = ⊥
ReadsInput (SpillArchive way framing dir memory) = ⊥
ReadsInput (Read dir conditions words) = ⊥
ReadsInput (Follow dir conditions words) = ⊥
ReadsInput (Verify dir against) = ⊥
ReadsInput (Stat dir) = ⊥
ReadsInput (Compact dir) = ⊥
ReadsInput (Add dir) = ⊥
ReadsInput (Expire dir words) = ⊥
ReadsInput (Seal dir before) = ⊥
ReadsInput (Reconcile dir words) = ⊥
ReadsInput (Answer dir words) = ⊥
ReadsInput (Backup dir to) = ⊥
ReadsInput (Collect words) = ⊥
ReadsInput (Serve words) = ⊥

-- arguments that are no request are told by a text, unless memory ran out
abbrev pub TellsUsage : OutputState → OutputState → ℕ → Type 0
TellsUsage n n_new status =
    ((text : List ℕ) × Reports text FAULT n n_new status)
    ⊎ Reports (codes "want of memory\n") NO_MEMORY n n_new status

-- the text that is asked for goes to the output, or it is told that it could not be written
abbrev pub WritesHelp : List ℕ → OutputState → OutputState → OutputState → OutputState → ℕ → Type 0
WritesHelp text w w_new n n_new status =
    (WroteAll w w_new text × (n_new ≡ n) × (status ≡ DONE))
    ⊎ (OutputFailed w w_new × Reports (codes "write fault\n") FAULT n n_new status)

-- so of some text, unless memory ran out
abbrev pub TellsHelp : OutputState → OutputState → OutputState → OutputState → ℕ → Type 0
TellsHelp w w_new n n_new status =
    ((text : List ℕ) × WritesHelp text w w_new n n_new status)
    ⊎ ((w_new ≡ w) × Reports (codes "want of memory\n") NO_MEMORY n n_new status)

-- how arguments are answered that are no request
abbrev pub TellsWordsFault : WordsFault → OutputState → OutputState → OutputState → OutputState → ℕ → Type 0
TellsWordsFault (Usage text) w w_new n n_new status = (w_new ≡ w) × Reports (string_bytes text) FAULT n n_new status
TellsWordsFault (Help text) w w_new n n_new status = WritesHelp (string_bytes text) w w_new n n_new status
TellsWordsFault OutOfMemory w w_new n n_new status =
    (w_new ≡ w) × Reports (codes "want of memory\n") NO_MEMORY n n_new status
