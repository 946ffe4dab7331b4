-- What a run of each command does.
use Rattle.std.proofs.Common.{◌≡◌, ℕ, List, [], inl, inr, Bool, true, false, Option, None, Some, IfSome, ap, codes, refl, string_bytes}
use Rattle.std.proofs.Common.{subst, sym, ◌∙◌}
use Rattle.std.proofs.KnownBytes.{Appends-nil}
use Rattle.std.specs.Prelude.{IsSome}
use Rattle.octet_devices.specs.Device.{OutputState}
use Rattle.syslog_legacy.specs.declared.frame_reading.FrameReading.{FrameReading}
use Rattle.syslog_frame.specs.declared.framing.Framing.{Framing}
use Rattle.driver.specs.Devices.{Devices, Reports, devices}
use Rattle.driver.specs.Effects.{Done}
use Rattle.driver.specs.Run.{Ran, RanWithin, limits_by}
use Rattle.driver.specs.Sessions.{HasOneOutput, Meaning}
use Rattle.driver.specs.declared.limits.ReadLimit.{ReadLimit}
use Rattle.driver.specs.declared.limits.ReadLimit.TheVariants.{Standard}
use Rattle.driver.specs.declared.status.TheConstants.{NO_MEMORY}
use Rattle.driver.proofs.Ends.{unstarted}
use Rattle.colored_show.proofs.ColorLemmas.{colored_output}
use Rattle.frame_engine.specs.Checked.{check_handling, refused_line}
use Rattle.frame_engine.specs.Converted.{convert_handling, noted_line}
use Rattle.frame_engine.specs.Handling.{HasOneOutputEach, PutsNothingOut, nothing_at_end}
use Rattle.frame_engine.specs.Sessions.{handler_meaning}
use Rattle.frame_engine.specs.Summaries.{check_end}
use Rattle.frame_engine.specs.declared.input_framing.InputFraming.{InputFraming}
use Rattle.frame_engine.proofs.ConvertLemmas.{convert_output}
use Rattle.frame_engine.proofs.OutputLemmas.{check_output, show_json_output, show_output}
use Rattle.frame_engine.proofs.SessionLemmas.{handler_laws, nothing_begun, nothing_out}
use Rattle.archive_engine.specs.Archived.{archive_handling, archive_meaning}
use Rattle.archive_engine.proofs.ArchiveLemmas.{archive_laws}
use Rattle.archive_sets.specs.declared.fault.SelectFault.TheVariants.{Memory as select_Memory}
use Rattle.command_line.specs.Requests.{Add, Answer, Archive, Asked, Backup, Check, Collect, Common, Compact}
use Rattle.command_line.specs.Requests.{Confirm, Convert, Count, Diff, Digest, Expire, Follow, Merge, Migrate, Minus, Prove}
use Rattle.command_line.specs.Requests.{Read, Reconcile, Root, Seal, Select, Send, Serve, Show, SpillArchive, Stat, Union}
use Rattle.command_line.specs.Requests.{Verify}
use Rattle.command_line.specs.Requests.{AnswersWords, IsHelp, asks_help, frames_asked, frames_by, may_ask_help, parsed}
use Rattle.command_line.proofs.LineLemmas.{asked_no_help}
use Rattle.command_line.specs.declared.request.ColorWhen.{ColorWhen}
use Rattle.command_line.specs.declared.request.ColorWhen.TheVariants.{Always, Auto, Never}
use Rattle.command_line.specs.declared.request.FrameCommand.{FrameCommand}
use Rattle.command_line.specs.declared.request.FrameCommand.TheVariants as frames
use Rattle.command_line.specs.declared.request.FrameRequest.{FrameRequest}
use Rattle.command_line.specs.declared.words.WordsFault.{WordsFault}
use Rattle.command_line.specs.declared.words.WordsFault.TheVariants.{Help, Usage, Memory as words_Memory}
use Rattle.send_engine.specs.Sending.{OutOfMemory}
use Rattle.commands.specs.Runs.{RanAs, RanInputWithin, ReadsInput, TellsHelp, TellsUsage, TellsWordsFault, fields_by, show_by}
use Rattle.commands.specs.Stored.{Stored}

pub ran_input : (limit : ReadLimit) (M : Meaning) (old new : Devices) (status : ℕ) → HasOneOutput M
    → RanWithin (limits_by limit) M old new status → RanInputWithin limit M old new status
ran_input limit M old new status one r = record { ran = r; prefix = r.begins one }

-- ---- each command on the standard input

check_end_out : (way : FrameReading) (summary : Bool) → PutsNothingOut (check_end way summary)
check_end_out way true frames d (tally, tallied, is) = ap (λ (x : Done). x.output) is
check_end_out way false frames d is = ap (λ (x : Done). x.output) is

pub ran_check : (way : FrameReading) (framing : InputFraming) (limit : ReadLimit) (summary : Bool) (stored : Stored) (old new : Devices)
    (status : ℕ) → RanWithin (limits_by limit) (handler_meaning (check_handling way) refused_line (check_end way summary) framing) old new status
    → RanAs (Check way framing limit summary) stored old new status
ran_check way framing limit summary stored old new status r =
    ran_input limit (handler_meaning (check_handling way) refused_line (check_end way summary) framing) old new status
    (handler_laws (check_handling way) refused_line (check_end way summary) framing (check_output way)
    (check_end_out way summary)) r

fields_by_output : (way : FrameReading) (color : ColorWhen) → HasOneOutputEach (fields_by way color)
fields_by_output way Always = colored_output way
fields_by_output way Auto = show_output way
fields_by_output way Never = show_output way

show_by_output : (way : FrameReading) (json : Bool) (color : ColorWhen) → HasOneOutputEach (show_by way json color)
show_by_output way true color = show_json_output way
show_by_output way false color = fields_by_output way color

pub ran_show : (way : FrameReading) (framing : InputFraming) (limit : ReadLimit) (json : Bool) (color : ColorWhen) (stored : Stored)
    (old new : Devices) (status : ℕ)
    → RanWithin (limits_by limit) (handler_meaning (show_by way json color) noted_line nothing_at_end framing) old new status
    → RanAs (Show way framing limit json color) stored old new status
ran_show way framing limit json color stored old new status r =
    ran_input limit (handler_meaning (show_by way json color) noted_line nothing_at_end framing) old new status
    (handler_laws (show_by way json color) noted_line nothing_at_end framing (show_by_output way json color) nothing_out) r

pub ran_convert : (way : FrameReading) (framing : InputFraming) (limit : ReadLimit) (to : Option Framing) (stored : Stored) (old new : Devices)
    (status : ℕ) → RanWithin (limits_by limit) (handler_meaning (convert_handling way to) noted_line nothing_at_end framing) old new status
    → RanAs (Convert way framing limit to) stored old new status
ran_convert way framing limit to stored old new status r =
    ran_input limit (handler_meaning (convert_handling way to) noted_line nothing_at_end framing) old new status
    (handler_laws (convert_handling way to) noted_line nothing_at_end framing (convert_output way to) nothing_out) r

pub ran_archive : (way : FrameReading) (framing : InputFraming) (stored : Stored) (old new : Devices) (status : ℕ)
    → Ran (archive_meaning way framing) old new status → RanAs (Archive way framing) stored old new status
ran_archive way framing stored old new status r =
    ran_input Standard (archive_meaning way framing) old new status (archive_laws way framing) r

-- all of these read the standard input
pub frames_read : (r : FrameRequest) → ReadsInput (frames_asked r)
frames_read r = by_command r.reading r.input_framing r.limit r.command
  where
    by_command : (way : FrameReading) (framing : InputFraming) (limit : ReadLimit) (command : FrameCommand)
        → ReadsInput (frames_by way framing limit command)
    by_command way framing limit (frames.Check summary) = tt
    by_command way framing limit (frames.Show json color) = tt
    by_command way framing limit (frames.Convert to) = tt
    by_command way framing limit frames.Archive = tt

-- ---- files

pub has_file : (stored : Stored) (name : List ℕ) (left : Option (List ℕ))
    → IfSome stored (λ octets. IsSome left × (octets name ≡ left)) → IfSome stored (λ octets. IsSome (octets name))
has_file None name left h = tt
has_file (Some octets) name left (some, same) = subst IsSome (sym same) some

-- ---- memory ran out before a command began

pub unstarted_as : (asked : Asked) (stored : Stored) (old : Devices) (d : OutputState) (status : ℕ)
    → Reports (codes "want of memory\n") NO_MEMORY old.diagnostics d status
    → RanAs asked stored old (devices old.input old.output d) status
unstarted_as (Check way framing limit summary) stored old d status t =
    let b = nothing_begun (check_handling way) refused_line framing in
    ran_check way framing limit summary stored old _ status
    (unstarted _ (handler_meaning (check_handling way) refused_line (check_end way summary) framing) old d status b.0 b.1 t)
unstarted_as (Show way framing limit json color) stored old d status t =
    let b = nothing_begun (show_by way json color) noted_line framing in
    ran_show way framing limit json color stored old _ status
    (unstarted _ (handler_meaning (show_by way json color) noted_line nothing_at_end framing) old d status b.0 b.1 t)
unstarted_as (Convert way framing limit to) stored old d status t =
    let b = nothing_begun (convert_handling way to) noted_line framing in
    ran_convert way framing limit to stored old _ status
    (unstarted _ (handler_meaning (convert_handling way to) noted_line nothing_at_end framing) old d status b.0 b.1 t)
unstarted_as (Archive way framing) stored old d status t =
    let b = nothing_begun (archive_handling way) noted_line framing in
    ran_archive way framing stored old _ status
    (unstarted _ (archive_meaning way framing) old d status b.0 b.1 t)
unstarted_as (Merge left right) stored old d status t = inl (refl, t)
unstarted_as (Union files) stored old d status t = inl (refl, t)
unstarted_as (Common left right) stored old d status t = inl (refl, t)
unstarted_as (Minus left right) stored old d status t = inl (refl, t)
unstarted_as (Diff left right) stored old d status t = inl (refl, t)
unstarted_as (Select asked) stored old d status t = inl (refl, (refl, t))
unstarted_as (Digest period false) stored old d status t = record {
  ending = Some select_Memory;
  outcome = (
    record { xs = []; parts = []; read = tt; divided = record { each = tt; all = refl }; written = tt },
    inl t,
  );
  failures = record { reader = refl; writer = refl };
  memory = λ _. (refl, refl);
}
unstarted_as (Digest period true) stored old d status t = record {
  ending = Some select_Memory;
  outcome = (
    record { xs = []; parts = []; read = tt; divided = record { each = tt; all = refl }; written = tt },
    inl t,
  );
  failures = record { reader = refl; writer = refl };
  memory = λ _. (refl, refl);
}
unstarted_as (Count keys top form) stored old d status t = inl (refl, (refl, t))
unstarted_as (Prove records) stored old d status t = inl (refl, (refl, t))
unstarted_as (Confirm head records) stored old d status t = inl (refl, (refl, t))
unstarted_as Root stored old d status t = record {
  ending = Some select_Memory;
  outcome = (tt, inl t);
  failures = record { reader = refl; writer = refl };
  memory = λ _. (refl, refl);
}
unstarted_as (Migrate file) stored old d status t = inl (refl, t)
unstarted_as (Send texts) stored old d status t = record {
  ending = OutOfMemory;
  outcome = (refl, t);
  begins = λ done is. (0, Appends-nil old.output.taken);
}
unstarted_as (SpillArchive way framing dir memory) stored old d status t = inl (refl, t)
unstarted_as (Read dir conditions words) stored old d status t = inl (refl, t)
unstarted_as (Follow dir conditions words) stored old d status t = inl (refl, t)
unstarted_as (Verify dir against) stored old d status t = inl (refl, t)
unstarted_as (Stat dir) stored old d status t = inl (refl, t)
unstarted_as (Compact dir) stored old d status t = inl (refl, t)
unstarted_as (Add dir) stored old d status t = inl (refl, t)
unstarted_as (Expire dir words) stored old d status t = inl (refl, t)
unstarted_as (Seal dir before) stored old d status t = inl (refl, t)
unstarted_as (Reconcile dir words) stored old d status t = inl (refl, t)
unstarted_as (Answer dir words) stored old d status t = inl (refl, t)
unstarted_as (Backup dir to) stored old d status t = inl (refl, t)
unstarted_as (Collect words) stored old d status t = inl (refl, t)
unstarted_as (Serve words) stored old d status t = inl (refl, t)

-- ---- arguments that are no request

pub words_refused : (words : List (List ℕ)) (fault : WordsFault) (asked : Asked) (stored : Stored) (old : Devices)
    (w d : OutputState) (status : ℕ) → AnswersWords words fault → parsed words ≡ Some asked
    → TellsWordsFault fault old.output w old.diagnostics d status → RanAs asked stored old (devices old.input w d) status
words_refused words (Usage text) asked stored old w d status answers some told =
    let clash : None ≡ Some asked = sym answers.0 ∙ some in
    absurd (cc clash)
words_refused words (Help text) asked stored old w d status answers some told =
    let clash : None ≡ Some asked = sym answers.0 ∙ some in
    absurd (cc clash)
words_refused words words_Memory asked stored old w d status answers some told =
    rw told.0 (unstarted_as asked stored old d status told.1)

pub tells_usage : (words : List (List ℕ)) (fault : WordsFault) (w w_new n n_new : OutputState) (status : ℕ)
    → AnswersWords words fault → may_ask_help words ≡ false → TellsWordsFault fault w w_new n n_new status
    → TellsUsage n n_new status
tells_usage words (Usage text) w w_new n n_new status answers none told = inl (string_bytes text, told.1)
tells_usage words (Help text) w w_new n n_new status answers none told =
    let clash : true ≡ false = sym answers.1 ∙ none in
    absurd (cc clash)
tells_usage words words_Memory w w_new n n_new status answers none told = inr told.1

pub keeps_output : (words : List (List ℕ)) (fault : WordsFault) → AnswersWords words fault
    → may_ask_help words ≡ false → IsHelp fault → ⊥
keeps_output words (Usage text) answers none h = h
keeps_output words (Help text) answers none h =
    let clash : true ≡ false = sym answers.1 ∙ none in
    absurd (cc clash)
keeps_output words words_Memory answers none h = h

pub tells_help : (words : List (List ℕ)) (fault : WordsFault) (w w_new n n_new : OutputState) (status : ℕ)
    → AnswersWords words fault → asks_help words ≡ true → TellsWordsFault fault w w_new n n_new status
    → TellsHelp w w_new n n_new status
tells_help words (Usage text) w w_new n n_new status answers asks told =
    let clash : true ≡ false = sym asks ∙ answers.1 in
    absurd (cc clash)
tells_help words (Help text) w w_new n n_new status answers asks told = inl (string_bytes text, told)
tells_help words words_Memory w w_new n n_new status answers asks told = inr told

-- a request asks for no help
pub request_no_help : (words : List (List ℕ)) (asked : Asked) → parsed words ≡ Some asked → asks_help words ≡ true → ⊥
request_no_help words asked some asks =
    let clash : true ≡ false = sym asks ∙ asked_no_help words asked some in
    absurd (cc clash)
