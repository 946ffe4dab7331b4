use Rattle.std.proofs.Common.{◌≡◌, ℕ, subst, sym}
use Rattle.driver.specs.Devices.{Devices}
use Rattle.driver.specs.declared.limits.ReadLimit.{ReadLimit}
use Rattle.frame_engine.specs.declared.input_framing.InputFraming.{InputFraming}
use Rattle.syslog_legacy.specs.declared.frame_reading.FrameReading.{FrameReading}
use Rattle.command_line.specs.Requests.{frames_by}
use Rattle.command_line.specs.declared.request.FrameCommand.{FrameCommand}
use Rattle.command_line.specs.declared.request.FrameCommand.TheVariants.{Archive, Check, Convert, Show}
use Rattle.commands.specs.Runs.{RanAs}
use Rattle.commands.specs.Stored.{Stored}
use Rattle.commands.proofs.RunLemmas.{ran_archive, ran_check, ran_convert, ran_show}
use Rattle.commands.proofs.running.run_on_frames.Goals as goal

-- what ran as one command ran as the same one
same_command : (way : FrameReading) (framing : InputFraming) (limit : ReadLimit) (command one : FrameCommand) (stored : Stored)
    (old new : Devices) (status : ℕ) → command ≡ one → RanAs (frames_by way framing limit one) stored old new status
    → RanAs (frames_by way framing limit command) stored old new status
same_command way framing limit command one stored old new status is ran =
    subst (λ (x : FrameCommand). RanAs (frames_by way framing limit x) stored old new status) (sym is) ran

pub returns-in-Check : goal.returns-in-Check
returns-in-Check g c = λ stored.
    same_command c.args.request.reading c.args.request.input_framing c.args.request.limit c.args.request.command (Check c.in-Check.summary)
    stored _ _ _ c.in-Check.is
    (ran_check c.args.request.reading c.args.request.input_framing c.args.request.limit c.in-Check.summary stored _ _ _ c.check_input.ensures)

pub returns-in-Show : goal.returns-in-Show
returns-in-Show g c = λ stored.
    same_command c.args.request.reading c.args.request.input_framing c.args.request.limit c.args.request.command (Show c.in-Show.json c.in-Show.color)
    stored _ _ _ c.in-Show.is
    (ran_show c.args.request.reading c.args.request.input_framing c.args.request.limit c.in-Show.json c.in-Show.color stored _ _ _
    c.show_input.ensures)

pub returns-in-Convert : goal.returns-in-Convert
returns-in-Convert g c = λ stored.
    same_command c.args.request.reading c.args.request.input_framing c.args.request.limit c.args.request.command (Convert c.in-Convert.to)
    stored _ _ _ c.in-Convert.is
    (ran_convert c.args.request.reading c.args.request.input_framing c.args.request.limit c.in-Convert.to stored _ _ _ c.scan_source.ensures)

pub returns-in-Archive : goal.returns-in-Archive
returns-in-Archive g c = λ stored.
    same_command c.args.request.reading c.args.request.input_framing c.args.request.limit c.args.request.command Archive stored _ _ _
    c.in-Archive.is
    (ran_archive c.args.request.reading c.args.request.input_framing stored _ _ _ c.archive_input.ensures)
