use Rattle.std.proofs.Common.{map, refl, string_bytes}
use Rattle.driver.specs.Devices.{devices}
use Rattle.command_line.specs.Requests.{Asked, asked_by}
use Rattle.commands.specs.Runs.{RanAs, ReadsInput}
use Rattle.commands.proofs.RequestLemmas.{of_asked}
use Rattle.commands.proofs.RunLemmas.{keeps_output, request_no_help, tells_help, tells_usage, words_refused}
use Rattle.commands.proofs.running.run.Goals as goal

pub returns-in-Ok-clause-ran : goal.returns-in-Ok-clause-ran
returns-in-Ok-clause-ran g c = λ asked h.
    of_asked (λ (a : Asked). RanAs a (g.F.Files.stored c.args.files.now) (devices (g.R.Input.state c.args.input.now)
    (g.W.Output.state c.args.output.now) (g.N.Output.state c.args.diagnostics.now))
    (devices (g.R.Input.state c.run_request.new.input) (g.W.Output.state c.run_request.new.output)
    (g.N.Output.state c.run_request.new.diagnostics)) c.run_request.result) c.in-Ok.invocation.request
    (asked_by c.in-Ok.invocation.request) asked _ refl c.in-Ok.ensures.ok h c.run_request.ensures.ran

pub returns-in-Ok-clause-unread : goal.returns-in-Ok-clause-unread
returns-in-Ok-clause-unread g c = λ asked h no.
    c.run_request.ensures.unread (λ reads. no (of_asked ReadsInput c.in-Ok.invocation.request (asked_by c.in-Ok.invocation.request) asked _ refl
    c.in-Ok.ensures.ok h reads))

pub returns-in-Ok-clause-help : goal.returns-in-Ok-clause-help
returns-in-Ok-clause-help g c = λ asks. absurd (request_no_help _ _ c.in-Ok.ensures.ok asks)

pub returns-in-Err-clause-ran : goal.returns-in-Err-clause-ran
returns-in-Err-clause-ran g c = λ asked h.
    words_refused (map string_bytes c.args.args.now) c.in-Err.fault asked (g.F.Files.stored c.args.files.now)
    (devices (g.R.Input.state c.args.input.now) (g.W.Output.state c.args.output.now)
    (g.N.Output.state c.args.diagnostics.now)) _ _ _ c.in-Err.ensures.err h c.answer_words_fault.ensures.tells

pub returns-in-Err-clause-usage : goal.returns-in-Err-clause-usage
returns-in-Err-clause-usage g c = λ none unasked. (
  tells_usage (map string_bytes c.args.args.now) c.in-Err.fault _ _ _ _ _ c.in-Err.ensures.err unasked
      c.answer_words_fault.ensures.tells,
  c.answer_words_fault.ensures.kept (keeps_output (map string_bytes c.args.args.now) c.in-Err.fault c.in-Err.ensures.err unasked),
)

pub returns-in-Err-clause-help : goal.returns-in-Err-clause-help
returns-in-Err-clause-help g c = λ asks.
    tells_help (map string_bytes c.args.args.now) c.in-Err.fault _ _ _ _ _ c.in-Err.ensures.err asks
    c.answer_words_fault.ensures.tells
