use Rattle.std.proofs.Common.{◌∙◌, ap}
use Rattle.std.specs.List.{flat_map}
use Rattle.std.specs.Option.{option_map}
use Rattle.archive_proof.specs.Asking.{asked_entries}
use Rattle.proof_engine.specs.Confirmed.{answer_line, shown_status}
use Rattle.proof_engine.proofs.Sayings.{left_within}
use Rattle.proof_engine.proofs.confirm.say.Goals as goal

pub trailing_of-requires : goal.trailing_of-requires
trailing_of-requires c =
    left_within c.args.head.now (asked_entries c.args.asked.now) c.args.text.now c.in_ok-answers.answers.items _
    c.in_ok-answers.ensures

pub returns : goal.returns
returns c = record {
  answers = c.in_ok-answers.answers.items;
  left = option_map (λ s. s.now) c.in_ok-answers.left;
  answered = c.in_ok-answers.ensures;
  trailing = c.trailing_of.ensures;
  of_answers = record {
    lines = c.in_ok-lines.ensures ∙ ap (flat_map answer_line) c.as_slice.ensures.value;
    status = c.status_of.ensures ∙ ap shown_status c.as_slice-2.ensures.value;
  };
}
