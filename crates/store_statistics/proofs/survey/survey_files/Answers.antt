use Rattle.std.proofs.Common.{subst}
use Rattle.disk.specs.States.{Files}
use Rattle.store_reading.proofs.Whole.{on_ok_more}
use Rattle.store_statistics.specs.Statistics.{AreAllTold}
use Rattle.store_statistics.proofs.Surveying.{none_in_order}
use Rattle.store_statistics.proofs.survey.survey_files.Goals as goal

pub returns-in_default-2-clause-listed : goal.returns-in_default-2-clause-listed
returns-in_default-2-clause-listed g c =
    let fs = c.survey_once.new.survey.files.items in
    let ds = c.survey_once.new.survey.damaged.items in
    on_ok_more c.survey_once.result
    (λ listed t. subst (λ (f : Files). AreAllTold f fs ds)
    (c.surveys.invariant.same (c.survey_once.ensures.told t)) (listed t))
    c.survey_once.ensures.listed

pub returns-clause-order : goal.returns-clause-order
returns-clause-order g c = λ empty. none_in_order c.surveys.survey.files.items (c.surveys.invariant.empty empty).0
