use Rattle.std.proofs.Common.{subst}
use Rattle.std.specs.Prelude.{Contains}
use Rattle.disk.specs.States.{Files}
use Rattle.store_reading.proofs.Causing.{result_weaker}
use Rattle.store_reading.proofs.Whole.{on_ok_more}
use Rattle.store_upkeep.specs.Causes.{IsCountedFile, IsListedFile, check_causes}
use Rattle.store_statistics.specs.Statistics.{AreToldOf}
use Rattle.store_statistics.proofs.Surveying.{all_listed, none_in_order, settled_names}
use Rattle.store_statistics.proofs.survey.survey_once.Goals as goal

pub returns-in_err-names-clause-order : goal.returns-in_err-names-clause-order
returns-in_err-names-clause-order g c empty = none_in_order c.args.survey.now.files.items empty.0

pub returns-clause-listed : goal.returns-clause-listed
returns-clause-listed g c =
    let files = g.F.Folder.files c.args.folder.now in
    let names = c.deref.result.now in
    let fs = c.add_files.new.survey.files.items in
    let ds = c.add_files.new.survey.damaged.items in
    on_ok_more c.add_files.result
    (λ listed t. let before = c.add_files.ensures.told t in
    all_listed files names fs ds
    (settled_names files c.in_ok-names.names.items c.settle.new.names.items names (c.in_ok-names.ensures.names before)
    c.settle.ensures.same c.deref.ensures.value)
    (subst (λ (f : Files). AreToldOf f (Contains names) fs ds) (c.in_ok-names.ensures.same before) (listed t)))
    c.add_files.ensures.listed

pub returns-clause-cause : goal.returns-clause-cause
returns-clause-cause g c =
    let tells = g.F.Folder.tells c.add_files.new.folder in
    let failed = g.F.Folder.has_failed c.add_files.new.folder in
    let files = g.F.Folder.files c.args.folder.now in
    let names = c.deref.result.now in
    result_weaker (check_causes failed (IsListedFile names)) (check_causes failed (IsCountedFile tells files))
    (λ same. same)
    (λ n is. record {
      counts = is.1;
      there = λ t. (settled_names files c.in_ok-names.names.items c.settle.new.names.items names
          (c.in_ok-names.ensures.names (c.add_files.ensures.told t)) c.settle.ensures.same c.deref.ensures.value n).0 is.0;
    }) (λ n damage none. none) (λ none. none) c.add_files.result c.add_files.ensures.cause
