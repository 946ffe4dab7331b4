use Rattle.std.proofs.Common.{subst, sym, ◌∙◌}
use Rattle.disk.specs.States.{Files}
use Rattle.store_reading.specs.Folders.{AreNamesOf, Opens}
use Rattle.std.specs.Prelude.{IsNone}
use Rattle.ledger_engine.specs.Known.{ledger_text}
use Rattle.ledger_engine.specs.Findings.{OpensLedger}
use Rattle.ledger_engine.proofs.Founding.{none_found, not_opened, opened_found}
use Rattle.ledger_engine.proofs.findings.examine_ledger.Goals as goal

pub returns-in_default-clause-found : goal.returns-in_default-clause-found
returns-in_default-clause-found g c t =
    let before = c.open_ledger.ensures.told t in
    let same = c.list.ensures.same before in
    let files = g.F.Folder.files c.args.folder.now in
    let names : AreNamesOf files c.deref.result.now =
    subst (AreNamesOf files) (sym c.deref.ensures.value) (c.in_ok-names.ensures.names before) in
    let opened = c.in_ok-file.ensures.opened t (subst (λ (f : Files). AreNamesOf f c.deref.result.now) (sym same) names) in
    let lacks = c.nothing.ensures.lacks_line ∙ c.is_some.ensures in
    none_found files c.args.against c.nothing.result
    (subst (λ (f : Files). IsNone (f ledger_text)) same
    (not_opened g.F.File.Input.state (g.F.Folder.files c.list.new.folder) c.in_ok-file.field-0 c.in_default.not-Some opened))
    (record {
      whole = c.nothing.ensures.broken;
      lacks = (λ h. sym lacks ∙ h, λ h. lacks ∙ h);
      files = c.nothing.ensures.files;
    })

pub returns-in-Ok-clause-found : goal.returns-in-Ok-clause-found
returns-in-Ok-clause-found g c t =
    let before = c.open_ledger.ensures.told t in
    let same = c.list.ensures.same before in
    let files = g.F.Folder.files c.args.folder.now in
    let names : AreNamesOf files c.deref.result.now =
    subst (AreNamesOf files) (sym c.deref.ensures.value) (c.in_ok-names.ensures.names before) in
    let opened = c.in_ok-file.ensures.opened t (subst (λ (f : Files). AreNamesOf f c.deref.result.now) (sym same) names) in
    opened_found files c.deref-2.result.now _ c.args.against c.in-Ok.findings
    (subst (AreNamesOf files) (sym c.deref-2.ensures.value) (c.in_ok-names.ensures.names before))
    (subst (λ (f : Files). Opens f ledger_text (g.F.File.Input.state c.in-Some.file)) same
    (subst (OpensLedger g.F.File.Input.state (g.F.Folder.files c.list.new.folder)) c.in-Some.is opened)) c.in-Ok.ensures
