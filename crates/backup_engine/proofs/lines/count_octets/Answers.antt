use Rattle.std.proofs.Common.{◌≡◌, ◌∷◌, ◌++◌, [], List, ap, subst, sym, take, ◌∙◌}
use Rattle.std.proofs.lemmas.List.{take_all, take_more}
use Rattle.store_backup.specs.declared.outcome.CopiedFile.{CopiedFile}
use Rattle.backup_engine.specs.Lines.{octets_of}
use Rattle.backup_engine.proofs.Sums.{octets_push}
use Rattle.backup_engine.proofs.lines.count_octets.Goals as goal

pub files-preserved : goal.files-preserved
files-preserved c =
    let first = take c.files.file-index c.args.copied.now in
    let more = take_more c.args.copied.now c.files.file-index c.file-item.result c.files-test.true
    ∙ ap (λ (f : CopiedFile). first ++ f ∷ []) (sym c.file-item.is) in
    subst (λ (l : List CopiedFile). c.saturating_add-octets.result ≡ octets_of l) (sym more)
    (octets_push first c.file-item.result c.files.octets c.saturating_add-octets.result c.files.invariant
    c.saturating_add-octets.ensures)

pub returns : goal.returns
returns c =
    subst (λ (l : List CopiedFile). c.files.octets ≡ octets_of l)
    (take_all c.files.file-index c.args.copied.now c.files-test.false) c.files.invariant
