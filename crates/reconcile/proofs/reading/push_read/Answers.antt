use Rattle.std.proofs.Common.{◌≡◌, ◌∙◌, ◌++◌, ◌∷◌, [], ap, inl, refl, subst, sym}
use Rattle.std.specs.List.{AllByRecursion}
use Rattle.std.proofs.lemmas.Bool.{false≢true}
use Rattle.archive_text.specs.Entries.{Entry, IsAscending, IsBelow}
use Rattle.archive_text.specs.EntryViews.{entry_of}
use Rattle.archive_text.specs.Text.{IsArchive}
use Rattle.archive_text.specs.declared.limits.TheConstants.{ENTRY_MAX}
use Rattle.archive_text.proofs.Ascending.{archive_appended}
use Rattle.reconcile.proofs.Texts.{none_above, none_read}
use Rattle.reconcile.proofs.reading.push_read.Goals as goal

pub returns-in_default-clause-cause : goal.returns-in_default-clause-cause
returns-in_default-clause-cause c =
    inl (
      refl,
      λ some. none_read c.args.places.now.items c.args.text.now c.in_default.field-0 c.requires
          c.in_default.ensures some,
    )

pub returns-then-not-is_above-clause-cause : goal.returns-then-not-is_above-clause-cause
returns-then-not-is_above-clause-cause c =
    let es = c.args.places.now.items in
    let e = entry_of c.in-Ok.entry in
    let same = c.as_slice.ensures.value in
    let above = c.if-not-is_above.ensures (subst IsAscending (sym same) c.requires.ascending) in
    inl (
      refl,
      λ some. none_above es e c.args.text.now c.in-Ok.rest.now c.requires c.in-Ok.ensures
          (λ all. false≢true (above.1 (subst (AllByRecursion (λ x. IsBelow x e)) (sym same) all))) some,
    )

pub returns-clause-archive : goal.returns-clause-archive
returns-clause-archive c =
    let es = c.args.places.now.items in
    let e = entry_of c.in-Ok.entry in
    let items : c.push.new.self.items ≡ es ++ e ∷ [] = c.in_ok-push.ensures.items
    ∙ ap (λ (y : Entry). es ++ y ∷ []) c.in_ok-place.ensures in
    let below = subst (AllByRecursion (λ x. IsBelow x e)) c.as_slice.ensures.value
    ((c.if-not-is_above.ensures (subst IsAscending (sym c.as_slice.ensures.value) c.requires.ascending)).0 refl) in
    subst (IsArchive ENTRY_MAX) (sym items)
    (archive_appended ENTRY_MAX es e c.requires c.in-Ok.ensures.entry c.in-Ok.ensures.fits below)

pub returns-clause-ok : goal.returns-clause-ok
returns-clause-ok c =
    let es = c.args.places.now.items in (
      entry_of c.in-Ok.entry,
      c.in-Ok.ensures.parts,
      c.in_ok-push.ensures.items ∙ ap (λ (y : Entry). es ++ y ∷ []) c.in_ok-place.ensures,
    )
