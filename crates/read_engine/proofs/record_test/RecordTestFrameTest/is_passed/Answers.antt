use Rattle.std.proofs.Common.{◌≡◌, false, subst, sym, true, ◌∙◌}
use Rattle.archive_text.proofs.Texts.{same_octets}
use Rattle.archive_text.specs.EntryViews.{entry_of}
use Rattle.archive_sets.specs.Together.{MeetsAll}
use Rattle.read_engine.proofs.Tests.{no_entry}
use Rattle.read_engine.proofs.record_test.RecordTestFrameTest.is_passed.Goals as goal

pub returns-in-Ok : goal.returns-in-Ok
returns-in-Ok c = (
  λ held. (entry_of c.in-Ok.entry, c.in-Ok.ensures.entry.0, c.in-Ok.ensures.entry.1, c.holds.ensures.0 held),
  λ (e, is_entry, same, meets). c.holds.ensures.1 (subst (λ x. MeetsAll c.args.self.now.conditions.now x)
      (same_octets e (entry_of c.in-Ok.entry) is_entry c.in-Ok.ensures.entry.0 (same ∙ sym c.in-Ok.ensures.entry.1)) meets),
)

pub returns-in-Err : goal.returns-in-Err
returns-in-Err c = (
  λ none. absurd (let no : false ≡ true = none in cc),
  λ (e, is_entry, same, meets). absurd (no_entry _ _ e c.in-Err.ensures.fault is_entry same),
)
