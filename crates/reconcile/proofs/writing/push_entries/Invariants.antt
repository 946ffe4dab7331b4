use Rattle.std.proofs.Common.{◌≡◌, ◌++◌, take}
use Rattle.archive_text.specs.Text.{text_of}
use Rattle.reconcile.proofs.writing.push_entries.Given as goal

abbrev pub invariant-writing : goal.invariant-writing
invariant-writing l = l.text.items ≡ l.fn.text.items ++ text_of (take l.entry-index l.entries)
