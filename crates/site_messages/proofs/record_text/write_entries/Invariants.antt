use Rattle.std.proofs.Common.{◌≡◌, ◌++◌, take}
use Rattle.archive_text.specs.Text.{text_of}
use Rattle.site_messages.proofs.record_text.write_entries.Given as goal

abbrev pub invariant-loop-place : goal.invariant-loop-place
invariant-loop-place l = l.text.items ≡ l.fn.text.items ++ text_of (take l.place-index l.entries)
