use Rattle.archive_text.specs.EntryViews.{entry_of}
use Rattle.archive_proof.specs.Asking.{asked_entry}
use Rattle.archive_proof.proofs.Makings.{placed_more}
use Rattle.archive_proof.proofs.search.Search.look.Goals as goal

pub returns-in_default : goal.returns-in_default
returns-in_default c =
    λ t xs taken counted h.
    placed_more c.args.self.now.place (asked_entry c.args.sought.now) (entry_of c.args.entry.now) t c.args.self.now
    c.args.before.now c.args.behind.now xs xs c.in_default.not-Ahead h
