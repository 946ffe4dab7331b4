use Rattle.std.proofs.Common.{◌≡◌, ap, ◌∙◌, rules}
use Rattle.syslog_value.proofs.Octets.{octets_ranked}
use Rattle.archive_text.specs.EntryViews.{entry_of}
use Rattle.archive_pages.specs.Spans.{blocks_of, entry_at, instant_at}
use Rattle.archive_pages.proofs.Searching.{order_of_octets}
use Rattle.archive_pages.proofs.comparing.compare_span.Goals as goal

pub returns-in-Equal : goal.returns-in-Equal
returns-in-Equal c =
    let same : c.args.span.rank ≡ c.rank_of.result = search rules in
    order_of_octets (entry_at (blocks_of c.args.arena.now) c.args.span) (entry_of c.args.entry.now)
    c.cmp-in-Equal.result c.octets.result.now
    (ap instant_at same ∙ c.rank_of.ensures) c.octets.ensures
    (octets_ranked c.octets.result.now c.args.entry.now.octets.now c.cmp-in-Equal.result c.cmp-in-Equal.ensures)
