use Rattle.archive_counts.proofs.Members.{Members}
use Rattle.archive_counts.proofs.json_lines.put_members.Given as goal

abbrev pub invariant-keys : goal.invariant-keys
invariant-keys l = Members l.keys l.words l.key-index l.rest l.fn.out.items l.out.items
