use Rattle.std.proofs.Common.{ap, drop, ◌∙◌}
use Rattle.archive_counts.proofs.Members.{split_is}
use Rattle.archive_counts.proofs.json_lines.split_word.Goals as goal

pub returns : goal.returns
returns c = λ word words free is.
    split_is c.behind_first-behind.result.now word words c.memchr.result c.unwrap_or-len.result _ _
    (c.behind_first-behind.ensures ∙ ap (drop 1) is) free c.memchr.ensures c.unwrap_or-len.ensures
    c.split_at.ensures.front c.split_at.ensures.back
