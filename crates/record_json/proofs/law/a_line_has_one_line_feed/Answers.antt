use Rattle.record_json.proofs.NoLineFeeds.{one_line}
use Rattle.record_json.proofs.law.a_line_has_one_line_feed.Goals as goal

pub returns : goal.returns
returns c = one_line
