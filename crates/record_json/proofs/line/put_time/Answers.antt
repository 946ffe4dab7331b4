use Rattle.record_json.proofs.KeptTexts.{time_kept}
use Rattle.record_json.proofs.line.put_time.Goals as goal

pub put_kept-requires : goal.put_kept-requires
put_kept-requires c = time_kept c.in-Some.instant c.canonical_timestamp.result c.canonical_timestamp.ensures
