use Rattle.condition_words.proofs.NameLemmas.{severity_is}
use Rattle.condition_words.proofs.word_tests.severity.Goals as goal

pub returns : goal.returns
returns c = severity_is c.args.name.now c.from_name.result c.from_name.ensures.found c.from_name.ensures.none
