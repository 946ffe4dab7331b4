use Rattle.condition_words.proofs.NameLemmas.{facility_is}
use Rattle.condition_words.proofs.word_tests.facility.Goals as goal

pub returns : goal.returns
returns c = facility_is c.args.name.now c.from_name.result c.from_name.ensures.found c.from_name.ensures.none
