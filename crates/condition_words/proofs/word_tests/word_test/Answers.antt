use Rattle.std.proofs.Common.{◌∙◌, ap}
use Rattle.condition_words.specs.Tests.{word_test}
use Rattle.condition_words.proofs.WordLemmas.{word_none}
use Rattle.condition_words.proofs.word_tests.word_test.Goals as goal

pub returns-in_default : goal.returns-in_default
returns-in_default g c =
    word_none g.row.N c.args.field c.as_bytes-octets.result.now c.in-Err.fault c.in-Err.ensures.err
    c.in_default.not-Nil c.in_default.not-Memory
    ∙ ap (word_test g.row.N c.args.field) c.as_bytes-octets.ensures.value
