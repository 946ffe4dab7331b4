use Rattle.std.proofs.lemmas.Result.{MatchResult-weaker}
use Rattle.c_library.proofs.Reading.{minus_from}
use Rattle.c_library.proofs.sets.minus_text.Goals as goal

pub returns : goal.returns
returns c =
    MatchResult-weaker c.joined_text.result c.joined_text.ensures
    (λ v kept. minus_from c.args.left.now c.args.right.now v.items kept) (λ told why. why)
