use Rattle.std.proofs.Common.{rules, ◌≡◌, List, ℕ, None, take, drop, ◌∙◌}
use Rattle.journal.specs.Batches.{IsClosed}
use Rattle.store_follow.proofs.Octets.{at_none}
use Rattle.store_follow.proofs.reading.read_batch.Goals as goal

pub returns-in_default-clause-closed : goal.returns-in_default-clause-closed
returns-in_default-clause-closed g c tells sound file shown =
    let none : c.in_ok-len.field-0 ≡ None = search rules in
    at_none c.in_ok-len.field-0 ((text : List ℕ) → c.deref.result.now ≡ take 5 text → IsClosed text)
    c.in_ok-len.ensures.closed none (drop c.args.at file)
    (c.deref.ensures.value ∙ c.in_ok-head.ensures.octets tells sound file shown)
