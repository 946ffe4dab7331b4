use Rattle.std.proofs.Common.{List, ℕ, subst}
use Rattle.std.proofs.lemmas.List.Filters.{dedup_is}
use Rattle.std.specs.Prelude.{eqb}
use Rattle.record_store.specs.Names.{AreNumbersOf}
use Rattle.record_store.proofs.Numbers.{are_shown}
use Rattle.record_store.proofs.listing.journals.Goals as goal

pub returns-clause-shown : goal.returns-clause-shown
returns-clause-shown g c tells sound =
    let sorted = c.sort_unstable.new.self.items in
    are_shown (g.D.Disk.state c.args.disk.now) c.in-Ok.names.items c.args.last c.in_ok-numbers.numbers.items sorted
    c.dedup.new.self.items sound (c.in-Ok.ensures.names tells)
    (subst (λ (l : List (List ℕ)). AreNumbersOf l c.args.last c.in_ok-numbers.numbers.items) c.deref.ensures.value
    c.in_ok-numbers.ensures)
    c.sort_unstable.ensures.permutation c.sort_unstable.ensures.sorted
    (dedup_is eqb sorted c.dedup.new.self.items c.dedup.ensures.filtered)
