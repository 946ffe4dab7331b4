use Rattle.std.proofs.Common.{List, ℕ, sym, subst, take}
use Rattle.site_messages.specs.Reading.{IsWhole}
use Rattle.site_messages.specs.Words.{IsShort, counted_text}
use Rattle.site_messages.proofs.PlaceLemmas.{counted_lacks, counted_long, counted_whole}
use Rattle.site_messages.proofs.place_text.read_counted.Goals as goal

pub returns-then-count : goal.returns-then-count
returns-then-count c =
    counted_long c.args.octets.now c.in_ok-count.rest.now c.in_ok-count.count c.in_ok-count.ensures c.if-count.true

pub returns-then-rest-count : goal.returns-then-rest-count
returns-then-rest-count c =
    counted_lacks c.args.octets.now c.in_ok-count.rest.now c.in_ok-count.count c.in_ok-count.ensures
    c.if-rest-count.true

pub returns : goal.returns
returns c =
    let whole = counted_whole c.args.octets.now c.in_ok-count.rest.now c.in_ok-count.count c.in_ok-count.ensures
    c.if-count.false c.if-rest-count.false in
    subst (λ (r : List ℕ). IsWhole IsShort counted_text c.args.octets.now r c.split_at.result.1.now)
    (sym c.split_at.ensures.front)
    (subst (λ (r : List ℕ). IsWhole IsShort counted_text c.args.octets.now (take c.in_ok-count.count
    c.in_ok-count.rest.now) r) (sym c.split_at.ensures.back) whole)
