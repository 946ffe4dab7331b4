use Rattle.std.proofs.Common.{◌-◌, ◌/◌, arith, bit_and, length}
use Rattle.octet_patterns.proofs.Finding.{both_set, first_there, octet_there, some_set}
use Rattle.octet_patterns.proofs.occurrence.may_stand.Goals as goal

pub returns : goal.returns
returns c = λ i less h.
    let octets = c.args.octets.now in
    let text = c.args.text.now in
    let middle = length octets / 2 in
    let last = length octets - 1 in
    let firsts = c.places_of-firsts.result in
    let middles = c.places_of-middles.result in
    let lasts = c.places_of-lasts.result in
    some_set (bit_and (bit_and firsts middles) lasts) i
    (both_set (bit_and firsts middles) lasts i
    (both_set firsts middles i
    (c.places_of-firsts.ensures i less (first_there octets text c.args.from i c.requires.some h))
    (c.places_of-middles.ensures i less
    (octet_there octets text c.args.from i middle (omega (arith, c.requires.some)) h)))
    (c.places_of-lasts.ensures i less
    (octet_there octets text c.args.from i last (omega (arith, c.requires.some)) h)))
