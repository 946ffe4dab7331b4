use Rattle.store_reading.proofs.listing.list_in_order.Goals as goal

pub returns-clause-names : goal.returns-clause-names
returns-clause-names g c t name =
    let order = c.in_ok-ordered.ensures name in
    let listed = c.in_ok-names.ensures.names t name in
    (λ has. listed.0 (order.0 has), λ some. order.1 (listed.1 some))
