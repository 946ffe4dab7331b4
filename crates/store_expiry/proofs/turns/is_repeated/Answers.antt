use Rattle.store_expiry.proofs.Turning.{not_repeated, repeated}
use Rattle.store_expiry.proofs.turns.is_repeated.Goals as goal

pub returns-clause-same : goal.returns-clause-same
returns-clause-same c on =
    repeated c.args.names.now c.args.at c.index-names-at.result c.index-names-at-2.result c.if-at-eq0.false c.requires
    c.index-names-at.is c.index-names-at-2.is (c.is_same.ensures.0 on)

pub returns-clause-other : goal.returns-clause-other
returns-clause-other c off up =
    not_repeated c.args.names.now c.args.at c.index-names-at.result c.index-names-at-2.result c.if-at-eq0.false
    c.requires c.index-names-at.is c.index-names-at-2.is
    (λ same. let yes = c.is_same.ensures.1 same in absurd (cc (off, yes))) up
