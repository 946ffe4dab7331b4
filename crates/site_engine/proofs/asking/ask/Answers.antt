use Rattle.std.proofs.Common.{subst}
use Rattle.archive_join.specs.Ranges.{IsOfRange}
use Rattle.store_site.specs.Ranges.{IsInSome}
use Rattle.site_engine.proofs.Growth.{grows_wider}
use Rattle.site_engine.proofs.asking.ask.Goals as goal

pub returns-in-Err : goal.returns-in-Err
returns-in-Err g c =
    grows_wider (IsInSome c.as_slice.result.now) (IsOfRange c.args.exchange.now.range) _ _ c.reconcile_ranges.ensures
    (λ x e m. (c.in_ok-ranges.ensures.places x e).0 (subst (λ l. IsInSome l x) c.as_slice.ensures.value m))

pub returns-in_err-finish : goal.returns-in_err-finish
returns-in_err-finish g c =
    grows_wider (IsInSome c.as_slice.result.now) (IsOfRange c.args.exchange.now.range) _ _ c.reconcile_ranges.ensures
    (λ x e m. (c.in_ok-ranges.ensures.places x e).0 (subst (λ l. IsInSome l x) c.as_slice.ensures.value m))

pub returns : goal.returns
returns g c =
    grows_wider (IsInSome c.as_slice.result.now) (IsOfRange c.args.exchange.now.range) _ _ c.reconcile_ranges.ensures
    (λ x e m. (c.in_ok-ranges.ensures.places x e).0 (subst (λ l. IsInSome l x) c.as_slice.ensures.value m))
