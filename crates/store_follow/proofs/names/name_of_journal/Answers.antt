use Rattle.std.proofs.Common.{◌≡◌, ◌<◌, ◌^◌, rules, sym, subst, arith}
use Rattle.std.specs.Prelude.{IsNone}
use Rattle.disk.specs.Names.{IsFileName}
use Rattle.record_store.specs.Names.{journal_name}
use Rattle.record_store.proofs.Naming.{journal_is_name}
use Rattle.store_follow.proofs.names.name_of_journal.Goals as goal

pub unreachable-requires : goal.unreachable-requires
unreachable-requires c =
    let is : c.deref.result.now ≡ journal_name c.args.number = search rules in
    let small : c.args.number < 2 ^ 64 = omega (arith, c.ranges.number.fits) in
    let none : IsNone c.in_ok-name.field-0 = search rules in
    c.in_ok-name.ensures.none.0 none (subst IsFileName (sym is) (journal_is_name c.args.number small))
