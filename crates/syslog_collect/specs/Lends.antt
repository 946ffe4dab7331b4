-- What a collector ends as where a `&mut` to its store is returned.
use Rattle.std.specs.Borrow.{Lends, Fml, MutBor, RattleType}
use Rattle.syslog_collect.specs.contracts.collector.Collector.{the_row}
use Rattle.syslog_collect.specs.declared.collector.Collector.{Collector}
use Rattle.syslog_collect.specs.Collectors.{with_store}

module _ (S : RattleType) (c : MutBor (Collector S.Denot)) where
  -- once the borrow r ends, the collector has the store last written through r
  abbrev pub lends_store : MutBor S.Denot → Fml
  lends_store r = Lends (the_row S) S c r (with_store c.now)
