use Rattle.std.proofs.Common.{◌≡◌, length, rules, true, false}
use Rattle.syslog_value.proofs.Octets.{octets_ranked}
use Rattle.store_reading.proofs.DayOrders.{equal_octets, greater_octets, less_octets, named_order}
use Rattle.store_reading.proofs.day.Day.is_before.Goals as goal

pub returns-in-Less : goal.returns-in-Less
returns-in-Less c =
    let a = c.as_octets-a.result.now in
    let b = c.as_octets-b.result.now in
    let size : length a ≡ length b = search rules in
    named_order true a b _ _ c.as_octets-a.ensures.name c.as_octets-b.ensures.name
    (less_octets a b size (octets_ranked a b _ c.in-Less.ensures))

pub returns-in-Equal : goal.returns-in-Equal
returns-in-Equal c =
    let a = c.as_octets-a.result.now in
    let b = c.as_octets-b.result.now in
    let size : length a ≡ length b = search rules in
    named_order false a b _ _ c.as_octets-a.ensures.name c.as_octets-b.ensures.name
    (equal_octets a b size (octets_ranked a b _ c.in-Equal.ensures))

pub returns-in-Greater : goal.returns-in-Greater
returns-in-Greater c =
    let a = c.as_octets-a.result.now in
    let b = c.as_octets-b.result.now in
    let size : length a ≡ length b = search rules in
    named_order false a b _ _ c.as_octets-a.ensures.name c.as_octets-b.ensures.name
    (greater_octets a b size (octets_ranked a b _ c.in-Greater.ensures))
