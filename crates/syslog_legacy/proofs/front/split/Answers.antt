use Rattle.std.proofs.Common.{rules}
use Rattle.std.specs.Prelude.{option_map}
use Rattle.syslog_legacy.specs.Splits.{HostPart, TimePart}
use Rattle.syslog_legacy.proofs.Splitting.{all_there, no_tag_there}
use Rattle.syslog_legacy.proofs.front.split.Goals as goal

pub returns-in_default-tag_part : goal.returns-in_default-tag_part
returns-in_default-tag_part c =
    let clock = c.args.clock.now in
    let time : TimePart clock.dialect clock c.in-Some-time_part.instant c.in-Some.rest.now
    c.in-Some-time_part.behind_time.now = search rules in
    let host : HostPart clock.dialect (option_map (λ s. s.now) c.in-Some-host_part.hostname)
    c.in-Some-time_part.behind_time.now c.in-Some-host_part.behind_host.now = search rules in
    no_tag_there clock c.args.octets.now c.in-Some.rest.now c.in-Some-time_part.behind_time.now
    c.in-Some-host_part.behind_host.now _ c.in-Some.priority c.in-Some-time_part.instant _ _ (search rules)
    (search rules) c.in-Some.ensures time host c.in_default-tag_part.ensures

pub returns : goal.returns
returns c =
    let clock = c.args.clock.now in
    let time : TimePart clock.dialect clock c.in-Some-time_part.instant c.in-Some.rest.now
    c.in-Some-time_part.behind_time.now = search rules in
    let host : HostPart clock.dialect (option_map (λ s. s.now) c.in-Some-host_part.hostname)
    c.in-Some-time_part.behind_time.now c.in-Some-host_part.behind_host.now = search rules in
    all_there clock c.args.octets.now c.in-Some.rest.now c.in-Some-time_part.behind_time.now
    c.in-Some-host_part.behind_host.now c.in-Some-tag_part.message.now _ c.in-Some.priority
    c.in-Some-time_part.instant _ _ _ (search rules) (search rules) c.in-Some.ensures time host
    c.in-Some-tag_part.ensures
