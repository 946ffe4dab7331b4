use Rattle.std.proofs.Common.{ℕ, ◌-◌, List, length, ap}
use Rattle.syslog_reading.specs.ViewParts.{octets_of, view_parts}
use Rattle.c_library.proofs.Laying.{ends_at, ends_whole, message_lies}
use Rattle.c_library.proofs.parts.message_span.Goals as goal

pub returns : goal.returns
returns c =
    let b = c.args.octets.now in
    let s = view_parts c.args.view.now in
    let m = message_lies b s c.requires in
    let at : ℕ = length b - length c.message-len.result.now in
    record {
      lies = ends_whole b (octets_of s.message) at
          (ends_at b m.0 (octets_of s.message) at m.1
          (ap (λ (u : List ℕ). length b - length u) c.message-len.ensures));
      len_is = ap length c.message-len.ensures;
    }
