-- What a page tells of each listener.
use Rattle.std.specs.Prelude.{ℕ, List, ◌++◌, codes, string_bytes}
use Rattle.std.specs.List.{flat_map}
use Rattle.server_metrics.specs.Families.{head_text}
use Rattle.server_metrics.specs.Texts.{label_text, number_line}
use Rattle.server_metrics.specs.declared.counts.ListenerCounts.{ListenerCounts}
use Rattle.server_metrics.specs.declared.counts.ListenerRow.{ListenerRow}
use Rattle.server_metrics.specs.declared.family.Kind.TheVariants.{Counter}
use Rattle.server_metrics.specs.declared.listeners.Family.{Family}
use Rattle.server_metrics.specs.declared.listeners.Family.TheVariants.{Records, Octets, Refused, NotAllowed, Dropped}

abbrev pub family_name : Family → List ℕ
family_name Records = codes "syslogbox_received_records_total"
family_name Octets = codes "syslogbox_received_octets_total"
family_name Refused = codes "syslogbox_refused_frames_total"
family_name NotAllowed = codes "syslogbox_not_allowed_total"
family_name Dropped = codes "syslogbox_dropped_datagrams_total"

abbrev pub family_help : Family → List ℕ
family_help Records = codes "Records that came."
family_help Octets = codes "Octets that came."
family_help Refused = codes "Frames that were refused, by what is wrong with them."
family_help NotAllowed = codes "Datagrams and connections of peers that may not send."
family_help Dropped = codes "Datagrams that were dropped, above the rates of their peers."

-- a sample of a listener
unfoldable pub listener_sample : List ℕ → List ℕ → ℕ → List ℕ
listener_sample name listener value =
    name ++ (codes "{" ++ (label_text (codes "listener") listener ++ (codes "}" ++ number_line value)))

-- how many of a listener's frames had a fault
unfoldable pub fault_sample : List ℕ → List ℕ → ℕ → List ℕ
fault_sample listener fault value =
    family_name Refused ++ (codes "{" ++ (label_text (codes "listener") listener ++ (codes ","
    ++ (label_text (codes "fault") fault ++ (codes "}" ++ number_line value)))))

-- they are no records, they are too long, or their connections broke
abbrev pub faults_text : List ℕ → ListenerCounts → List ℕ
faults_text listener c = fault_sample listener (codes "record") c.not_records
    ++ (fault_sample listener (codes "too-long") c.too_long ++ fault_sample listener (codes "broken") c.broken)

-- the samples that a family has of a listener
abbrev pub row_text : Family → ListenerRow → List ℕ
row_text Records row = listener_sample (family_name Records) (string_bytes row.name) row.counts.records
row_text Octets row = listener_sample (family_name Octets) (string_bytes row.name) row.counts.octets
row_text Refused row = faults_text (string_bytes row.name) row.counts
row_text NotAllowed row = listener_sample (family_name NotAllowed) (string_bytes row.name) row.counts.not_allowed
row_text Dropped row = listener_sample (family_name Dropped) (string_bytes row.name) row.counts.dropped

-- a family, with the samples of each listener
unfoldable pub family_text : Family → List ListenerRow → List ℕ
family_text family rows = head_text (family_name family) (family_help family) Counter ++ flat_map (row_text family) rows

unfoldable pub listeners_text : List ListenerRow → List ℕ
listeners_text rows = family_text Records rows ++ (family_text Octets rows ++ (family_text Refused rows
    ++ (family_text NotAllowed rows ++ family_text Dropped rows)))
