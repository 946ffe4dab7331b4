-- The page of metrics.
use Rattle.std.specs.Prelude.{ℕ, Bool, List, ◌++◌, codes, if◌then◌else◌, slice_index}
use Rattle.server_metrics.specs.Families.{head_text, single_text}
use Rattle.server_metrics.specs.Listeners.{listeners_text}
use Rattle.server_metrics.specs.Texts.{label_text, number_line, seconds_text}
use Rattle.server_metrics.specs.declared.commit_times.CommitTimes.{CommitTimes}
use Rattle.server_metrics.specs.declared.counts.ListenerRow.{ListenerRow}
use Rattle.server_metrics.specs.declared.counts.Totals.{Totals}
use Rattle.server_metrics.specs.declared.family.Kind.TheVariants.{Counter, Gauge, Histogram}

-- what was counted of the whole server
unfoldable pub counters_text : Totals → List ℕ
counters_text t =
    single_text (codes "syslogbox_new_records_total") (codes "Records that were not held before.") Counter t.new_records
    ++ (single_text (codes "syslogbox_held_records_total") (codes "Records that were held before.") Counter t.held_records
    ++ (single_text (codes "syslogbox_batches_total") (codes "Commits of a record or more.") Counter t.batches
    ++ (single_text (codes "syslogbox_notes_dropped_total") (codes "Lines of notes that could not be written.") Counter
    t.notes_dropped
    ++ single_text (codes "syslogbox_notes_quiet_total") (codes "Lines of notes that their pace left out.") Counter t.notes_quiet)))

-- 1 where it is so, and else 0
abbrev pub flag_number : Bool → ℕ
flag_number holds = if holds then 1 else 0

-- how much there is of something now
unfoldable pub sizes_text : Totals → List ℕ
sizes_text t =
    single_text (codes "syslogbox_connections") (codes "Connections that are open.") Gauge t.connections
    ++ (single_text (codes "syslogbox_journal_octets") (codes "Octets of the journal.") Gauge t.journal_octets
    ++ single_text (codes "syslogbox_disk_full") (codes "1 while the disk is full, and else 0.") Gauge (flag_number t.disk_full))

-- when something was
unfoldable pub moments_text : Totals → List ℕ
moments_text t =
    single_text (codes "syslogbox_last_commit_timestamp_seconds")
    (codes "When the last commit was made, in Unix seconds, and 0 before the first.") Gauge t.last_commit
    ++ single_text (codes "syslogbox_start_timestamp_seconds") (codes "When the server began, in Unix seconds.") Gauge t.start

-- how many commits took at most so many seconds
unfoldable pub bucket_sample : List ℕ → ℕ → List ℕ
bucket_sample seconds count =
    codes "syslogbox_commit_seconds_bucket{" ++ (label_text (codes "le") seconds ++ (codes "}" ++ number_line count))

-- of each bound, in the order of `bounds`: up to a tenth of a second, and beyond it; and of all commits
unfoldable pub short_buckets_text : CommitTimes → List ℕ
short_buckets_text t =
    bucket_sample (codes "0.001") (slice_index t.within 0)
    ++ (bucket_sample (codes "0.0025") (slice_index t.within 1)
    ++ (bucket_sample (codes "0.005") (slice_index t.within 2)
    ++ (bucket_sample (codes "0.01") (slice_index t.within 3)
    ++ (bucket_sample (codes "0.025") (slice_index t.within 4)
    ++ (bucket_sample (codes "0.05") (slice_index t.within 5)
    ++ bucket_sample (codes "0.1") (slice_index t.within 6))))))

unfoldable pub long_buckets_text : CommitTimes → List ℕ
long_buckets_text t =
    bucket_sample (codes "0.25") (slice_index t.within 7)
    ++ (bucket_sample (codes "0.5") (slice_index t.within 8)
    ++ (bucket_sample (codes "1") (slice_index t.within 9)
    ++ (bucket_sample (codes "2.5") (slice_index t.within 10)
    ++ (bucket_sample (codes "5") (slice_index t.within 11)
    ++ (bucket_sample (codes "10") (slice_index t.within 12)
    ++ bucket_sample (codes "+Inf") t.count)))))

-- how long all of them took, and how many there were
unfoldable pub sum_sample : ℕ → List ℕ
sum_sample micros = codes "syslogbox_commit_seconds_sum " ++ (seconds_text micros ++ codes "\n")

unfoldable pub count_sample : ℕ → List ℕ
count_sample count = codes "syslogbox_commit_seconds_count" ++ number_line count

-- how long commits took
unfoldable pub histogram_text : CommitTimes → List ℕ
histogram_text t =
    head_text (codes "syslogbox_commit_seconds") (codes "How long commits took.") Histogram
    ++ (short_buckets_text t ++ (long_buckets_text t ++ (sum_sample t.sum ++ count_sample t.count)))

-- the version of the program
unfoldable pub build_text : List ℕ → List ℕ
build_text version =
    head_text (codes "syslogbox_build_info") (codes "The version of the program.") Gauge
    ++ (codes "syslogbox_build_info{" ++ (label_text (codes "version") version ++ (codes "}" ++ number_line 1)))

-- the whole page
abbrev pub page_text : List ℕ → List ListenerRow → Totals → CommitTimes → List ℕ
page_text version rows totals commits = listeners_text rows ++ (counters_text totals ++ (sizes_text totals ++ (moments_text totals
    ++ (histogram_text commits ++ build_text version))))
