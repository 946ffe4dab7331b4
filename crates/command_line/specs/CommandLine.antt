-- The command line: the subcommands, their options and positionals.
use Rattle.std.specs.Prelude.{[], ◌∷◌, Some, true, codes}
use Rattle.clap.specs.Walk.{Rule, Text}
use Rattle.clap.specs.declared.builder.action.ArgAction.TheVariants.{Append, SetTrue}
use Rattle.clap.specs.Simple.{App, new_app, new_rule, on_top, with_rule, with_subcommand}

-- a command that has a version to tell
abbrev pub command_app : Text → App
command_app name = on_top (λ s. record s { has_version = true }) (new_app name)

-- an option that takes a value
abbrev pub option_rule : Text → Rule
option_rule id = record (new_rule id) { long = Some id }

-- an option with a default value
abbrev pub default_rule : Text → Text → Rule
default_rule id value = record (option_rule id) { defaults = value ∷ [] }

-- an option that takes no value
abbrev pub flag_rule : Text → Rule
flag_rule id = record (option_rule id) { action = Some SetTrue }

-- an option that may be given any number of times
abbrev pub list_rule : Text → Rule
list_rule id = record (option_rule id) { action = Some Append }

-- a value that has to be given, by its place
abbrev pub required_rule : Text → Rule
required_rule id = record (new_rule id) { required = true }

-- values that have to be given, by their places: one at least, and 512 at most
abbrev pub several_rule : Text → Rule
several_rule id = record (required_rule id) {
  range = Some (record { start_inclusive = 1; end_inclusive = 512 });
}

-- the options of a command that may read legacy packets
abbrev pub with_legacy_rules : App → App
with_legacy_rules a =
    with_rule (with_rule (with_rule a (option_rule (codes "legacy"))) (default_rule (codes "zone") (codes "E0000")))
    (default_rule (codes "dialect") (codes "bsd"))

-- the options that say how frames are read
abbrev pub with_reading_rules : App → App
with_reading_rules a = with_legacy_rules (with_rule a (flag_rule (codes "trim")))

-- a command that reads records
abbrev pub input_app : Text → App
input_app name = with_reading_rules (with_rule (command_app name) (default_rule (codes "framing") (codes "datagram")))

-- a command on the frames of an input that may have any length
abbrev pub endless_app : Text → App
endless_app name = with_rule (input_app name) (flag_rule (codes "endless"))

-- the option that says when records are colored
abbrev pub with_color_rule : App → App
with_color_rule a = with_rule a (default_rule (codes "color") (codes "auto"))

-- the option of commands that may take long
abbrev pub with_quiet_rule : App → App
with_quiet_rule a = with_rule a (flag_rule (codes "quiet"))

-- the command that writes the fields of records
abbrev pub show_app : App
show_app = with_color_rule (with_rule (endless_app (codes "show")) (flag_rule (codes "json")))

-- the command that tells of each frame whether it is a record
abbrev pub check_app : App
check_app = with_rule (endless_app (codes "check")) (flag_rule (codes "summary"))

-- the command that reads records and writes them in canonical form
abbrev pub convert_app : App
convert_app = with_rule (endless_app (codes "convert")) (option_rule (codes "to"))

-- the command that writes records as an archive
abbrev pub archive_app : App
archive_app =
    with_quiet_rule (with_rule (with_rule (input_app (codes "archive")) (option_rule (codes "spill")))
    (default_rule (codes "memory") (codes "256")))

-- a command that reads the archives of two files
abbrev pub two_files_app : Text → App
two_files_app name =
    with_quiet_rule (with_rule (with_rule (command_app name) (required_rule (codes "LEFT"))) (required_rule (codes "RIGHT")))

-- the command that brings the old archive of a file into the present form
abbrev pub migrate_app : App
migrate_app = with_quiet_rule (with_rule (command_app (codes "migrate")) (required_rule (codes "FILE")))

-- the command that joins archives
abbrev pub union_app : App
union_app = with_quiet_rule (with_rule (command_app (codes "union")) (several_rule (codes "FILE")))

-- the options for a range of time
abbrev pub with_range_rules : App → App
with_range_rules a = with_rule (with_rule a (option_rule (codes "from"))) (option_rule (codes "to"))

-- the options for the times of records
abbrev pub with_time_rules : App → App
with_time_rules a =
    with_rule (with_rule (with_range_rules a) (flag_rule (codes "undated"))) (flag_rule (codes "only-undated"))

-- the command that sums up an archive, period by period
abbrev pub digest_app : App
digest_app =
    with_quiet_rule (with_rule (with_rule (command_app (codes "digest")) (default_rule (codes "by") (codes "day")))
    (flag_rule (codes "root")))

-- the command that counts the records of an archive
abbrev pub count_app : App
count_app =
    with_quiet_rule (with_rule (with_rule (with_rule (with_rule (command_app (codes "count")) (option_rule (codes "by")))
    (option_rule (codes "top"))) (flag_rule (codes "json"))) (flag_rule (codes "bars")))

-- the command that writes the head of an archive's tree
abbrev pub root_app : App
root_app = with_quiet_rule (command_app (codes "root"))

-- the command that proves what an archive has
abbrev pub prove_app : App
prove_app = with_quiet_rule (with_rule (command_app (codes "prove")) (required_rule (codes "RECORDS")))

-- the command that says what proofs show
abbrev pub confirm_app : App
confirm_app =
    with_rule (with_rule (with_rule (command_app (codes "confirm")) (required_rule (codes "COUNT")))
    (required_rule (codes "ROOT"))) (required_rule (codes "RECORDS"))

-- the options of `send` that have a default value
abbrev pub with_send_defaults : App → App
with_send_defaults a =
    with_rule (with_rule (with_rule (with_rule a (default_rule (codes "facility") (codes "user")))
    (default_rule (codes "severity") (codes "notice"))) (default_rule (codes "up-to") (codes "debug")))
    (default_rule (codes "framing") (codes "lf"))

-- the options for the words of the header
abbrev pub with_word_rules : App → App
with_word_rules a =
    with_rule (with_rule (with_rule (with_rule a (option_rule (codes "host"))) (option_rule (codes "app")))
    (option_rule (codes "proc"))) (option_rule (codes "msgid"))

-- the command that sends one record
abbrev pub send_app : App
send_app =
    with_rule (with_rule (with_word_rules (with_send_defaults (command_app (codes "send")))) (option_rule (codes "micros")))
    (required_rule (codes "TEXT"))

-- the options of `select` on the priority: one severity, and any number of facilities
abbrev pub with_priority_rules : App → App
with_priority_rules a =
    with_rule (with_rule a (option_rule (codes "severity"))) (list_rule (codes "facility"))

-- its options on the words of the header
abbrev pub with_header_rules : App → App
with_header_rules a =
    with_rule (with_rule (with_rule (with_rule a (list_rule (codes "host"))) (list_rule (codes "app")))
    (list_rule (codes "proc"))) (list_rule (codes "msgid"))

-- its options on elements and the message
abbrev pub with_body_rules : App → App
with_body_rules a = with_rule (with_rule a (list_rule (codes "id"))) (list_rule (codes "message"))

-- its options that take patterns
abbrev pub with_pattern_rules : App → App
with_pattern_rules a = with_rule (with_rule a (list_rule (codes "host-like"))) (list_rule (codes "app-like"))

-- its options for what records may not have
abbrev pub with_not_rules : App → App
with_not_rules a =
    with_rule (with_rule (with_rule a (list_rule (codes "not-host"))) (list_rule (codes "not-app")))
    (list_rule (codes "not-message"))

-- all options for what records have to be like
abbrev pub with_condition_rules : App → App
with_condition_rules a =
    with_not_rules (with_pattern_rules (with_body_rules (with_header_rules (with_priority_rules (with_time_rules a)))))

-- the command that chooses records of an archive
abbrev pub select_app : App
select_app = with_quiet_rule (with_condition_rules (command_app (codes "select")))

-- a command on the store in a folder
abbrev pub folder_app : Text → App
folder_app name = with_rule (command_app name) (required_rule (codes "DIR"))

-- a command on a store that may take long
abbrev pub long_app : Text → App
long_app name = with_quiet_rule (folder_app name)

-- the command that writes the records of a store
abbrev pub read_app : App
read_app =
    with_rule (with_color_rule (with_rule (with_rule (with_condition_rules (folder_app (codes "read")))
    (option_rule (codes "last"))) (default_rule (codes "as") (codes "archive")))) (flag_rule (codes "partial"))

-- the command that writes the records of a store as they come
abbrev pub follow_app : App
follow_app =
    with_rule (with_rule (with_condition_rules (folder_app (codes "follow"))) (flag_rule (codes "from-start")))
    (flag_rule (codes "until-eof"))

-- the command that receives records from sockets
abbrev pub collect_app : App
collect_app =
    with_reading_rules (with_rule (with_rule (with_rule (command_app (codes "collect"))
    (required_rule (codes "TRANSPORT"))) (required_rule (codes "PORT"))) (required_rule (codes "COUNT")))

-- the options that name addresses
abbrev pub with_address_rules : App → App
with_address_rules a =
    with_rule (with_rule (with_rule a (list_rule (codes "udp"))) (list_rule (codes "counted")))
    (list_rule (codes "lf"))

-- the options that name sockets
abbrev pub with_socket_rules : App → App
with_socket_rules a =
    with_rule (with_rule (with_address_rules a) (list_rule (codes "unix"))) (list_rule (codes "inherited"))

-- the options of `serve` on who may send, and on connections
abbrev pub with_connection_rules : App → App
with_connection_rules a =
    with_rule (with_rule (with_rule (with_rule a (list_rule (codes "allow"))) (default_rule (codes "connections") (codes "1024")))
    (option_rule (codes "per-peer"))) (option_rule (codes "idle"))

-- the options of `serve` on commits and checkpoints, on who watches, and on how fast a peer may send
abbrev pub with_limit_rules : App → App
with_limit_rules a =
    with_rule (with_rule (with_rule (with_rule (with_connection_rules a) (default_rule (codes "commit") (codes "1000")))
    (default_rule (codes "checkpoint") (codes "64"))) (option_rule (codes "metrics"))) (option_rule (codes "rate"))

-- the command that collects into a store
abbrev pub serve_app : App
serve_app =
    with_reading_rules (with_rule (with_limit_rules (with_socket_rules (folder_app (codes "serve"))))
    (flag_rule (codes "until-eof")))

-- the words do not begin with the program's name, a subcommand is required, and there is a version to tell
abbrev pub empty_app : App
empty_app =
    on_top (λ s. record s { has_version = true; no_binary_name = true; subcommand_required = true })
    (new_app (codes "syslogbox"))

-- the commands that handle frames one by one
abbrev pub with_frame_commands : App → App
with_frame_commands a =
    with_subcommand (with_subcommand (with_subcommand a show_app.top) check_app.top) convert_app.top

-- the commands that write an archive
abbrev pub with_archive_commands : App → App
with_archive_commands a =
    with_subcommand (with_subcommand (with_subcommand a archive_app.top)
    (two_files_app (codes "merge")).top) migrate_app.top

-- the commands that write the archive of some records of two archives
abbrev pub with_part_commands : App → App
with_part_commands a =
    with_subcommand (with_subcommand a (two_files_app (codes "common")).top) (two_files_app (codes "minus")).top

-- the commands of sets
abbrev pub with_set_commands : App → App
with_set_commands a =
    with_subcommand (with_part_commands (with_subcommand a union_app.top)) (two_files_app (codes "diff")).top

-- the commands on proofs
abbrev pub with_proof_commands : App → App
with_proof_commands a =
    with_subcommand (with_subcommand (with_subcommand a root_app.top) prove_app.top) confirm_app.top

-- the commands that read an archive as it comes
abbrev pub with_stream_commands : App → App
with_stream_commands a =
    with_proof_commands (with_subcommand (with_subcommand (with_subcommand a select_app.top) digest_app.top)
    count_app.top)

-- all commands of archives
abbrev pub with_archives : App → App
with_archives a = with_stream_commands (with_set_commands (with_archive_commands a))

-- the command that removes old records from a store
abbrev pub expire_app : App
expire_app =
    with_quiet_rule (with_rule (with_rule (with_rule (with_rule (with_rule (folder_app (codes "expire"))
    (option_rule (codes "before"))) (option_rule (codes "keep"))) (option_rule (codes "room")))
    (flag_rule (codes "undated"))) (flag_rule (codes "dry-run")))

-- the command that seals the days of a store that are over
abbrev pub seal_app : App
seal_app = with_quiet_rule (with_rule (folder_app (codes "seal")) (option_rule (codes "before")))

-- the commands that change a store
abbrev pub with_changers : App → App
with_changers a =
    with_subcommand (with_subcommand (with_subcommand (with_subcommand a (long_app (codes "compact")).top)
    (long_app (codes "add")).top) expire_app.top) seal_app.top

-- the options of a command that talks to another site: how much it takes, and how long it waits
abbrev pub with_site_rules : App → App
with_site_rules a =
    with_rule (with_rule a (default_rule (codes "room") (codes "1024"))) (default_rule (codes "timeout") (codes "60"))

-- the options for which way records go between two stores
abbrev pub with_way_rules : App → App
with_way_rules a =
    with_rule (with_rule (with_rule a (flag_rule (codes "pull"))) (flag_rule (codes "push"))) (flag_rule (codes "dry-run"))

-- the command that asks another site for what it has
abbrev pub reconcile_app : App
reconcile_app =
    with_quiet_rule (with_site_rules (with_way_rules (with_rule (with_range_rules (folder_app (codes "reconcile")))
    (flag_rule (codes "undated")))))

-- the command that answers it
abbrev pub answer_app : App
answer_app = with_site_rules (with_rule (folder_app (codes "answer")) (flag_rule (codes "read-only")))

-- the command that copies a store
abbrev pub backup_app : App
backup_app = with_rule (folder_app (codes "backup")) (required_rule (codes "DEST"))

-- the commands on two stores
abbrev pub with_site_commands : App → App
with_site_commands a =
    with_subcommand (with_subcommand (with_subcommand a reconcile_app.top) answer_app.top) backup_app.top

-- the commands that write the records of a store
abbrev pub with_readers : App → App
with_readers a = with_subcommand (with_subcommand a read_app.top) follow_app.top

-- the command that reads a whole store
abbrev pub verify_app : App
verify_app = with_quiet_rule (with_rule (folder_app (codes "verify")) (option_rule (codes "against")))

-- the commands on stores
abbrev pub with_store_commands : App → App
with_store_commands a =
    with_site_commands (with_changers (with_subcommand (with_subcommand (with_readers a)
    verify_app.top) (folder_app (codes "stat")).top))

-- the commands that receive records from sockets
abbrev pub with_receivers : App → App
with_receivers a = with_subcommand (with_subcommand a collect_app.top) serve_app.top

-- the whole command line
abbrev pub line_app : App
line_app =
    with_receivers (with_subcommand (with_store_commands (with_archives (with_frame_commands empty_app))) send_app.top)
