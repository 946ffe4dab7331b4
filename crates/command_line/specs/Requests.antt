-- What the words of a command line ask for.
use Rattle.std.specs.Prelude.{◌≡◌, ◌≢◌, ◌&&◌, ◌==◌, ⊤, ℕ, ℤ, Bool, false, true, not, List, [], ◌∷◌, Some, None, Option, Result, Ok, Err, codes, map, if◌then◌else◌}
use Rattle.std.specs.Prelude.{option_and_then, option_map}
use Rattle.std.specs.List.{list_all, list_any}
use Rattle.std.specs.Str.{bytes_eq}
use Rattle.clap.specs.Walk.{Text, Row, all_of, first_of}
use Rattle.clap.specs.Simple.{subcommand_of}
use Rattle.clap.specs.Faults.{fault_of}
use Rattle.clap.specs.Kinds.{Kinds}
use Rattle.syslog_frame.specs.declared.framing.Framing.{Framing}
use Rattle.syslog_frame.specs.declared.framing.Framing.TheVariants.{Counted, Lf}
use Rattle.syslog_legacy.specs.declared.frame_reading.FrameReading.{FrameReading}
use Rattle.collect_engine.specs.declared.collect_words.CollectWords.{CollectWords}
use Rattle.collect_engine.specs.declared.collect_words.Transport.{Transport}
use Rattle.collect_engine.specs.declared.collect_words.Transport.TheVariants as transport
use Rattle.archive_counts.specs.declared.options.CountForm.{CountForm}
use Rattle.archive_counts.specs.declared.key.CountKey.{CountKey}
use Rattle.archive_tree.specs.declared.head.TreeHead.{TreeHead}
use Rattle.command_line.specs.CommandLine.{line_app}
use Rattle.command_line.specs.Counts.{form_by, keys_in}
use Rattle.command_line.specs.Expiries.{expire_in}
use Rattle.command_line.specs.Heads.{hash_in}
use Rattle.command_line.specs.Names.{period_of}
use Rattle.command_line.specs.Reads.{color_in, read_words_in}
use Rattle.command_line.specs.Sites.{answer_in, reconcile_in}
use Rattle.condition_words.specs.Conditions.{ConditionsAsked, conditions_asked, conditions_in}
use Rattle.option_values.specs.Numbers.{number_in, size_in}
use Rattle.option_values.specs.Readings.{reading_in}
use Rattle.option_values.specs.Times.{asked_time}
use Rattle.option_values.specs.Values.{is_given_in, optional}
use Rattle.archive_text.specs.declared.period.Period.{Period}
use Rattle.server_words.specs.Serves.{ServeAsked, serve_asked, serve_in}
use Rattle.send_engine.specs.Options.{OptionTexts, texts_of}
use Rattle.driver.specs.declared.limits.ReadLimit.{ReadLimit}
use Rattle.driver.specs.declared.limits.ReadLimit.TheVariants.{Standard, Unlimited}
use Rattle.frame_engine.specs.declared.input_framing.InputFraming.{InputFraming}
use Rattle.frame_engine.specs.declared.input_framing.InputFraming.TheVariants.{Datagram, Stream}
use Rattle.command_line.specs.declared.request.AnswerWords.{AnswerWords}
use Rattle.command_line.specs.declared.request.ColorWhen.{ColorWhen}
use Rattle.command_line.specs.declared.request.ExpireWords.{ExpireWords}
use Rattle.command_line.specs.declared.request.FileRequest.{FileRequest}
use Rattle.command_line.specs.declared.request.FileRequest.TheVariants as files
use Rattle.command_line.specs.declared.request.FollowWords.{FollowWords}
use Rattle.command_line.specs.declared.request.FrameCommand.{FrameCommand}
use Rattle.command_line.specs.declared.request.FrameCommand.TheVariants as frames
use Rattle.command_line.specs.declared.request.FrameRequest.{FrameRequest}
use Rattle.command_line.specs.declared.request.ReadWords.{ReadWords}
use Rattle.command_line.specs.declared.request.ReconcileWords.{ReconcileWords}
use Rattle.command_line.specs.declared.request.Request.{Request}
use Rattle.command_line.specs.declared.request.Request.TheVariants as request
use Rattle.command_line.specs.declared.words.WordsFault.{WordsFault}
use Rattle.command_line.specs.declared.words.WordsFault.TheVariants.{Help, Usage, Memory}
use Rattle.clap.specs.declared.error.kind.ErrorKind.{ErrorKind}
use Rattle.clap.specs.declared.error.kind.ErrorKind.TheVariants.{DisplayHelp, DisplayVersion, OutOfMemory}

-- a request, its files by their names
pub data Asked : Type 0 where
  -- up to a limit of what is read, and whether it ends with a summary
  Check : FrameReading → InputFraming → ReadLimit → Bool → Asked
  -- and whether it writes JSON, and when it colors
  Show : FrameReading → InputFraming → ReadLimit → Bool → ColorWhen → Asked
  Convert : FrameReading → InputFraming → ReadLimit → Option Framing → Asked
  Archive : FrameReading → InputFraming → Asked
  -- with a folder, and MiB of memory
  SpillArchive : FrameReading → InputFraming → Text → ℕ → Asked
  Merge : Text → Text → Asked
  Migrate : Text → Asked
  Union : List Text → Asked
  Common : Text → Text → Asked
  Minus : Text → Text → Asked
  Diff : Text → Text → Asked
  Select : ConditionsAsked → Asked
  -- and whether with the roots
  Digest : Period → Bool → Asked
  -- by these keys, so many lines at most, in this form
  Count : List CountKey → Option ℕ → CountForm → Asked
  Root : Asked
  -- with the file of records
  Prove : Text → Asked
  Confirm : TreeHead → Text → Asked
  Send : OptionTexts → Asked
  Collect : CollectWords → Asked
  -- folders
  Read : Text → ConditionsAsked → ReadWords → Asked
  Follow : Text → ConditionsAsked → FollowWords → Asked
  -- and the line that the ledger has to have
  Verify : Text → Option Text → Asked
  Stat : Text → Asked
  Compact : Text → Asked
  Add : Text → Asked
  Expire : Text → ExpireWords → Asked
  -- the days that ended by then
  Seal : Text → ℤ → Asked
  Reconcile : Text → ReconcileWords → Asked
  Answer : Text → AnswerWords → Asked
  -- and the folder of the copy
  Backup : Text → Text → Asked
  Serve : ServeAsked → Asked

-- a command on frames
abbrev pub frames_by : FrameReading → InputFraming → ReadLimit → FrameCommand → Asked
frames_by way framing limit (frames.Check summary) = Check way framing limit summary
frames_by way framing limit (frames.Show json color) = Show way framing limit json color
frames_by way framing limit (frames.Convert to) = Convert way framing limit to
frames_by way framing limit frames.Archive = Archive way framing

-- the same, of a request
abbrev pub frames_asked : FrameRequest → Asked
frames_asked r = frames_by r.reading r.input_framing r.limit r.command

-- a command on files
abbrev pub files_asked : FileRequest → Asked
files_asked (files.Merge left right) = Merge left.now right.now
files_asked (files.Migrate file) = Migrate file.now
files_asked (files.Union names) = Union (map (λ s. s.now) names.items)
files_asked (files.Common left right) = Common left.now right.now
files_asked (files.Minus left right) = Minus left.now right.now
files_asked (files.Diff left right) = Diff left.now right.now

-- the request, without where its names lie in memory
abbrev pub asked_by : Request → Asked
asked_by (request.Frames r) = frames_asked r
asked_by (request.SpillArchive input_framing way dir memory) = SpillArchive way input_framing dir.now memory
asked_by (request.Files r) = files_asked r
asked_by (request.Select conditions) = Select (conditions_asked conditions)
asked_by (request.Digest period roots) = Digest period roots
asked_by (request.Count options) = Count options.keys.items options.top options.form
asked_by request.Root = Root
asked_by (request.Prove records) = Prove records.now
asked_by (request.Confirm head records) = Confirm head records.now
asked_by (request.Send options) = Send (texts_of options)
asked_by (request.Collect words) = Collect words
asked_by (request.Read dir conditions words) = Read dir.now (conditions_asked conditions) words
asked_by (request.Follow dir conditions words) = Follow dir.now (conditions_asked conditions) words
asked_by (request.Verify dir against) = Verify dir.now (option_map (λ s. s.now) against)
asked_by (request.Stat dir) = Stat dir.now
asked_by (request.Compact dir) = Compact dir.now
asked_by (request.Add dir) = Add dir.now
asked_by (request.Expire dir words) = Expire dir.now words
asked_by (request.Seal dir before) = Seal dir.now before
asked_by (request.Reconcile dir words) = Reconcile dir.now words
asked_by (request.Answer dir words) = Answer dir.now words
asked_by (request.Backup dir to) = Backup dir.now to.now
asked_by (request.Serve words) = Serve (serve_asked words)

-- the framing with this name
abbrev pub framing_of : Text → Option Framing
framing_of name =
    if bytes_eq name (codes "counted") then Some Counted
    else (if bytes_eq name (codes "lf") then Some Lf else None)

-- the framing of an input, by its name
abbrev pub input_framing_of : Text → Option InputFraming
input_framing_of name =
    if bytes_eq name (codes "datagram") then Some Datagram else option_map Stream (framing_of name)

-- the value of `--framing`
abbrev pub input_framing_in : List Row → Option InputFraming
input_framing_in rows = option_and_then input_framing_of (first_of (codes "framing") rows)

-- how much of an input is read, by `--endless`
abbrev pub limit_by : Bool → ReadLimit
limit_by is_endless = if is_endless then Unlimited else Standard

abbrev pub limit_in : List Row → ReadLimit
limit_in rows = limit_by (is_given_in (codes "endless") rows)

-- `check` with the values of its options
abbrev pub read_check : List Row → Option Asked
read_check rows =
    option_and_then (λ input_framing. option_map (λ way. Check way input_framing (limit_in rows) (is_given_in (codes "summary") rows))
    (reading_in rows)) (input_framing_in rows)

-- `show` with the values of its options
abbrev pub read_show : List Row → Option Asked
read_show rows =
    option_and_then (λ input_framing. option_and_then (λ way. option_map (λ color.
    Show way input_framing (limit_in rows) (is_given_in (codes "json") rows) color)
    (color_in rows)) (reading_in rows)) (input_framing_in rows)

-- the framing of an input, as one of frames
abbrev pub own_framing : InputFraming → Option Framing
own_framing Datagram = None
own_framing (Stream kind) = Some kind

-- the framing of the output, by the value of `--to`: without it, that of the input
abbrev pub to_of : InputFraming → Option Text → Option (Option Framing)
to_of input_framing None = Some (own_framing input_framing)
to_of input_framing (Some name) = option_map (λ kind. Some kind) (framing_of name)

-- `convert` with the values of its options
abbrev pub read_convert : List Row → Option Asked
read_convert rows =
    option_and_then (λ input_framing. option_and_then (λ way. option_map (λ to.
    Convert way input_framing (limit_in rows) to)
    (to_of input_framing (first_of (codes "to") rows))) (reading_in rows)) (input_framing_in rows)

-- `archive`, by the value of `--spill`: without it the room has no effect
abbrev pub archive_by : FrameReading → InputFraming → ℕ → Option Text → Asked
archive_by way input_framing memory None = Archive way input_framing
archive_by way input_framing memory (Some dir) = SpillArchive way input_framing dir memory

-- `archive` with the values of its options
abbrev pub read_archive : List Row → Option Asked
read_archive rows =
    option_and_then (λ input_framing. option_and_then (λ way. option_map (λ memory.
    archive_by way input_framing memory (first_of (codes "spill") rows))
    (option_and_then (number_in 1 1_048_576) (first_of (codes "memory") rows))) (reading_in rows))
    (input_framing_in rows)

-- `merge` with its files
abbrev pub read_merge : List Row → Option Asked
read_merge rows =
    option_and_then (λ left. option_map (λ right. Merge left right) (first_of (codes "RIGHT") rows))
    (first_of (codes "LEFT") rows)

-- `migrate` with its file
abbrev pub read_migrate : List Row → Option Asked
read_migrate rows = option_map (λ file. Migrate file) (first_of (codes "FILE") rows)

-- `union` with its files
abbrev pub read_union : List Row → Option Asked
read_union rows = option_map (λ files. Union files) (all_of (codes "FILE") rows)

-- `common` with its files
abbrev pub read_common : List Row → Option Asked
read_common rows =
    option_and_then (λ left. option_map (λ right. Common left right) (first_of (codes "RIGHT") rows))
    (first_of (codes "LEFT") rows)

-- `minus` with its files
abbrev pub read_minus : List Row → Option Asked
read_minus rows =
    option_and_then (λ left. option_map (λ right. Minus left right) (first_of (codes "RIGHT") rows))
    (first_of (codes "LEFT") rows)

-- `diff` with its files
abbrev pub read_diff : List Row → Option Asked
read_diff rows =
    option_and_then (λ left. option_map (λ right. Diff left right) (first_of (codes "RIGHT") rows))
    (first_of (codes "LEFT") rows)

-- `select` with the values of its options
abbrev pub read_select : List Row → Option Asked
read_select rows = option_map (λ conditions. Select conditions) (conditions_in rows)

-- `digest` with the value of its option
abbrev pub read_digest : List Row → Option Asked
read_digest rows =
    option_map (λ period. Digest period (is_given_in (codes "root") rows))
    (option_and_then period_of (first_of (codes "by") rows))

-- `count` by these keys, with the values of its other options
abbrev pub count_of : List CountKey → List Row → Option Asked
count_of keys rows =
    option_and_then (λ top. option_map (λ form. Count keys top form)
    (form_by (is_given_in (codes "json") rows) (is_given_in (codes "bars") rows)))
    (optional (number_in 1 4_294_967_295) (first_of (codes "top") rows))

-- `count` with the values of its options
abbrev pub read_count : List Row → Option Asked
read_count rows = option_and_then (λ keys. count_of keys rows) (keys_in rows)

-- `prove` with its file
abbrev pub read_prove : List Row → Option Asked
read_prove rows = option_map (λ records. Prove records) (first_of (codes "RECORDS") rows)

-- the head by COUNT and ROOT
abbrev pub head_in : List Row → Option TreeHead
head_in rows =
    option_and_then (λ size. option_map (λ hash. record { size = size; hash = hash })
    (option_and_then hash_in (first_of (codes "ROOT") rows))) (option_and_then size_in (first_of (codes "COUNT") rows))

-- `confirm` with its values
abbrev pub read_confirm : List Row → Option Asked
read_confirm rows =
    option_and_then (λ head. option_map (λ records. Confirm head records) (first_of (codes "RECORDS") rows))
    (head_in rows)

-- `send` with the texts of its options
abbrev pub read_send : List Row → Option Asked
read_send rows =
    option_and_then (λ facility. option_and_then (λ severity. option_and_then (λ up_to. option_and_then
    (λ framing. option_map (λ text. Send record {
      facility = facility;
      severity = severity;
      up_to = up_to;
      hostname = first_of (codes "host") rows;
      app_name = first_of (codes "app") rows;
      proc_id = first_of (codes "proc") rows;
      msg_id = first_of (codes "msgid") rows;
      micros = first_of (codes "micros") rows;
      framing = framing;
      text = text;
    }) (first_of (codes "TEXT") rows)) (first_of (codes "framing") rows)) (first_of (codes "up-to") rows))
    (first_of (codes "severity") rows)) (first_of (codes "facility") rows)

-- the transport with this name
abbrev pub transport_of : Text → Option Transport
transport_of name =
    if bytes_eq name (codes "udp") then Some transport.Udp
    else (if bytes_eq name (codes "counted") then Some transport.Counted
    else (if bytes_eq name (codes "lf") then Some transport.Lf else None))

-- how many datagrams or connections may be asked for at most
abbrev pub count_max : Transport → ℕ
count_max transport.Udp = 1_000_000
count_max transport.Counted = 100_000
count_max transport.Lf = 100_000

-- `collect` with its values
abbrev pub read_collect : List Row → Option CollectWords
read_collect rows =
    option_and_then (λ kind. option_and_then (λ port. option_and_then (λ count. option_map (λ way. record {
      transport = kind;
      port = port;
      count = count;
      reading = way;
    }) (reading_in rows)) (option_and_then (number_in 1 (count_max kind)) (first_of (codes "COUNT") rows)))
    (option_and_then (number_in 1 65_535) (first_of (codes "PORT") rows)))
    (option_and_then transport_of (first_of (codes "TRANSPORT") rows))

-- `read` with the values of its options
abbrev pub read_read : List Row → Option Asked
read_read rows =
    option_and_then (λ dir. option_and_then (λ conditions. option_map (λ words. Read dir conditions words)
    (read_words_in rows)) (conditions_in rows)) (first_of (codes "DIR") rows)

-- all values of `follow` but those of conditions
abbrev pub follow_words_in : List Row → FollowWords
follow_words_in rows = record {
  from_start = is_given_in (codes "from-start") rows;
  until_eof = is_given_in (codes "until-eof") rows;
}

-- `follow` with the values of its options
abbrev pub read_follow : List Row → Option Asked
read_follow rows =
    option_and_then (λ dir. option_map (λ conditions. Follow dir conditions (follow_words_in rows)) (conditions_in rows))
    (first_of (codes "DIR") rows)

-- `verify` with its folder, and the line that the ledger has to have
abbrev pub read_verify : List Row → Option Asked
read_verify rows = option_map (λ dir. Verify dir (first_of (codes "against") rows)) (first_of (codes "DIR") rows)

-- `stat` with its folder
abbrev pub read_stat : List Row → Option Asked
read_stat rows = option_map (λ dir. Stat dir) (first_of (codes "DIR") rows)

-- `compact` with its folder
abbrev pub read_compact : List Row → Option Asked
read_compact rows = option_map (λ dir. Compact dir) (first_of (codes "DIR") rows)

-- `add` with its folder
abbrev pub read_add : List Row → Option Asked
read_add rows = option_map (λ dir. Add dir) (first_of (codes "DIR") rows)

-- `expire` with the values of its options
abbrev pub read_expire : List Row → Option Asked
read_expire rows =
    option_and_then (λ dir. option_map (λ words. Expire dir words) (expire_in rows)) (first_of (codes "DIR") rows)

-- `seal` with its folder, and when the days that are sealed ended
abbrev pub read_seal : List Row → Option Asked
read_seal rows =
    option_and_then (λ dir. option_map (λ before. Seal dir before)
    (option_and_then asked_time (first_of (codes "before") rows))) (first_of (codes "DIR") rows)

-- `reconcile` with the values of its options
abbrev pub read_reconcile : List Row → Option Asked
read_reconcile rows =
    option_and_then (λ dir. option_map (λ words. Reconcile dir words) (reconcile_in rows))
    (first_of (codes "DIR") rows)

-- `answer` with the values of its options
abbrev pub read_answer : List Row → Option Asked
read_answer rows =
    option_and_then (λ dir. option_map (λ words. Answer dir words) (answer_in rows)) (first_of (codes "DIR") rows)

-- `backup` with its folders
abbrev pub read_backup : List Row → Option Asked
read_backup rows =
    option_and_then (λ dir. option_map (λ to. Backup dir to) (first_of (codes "DEST") rows))
    (first_of (codes "DIR") rows)

-- the request of a command on two stores
abbrev pub read_sites : Text → List Row → Option Asked
read_sites name rows =
    if bytes_eq name (codes "reconcile") then read_reconcile rows
    else (if bytes_eq name (codes "answer") then read_answer rows
    else (if bytes_eq name (codes "backup") then read_backup rows else None))

-- the request of a command on a store
abbrev pub read_store : Text → List Row → Option Asked
read_store name rows =
    if bytes_eq name (codes "verify") then read_verify rows
    else (if bytes_eq name (codes "stat") then read_stat rows
    else (if bytes_eq name (codes "compact") then read_compact rows
    else (if bytes_eq name (codes "add") then read_add rows
    else (if bytes_eq name (codes "expire") then read_expire rows
    else (if bytes_eq name (codes "seal") then read_seal rows else read_sites name rows)))))

-- `serve` with its values
abbrev pub read_serve : List Row → Option Asked
read_serve rows = option_map (λ words. Serve words) (serve_in rows)

-- the request of a subcommand that reads an archive as it comes, of `send`, or of one on a store
abbrev pub read_further : Text → List Row → Option Asked
read_further name rows =
    if bytes_eq name (codes "digest") then read_digest rows
    else (if bytes_eq name (codes "root") then Some Root
    else (if bytes_eq name (codes "prove") then read_prove rows
    else (if bytes_eq name (codes "confirm") then read_confirm rows
    else (if bytes_eq name (codes "send") then read_send rows else read_store name rows))))

-- the request of a subcommand on the archives of two files, of `migrate`, or of another that is no subcommand on frames
unfoldable pub read_files : Text → List Row → Option Asked
read_files name rows =
    if bytes_eq name (codes "merge") then read_merge rows
    else (if bytes_eq name (codes "migrate") then read_migrate rows
    else (if bytes_eq name (codes "common") then read_common rows
    else (if bytes_eq name (codes "minus") then read_minus rows
    else (if bytes_eq name (codes "diff") then read_diff rows else read_further name rows))))

-- the request of a subcommand on frames, or of any other
unfoldable pub read_other : Text → List Row → Option Asked
read_other name rows =
    if bytes_eq name (codes "check") then read_check rows
    else (if bytes_eq name (codes "convert") then read_convert rows
    else (if bytes_eq name (codes "show") then read_show rows
    else (if bytes_eq name (codes "archive") then read_archive rows else read_files name rows)))

-- the request of a subcommand with the values of its options
abbrev pub read_of : Text × List Row → Option Asked
read_of (name, rows) =
    if bytes_eq name (codes "collect") then option_map (λ words. Collect words) (read_collect rows)
    else (if bytes_eq name (codes "union") then read_union rows
    else (if bytes_eq name (codes "select") then read_select rows
    else (if bytes_eq name (codes "count") then read_count rows
    else (if bytes_eq name (codes "read") then read_read rows
    else (if bytes_eq name (codes "follow") then read_follow rows
    else (if bytes_eq name (codes "serve") then read_serve rows else read_other name rows))))))

-- the subcommand with the values of its options, where the parse has no fault
abbrev pub rows_where : Kinds → Option (Text × List Row) → Option (Text × List Row)
rows_where [] rows = rows
rows_where (kind ∷ kinds) rows = None

-- the subcommand of the words with the values of its options, where they parse
unfoldable pub rows_asked : List Text → Option (Text × List Row)
rows_asked words = rows_where (fault_of line_app words) (subcommand_of line_app words)

-- the request of the words, where they parse and their values are accepted: a function of the words alone
unfoldable pub parsed : List Text → Option Asked
parsed words = option_and_then read_of (rows_asked words)

-- the flag `--quiet` of a subcommand
abbrev pub quiet_by : Option (Text × List Row) → Bool
quiet_by None = false
quiet_by (Some (name, rows)) = is_given_in (codes "quiet") rows

-- whether the words ask for nothing to be told of how far it is
unfoldable pub quiet_asked : List Text → Bool
quiet_asked words = quiet_by (rows_asked words)

-- the arguments of `collect`, or status 2 where one is refused
abbrev pub or_fault : Option CollectWords → Result (Option CollectWords) ℕ
or_fault None = Err 2
or_fault (Some words) = Ok (Some words)

-- the same of any words: none for another command, whatever its values, and status 2 where they do not parse
abbrev pub collect_by : Option (Text × List Row) → Result (Option CollectWords) ℕ
collect_by None = Err 2
collect_by (Some (name, rows)) = if bytes_eq name (codes "collect") then or_fault (read_collect rows) else Ok None

-- what the words ask of `collect`: a function of the words alone
unfoldable pub collect_asked : List Text → Result (Option CollectWords) ℕ
collect_asked words = collect_by (rows_asked words)

-- a kind of answer that is asked for: help, or the version
abbrev pub is_request : ErrorKind → Bool
is_request DisplayHelp = true
is_request DisplayVersion = true
is_request _ = false

-- a word begins with a dash
abbrev pub is_dashed : Text → Bool
is_dashed [] = false
is_dashed (octet ∷ octets) = octet == 45

-- the first word is neither an option nor `help`: it is the name of a command, where the words parse that far
abbrev pub names_command : List Text → Bool
names_command [] = false
names_command (word ∷ words) = not (is_dashed word) && not (bytes_eq word (codes "help"))

-- there are kinds, and each is one that is asked for
abbrev pub are_requests : Kinds → Bool
are_requests [] = false
are_requests (kind ∷ kinds) = is_request kind && list_all is_request kinds

-- the words ask for the help or the version of a command
unfoldable pub asks_help : List Text → Bool
asks_help words = are_requests (fault_of line_app words) && names_command words

-- so it may be, of words whose fault may be of several kinds
unfoldable pub may_ask_help : List Text → Bool
may_ask_help words = list_any is_request (fault_of line_app words) && names_command words

-- the fault is one of the words, and not of memory
abbrev pub IsUsage : WordsFault → Type 0
IsUsage (Usage text) = ⊤
IsUsage (Help text) = ⊥
IsUsage Memory = ⊥

-- it is a text that was asked for
abbrev pub IsHelp : WordsFault → Type 0
IsHelp (Usage text) = ⊥
IsHelp (Help text) = ⊤
IsHelp Memory = ⊥

-- how words are answered that are no request: a text that is asked for is not a fault
abbrev pub AnswersWords : List Text → WordsFault → Type 0
AnswersWords words (Usage text) = (parsed words ≡ None) × (asks_help words ≡ false)
AnswersWords words (Help text) = (parsed words ≡ None) × (may_ask_help words ≡ true)
AnswersWords words Memory = ⊤

-- the same, by the kind of the error
abbrev pub AnswersKind : ErrorKind → List Text → WordsFault → Type 0
AnswersKind kind words (Usage text) = (kind ≢ OutOfMemory) × (is_request kind && names_command words ≡ false)
AnswersKind kind words (Help text) = (kind ≢ OutOfMemory) × (is_request kind ≡ true) × (names_command words ≡ true)
AnswersKind kind words Memory = ⊤
