-- What a parse by `line_app` says of the definitions of requests.
use Rattle.std.proofs.Common.{◌≡◌, inl, inr, ◌∙◌, sym, ap, ap₂, subst, refl, true, false, Bool, ℕ, List, [], ◌∷◌, Option}
use Rattle.std.proofs.Common.{None, Some, Result, Ok, Err, option_and_then, option_map}
use Rattle.std.specs.List.{list_all, list_any}
use Rattle.std.specs.Prelude.{◌⊎◌, ◌&&◌, ◌||◌, IfErr, IfOk, IfSome, if◌then◌else◌, codes}
use Rattle.std.specs.Str.{bytes_eq}
use Rattle.clap.specs.Walk.{Text, Row}
use Rattle.clap.specs.Values.{kind_of}
use Rattle.clap.specs.Kinds.{Kinds, HasKind, IsAmong}
use Rattle.clap.specs.Simple.{App, HasMatchesOf, is_simple, subcommand_of, subcommand_rows_of}
use Rattle.clap.specs.Faults.{fault_of, is_simple_and_free}
use Rattle.clap.specs.declared.error.Error.{Error}
use Rattle.clap.specs.declared.error.kind.ErrorKind.TheVariants.{OutOfMemory}
use Rattle.clap.specs.declared.parser.matches.ArgMatches.{ArgMatches}
use Rattle.clap.proofs.OnLiterals.{clap_on_literals}
use Rattle.collect_engine.specs.declared.collect_words.CollectWords.{CollectWords}
use Rattle.command_line.specs.CommandLine.{line_app}
use Rattle.command_line.specs.Requests.{Asked, Collect, collect_asked, collect_by, or_fault, parsed, read_collect}
use Rattle.command_line.specs.Requests.{AnswersKind, AnswersWords, IsHelp, are_requests, asks_help, is_request, may_ask_help}
use Rattle.command_line.specs.Requests.{names_command, quiet_asked, quiet_by, read_of, rows_asked, rows_where}
use Rattle.command_line.specs.declared.words.WordsFault.{WordsFault}
use Rattle.command_line.specs.declared.words.WordsFault.TheVariants.{Help, Usage, Memory}
use Rattle.clap.specs.declared.error.kind.ErrorKind.{ErrorKind}

line_is_simple : is_simple line_app ≡ true
unfolding clap_on_literals
line_is_simple = refl

line_is_free : is_simple_and_free line_app ≡ true
unfolding clap_on_literals
line_is_free = refl

rows_ok : (words : List Text) (a : App) (m : ArgMatches) → a ≡ line_app → HasMatchesOf a words m
    → (is_simple_and_free a ≡ true → fault_of a words ≡ []) → rows_asked words ≡ subcommand_rows_of m
unfolding rows_asked
rows_ok words a m e h k =
    let free : is_simple_and_free a ≡ true = ap is_simple_and_free e ∙ line_is_free in
    let simple : is_simple a ≡ true = ap is_simple e ∙ line_is_simple in
    let fault : fault_of line_app words ≡ [] = ap (λ (x : App). fault_of x words) (sym e) ∙ k free in
    let rows : subcommand_of line_app words ≡ subcommand_rows_of m =
    ap (λ (x : App). subcommand_of x words) (sym e) ∙ sym (h simple).1 in
    ap₂ rows_where fault rows

some_kind : (kinds : Kinds) (e : Error) (rows : Option (Text × List Row)) → (kind_of e ≡ OutOfMemory → ⊥)
    → HasKind kinds e → rows_where kinds rows ≡ None
some_kind [] e rows never h = elim h [ inl memory ↦ absurd (never memory) | inr among ↦ absurd among ]
some_kind (k ∷ ks) e rows never h = refl

rows_err : (words : List Text) (a : App) (e : Error) → a ≡ line_app
    → (is_simple_and_free a ≡ true → HasKind (fault_of a words) e) → (kind_of e ≡ OutOfMemory → ⊥)
    → rows_asked words ≡ None
unfolding rows_asked
rows_err words a e same h never =
    let free : is_simple_and_free a ≡ true = ap is_simple_and_free same ∙ line_is_free in
    ap (λ (x : App). rows_where (fault_of x words) (subcommand_of x words)) (sym same)
    ∙ some_kind (fault_of a words) e (subcommand_of a words) never (h free)

-- ---- the request

pub parsed_ok : (words : List Text) (a : App) (m : ArgMatches) → a ≡ line_app → HasMatchesOf a words m
    → (is_simple_and_free a ≡ true → fault_of a words ≡ [])
    → parsed words ≡ option_and_then read_of (subcommand_rows_of m)
unfolding parsed
parsed_ok words a m e h k =
    ap (λ (rows : Option (Text × List Row)). option_and_then read_of rows) (rows_ok words a m e h k)

pub parsed_err : (words : List Text) (a : App) (e : Error) → a ≡ line_app
    → (is_simple_and_free a ≡ true → HasKind (fault_of a words) e) → (kind_of e ≡ OutOfMemory → ⊥)
    → parsed words ≡ None
unfolding parsed
parsed_err words a e same h never =
    ap (λ (rows : Option (Text × List Row)). option_and_then read_of rows) (rows_err words a e same h never)

-- ---- words that are no request

no_kinds : (kinds : Kinds) → kinds ≡ [] → are_requests kinds ≡ false
no_kinds [] e = refl
no_kinds (k ∷ ks) e = absurd cc

-- words that parse ask for no help
pub no_help_ok : (words : List Text) (a : App) → a ≡ line_app → (is_simple_and_free a ≡ true → fault_of a words ≡ [])
    → asks_help words ≡ false
unfolding asks_help
no_help_ok words a e k =
    let free : is_simple_and_free a ≡ true = ap is_simple_and_free e ∙ line_is_free in
    let none : fault_of line_app words ≡ [] = ap (λ (x : App). fault_of x words) (sym e) ∙ k free in
    ap (λ (t : Bool). t && names_command words) (no_kinds (fault_of line_app words) none)

and_false : (t : Bool) → t && false ≡ false
and_false true = refl
and_false false = refl

or_true : (t : Bool) → t || true ≡ true
or_true true = refl
or_true false = refl

all_false : (kinds : Kinds) (kind : ErrorKind) → IsAmong kind kinds → is_request kind ≡ false
    → list_all is_request kinds ≡ false
all_false [] kind h r = absurd h
all_false (k ∷ ks) kind (inl e) r =
    let first : is_request k ≡ false = ap is_request (sym e) ∙ r in
    rw first refl
all_false (k ∷ ks) kind (inr h) r = rw (all_false ks kind h r) (and_false (is_request k))

requests_are_all : (kinds : Kinds) (kind : ErrorKind) → IsAmong kind kinds → is_request kind ≡ false
    → are_requests kinds ≡ false
requests_are_all [] kind h r = refl
requests_are_all (k ∷ ks) kind h r = all_false (k ∷ ks) kind h r

some_request : (kinds : Kinds) (kind : ErrorKind) → IsAmong kind kinds → is_request kind ≡ true
    → list_any is_request kinds ≡ true
some_request [] kind h r = absurd h
some_request (k ∷ ks) kind (inl e) r =
    let first : is_request k ≡ true = ap is_request (sym e) ∙ r in
    rw first refl
some_request (k ∷ ks) kind (inr h) r = rw (some_request ks kind h r) (or_true (is_request k))

-- an error that no command was asked for leaves no help that is asked for
not_asked : (kind : ErrorKind) (kinds : Kinds) (n : Bool) → IsAmong kind kinds → is_request kind && n ≡ false
    → are_requests kinds && n ≡ false
not_asked kind kinds n h r = by_kind (is_request kind) refl r
  where
    by_kind : (t : Bool) → is_request kind ≡ t → t && n ≡ false → are_requests kinds && n ≡ false
    by_kind true e r = rw r (and_false (are_requests kinds))
    by_kind false e r = rw (requests_are_all kinds kind h e) refl

among_kinds : (words : List Text) (a : App) (e : Error) → a ≡ line_app
    → (is_simple_and_free a ≡ true → HasKind (fault_of a words) e) → (kind_of e ≡ OutOfMemory → ⊥)
    → IsAmong (kind_of e) (fault_of line_app words)
among_kinds words a e same h never =
    let free : is_simple_and_free a ≡ true = ap is_simple_and_free same ∙ line_is_free in
    let has : HasKind (fault_of line_app words) e = subst (λ (x : App). HasKind (fault_of x words) e) same (h free) in
    elim has [ inl memory ↦ absurd (never memory) | inr among ↦ among ]

asks_none : (words : List Text) (kind : ErrorKind) → IsAmong kind (fault_of line_app words)
    → is_request kind && names_command words ≡ false → asks_help words ≡ false
unfolding asks_help
asks_none words kind h r = not_asked kind (fault_of line_app words) (names_command words) h r

may_ask : (words : List Text) (kind : ErrorKind) → IsAmong kind (fault_of line_app words) → is_request kind ≡ true
    → names_command words ≡ true → may_ask_help words ≡ true
unfolding may_ask_help
may_ask words kind h r n =
    let some : list_any is_request (fault_of line_app words) ≡ true = some_request (fault_of line_app words) kind h r in
    rw some n

-- how the kind of an error says that words are answered
pub answers_err : (words : List Text) (a : App) (e : Error) (fault : WordsFault) → a ≡ line_app
    → (is_simple_and_free a ≡ true → HasKind (fault_of a words) e) → AnswersKind (kind_of e) words fault
    → AnswersWords words fault
answers_err words a e (Usage text) same h answer = (
  parsed_err words a e same h answer.0,
  asks_none words (kind_of e) (among_kinds words a e same h answer.0) answer.1,
)
answers_err words a e (Help text) same h answer = (
  parsed_err words a e same h answer.0,
  may_ask words (kind_of e) (among_kinds words a e same h answer.0) answer.1 answer.2,
)
answers_err words a e Memory same h answer = tt

-- how words are answered that parse, and whose values ask for nothing
pub answers_refused : (words : List Text) (a : App) (fault : WordsFault) → a ≡ line_app
    → (is_simple_and_free a ≡ true → fault_of a words ≡ []) → parsed words ≡ None → (IsHelp fault → ⊥)
    → AnswersWords words fault
answers_refused words a (Usage text) same k none asks = (none, no_help_ok words a same k)
answers_refused words a (Help text) same k none asks = absurd (asks tt)
answers_refused words a Memory same k none asks = tt

rows_ask_none : (kinds : Kinds) (rows : Option (Text × List Row)) (asked : Asked)
    → option_and_then read_of (rows_where kinds rows) ≡ Some asked → are_requests kinds ≡ false
rows_ask_none [] rows asked e = refl
rows_ask_none (k ∷ ks) rows asked e = absurd cc

asks_none_by : (kinds : Kinds) (n : Bool) → are_requests kinds ≡ false → are_requests kinds && n ≡ false
asks_none_by kinds n e = rw e refl

-- what is a request asks for no help
pub asked_no_help : (words : List Text) (asked : Asked) → parsed words ≡ Some asked → asks_help words ≡ false
unfolding parsed rows_asked asks_help
asked_no_help words asked e =
    asks_none_by (fault_of line_app words) (names_command words)
    (rows_ask_none (fault_of line_app words) (subcommand_of line_app words) asked e)

-- whether `--quiet` was given
pub quiet_ok : (words : List Text) (a : App) (m : ArgMatches) → a ≡ line_app → HasMatchesOf a words m
    → (is_simple_and_free a ≡ true → fault_of a words ≡ [])
    → quiet_asked words ≡ quiet_by (subcommand_rows_of m)
unfolding quiet_asked
quiet_ok words a m e h k = ap quiet_by (rows_ok words a m e h k)

-- ---- the arguments of `collect`

pub collect_ok : (words : List Text) (a : App) (m : ArgMatches) → a ≡ line_app → HasMatchesOf a words m
    → (is_simple_and_free a ≡ true → fault_of a words ≡ [])
    → collect_asked words ≡ collect_by (subcommand_rows_of m)
unfolding collect_asked
collect_ok words a m e h k = ap collect_by (rows_ok words a m e h k)

pub collect_err : (words : List Text) (a : App) (e : Error) → a ≡ line_app
    → (is_simple_and_free a ≡ true → HasKind (fault_of a words) e) → (kind_of e ≡ OutOfMemory → ⊥)
    → collect_asked words ≡ Err 2
unfolding collect_asked
collect_err words a e same h never = ap collect_by (rows_err words a e same h never)

found_name : (t : Bool) (r : Option CollectWords) (other : Option Asked) (w : CollectWords)
    → (if t then or_fault r else Ok None) ≡ Ok (Some w)
    → (if t then option_map (λ x. Collect x) r else other) ≡ Some (Collect w)
found_name true (Some x) other w e = let same : x ≡ w = cc in ap (λ (y : CollectWords). Some (Collect y)) same
found_name true None other w e = absurd cc
found_name false r other w e = absurd cc

found_rows : (rows : Option (Text × List Row)) (w : CollectWords) → collect_by rows ≡ Ok (Some w)
    → option_and_then read_of rows ≡ Some (Collect w)
found_rows None w e = absurd cc
found_rows (Some (name, rows)) w e = found_name (bytes_eq name (codes "collect")) (read_collect rows) _ w e

refused_name : (t : Bool) (r : Option CollectWords) (other : Option Asked)
    → (if t then or_fault r else Ok None) ≡ Err 2 → (if t then option_map (λ x. Collect x) r else other) ≡ None
refused_name true (Some x) other e = absurd cc
refused_name true None other e = refl
refused_name false r other e = absurd cc

refused_rows : (rows : Option (Text × List Row)) → collect_by rows ≡ Err 2 → option_and_then read_of rows ≡ None
refused_rows None e = refl
refused_rows (Some (name, rows)) e = refused_name (bytes_eq name (codes "collect")) (read_collect rows) _ e

-- the arguments of `collect` are a request
pub collect_is_asked : (words : List Text) (w : CollectWords) → collect_asked words ≡ Ok (Some w)
    → parsed words ≡ Some (Collect w)
unfolding collect_asked parsed
collect_is_asked words w e = found_rows (rows_asked words) w e

-- and what is refused is none
pub refused_is_none : (words : List Text) → collect_asked words ≡ Err 2 → parsed words ≡ None
unfolding collect_asked parsed
refused_is_none words e = refused_rows (rows_asked words) e

-- ---- the clauses of `collect_words`, of an answer that the words determine

two_of_name : (t : Bool) (r : Option CollectWords) (s : ℕ) → (if t then or_fault r else Ok None) ≡ Err s → s ≡ 2
two_of_name true (Some x) s e = absurd cc
two_of_name true None s e = cc
two_of_name false r s e = absurd cc

two_of_rows : (rows : Option (Text × List Row)) (s : ℕ) → collect_by rows ≡ Err s → s ≡ 2
two_of_rows None s e = cc
two_of_rows (Some (name, rows)) s e = two_of_name (bytes_eq name (codes "collect")) (read_collect rows) s e

always_two : (words : List Text) (s : ℕ) → collect_asked words ≡ Err s → s ≡ 2
unfolding collect_asked
always_two words s e = two_of_rows (rows_asked words) s e

pub answer_ok : (words : List Text) (r : Result (Option CollectWords) ℕ) → collect_asked words ≡ r
    → IfOk r (λ x. collect_asked words ≡ Ok x)
answer_ok words (Ok x) e = e
answer_ok words (Err s) e = tt

pub answer_err : (words : List Text) (r : Result (Option CollectWords) ℕ) → collect_asked words ≡ r
    → IfErr r (λ s. (s ≡ 3) ⊎ ((s ≡ 2) × (collect_asked words ≡ Err 2)))
answer_err words (Ok x) e = tt
answer_err words (Err s) e =
    let two : s ≡ 2 = always_two words s e in
    inr (two, e ∙ ap (λ (n : ℕ). Err n) two)

pub answer_asked : (words : List Text) (r : Result (Option CollectWords) ℕ) → collect_asked words ≡ r
    → IfOk r (λ x. IfSome x (λ w. parsed words ≡ Some (Collect w)))
answer_asked words (Ok (Some w)) e = collect_is_asked words w e
answer_asked words (Ok None) e = tt
answer_asked words (Err s) e = tt

pub answer_refused : (words : List Text) (r : Result (Option CollectWords) ℕ) → collect_asked words ≡ r
    → IfErr r (λ s. s ≡ 2 → parsed words ≡ None)
answer_refused words (Ok x) e = tt
answer_refused words (Err s) e = λ two. refused_is_none words (e ∙ ap (λ (n : ℕ). Err n) two)
