-- What the words of `serve` ask for.
use Rattle.std.specs.Prelude.{ℕ, ◌/◌, List, [], ◌∷◌, None, Option, Some, codes, if◌then◌else◌, map, max, nat_le}
use Rattle.std.specs.Prelude.{option_and_then, option_map}
use Rattle.std.specs.declared.net.socket_addr.SocketAddr.{SocketAddr}
use Rattle.clap.specs.Walk.{Row, Text, first_of}
use Rattle.option_values.specs.Numbers.{number_in}
use Rattle.option_values.specs.Readings.{reading_in}
use Rattle.option_values.specs.Values.{is_given_in, optional}
use Rattle.server_words.specs.Addresses.{address_in}
use Rattle.server_words.specs.Listeners.{ListenerAsked, listener_asked, listeners_in}
use Rattle.server_words.specs.Networks.{NetworkAsked, network_asked, networks_in}
use Rattle.server_words.specs.declared.serve_words.ServeOptions.{ServeOptions}
use Rattle.server_words.specs.declared.serve_words.ServeWords.{ServeWords}

-- a folder, what is listened on, who may send, and what the server is to do; texts without where they lie in memory
pub record ServeAsked : Type 0 where
  pub dir : Text
  pub listeners : List ListenerAsked
  pub allowed : List NetworkAsked
  pub options : ServeOptions

abbrev pub serve_asked : ServeWords → ServeAsked
serve_asked words = record {
  dir = words.dir.now;
  listeners = map listener_asked words.listeners.items;
  allowed = map network_asked words.allowed.items;
  options = words.options;
}

-- how many connections of one address may be open at once: a quarter of all, and at least one, unless it is given,
-- and not more than all
abbrev pub per_peer_of : Option ℕ → ℕ → Option ℕ
per_peer_of None connections = Some (max (connections / 4) 1)
per_peer_of (Some number) connections = if nat_le number connections then Some number else None

-- where metrics are shown, if anywhere
abbrev pub metrics_in : List Row → Option (Option SocketAddr)
metrics_in rows = optional address_in (first_of (codes "metrics") rows)

-- the values of the options of the server
abbrev pub options_in : List Row → Option ServeOptions
options_in rows =
    option_and_then (λ connections. option_and_then (λ given. option_and_then (λ per_peer. option_and_then (λ idle.
    option_and_then (λ commit. option_and_then (λ checkpoint. option_and_then (λ metrics. option_and_then (λ rate.
    option_map (λ way. record {
      connections = connections;
      per_peer = per_peer;
      idle_seconds = idle;
      commit_millis = commit;
      checkpoint_mib = checkpoint;
      metrics = metrics;
      rate = rate;
      until_eof = is_given_in (codes "until-eof") rows;
      reading = way;
    }) (reading_in rows)) (optional (number_in 1 1_000_000) (first_of (codes "rate") rows))) (metrics_in rows))
    (option_and_then (number_in 1 2_048) (first_of (codes "checkpoint") rows)))
    (option_and_then (number_in 0 3_600_000) (first_of (codes "commit") rows)))
    (optional (number_in 1 31_536_000) (first_of (codes "idle") rows))) (per_peer_of given connections))
    (optional (number_in 1 16_384) (first_of (codes "per-peer") rows)))
    (option_and_then (number_in 1 16_384) (first_of (codes "connections") rows))

-- a folder, what is listened on, who may send, and what the server is to do; none where nothing is listened on
abbrev pub served : Text → List ListenerAsked → List NetworkAsked → ServeOptions → Option ServeAsked
served dir [] allowed options = None
served dir (first ∷ rest) allowed options =
    Some (record { dir = dir; listeners = first ∷ rest; allowed = allowed; options = options })

-- the values of the words of `serve`
abbrev pub serve_in : List Row → Option ServeAsked
serve_in rows =
    option_and_then (λ dir. option_and_then (λ listeners. option_and_then (λ allowed.
    option_and_then (served dir listeners allowed) (options_in rows)) (networks_in rows)) (listeners_in rows))
    (first_of (codes "DIR") rows)
