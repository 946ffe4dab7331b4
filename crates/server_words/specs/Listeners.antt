-- What a server is asked to listen on.
use Rattle.std.specs.Prelude.{List, [], ◌∷◌, ◌++◌, Option, Some, None, codes, if◌then◌else◌, map, option_map}
use Rattle.std.specs.Prelude.{unwrap_or}
use Rattle.std.specs.Str.{bytes_eq}
use Rattle.std.specs.declared.net.socket_addr.SocketAddr.{SocketAddr}
use Rattle.clap.specs.Walk.{Row, Text, all_of}
use Rattle.option_values.specs.Values.{all_given}
use Rattle.server_words.specs.Addresses.{address_in}
use Rattle.server_words.specs.declared.listeners.InheritedKind.{InheritedKind}
use Rattle.server_words.specs.declared.listeners.InheritedKind.TheVariants as kind
use Rattle.server_words.specs.declared.listeners.ListenerOption.{ListenerOption}
use Rattle.server_words.specs.declared.listeners.ListenerOption.TheVariants as option
use Rattle.server_words.specs.declared.listeners.ListenerWords.{ListenerWords}
use Rattle.server_words.specs.declared.listeners.ListenerWords.TheVariants as words

-- a socket that is listened on, its path by its text
pub data ListenerAsked : Type 0 where
  Udp : SocketAddr → ListenerAsked
  Counted : SocketAddr → ListenerAsked
  Lf : SocketAddr → ListenerAsked
  Unix : Text → ListenerAsked
  Inherited : InheritedKind → ListenerAsked

-- the same, without where a path lies in memory
abbrev pub listener_asked : ListenerWords → ListenerAsked
listener_asked (words.Udp address) = Udp address
listener_asked (words.Counted address) = Counted address
listener_asked (words.Lf address) = Lf address
listener_asked (words.Unix path) = Unix path.now
listener_asked (words.Inherited kind) = Inherited kind

-- the name of an option
abbrev pub name_of : ListenerOption → Text
name_of option.Udp = codes "udp"
name_of option.Counted = codes "counted"
name_of option.Lf = codes "lf"
name_of option.Unix = codes "unix"
name_of option.Inherited = codes "inherited"

-- what a descriptor is, by its name
abbrev pub inherited_of : Text → Option InheritedKind
inherited_of name =
    if bytes_eq name (codes "udp") then Some kind.Udp
    else (if bytes_eq name (codes "counted") then Some kind.Counted
    else (if bytes_eq name (codes "lf") then Some kind.Lf else None))

-- what the value of an option asks for
abbrev pub listener_of : ListenerOption → Text → Option ListenerAsked
listener_of option.Udp text = option_map (λ a. Udp a) (address_in text)
listener_of option.Counted text = option_map (λ a. Counted a) (address_in text)
listener_of option.Lf text = option_map (λ a. Lf a) (address_in text)
listener_of option.Unix [] = None
listener_of option.Unix (c ∷ cs) = Some (Unix (c ∷ cs))
listener_of option.Inherited text = option_map (λ kind. Inherited kind) (inherited_of text)

-- what each value of an option asks for, in the order of the words
abbrev pub asked_in : ListenerOption → List Row → List (Option ListenerAsked)
asked_in option rows = map (listener_of option) (unwrap_or (all_of (name_of option) rows) [])

-- the same of several options, one after the other
abbrev pub all_asked : List ListenerOption → List Row → List (Option ListenerAsked)
all_asked [] rows = []
all_asked (option ∷ options) rows = asked_in option rows ++ all_asked options rows

-- what the options ask for, option by option, where none is refused; there may be nothing
abbrev pub listeners_in : List Row → Option (List ListenerAsked)
listeners_in rows =
    all_given (asked_in option.Udp rows ++ asked_in option.Counted rows ++ asked_in option.Lf rows
    ++ asked_in option.Unix rows ++ asked_in option.Inherited rows)
