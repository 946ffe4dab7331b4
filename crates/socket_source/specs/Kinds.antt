-- Which sockets are those of datagrams.
use Rattle.std.specs.Prelude.{◌≡◌, ℕ, zero, suc, Bool, true, false, List, slice_index_or}
use Rattle.socket_source.specs.declared.bound.Bound.{Bound}
use Rattle.socket_source.specs.declared.bound.Bound.TheVariants.{Streams, Datagrams}
use Rattle.socket_source.specs.declared.listener.Listener.{Listener}
use Rattle.socket_source.specs.declared.listener.Listener.TheVariants.{Udp, Counted, Lf, Unix, Inherited}

abbrev pub is_datagrams : Bound → Bool
is_datagrams (Streams socket framing) = false
is_datagrams (Datagrams socket addressed) = true

-- its datagrams come with the addresses of their senders
abbrev pub is_addressed : Bound → Bool
is_addressed (Streams socket framing) = false
is_addressed (Datagrams socket addressed) = addressed

-- datagrams that come to an address have senders; those of an inherited socket may
abbrev pub HasSenders : Listener → Bound → Type 0
HasSenders (Udp addr) bound = is_addressed bound ≡ true
HasSenders (Counted addr) bound = Unit {0}
HasSenders (Lf addr) bound = Unit {0}
HasSenders (Unix path) bound = Unit {0}
HasSenders (Inherited kind) bound = Unit {0}

-- whether a number is that of a listener of datagrams, where these are the kinds of the listeners, whose numbers begin at 1
abbrev pub has_datagrams : List Bool → ℕ → Bool
has_datagrams kinds zero = false
has_datagrams kinds (suc listener) = slice_index_or kinds listener false
