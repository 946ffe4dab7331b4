-- What is parsed is the address that the text spells.
use Rattle.std.proofs.Common.{◌≡◌, Some, None, ap, inl, inr, refl}
use Rattle.std.proofs.NetLemmas.Theorems.{IsSocketText_unique}
use Rattle.std.specs.Net.Grammar.{IsSocketText}
use Rattle.std.specs.declared.net.socket_addr.SocketAddr.{SocketAddr}
use Rattle.clap.specs.Walk.{Text}
use Rattle.option_values.specs.TimeDecision.{Decided}
use Rattle.server_words.specs.Addresses.{address_in, address_where, decided_address}

is_where : (text : Text) (a : SocketAddr) (d : Decided ((x : SocketAddr) × IsSocketText text x)) → IsSocketText text a
    → Some a ≡ address_where text d
is_where text a (inl (b, spelled)) h = ap Some (IsSocketText_unique text a b h spelled)
is_where text a (inr never) h = absurd (never (a, h))

none_where : (text : Text) (d : Decided ((x : SocketAddr) × IsSocketText text x))
    → ((a : SocketAddr) → ¬ (IsSocketText text a)) → None ≡ address_where text d
none_where text (inl (b, spelled)) h = absurd (h b spelled)
none_where text (inr never) h = refl

pub spelled_is : (text : Text) (a : SocketAddr) → IsSocketText text a → Some a ≡ address_in text
unfolding address_in
spelled_is text a h = is_where text a (decided_address text) h

pub unspelled_is : (text : Text) → ((a : SocketAddr) → ¬ (IsSocketText text a)) → None ≡ address_in text
unfolding address_in
unspelled_is text h = none_where text (decided_address text) h
