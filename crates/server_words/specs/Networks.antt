-- Whom a server is asked to take records from.
use Rattle.std.proofs.Common.{◌≡◌, ◌∙◌, ℕ, List, [], ◌∷◌, ◌++◌, Option, Some, None, append-nil, inl, inr, refl, sym, subst}
use Rattle.std.proofs.Common.{lit≤}
use Rattle.std.proofs.lemmas.Option.{none-some}
use Rattle.std.proofs.NetLemmas.Ipv4.{read_ipv4_complete, read_ipv4_sound}
use Rattle.std.proofs.NetLemmas.Ipv6.{EndsGroups-nil, read_ipv6_complete, read_ipv6_sound}
use Rattle.std.proofs.NetLemmas.Options.{same_parts}
use Rattle.std.specs.Net.Addr.{ipv4_octets, ipv6_segments}
use Rattle.std.specs.Net.Grammar.{IsIpText, IsIpv4Text, IsIpv6Text}
use Rattle.std.specs.Net.Reader.{Read, read_ipv4, read_ipv6}
use Rattle.std.specs.Prelude.{◌-◌, ◌%◌, ◌^◌, ◌==◌, ◌&&◌, codes, if◌then◌else◌, length, map, nat_le, nat_lt, option_and_then}
use Rattle.std.specs.Prelude.{unwrap_or}
use Rattle.std.specs.List.{position_or_len}
use Rattle.std.specs.declared.net.ip_addr.IpAddr.{IpAddr}
use Rattle.std.specs.declared.net.ip_addr.IpAddr.TheVariants.{V4, V6}
use Rattle.std.specs.declared.net.ipv4_addr.Ipv4Addr.{Ipv4Addr}
use Rattle.std.specs.declared.net.ipv6_addr.Ipv6Addr.{Ipv6Addr}
use Rattle.clap.specs.Walk.{Row, Text, all_of}
use Rattle.peer_rules.specs.Addresses.{full_length, number_of, width_of}
use Rattle.peer_rules.specs.NetworkTexts.{address_part, length_part}
use Rattle.peer_rules.specs.declared.network.Network.{Network}
use Rattle.option_values.specs.Numbers.{number_in}
use Rattle.option_values.specs.TimeDecision.{Decided}
use Rattle.option_values.specs.Values.{all_given}

-- ---- addresses

-- what is read at the front of a text is the whole of it, or it is no address
at_end : {A : Type 0} (view : A → List ℕ) (Spells : Text → A → Type 0) (text rest : Text) (read : Read (List ℕ)) (a : A)
    → read ≡ Some (view a, rest)
    → ((rest : Text) → read ≡ Some (view a, rest) → (front : Text) × (text ≡ front ++ rest) × Spells front a)
    → ((other : A) → Spells text other → read ≡ Some (view other, [])) → Decided ((x : A) × Spells text x)
at_end view Spells text [] read a is sound complete =
    let (front, split, spells) = sound [] is in
    inl (a, subst (λ (t : Text). Spells t a) (sym (split ∙ append-nil front)) spells)
at_end view Spells text (c ∷ rest) read a is sound complete = inr λ h.
    let left = (same_parts _ _ _ _ (sym is ∙ complete h.0 h.1)).1 in
    absurd (cc left)

whole_v4 : (text : Text) (a : Ipv4Addr) → IsIpv4Text text a → read_ipv4 text ≡ Some (ipv4_octets a, [])
whole_v4 text a h =
    subst (λ (t : Text). read_ipv4 t ≡ Some (ipv4_octets a, [])) (append-nil text)
    (read_ipv4_complete text (ipv4_octets a) [] h (lit≤ tt))

whole_v6 : (text : Text) (a : Ipv6Addr) → IsIpv6Text text a → read_ipv6 text ≡ Some (ipv6_segments a, [])
whole_v6 text a h =
    subst (λ (t : Text). read_ipv6 t ≡ Some (ipv6_segments a, [])) (append-nil text)
    (read_ipv6_complete text (ipv6_segments a) [] h EndsGroups-nil)

-- whether a text is an IPv4 address
decided_v4 : (text : Text) (read : Read (List ℕ)) → read_ipv4 text ≡ read → Decided ((a : Ipv4Addr) × IsIpv4Text text a)
decided_v4 text None is = inr λ h. none-some _ (sym is ∙ whole_v4 text h.0 h.1)
decided_v4 text (Some (octets, rest)) is =
    let a : Ipv4Addr = record { octets = octets } in
    at_end ipv4_octets IsIpv4Text text rest (read_ipv4 text) a is
    (λ r e. read_ipv4_sound text (ipv4_octets a) r e) (whole_v4 text)

-- whether a text is an IPv6 address
decided_v6 : (text : Text) (read : Read (List ℕ)) → read_ipv6 text ≡ read → Decided ((a : Ipv6Addr) × IsIpv6Text text a)
decided_v6 text None is = inr λ h. none-some _ (sym is ∙ whole_v6 text h.0 h.1)
decided_v6 text (Some (segments, rest)) is =
    let a : Ipv6Addr = record { segments = segments } in
    at_end ipv6_segments IsIpv6Text text rest (read_ipv6 text) a is
    (λ r e. read_ipv6_sound text (ipv6_segments a) r e) (whole_v6 text)

either : (text : Text) → Decided ((a : Ipv4Addr) × IsIpv4Text text a) → Decided ((a : Ipv6Addr) × IsIpv6Text text a)
    → Decided ((a : IpAddr) × IsIpText text a)
either text (inl (a, spelled)) six = inl (V4 a, spelled)
either text (inr four) (inl (a, spelled)) = inl (V6 a, spelled)
either text (inr four) (inr six) = inr λ h. neither text four six h.0 h.1
  where
    neither : (text : Text) → ¬ ((a : Ipv4Addr) × IsIpv4Text text a) → ¬ ((a : Ipv6Addr) × IsIpv6Text text a)
        → (a : IpAddr) → ¬ (IsIpText text a)
    neither text four six (V4 a) spelled = four (a, spelled)
    neither text four six (V6 a) spelled = six (a, spelled)

-- whether a text is an address is decided
pub decided_ip : (text : Text) → Decided ((a : IpAddr) × IsIpText text a)
decided_ip text = either text (decided_v4 text (read_ipv4 text) refl) (decided_v6 text (read_ipv6 text) refl)

abbrev pub ip_where : (text : Text) → Decided ((a : IpAddr) × IsIpText text a) → Option IpAddr
ip_where text (inl (a, spelled)) = Some a
ip_where text (inr not_spelled) = None

-- the address that the text spells, where it spells one
unfoldable pub ip_in : Text → Option IpAddr
ip_in text = ip_where text (decided_ip text)

-- ---- networks

-- the number of the first address of a network, and how many of its 128 bits all addresses of the network begin with
abbrev pub NetworkAsked : Type 0
NetworkAsked = ℕ × ℕ

abbrev pub network_asked : Network → NetworkAsked
network_asked network = (network.first, network.length)

-- the length that stands behind a slash; without one, all bits of the address
abbrev pub length_in : IpAddr → Text → Option ℕ
length_in address text =
    if nat_lt (position_or_len (λ b. b == 47) text) (length text) then number_in 0 255 (length_part text)
    else Some (width_of address)

-- so many bits of an address, where it has as many, and all behind them are 0
abbrev pub network_from : IpAddr → ℕ → Option NetworkAsked
network_from address bits =
    if nat_le bits (width_of address) && (number_of address % 2 ^ (128 - full_length address bits) == 0)
    then Some (number_of address, full_length address bits) else None

-- the network that a text writes, where it writes one
abbrev pub network_in : Text → Option NetworkAsked
network_in text =
    option_and_then (λ address. option_and_then (network_from address) (length_in address text)) (ip_in (address_part text))

-- those of `--allow`, where none is refused
abbrev pub networks_in : List Row → Option (List NetworkAsked)
networks_in rows = all_given (map network_in (unwrap_or (all_of (codes "allow") rows) []))
