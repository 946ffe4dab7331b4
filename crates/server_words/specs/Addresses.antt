-- The address and port that a text spells.
use Rattle.std.proofs.Common.{◌≡◌, ◌∙◌, ℕ, List, [], ◌∷◌, ◌++◌, Option, Some, None, append-nil, inl, inr}
use Rattle.std.proofs.Common.{refl, subst, sym}
use Rattle.std.proofs.lemmas.Option.{none-some}
use Rattle.std.proofs.NetLemmas.Options.{same_parts}
use Rattle.std.proofs.NetLemmas.Sockets.{read_socket_v4_complete, read_socket_v4_sound, read_socket_v6_complete}
use Rattle.std.proofs.NetLemmas.Sockets.{read_socket_v6_sound}
use Rattle.std.specs.Net.Grammar.{IsSocketText, IsSocketV4Text, IsSocketV6Text}
use Rattle.std.specs.Net.Reader.{Read, read_socket_v4, read_socket_v6, v4_parts, v6_parts}
use Rattle.std.specs.declared.net.socket_addr.SocketAddr.{SocketAddr}
use Rattle.std.specs.declared.net.socket_addr.SocketAddr.TheVariants.{V4, V6}
use Rattle.std.specs.declared.net.socket_addr.SocketAddrV4.{SocketAddrV4}
use Rattle.std.specs.declared.net.socket_addr.SocketAddrV6.{SocketAddrV6}
use Rattle.clap.specs.Walk.{Text}
use Rattle.option_values.specs.TimeDecision.{Decided}

-- what is read at the front of a text is the whole of it, or it is no address
at_end : {A B : Type 0} (view : A → B) (Spells : Text → A → Type 0) (text rest : Text) (read : Read B) (a : A)
    → read ≡ Some (view a, rest)
    → ((rest : Text) → read ≡ Some (view a, rest) → (front : Text) × (text ≡ front ++ rest) × Spells front a)
    → ((other : A) → Spells text other → read ≡ Some (view other, [])) → Decided ((x : A) × Spells text x)
at_end view Spells text [] read a is sound complete =
    let (front, split, spells) = sound [] is in
    inl (a, subst (λ (t : Text). Spells t a) (sym (split ∙ append-nil front)) spells)
at_end view Spells text (c ∷ rest) read a is sound complete = inr λ h.
    let left = (same_parts _ _ _ _ (sym is ∙ complete h.0 h.1)).1 in
    absurd (cc left)

-- whether a text is an IPv4 address and a port
decided_v4 : (text : Text) (read : Read (List ℕ × ℕ)) → read_socket_v4 text ≡ read
    → Decided ((a : SocketAddrV4) × IsSocketV4Text text a)
decided_v4 text None is = inr λ h. none-some _ (sym is ∙ read_socket_v4_complete text h.0 h.1)
decided_v4 text (Some ((octets, port), rest)) is =
    let a : SocketAddrV4 = record { ip = record { octets = octets }; port = port } in
    at_end v4_parts IsSocketV4Text text rest (read_socket_v4 text) a is
    (λ r e. read_socket_v4_sound text r a e) (read_socket_v4_complete text)

-- whether a text is an IPv6 address in brackets and a port
decided_v6 : (text : Text) (read : Read (List ℕ × ℕ × ℕ × ℕ)) → read_socket_v6 text ≡ read
    → Decided ((a : SocketAddrV6) × IsSocketV6Text text a)
decided_v6 text None is = inr λ h. none-some _ (sym is ∙ read_socket_v6_complete text h.0 h.1)
decided_v6 text (Some ((segments, port, flowinfo, scope), rest)) is =
    let a : SocketAddrV6 = record {
      ip = record { segments = segments };
      port = port;
      flowinfo = flowinfo;
      scope_id = scope;
    } in
    at_end v6_parts IsSocketV6Text text rest (read_socket_v6 text) a is
    (λ r e. read_socket_v6_sound text r a e) (read_socket_v6_complete text)

either : (text : Text) → Decided ((a : SocketAddrV4) × IsSocketV4Text text a)
    → Decided ((a : SocketAddrV6) × IsSocketV6Text text a) → Decided ((a : SocketAddr) × IsSocketText text a)
either text (inl (a, spelled)) six = inl (V4 a, spelled)
either text (inr four) (inl (a, spelled)) = inl (V6 a, spelled)
either text (inr four) (inr six) = inr λ h. neither text four six h.0 h.1
  where
    neither : (text : Text) → ¬ ((a : SocketAddrV4) × IsSocketV4Text text a)
        → ¬ ((a : SocketAddrV6) × IsSocketV6Text text a) → (a : SocketAddr) → ¬ (IsSocketText text a)
    neither text four six (V4 a) spelled = four (a, spelled)
    neither text four six (V6 a) spelled = six (a, spelled)

-- whether a text is an address and a port is decided
pub decided_address : (text : Text) → Decided ((a : SocketAddr) × IsSocketText text a)
decided_address text =
    either text (decided_v4 text (read_socket_v4 text) refl) (decided_v6 text (read_socket_v6 text) refl)

abbrev pub address_where : (text : Text) → Decided ((a : SocketAddr) × IsSocketText text a) → Option SocketAddr
address_where text (inl (a, spelled)) = Some a
address_where text (inr not_spelled) = None

-- the address and port that the text spells (RFC 4291, 2.2, for IPv6 in brackets), where it spells one
unfoldable pub address_in : Text → Option SocketAddr
address_in text = address_where text (decided_address text)
