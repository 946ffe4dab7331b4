-- Texts without a line feed.
use Rattle.std.proofs.Common.{◌≡◌, ◌≢◌, ℕ, zero, suc, ◌+◌, ◌/◌, ◌%◌, true, false, List, [], ◌∷◌, ◌++◌, drop, take}
use Rattle.std.proofs.Common.{arith, refl, sym, ap}
use Rattle.std.proofs.Common.{◌∙◌, append_assoc, subst}
use Rattle.std.specs.Prelude.{bytes_eq, ◌==◌, Bool, nat_lt, codes, decimal, if◌then◌else◌, slice_index, cond}
use Rattle.std.specs.List.{flat_map}
use Rattle.std.specs.Char.{digit_char}
use Rattle.std.specs.Fmt.{digit_glyph, digits, digits_onto}
use Rattle.std.specs.Net.Socket.{v4_ip, v4_port, v6_ip, v6_port, v6_scope_id}
use Rattle.std.specs.Net.Addr.{ipv4_octets, ipv6_segments, octets_of}
use Rattle.std.specs.Net.Text.{compressed_text, groups_text, hex, hex_groups_text, ipv4_text, ipv6_text}
use Rattle.std.specs.Net.Text.{leading_zero_digits, longest_zero_run}
use Rattle.std.specs.Net.Text.{scope_text, socket_text}
use Rattle.std.specs.declared.net.socket_addr.SocketAddr.{SocketAddr}
use Rattle.std.specs.declared.net.socket_addr.SocketAddr.TheVariants.{V4, V6}
use Rattle.std.proofs.lemmas.Bool.{eq-eqb, false≢true}
use Rattle.frame_engine.specs.Line.{fault_text, field_name}
use Rattle.syslog_reading.specs.declared.fault.Fault.{Fault}
use Rattle.syslog_reading.specs.declared.fault.Fault.TheVariants.{Syntax, InstantRange, RepeatedId}
use Rattle.syslog_reading.specs.declared.fault.Field.{Field}
use Rattle.syslog_reading.specs.declared.fault.Field.TheVariants as field
use Rattle.syslog_frame.specs.Frames.{IsLine}
use Rattle.syslog_frame.specs.declared.framing.Framing.{Framing}
use Rattle.syslog_frame.specs.declared.framing.Framing.TheVariants.{Counted, Lf}
use Rattle.syslog_collect.specs.declared.outcome.Outcome.{Outcome}
use Rattle.syslog_collect.specs.declared.outcome.Outcome.TheVariants.{New, Held, Refused, RefusedLegacy, TooLong}
use Rattle.syslog_collect.specs.declared.outcome.Outcome.TheVariants.{BadCount}
use Rattle.serve_engine.specs.Lines.{at_text, batches_text, counted_text, counts_text, framing_text, happening_text}
use Rattle.serve_engine.specs.Lines.{is_refused}
use Rattle.serve_engine.specs.Lines.{not_allowed_text, over_rate_text, peer_text, records_text, refusals_text, refused_text, way_text}
use Rattle.serve_engine.specs.Notes.{IsNote}
use Rattle.serve_engine.specs.declared.counts.ServeCounts.{ServeCounts}
use Rattle.serve_engine.specs.declared.lines.Happening.{Happening}
use Rattle.serve_engine.specs.declared.lines.Happening.TheVariants as happening
use Rattle.serve_engine.specs.declared.peers.Way.{Way}
use Rattle.serve_engine.specs.declared.peers.Way.TheVariants.{Stream, Udp, Unix}

-- ---- parts of texts

abbrev is_word : List ℕ → Bool
is_word [] = true
is_word (x ∷ xs) = if x == 10 then false else is_word xs

word_by : (x : ℕ) (xs : List ℕ) (b : Bool) → (x == 10) ≡ b → (is_word xs ≡ true → IsLine xs)
    → (if b then false else is_word xs) ≡ true → IsLine (x ∷ xs)
word_by x xs true same rest is = absurd (false≢true is)
word_by x xs false same rest is = (λ e. absurd (false≢true (sym same ∙ eq-eqb x 10 e)), rest is)

word : (xs : List ℕ) → is_word xs ≡ true → IsLine xs
word [] is = tt
word (x ∷ xs) is = word_by x xs (x == 10) refl (word xs) is

both : (a b : List ℕ) → IsLine a → IsLine b → IsLine (a ++ b)
both [] b p q = q
both (x ∷ a) b p q = (p.0, both a b p.1 q)

dropped : (n : ℕ) (a : List ℕ) → IsLine a → IsLine (drop n a)
dropped zero a p = p
dropped (suc n) [] p = tt
dropped (suc n) (x ∷ a) p = dropped n a p.1

each : (f : ℕ → List ℕ) → ((x : ℕ) → IsLine (f x)) → (xs : List ℕ) → IsLine (flat_map f xs)
each f h [] = tt
each f h (x ∷ xs) = both (f x) (flat_map f xs) (h x) (each f h xs)

chosen : (b : Bool) (x y : List ℕ) → IsLine x → IsLine y → IsLine (if b then x else y)
chosen true x y p q = p
chosen false x y p q = q

-- ---- numbers

glyph : (d : ℕ) → digit_glyph false d ≢ 10
glyph d = by (nat_lt d 10)
  where
    by : (b : Bool) → (if b then 48 + d else 87 + d) ≢ 10
    by true e = omega (arith, e)
    by false e = omega (arith, e)

onto : (k n : ℕ) (acc : List ℕ) → IsLine acc → IsLine (digits_onto k 10 false n acc)
onto zero n acc p = p
onto (suc k) n acc p = chosen (n / 10 == 0) (digit_glyph false (n % 10) ∷ acc)
    (digits_onto k 10 false (n / 10) (digit_glyph false (n % 10) ∷ acc)) (glyph (n % 10), p)
    (onto k (n / 10) (digit_glyph false (n % 10) ∷ acc) (glyph (n % 10), p))

pub number : (n : ℕ) → IsLine (decimal n)
unfolding digits
number n = onto 64 n [] tt

character : (d : ℕ) → digit_char d ≢ 10
character d = by (nat_lt d 10)
  where
    by : (b : Bool) → cond b (48 + d) (87 + d) ≢ 10
    by true e = omega (arith, e)
    by false e = omega (arith, e)

-- ---- addresses

hexes : (n : ℕ) → IsLine (hex n)
unfolding hex
hexes n = dropped (leading_zero_digits n) _ (character _, (character _, (character _, (character _, tt))))

groups : (xs : List ℕ) → IsLine (groups_text xs)
groups [] = tt
groups (x ∷ xs) = both (hex x) _ (hexes x) (each (λ t. codes ":" ++ hex t) (λ t. both (codes ":") (hex t) (word
    (codes ":") refl) (hexes t)) xs)

compressed : (xs : List ℕ) (at len : ℕ) → IsLine (compressed_text xs (at, len))
compressed xs at len = chosen (nat_lt 1 len) _ (groups_text xs)
    (both (groups_text (take at xs) ++ codes "::") (groups_text (drop (at + len) xs))
    (both (groups_text (take at xs)) (codes "::") (groups (take at xs)) (word (codes "::") refl))
    (groups (drop (at + len) xs))) (groups xs)

-- words, and others behind them that are known
closed : (a b : List ℕ) → IsLine a → is_word b ≡ true → IsLine (a ++ b)
closed a b p is = both a b p (word b is)

dotted : (xs : List ℕ) → IsLine (ipv4_text xs)
dotted xs =
    let a = decimal (slice_index xs 0) in
    let b = decimal (slice_index xs 1) in
    let c = decimal (slice_index xs 2) in
    let d = decimal (slice_index xs 3) in
    both (a ++ codes "." ++ b ++ codes "." ++ c ++ codes ".") d
    (closed (a ++ codes "." ++ b ++ codes "." ++ c) (codes ".") (both (a ++ codes "." ++ b ++ codes ".") c
    (closed (a ++ codes "." ++ b) (codes ".") (both (a ++ codes ".") b
    (closed a (codes ".") (number (slice_index xs 0)) refl) (number (slice_index xs 1))) refl)
    (number (slice_index xs 2))) refl) (number (slice_index xs 3))

hex_groups : (xs : List ℕ) → IsLine (hex_groups_text xs)
unfolding hex_groups_text
hex_groups xs = compressed xs (longest_zero_run xs).0 (longest_zero_run xs).1

colons : (xs : List ℕ) → IsLine (ipv6_text xs)
unfolding ipv6_text
colons xs =
    chosen (bytes_eq (take 6 xs) (0 ∷ 0 ∷ 0 ∷ 0 ∷ 0 ∷ 0xffff ∷ [])) (codes "::ffff:" ++ ipv4_text (octets_of
    (drop 6 xs)))
    (hex_groups_text xs) (both (codes "::ffff:") (ipv4_text (octets_of (drop 6 xs))) (word (codes "::ffff:") refl)
    (dotted (octets_of (drop 6 xs)))) (hex_groups xs)

scope : (n : ℕ) → IsLine (scope_text n)
scope n = chosen (n == 0) [] (codes "%" ++ decimal n) tt (both (codes "%") (decimal n) (word (codes "%") refl)
    (number n))

address : (peer : SocketAddr) → IsLine (socket_text peer)
address (V4 a) =
    let ip = ipv4_text (ipv4_octets (v4_ip a)) in
    both (ip ++ codes ":") (decimal (v4_port a)) (closed ip (codes ":") (dotted (ipv4_octets (v4_ip a))) refl)
    (number (v4_port a))
address (V6 a) =
    let ip = ipv6_text (ipv6_segments (v6_ip a)) in
    let zone = scope_text (v6_scope_id a) in
    both (codes "[" ++ ip ++ zone ++ codes "]:") (decimal (v6_port a))
    (closed (codes "[" ++ ip ++ zone) (codes "]:") (both (codes "[" ++ ip) zone (both (codes "[") ip (word
    (codes "[") refl)
    (colons (ipv6_segments (v6_ip a)))) (scope (v6_scope_id a))) refl) (number (v6_port a))

-- ---- lines

-- words, and a line feed behind them
note : (words text : List ℕ) → IsLine words → text ≡ words ++ codes "\n" → IsNote text
note words text none ends = record { words = words; none = none; ends = ends }

-- words before a line
led : (words text : List ℕ) → IsLine words → IsNote text → IsNote (words ++ text)
led words text none n = note (words ++ n.words) (words ++ text) (both words n.words none n.none)
    (ap (λ (t : List ℕ). words ++ t) n.ends ∙ sym (append_assoc words n.words (codes "\n")))

-- a line that is known, without its last octet
known : (words text : List ℕ) → is_word words ≡ true → text ≡ words ++ codes "\n" → IsNote text
known words text is ends = note words text (word words is) ends

framing_words : (framing : Framing) → IsLine (framing_text framing)
framing_words Counted = word (codes "counted ") refl
framing_words Lf = word (codes "lf ") refl

way_words : (way : Way) → IsLine (way_text way)
way_words (Udp peer) = both (codes "udp ") (socket_text peer ++ codes " ") (word (codes "udp ") refl)
    (closed (socket_text peer) (codes " ") (address peer) refl)
way_words Unix = word (codes "unix - ") refl
way_words (Stream framing peer) = both (framing_text framing) (socket_text peer ++ codes " ") (framing_words framing)
    (closed (socket_text peer) (codes " ") (address peer) refl)

peer_words : (way : Way) → IsLine (peer_text way)
peer_words (Udp peer) = address peer
peer_words Unix = word (codes "-") refl
peer_words (Stream framing peer) = address peer

field_words : (f : Field) → IsLine (field_name f)
field_words field.Priority = word (codes "priority") refl
field_words field.Version = word (codes "version") refl
field_words field.Timestamp = word (codes "timestamp") refl
field_words field.Hostname = word (codes "hostname") refl
field_words field.AppName = word (codes "app-name") refl
field_words field.ProcId = word (codes "procid") refl
field_words field.MsgId = word (codes "msgid") refl
field_words field.StructuredData = word (codes "structured-data") refl
field_words field.Message = word (codes "message") refl

fault_words : (f : Fault) → IsLine (fault_text f)
fault_words (Syntax f at) =
    both (codes "syntax " ++ field_name f ++ codes " ") (decimal at)
    (closed (codes "syntax " ++ field_name f) (codes " ") (both (codes "syntax ") (field_name f) (word
    (codes "syntax ") refl)
    (field_words f)) refl) (number at)
fault_words (InstantRange at) = both (codes "instant-range ") (decimal at) (word (codes "instant-range ") refl)
    (number at)
fault_words (RepeatedId at) = both (codes "repeated-id ") (decimal at) (word (codes "repeated-id ") refl) (number at)

pub refused_note : (way : Way) (n : ℕ) (o : Outcome) → is_refused o ≡ true → IsNote (refused_text way n o)
refused_note way n New is = absurd (cc)
refused_note way n Held is = absurd (cc)
refused_note way n (Refused fault) is =
    let words = decimal n ++ codes " " ++ fault_text fault in
    led (way_text way) (words ++ codes "\n") (way_words way) (note words (words ++ codes "\n")
    (both (decimal n ++ codes " ") (fault_text fault) (closed (decimal n) (codes " ") (number n) refl)
    (fault_words fault)) refl)
refused_note way n (RefusedLegacy offset) is =
    let words = decimal n ++ codes " legacy-not-utf8 " ++ decimal offset in
    led (way_text way) (words ++ codes "\n") (way_words way) (note words (words ++ codes "\n")
    (both (decimal n ++ codes " legacy-not-utf8 ") (decimal offset)
    (closed (decimal n) (codes " legacy-not-utf8 ") (number n) refl) (number offset)) refl)
refused_note way n TooLong is = led (way_text way) (decimal n ++ codes " too-long\n") (way_words way)
    (led (decimal n) (codes " too-long\n") (number n) (known (codes " too-long") (codes " too-long\n") refl refl))
refused_note way n (BadCount at) is = absurd (cc)

at_note : (way : Way) (words : List ℕ) (at : ℕ) → is_word words ≡ true → IsNote (at_text way words at)
at_note way words at is = led (way_text way) (words ++ (decimal at ++ codes "\n")) (way_words way)
    (led words (decimal at ++ codes "\n") (word words is) (note (decimal at) (decimal at ++ codes "\n")
    (number at) refl))

led_by : (way : Way) {text : List ℕ} → IsNote text → IsNote (peer_text way ++ text)
led_by way {text = text} n = led (peer_text way) text (peer_words way) n

pub happening_note : (way : Way) (h : Happening) → IsNote (happening_text way h)
happening_note way (happening.Unterminated start) = at_note way (codes "unterminated ") start refl
happening_note way (happening.BadCount at) = at_note way (codes "bad-count ") at refl
happening_note way happening.Reset = led_by way (known (codes " reset") (codes " reset\n") refl refl)
happening_note way happening.Idle = led_by way (known (codes " idle") (codes " idle\n") refl refl)
happening_note way happening.TurnedAway = led_by way
    (known (codes " closed: too many connections") (codes " closed: too many connections\n") refl refl)
happening_note way happening.NotAllowed = led_by way (known (codes " not allowed") (codes " not allowed\n") refl refl)
happening_note way happening.OverRate = led_by way (known (codes " over-rate") (codes " over-rate\n") refl refl)
happening_note way happening.NoMemory = led_by way
    (known (codes " closed: want of memory") (codes " closed: want of memory\n") refl refl)
happening_note way happening.Dropped = led_by way
    (known (codes " dropped: want of memory") (codes " dropped: want of memory\n") refl refl)

counted : (words : List ℕ) (n : ℕ) → is_word words ≡ true → IsLine (words ++ decimal n)
counted words n is = both words (decimal n) (word words is) (number n)

three : (u v w : List ℕ) (l m n : ℕ) → is_word u ≡ true → is_word v ≡ true → is_word w ≡ true
    → IsLine (u ++ (decimal l ++ (v ++ (decimal m ++ (w ++ decimal n)))))
three u v w l m n a b c =
    both u (decimal l ++ (v ++ (decimal m ++ (w ++ decimal n)))) (word u a)
    (both (decimal l) (v ++ (decimal m ++ (w ++ decimal n))) (number l) (both v (decimal m ++ (w ++ decimal n))
    (word v b)
    (both (decimal m) (w ++ decimal n) (number m) (counted w n c))))

counted_words : (c : ServeCounts) → IsLine (counted_text c)
counted_words c =
    both (records_text c) (refusals_text c ++ batches_text c) (three (codes "received ") (codes " new ")
    (codes " held ") c.received c.new c.held refl refl refl)
    (both (refusals_text c) (batches_text c)
    (three (codes " refused ") (codes " too-long ") (codes " connections ") c.refused c.too_long c.connections refl
    refl refl)
    (three (codes " batches ") (codes " octets ") (codes " quiet ") c.batches c.octets c.quiet refl refl refl))

not_allowed_words : (b : Bool) (c : ServeCounts) → IsLine (not_allowed_text b c)
not_allowed_words true c = both (codes " not-allowed ") (decimal c.not_allowed) (word (codes " not-allowed ") refl)
    (number c.not_allowed)
not_allowed_words false c = tt

over_rate_words : (b : Bool) (c : ServeCounts) → IsLine (over_rate_text b c)
over_rate_words true c = both (codes " over-rate ") (decimal c.over_rate) (word (codes " over-rate ") refl)
    (number c.over_rate)
over_rate_words false c = tt

pub counts_note : (c : ServeCounts) (a b : Bool) → IsNote (counts_text c a b)
counts_note c a b = led (counted_text c) (not_allowed_text a c ++ (over_rate_text b c ++ codes "\n")) (counted_words c)
    (led (not_allowed_text a c) (over_rate_text b c ++ codes "\n") (not_allowed_words a c)
    (note (over_rate_text b c) (over_rate_text b c ++ codes "\n") (over_rate_words b c) refl))

-- the lines of which the text is known
pub full_note : IsNote (codes "store full\n")
full_note = known (codes "store full") (codes "store full\n") refl refl

pub waits_note : IsNote (codes "store waits: want of memory\n")
waits_note = known (codes "store waits: want of memory") (codes "store waits: want of memory\n") refl refl

pub fault_note : IsNote (codes "store fault\n")
fault_note = known (codes "store fault") (codes "store fault\n") refl refl

pub room_note : IsNote (codes "store has room\n")
room_note = known (codes "store has room") (codes "store has room\n") refl refl

pub source_note : IsNote (codes "source fault\n")
source_note = known (codes "source fault") (codes "source fault\n") refl refl

-- a text that was put into an empty line
pub put_note : (front text line : List ℕ) → front ≡ [] → line ≡ front ++ text → IsNote text → IsNote line
put_note front text line none is n =
    subst IsNote (sym (is ∙ ap (λ (t : List ℕ). t ++ text) none)) n
