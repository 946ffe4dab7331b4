-- All spans of a record that were put into a room.
use Rattle.std.proofs.Common.{◌≡◌, ℕ, ◌+◌, ◌-◌, List, [], ◌∷◌, ◌++◌, length, sym, ap, subst, ◌∙◌, append_assoc}
use Rattle.std.proofs.Common.{arith}
use Rattle.std.proofs.lemmas.List.{length-append}
use Rattle.octet_language.specs.Language.{Each}
use Rattle.syslog_value.specs.Parts.{ElementParts, MessageParts, Parts}
use Rattle.syslog_fields.specs.Grammar.{Element}
use Rattle.syslog_fields.specs.Time.{CivilTime}
use Rattle.syslog_reading.specs.ViewParts.{IsViewOf, ViewParts, octets_of}
use Rattle.c_library.specs.Faults.{IsWithin}
use Rattle.c_library.specs.Parts.{Spells}
use Rattle.c_library.specs.PartSpans.{IsHeaderShown, Puts, ShowsAll, ShowsElements, field_spans, header_fields}
use Rattle.c_library.specs.PartSpans.{part_span, placed}
use Rattle.c_library.specs.declared.part.SyslogboxPartSpan.{SyslogboxPartSpan}
use Rattle.c_library.proofs.Finding.{spelled}
use Rattle.c_library.proofs.Heading.{shows_further}
use Rattle.c_library.proofs.Placing.{placed_more}

all_placed : (header cs room0 room1 room2 room3 : List SyslogboxPartSpan) (one : SyslogboxPartSpan) (count : ℕ)
    → length header ≡ 7 → room1 ≡ placed 0 header room0 → room2 ≡ placed 7 cs room1 → count ≡ 7 + length cs
    → room3 ≡ placed count (one ∷ []) room2 → room3 ≡ placed 0 (header ++ (cs ++ one ∷ [])) room0
all_placed header cs room0 room1 room2 room3 one count seven e f g h =
    h
    ∙ ap (λ (u : List SyslogboxPartSpan). placed count (one ∷ []) u)
    (f ∙ ap (λ (u : List SyslogboxPartSpan). placed 7 cs u) e
    ∙ placed_more 0 7 header cs room0 (omega (arith, seven)))
    ∙ placed_more 0 count (header ++ cs) (one ∷ []) room0 (omega (arith, g, seven, length-append header cs))
    ∙ ap (λ (u : List SyslogboxPartSpan). placed 0 u room0) (append_assoc header cs (one ∷ []))

pub record_shown : (b : List ℕ) (s : ViewParts) (at count : ℕ) (header cs room0 room1 room2 room3 : List SyslogboxPartSpan)
    (one : SyslogboxPartSpan) (text behind message : List ℕ) → IsWithin b → (seen : IsViewOf b s)
    → IsHeaderShown b s at header → s.elements ≡ text ++ behind → Each Element seen.0.elements text
    → ((es : List ElementParts) → Each Element es text → ShowsElements at es text cs)
    → room1 ≡ placed 0 header room0 → Puts room1 7 (length text) cs room2 count
    → one ≡ part_span 11 (length b - length message) (length message) → message ≡ octets_of s.message
    → room3 ≡ placed count (one ∷ []) room2
    → (p : Parts CivilTime) × Spells b p × (all : List SyslogboxPartSpan)
    × ShowsAll b p all × (room3 ≡ placed 0 all room0) × (count + 1 ≡ length all)
record_shown b s at count header cs room0 room1 room2 room3 one text behind message within seen heads parts each shows
    e puts f g h =
    let hd = heads seen in
    let has = seen.4 in
    let seven : length header ≡ 7 = ap length hd.6 in
    let same : message ≡ octets_of seen.0.message = g ∙ ap (λ (m : MessageParts). octets_of m) has.message in
    let spans = shows_further at seen.0.elements text behind cs (shows seen.0.elements each) in (
      seen.0,
      spelled b s within seen,
      header ++ (cs ++ one ∷ []),
      record {
        time_text = hd.0;
        data_text = s.elements;
        end_text = hd.1;
        time_is = hd.2;
        data_is = has.elements;
        end_is = hd.3;
        spelled = hd.4;
        elements = cs;
        shown = subst (λ (n : ℕ). ShowsElements n seen.0.elements s.elements cs) hd.5
            (subst (λ (u : List ℕ). ShowsElements at seen.0.elements u cs) (sym parts) spans);
        parts = ap (λ (u : List SyslogboxPartSpan). u ++ (cs ++ one ∷ [])) hd.6
            ∙ ap (λ (u : SyslogboxPartSpan). field_spans 1 0 (header_fields seen.0 hd.0) ++ (cs ++ u ∷ []))
            (f ∙ ap (λ (u : List ℕ). part_span 11 (length b - length u) (length u)) same);
      },
      all_placed header cs room0 room1 room2 room3 one count seven e puts.room_is puts.result_is h,
      omega (arith, puts.result_is, seven, length-append header (cs ++ one ∷ []), length-append cs (one ∷ [])),
    )
