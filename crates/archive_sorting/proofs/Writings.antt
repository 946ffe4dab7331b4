-- The text of entries is put piece by piece.
use Rattle.std.proofs.Common.{◌≡◌, ℕ, ◌+◌, ◌-◌, ◌<◌, ◌≤◌, List, [], ◌∷◌, ◌++◌, length, take, drop, sym, ap}
use Rattle.std.proofs.Common.{◌∙◌, subst, arith, append-nil, take-append-drop}
use Rattle.std.specs.Prelude.{slice_index_or, slice_range}
use Rattle.std.proofs.lemmas.List.{map-append, take_all, take_more, get_or_default}
use Rattle.std.proofs.Common.{take-add}
use Rattle.octet_devices.specs.Device.{OutputState}
use Rattle.octet_devices.specs.Held.{HasPut, Held, PutFailed}
use Rattle.octet_devices.proofs.Putting.{has_put_then, put_fails_before, put_fails_then}
use Rattle.syslog_frame.specs.Frames.{framed}
use Rattle.syslog_frame.specs.declared.framing.Framing.TheVariants.{Counted}
use Rattle.archive_text.proofs.Texts.{text_append}
use Rattle.archive_text.specs.Text.{entry_text, text_of}
use Rattle.archive_sorting.specs.Spans.{entries_at, entry_at, octets_at}
use Rattle.archive_sorting.specs.declared.arena.Span.{Span}

abbrev pub spare : Span
spare = record { rank = 0; block = 0; start = 0 }

pub read_at : (p : List Span) (k : ℕ) → k < length p
    → slice_index_or p k spare ≡ slice_index_or p k (slice_index_or p k spare)
read_at p k h = get_or_default p k spare (slice_index_or p k spare) h

fails_longer : (a b : OutputState) (h : Held) (xs ys all : List ℕ) (sent : ℕ) → xs ++ ys ≡ all
    → PutFailed a b h xs sent → PutFailed a b h all sent
fails_longer a b h xs ys all sent e f =
    subst (λ (t : List ℕ). PutFailed a b h t sent) e (put_fails_before a b h xs ys sent f)

text_more : (blocks : List (List ℕ)) (p : List Span) (k : ℕ) (s : Span) → k < length p → s ≡ slice_index_or p k s
    → text_of (entries_at blocks (take (k + 1) p))
    ≡ text_of (entries_at blocks (take k p)) ++ entry_text (entry_at blocks s)
text_more blocks p k s h read =
    ap (λ (q : List Span). text_of (entries_at blocks q))
    (take_more p k s h ∙ ap (λ (x : Span). take k p ++ x ∷ []) (sym read))
    ∙ ap text_of (map-append (entry_at blocks) (take k p) (s ∷ []))
    ∙ text_append (entries_at blocks (take k p)) (entry_at blocks s ∷ [])
    ∙ ap (λ (t : List ℕ). text_of (entries_at blocks (take k p)) ++ t) (append-nil (entry_text (entry_at blocks s)))

text_parts : (blocks : List (List ℕ)) (p : List Span) (k : ℕ)
    → text_of (entries_at blocks (take k p)) ++ text_of (entries_at blocks (drop k p)) ≡ text_of (entries_at blocks p)
text_parts blocks p k =
    sym (text_append (entries_at blocks (take k p)) (entries_at blocks (drop k p)))
    ∙ ap text_of (sym (map-append (entry_at blocks) (take k p) (drop k p)))
    ∙ ap (λ (q : List Span). text_of (entries_at blocks q)) (take-append-drop k p)

-- ---- one entry more

pub page_puts : (blocks : List (List ℕ)) (p : List Span) (i : ℕ) (s : Span) (o : List ℕ) (a b c : OutputState)
    (h k l : Held) → i < length p → s ≡ slice_index_or p i s → o ≡ octets_at blocks s
    → HasPut a b h k (text_of (entries_at blocks (take i p))) → HasPut b c k l (framed Counted o)
    → HasPut a c h l (text_of (entries_at blocks (take (i + 1) p)))
page_puts blocks p i s o a b c h k l within read is before next =
    let all = has_put_then a b c h k l (text_of (entries_at blocks (take i p))) (entry_text (entry_at blocks s)) before
    (subst (λ (q : List ℕ). HasPut b c k l (framed Counted q)) is next) in
    subst (λ (t : List ℕ). HasPut a c h l t) (sym (text_more blocks p i s within read)) all

pub page_fails : (blocks : List (List ℕ)) (p : List Span) (i : ℕ) (s : Span) (o : List ℕ) (a b c : OutputState)
    (h k : Held) (sent : ℕ) → i < length p → s ≡ slice_index_or p i s → o ≡ octets_at blocks s
    → HasPut a b h k (text_of (entries_at blocks (take i p))) → PutFailed b c k (framed Counted o) sent
    → PutFailed a c h (text_of (entries_at blocks p)) sent
page_fails blocks p i s o a b c h k sent within read is before next =
    let all = put_fails_then a b c h k (text_of (entries_at blocks (take i p))) (entry_text (entry_at blocks s)) sent
    before (subst (λ (q : List ℕ). PutFailed b c k (framed Counted q) sent) is next) in
    let more = subst (λ (t : List ℕ). PutFailed a c h t sent) (sym (text_more blocks p i s within read)) all in
    fails_longer a c h (text_of (entries_at blocks (take (i + 1) p))) (text_of (entries_at blocks (drop (i + 1) p)))
    (text_of (entries_at blocks p)) sent (text_parts blocks p (i + 1)) more

pub page_put : (blocks : List (List ℕ)) (p : List Span) (i : ℕ) (a b : OutputState) (h k : Held) → length p ≤ i
    → HasPut a b h k (text_of (entries_at blocks (take i p))) → HasPut a b h k (text_of (entries_at blocks p))
page_put blocks p i a b h k end put =
    subst (λ (q : List Span). HasPut a b h k (text_of (entries_at blocks q))) (take_all i p end) put

-- ---- one part more

text_range : (blocks : List (List ℕ)) (p : List Span) (i j : ℕ) → i ≤ j
    → text_of (entries_at blocks (take j p))
    ≡ text_of (entries_at blocks (take i p)) ++ text_of (entries_at blocks (slice_range p i j))
text_range blocks p i j h =
    let split : j ≡ i + (j - i) = omega (arith, h) in
    ap (λ (n : ℕ). text_of (entries_at blocks (take n p))) split
    ∙ ap (λ (q : List Span). text_of (entries_at blocks q)) (take-add i (j - i) p)
    ∙ ap text_of (map-append (entry_at blocks) (take i p) (take (j - i) (drop i p)))
    ∙ text_append (entries_at blocks (take i p)) (entries_at blocks (take (j - i) (drop i p)))

pub part_puts : (blocks : List (List ℕ)) (p : List Span) (i j : ℕ) (q : List Span) (a b c : OutputState)
    (h k l : Held) → i ≤ j → q ≡ slice_range p i j
    → HasPut a b h k (text_of (entries_at blocks (take i p))) → HasPut b c k l (text_of (entries_at blocks q))
    → HasPut a c h l (text_of (entries_at blocks (take j p)))
part_puts blocks p i j q a b c h k l order is before next =
    subst (λ (t : List ℕ). HasPut a c h l t) (sym (text_range blocks p i j order))
    (has_put_then a b c h k l (text_of (entries_at blocks (take i p)))
    (text_of (entries_at blocks (slice_range p i j))) before
    (subst (λ (x : List Span). HasPut b c k l (text_of (entries_at blocks x))) is next))

pub part_fails : (blocks : List (List ℕ)) (p : List Span) (i j : ℕ) (q : List Span) (a b c : OutputState)
    (h k : Held) (sent : ℕ) → i ≤ j → q ≡ slice_range p i j
    → HasPut a b h k (text_of (entries_at blocks (take i p))) → PutFailed b c k (text_of (entries_at blocks q)) sent
    → PutFailed a c h (text_of (entries_at blocks p)) sent
part_fails blocks p i j q a b c h k sent order is before next =
    fails_longer a c h (text_of (entries_at blocks (take j p))) (text_of (entries_at blocks (drop j p)))
    (text_of (entries_at blocks p)) sent (text_parts blocks p j)
    (subst (λ (t : List ℕ). PutFailed a c h t sent) (sym (text_range blocks p i j order))
    (put_fails_then a b c h k (text_of (entries_at blocks (take i p)))
    (text_of (entries_at blocks (slice_range p i j))) sent before
    (subst (λ (x : List Span). PutFailed b c k (text_of (entries_at blocks x)) sent) is next)))
