-- The text of entries is put piece by piece.
use Rattle.std.proofs.Common.{◌≡◌, ℕ, ◌+◌, ◌*◌, ◌^◌, ◌<◌, ◌≤◌, List, [], ◌∷◌, ◌++◌, length, take, drop, sym, ap}
use Rattle.std.proofs.Common.{◌∙◌, subst, arith, append-nil, take-append-drop, length-append}
use Rattle.std.specs.Prelude.{decimal, slice_index_or, Vec}
use Rattle.std.specs.declared.alloc.Global.{Global}
use Rattle.std.specs.List.{AllByRecursion}
use Rattle.std.proofs.lemmas.Fmt.{length-decimal-le}
use Rattle.std.proofs.lemmas.List.{map-append, take_all, take_more}
use Rattle.octet_devices.specs.Device.{OutputState}
use Rattle.octet_devices.specs.Held.{HasPut, Held, PutFailed}
use Rattle.octet_devices.proofs.Putting.{has_put_then, put_fails_before, put_fails_then}
use Rattle.syslog_frame.specs.Frames.{framed}
use Rattle.syslog_frame.specs.declared.framing.Framing.TheVariants.{Counted}
use Rattle.archive_text.specs.Entries.{Entry}
use Rattle.archive_text.specs.Text.{entry_text, text_of}
use Rattle.archive_text.specs.declared.limits.TheConstants.{ENTRY_MAX}
use Rattle.archive_pages.specs.Spans.{IsWithin, entries_at, entry_at, lists_of, octets_at}
use Rattle.archive_pages.specs.Pages.{ArePaged, entries_of, joined, page_at}
use Rattle.archive_pages.specs.declared.arena.Span.{Span}
use Rattle.archive_pages.proofs.PageLists.{count_is, joined-append, joined_from, page_is}
use Rattle.archive_pages.proofs.Searching.{page_all}
use Rattle.archive_pages.proofs.Adding.{count_of}
use Rattle.archive_text.proofs.Texts.{text_append}

-- the whole text, of which a prefix was put
fails_longer : (a b : OutputState) (h : Held) (xs ys all : List ℕ) (sent : ℕ) → xs ++ ys ≡ all
    → PutFailed a b h xs sent → PutFailed a b h all sent
fails_longer a b h xs ys all sent e f =
    subst (λ (t : List ℕ). PutFailed a b h t sent) e (put_fails_before a b h xs ys sent f)

-- one more entry of a page
pub text_more : (blocks : List (List ℕ)) (p : List Span) (k : ℕ) (s : Span) → k < length p → s ≡ slice_index_or p k s
    → text_of (entries_at blocks (take (k + 1) p))
    ≡ text_of (entries_at blocks (take k p)) ++ entry_text (entry_at blocks s)
text_more blocks p k s h read =
    ap (λ (q : List Span). text_of (entries_at blocks q))
    (take_more p k s h ∙ ap (λ (x : Span). take k p ++ x ∷ []) (sym read))
    ∙ ap text_of (map-append (entry_at blocks) (take k p) (s ∷ []))
    ∙ text_append (entries_at blocks (take k p)) (entry_at blocks s ∷ [])
    ∙ ap (λ (t : List ℕ). text_of (entries_at blocks (take k p)) ++ t) (append-nil (entry_text (entry_at blocks s)))

-- the text of a page is that of its first entries and of the others
pub text_parts : (blocks : List (List ℕ)) (p : List Span) (k : ℕ)
    → text_of (entries_at blocks (take k p)) ++ text_of (entries_at blocks (drop k p)) ≡ text_of (entries_at blocks p)
text_parts blocks p k =
    sym (text_append (entries_at blocks (take k p)) (entries_at blocks (drop k p)))
    ∙ ap text_of (sym (map-append (entry_at blocks) (take k p) (drop k p)))
    ∙ ap (λ (q : List Span). text_of (entries_at blocks q)) (take-append-drop k p)

-- the same of pages
pub texts_more : (blocks : List (List ℕ)) (pages : List (List Span)) (k : ℕ) → k < length pages
    → text_of (entries_of blocks (take (k + 1) pages))
    ≡ text_of (entries_of blocks (take k pages)) ++ text_of (entries_at blocks (page_at pages k))
texts_more blocks pages k h =
    ap (λ (q : List (List Span)). text_of (entries_of blocks q)) (take_more pages k [] h)
    ∙ ap (λ (q : List Span). text_of (entries_at blocks q))
    (joined-append (take k pages) (page_at pages k ∷ [])
    ∙ ap (λ (q : List Span). joined (take k pages) ++ q) (append-nil (page_at pages k)))
    ∙ ap text_of (map-append (entry_at blocks) (joined (take k pages)) (page_at pages k))
    ∙ text_append (entries_of blocks (take k pages)) (entries_at blocks (page_at pages k))

pub texts_parts : (blocks : List (List ℕ)) (pages : List (List Span)) (k : ℕ)
    → text_of (entries_of blocks (take k pages)) ++ text_of (entries_of blocks (drop k pages))
    ≡ text_of (entries_of blocks pages)
texts_parts blocks pages k =
    sym (text_append (entries_of blocks (take k pages)) (entries_of blocks (drop k pages)))
    ∙ ap text_of (sym (map-append (entry_at blocks) (joined (take k pages)) (joined (drop k pages))))
    ∙ ap (λ (q : List Span). text_of (entries_at blocks q)) (sym (joined_from pages k))

-- one entry more of a page, which has these octets
pub page_puts : (blocks : List (List ℕ)) (p : List Span) (i : ℕ) (s : Span) (o : List ℕ) (a b c : OutputState)
    (h k l : Held) → i < length p → s ≡ slice_index_or p i s → o ≡ octets_at blocks s
    → HasPut a b h k (text_of (entries_at blocks (take i p))) → HasPut b c k l (framed Counted o)
    → HasPut a c h l (text_of (entries_at blocks (take (i + 1) p)))
page_puts blocks p i s o a b c h k l within read is before next =
    let all = has_put_then a b c h k l (text_of (entries_at blocks (take i p))) (entry_text (entry_at blocks s)) before
    (subst (λ (q : List ℕ). HasPut b c k l (framed Counted q)) is next) in
    subst (λ (t : List ℕ). HasPut a c h l t) (sym (text_more blocks p i s within read)) all

-- or the writer fails at it
pub page_fails : (blocks : List (List ℕ)) (p : List Span) (i : ℕ) (s : Span) (o : List ℕ) (a b c : OutputState)
    (h k : Held) (sent : ℕ) → i < length p → s ≡ slice_index_or p i s → o ≡ octets_at blocks s
    → HasPut a b h k (text_of (entries_at blocks (take i p))) → PutFailed b c k (framed Counted o) sent
    → PutFailed a c h (text_of (entries_at blocks p)) sent
page_fails blocks p i s o a b c h k sent within read is before next =
    let all = put_fails_then a b c h k (text_of (entries_at blocks (take i p))) (entry_text (entry_at blocks s)) sent
    before (subst (λ (q : List ℕ). PutFailed b c k (framed Counted q) sent) is next) in
    let more = subst (λ (t : List ℕ). PutFailed a c h t sent) (sym (text_more blocks p i s within read)) all in
    fails_longer a c h (text_of (entries_at blocks (take (i + 1) p))) (text_of (entries_at blocks (drop (i + 1) p)))
    (text_of (entries_at blocks p)) sent (text_parts blocks p (i + 1)) more

-- all entries of a page are put
pub page_put : (blocks : List (List ℕ)) (p : List Span) (i : ℕ) (a b : OutputState) (h k : Held) → length p ≤ i
    → HasPut a b h k (text_of (entries_at blocks (take i p))) → HasPut a b h k (text_of (entries_at blocks p))
page_put blocks p i a b h k end put =
    subst (λ (q : List Span). HasPut a b h k (text_of (entries_at blocks q))) (take_all i p end) put

-- one page more of all
pub pages_put : (blocks : List (List ℕ)) (vs : List (Vec Span Global)) (i : ℕ) (v : Vec Span Global) (p : List Span)
    (a b c : OutputState) (h k l : Held) → i < length vs → v ≡ slice_index_or vs i v
    → p ≡ v.items → HasPut a b h k (text_of (entries_of blocks (take i (lists_of vs))))
    → HasPut b c k l (text_of (entries_at blocks p))
    → HasPut a c h l (text_of (entries_of blocks (take (i + 1) (lists_of vs))))
pages_put blocks vs i v p a b c h k l within read is before next =
    let page : p ≡ page_at (lists_of vs) i = page_is vs i v p within read is in
    let q : List Span = page_at (lists_of vs) i in
    let all = has_put_then a b c h k l (text_of (entries_of blocks (take i (lists_of vs)))) (text_of (entries_at blocks q))
    before
    (subst (λ (x : List Span). HasPut b c k l (text_of (entries_at blocks x))) page next) in
    subst (λ (t : List ℕ). HasPut a c h l t) (sym
    (texts_more blocks (lists_of vs) i (omega (arith, within, count_is vs)))) all

pub pages_fail : (blocks : List (List ℕ)) (vs : List (Vec Span Global)) (i : ℕ) (v : Vec Span Global) (p : List Span)
    (a b c : OutputState) (h k : Held) (sent : ℕ) → i < length vs
    → v ≡ slice_index_or vs i v → p ≡ v.items → HasPut a b h k (text_of (entries_of blocks (take i (lists_of vs))))
    → PutFailed b c k (text_of (entries_at blocks p)) sent
    → PutFailed a c h (text_of (entries_of blocks (lists_of vs))) sent
pages_fail blocks vs i v p a b c h k sent within read is before next =
    let page : p ≡ page_at (lists_of vs) i = page_is vs i v p within read is in
    let q : List Span = page_at (lists_of vs) i in
    let all = put_fails_then a b c h k (text_of (entries_of blocks (take i (lists_of vs)))) (text_of (entries_at blocks q))
    sent before
    (subst (λ (x : List Span). PutFailed b c k (text_of (entries_at blocks x)) sent) page next) in
    let more = subst (λ (t : List ℕ). PutFailed a c h t sent)
    (sym (texts_more blocks (lists_of vs) i (omega (arith, within, count_is vs)))) all in
    fails_longer a c h (text_of (entries_of blocks (take (i + 1) (lists_of vs))))
    (text_of (entries_of blocks (drop (i + 1) (lists_of vs)))) (text_of (entries_of blocks (lists_of vs))) sent
    (texts_parts blocks (lists_of vs) (i + 1)) more

-- all pages are put
pub pages_all : (blocks : List (List ℕ)) (vs : List (Vec Span Global)) (i : ℕ) (a b : OutputState) (h k : Held)
    → length vs ≤ i → HasPut a b h k (text_of (entries_of blocks (take i (lists_of vs))))
    → HasPut a b h k (text_of (entries_of blocks (lists_of vs)))
pages_all blocks vs i a b h k end put =
    subst (λ (q : List (List Span)). HasPut a b h k (text_of (entries_of blocks q)))
    (take_all i (lists_of vs) (omega (arith, end, count_is vs))) put

-- each page lies within the blocks
pub page_lies : (blocks : List (List ℕ)) (vs : List (Vec Span Global)) (i : ℕ) (v : Vec Span Global) (p : List Span)
    → i < length vs → v ≡ slice_index_or vs i v → p ≡ v.items
    → AllByRecursion (IsWithin blocks) (joined (lists_of vs)) → AllByRecursion (IsWithin blocks) p
page_lies blocks vs i v p within read is all =
    subst (AllByRecursion (IsWithin blocks)) (sym (page_is vs i v p within read is))
    (page_all (IsWithin blocks) (lists_of vs) i (omega (arith, within, count_is vs)) all)

-- ---- how long a text is

entry_short : (e : Entry) → length e.octets ≤ ENTRY_MAX → length (entry_text e) ≤ 524_316
entry_short e h =
    let n = length e.octets in
    omega (
      arith,
      h,
      length-append (decimal n) (32 ∷ e.octets),
      length-decimal-le 20 n (omega arith) (omega (arith, h)) (omega (arith, h)),
    )

pub text_short : (es : List Entry) → AllByRecursion (λ e. length e.octets ≤ ENTRY_MAX) es
    → length (text_of es) ≤ length es * 524_316
text_short [] h = omega arith
text_short (e ∷ es) h = omega (arith, length-append (entry_text e) (text_of es), entry_short e h.0, text_short es h.1)

pub text_fits : (blocks : List (List ℕ)) (pages : List (List Span)) (n : ℕ) → ArePaged blocks pages
    → n ≡ length (joined pages) → n ≤ 1_099_511_627_776
    → length (text_of (entries_of blocks pages)) < 2 ^ 64
text_fits blocks pages n h count few = omega
    (arith, text_short (entries_of blocks pages) h.archive.fits, count_of blocks pages, count, few)
