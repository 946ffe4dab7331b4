-- Entries that lie in octets, as these grow.
use Rattle.std.proofs.Common.{arith, ◌≡◌, ℕ, ◌+◌, ◌<◌, ◌≤◌, List, [], ◌∷◌, ◌++◌, length, take, drop, map, refl, sym, ap}
use Rattle.std.proofs.Common.{◌∙◌, subst, take-append-drop, length-append, length-drop}
use Rattle.std.proofs.lemmas.List.{take-append-le, drop-append-le, map-append, take-map, drop-map, take_all}
use Rattle.std.proofs.lemmas.List.{length-map}
use Rattle.std.proofs.lemmas.List.Edits.{length-insert}
use Rattle.std.proofs.Math.Seq.{drop-append_seam}
use Rattle.std.specs.List.{AllByRecursion, insert}
use Rattle.archive_text.specs.Entries.{Entry, IsEntry}
use Rattle.archive_text.specs.Text.{IsArchive}
use Rattle.archive_text.specs.declared.limits.TheConstants.{ENTRY_MAX}
use Rattle.archive_text.proofs.Ascending.{archive_inserted}
use Rattle.archive_text.proofs.Members.{all_append, all_left, all_right, all_weaker}
use Rattle.archive_vec.specs.declared.span.EntrySpan.{EntrySpan}
use Rattle.archive_vec.specs.declared.span.TheConstants.{ENTRIES_MAX}
use Rattle.archive_vec.specs.Layout.{IsLaidOut, IsWithin, entries_of, entry_at}
use Rattle.archive_vec.specs.Positions.{IsGap}

-- octets of a span stay as more follow
span_stays : (octets more : List ℕ) (start len : ℕ) → start + len ≤ length octets
    → take len (drop start (octets ++ more)) ≡ take len (drop start octets)
span_stays octets more start len h =
    let low : start ≤ length octets = omega arith in
    let within : len ≤ length (drop start octets) = omega (arith, length-drop start octets) in
    ap (take len) (drop-append-le start octets more low) ∙ take-append-le len (drop start octets) more within

-- and so do the entries
pub entries_stay : (octets more : List ℕ) (spans : List EntrySpan) → AllByRecursion (IsWithin octets) spans
    → entries_of (octets ++ more) spans ≡ entries_of octets spans
entries_stay octets more [] h = refl
entries_stay octets more (s ∷ spans) h =
    let same : entry_at (octets ++ more) s ≡ entry_at octets s =
    ap (λ (b : List ℕ). let e : Entry = record { instant = s.instant; octets = b } in
    e) (span_stays octets more s.start s.len h.0) in
    ap (λ (e : Entry). e ∷ entries_of (octets ++ more) spans) same
    ∙ ap (λ (es : List Entry). entry_at octets s ∷ es) (entries_stay octets more spans h.1)

pub within_stays : (octets more : List ℕ) (spans : List EntrySpan) → AllByRecursion (IsWithin octets) spans
    → AllByRecursion (IsWithin (octets ++ more)) spans
within_stays octets more spans = all_weaker (IsWithin octets) (IsWithin (octets ++ more))
    (λ s h. omega (arith, h, length-append octets more)) spans

-- a span over what was appended is its entry
pub new_entry : (octets : List ℕ) (s : EntrySpan) (e : Entry) → s.instant ≡ e.instant → s.start ≡ length octets
    → s.len ≡ length e.octets → entry_at (octets ++ e.octets) s ≡ e
new_entry octets s e instant start len =
    let shown : take s.len (drop s.start (octets ++ e.octets)) ≡ e.octets =
    rw (start, len) (ap (take (length e.octets)) (drop-append_seam octets e.octets)
    ∙ take_all (length e.octets) e.octets (omega arith)) in
    let build : (i : _) (b : List ℕ) → Entry = λ i b. record { instant = i; octets = b } in
    let pair : build s.instant (take s.len (drop s.start (octets ++ e.octets))) ≡ build e.instant e.octets =
    rw (instant, shown) refl in
    pair

-- the entries, with one more between them
pub entries_inserted : (octets : List ℕ) (spans : List EntrySpan) (s : EntrySpan) (e : Entry) (i : ℕ)
    → AllByRecursion (IsWithin octets) spans
    → entry_at (octets ++ e.octets) s ≡ e → entries_of (octets ++ e.octets) (insert spans i s)
    ≡ insert (entries_of octets spans) i e
entries_inserted octets spans s e i within is =
    let all = octets ++ e.octets in
    let f = entry_at all in
    let stay : entries_of all spans ≡ entries_of octets spans = entries_stay octets e.octets spans within in
    map-append f (take i spans) (s ∷ drop i spans)
    ∙ ap (λ (x : Entry). map f (take i spans) ++ x ∷ map f (drop i spans)) is
    ∙ ap (λ (es : List Entry). es ++ e ∷ map f (drop i spans)) (sym (take-map f i spans) ∙ ap (take i) stay)
    ∙ ap (λ (es : List Entry). take i (entries_of octets spans) ++ e ∷ es) (sym (drop-map f i spans) ∙ ap (drop i) stay)

-- all of a list, with one more between them
pub all_inserted : {X : Type 0} (P : X → Type 0) (xs : List X) (x : X) (i : ℕ) → AllByRecursion P xs → P x
    → AllByRecursion P (insert xs i x)
all_inserted P xs x i h p =
    let parts : AllByRecursion P (take i xs ++ drop i xs) = subst (AllByRecursion P) (sym (take-append-drop i xs)) h in
    all_append P (take i xs) (x ∷ drop i xs) (all_left P (take i xs) (drop i xs) parts)
    (p, all_right P (take i xs) (drop i xs) parts)

-- an archive, with one more entry between those below it and those above
pub archive_with : (es : List Entry) (e : Entry) (i : ℕ) → IsArchive ENTRY_MAX es → IsGap es e i → IsEntry e
    → length e.octets ≤ ENTRY_MAX
    → IsArchive ENTRY_MAX (insert es i e)
archive_with es e i archive gap entry fits =
    archive_inserted ENTRY_MAX (take i es) (drop i es) e
    (subst (IsArchive ENTRY_MAX) (sym (take-append-drop i es)) archive) entry fits gap.below gap.above

-- the entry is laid out behind the others
pub laid_out_inserted : (octets : List ℕ) (spans : List EntrySpan) (s : EntrySpan) (e : Entry) (i : ℕ)
    → IsLaidOut octets spans → IsGap (entries_of octets spans) e i
    → IsEntry e → length e.octets ≤ ENTRY_MAX → length spans < ENTRIES_MAX → s.instant ≡ e.instant
    → s.start ≡ length octets → s.len ≡ length e.octets
    → IsLaidOut (octets ++ e.octets) (insert spans i s)
laid_out_inserted octets spans s e i h gap entry fits few instant start len =
    let low : i ≤ length spans = omega (arith, length-map spans (entry_at octets), gap.within) in
    record {
      within = all_inserted (IsWithin (octets ++ e.octets)) spans s i (within_stays octets e.octets spans h.within)
          (omega (arith, length-append octets e.octets));
      archive = subst (IsArchive ENTRY_MAX) (sym
          (entries_inserted octets spans s e i h.within (new_entry octets s e instant start len)))
          (archive_with (entries_of octets spans) e i h.archive gap entry fits);
      few = omega (arith, length-insert spans i s low, few);
    }

-- octets that no span covers change nothing
pub laid_out_stays : (octets more : List ℕ) (spans : List EntrySpan) → IsLaidOut octets spans
    → IsLaidOut (octets ++ more) spans
laid_out_stays octets more spans h =
    record {
      within = within_stays octets more spans h.within;
      archive = subst (IsArchive ENTRY_MAX) (sym (entries_stay octets more spans h.within)) h.archive;
      few = h.few;
    }

-- the same of vectors that grew by the entry and its span
pub laid_out_new : (octets more : List ℕ) (spans spans_more spans_new : List EntrySpan) (s : EntrySpan) (e : Entry)
    (i : ℕ) (es : List Entry) → IsLaidOut octets spans
    → entries_of octets spans ≡ es → IsGap es e i → IsEntry e → length e.octets ≤ ENTRY_MAX → length spans < ENTRIES_MAX
    → s.instant ≡ e.instant
    → s.start ≡ length octets → s.len ≡ length e.octets → more ≡ octets ++ e.octets → spans_more ≡ spans
    → spans_new ≡ insert spans_more i s
    → IsLaidOut more spans_new × (entries_of more spans_new ≡ insert es i e)
laid_out_new octets more spans spans_more spans_new s e i es h is gap entry fits few instant start len more_is same
    spans_is =
    let spans_all : spans_new ≡ insert spans i s = spans_is ∙ ap (λ l. insert l i s) same in
    let there = subst (λ (fs : List Entry). IsGap fs e i) (sym is) gap in
    rw (more_is, spans_all) (
      laid_out_inserted octets spans s e i h there entry fits few instant start len,
      entries_inserted octets spans s e i h.within (new_entry octets s e instant start len)
          ∙ ap (λ (fs : List Entry). insert fs i e) is,
    )
