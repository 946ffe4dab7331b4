-- Entries stay where they are as blocks grow.
use Rattle.std.proofs.Common.{◌≡◌, ℕ, ◌^◌, ◌+◌, ◌<◌, ◌≤◌, List, [], ◌∷◌, ◌++◌, length, take, drop, refl, subst, sym, ap}
use Rattle.std.proofs.Common.{◌∙◌, ⊎_elim, arith, append-nil, length-append, length-drop, ◌-◌}
use Rattle.std.specs.Prelude.{◌≢◌, Vec, slice_index, slice_index_or, slice_set}
use Rattle.std.specs.declared.alloc.Global.{Global}
use Rattle.std.specs.List.{AllByRecursion}
use Rattle.std.proofs.lemmas.List.{take-append-le, drop-append-le, get_or-map, get_or_append_left, get_or-set_same, drop_all}
use Rattle.std.proofs.lemmas.List.{get_or-set_other, length-set, length_push, length-map, map-set, set-get_or, take_all}
use Rattle.std.proofs.Math.Seq.{drop-append_seam, take-nil}
use Rattle.std.proofs.lemmas.Bool.{cases_eq}
use Rattle.std.proofs.lemmas.Nat.{from_le_bytes-to_le_bytes_4}
use Rattle.std.specs.Int.{to_le_bytes, w32}
use Rattle.archive_text.specs.Entries.{Entry}
use Rattle.archive_text.proofs.Orders.{same_entry}
use Rattle.archive_sorting.specs.Spans.{IsWithin, Keeps, block_at, entries_at, entry_at, instant_at, lists_of, octets_at}
use Rattle.archive_sorting.specs.Spans.{stored, stored_in, stored_len, text_at}
use Rattle.archive_sorting.specs.declared.arena.Span.{Span}

-- what a vector of vectors holds at an index
pub list_at : {X : Type 0} (vs : List (Vec X Global)) (k : ℕ) (v : Vec X Global) → k < length vs
    → v ≡ slice_index_or vs k v → slice_index_or (lists_of vs) k [] ≡ v.items
list_at vs k v h read = get_or-map (λ w. w.items) vs k v [] h ∙ sym (ap (λ w. w.items) read)

-- too short for a length
pub short_stored : (block : List ℕ) (start : ℕ) → length block - start < 4 → [] ≡ stored_in (drop start block)
short_stored block start h =
    sym (ap (take (stored_len (drop start block)))
    (drop_all 4 (drop start block) (omega (arith, h, length-drop start block)))
    ∙ take-nil (stored_len (drop start block)))

-- what is stored in front of a text stays as more follows
length_stays : (text more : List ℕ) → 4 ≤ length text → stored_len (text ++ more) ≡ stored_len text
unfolding stored_len
length_stays [] more h = absurd (omega (arith, h))
length_stays (a ∷ []) more h = absurd (omega (arith, h))
length_stays (a ∷ b ∷ []) more h = absurd (omega (arith, h))
length_stays (a ∷ b ∷ c ∷ []) more h = absurd (omega (arith, h))
length_stays (a ∷ b ∷ c ∷ d ∷ text) more h = refl

-- it is that of the first four octets
pub length_of_four : (text : List ℕ) → 4 ≤ length text
    → stored_len (slice_index text 0 ∷ slice_index text 1 ∷ slice_index text 2 ∷ slice_index text 3 ∷ [])
    ≡ stored_len text
unfolding stored_len
length_of_four [] h = absurd (omega (arith, h))
length_of_four (a ∷ []) h = absurd (omega (arith, h))
length_of_four (a ∷ b ∷ []) h = absurd (omega (arith, h))
length_of_four (a ∷ b ∷ c ∷ []) h = absurd (omega (arith, h))
length_of_four (a ∷ b ∷ c ∷ d ∷ text) h = refl

stored_stays : (text more : List ℕ) → 4 + stored_len text ≤ length text → stored_in (text ++ more) ≡ stored_in text
stored_stays text more h =
    let low : 4 ≤ length text = omega arith in
    let within : stored_len text ≤ length (drop 4 text) = omega (arith, length-drop 4 text) in
    ap (λ (n : ℕ). take n (drop 4 (text ++ more))) (length_stays text more low)
    ∙ ap (take (stored_len text)) (drop-append-le 4 text more low)
    ∙ take-append-le (stored_len text) (drop 4 text) more within

abbrev with_octets : Span → List ℕ → Entry
with_octets s b = record { instant = instant_at s.rank; octets = b }

-- blocks that only grow at their ends keep their entries
pub keeps_grown : (old new : List (List ℕ)) → length old ≤ length new
    → ((k : ℕ) → k < length old → (more : List ℕ) × (block_at new k ≡ block_at old k ++ more)) → Keeps old new
keeps_grown old new count grown s h =
    let g = grown s.block h.block in
    let start : s.start ≤ length (block_at old s.block) = omega (arith, h.end) in
    let text : text_at new s ≡ text_at old s ++ g.0 =
    ap (drop s.start) g.1 ∙ drop-append-le s.start (block_at old s.block) g.0 start in
    let some : 4 + stored_len (text_at old s) ≤ length (text_at old s) =
    omega (arith, h.end, length-drop s.start (block_at old s.block)) in
    let octets : octets_at new s ≡ octets_at old s = ap stored_in text ∙ stored_stays (text_at old s) g.0 some in
    let len : stored_len (text_at new s) ≡ stored_len (text_at old s) =
    ap stored_len text ∙ length_stays (text_at old s) g.0 (omega (arith, some)) in
    let size : length (block_at new s.block) ≡ length (block_at old s.block) + length g.0 =
    ap length g.1 ∙ length-append (block_at old s.block) g.0 in
    (record { block = omega (arith, h.block, count); end = omega (arith, h.end, size, len) }, ap (with_octets s) octets)

pub keeps_all : (blocks : List (List ℕ)) → Keeps blocks blocks
keeps_all blocks s h = (h, refl)

pub keeps_both : (a b c : List (List ℕ)) → Keeps a b → Keeps b c → Keeps a c
keeps_both a b c h k s within =
    let first = h s within in
    let second = k s first.0 in
    (second.0, second.1 ∙ first.1)

-- one more block
pub keeps_pushed : (blocks : List (List ℕ)) (block : List ℕ) → Keeps blocks (blocks ++ block ∷ [])
keeps_pushed blocks block =
    keeps_grown blocks (blocks ++ block ∷ []) (omega (arith, length_push blocks block))
    (λ k h. ([], get_or_append_left blocks (block ∷ []) [] k h ∙ sym (append-nil (block_at blocks k))))

-- more octets in one block
pub keeps_set : (blocks : List (List ℕ)) (k : ℕ) (more : List ℕ) → k < length blocks
    → Keeps blocks (slice_set blocks k (block_at blocks k ++ more))
keeps_set blocks k more within =
    keeps_grown blocks (slice_set blocks k (block_at blocks k ++ more))
    (omega (arith, length-set blocks k (block_at blocks k ++ more)))
    (λ j h. ⊎_elim (λ (same : j ≡ k). (
      more,
      ap (λ (n : ℕ). block_at (slice_set blocks k (block_at blocks k ++ more)) n) same
          ∙ get_or-set_same blocks k (block_at blocks k ++ more) [] within
          ∙ ap (λ (n : ℕ). block_at blocks n ++ more) (sym same),
    ))
    (λ (other : j ≢ k). (
      [],
      get_or-set_other blocks k j (block_at blocks k ++ more) [] other
          ∙ sym (append-nil (block_at blocks j)),
    )) (cases_eq j k))

-- all entries stay
pub entries_stay : (old new : List (List ℕ)) (spans : List Span) → Keeps old new → AllByRecursion (IsWithin old) spans
    → entries_at new spans ≡ entries_at old spans
entries_stay old new [] keeps h = refl
entries_stay old new (s ∷ spans) keeps h =
    ap (λ (e : Entry). e ∷ entries_at new spans) (keeps s h.0).1
    ∙ ap (λ (es : List Entry). entry_at old s ∷ es) (entries_stay old new spans keeps h.1)

-- ---- a block that was written

unchanged : (vs : List (Vec ℕ Global)) (k : ℕ) (w v : Vec ℕ Global) → k < length vs → w ≡ slice_index_or vs k w
    → v.items ≡ w.items → lists_of (slice_set vs k v) ≡ lists_of vs
unchanged vs k w v h read same =
    map-set (λ x. x.items) vs k v ∙ ap (λ (p : List ℕ). slice_set (lists_of vs) k p)
    (same ∙ sym (list_at vs k w h read)) ∙ set-get_or (lists_of vs) k []

pub keeps_unchanged : (vs : List (Vec ℕ Global)) (k : ℕ) (w v : Vec ℕ Global) → k < length vs
    → w ≡ slice_index_or vs k w → v.items ≡ w.items → Keeps (lists_of vs) (lists_of (slice_set vs k v))
keeps_unchanged vs k w v h read same = subst (Keeps (lists_of vs)) (sym (unchanged vs k w v h read same))
    (keeps_all (lists_of vs))

appended : (vs : List (Vec ℕ Global)) (k : ℕ) (more : List ℕ) (w v : Vec ℕ Global) → k < length vs
    → w ≡ slice_index_or vs k w → v.items ≡ w.items ++ more
    → lists_of (slice_set vs k v) ≡ slice_set (lists_of vs) k (block_at (lists_of vs) k ++ more)
appended vs k more w v h read is =
    map-set (λ x. x.items) vs k v ∙ ap (λ (p : List ℕ). slice_set (lists_of vs) k p)
    (is ∙ ap (λ (p : List ℕ). p ++ more) (sym (list_at vs k w h read)))

blocks_count : (vs : List (Vec ℕ Global)) → length (lists_of vs) ≡ length vs
blocks_count vs = length-map vs (λ v. v.items)

pub block_appended : (vs : List (Vec ℕ Global)) (k : ℕ) (more : List ℕ) (w v : Vec ℕ Global) → k < length vs
    → w ≡ slice_index_or vs k w → v.items ≡ w.items ++ more
    → block_at (lists_of (slice_set vs k v)) k ≡ block_at (lists_of vs) k ++ more
block_appended vs k more w v h read is =
    ap (λ (bs : List (List ℕ)). block_at bs k) (appended vs k more w v h read is)
    ∙ get_or-set_same (lists_of vs) k (block_at (lists_of vs) k ++ more) [] (omega (arith, h, blocks_count vs))

pub keeps_appended : (vs : List (Vec ℕ Global)) (k : ℕ) (more : List ℕ) (w v : Vec ℕ Global) → k < length vs
    → w ≡ slice_index_or vs k w → v.items ≡ w.items ++ more
    → Keeps (lists_of vs) (lists_of (slice_set vs k v))
keeps_appended vs k more w v h read is =
    subst (Keeps (lists_of vs)) (sym (appended vs k more w v h read is))
    (keeps_set (lists_of vs) k more (omega (arith, h, blocks_count vs)))

-- ---- the span of octets that were appended

four_octets : (n : ℕ) → length (to_le_bytes w32 n) ≡ 4
four_octets n = refl

length_stored : (octets : List ℕ) → length octets < 2 ^ 32 → stored_len (stored octets) ≡ length octets
unfolding stored_len
length_stored octets h =
    length_stays (to_le_bytes w32 (length octets)) octets (omega (arith, four_octets (length octets)))
    ∙ from_le_bytes-to_le_bytes_4 (length octets) h

text_pushed : (vs : List (Vec ℕ Global)) (block octets : List ℕ) (s : Span)
    → block_at (lists_of vs) s.block ≡ block ++ stored octets → s.start ≡ length block
    → text_at (lists_of vs) s ≡ stored octets
text_pushed vs block octets s is start = rw (is, start) (drop-append_seam block (stored octets))

shown_octets : (vs : List (Vec ℕ Global)) (block octets : List ℕ) (s : Span)
    → block_at (lists_of vs) s.block ≡ block ++ stored octets → s.start ≡ length block → length octets < 2 ^ 32
    → octets_at (lists_of vs) s ≡ octets
shown_octets vs block octets s is start short =
    ap stored_in (text_pushed vs block octets s is start)
    ∙ ap (λ (n : ℕ). take n octets) (length_stored octets short) ∙ take_all (length octets) octets (omega arith)

pub pushed_within : (vs : List (Vec ℕ Global)) (block octets : List ℕ) (s : Span) → s.block < length vs
    → block_at (lists_of vs) s.block ≡ block ++ stored octets → s.start ≡ length block
    → length octets < 2 ^ 32 → IsWithin (lists_of vs) s
pushed_within vs block octets s h is start short =
    let len = ap stored_len (text_pushed vs block octets s is start) ∙ length_stored octets short in
    record {
      block = omega (arith, h, blocks_count vs);
      end = omega (
        arith,
        ap length is,
        length-append block (stored octets),
        length-append (to_le_bytes w32 (length octets)) octets,
        four_octets (length octets),
        start,
        len,
      );
    }

pub pushed_value : (vs : List (Vec ℕ Global)) (block octets : List ℕ) (s : Span) (e : Entry)
    → block_at (lists_of vs) s.block ≡ block ++ stored octets → s.start ≡ length block
    → length octets < 2 ^ 32 → instant_at s.rank ≡ e.instant → e.octets ≡ octets → entry_at (lists_of vs) s ≡ e
pushed_value vs block octets s e is start short instant same =
    same_entry (entry_at (lists_of vs) s) e instant (shown_octets vs block octets s is start short ∙ sym same)
