-- The steps of a digest.
use Rattle.std.proofs.Common.{◌≡◌, ℕ, ◌^◌, ◌<◌, ◌≤◌, List, [], ◌∷◌, ◌++◌, Option, length, sym, ap, subst, refl, ◌∙◌}
use Rattle.std.proofs.Common.{append_assoc, inl, inr, arith}
use Rattle.std.specs.Prelude.{◌⊎◌, ◌↔◌, codes}
use Rattle.std.proofs.lemmas.List.{length-append}
use Rattle.octet_devices.specs.Device.{InputState, OutputState}
use Rattle.octet_devices.specs.Held.{Carries, HasPut, Held, PutFailed, StopsWithin}
use Rattle.octet_devices.proofs.Carrying.{Carries-new}
use Rattle.archive_text.specs.Entries.{Entry, Has, IsAscending}
use Rattle.archive_text.specs.Text.{text_of}
use Rattle.archive_text.proofs.Texts.{text_length}
use Rattle.archive_streams.specs.Entries.{current, IsBegun, Reads, ReadsOne}
use Rattle.archive_streams.specs.declared.entries.ArchiveEntries.{ArchiveEntries}
use Rattle.archive_streams.proofs.EntrySteps.{begun}
use Rattle.archive_sets.specs.Selecting.{IsHalt}
use Rattle.archive_sets.specs.declared.fault.SelectFault.{SelectFault}
use Rattle.archive_sets.specs.declared.fault.SelectFault.TheVariants.{Archive, Read, Endless, Write, Memory}
use Rattle.archive_digest.specs.Digesting.{EndsIn, Halted, IsFresh, IsSoFar, KeepsOutput, Looking, Running, UnderWay}
use Rattle.archive_digest.specs.Digests.{Part, IsDivided, before_last, digest_with, entries_of, line_with, lines_with}
use Rattle.archive_text.specs.Periods.{IsIn}
use Rattle.archive_digest.specs.Putting.{ending}
use Rattle.archive_digest.specs.Sums.{IsSumOf, IsTallyOf}
use Rattle.archive_digest.specs.declared.digesting.Digesting.{Digesting}
use Rattle.archive_digest.specs.declared.roots.Roots.{Roots}
use Rattle.archive_text.specs.declared.period.Period.{Period}
use Rattle.archive_digest.specs.declared.sum.Sum.{Sum}
use Rattle.archive_digest.specs.declared.tally.Tally.{Tally}
use Rattle.archive_digest.proofs.Lines.{before_last_more, lines_more, short_before}
use Rattle.archive_digest.proofs.Parts.{entries_more, first_part, next_part, part, same_part}

-- ---- the parts so far

abbrev pub parts_of : List Part → List ℕ → List Entry → List Part
parts_of earlier name [] = earlier
parts_of earlier name (e ∷ es) = earlier ++ part name (e ∷ es) ∷ []

pub divided_so_far : (period : Period) (name : List ℕ) (xs : List Entry) (earlier : List Part) (latest : List Entry)
    → IsSoFar period name xs earlier latest → IsDivided period xs (parts_of earlier name latest)
divided_so_far period name xs earlier [] s =
    subst (λ (ps : List Part). IsDivided period xs ps) (sym s.1) (record { each = tt; all = s.0 })
divided_so_far period name xs earlier (e ∷ es) s = s.divided

pub before_so_far : (period : Period) (name : List ℕ) (xs : List Entry) (earlier : List Part) (latest : List Entry)
    → IsSoFar period name xs earlier latest → before_last (parts_of earlier name latest) ≡ earlier
before_so_far period name xs earlier [] s = ap before_last s.1 ∙ sym s.1
before_so_far period name xs earlier (e ∷ es) s = before_last_more earlier (part name (e ∷ es))

pub digest_so_far : (roots : Roots) (name : List ℕ) (xs : List Entry) (earlier : List Part) (latest : List Entry)
    → lines_with roots earlier ++ ending roots name xs latest ≡ digest_with roots xs (parts_of earlier name latest)
digest_so_far roots name xs earlier [] = refl
digest_so_far roots name xs earlier (e ∷ es) =
    sym (append_assoc (lines_with roots earlier) (line_with roots name (e ∷ es)) (line_with roots (codes "total") xs))
    ∙ ap (λ (text : List ℕ). text ++ line_with roots (codes "total") xs)
    (sym (lines_more roots earlier (part name (e ∷ es))))

none_alike : (period : Period) (name : List ℕ) (xs : List Entry) (earlier : List Part) (latest : List Entry)
    → EndsIn period name xs earlier latest → xs ≡ [] → ⊥
none_alike period name xs earlier latest h none = nobody latest h.among shorter
  where
    shorter : entries_of earlier ++ latest ≡ []
    shorter = sym (entries_more earlier (part name latest)) ∙ sym h.divided.all ∙ none

    nobody : (es : List Entry) → Has es h.last → entries_of earlier ++ es ≡ [] → ⊥
    nobody [] among same = among
    nobody (e ∷ es) among same =
        omega (arith, ap (length {A = Entry}) same, length-append (entries_of earlier) (e ∷ es))

-- there are no entries just where there are no latest ones
pub empty_so_far : (period : Period) (name : List ℕ) (xs : List Entry) (earlier : List Part) (latest : List Entry)
    → IsSoFar period name xs earlier latest → (xs ≡ []) ↔ (latest ≡ [])
empty_so_far period name xs earlier [] s = (λ h. refl, λ h. s.0)
empty_so_far period name xs earlier (e ∷ es) s =
    (λ h. absurd (none_alike period name xs earlier (e ∷ es) s h), λ h. absurd cc)

-- the text of the latest entries is no longer than that of all
latest_short : (period : Period) (name : List ℕ) (xs : List Entry) (earlier : List Part) (latest : List Entry)
    → EndsIn period name xs earlier latest → length (text_of latest) ≤ length (text_of xs)
latest_short period name xs earlier latest h = omega (
  arith,
  ap (λ (es : List Entry). length (text_of es)) (h.divided.all ∙ entries_more earlier (part name latest)),
  text_length (entries_of earlier) latest,
)

-- ---- what was read

pub short_read : (d e : InputState) (xs : List Entry) → IsBegun d e xs → length (text_of xs) < 2 ^ 40
short_read d e xs b = omega (arith, b.short, ap length b.parts, length-append (text_of xs) b.rest)

short_so_far : (roots : Roots) (period : Period) (name : List ℕ) (xs : List Entry) (earlier : List Part)
    (latest : List Entry) → IsSoFar period name xs earlier latest → length (text_of xs) < 2 ^ 40 → length (lines_with roots earlier) < 2 ^ 60
short_so_far roots period name xs earlier [] s short =
    omega (arith, ap (λ (ps : List Part). length (lines_with roots ps)) s.1)
short_so_far roots period name xs earlier (e ∷ es) s short =
    short_before roots period xs earlier (part name (e ∷ es)) s.divided short

-- before the first entry
pub running_none : (roots : Roots) (period : Period) (s : Digesting) (d : InputState) (start : Option (List ℕ))
    → IsFresh roots s
    → Running roots period s d d start start
running_none roots period s d start fresh = record {
  xs = [];
  reads = fresh.none_read d;
  under_way = record {
    earlier = [];
    latest = [];
    so_far = (refl, refl);
    tally = fresh.none_counted;
    carries = Carries-new start s.held fresh.none_held;
  };
}

-- what is counted does not hang on what is read
under_way_same : (roots : Roots) (period : Period) (s t : Digesting) (xs : List Entry) (start now : Option (List ℕ))
    → KeepsOutput s t
    → UnderWay roots period s xs start now → UnderWay roots period t xs start now
under_way_same roots period s t xs start now same u = record {
  earlier = u.earlier;
  latest = u.latest;
  so_far = subst (λ (n : List ℕ). IsSoFar period n xs u.earlier u.latest) (sym same.name) u.so_far;
  tally = subst (λ (k : Tally). IsTallyOf roots k xs u.latest) (sym same.tally) u.tally;
  carries = subst (λ (h : Held). Carries start now h (lines_with roots u.earlier)) (sym same.held) u.carries;
}

-- an entry is read
pub looks : (roots : Roots) (period : Period) (s t : Digesting) (d e f : InputState) (start now : Option (List ℕ))
    → KeepsOutput s t
    → ReadsOne s.entries t.entries e f → Running roots period s d e start now → Looking roots period t d f start now
looks roots period s t d e f start now same one w = record {
  xs = w.xs;
  reads = one.reads d w.xs w.reads;
  under_way = under_way_same roots period s t w.xs start now same w.under_way;
}

-- ---- the entry that was read last

-- the entries that were read, with it
abbrev pub ReadSoFar : Digesting → Entry → InputState → InputState → List Entry → Type 0
ReadSoFar s x d e xs = Reads s.entries d e (xs ++ x ∷ [])

read_to : (s : Digesting) (x : Entry) (d e : InputState) (xs : List Entry) → ReadSoFar s x d e xs
    → IsBegun d e (xs ++ x ∷ [])
read_to s x d e xs r = begun s.entries d e (xs ++ x ∷ []) r

-- it goes on with the latest part, or it is the first
so_far_on : (period : Period) (old name : List ℕ) (xs : List Entry) (earlier : List Part) (latest : List Entry)
    (x : Entry)
    → IsAscending (xs ++ x ∷ []) → IsIn period name x → (xs ≡ []) ⊎ (name ≡ old)
    → IsSoFar period old xs earlier latest → EndsIn period name (xs ++ x ∷ []) earlier (latest ++ x ∷ [])
so_far_on period old name xs earlier [] x up lies on s =
    subst (λ (ps : List Part). EndsIn period name (xs ++ x ∷ []) ps (x ∷ [])) (sym s.1)
    (subst (λ (es : List Entry). EndsIn period name (es ++ x ∷ []) [] (x ∷ [])) (sym s.0)
    (first_part period name x (subst (λ (es : List Entry). IsAscending (es ++ x ∷ [])) s.0 up) lies))
so_far_on period old name xs earlier (y ∷ ys) x up lies (inl none) s =
    absurd (none_alike period old xs earlier (y ∷ ys) s none)
so_far_on period old name xs earlier (y ∷ ys) x up lies (inr same) s =
    same_part period name xs earlier (y ∷ ys) x up
    (subst (λ (n : List ℕ). EndsIn period n xs earlier (y ∷ ys)) (sym same) s) lies

-- or a further part begins
so_far_next : (period : Period) (old name : List ℕ) (xs : List Entry) (earlier : List Part) (latest : List Entry)
    (x : Entry)
    → IsAscending (xs ++ x ∷ []) → IsIn period name x → ¬ ((xs ≡ []) ⊎ (name ≡ old))
    → IsSoFar period old xs earlier latest
    → EndsIn period name (xs ++ x ∷ []) (earlier ++ part old latest ∷ []) (x ∷ [])
so_far_next period old name xs earlier [] x up lies off s = absurd (off (inl s.0))
so_far_next period old name xs earlier (y ∷ ys) x up lies off s =
    next_part period old name xs earlier (y ∷ ys) x up s lies (λ same. off (inr same))

ends_so_far : (period : Period) (name : List ℕ) (xs : List Entry) (earlier : List Part) (latest : List Entry) (x : Entry)
    → EndsIn period name xs earlier (latest ++ x ∷ []) → IsSoFar period name xs earlier (latest ++ x ∷ [])
ends_so_far period name xs earlier [] x h = h
ends_so_far period name xs earlier (y ∷ ys) x h = h

-- what counts one entry more
abbrev pub TallyGrows : Roots → Tally → Tally → Entry → Type 0
TallyGrows roots s t x =
    (xs latest : List Entry) → length (text_of (xs ++ x ∷ [])) < 2 ^ 64 → length (text_of (latest ++ x ∷ [])) < 2 ^ 64
    → IsTallyOf roots s xs latest → IsTallyOf roots t (xs ++ x ∷ []) (latest ++ x ∷ [])

-- what the call that counts an entry found, whichever it is
pub record Finds (period : Period) (s : Digesting) (x : Entry) (name : List ℕ) : Type 0 where
  pub entry : x ≡ current s.entries
  pub lies : IsIn period name x

reads_entry : (s : Digesting) (x : Entry) (d e : InputState) (xs : List Entry) → x ≡ current s.entries
    → Reads s.entries d e (xs ++ current s.entries ∷ []) → ReadSoFar s x d e xs
reads_entry s x d e xs is r = subst (λ (y : Entry). Reads s.entries d e (xs ++ y ∷ [])) (sym is) r

pub counts_on : (roots : Roots) (period : Period) (s t : Digesting) (x : Entry) (name : List ℕ) (d e : InputState)
    (start now : Option (List ℕ)) → Finds period s x name → t.entries ≡ s.entries → t.held ≡ s.held → t.name ≡ name
    → TallyGrows roots s.tally t.tally x
    → ((xs latest : List Entry) → IsTallyOf roots s.tally xs latest → (xs ≡ []) ⊎ (name ≡ s.name))
    → Looking roots period s d e start now → Running roots period t d e start now
counts_on roots period s t x name d e start now f same held called grows on w =
    let u = w.under_way in
    let reads : ReadSoFar s x d e w.xs = reads_entry s x d e w.xs f.entry w.reads in
    let read = read_to s x d e w.xs reads in
    let all = short_read d e (w.xs ++ x ∷ []) read in
    let ends = so_far_on period s.name name w.xs u.earlier u.latest x read.archive.ascending f.lies
    (on w.xs u.latest u.tally) u.so_far in
    let late = latest_short period name (w.xs ++ x ∷ []) u.earlier (u.latest ++ x ∷ []) ends in
    record {
      xs = w.xs ++ x ∷ [];
      reads = subst (λ (n : ArchiveEntries). Reads n d e (w.xs ++ x ∷ [])) (sym same) reads;
      under_way = record {
        earlier = u.earlier;
        latest = u.latest ++ x ∷ [];
        so_far = subst (λ (n : List ℕ). IsSoFar period n (w.xs ++ x ∷ []) u.earlier (u.latest ++ x ∷ [])) (sym called)
            (ends_so_far period name (w.xs ++ x ∷ []) u.earlier u.latest x ends);
        tally = grows w.xs u.latest (omega (arith, all)) (omega (arith, all, late)) u.tally;
        carries = subst (λ (h : Held). Carries start now h (lines_with roots u.earlier)) (sym held) u.carries;
      };
    }

-- the line of the latest part is put, and a further one begins
pub counts_next : (roots : Roots) (period : Period) (s t : Digesting) (x : Entry) (name shown text : List ℕ) (sum : Sum)
    (d e : InputState) (start : Option (List ℕ)) (a b : OutputState) → Finds period s x name → t.entries ≡ s.entries → t.name ≡ name
    → ((xs latest : List Entry) → length (text_of (xs ++ x ∷ [])) < 2 ^ 64 → length (text_of (x ∷ [])) < 2 ^ 64
    → IsTallyOf roots s.tally xs latest → IsTallyOf roots t.tally (xs ++ x ∷ []) (x ∷ []))
    → ((xs latest : List Entry) → IsTallyOf roots s.tally xs latest → ¬ ((xs ≡ []) ⊎ (name ≡ s.name)))
    → ((xs latest : List Entry) → IsTallyOf roots s.tally xs latest → IsSumOf roots sum latest)
    → shown ≡ s.name → ((es : List Entry) → IsSumOf roots sum es → text ≡ line_with roots shown es)
    → HasPut a b s.held t.held text
    → Looking roots period s d e start a.taken → Running roots period t d e start b.taken
counts_next roots period s t x name shown text sum d e start a b f same called grows off sums is line put w =
    let u = w.under_way in
    let reads : ReadSoFar s x d e w.xs = reads_entry s x d e w.xs f.entry w.reads in
    let read = read_to s x d e w.xs reads in
    let all = short_read d e (w.xs ++ x ∷ []) read in
    let ends = so_far_next period s.name name w.xs u.earlier u.latest x read.archive.ascending f.lies
    (off w.xs u.latest u.tally) u.so_far in
    let late = latest_short period name (w.xs ++ x ∷ []) (u.earlier ++ part s.name u.latest ∷ []) (x ∷ []) ends in
    let put : Carries start b.taken t.held (lines_with roots u.earlier ++ line_with roots s.name u.latest) =
    subst (λ (l : List ℕ). Carries start b.taken t.held (lines_with roots u.earlier ++ l))
    (line u.latest (sums w.xs u.latest u.tally) ∙ ap (λ (n : List ℕ). line_with roots n u.latest) is)
    (put.carries start (lines_with roots u.earlier) u.carries) in
    record {
      xs = w.xs ++ x ∷ [];
      reads = subst (λ (n : ArchiveEntries). Reads n d e (w.xs ++ x ∷ [])) (sym same) reads;
      under_way = record {
        earlier = u.earlier ++ part s.name u.latest ∷ [];
        latest = x ∷ [];
        so_far = subst (λ (n : List ℕ). EndsIn period n (w.xs ++ x ∷ []) (u.earlier ++ part s.name u.latest ∷ []) (x ∷ []))
            (sym called) ends;
        tally = grows w.xs u.latest (omega (arith, all)) (omega (arith, all, late)) u.tally;
        carries = subst (Carries start b.taken t.held) (sym (lines_more roots u.earlier (part s.name u.latest))) put;
      };
    }

-- or the writer fails
pub count_stops : (roots : Roots) (period : Period) (s : Digesting) (held : Held) (x : Entry)
    (name shown text : List ℕ) (sum : Sum)
    (d e : InputState) (start : Option (List ℕ)) (a b : OutputState) (sent : ℕ) → Finds period s x name
    → ((xs latest : List Entry) → IsTallyOf roots s.tally xs latest → ¬ ((xs ≡ []) ⊎ (name ≡ s.name)))
    → ((xs latest : List Entry) → IsTallyOf roots s.tally xs latest → IsSumOf roots sum latest)
    → shown ≡ s.name → ((es : List Entry) → IsSumOf roots sum es → text ≡ line_with roots shown es)
    → PutFailed a b s.held text sent
    → Looking roots period s d e start a.taken → Halted roots period (Write sent) held d e start b.taken
count_stops roots period s held x name shown text sum d e start a b sent f off sums is line fails w =
    let u = w.under_way in
    let reads : ReadSoFar s x d e w.xs = reads_entry s x d e w.xs f.entry w.reads in
    let read = read_to s x d e w.xs reads in
    let parts : List Part = u.earlier ++ part s.name u.latest ∷ [] in
    let ends = so_far_next period s.name name w.xs u.earlier u.latest x read.archive.ascending f.lies
    (off w.xs u.latest u.tally) u.so_far in
    let before : before_last (parts ++ part name (x ∷ []) ∷ []) ≡ parts = before_last_more parts (part name (x ∷ [])) in
    let short : length (lines_with roots parts) < 2 ^ 60 =
    short_before roots period (w.xs ++ x ∷ []) parts (part name (x ∷ [])) ends.divided
    (short_read d e (w.xs ++ x ∷ []) read) in
    let stops : StopsWithin start b.taken (lines_with roots parts) sent =
    subst (λ (l : List ℕ). StopsWithin start b.taken l sent)
    (ap (λ (l : List ℕ). lines_with roots u.earlier ++ l)
    (line u.latest (sums w.xs u.latest u.tally) ∙ ap (λ (n : List ℕ). line_with roots n u.latest) is)
    ∙ sym (lines_more roots u.earlier (part s.name u.latest)))
    (fails.stops start (lines_with roots u.earlier) u.carries) in
    record {
      xs = w.xs ++ x ∷ [];
      parts = parts ++ part name (x ∷ []) ∷ [];
      read = read;
      divided = ends.divided;
      short = omega (arith, short, ap (λ (ps : List Part). length (lines_with roots ps)) before);
      left = (
        lines_with roots parts,
        inl (ap (lines_with roots) (sym before)),
        omega (arith, short),
        stops,
      );
    }

-- ---- a fault of the input

-- what is left at it
halted : (roots : Roots) (period : Period) (s t : Digesting) (e f : InputState) (xs : List Entry)
    (start now : Option (List ℕ))
    → KeepsOutput s t → (u : UnderWay roots period s xs start now)
    → Carries start now t.held (lines_with roots (before_last (parts_of u.earlier s.name u.latest)))
halted roots period s t e f xs start now same u =
    subst (λ (ps : List Part). Carries start now t.held (lines_with roots ps))
    (sym (before_so_far period s.name xs u.earlier u.latest u.so_far))
    (subst (λ (h : Held). Carries start now h (lines_with roots u.earlier)) (sym same.held) u.carries)

short_halted : (roots : Roots) (period : Period) (s : Digesting) (d e : InputState) (start now : Option (List ℕ))
    → (w : Running roots period s d e start now)
    → length (lines_with roots (before_last (parts_of w.under_way.earlier s.name w.under_way.latest))) < 2 ^ 64
short_halted roots period s d e start now w =
    let u = w.under_way in
    omega (
      arith,
      ap (λ (ps : List Part). length (lines_with roots ps))
          (before_so_far period s.name w.xs u.earlier u.latest u.so_far),
      short_so_far roots period s.name w.xs u.earlier u.latest u.so_far
          (short_read d e w.xs (begun s.entries d e w.xs w.reads)),
    )

pub halts : (roots : Roots) (period : Period) (fault : SelectFault) (s t : Digesting) (d e f : InputState)
    (start now : Option (List ℕ))
    → KeepsOutput s t → IsHalt fault s.entries t.entries e f → Running roots period s d e start now
    → Halted roots period fault t.held d f start now
halts roots period (Archive fault) s t d e f start now same h w = record {
  xs = w.xs;
  parts = parts_of w.under_way.earlier s.name w.under_way.latest;
  read = h.cut_short d w.xs w.reads;
  divided = divided_so_far period s.name w.xs w.under_way.earlier w.under_way.latest w.under_way.so_far;
  short = short_halted roots period s d e start now w;
  left = halted roots period s t e f w.xs start now same w.under_way;
}
halts roots period Read s t d e f start now same h w = record {
  xs = w.xs;
  parts = parts_of w.under_way.earlier s.name w.under_way.latest;
  read = h.cut_short d w.xs w.reads;
  divided = divided_so_far period s.name w.xs w.under_way.earlier w.under_way.latest w.under_way.so_far;
  short = short_halted roots period s d e start now w;
  left = halted roots period s t e f w.xs start now same w.under_way;
}
halts roots period Endless s t d e f start now same h w = record {
  xs = w.xs;
  parts = parts_of w.under_way.earlier s.name w.under_way.latest;
  read = h.cut_short d w.xs w.reads;
  divided = divided_so_far period s.name w.xs w.under_way.earlier w.under_way.latest w.under_way.so_far;
  short = short_halted roots period s d e start now w;
  left = halted roots period s t e f w.xs start now same w.under_way;
}
halts roots period (Write sent) s t d e f start now same h w = absurd h
halts roots period Memory s t d e f start now same h w = absurd h
