-- Segments are read and counted.
use Rattle.std.proofs.Common.{◌≡◌, ℕ, ◌+◌, ◌-◌, ◌^◌, ◌≤◌, List, [], ◌∷◌, ◌++◌, length, min, refl, sym, ap, subst, ◌∙◌, arith, inl, inr}
use Rattle.std.specs.Prelude.{true, IsSomeAnd, Option, None, Some, codes}
use Rattle.std.specs.List.{AllByRecursion}
use Rattle.std.proofs.lemmas.List.{length-append}
use Rattle.disk.specs.States.{Files}
use Rattle.hex.specs.Hex.{encode_lower}
use Rattle.sha2.specs.Hashers.{Holds256}
use Rattle.sha2.specs.Sha256.{sha256}
use Rattle.sha2.specs.declared.Sha256.{Sha256}
use Rattle.octet_devices.specs.Device.{InputState}
use Rattle.octet_devices.specs.Held.{counted}
use Rattle.archive_text.specs.Entries.{Entry}
use Rattle.archive_text.specs.Text.{entry_text, text_of}
use Rattle.archive_text.proofs.Members.{all_append, has_either, has_left, has_right}
use Rattle.archive_text.proofs.Texts.{text_push}
use Rattle.archive_streams.specs.Entries.{current, Ends, Reads, ReadsOne}
use Rattle.archive_streams.specs.declared.entries.ArchiveEntries.{ArchiveEntries}
use Rattle.archive_sets.proofs.Selecting.{no_more_than_octets}
use Rattle.record_store.specs.Holdings.{IsOfPeriod}
use Rattle.record_store.specs.Names.{IsSegment}
use Rattle.store_reading.specs.Damages.{position}
use Rattle.store_reading.specs.Folders.{Opens}
use Rattle.store_reading.specs.Segments.{IsNamedBy}
use Rattle.store_reading.proofs.Damaged.{file_is}
use Rattle.store_reading.proofs.Hashed.{HashesOf}
use Rattle.store_expiry.specs.Expired.{IsExpired}
use Rattle.store_expiry.specs.Surveys.{IsSurveyed, IsSurveyedAt, IsTallyOf}
use Rattle.store_expiry.specs.declared.expired.Expired.{Expired}
use Rattle.store_expiry.specs.declared.survey.Survey.{Survey}
use Rattle.store_expiry.specs.declared.tally.Tally.{Tally}

-- ---- one entry more

counted_more : (most n records later : ℕ) → records ≡ min n most → later ≡ min (records + 1) most
    → later ≡ min (n + 1) most
counted_more most n records later one two = omega arith

more_counted : (es : List Entry) (e : Entry) (records later : ℕ) → records ≡ counted (length es)
    → later ≡ min (records + 1) (2 ^ 64 - 1) → later ≡ counted (length (es ++ e ∷ []))
more_counted es e records later was is =
    counted_more (2 ^ 64 - 1) (length es) records later was is
    ∙ ap counted (sym (length-append es (e ∷ [])))

pub tally_expired : (x : Expired) (es : List Entry) (e : Entry) (s t : Tally) → IsTallyOf x es s → IsExpired x e
    → t.records ≡ min (s.records + 1) (2 ^ 64 - 1) → t.expired ≡ true → t.left ≡ s.left → IsTallyOf x (es ++ e ∷ []) t
tally_expired x es e s t h is records expired left = record {
  records = more_counted es e s.records t.records h.records records;
  some = λ yes. record { some = e; has = has_right es (e ∷ []) e (inl refl); expired = is };
  none = λ no y has. absurd (cc (sym expired ∙ no));
  all = λ no y has. elim (has_either es (e ∷ []) y has) [
    | inl before ↦ h.all (sym left ∙ no) y before
    | inr last ↦ elim last [ inl same ↦ subst (IsExpired x) same is | inr none ↦ absurd none ]
  ];
}

pub tally_left : (x : Expired) (es : List Entry) (e : Entry) (s t : Tally) → IsTallyOf x es s → ¬ (IsExpired x e)
    → t.records ≡ min (s.records + 1) (2 ^ 64 - 1) → t.left ≡ true → t.expired ≡ s.expired → IsTallyOf x (es ++ e ∷ []) t
tally_left x es e s t h not records left expired = record {
  records = more_counted es e s.records t.records h.records records;
  some = λ yes. let before = h.some (sym expired ∙ yes) in
      record { some = before.some; has = has_left es (e ∷ []) before.some before.has; expired = before.expired };
  none = λ no y has. elim (has_either es (e ∷ []) y has) [
    | inl before ↦ h.none (sym expired ∙ no) y before
    | inr last ↦ elim last [ inl same ↦ subst (λ (z : Entry). ¬ (IsExpired x z)) same not | inr none ↦ absurd none ]
  ];
  all = λ no y has. absurd (cc (sym left ∙ no));
}

-- ---- entries were read, hashed and counted

pub record SurveysOf (x : Expired) (period : List ℕ) (s : ArchiveEntries) (hasher : Sha256) (at : ℕ) (t : Tally)
    (d e : InputState) : Type 0 where
  pub entries : List Entry
  pub reads : Reads s d e entries
  pub days : AllByRecursion (IsOfPeriod period) entries
  pub hashed : Holds256 hasher (text_of entries)
  pub place : at ≡ position (length (text_of entries))
  pub tally : IsTallyOf x entries t

pub hashes_of : (x : Expired) (period : List ℕ) (s : ArchiveEntries) (hasher : Sha256) (at : ℕ) (t : Tally)
    (d e : InputState) → SurveysOf x period s hasher at t d e → HashesOf period s hasher at d e
hashes_of x period s hasher at t d e h = record {
  segment = record { entries = h.entries; reads = h.reads; days = h.days };
  hashed = h.hashed;
  place = h.place;
}

pub surveys_none : (x : Expired) (period : List ℕ) (s : ArchiveEntries) (hasher : Sha256) (t : Tally) (d : InputState)
    → Reads s d d [] → Holds256 hasher [] → IsTallyOf x [] t → SurveysOf x period s hasher 0 t d d
surveys_none x period s hasher t d none empty tally =
    record { entries = []; reads = none; days = tt; hashed = empty; place = refl; tally = tally }

place_more : (most a b at n later : ℕ) → at ≡ min a most → n ≡ min b most → later ≡ min (at + n) most
    → later ≡ min (a + b) most
place_more most a b at n later one two both = omega arith

pub surveys_more : (x : Expired) (period : List ℕ) (s t : ArchiveEntries) (hasher next : Sha256) (at n later : ℕ)
    (a b : Tally) (d e f : InputState) → SurveysOf x period s hasher at a d e → ReadsOne s t e f
    → IsOfPeriod period (current t)
    → ((m : List ℕ) → Holds256 hasher m → Holds256 next (m ++ entry_text (current t)))
    → n ≡ position (length (entry_text (current t))) → later ≡ position (at + n)
    → ((es : List Entry) → IsTallyOf x es a → IsTallyOf x (es ++ current t ∷ []) b)
    → SurveysOf x period t next later b d f
surveys_more x period s t hasher next at n later a b d e f h one of more size sum tallies = record {
  entries = h.entries ++ current t ∷ [];
  reads = one.reads d h.entries h.reads;
  days = all_append (IsOfPeriod period) h.entries (current t ∷ []) h.days (of, tt);
  hashed = subst (Holds256 next) (sym (text_push h.entries (current t))) (more (text_of h.entries) h.hashed);
  place = place_more (2 ^ 64 - 1) (length (text_of h.entries)) (length (entry_text (current t))) at n later h.place size
      sum
      ∙ ap position (sym (ap length (text_push h.entries (current t))
      ∙ length-append (text_of h.entries) (entry_text (current t))));
  tally = tallies h.entries h.tally;
}

exact_of : (n most large is : ℕ) → is ≡ min n large → n ≤ most → most ≤ large → is ≡ n
exact_of n most large is at few fits = omega arith

pub surveyed_of : (x : Expired) (period : List ℕ) (s t : ArchiveEntries) (hasher : Sha256) (v : Survey)
    (d e f : InputState) → SurveysOf x period s hasher v.octets v.tally d e → Ends s t e f
    → ((text : List ℕ) → Holds256 hasher text → v.hex ≡ encode_lower (sha256 text)) → IsSurveyed x period d f v
surveyed_of x period s t hasher v d e f h ends digest =
    let whole = ends.whole d h.entries h.reads in
    record {
      segment = record { entries = h.entries; whole = whole; days = h.days };
      is = record {
        tally = h.tally;
        records = exact_of (length h.entries) (2 ^ 38) (2 ^ 64 - 1) v.tally.records h.tally.records
            (omega (arith, no_more_than_octets h.entries, whole.short)) (omega arith);
        octets = exact_of (length (text_of h.entries)) (2 ^ 38) (2 ^ 64 - 1) v.octets h.place
            (omega (arith, whole.short)) (omega arith);
        digest = digest (text_of h.entries) h.hashed;
      };
    }

-- ---- the file of a name

surveyed_file : (x : Expired) (files : Files) (name period : List ℕ) (d e : InputState) (s : Survey)
    (o : Option (List ℕ)) → files name ≡ o → IsSomeAnd o (λ octets. d.left ≡ Some octets) → IsSegment period name
    → IsSurveyed x period d e s → IsNamedBy period name s.hex → IsSurveyedAt x files name period s
surveyed_file x files name period d e s None there opened segment v named = absurd opened
surveyed_file x files name period d e s (Some file) there opened segment v named = record {
  entries = v.segment.entries;
  is_file = record {
    file = there ∙ ap Some (file_is period d e file v.segment opened);
    segment = segment;
    archive = record { archive = v.segment.whole.archive; text_is = refl; days = v.segment.days };
    named = named ∙ ap (λ (l : List ℕ). period ++ 46 ∷ l ++ codes ".archive") v.is.digest;
  };
  is = v.is;
}

pub surveyed_at : (x : Expired) (files : Files) (name period : List ℕ) (d e : InputState) (s : Survey)
    → Opens files name d → IsSegment period name → IsSurveyed x period d e s → IsNamedBy period name s.hex
    → IsSurveyedAt x files name period s
surveyed_at x files name period d e s opened segment v named =
    surveyed_file x files name period d e s (files name) refl opened segment v named
