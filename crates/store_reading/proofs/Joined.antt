-- The inputs of a day are joined.
use Rattle.std.proofs.Common.{◌≡◌, ◌∙◌, ◌⊎◌, ℕ, Bool, List, [], ◌∷◌, ◌++◌, Option, None, Some, inl, inr}
use Rattle.std.proofs.Common.{refl, sym, ap, subst, arith, append-nil, take, drop, take-append-drop}
use Rattle.std.specs.Prelude.{◌↔◌}
use Rattle.std.specs.Io.KnownBytes.{Appends, Consumes, IsAtEnd}
use Rattle.disk.specs.States.{Files}
use Rattle.octet_devices.specs.Device.{InputState}
use Rattle.archive_text.specs.Entries.{Entry, Has, IsBelow}
use Rattle.archive_text.specs.Text.{IsArchive, text_of}
use Rattle.archive_text.specs.declared.limits.TheConstants.{ENTRY_MAX}
use Rattle.archive_text.proofs.Orders.{below_irreflexive, below_total, below_transitive}
use Rattle.archive_text.proofs.Prefixes.{longest_whole}
use Rattle.archive_text.proofs.Texts.{same_text}
use Rattle.archive_streams.specs.Entries.{IsWhole}
use Rattle.archive_streams.specs.Joining.{IsWithin}
use Rattle.archive_sets.specs.declared.range.InRange.{InRange}
use Rattle.archive_join.specs.Holders.{AreKeptUpTo, IsHeld, kept_text}
use Rattle.archive_join.specs.Inputs.{AreGiven, AreWhole, HasGiven, MayBeFront, MayBeFronts}
use Rattle.archive_join.specs.Joined.{IsWrittenAt, Joined, Stopped}
use Rattle.archive_join.specs.Ranges.{IsOfRange}
use Rattle.archive_join.specs.declared.fault.JoinFault.{JoinFault}
use Rattle.archive_join.specs.declared.fault.JoinFault.TheVariants.{Archive, Read, Endless, Write, Memory}
use Rattle.store_reading.specs.Days.{IsDayText}
use Rattle.store_reading.specs.Folders.{AreNamesOf}
use Rattle.store_reading.specs.Ranges.{text_in}
use Rattle.store_reading.specs.Segments.{AreArchives, AreSegmentsOf, IsArchiveInput}
use Rattle.store_reading.specs.Sets.{AreOfDay, IsAbove, IsInDay, WritesDay, WritesPartOfDay}
use Rattle.store_reading.proofs.Held.{entry_day, listed_name}
use Rattle.store_reading.proofs.Ranged.{of_range, range_ascending, range_members, range_text}
use Rattle.record_store.specs.Holdings.{SegmentHas}

-- ---- inputs

pub archives_push : (ds : List InputState) (xss : List (List Entry)) (d : InputState) (xs : List Entry)
    → AreArchives ds xss
    → IsArchiveInput d xs → AreArchives (ds ++ d ∷ []) (xss ++ xs ∷ [])
archives_push [] [] d xs a i = (i, tt)
archives_push [] (ys ∷ xss) d xs a i = absurd a
archives_push (c ∷ ds) [] d xs a i = absurd a
archives_push (c ∷ ds) (ys ∷ xss) d xs a i = (a.0, archives_push ds xss d xs a.1 i)

pub held_push : (xss : List (List Entry)) (xs : List Entry) (e : Entry)
    → IsHeld (xss ++ xs ∷ []) e ↔ (IsHeld xss e ⊎ Has xs e)
held_push xss xs e = (there xss, back xss)
  where
    there : (yss : List (List Entry)) → IsHeld (yss ++ xs ∷ []) e → IsHeld yss e ⊎ Has xs e
    there [] (inl h) = inr h
    there [] (inr none) = absurd none
    there (ys ∷ yss) (inl h) = inl (inl h)
    there (ys ∷ yss) (inr h) = elim (there yss h) [ inl k ↦ inl (inr k) | inr k ↦ inr k ]

    back : (yss : List (List Entry)) → IsHeld yss e ⊎ Has xs e → IsHeld (yss ++ xs ∷ []) e
    back [] (inl none) = absurd none
    back [] (inr h) = inl h
    back (ys ∷ yss) (inl (inl h)) = inl h
    back (ys ∷ yss) (inl (inr h)) = inr (back yss (inl h))
    back (ys ∷ yss) (inr h) = inr (back yss (inr h))

pub of_day : (files : Files) (names : List (List ℕ)) (day : List ℕ) (xs : List Entry) (ds : List InputState)
    (d : InputState)
    → IsDayText day → AreNamesOf files names → AreSegmentsOf files names day ds → IsArchiveInput d xs
    → AreOfDay files day xs (ds ++ d ∷ [])
of_day files names day xs ds d text listed s i = record {
  entries = s.entries ++ xs ∷ [];
  inputs = archives_push ds s.entries d xs s.inputs i;
  have = λ e. (λ h. there e ((held_push s.entries xs e).0 h), λ h. (held_push s.entries xs e).1 (back e h));
}
  where
    there : (e : Entry) → IsHeld s.entries e ⊎ Has xs e → IsInDay files day xs e
    there e (inl h) = let n = (s.have e).0 h in inr (entry_day (files n.0) day e text n.2.1, (n.0, n.2))
    there e (inr h) = inl h

    back : (e : Entry) → IsInDay files day xs e → IsHeld s.entries e ⊎ Has xs e
    back e (inl h) = inr h
    back e (inr (of, (name, (segment, some)))) =
        inl ((s.have e).1 (
          name,
          listed_name files names name (λ file. SegmentHas day file e) listed some,
          (segment, some),
        ))

-- ---- what was read of an input

pub rest_of : (d e : Option (List ℕ)) (t s : List ℕ) → Consumes d e t → d ≡ Some s
    → (l : List ℕ) × (e ≡ Some l) × (s ≡ t ++ l)
rest_of None e t s c is = absurd (cc is)
rest_of (Some x) None t s c is = absurd c
rest_of (Some x) (Some y) t s c is = let same : s ≡ x = cc is in (y, refl, same ∙ c)

pub whole_rest : (e : Option (List ℕ)) (l : List ℕ) → e ≡ Some l → IsAtEnd e → l ≡ []
whole_rest e l is end = subst IsAtEnd is end

whole_is : (d e : InputState) (xs ys : List Entry) → IsArchiveInput d xs → IsWhole d e ys → ys ≡ xs
whole_is d e xs ys i w =
    let r = rest_of d.left e.left (text_of ys) (text_of xs) w.consumed i.left in
    let none = whole_rest e.left r.0 r.1 w.none_left in
    same_text ENTRY_MAX ENTRY_MAX ys xs (omega arith) (omega arith) w.archive i.archive
    (sym (r.2 ∙ ap (λ (t : List ℕ). text_of ys ++ t) none ∙ append-nil (text_of ys)))

wholes_are : (ds es : List InputState) (xss yss : List (List Entry)) → AreArchives ds xss → AreWhole ds es yss
    → yss ≡ xss
wholes_are [] [] [] [] a w = refl
wholes_are [] [] [] (ys ∷ yss) a w = absurd w
wholes_are [] [] (xs ∷ xss) yss a w = absurd a
wholes_are [] (e ∷ es) xss yss a w = absurd w
wholes_are (d ∷ ds) [] xss yss a w = absurd w
wholes_are (d ∷ ds) (e ∷ es) [] yss a w = absurd a
wholes_are (d ∷ ds) (e ∷ es) (xs ∷ xss) [] a w = absurd w
wholes_are (d ∷ ds) (e ∷ es) (xs ∷ xss) (ys ∷ yss) a w =
    ap (λ (zs : List Entry). zs ∷ yss) (whole_is d e xs ys a.0 w.0)
    ∙ ap (λ (zss : List (List Entry)). xs ∷ zss) (wholes_are ds es xss yss a.1 w.1)

front_of : (d e : InputState) (xs : List Entry) (given : List ℕ) → IsArchiveInput d xs → HasGiven d e given
    → MayBeFront e given xs
front_of d e xs given i g =
    let r = rest_of d.left e.left given (text_of xs) g.consumed i.left in (
      r.0,
      [],
      λ end. whole_rest e.left r.0 r.1 end,
      longest_whole ENTRY_MAX (given ++ r.0) xs (omega arith) i.archive (sym r.2),
    )

fronts_of : (ds es : List InputState) (xss : List (List Entry)) (given : List (List ℕ)) → AreArchives ds xss
    → AreGiven ds es given → MayBeFronts es given xss
fronts_of [] [] [] [] a g = tt
fronts_of [] [] [] (x ∷ given) a g = absurd g
fronts_of [] [] (xs ∷ xss) given a g = absurd a
fronts_of [] (e ∷ es) xss given a g = absurd g
fronts_of (d ∷ ds) [] xss given a g = absurd g
fronts_of (d ∷ ds) (e ∷ es) [] given a g = absurd a
fronts_of (d ∷ ds) (e ∷ es) (xs ∷ xss) [] a g = absurd g
fronts_of (d ∷ ds) (e ∷ es) (xs ∷ xss) (x ∷ given) a g = (front_of d e xs x a.0 g.0, fronts_of ds es xss given a.1 g.1)

-- ---- what was written

abbrev pub keeps_all : List Bool → Type 0
keeps_all have = Unit {0}

abbrev pub range_texts : InRange → List Bool → Entry → List ℕ
range_texts range have e = text_in range e

pub day_joined : (files : Files) (range : InRange) (day : List ℕ) (xs : List Entry) (ds es : List InputState)
    (old new : Option (List ℕ)) (n : ℕ) → AreOfDay files day xs ds
    → Joined keeps_all (range_texts range) ds es old new n → WritesDay files range day xs old new
day_joined files range day xs ds es old new n a j = record {
  entries = of_range range j.ys;
  ascending = range_ascending range j.ys j.kept.ascending;
  members = λ e. (λ h. there e ((range_members range j.ys e).0 h), λ h. (range_members range j.ys e).1 (back e h));
  written = subst (Appends old new) (range_text range j.xss j.ys) j.written;
}
  where
    same : j.xss ≡ a.entries
    same = wholes_are ds es a.entries j.xss a.inputs j.whole

    there : (e : Entry) → Has j.ys e × IsOfRange range e → IsInDay files day xs e × IsOfRange range e
    there e h = (
      (a.have e).0 (subst (λ (zss : List (List Entry)). IsHeld zss e) same ((j.kept.members e).0 h.0).0),
      h.1,
    )

    back : (e : Entry) → IsInDay files day xs e × IsOfRange range e → Has j.ys e × IsOfRange range e
    back e h = (
      (j.kept.members e).1 (subst (λ (zss : List (List Entry)). IsHeld zss e) (sym same) ((a.have e).1 h.0), tt),
      h.1,
    )

-- an entry that is not within a list is above all of those that are
above_within : (bound : List Entry) (e w : Entry) → ¬ (IsWithin bound e) → IsWithin bound w → IsBelow w e
above_within bound e w out (m, has, below) = go (below_total e m)
  where
    up : IsBelow m e → (w ≡ m) ⊎ IsBelow w m → IsBelow w e
    up more (inl same) = subst (λ (x : Entry). IsBelow x e) (sym same) more
    up more (inr less) = below_transitive w m e less more

    go : IsBelow e m ⊎ ((e ≡ m) ⊎ IsBelow m e) → IsBelow w e
    go (inl less) = absurd (out (m, has, inr less))
    go (inr (inl same)) = absurd (out (m, has, inl same))
    go (inr (inr more)) = up more below

within_or_not : (bound : List Entry) (e : Entry) → IsWithin bound e ⊎ ¬ (IsWithin bound e)
within_or_not [] e = inr (λ w. w.1)
within_or_not (m ∷ bound) e = go (below_total e m) (within_or_not bound e)
  where
    later : IsWithin bound e → IsWithin (m ∷ bound) e
    later (k, has, below) = (k, inr has, below)

    no : IsBelow m e → ¬ (IsWithin bound e) → ¬ (IsWithin (m ∷ bound) e)
    no above out (k, inl same, below) = beyond (subst (λ (x : Entry). IsBelow x e) same above) below
      where
        beyond : IsBelow k e → ¬ ((e ≡ k) ⊎ IsBelow e k)
        beyond over (inl is) = below_irreflexive k (subst (IsBelow k) is over)
        beyond over (inr under) = below_irreflexive k (below_transitive k e k over under)
    no above out (k, inr has, below) = out (k, has, below)

    go : IsBelow e m ⊎ ((e ≡ m) ⊎ IsBelow m e) → IsWithin bound e ⊎ ¬ (IsWithin bound e)
        → IsWithin (m ∷ bound) e ⊎ ¬ (IsWithin (m ∷ bound) e)
    go (inl less) rest = inl (m, inl refl, inr less)
    go (inr (inl same)) rest = inl (m, inl refl, inl same)
    go (inr (inr more)) (inl within) = inl (later within)
    go (inr (inr more)) (inr out) = inr (no more out)

-- a prefix of a text
record IsPart (old new : Option (List ℕ)) (text : List ℕ) : Type 0 where
  part : List ℕ
  more : List ℕ
  begins : text ≡ part ++ more
  written : Appends old new part

whole_part : (old new : Option (List ℕ)) (text : List ℕ) → Appends old new text → IsPart old new text
whole_part old new text h = record { part = text; more = []; begins = sym (append-nil text); written = h }

part_of : (fault : JoinFault) (old new : Option (List ℕ)) (text : List ℕ) → IsWrittenAt fault old new text
    → IsPart old new text
part_of (Archive input fault) old new text h = whole_part old new text h
part_of (Read input) old new text h = whole_part old new text h
part_of (Endless input) old new text h = whole_part old new text h
part_of (Write sent) old new text h =
    record { part = take h.n text; more = drop h.n text; begins = sym (take-append-drop h.n text); written = h.appends }
part_of Memory old new text h = whole_part old new text h

pub day_halted : (files : Files) (range : InRange) (day : List ℕ) (xs : List Entry) (fault : JoinFault)
    (ds es : List InputState) (old new : Option (List ℕ)) → AreOfDay files day xs ds
    → Stopped keeps_all (range_texts range) fault ds es old new → WritesPartOfDay files range day xs old new
day_halted files range day xs fault ds es old new a s =
    halted (s.written a.entries (fronts_of ds es a.entries s.given a.inputs s.read))
  where
    first : (ys : List Entry) → AreKeptUpTo keeps_all a.entries s.bound ys → (e : Entry) → IsInDay files day xs e
        → IsOfRange range e → IsWithin s.bound e ⊎ ¬ (IsWithin s.bound e)
        → Has (of_range range ys) e ⊎ IsAbove (of_range range ys) e
    first ys kept e mine in_range (inl within) =
        inl ((range_members range ys e).1 ((kept.members e).1 ((a.have e).1 mine, within, tt), in_range))
    first ys kept e mine in_range (inr out) =
        inr (λ w h. above_within s.bound e w out ((kept.members w).0 ((range_members range ys w).0 h).0).1)

    halted : (ys : List Entry) × AreKeptUpTo keeps_all a.entries s.bound ys
        × IsWrittenAt fault old new (kept_text (range_texts range) a.entries ys) → WritesPartOfDay files range day xs
        old new
    halted (ys, kept, written) =
        let part = part_of fault old new (kept_text (range_texts range) a.entries ys) written in
        record {
          entries = of_range range ys;
          ascending = range_ascending range ys kept.ascending;
          members = λ e h. let m = (range_members range ys e).0 h in ((a.have e).0 ((kept.members e).0 m.0).0, m.1);
          first = λ e mine in_range. first ys kept e mine in_range (within_or_not s.bound e);
          part = part.part;
          more = part.more;
          begins = sym (range_text range a.entries ys) ∙ part.begins;
          written = part.written;
        }

-- nothing was written
pub nothing_halted : (files : Files) (range : InRange) (day : List ℕ) (xs : List Entry) (old new : Option (List ℕ))
    → Appends old new [] → WritesPartOfDay files range day xs old new
nothing_halted files range day xs old new h = record {
  entries = [];
  ascending = tt;
  members = λ e k. absurd k;
  first = λ e mine in_range. inr (λ w k. absurd k);
  part = [];
  more = [];
  begins = refl;
  written = h;
}

-- octets in memory
pub octets_input : (d : InputState) (text : List ℕ) (xs : List Entry)
    → d ≡ record { calls = 0; failures = 0; ends = 0; left = Some text } → text ≡ text_of xs → IsArchive ENTRY_MAX xs
    → IsArchiveInput d xs
octets_input d text xs is text_is archive = record {
  unused = record {
    calls = ap (λ (s : InputState). s.calls) is;
    failures = ap (λ (s : InputState). s.failures) is;
    ends = ap (λ (s : InputState). s.ends) is;
  };
  left = ap (λ (s : InputState). s.left) is ∙ ap Some text_is;
  archive = archive;
}
