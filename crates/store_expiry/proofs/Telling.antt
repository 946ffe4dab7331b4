-- Lines are written of segments that go.
use Rattle.std.proofs.Common.{◌≡◌, ◌≢◌, ◌⊎◌, inl, inr, ⊎_elim, ℕ, List, [], ◌∷◌, ◌++◌, refl, sym, ap, subst, ◌∙◌, take}
use Rattle.std.proofs.Common.{append-nil, append_assoc}
use Rattle.std.specs.Prelude.{Contains, Option, Result, Err}
use Rattle.std.specs.List.{AllByRecursion}
use Rattle.std.specs.Io.KnownBytes.{Appends}
use Rattle.std.proofs.KnownBytes.{Appends-nil, Appends-trans}
use Rattle.std.proofs.lemmas.Grind.{flat_map-append}
use Rattle.std.proofs.lemmas.List.{map-append}
use Rattle.std.proofs.lemmas.List.Elements.{Contains-append_cases, Contains-append_left, Contains-append_right}
use Rattle.std.proofs.lemmas.List.Elements.{Contains-push, Contains-push_cases}
use Rattle.disk.specs.States.{State}
use Rattle.archive_text.specs.Entries.{Entry}
use Rattle.archive_text.specs.Text.{text_of}
use Rattle.archive_text.proofs.Members.{all_append}
use Rattle.archive_digest.specs.Digests.{line_of}
use Rattle.record_store.specs.Holdings.{HeldAt}
use Rattle.record_store.specs.Names.{IsSegment}
use Rattle.record_store.proofs.Drafted.{segment_has}
use Rattle.record_store.proofs.Named.{same_or_apart}
use Rattle.store_upkeep.specs.Compaction.{shown}
use Rattle.store_expiry.specs.Expiry.{IsClear, NoneIsGone, Sheds, StaysAt}
use Rattle.store_expiry.specs.Lines.{AreApart, IsPart, IsToldOf, Told, Writes, WritesAll, WritesLines, WritesPart}
use Rattle.store_expiry.specs.Lines.{told_line, told_lines, told_names}
use Rattle.store_expiry.specs.Surveys.{IsFoundAt, IsSurveyOf}
use Rattle.store_expiry.specs.declared.expired.Expired.{Expired}
use Rattle.store_expiry.specs.declared.survey.Found.{Found}
use Rattle.store_expiry.proofs.Apart.{both_apart, none_there, one_apart, one_there}
use Rattle.store_expiry.proofs.Changing.{clear_as}
use Rattle.store_expiry.proofs.Shedding.{sheds_clear, stays_then}

-- ---- nothing is gone, and nothing is told

abbrev pub writes_none : (x : Expired) (old new : State) (t : Option (List ℕ)) → NoneIsGone x old new
    → Writes x old new t t []
writes_none x old new t stays = record {
  told = [];
  once = tt;
  each = tt;
  lines = Appends-nil t;
  stay = λ period name segment. inr (stays period name segment);
}

pub writes_no_part : (x : Expired) (old new : State) (t : Option (List ℕ)) (P : List ℕ → Type 0)
    → NoneIsGone x old new → WritesPart x old new t t P
writes_no_part x old new t P stays = record {
  behind = [];
  part = inl refl;
  writes = writes_none x old new t stays;
  only = λ name has. absurd (none_there name has);
}

pub clear_is_all : (x : Expired) (old new : State) (t : Option (List ℕ)) (P : List ℕ → Type 0) → NoneIsGone x old new
    → ((name : List ℕ) → P name → IsClear x (shown old) name) → WritesAll x old new t t P
clear_is_all x old new t P stays clear = record {
  writes = writes_none x old new t stays;
  only = λ name has. absurd (none_there name has);
  all = λ period name segment is. inr (clear name is);
}

-- ---- a line is written

module _ (x : Expired) (old mid : State) (a b : Option (List ℕ)) (t : Told) (is : IsToldOf x (shown old) t)
    (stays : NoneIsGone x old mid) where
  tells_part : (n : ℕ) (P : List ℕ → Type 0) → Appends a b (take n (told_line t)) → WritesPart x old mid a b P
  tells_part n P appends = record {
    behind = take n (told_line t);
    part = inr (t, is, (n, refl));
    writes = record {
      told = [];
      once = tt;
      each = tt;
      lines = appends;
      stay = λ period name segment. inr (stays period name segment);
    };
    only = λ name has. absurd (none_there name has);
  }

  tells_line : (new : State) → Appends a b (told_line t)
      → ((other : List ℕ) → other ≢ t.name → shown new other ≡ shown mid other)
      → WritesAll x old new a b (λ n. n ≡ t.name)
  tells_line new appends others = record {
    writes = record {
      told = t ∷ [];
      once = one_apart t.name;
      each = (is, tt);
      lines = subst (Appends a b) (sym (append-nil (told_line t ++ []) ∙ append-nil (told_line t))) appends;
      stay = λ period name segment. ⊎_elim
          (λ (same : name ≡ t.name). inl (subst (Contains (t.name ∷ [])) (sym same) (Contains-push [] t.name)))
          (λ (apart : name ≢ t.name). inr (stays_then x old mid new name (stays period name segment)
          (inl (others name apart))))
          (same_or_apart name t.name);
    };
    only = λ name has. one_there t.name name has;
    all = λ period name segment same. inl (subst (Contains (t.name ∷ [])) (sym same) (Contains-push [] t.name));
  }

pub as_part : (x : Expired) (old new : State) (a b : Option (List ℕ)) (P : List ℕ → Type 0)
    → WritesAll x old new a b P → WritesPart x old new a b P
as_part x old new a b P w = record { behind = []; part = inl refl; writes = w.writes; only = w.only }

-- ---- the files that are shown do not change

module _ (x : Expired) (old mid new : State) (a b : Option (List ℕ))
    (same : (name : List ℕ) → shown new name ≡ shown mid name) where
  stays_on : (name : List ℕ) → StaysAt x old mid name → StaysAt x old new name
  stays_on name was = stays_then x old mid new name was (inl (same name))

  pub all_on : (P : List ℕ → Type 0) → WritesAll x old mid a b P → WritesAll x old new a b P
  all_on P w = record {
    writes = record {
      told = w.writes.told;
      once = w.writes.once;
      each = w.writes.each;
      lines = w.writes.lines;
      stay = λ period name segment. ⊎_elim
          (λ told. inl told)
          (λ was. inr (stays_on name was))
          (w.writes.stay period name segment);
    };
    only = w.only;
    all = w.all;
  }

-- ---- one behind the other

module _ (x : Expired) (zero mid : State) (sheds : Sheds x zero mid) where
  told_before : (t : Told) → IsToldOf x (shown mid) t → IsToldOf x (shown zero) t
  told_before t is = record {
    is_file = record {
      file = ⊎_elim
          (λ (same : shown mid t.name ≡ shown zero t.name). sym same ∙ is.is_file.file)
          (λ (clear : IsClear x (shown mid) t.name). absurd (clear t.period is.some.some is.is_file.segment
          (subst (λ (o : Option (List ℕ)). HeldAt t.name o is.some.some) (sym is.is_file.file)
          (segment_has t.name t.period (text_of t.entries) t.entries is.is_file.segment is.is_file.archive is.some.some
          is.some.has)) is.some.expired))
          (sheds_clear x zero mid sheds t.name);
      segment = is.is_file.segment;
      archive = is.is_file.archive;
      named = is.is_file.named;
    };
    some = is.some;
  }

  all_before : (ts : List Told) → AllByRecursion (IsToldOf x (shown mid)) ts
      → AllByRecursion (IsToldOf x (shown zero)) ts
  all_before [] all = tt
  all_before (t ∷ ts) all = (told_before t all.0, all_before ts all.1)

  part_before : (part : List ℕ) → IsPart x (shown mid) part → IsPart x (shown zero) part
  part_before part (inl none) = inl none
  part_before part (inr (t, is, cut)) = inr (t, told_before t is, cut)

  module _ (new : State) (a b c : Option (List ℕ)) (one : Writes x zero mid a b []) where
    names_split : (ts : List Told) → told_names (one.told ++ ts) ≡ told_names one.told ++ told_names ts
    names_split ts = map-append (λ (t : Told). t.name) one.told ts

    told_first : (ts : List Told) (name : List ℕ) → Contains (told_names one.told) name
        → Contains (told_names (one.told ++ ts)) name
    told_first ts name has =
        subst (λ (l : List (List ℕ)). Contains l name) (sym (names_split ts))
        (Contains-append_left (told_names one.told) (told_names ts) name has)

    told_then : (ts : List Told) (name : List ℕ) → Contains (told_names ts) name
        → Contains (told_names (one.told ++ ts)) name
    told_then ts name has =
        subst (λ (l : List (List ℕ)). Contains l name) (sym (names_split ts))
        (Contains-append_right (told_names one.told) (told_names ts) name has)

    abbrev IsOther : List Told → Type 0
    IsOther ts = (name : List ℕ) → Contains (told_names one.told) name → Contains (told_names ts) name → ⊥

    abbrev writes_then : (behind : List ℕ) (two : Writes x mid new b c behind) → IsOther two.told
        → Writes x zero new a c behind
    writes_then behind two other = record {
      told = one.told ++ two.told;
      once = subst AreApart (sym (names_split two.told))
          (both_apart (told_names one.told) (told_names two.told) one.once two.once other);
      each = all_append (IsToldOf x (shown zero)) one.told two.told one.each (all_before two.told two.each);
      lines = subst (Appends a c)
          (ap (λ (l : List ℕ). l ++ (told_lines two.told ++ behind)) (append-nil (told_lines one.told))
          ∙ sym (append_assoc (told_lines one.told) (told_lines two.told) behind)
          ∙ ap (λ (l : List ℕ). l ++ behind) (sym (flat_map-append told_line one.told two.told)))
          (Appends-trans a b c (told_lines one.told ++ []) (told_lines two.told ++ behind) one.lines two.lines);
      stay = λ period name segment. ⊎_elim
          (λ told. inl (told_first two.told name told))
          (λ was. ⊎_elim
          (λ told. inl (told_then two.told name told))
          (λ now. inr (stays_then x zero mid new name was now))
          (two.stay period name segment))
          (one.stay period name segment);
    }

    either_told : (P : List ℕ → Type 0) (ts : List Told)
        → ((name : List ℕ) → Contains (told_names one.told) name → P name)
        → ((name : List ℕ) → Contains (told_names ts) name → P name) → (name : List ℕ)
        → Contains (told_names (one.told ++ ts)) name → P name
    either_told P ts first then name has = ⊎_elim
        (λ before. first name before)
        (λ now. then name now)
        (Contains-append_cases (told_names one.told) (told_names ts) name
        (subst (λ (l : List (List ℕ)). Contains l name) (names_split ts) has))

    part_then : (P Q : List ℕ → Type 0) → ((name : List ℕ) → Contains (told_names one.told) name → P name)
        → ((name : List ℕ) → Q name → P name) → (two : WritesPart x mid new b c Q) → IsOther two.writes.told
        → WritesPart x zero new a c P
    part_then P Q first more two other = record {
      behind = two.behind;
      part = part_before two.behind two.part;
      writes = writes_then two.behind two.writes other;
      only = either_told P two.writes.told first (λ name has. more name (two.only name has));
    }

    -- what is clear then was clear before, or is told
    clear_before : (ts : List Told) (name : List ℕ) → IsClear x (shown mid) name
        → Contains (told_names one.told) name ⊎ StaysAt x zero mid name
        → Contains (told_names (one.told ++ ts)) name ⊎ IsClear x (shown zero) name
    clear_before ts name clear (inl told) = inl (told_first ts name told)
    clear_before ts name clear (inr (inl same)) = inr (clear_as x (shown mid) (shown zero) name (sym same) clear)
    clear_before ts name clear (inr (inr was)) = inr was.0

    all_later : (P : List ℕ → Type 0) (two : WritesAll x mid new b c P) (period name : List ℕ) → IsSegment period name
        → P name → Contains (told_names (one.told ++ two.writes.told)) name ⊎ IsClear x (shown zero) name
    all_later P two period name segment is = ⊎_elim
        (λ told. inl (told_then two.writes.told name told))
        (λ clear. clear_before two.writes.told name clear (one.stay period name segment))
        (two.all period name segment is)

  -- nothing was told before
  module _ (stays : NoneIsGone x zero mid) (new : State) (a b : Option (List ℕ)) (P : List ℕ → Type 0) where
    abbrev nothing : Writes x zero mid a a []
    nothing = writes_none x zero mid a stays

    pub part_after : WritesPart x mid new a b P → WritesPart x zero new a b P
    part_after two =
        part_then new a a b nothing P P (λ name has. absurd (none_there name has)) (λ name is. is) two
        (λ name has. absurd (none_there name has))

    pub all_after : WritesAll x mid new a b P → WritesAll x zero new a b P
    all_after two = record {
      writes = writes_then new a a b nothing [] two.writes (λ name has. absurd (none_there name has));
      only = two.only;
      all = all_later new a a b nothing P two;
    }

  -- of some names before, and of one more
  module _ (new : State) (a b c : Option (List ℕ)) (names : List (List ℕ)) (last : List ℕ)
      (one : WritesAll x zero mid a b (Contains names)) (differs : ¬ (Contains names last)) where
    other_told : (ts : List Told) → ((name : List ℕ) → Contains (told_names ts) name → name ≡ last) → (name : List ℕ)
        → Contains (told_names one.writes.told) name → Contains (told_names ts) name → ⊥
    other_told ts only name before now = differs (subst (Contains names) (only name now) (one.only name before))

    pub part_more : (P : List ℕ → Type 0) → ((name : List ℕ) → Contains names name → P name) → P last
        → WritesPart x mid new b c (λ n. n ≡ last) → WritesPart x zero new a c P
    part_more P before here two =
        part_then new a b c one.writes P (λ n. n ≡ last) (λ name has. before name (one.only name has))
        (λ name is. subst P (sym is) here) two (other_told two.writes.told two.only)

    pub all_more : WritesAll x mid new b c (λ n. n ≡ last) → WritesAll x zero new a c (Contains (names ++ last ∷ []))
    all_more two = record {
      writes = writes_then new a b c one.writes [] two.writes (other_told two.writes.told two.only);
      only = either_told new a b c one.writes (Contains (names ++ last ∷ [])) two.writes.told
          (λ name has. Contains-append_left names (last ∷ []) name (one.only name has))
          (λ name has. subst (Contains (names ++ last ∷ [])) (sym (two.only name has)) (Contains-push names last));
      all = λ period name segment has. elim (Contains-push_cases names last name has) [
        | inl before ↦ ⊎_elim
            (λ told. inl (told_first new a b c one.writes two.writes.told name told))
            (λ clear. inr clear)
            (one.all period name segment before)
        | inr is ↦ all_later new a b c one.writes (λ n. n ≡ last) two period name segment (sym is)
      ];
    }

-- a call that failed
pub err_lines : {A E : Type 0} (x : Expired) (old new : State) (a b : Option (List ℕ)) (P : List ℕ → Type 0)
    (r : Result A E) (fault : E) → r ≡ Err fault → WritesPart x old new a b P → WritesLines x old new a b P r
err_lines x old new a b P r fault is w = rw is w

-- ---- one segment

-- what was found of it is told
found_told : (x : Expired) (state : State) (name : List ℕ) (found : Found) (f : IsFoundAt x (shown state) name found)
    → IsToldOf x (shown state) (record { name = name; period = found.period; entries = f.surveyed.entries })
found_told x state name found f =
    record { is_file = f.surveyed.is_file; some = f.surveyed.is.tally.some f.some }

module _ (x : Expired) (old mid : State) (name : List ℕ) (found : Found) (f : IsFoundAt x (shown old) name found)
    (stays : NoneIsGone x old mid) (a b : Option (List ℕ)) where
  abbrev t : Told
  t = record { name = name; period = found.period; entries = f.surveyed.entries }

  pub found_fails : (P : List ℕ → Type 0) → ((y : Expired) (es : List Entry) → IsSurveyOf y es found.survey
      → (n : ℕ) × Appends a b (take n (line_of found.period es)))
      → WritesPart x old mid a b P
  found_fails P tells =
      let part = tells x f.surveyed.entries f.surveyed.is in
      tells_part x old mid a b t (found_told x old name found f) stays part.0 P part.1

  pub found_tells : (new : State) → ((y : Expired) (es : List Entry) → IsSurveyOf y es found.survey
      → Appends a b (line_of found.period es))
      → ((other : List ℕ) → other ≢ name → shown new other ≡ shown mid other)
      → WritesAll x old new a b (λ n. n ≡ name)
  found_tells new tells others =
      tells_line x old mid a b t (found_told x old name found f) stays new
      (tells x f.surveyed.entries f.surveyed.is) others
