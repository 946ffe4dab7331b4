-- What a look comes to.
use Rattle.std.proofs.Common.{◌≡◌, ◌≢◌, ◌⊎◌, ℕ, ◌+◌, ◌-◌, ◌<◌, ◌≤◌, ◌^◌, List, [], ◌∷◌, drop, length, refl, sym, ap, subst, ◌∙◌}
use Rattle.std.proofs.Common.{Option, None, Some, Bool, true, false, inl, inr, arith}
use Rattle.std.specs.Prelude.{Contains, Err, IfErr, IfNone, IfOk, IfSome, IsErrOf, IsNone, IsSome, Ok, Result}
use Rattle.disk.specs.Calls.{IsUnchanged}
use Rattle.disk.specs.Files.{File}
use Rattle.disk.specs.Memory.{shown_now}
use Rattle.disk.specs.States.{Entry, State}
use Rattle.disk.specs.declared.fault.DiskFault.{DiskFault}
use Rattle.disk.specs.declared.fault.DiskFault.TheVariants.{Missing, Exists, Full, Failed, Memory as Disk_memory}
use Rattle.journal.specs.Batches.{IsClosed}
use Rattle.journal.specs.Journals.{EndsAt, IsSound}
use Rattle.record_store.specs.Names.{journal_name}
use Rattle.record_store.specs.Shown.{AreShown, NoneShownAbove, journal_shown}
use Rattle.store_follow.specs.Batches.{Stops, Writes, WritesPart}
use Rattle.store_follow.specs.Looks.{BeginsAt, IsBehindNewest, IsListingFault, ComesTo, Fails, FoundGap, FoundReplaced, GoesOn, IsAtPlace, IsBeginning, IsToldAs, IsTurn}
use Rattle.store_follow.specs.Looks.{LookedAt, LookedInVain, Looks, ShowsLater, Stays, WroteBefore, WrotePart}
use Rattle.store_follow.specs.declared.fault.BatchFault.{BatchFault}
use Rattle.store_follow.specs.declared.fault.BatchFault.TheVariants.{Disk, Damaged as No_batch, Write as Not_written}
use Rattle.store_follow.specs.declared.fault.FollowFault.{FollowFault}
use Rattle.store_follow.specs.declared.fault.FollowFault.TheVariants.{Names, Read, Damaged, Gap, Replaced, Write, Memory}
use Rattle.store_follow.specs.declared.follower.Looked.{Looked}
use Rattle.store_follow.specs.declared.place.Place.{Place}
use Rattle.store_follow.proofs.Repeated.{committed}
use Rattle.store_follow.proofs.Runs.{writes_none}
use Rattle.store_follow.proofs.Listed.{begins, listed_shown, none_later, none_shown, not_in_none, shown_or_not}

pub ok_more : {T E : Type 0} (r : Result T E) (P Q : T → Type 0) → ((x : T) → P x → Q x) → IfOk r P → IfOk r Q
ok_more (Ok x) P Q more p = more x p
ok_more (Err e) P Q more p = tt

pub err_more : {T E : Type 0} (r : Result T E) (P Q : E → Type 0) → ((e : E) → P e → Q e) → IfErr r P → IfErr r Q
err_more (Ok x) P Q more p = tt
err_more (Err e) P Q more p = more e p

at_ok : {T E : Type 0} (r : Result T E) (x : T) (P : T → Type 0) → r ≡ Ok x → P x → IfOk r P
at_ok {T = T} {E = E} r x P is p = subst (λ (q : Result T E). IfOk q P) (sym is) p

at_fault : {T E : Type 0} (r : Result T E) (e : E) (P : E → Type 0) → r ≡ Err e → P e → IfErr r P
at_fault {T = T} {E = E} r e P is p = subst (λ (q : Result T E). IfErr q P) (sym is) p

not_ok : {T E : Type 0} (r : Result T E) (e : E) (P : T → Type 0) → r ≡ Err e → IfOk r P
not_ok {T = T} {E = E} r e P is = subst (λ (q : Result T E). IfOk q P) (sym is) tt

not_err : {T E : Type 0} (r : Result T E) (x : T) (P : E → Type 0) → r ≡ Ok x → IfErr r P
not_err {T = T} {E = E} r x P is = subst (λ (q : Result T E). IfErr q P) (sym is) tt

-- what is there is shown
pub some_file : (entry : Entry) → IsSome entry.now → (file : List ℕ) × (shown_now entry ≡ Some file)
some_file entry some = of entry.now refl some
  where
    of : (now : Option File) → entry.now ≡ now → IsSome now → (file : List ℕ) × (shown_now entry ≡ Some file)
    of None is none = absurd (cc none)
    of (Some file) is here = (file.shown, ap (λ (o : Option File). shown_of o) is)
      where
        shown_of : Option File → Option (List ℕ)
        shown_of None = None
        shown_of (Some f) = Some f.shown

-- ---- what is known of a look that is at a place

pub record IsRead (state : State) (chosen place : Place) (read : Result Bool BatchFault) (before now : Option (List ℕ)) : Type 0 where
  pub number : place.number ≡ chosen.number
  pub writes : IfOk read (λ ended. (file : List ℕ) → journal_shown state chosen.number ≡ Some file
      → Writes file chosen.at place.at before now)
  pub over : IfOk read (λ ended. ended ≡ true → (file : List ℕ) → journal_shown state chosen.number ≡ Some file
      → IsClosed (drop place.at file))
  pub there : IfOk read (λ ended. (file : List ℕ) × (journal_shown state chosen.number ≡ Some file))
  pub stops : IfErr read (λ fault. (file : List ℕ) → journal_shown state chosen.number ≡ Some file
      → Stops fault file chosen.at place.at before now)
  pub absent : IfErr read (λ fault. journal_shown state chosen.number ≡ None → (place ≡ chosen) × (now ≡ before))
  pub missing : IsErrOf read (Disk Missing) → journal_shown state chosen.number ≡ None
  pub reaches : (file : List ℕ) → journal_shown state chosen.number ≡ Some file → chosen.at ≤ length file

module _ (state : State) (old : Option Place) (numbers : List ℕ) (chosen place : Place) (before now : Option (List ℕ))
    (are : AreShown state (2 ^ 64 - 1) numbers) (first : IsBeginning old numbers (Some chosen)) where
  here : BeginsAt state old chosen.number chosen.at
  here = begins state numbers old chosen are first

  later_shown : (n number : ℕ) → Contains numbers n × (number < n) → ShowsLater state number
  later_shown n number some =
      record { later = n; above = some.1; shown = listed_shown state numbers are n some.0 }

  looked : (file : List ℕ) (next : Option Place) (more : Bool) → journal_shown state chosen.number ≡ Some file
      → chosen.at ≤ length file → Writes file chosen.at place.at before now
      → Stays state file chosen.number place.at next more ⊎ GoesOn state file chosen.number place.at next more
      → LookedAt state old next before now more
  looked file next more shown reaches writes goes = record {
    number = chosen.number;
    at = chosen.at;
    begins = here;
    file = file;
    shown = shown;
    reaches = reaches;
    end = place.at;
    writes = writes;
    committed = λ first behind h. committed file chosen.at place.at first behind writes.bodies h writes.between;
    next = goes;
  }

  at_place : (next : Option Place) (to : Place) (number at : ℕ) → next ≡ Some to → to.number ≡ number → to.at ≡ at
      → IsAtPlace next number at
  at_place next to number at is number_is at_is =
      subst (λ (o : Option Place). IsAtPlace o number at) (sym is) (number_is, at_is)

  turned : (ended : Bool) (later : Option ℕ) (to : Place) (more : Bool) (next : Option Place) (file : List ℕ)
      → place.number ≡ chosen.number → IfSome later (λ n. Contains numbers n × (place.number < n))
      → IfNone later ((n : ℕ) → Contains numbers n → n ≤ place.number)
      → (ended ≡ true → IsClosed (drop place.at file)) → next ≡ Some to → IsTurn place ended later to more
      → Stays state file chosen.number place.at next more ⊎ GoesOn state file chosen.number place.at next more
  turned false later to more next file number some none closed is (same, on) = inl (record {
    place = at_place next to chosen.number place.at is (ap (λ (p : Place). p.number) same ∙ number)
        (ap (λ (p : Place). p.at) same);
    over = λ off. absurd (cc (on, off));
  })
  turned true None to more next file number some none closed is (same, off) = inl (record {
    place = at_place next to chosen.number place.at is (ap (λ (p : Place). p.number) same ∙ number)
        (ap (λ (p : Place). p.at) same);
    over = λ still. (
      closed refl,
      subst (λ (n : ℕ). NoneShownAbove state n) number (none_later state numbers are place.number none),
    );
  })
  turned true (Some n) to more next file number some none closed is (number_is, at_is, on) = inr (record {
    place = at_place next to (chosen.number + 1) 0 is (number_is ∙ ap (λ (k : ℕ). k + 1) number) at_is;
    over = closed refl;
    later = later_shown n chosen.number (some.0, subst (λ (k : ℕ). k < n) number some.1);
    is_more = on;
  })

  vain : (next : Option Place) (more : Bool) → place.number ≡ chosen.number
      → ((n : ℕ) → Contains numbers n → n ≤ place.number) → journal_shown state chosen.number ≡ None
      → (place ≡ chosen) × (now ≡ before) → next ≡ Some place → more ≡ false
      → (numbers ≡ []) ⊎ ((m : ℕ) × Contains numbers m × (place.number ≤ m)) → LookedInVain state old next before now more
  vain next more number none absent (same, nothing) is off low = of old first
    where
      of : (o : Option Place) → IsBeginning o numbers (Some chosen) → LookedInVain state o next before now more
      of None b = absurd ((begins state numbers None chosen are b).1 absent)
      of (Some p) b =
          let one : chosen ≡ p = cc in
          record {
            none = none_shown state numbers place.number are none
                (subst (λ (m : ℕ). journal_shown state m ≡ None) (sym number) absent) low;
            place = is ∙ ap (λ (x : Place). Some x) (same ∙ one);
            nothing = nothing;
            over = off;
          }

  wrote : (next : Option Place) (stopped : (file : List ℕ) → journal_shown state chosen.number ≡ Some file
      → Writes file chosen.at place.at before now) → place.number ≡ chosen.number → next ≡ Some place
      → WroteBefore state old next before now
  wrote next stopped number is = record {
    number = chosen.number;
    at = chosen.at;
    begins = here;
    end = place.at;
    place = at_place next place chosen.number place.at is number refl;
    writes = stopped;
  }

  wrote_part : (next : Option Place) (stopped : (file : List ℕ) → journal_shown state chosen.number ≡ Some file
      → WritesPart file chosen.at place.at before now) → place.number ≡ chosen.number → next ≡ Some place
      → WrotePart state old next before now
  wrote_part next stopped number is = record {
    number = chosen.number;
    at = chosen.at;
    begins = here;
    end = place.at;
    place = at_place next place chosen.number place.at is number refl;
    writes = stopped;
  }

  gap : (n : ℕ) (next : Option Place) → place.number ≡ chosen.number → Contains numbers n × (place.number < n)
      → journal_shown state chosen.number ≡ None → (place ≡ chosen) × (now ≡ before) → IsAtPlace next n 0
      → FoundGap state old next place.number before now
  gap n next number some absent (same, nothing) goes = record {
    at = chosen.at;
    begins = subst (λ (k : ℕ). BeginsAt state old k chosen.at) (sym number) here;
    none = subst (λ (k : ℕ). journal_shown state k ≡ None) (sym number) absent;
    later = record { later = n; above = some.1; shown = listed_shown state numbers are n some.0 };
    place = goes;
    nothing = nothing;
  }

  -- what a look is that is not stopped
  pub ok_clause : (read : Result Bool BatchFault) (later : Option ℕ) (next : Option Place)
      (result : Result Looked FollowFault) → IsRead state chosen place read before now
      → IfSome later (λ n. Contains numbers n × (place.number < n))
      → IfNone later ((n : ℕ) → Contains numbers n → n ≤ place.number) → ComesTo place read later next result
      → ((l : Looked) → result ≡ Ok l → l.more ≡ false
      → (numbers ≡ []) ⊎ ((m : ℕ) × Contains numbers m × (place.number ≤ m)))
      → IfOk result (λ l. Looks state old next before now l.more)
  ok_clause (Ok ended) later next result r some none (to, one, is, told, turn) low =
      let file = r.there.0 in
      let shown = r.there.1 in
      at_ok result one (λ l. Looks state old next before now l.more) told
      (inl (looked file next one.more shown (r.reaches file shown) (r.writes file shown)
      (turned ended later to one.more next file r.number some none (λ e. r.over e file shown) is turn)))
  ok_clause (Err (Disk Missing)) None next result r some none (one, is, told, off) low =
      at_ok result one (λ l. Looks state old next before now l.more) told
      (inr (vain next one.more r.number none (r.missing refl) (r.absent (r.missing refl)) is off (low one told off)))
  ok_clause (Err (Disk Missing)) (Some n) next result r some none (at, told) low = not_ok result _ _ told
  ok_clause (Err (Disk Exists)) later next result r some none (fault, is, told, as_told) low = not_ok result _ _ told
  ok_clause (Err (Disk Full)) later next result r some none (fault, is, told, as_told) low = not_ok result _ _ told
  ok_clause (Err (Disk Failed)) later next result r some none (fault, is, told, as_told) low = not_ok result _ _ told
  ok_clause (Err (Disk Disk_memory)) later next result r some none (fault, is, told, as_told) low = not_ok result _ _ told
  ok_clause (Err No_batch) later next result r some none (fault, is, told, as_told) low = not_ok result _ _ told
  ok_clause (Err Not_written) later next result r some none (fault, is, told, as_told) low = not_ok result _ _ told

  -- and one that is
  pub err_clause : (read : Result Bool BatchFault) (later : Option ℕ) (next : Option Place)
      (result : Result Looked FollowFault) → IsRead state chosen place read before now
      → IfSome later (λ n. Contains numbers n × (place.number < n)) → ComesTo place read later next result
      → IfErr result (λ f. Fails f state old next before now)
  err_clause (Ok ended) later next result r some (to, one, is, told, turn) = not_err result _ _ told
  err_clause (Err (Disk Missing)) None next result r some (one, is, told, off) = not_err result _ _ told
  err_clause (Err (Disk Missing)) (Some n) next result r some (at, told) =
      at_fault result (Gap place.number) (λ f. Fails f state old next before now) told
      (gap n next r.number some (r.missing refl) (r.absent (r.missing refl)) at)
  err_clause (Err (Disk Exists)) later next result r some (fault, is, told, as_told) =
      at_fault result (Read place.number Exists) (λ f. Fails f state old next before now)
      (told ∙ ap (λ (f : FollowFault). Err f) as_told) (wrote next r.stops r.number is)
  err_clause (Err (Disk Full)) later next result r some (fault, is, told, as_told) =
      at_fault result (Read place.number Full) (λ f. Fails f state old next before now)
      (told ∙ ap (λ (f : FollowFault). Err f) as_told) (wrote next r.stops r.number is)
  err_clause (Err (Disk Failed)) later next result r some (fault, is, told, as_told) =
      at_fault result (Read place.number Failed) (λ f. Fails f state old next before now)
      (told ∙ ap (λ (f : FollowFault). Err f) as_told) (wrote next r.stops r.number is)
  err_clause (Err (Disk Disk_memory)) later next result r some (fault, is, told, as_told) =
      at_fault result Memory (λ f. Fails f state old next before now) (told ∙ ap (λ (f : FollowFault). Err f) as_told)
      (inr (wrote next r.stops r.number is))
  err_clause (Err No_batch) later next result r some (fault, is, told, as_told) =
      at_fault result (Damaged place.number place.at) (λ f. Fails f state old next before now)
      (told ∙ ap (λ (f : FollowFault). Err f) as_told) (wrote next r.stops r.number is)
  err_clause (Err Not_written) later next result r some (fault, is, told, as_told) =
      at_fault result Write (λ f. Fails f state old next before now) (told ∙ ap (λ (f : FollowFault). Err f) as_told)
      (wrote_part next r.stops r.number is)

  -- and one of which all journals that are listed are before the place
  above_all : (new : Option Place) → IsRead state chosen place (Err (Disk Missing)) before now → new ≡ None
      → ((m : ℕ) → Contains numbers m → m < place.number) → (n : ℕ) × Contains numbers n
      → FoundReplaced state old new place.number before now
  above_all new r is below some =
      let number = r.number in
      let gone = subst (λ (k : ℕ). journal_shown state k ≡ None) (sym number) (r.missing refl) in
      record {
        at = chosen.at;
        begins = subst (λ (k : ℕ). BeginsAt state old k chosen.at) (sym number) here;
        is_other = inr (record {
          none = gone;
          none_above = λ n above small. shown_or_not state n (λ shown.
              let least = below n ((are.are n).1 (omega (arith, small), shown)) in omega (arith, least, above));
          earlier = some.0;
          below = below some.0 some.1;
          shown = listed_shown state numbers are some.0 some.1;
        });
        place = is;
        nothing = (r.absent (r.missing refl)).1;
      }

  pub gone_clause : (read : Result Bool BatchFault) (later : Option ℕ) (next new : Option Place)
      (result : Result Looked FollowFault) (l : Looked) → IsRead state chosen place read before now
      → ComesTo place read later next result → result ≡ Ok l → new ≡ None → place.number < 2 ^ 64
      → ((m : ℕ) → Contains numbers m → m < place.number) → (n : ℕ) × Contains numbers n
      → FoundReplaced state old new place.number before now
  gone_clause (Ok ended) later next new result l r comes ok is small below some =
      let shown : journal_shown state chosen.number ≢ None = λ none. cc (none, r.there.1) in
      let least = below chosen.number ((are.are chosen.number).1 (omega (arith, small, r.number), shown)) in
      absurd (omega (arith, least, r.number))
  gone_clause (Err (Disk Missing)) later next new result l r comes ok is small below some = above_all new r is below some
  gone_clause (Err (Disk Exists)) later next new result l r (fault, at, told, as_told) ok is small below some = absurd (cc (told, ok))
  gone_clause (Err (Disk Full)) later next new result l r (fault, at, told, as_told) ok is small below some = absurd (cc (told, ok))
  gone_clause (Err (Disk Failed)) later next new result l r (fault, at, told, as_told) ok is small below some = absurd (cc (told, ok))
  gone_clause (Err (Disk Disk_memory)) later next new result l r (fault, at, told, as_told) ok is small below some = absurd (cc (told, ok))
  gone_clause (Err No_batch) later next new result l r (fault, at, told, as_told) ok is small below some = absurd (cc (told, ok))
  gone_clause (Err Not_written) later next new result l r (fault, at, told, as_told) ok is small below some = absurd (cc (told, ok))

  -- and one whose journal ends before the place
  pub shorter_clause : (new : Option Place) (file : List ℕ) → journal_shown state chosen.number ≡ Some file
      → length file < chosen.at → new ≡ None → FoundReplaced state old new chosen.number before before
  shorter_clause new file shown ends is = record {
    at = chosen.at;
    begins = here;
    is_other = inl (record { file = file; shown = shown; ends = ends });
    place = is;
    nothing = refl;
  }

  -- and one that could not tell where the journal ends
  pub unread_clause : (fault : DiskFault) (told : FollowFault) → IsToldAs chosen (Disk fault) told
      → Fails told state old (Some chosen) before before
  unread_clause fault told is = of fault is
    where
      nothing : WroteBefore state old (Some chosen) before before
      nothing = record {
        number = chosen.number;
        at = chosen.at;
        begins = here;
        end = chosen.at;
        place = (refl, refl);
        writes = λ file shown. writes_none file chosen.at before;
      }

      of : (f : DiskFault) → IsToldAs chosen (Disk f) told → Fails told state old (Some chosen) before before
      of Missing is = subst (λ (t : FollowFault). Fails t state old (Some chosen) before before) (sym is) nothing
      of Exists is = subst (λ (t : FollowFault). Fails t state old (Some chosen) before before) (sym is) nothing
      of Full is = subst (λ (t : FollowFault). Fails t state old (Some chosen) before before) (sym is) nothing
      of Failed is = subst (λ (t : FollowFault). Fails t state old (Some chosen) before before) (sym is) nothing
      of Disk_memory is = subst (λ (t : FollowFault). Fails t state old (Some chosen) before before) (sym is) (inr nothing)

-- ---- from the calls of a look

pub ok_after : {T E : Type 0} (r : Result T E) (A B : Type 0) (Q : T → Type 0) → (A → B → IfOk r Q)
    → IfOk r (λ x. A → B → Q x)
ok_after (Ok x) A B Q all = all
ok_after (Err e) A B Q all = tt

pub err_after : {T E : Type 0} (r : Result T E) (A B : Type 0) (Q : E → Type 0) → (A → B → IfErr r Q)
    → IfErr r (λ x. A → B → Q x)
err_after (Ok x) A B Q all = tt
err_after (Err e) A B Q all = all

none_there : (entry : Entry) → shown_now entry ≡ None → IsNone entry.now
none_there entry none = of entry.now refl
  where
    of : (now : Option File) → entry.now ≡ now → IsNone now
    of None is = refl
    of (Some file) is = absurd (cc (is, none))

not_shown : (entry : Entry) → IsNone entry.now → shown_now entry ≡ None
not_shown entry none = of entry.now refl none
  where
    of : (now : Option File) → entry.now ≡ now → IsNone now → shown_now entry ≡ None
    of None is nothing = cc is
    of (Some file) is nothing = absurd (cc nothing)

module _ (state later : State) (name : List ℕ) (number : ℕ) (same : IsUnchanged state later)
    (named : name ≡ journal_name number) where
  entry_is : later.entries name ≡ state.entries (journal_name number)
  entry_is = same.entries name ∙ ap (λ (n : List ℕ). state.entries n) named

  pub shown_then : (file : List ℕ) → journal_shown state number ≡ Some file → shown_now (later.entries name) ≡ Some file
  shown_then file shown = ap shown_now entry_is ∙ shown

  pub shown_before : (file : Option (List ℕ)) → shown_now (later.entries name) ≡ file → journal_shown state number ≡ file
  shown_before file shown = ap shown_now (sym entry_is) ∙ shown

  file_before : IsSome (later.entries name).now → (file : List ℕ) × (journal_shown state number ≡ Some file)
  file_before some = let found = some_file (later.entries name) some in (found.0, shown_before (Some found.0) found.1)

pub is_read : (tells : Type 0) (state later : State) (name : List ℕ) (chosen place : Place)
    (read : Result Bool BatchFault) (before now : Option (List ℕ)) → tells → IsUnchanged state later
    → name ≡ journal_name chosen.number → IsSound later
    → IfOk read (λ ended. tells → IsSound later → (file : List ℕ) → shown_now (later.entries name) ≡ Some file
    → Writes file chosen.at place.at before now)
    → IfOk read (λ ended. ended ≡ true → tells → IsSound later → (file : List ℕ)
    → shown_now (later.entries name) ≡ Some file → IsClosed (drop place.at file))
    → IfErr read (λ fault. tells → IsSound later → (file : List ℕ) → shown_now (later.entries name) ≡ Some file
    → Stops fault file chosen.at place.at before now)
    → IfOk read (λ ended. tells → IsSound later → IsSome (later.entries name).now)
    → IfErr read (λ fault. tells → IsSound later → IsNone (later.entries name).now → (place ≡ chosen) × (now ≡ before))
    → place.number ≡ chosen.number → (tells → IsErrOf read (Disk Missing) → IsNone (later.entries name).now)
    → ((file : List ℕ) → journal_shown state chosen.number ≡ Some file → chosen.at ≤ length file)
    → IsRead state chosen place read before now
is_read tells state later name chosen place read before now told same named sound writes over stops there absent number
    missing reaches = record {
      number = number;
      writes = ok_more read _ _ (λ ended h file shown. h told sound file
          (shown_then state later name chosen.number same named file shown)) writes;
      over = ok_more read _ _ (λ ended h ends file shown. h ends told sound file
          (shown_then state later name chosen.number same named file shown)) over;
      there = ok_more read _ _ (λ ended h. file_before state later name chosen.number same named (h told sound)) there;
      stops = err_more read _ _ (λ fault h file shown. h told sound file
          (shown_then state later name chosen.number same named file shown)) stops;
      absent = err_more read _ _ (λ fault h none. h told sound (none_there (later.entries name)
          (ap shown_now (entry_is state later name chosen.number same named) ∙ none))) absent;
      missing = λ is. shown_before state later name chosen.number same named None
          (not_shown (later.entries name) (missing told is));
      reaches = reaches;
    }

-- no journal is listed
pub none_listed : (state : State) (old : Option Place) (numbers : List ℕ) (taken : Option (List ℕ))
    → AreShown state (2 ^ 64 - 1) numbers → IsBeginning old numbers None → Looks state old old taken taken false
none_listed state (Some place) numbers taken are is = absurd (cc is)
none_listed state None (number ∷ numbers) taken are (place, is, number_is, at_is) = absurd (cc is)
none_listed state None [] taken are is = inr (record {
  none = λ n small. shown_or_not state n (λ shown. not_in_none n ((are.are n).1 (omega (arith, small), shown)));
  place = refl;
  nothing = refl;
  over = refl;
})

pub nothing_written : (fault : FollowFault) (state : State) (old : Option Place) (taken : Option (List ℕ))
    → IsListingFault fault → Fails fault state old old taken taken
nothing_written (Names fault) state old taken is = record { place = refl; nothing = refl }
nothing_written (Read number fault) state old taken is = absurd is
nothing_written (Damaged number at) state old taken is = absurd is
nothing_written (Gap number) state old taken is = absurd is
nothing_written (Replaced number) state old taken is = absurd is
nothing_written Write state old taken is = absurd is
nothing_written Memory state old taken is = inl (record { place = refl; nothing = refl })

pub behind_newest : (state later : State) (numbers name : List ℕ) (place : Place)
    → AreShown state (2 ^ 64 - 1) numbers → IsUnchanged state later → name ≡ journal_name place.number
    → Contains numbers place.number → ((m : ℕ) → Contains numbers m → m ≤ place.number)
    → IsSome (later.entries name).now
    → ((file : List ℕ) → shown_now (later.entries name) ≡ Some file
    → (bodies : List (List ℕ)) × EndsAt file bodies place.at) → IsBehindNewest state place
behind_newest state later numbers name place are same named has greatest some ends =
    let found = file_before state later name place.number same named some in
    let end = ends found.0 (shown_then state later name place.number same named found.0 found.1) in
    record {
      file = found.0;
      newest = record {
        small = omega (arith, ((are.are place.number).0 has).0);
        shown = found.1;
        none_above = none_later state numbers are place.number greatest;
      };
      bodies = end.0;
      ends = end.1;
    }
