-- What is behind the batches of journals is set aside.
use Rattle.std.proofs.Common.{◌≡◌, ◌≢◌, ◌⊎◌, inl, inr, ⊎_elim, ◌<◌, ◌^◌, ◌∷◌, ◌++◌, [], ℕ, List, length, map, refl, ap, sym}
use Rattle.std.proofs.Common.{◌+◌, drop, length-append, subst, take, ◌∙◌, arith}
use Rattle.std.specs.Prelude.{Contains, None, Option, Some, codes}
use Rattle.std.specs.List.{AllByRecursion}
use Rattle.std.specs.List.Sorted.{IsStrictlyIncreasing}
use Rattle.std.proofs.lemmas.List.{append_cancel_left, map-append, take-append-drop, take-map}
use Rattle.std.proofs.lemmas.List.Elements.{Contains-append_left, Contains-append_right, Contains-push}
use Rattle.disk.specs.Calls.{IsUnchanged}
use Rattle.disk.specs.Memory.{shown_now}
use Rattle.disk.specs.States.{Entry as DiskEntry, NameMayLeave, State, kept}
use Rattle.journal.specs.Batches.{HasBatches, batches_text}
use Rattle.journal.specs.Journals.{IsSound, KeepsOrSettlesOthers}
use Rattle.archive_text.specs.Entries.{Entry}
use Rattle.archive_text.proofs.Members.{all_append, all_left, all_right, all_weaker}
use Rattle.record_store.specs.Asides.{IsAside, KeepsOrSettlesFiles, ShowsOrNone, aside_causes, aside_name}
use Rattle.record_store.specs.Causes.{IsCause, ShowsTooLong, opening_causes, reading_causes}
use Rattle.record_store.specs.Crashes.{Keeps}
use Rattle.record_store.specs.Holdings.{JournalHas}
use Rattle.record_store.specs.Names.{IsJournal, IsSegment, journal_name}
use Rattle.record_store.specs.Shown.{GivesNewest, IsNewestShown, JournalsHave, ShowsNoJournal, ShowsTheBatches}
use Rattle.record_store.specs.Shown.{journal_shown}
use Rattle.record_store.specs.declared.fault.StoreFault.{StoreFault}
use Rattle.record_store.proofs.Apart.{segments_less}
use Rattle.record_store.proofs.Asides.{aside_apart, aside_from, aside_no_journal, still_aside}
use Rattle.record_store.proofs.Batches.{journal_has}
use Rattle.record_store.proofs.Causing.{cause_weaker}
use Rattle.record_store.proofs.Leavings.{settled_may, settled_shown}
use Rattle.record_store.proofs.Named.{not_both, number_same_or_apart, other_number}
use Rattle.record_store.proofs.Newly.{too_long_still}
use Rattle.record_store.proofs.Numbers.{increasing_take, last_apart}
use Rattle.record_store.proofs.Readings.{some_batches}
use Rattle.durable_store.specs.Asides.{ArePutAside, AreTails, CutsBeside, IsPutAside, IsTail, SetsTailsAside, ShowsAllBatches}
use Rattle.durable_store.specs.Asides.{IsBehind, TailIsAside, aside_number, tail_number}
use Rattle.durable_store.specs.declared.aside.SetAside.{SetAside}
use Rattle.durable_store.specs.declared.tail.Tail.{Tail}
use Rattle.durable_store.proofs.Journals.{one_behind}

-- ---- names

journal_is : (n : ℕ) → n < 2 ^ 64 → IsJournal (journal_name n)
journal_is n small = record { number = n; small = small; name_is = refl }

-- what is set aside of a journal has no journal's name
pub aside_differs : (m n : ℕ) → n < 2 ^ 64 → journal_name n ≢ aside_name m
aside_differs m n small is = aside_no_journal m (subst IsJournal is (journal_is n small))

-- and another name than what is set aside of another one
aside_other : (m n : ℕ) → m < 2 ^ 64 → n < 2 ^ 64 → m ≢ n → aside_name m ≢ aside_name n
aside_other m n m_small n_small differs is =
    differs (other_number m n m_small n_small
    (append_cancel_left (codes "damaged.") (journal_name m) (journal_name n) is))

segment_differs : (m n : ℕ) (day name : List ℕ) → m < 2 ^ 64 → IsSegment day name
    → (name ≢ aside_name m) × (name ≢ journal_name m)
segment_differs m n day name small segment = (
  λ is. aside_apart m small (inr (day, subst (IsSegment day) is segment)),
  λ is. not_both day name (subst IsJournal (sym is) (journal_is m small)) segment,
)

-- ---- one journal

-- the journals are shown as they were where octets are set aside
pub aside_leaves : (zero one : State) (number : ℕ) → number < 2 ^ 64
    → KeepsOrSettlesOthers zero one (aside_name number) → journal_shown one number ≡ journal_shown zero number
aside_leaves zero one number small others =
    settled_shown (zero.entries (journal_name number)) (one.entries (journal_name number))
    (others (journal_name number) (aside_differs number number small))

pub aside_shown : (zero one : State) (tail : Tail) → IsTail zero tail
    → KeepsOrSettlesOthers zero one (aside_name tail.number)
    → journal_shown one tail.number ≡ journal_shown zero tail.number
aside_shown zero one tail is others = aside_leaves zero one tail.number is.small others

-- octets are set aside, and then the journal is cut
pub cut_beside : (zero one two : State) (tail : Tail) → IsTail zero tail
    → KeepsOrSettlesOthers zero one (aside_name tail.number) → KeepsOrSettlesOthers one two (journal_name tail.number)
    → ((octets : List ℕ) (bodies : List (List ℕ)) → journal_shown one tail.number ≡ Some octets
    → HasBatches octets bodies
    → (gate : ℕ) × (journal_shown two tail.number ≡ Some (batches_text bodies ++ gate ∷ [])))
    → ShowsTheBatches one two (journal_name tail.number) → CutsBeside zero two tail.number
cut_beside zero one two tail is aside others cut same = record {
  others = λ name apart differs. twice (zero.entries name) (one.entries name) (two.entries name) (aside name apart)
      (others name differs);
  batches = λ octets bodies shown has.
      let there : journal_shown one tail.number ≡ Some octets = shown_one ∙ shown in
      let left = cut octets bodies there has in
      let found = same.here octets bodies there has in
      let text : Some found.0 ≡ Some (batches_text bodies ++ left.0 ∷ []) = sym found.1 ∙ left.1 in
      let is_text : found.0 ≡ batches_text bodies ++ left.0 ∷ [] = cc text in
      let file : Some octets ≡ Some is.octets = sym shown ∙ is.shown in
      let is_file : octets ≡ is.octets = cc file in
      let tail_is : has.tail ≡ tail.octets.items =
      one_behind octets has.tail tail.octets.items (record { bodies = bodies; has = has; is = refl })
      (subst (λ (o : List ℕ). IsBehind o tail.octets.items) (sym is_file) is.behind) in
      record {
        octets = found.0;
        shown = found.1;
        has = found.2;
        short = omega (
          arith,
          ap length is_text,
          length-append (batches_text bodies) (left.0 ∷ []),
          ap length has.text,
          length-append (batches_text bodies) has.tail,
          ap length tail_is,
          is.more,
        );
      };
}
  where
    shown_one : journal_shown one tail.number ≡ journal_shown zero tail.number
    shown_one = aside_shown zero one tail is aside

    twice : (a b c : DiskEntry) → (b ≡ a) ⊎ (b ≡ kept a) → (c ≡ b) ⊎ (c ≡ kept b) → (c ≡ a) ⊎ (c ≡ kept a)
    twice a b c (inl first) (inl then) = inl (then ∙ first)
    twice a b c (inl first) (inr then) = inr (then ∙ ap kept first)
    twice a b c (inr first) (inl then) = inr (then ∙ first)
    twice a b c (inr first) (inr then) = inr (then ∙ ap kept first)

-- what is on the disk stays
pub cut_aside : (zero one two : State) (number : ℕ) (octets : List ℕ) → number < 2 ^ 64
    → IsAside zero one (aside_name number) octets → KeepsOrSettlesOthers one two (journal_name number)
    → IsSound two → IsAside zero two (aside_name number) octets
cut_aside zero one two number octets small aside others sound = record {
  before = aside.before;
  was = aside.was;
  now = record {
    entry = ⊎_elim
        (λ same. same ∙ aside.now.entry)
        (λ (on_disk : two.entries (aside_name number) ≡ kept (one.entries (aside_name number))).
        on_disk ∙ ap kept aside.now.entry)
        (others (aside_name number) (λ is. aside_differs number number small (sym is)));
    sound = sound;
  };
}

-- why it fails
pub aside_fails : (tells failed : Type 0) (state : State) (number : ℕ) (fault : StoreFault)
    → IsCause (aside_causes tells failed) fault → IsCause (reading_causes tells failed state number) fault
aside_fails tells failed state number =
    cause_weaker (aside_causes tells failed) (reading_causes tells failed state number)
    (λ failed. failed) (λ full. full) (λ other told sound octets shown. other told) (λ long. absurd long)
    (λ broken. broken)

pub cut_fails : (tells failed : Type 0) (zero one : State) (number : ℕ) → (tells → IsSound zero → IsSound one)
    → (tells → journal_shown one number ≡ journal_shown zero number) → (fault : StoreFault)
    → IsCause (reading_causes tells failed one number) fault → IsCause (reading_causes tells failed zero number) fault
cut_fails tells failed zero one number sounds same =
    cause_weaker (reading_causes tells failed one number) (reading_causes tells failed zero number)
    (λ failed. failed) (λ full. full)
    (λ other told sound octets shown. other told (sounds told sound) octets (same told ∙ shown))
    (λ long told sound octets shown. long told (sounds told sound) octets (same told ∙ shown))
    (λ broken. broken)

-- one of several
pub one_fails : (tells failed : Type 0) (zero one : State) (tail : Tail) → (tells → IsSound zero → IsSound one)
    → (tells → IsSound zero → IsTail one tail) → (tells → IsSound zero → IsTail zero tail)
    → (tells → IsSound zero → journal_shown one tail.number ≡ journal_shown zero tail.number) → (fault : StoreFault)
    → IsCause (reading_causes tells failed one tail.number) fault → IsCause (opening_causes tells failed zero) fault
one_fails tells failed zero one tail sounds there before same =
    cause_weaker (reading_causes tells failed one tail.number) (opening_causes tells failed zero)
    (λ failed. failed) (λ full. full)
    (λ other told sound.
    let now = there told sound in other told (sounds told sound) now.octets now.shown)
    (λ long told sound.
    let is = before told sound in
    record {
      number = tail.number;
      octets = is.octets;
      small = is.small;
      shown = is.shown;
      long = long told (sounds told sound) is.octets (same told sound ∙ is.shown);
    })
    (λ broken. broken)

-- ---- one after the other

-- some of them are set aside
pub record PutSo (zero one : State) (tails : List Tail) (asides : List SetAside) : Type 0 where
  pub sound : IsSound one
  pub numbers : map aside_number asides ≡ map tail_number tails
  pub each : AllByRecursion (TailIsAside zero one) asides
  pub others : (n : ℕ) → n < 2 ^ 64 → ¬ (Contains (map tail_number tails) n)
      → shown_now (one.entries (aside_name n)) ≡ shown_now (zero.entries (aside_name n))
  pub journals : (n : ℕ) → n < 2 ^ 64 → ¬ (Contains (map tail_number tails) n)
      → journal_shown one n ≡ journal_shown zero n
  pub keeps : (committed received : List Entry) → Keeps zero committed received → Keeps one committed received
  pub shows : ShowsAllBatches zero one

pub put_none : (state : State) → IsSound state → PutSo state state [] []
put_none state sound = record {
  sound = sound;
  numbers = refl;
  each = tt;
  others = λ n small apart. refl;
  journals = λ n small apart. refl;
  keeps = λ committed received keeps. keeps;
  shows = record {
    batches = λ n small octets bodies shown has.
        record { octets = octets; shown = shown; has = has; short = omega arith };
    none = λ n small none. none;
    segments = λ e held. held;
  };
}

-- a journal is cut after others
pub shows_more : (zero one two : State) (number : ℕ) → number < 2 ^ 64 → ShowsAllBatches zero one
    → CutsBeside one two number → (octets : List ℕ) → journal_shown one number ≡ Some octets
    → ShowsAllBatches zero two
shows_more zero one two number small shows cuts octets there = record {
  batches = λ n n_small file bodies shown has.
      let found = shows.batches n n_small file bodies shown has in
      ⊎_elim
      (λ (is : n ≡ number).
      let cut = cuts.batches found.octets bodies (ap (journal_shown one) (sym is) ∙ found.shown) found.has in
      record {
        octets = cut.octets;
        shown = ap (journal_shown two) is ∙ cut.shown;
        has = cut.has;
        short = omega (arith, cut.short, found.short);
      })
      (λ (apart : n ≢ number). record {
        octets = found.octets;
        shown = stays n n_small apart ∙ found.shown;
        has = found.has;
        short = found.short;
      })
      (number_same_or_apart n number);
  none = λ n n_small none. ⊎_elim
      (λ (is : n ≡ number).
      let gone : journal_shown one number ≡ None = ap (journal_shown one) (sym is) ∙ shows.none n n_small none in
      absurd (cc (gone, there)))
      (λ (apart : n ≢ number). stays n n_small apart ∙ shows.none n n_small none)
      (number_same_or_apart n number);
  segments = λ e held. segments_less one two (λ day name segment octets may.
      let apart = segment_differs number number day name small segment in
      settled_may (one.entries name) (two.entries name) octets (cuts.others name apart.0 apart.1) may) e
      (shows.segments e held);
}
  where
    stays : (n : ℕ) → n < 2 ^ 64 → n ≢ number → journal_shown two n ≡ journal_shown one n
    stays n n_small apart =
        settled_shown (one.entries (journal_name n)) (two.entries (journal_name n))
        (cuts.others (journal_name n) (aside_differs number n n_small)
        (λ is. apart (other_number n number n_small small is)))

first_of_all : (a : SetAside) (these : List SetAside) → Contains (map aside_number (a ∷ these)) a.number
first_of_all a these = (0, omega arith, refl)

behind_first : (a : SetAside) (these : List SetAside) (n : ℕ) → Contains (map aside_number these) n
    → Contains (map aside_number (a ∷ these)) n
behind_first a these n has = Contains-append_right (a.number ∷ []) (map aside_number these) n has

module _ (zero one two : State) (tails : List Tail) (asides : List SetAside) (tail : Tail) (aside : SetAside)
    (so : PutSo zero one tails asides) (is : IsTail zero tail)
    (ascend : IsStrictlyIncreasing (map tail_number (tails ++ tail ∷ []))) (there : IsTail one tail)
    (cuts : CutsBeside one two tail.number) (put : IsPutAside one two tail aside) (sound : IsSound two)
    (keeps : (committed received : List Entry) → Keeps one committed received → Keeps two committed received) where
  tails_then : map tail_number (tails ++ tail ∷ []) ≡ map tail_number tails ++ tail.number ∷ []
  tails_then = map-append tail_number tails (tail ∷ [])

  new_one : ¬ (Contains (map tail_number tails) tail.number)
  new_one = last_apart (map tail_number tails) tail.number (subst IsStrictlyIncreasing tails_then ascend)

  -- what was set aside before stays
  stays_aside : (a : SetAside) → Contains (map tail_number tails) a.number → TailIsAside zero one a
      → TailIsAside zero two a
  stays_aside a among was = record {
    file = was.file;
    octets = was.octets;
    small = was.small;
    shown = was.shown;
    behind = was.behind;
    more = was.more;
    counted = was.counted;
    put = record {
      before = was.put.before;
      was = was.put.was;
      now = record {
        entry = ⊎_elim
            (λ same. same ∙ was.put.now.entry)
            (λ (on_disk : two.entries (aside_name a.number) ≡ kept (one.entries (aside_name a.number))).
            on_disk ∙ ap kept was.put.now.entry)
            (cuts.others (aside_name a.number)
            (aside_other a.number tail.number was.small is.small
            (λ same. new_one (subst (Contains (map tail_number tails)) same among)))
            (λ same. aside_differs a.number tail.number is.small (sym same)));
        sound = sound;
      };
    };
  }

  all_stay : (these : List SetAside) → ((n : ℕ) → Contains (map aside_number these) n
      → Contains (map tail_number tails) n) → AllByRecursion (TailIsAside zero one) these
      → AllByRecursion (TailIsAside zero two) these
  all_stay [] among all = tt
  all_stay (a ∷ these) among all = (
    stays_aside a (among a.number (first_of_all a these)) all.0,
    all_stay these (λ n has. among n (behind_first a these n has)) all.1,
  )

  now_aside : TailIsAside zero two aside
  now_aside = record {
    file = is.octets;
    octets = tail.octets.items;
    small = subst (λ (n : ℕ). n < 2 ^ 64) (sym put.number_is) is.small;
    shown = ap (journal_shown zero) put.number_is ∙ is.shown;
    behind = is.behind;
    more = is.more;
    counted = put.counted;
    put = subst (λ (n : ℕ). IsAside zero two (aside_name n) tail.octets.items) (sym put.number_is) (record {
      before = put.put.before;
      was = from_before put.put.before (so.others tail.number is.small new_one) put.put.was;
      now = put.put.now;
    });
  }
    where
      from_before : (before : List ℕ)
          → shown_now (one.entries (aside_name tail.number)) ≡ shown_now (zero.entries (aside_name tail.number))
          → ShowsOrNone one (aside_name tail.number) before → ShowsOrNone zero (aside_name tail.number) before
      from_before before same (inl shown) = inl (sym same ∙ shown)
      from_before before same (inr none) = inr (sym same ∙ none.0, none.1)

  pub put_more : PutSo zero two (tails ++ tail ∷ []) (asides ++ aside ∷ [])
  put_more = record {
    sound = sound;
    numbers =
        map-append aside_number asides (aside ∷ [])
        ∙ ap (λ (l : List ℕ). l ++ aside.number ∷ []) so.numbers
        ∙ ap (λ (n : ℕ). map tail_number tails ++ n ∷ []) put.number_is
        ∙ sym tails_then;
    each = all_append (TailIsAside zero two) asides (aside ∷ [])
        (all_stay asides (λ n has. subst (λ (l : List ℕ). Contains l n) so.numbers has) so.each)
        (now_aside, tt);
    others = λ n small apart.
        settled_shown (one.entries (aside_name n)) (two.entries (aside_name n))
        (cuts.others (aside_name n)
        (aside_other n tail.number small is.small (λ (same : n ≡ tail.number). apart (subst (λ (l : List ℕ). Contains l n) (sym tails_then)
        (subst (Contains (map tail_number tails ++ tail.number ∷ [])) (sym same)
        (Contains-push (map tail_number tails) tail.number)))))
        (λ same. aside_differs n tail.number is.small (sym same)))
        ∙ so.others n small (λ has. apart (subst (λ (l : List ℕ). Contains l n) (sym tails_then)
        (Contains-append_left (map tail_number tails) (tail.number ∷ []) n has)));
    journals = λ n small apart.
        settled_shown (one.entries (journal_name n)) (two.entries (journal_name n))
        (cuts.others (journal_name n) (aside_differs tail.number n small)
        (λ same. apart (subst (λ (l : List ℕ). Contains l n) (sym tails_then)
        (subst (Contains (map tail_number tails ++ tail.number ∷ [])) (sym (other_number n tail.number small is.small same))
        (Contains-push (map tail_number tails) tail.number)))))
        ∙ so.journals n small (λ has. apart (subst (λ (l : List ℕ). Contains l n) (sym tails_then)
        (Contains-append_left (map tail_number tails) (tail.number ∷ []) n has)));
    keeps = λ committed received before. keeps committed received (so.keeps committed received before);
    shows = shows_more zero one two tail.number is.small so.shows cuts there.octets there.shown;
  }

-- what is behind the batches of a journal still is, where others were cut
pub still_tail : (zero one : State) (tail : Tail) → IsTail zero tail
    → journal_shown one tail.number ≡ journal_shown zero tail.number → IsTail one tail
still_tail zero one tail is same = record {
  octets = is.octets;
  small = is.small;
  shown = same ∙ is.shown;
  behind = is.behind;
  more = is.more;
}

-- the next one: it is behind a journal that is shown, and none of those before
pub next_tail : (zero : State) (tails first : List Tail) (tail : Tail) (index : ℕ)
    → take (index + 1) tails ≡ first ++ tail ∷ [] → AreTails zero tails
    → IsTail zero tail × IsStrictlyIncreasing (map tail_number (first ++ tail ∷ []))
next_tail zero tails first tail index is are = (
  (all_right (IsTail zero) first (tail ∷ [])
      (subst (AllByRecursion (IsTail zero)) is (all_take (index + 1) tails are.each))).0,
  subst (λ (l : List Tail). IsStrictlyIncreasing (map tail_number l)) is
      (subst IsStrictlyIncreasing (take-map tail_number (index + 1) tails)
      (increasing_take (index + 1) (map tail_number tails) are.ascend)),
)
  where
    all_take : (n : ℕ) (l : List Tail) → AllByRecursion (IsTail zero) l → AllByRecursion (IsTail zero) (take n l)
    all_take n l all =
        all_left (IsTail zero) (take n l) (drop n l)
        (subst (AllByRecursion (IsTail zero)) (sym (take-append-drop n l)) all)

pub shown_there : (zero one : State) (tails : List Tail) (asides : List SetAside) (tail : Tail)
    → PutSo zero one tails asides → IsTail zero tail
    → IsStrictlyIncreasing (map tail_number (tails ++ tail ∷ []))
    → journal_shown one tail.number ≡ journal_shown zero tail.number
shown_there zero one tails asides tail so is ascend =
    so.journals tail.number is.small
    (last_apart (map tail_number tails) tail.number
    (subst IsStrictlyIncreasing (map-append tail_number tails (tail ∷ [])) ascend))

pub still_there : (zero one : State) (tails : List Tail) (asides : List SetAside) (tail : Tail)
    → PutSo zero one tails asides → IsTail zero tail
    → IsStrictlyIncreasing (map tail_number (tails ++ tail ∷ [])) → IsTail one tail
still_there zero one tails asides tail so is ascend =
    still_tail zero one tail is (shown_there zero one tails asides tail so is ascend)

-- ---- an opening

-- a journal that is shown then was shown
module _ (zero two : State) (shows : ShowsAllBatches zero two) where
  none_before : (n : ℕ) → n < 2 ^ 64 → journal_shown two n ≡ None → journal_shown zero n ≡ None
  none_before n small none = of (journal_shown zero n) refl
    where
      of : (o : Option (List ℕ)) → journal_shown zero n ≡ o → o ≡ None
      of None is = refl
      of (Some octets) is =
          let some = some_batches octets in
          let found = shows.batches n small octets some.0 is some.1 in
          absurd (cc (none, found.shown))

  some_before : (n : ℕ) (found : List ℕ) → n < 2 ^ 64 → journal_shown two n ≡ Some found
      → (octets : List ℕ) × (journal_shown zero n ≡ Some octets)
  some_before n found small there = of (journal_shown zero n) refl
    where
      of : (o : Option (List ℕ)) → journal_shown zero n ≡ o
          → (octets : List ℕ) × (journal_shown zero n ≡ Some octets)
      of None is = let gone = shows.none n small is in absurd (cc (gone, there))
      of (Some octets) is = (octets, is)

  pub journals_before : (e : Entry) → JournalsHave two e → JournalsHave zero e
  journals_before e has =
      let was = some_before has.number has.octets has.small has.shown in
      let some = some_batches was.0 in
      let found = shows.batches has.number has.small was.0 some.0 was.1 some.1 in
      let one : Some found.octets ≡ Some has.octets = sym found.shown ∙ has.shown in
      let text : found.octets ≡ has.octets = cc one in
      record {
        number = has.number;
        octets = was.0;
        small = has.small;
        shown = was.1;
        has = record {
          bodies = some.0;
          batches = some.1;
          has = journal_has found.octets some.0 e found.has
              (subst (λ (o : List ℕ). JournalHas o e) (sym text) has.has);
        };
      }

  pub newest_before : (number : ℕ) (text : List ℕ) → GivesNewest two number text
      → ((octets : List ℕ) × IsNewestShown zero number octets) ⊎ (ShowsNoJournal zero × (number ≡ 1))
  newest_before number text (inl gives) =
      let was = some_before number gives.octets gives.newest.small gives.newest.shown in
      inl (
        was.0,
        record {
          small = gives.newest.small;
          shown = was.1;
          none_above = λ n above small. none_before n small (gives.newest.none_above n above small);
        },
      )
  newest_before number text (inr none) = inr ((λ n small. none_before n small (none.0 n small)), none.1)

  pub long_before : ShowsTooLong two → ShowsTooLong zero
  long_before long =
      let was = some_before long.number long.octets long.small long.shown in
      let some = some_batches was.0 in
      let found = shows.batches long.number long.small was.0 some.0 was.1 some.1 in
      let one : Some found.octets ≡ Some long.octets = sym found.shown ∙ long.shown in
      let text : found.octets ≡ long.octets = cc one in
      record {
        number = long.number;
        octets = was.0;
        small = long.small;
        shown = was.1;
        long = omega (arith, long.long, ap length text, found.short);
      }

-- ---- nothing has changed before

module _ (zero one : State) (same : IsUnchanged zero one) where
  shown_same : (n : ℕ) → journal_shown one n ≡ journal_shown zero n
  shown_same n = ap shown_now (same.entries (journal_name n))

  each_same : (tails : List Tail) → AllByRecursion (IsTail zero) tails → AllByRecursion (IsTail one) tails
  each_same tails all =
      all_weaker (IsTail zero) (IsTail one) (λ tail is. still_tail zero one tail is (shown_same tail.number)) tails all

  pub tails_same : (tails : List Tail) → AreTails zero tails → AreTails one tails
  tails_same tails are = record {
    ascend = are.ascend;
    each = each_same tails are.each;
    all = λ n file octets small shown. are.all n file octets small (sym (shown_same n) ∙ shown);
  }

  pub batches_same : (two : State) → ShowsAllBatches one two → ShowsAllBatches zero two
  batches_same two shows = record {
    batches = λ n small octets bodies shown. shows.batches n small octets bodies (shown_same n ∙ shown);
    none = λ n small none. shows.none n small (shown_same n ∙ none);
    segments = λ e held. shows.segments e (segments_less zero one (λ day name segment octets may.
        subst (λ (x : DiskEntry). NameMayLeave x octets) (same.entries name) may) e held);
  }

  -- all of them are set aside then, and stay
  module _ (two three : State) (files : KeepsOrSettlesFiles two three) (sound : IsSound three) where
    one_stays : (aside : SetAside) → TailIsAside one two aside → TailIsAside zero three aside
    one_stays aside is = record {
      file = is.file;
      octets = is.octets;
      small = is.small;
      shown = sym (shown_same aside.number) ∙ is.shown;
      behind = is.behind;
      more = is.more;
      counted = is.counted;
      put = still_aside zero two three aside.number is.octets
          (aside_from zero one two (aside_name aside.number) is.octets same is.put) files sound;
    }

    pub set_aside_all : (tails : List Tail) (asides : List SetAside) → AreTails zero tails
        → ArePutAside one two tails asides → SetsTailsAside zero three asides
    set_aside_all tails asides are put = record {
      ascend = subst IsStrictlyIncreasing (sym put.numbers) are.ascend;
      each = all_weaker (TailIsAside one two) (TailIsAside zero three) one_stays asides put.each;
      all = λ n file octets small shown behind more. subst (λ (l : List ℕ). Contains l n) (sym put.numbers)
          (are.all n file octets small shown behind more);
    }

-- ---- why an opening fails

pub opening_back : (zero two : State) (tells failed : Type 0) → (tells → IsSound zero → IsSound two)
    → (tells → IsSound zero → ShowsAllBatches zero two) → (fault : StoreFault)
    → IsCause (opening_causes tells failed two) fault → IsCause (opening_causes tells failed zero) fault
opening_back zero two tells failed sounds shows =
    cause_weaker (opening_causes tells failed two) (opening_causes tells failed zero)
    (λ failed. failed) (λ full. full)
    (λ other told sound. other told (sounds told sound))
    (λ long told sound. long_before zero two (shows told sound) (long told (sounds told sound)))
    (λ broken. broken)

pub opening_same : (zero one : State) (tells failed : Type 0) → (tells → IsUnchanged zero one) → (fault : StoreFault)
    → IsCause (opening_causes tells failed one) fault → IsCause (opening_causes tells failed zero) fault
opening_same zero one tells failed same =
    cause_weaker (opening_causes tells failed one) (opening_causes tells failed zero)
    (λ failed. failed) (λ full. full)
    (λ other told sound. other told ((same told).lost ∙ sound))
    (λ long told sound. too_long_still zero one (same told) (long told ((same told).lost ∙ sound)))
    (λ broken. broken)
