-- All journals are brought into memory.
use Rattle.std.proofs.Common.{◌≡◌, ◌≢◌, inl, inr, ⊎_elim, ℕ, ◌<◌, ◌≤◌, ◌+◌, ◌^◌, List, [], ◌∷◌, ◌++◌, drop, length, map}
use Rattle.std.proofs.Common.{refl, sym, ap, subst, ◌∙◌, arith}
use Rattle.std.specs.Prelude.{◌↔◌, Contains, None, Option, Some}
use Rattle.std.specs.List.{AllByRecursion}
use Rattle.std.specs.List.Sorted.{IsStrictlyIncreasing}
use Rattle.std.proofs.lemmas.List.{append_cancel_left, drop_at, map-append}
use Rattle.std.proofs.lemmas.List.Elements.{Contains-append_left, Contains-push, Contains-push_cases}
use Rattle.disk.specs.Calls.{IsUnchanged}
use Rattle.disk.specs.Memory.{shown_now}
use Rattle.disk.specs.States.{State}
use Rattle.journal.specs.Batches.{batches_text}
use Rattle.journal.specs.Journals.{EndsAt, IsSound}
use Rattle.journal.proofs.Readings.{one_reading}
use Rattle.archive_text.specs.Entries.{Entry, Has}
use Rattle.archive_text.proofs.Members.{all_append}
use Rattle.record_store.specs.Causes.{opening_causes, reading_causes}
use Rattle.record_store.specs.Holdings.{IsWholeJournal, JournalHas}
use Rattle.record_store.specs.Names.{journal_name}
use Rattle.record_store.specs.Shown.{AreShown, journal_shown}
use Rattle.record_store.proofs.Causing.{cause_weaker}
use Rattle.record_store.proofs.Numbers.{below_last, increasing_push}
use Rattle.durable_store.specs.Asides.{AddsJournal, AreTails, IsBehind, IsTail, IsTailOf, tail_number}
use Rattle.durable_store.specs.Causes.{IsOpeningCause, IsReadingCause}
use Rattle.durable_store.specs.Recovery.{Adds, IsRecovered, Refutes}
use Rattle.durable_store.specs.declared.fault.OpenFault.{OpenFault}
use Rattle.durable_store.specs.declared.fault.OpenFault.TheVariants.{Store, Damaged, Memory}
use Rattle.durable_store.specs.declared.tail.Tail.{Tail}

-- ---- what is behind the batches of a file

pub one_behind : (file one other : List ℕ) → IsBehind file one → IsBehind file other → one ≡ other
one_behind file one other a b =
    let bodies = one_reading file a.bodies b.bodies a.has b.has in
    sym a.is
    ∙ append_cancel_left (batches_text b.bodies) a.has.tail b.has.tail
    (ap (λ (l : List (List ℕ)). batches_text l ++ a.has.tail) (sym bodies) ∙ sym a.has.text ∙ b.has.text)
    ∙ b.is

pub ends_behind : (file : List ℕ) (bodies : List (List ℕ)) (end : ℕ) → EndsAt file bodies end
    → IsBehind file (drop end file)
ends_behind file bodies end ends = record {
  bodies = bodies;
  has = record { tail = ends.tail; text = ends.text; closed = ends.closed; sized = ends.sized };
  is = sym (ap (drop end) ends.text ∙ drop_at (batches_text bodies) ends.tail end (sym ends.end_is));
}

-- what a split gives
pub behind_of : (octets read behind : List ℕ) (end : ℕ) → read ≡ octets
    → ((bodies : List (List ℕ)) × EndsAt read bodies end) → behind ≡ drop end read → IsBehind octets behind
behind_of octets read behind end same ends is =
    subst (IsBehind octets) (sym is)
    (subst (λ (o : List ℕ). IsBehind o (drop end read)) same (ends_behind read ends.0 end ends.1))

-- ---- the journals of some numbers

-- the entry is one of them
pub record JournalsIn (state : State) (numbers : List ℕ) (e : Entry) : Type 0 where
  pub number : ℕ
  pub octets : List ℕ
  pub one : Contains numbers number
  pub shown : journal_shown state number ≡ Some octets
  pub has : JournalHas octets e

-- their entries are those of a set, each is whole, and what is behind their batches is this
pub record ReadSo (state : State) (numbers : List ℕ) (es : List Entry) (tails : List Tail) : Type 0 where
  pub has : (e : Entry) → Has es e ↔ JournalsIn state numbers e
  pub whole : (n : ℕ) (octets : List ℕ) → Contains numbers n → journal_shown state n ≡ Some octets
      → IsWholeJournal octets
  pub ascend : IsStrictlyIncreasing (map tail_number tails)
  pub of : (n : ℕ) → Contains (map tail_number tails) n → Contains numbers n
  pub each : AllByRecursion (IsTail state) tails
  pub all : (n : ℕ) (file octets : List ℕ) → Contains numbers n → journal_shown state n ≡ Some file
      → IsBehind file octets → 1 < length octets → Contains (map tail_number tails) n

none_of : {X : Type 0} → (x : X) → Contains [] x → ⊥
none_of x (k, below, same) = omega (arith, below)

pub read_none : (state : State) (es : List Entry) → es ≡ [] → ReadSo state [] es []
read_none state es empty = record {
  has = λ e. (
    λ has. absurd (subst (λ (l : List Entry). Has l e) empty has),
    λ has. absurd (none_of has.number has.one),
  );
  whole = λ n octets has. absurd (none_of n has);
  ascend = λ k below. absurd (omega (arith, below));
  of = λ n has. absurd (none_of n has);
  each = tt;
  all = λ n file octets has. absurd (none_of n has);
}

-- one more
module _ (state : State) (numbers : List ℕ) (old new : List Entry) (tails : List Tail) (number : ℕ) (file : List ℕ)
    (small : number < 2 ^ 64) (read : ReadSo state numbers old tails) (shown : journal_shown state number ≡ Some file)
    (ascend : IsStrictlyIncreasing (numbers ++ number ∷ [])) where
  same_file : (n : ℕ) (octets : List ℕ) → number ≡ n → journal_shown state n ≡ Some octets → file ≡ octets
  same_file n octets is shown_there =
      let same : Some file ≡ Some octets = sym shown ∙ ap (journal_shown state) is ∙ shown_there in cc same

  wider : (n : ℕ) → Contains numbers n → Contains (numbers ++ number ∷ []) n
  wider n has = Contains-append_left numbers (number ∷ []) n has

  more_has : Adds old new (JournalHas file) → (e : Entry) → Has new e ↔ JournalsIn state (numbers ++ number ∷ []) e
  more_has adds e = (there, back)
    where
      there : Has new e → JournalsIn state (numbers ++ number ∷ []) e
      there has = ⊎_elim
          (λ before.
          let was = (read.has e).0 before in
          record {
            number = was.number;
            octets = was.octets;
            one = wider was.number was.one;
            shown = was.shown;
            has = was.has;
          })
          (λ here. record {
            number = number;
            octets = file;
            one = Contains-push numbers number;
            shown = shown;
            has = here;
          })
          ((adds e).0 has)

      back : JournalsIn state (numbers ++ number ∷ []) e → Has new e
      back has = (adds e).1 (⊎_elim
          (λ first. inl ((read.has e).1 (record {
            number = has.number;
            octets = has.octets;
            one = first;
            shown = has.shown;
            has = has.has;
          })))
          (λ (is : number ≡ has.number).
          inr (subst (λ (o : List ℕ). JournalHas o e) (sym (same_file has.number has.octets is has.shown)) has.has))
          (Contains-push_cases numbers number has.number has.one))

  more_whole : IsWholeJournal file → (n : ℕ) (octets : List ℕ) → Contains (numbers ++ number ∷ []) n
      → journal_shown state n ≡ Some octets → IsWholeJournal octets
  more_whole whole n octets has there = ⊎_elim
      (λ first. read.whole n octets first there)
      (λ (is : number ≡ n). subst IsWholeJournal (same_file n octets is there) whole)
      (Contains-push_cases numbers number n has)

  read_plain : Adds old new (JournalHas file) → IsWholeJournal file
      → ((octets : List ℕ) → IsBehind file octets → length octets ≤ 1)
      → ReadSo state (numbers ++ number ∷ []) new tails
  read_plain adds whole short = record {
    has = more_has adds;
    whole = more_whole whole;
    ascend = read.ascend;
    of = λ n has. wider n (read.of n has);
    each = read.each;
    all = λ n other octets has there behind more. ⊎_elim
        (λ first. read.all n other octets first there behind more)
        (λ (is : number ≡ n).
        absurd (omega (
          arith,
          more,
          short octets
              (subst (λ (o : List ℕ). IsBehind o octets) (sym (same_file n other is there)) behind),
        )))
        (Contains-push_cases numbers number n has);
  }

  module _ (tail : Tail) (is : IsTailOf file number tail) where
    numbers_then : map tail_number (tails ++ tail ∷ []) ≡ map tail_number tails ++ number ∷ []
    numbers_then =
        map-append tail_number tails (tail ∷ [])
        ∙ ap (λ (n : ℕ). map tail_number tails ++ n ∷ []) is.number_is

    is_tail : IsTail state tail
    is_tail = record {
      octets = file;
      small = subst (λ (n : ℕ). n < 2 ^ 64) (sym is.number_is) small;
      shown = ap (journal_shown state) is.number_is ∙ shown;
      behind = is.behind;
      more = is.more;
    }

    read_torn : Adds old new (JournalHas file) → IsWholeJournal file
        → ReadSo state (numbers ++ number ∷ []) new (tails ++ tail ∷ [])
    read_torn adds whole = record {
      has = more_has adds;
      whole = more_whole whole;
      ascend = subst IsStrictlyIncreasing (sym numbers_then)
          (increasing_push (map tail_number tails) number read.ascend
          (λ n has. below_last numbers number n ascend (read.of n has)));
      of = λ n has. ⊎_elim
          (λ first. wider n (read.of n first))
          (λ (same : number ≡ n). subst (Contains (numbers ++ number ∷ [])) same (Contains-push numbers number))
          (Contains-push_cases (map tail_number tails) number n
          (subst (λ (l : List ℕ). Contains l n) numbers_then has));
      each = all_append (IsTail state) tails (tail ∷ []) read.each (is_tail, tt);
      all = λ n other octets has there behind more. subst (λ (l : List ℕ). Contains l n) (sym numbers_then)
          (⊎_elim
          (λ first.
          Contains-append_left (map tail_number tails) (number ∷ []) n (read.all n other octets first there behind more))
          (λ (is : number ≡ n).
          subst (Contains (map tail_number tails ++ number ∷ [])) is (Contains-push (map tail_number tails) number))
          (Contains-push_cases numbers number n has));
    }

  pub read_more : (then : List Tail) → AddsJournal old new tails then number file
      → ReadSo state (numbers ++ number ∷ []) new then
  read_more then adds = ⊎_elim
      (λ plain. subst (λ (l : List Tail). ReadSo state (numbers ++ number ∷ []) new l) (sym plain.0)
      (read_plain adds.adds adds.whole plain.1))
      (λ torn. subst (λ (l : List Tail). ReadSo state (numbers ++ number ∷ []) new l) (sym torn.1)
      (read_torn torn.0 torn.2 adds.adds adds.whole))
      adds.behind

-- ---- all of them

some_octets : (o : Option (List ℕ)) → o ≢ None → (octets : List ℕ) × (o ≡ Some octets)
some_octets None some = absurd (some refl)
some_octets (Some octets) some = (octets, refl)

-- one of them is shown
pub one_is_shown : (state : State) (last : ℕ) (numbers : List ℕ) (n : ℕ) → AreShown state last numbers
    → Contains numbers n → (octets : List ℕ) × (journal_shown state n ≡ Some octets)
one_is_shown state last numbers n are has = some_octets (journal_shown state n) ((are.are n).0 has).1

module _ (state : State) (last : ℕ) (numbers : List ℕ) (es : List Entry) (tails : List Tail)
    (highest : 2 ^ 64 ≡ last + 1) (are : AreShown state last numbers) (read : ReadSo state numbers es tails) where
  each_is : (n : ℕ) (octets : List ℕ) → n < 2 ^ 64 → journal_shown state n ≡ Some octets → Contains numbers n
  each_is n octets small shown =
      (are.are n).1 (omega (arith, small, highest), λ none. absurd (cc (none, shown)))

  pub all_recovered : IsRecovered state es
  all_recovered = record {
    whole = λ n octets small shown. read.whole n octets (each_is n octets small shown) shown;
    has = λ e. (
      λ has.
          let was = (read.has e).0 has in
          record {
            number = was.number;
            octets = was.octets;
            small = omega (arith, ((are.are was.number).0 was.one).0, highest);
            shown = was.shown;
            has = was.has;
          },
      λ has. (read.has e).1 (record {
        number = has.number;
        octets = has.octets;
        one = each_is has.number has.octets has.small has.shown;
        shown = has.shown;
        has = has.has;
      }),
    );
  }

  pub all_tails : AreTails state tails
  all_tails = record {
    ascend = read.ascend;
    each = read.each;
    all = λ n file octets small shown. read.all n file octets (each_is n file small shown) shown;
  }

-- ---- why one is not read

pub reading_refuted : (tells failed : Type 0) (state : State) (number : ℕ) (read : List ℕ) (fault : OpenFault)
    → (tells → IsSound state → (octets : List ℕ) → journal_shown state number ≡ Some octets → read ≡ octets)
    → Refutes number (IsWholeJournal read) fault → IsReadingCause tells failed state number fault
reading_refuted tells failed state number read (Store fault) same is = absurd is
reading_refuted tells failed state number read (Damaged at fault) same is = (
  is.0,
  λ tell sound octets shown whole. is.1 (subst IsWholeJournal (sym (same tell sound octets shown)) whole),
)
reading_refuted tells failed state number read Memory same is = tt

pub unchanged_journal : (zero one : State) (n : ℕ) → IsUnchanged zero one → journal_shown one n ≡ journal_shown zero n
unchanged_journal zero one n same = ap shown_now (same.entries (journal_name n))

pub reading_fails : (tells failed : Type 0) (zero one : State) (number : ℕ) (fault : OpenFault) → number < 2 ^ 64
    → (tells → IsUnchanged zero one)
    → (tells → IsSound zero → (octets : List ℕ) × (journal_shown zero number ≡ Some octets))
    → IsReadingCause tells failed one number fault → IsOpeningCause tells failed zero fault
reading_fails tells failed zero one number (Store fault) small same shown is =
    cause_weaker (reading_causes tells failed one number) (opening_causes tells failed zero)
    (λ failed. failed) (λ full. full)
    (λ other tell sound.
    let there = shown tell sound in
    other tell ((same tell).lost ∙ sound) there.0 (unchanged_journal zero one number (same tell) ∙ there.1))
    (λ long tell sound.
    let there = shown tell sound in
    record {
      number = number;
      octets = there.0;
      small = small;
      shown = there.1;
      long = long tell ((same tell).lost ∙ sound) there.0 (unchanged_journal zero one number (same tell) ∙ there.1);
    })
    (λ broken. broken) fault is
reading_fails tells failed zero one number (Damaged at fault) small same shown is = λ tell sound.
    let there = shown tell sound in
    record {
      octets = there.0;
      shown = ap (journal_shown zero) is.0 ∙ there.1;
      damaged = is.1 tell ((same tell).lost ∙ sound) there.0
          (unchanged_journal zero one number (same tell) ∙ there.1);
    }
reading_fails tells failed zero one number Memory small same shown is = tt
