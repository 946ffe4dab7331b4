-- The least of the next entries.
use Rattle.std.proofs.Common.{◌≡◌, ◌∙◌, ℕ, zero, suc, ◌+◌, ◌<◌, Bool, true, false, Option, Some, None, List, [], ◌∷◌, ◌++◌, length, map, take}
use Rattle.std.proofs.Common.{set, refl, sym, ap, subst, inl, inr, arith, true≢false}
use Rattle.std.specs.Prelude.{◌⊎◌}
use Rattle.std.specs.List.{AllByRecursion}
use Rattle.std.proofs.lemmas.List.{length-append, length-map, length-take-le, map_push, set-append_left, set-set, set_at, take-set, take_more}
use Rattle.archive_text.specs.Entries.{Entry, IsBelow}
use Rattle.archive_text.proofs.Members.{all_append, all_weaker}
use Rattle.archive_text.proofs.Orders.{below_transitive}
use Rattle.archive_streams.specs.Entries.{current}
use Rattle.archive_join.specs.Heads.{AreClosed, IsAt, IsFound, IsFoundIn, IsNotAbove, is_next, only}
use Rattle.archive_join.specs.Joining.{AreHolders}
use Rattle.archive_join.specs.Sides.{AreIdle}
use Rattle.archive_join.specs.declared.head.Head.{Head}
use Rattle.archive_join.specs.declared.heads.Least.{Least}
use Rattle.archive_join.proofs.NextEntries.{at_number, next_closed, next_equal, next_greater, one_at}

-- ---- flags

abbrev no_flags : List Head → List Bool
no_flags hs = map (λ (h : Head). false) hs

pub closed_or_not : (b : Bool) → (b ≡ true) ⊎ (b ≡ false)
closed_or_not true = inl refl
closed_or_not false = inr refl

-- an entry below one that is not above the next one is not that
not_next : (e l : Entry) (h : Head) → IsBelow e l → IsNotAbove l h → is_next e h ≡ false
not_next e l h below low = go (closed_or_not h.closed)
  where
    over : (l ≡ current h.entries) ⊎ IsBelow l (current h.entries) → IsBelow e (current h.entries)
    over (inl same) = subst (IsBelow e) same below
    over (inr more) = below_transitive e l (current h.entries) below more

    go : (h.closed ≡ true) ⊎ (h.closed ≡ false) → is_next e h ≡ false
    go (inl on) = sym (next_closed e h on)
    go (inr off) = sym (next_greater e (current h.entries) h off refl (over (low off)))

none_next : (e l : Entry) (some : List Head) → IsBelow e l → AllByRecursion (IsNotAbove l) some
    → map (is_next e) some ≡ no_flags some
none_next e l [] below low = refl
none_next e l (h ∷ some) below low = rw (not_next e l h below low.0, none_next e l some below low.1) refl

closed_next : (e : Entry) (some : List Head) → AreClosed some → map (is_next e) some ≡ no_flags some
closed_next e [] all = refl
closed_next e (h ∷ some) all = rw (sym (next_closed e h all.0), closed_next e some all.1) refl

-- one head more, which has not the entry, or has it alone
flag_off : (e : Entry) (some : List Head) (h : Head) (at : ℕ) → at < length some → is_next e h ≡ false
    → map (is_next e) some ≡ only at some → map (is_next e) (some ++ h ∷ []) ≡ only at (some ++ h ∷ [])
flag_off e some h at early off before =
    let within : at < length (no_flags some) = omega (arith, early, length-map some (λ (k : Head). false)) in
    map_push (is_next e) some h ∙ ap (λ (b : Bool). map (is_next e) some ++ b ∷ []) off
    ∙ ap (λ (bs : List Bool). bs ++ false ∷ []) before
    ∙ sym (set-append_left (no_flags some) (false ∷ []) at true within)
    ∙ ap (λ (bs : List Bool). set bs at true) (sym (map_push (λ (k : Head). false) some h))

flag_on : (e : Entry) (some : List Head) (h : Head) (at : ℕ) → length some ≡ at → is_next e h ≡ true
    → map (is_next e) some ≡ no_flags some → map (is_next e) (some ++ h ∷ []) ≡ only at (some ++ h ∷ [])
flag_on e some h at size on before =
    map_push (is_next e) some h ∙ ap (λ (b : Bool). map (is_next e) some ++ b ∷ []) on
    ∙ ap (λ (bs : List Bool). bs ++ true ∷ []) before
    ∙ sym (set_at (no_flags some) false [] true at (length-map some (λ (k : Head). false) ∙ size))
    ∙ ap (λ (bs : List Bool). set bs at true) (sym (map_push (λ (k : Head). false) some h))

-- ---- one head more

abbrev one_more : List Head → ℕ → Head → List Head
one_more hs at h = take at hs ++ h ∷ []

taken_on : (hs : List Head) (at : ℕ) (h : Head) → at < length hs → IsAt hs at h → one_more hs at h ≡ take (at + 1) hs
taken_on hs at h within is = ap (λ (x : Head). one_more hs at x) is ∙ sym (take_more hs at h within)

closed_low : (e : Entry) (hs : List Head) → AreClosed hs → AllByRecursion (IsNotAbove e) hs
closed_low e [] all = tt
closed_low e (h ∷ hs) all = (λ off. absurd (true≢false (sym all.0 ∙ off)), closed_low e hs all.1)

lower : (e l : Entry) (h : Head) → IsBelow e l → IsNotAbove l h → IsNotAbove e h
lower e l h below before off = go (before off)
  where
    go : (l ≡ current h.entries) ⊎ IsBelow l (current h.entries) → (e ≡ current h.entries) ⊎ IsBelow e (current h.entries)
    go (inl same) = inr (subst (IsBelow e) same below)
    go (inr more) = inr (below_transitive e l (current h.entries) below more)

later_size : (some : List Head) (h : Head) (at : ℕ) → at < length some → at < length (some ++ h ∷ [])
later_size some h at early = omega (arith, early, length-append some (h ∷ []))

-- it is not below the least, and is not the same
kept : (hs : List Head) (at : ℕ) (h : Head) (l : Least) → ((e : Entry) (k : Head) → IsAt hs l.at k → e ≡ current k.entries
    → IsNotAbove e h × (is_next e h ≡ false)) → IsFound hs (take at hs) l → IsFound hs (one_more hs at h) l
kept hs at h l over f = record {
  least = record {
    within = f.least.within;
    unclosed = f.least.unclosed;
    least = λ k is.
        all_append (IsNotAbove (current k.entries)) (take at hs) (h ∷ []) (f.least.least k is)
        ((over (current k.entries) k is refl).0, tt);
  };
  early = later_size (take at hs) h l.at f.early;
  alone = λ k is off.
      flag_off (current k.entries) (take at hs) h l.at f.early (over (current k.entries) k is refl).1 (f.alone k is off);
}

closed_on : (hs : List Head) (at : ℕ) (least : Option Least) (h : Head) → h.closed ≡ true
    → IsFoundIn hs (take at hs) least → IsFoundIn hs (one_more hs at h) least
closed_on hs at None h on before = all_append (λ (k : Head). k.closed ≡ true) (take at hs) (h ∷ []) before (on, tt)
closed_on hs at (Some l) h on before =
    kept hs at h l (λ e k is same. (λ off. absurd (true≢false (sym on ∙ off)), sym (next_closed e h on))) before

pub found_closed : (hs : List Head) (at : ℕ) (least : Option Least) (h : Head) → at < length hs → IsAt hs at h
    → h.closed ≡ true → IsFoundIn hs (take at hs) least → IsFoundIn hs (take (at + 1) hs) least
found_closed hs at least h within is on before =
    subst (λ (some : List Head). IsFoundIn hs some least) (taken_on hs at h within is) (closed_on hs at least h on before)

pub found_greater : (hs : List Head) (at : ℕ) (l : Least) (h k : Head) (a b : Entry) → at < length hs → IsAt hs at h
    → IsAt hs l.at k → h.closed ≡ false → a ≡ current h.entries → b ≡ current k.entries → IsBelow b a
    → IsFound hs (take at hs) l → IsFound hs (take (at + 1) hs) l
found_greater hs at l h k a b within is also off here there below f =
    subst (λ (some : List Head). IsFound hs some l) (taken_on hs at h within is)
    (kept hs at h l (λ e m at_m same.
    over e (same ∙ ap (λ (x : Head). current x.entries) (one_at hs l.at m k f.least.within at_m also) ∙ sym there)) f)
  where
    over : (e : Entry) → e ≡ b → IsNotAbove e h × (is_next e h ≡ false)
    over e same =
        let less : IsBelow e a = subst (λ (x : Entry). IsBelow x a) (sym same) below in (
          λ _. inr (subst (IsBelow e) here less),
          sym (next_greater e a h off here less),
        )

-- the same entry
pub found_equal : (hs : List Head) (at : ℕ) (l : Least) (h k : Head) (a b : Entry) → at < length hs → IsAt hs at h
    → IsAt hs l.at k → a ≡ current h.entries → b ≡ current k.entries → a ≡ b
    → IsFound hs (take at hs) l → IsFound hs (take (at + 1) hs) (record { at = l.at; shared = true })
found_equal hs at l h k a b within is also here there same f =
    subst (λ (some : List Head). IsFound hs some (record { at = l.at; shared = true })) (taken_on hs at h within is)
    (record {
      least = record {
        within = f.least.within;
        unclosed = f.least.unclosed;
        least = λ m at_m.
            all_append (IsNotAbove (current m.entries)) (take at hs) (h ∷ []) (f.least.least m at_m) (
              λ _. inl (ap (λ (x : Head). current x.entries) (one_at hs l.at m k f.least.within at_m also) ∙ sym there
                  ∙ sym same ∙ here),
              tt,
            );
      };
      early = later_size (take at hs) h l.at f.early;
      alone = λ m at_m off. absurd (true≢false off);
    })

-- a lesser one, or the first
lesser_on : (hs : List Head) (at : ℕ) (h : Head) → at < length hs → IsAt hs at h → h.closed ≡ false
    → AllByRecursion (IsNotAbove (current h.entries)) (take at hs)
    → map (is_next (current h.entries)) (take at hs) ≡ no_flags (take at hs)
    → IsFound hs (take (at + 1) hs) (record { at = at; shared = false })
lesser_on hs at h within is off low flags =
    let size : length (take at hs) ≡ at = length-take-le at hs (omega (arith, within)) in
    subst (λ (some : List Head). IsFound hs some (record { at = at; shared = false })) (taken_on hs at h within is)
    (record {
      least = record {
        within = within;
        unclosed = λ k also. ap (λ (x : Head). x.closed) (one_at hs at k h within also is) ∙ off;
        least = λ k also.
            subst (λ (x : Head). AllByRecursion (IsNotAbove (current x.entries)) (one_more hs at h))
            (one_at hs at h k within is also)
            (all_append (IsNotAbove (current h.entries)) (take at hs) (h ∷ []) low (λ _. inl refl, tt));
      };
      early = omega (arith, size, length-append (take at hs) (h ∷ []));
      alone = λ k also _.
          subst (λ (x : Head). map (is_next (current x.entries)) (one_more hs at h) ≡ only at (one_more hs at h))
          (one_at hs at h k within is also)
          (flag_on (current h.entries) (take at hs) h at size
          (sym (next_equal (current h.entries) (current h.entries) h off refl refl)) flags);
    })

pub found_first : (hs : List Head) (at : ℕ) (h : Head) → at < length hs → IsAt hs at h → h.closed ≡ false
    → AreClosed (take at hs) → IsFound hs (take (at + 1) hs) (record { at = at; shared = false })
found_first hs at h within is off before =
    lesser_on hs at h within is off (closed_low (current h.entries) (take at hs) before)
    (closed_next (current h.entries) (take at hs) before)

pub found_less : (hs : List Head) (at : ℕ) (l : Least) (h k : Head) (a b : Entry) → at < length hs → IsAt hs at h
    → IsAt hs l.at k → h.closed ≡ false → a ≡ current h.entries → b ≡ current k.entries → IsBelow a b
    → IsFound hs (take at hs) l → IsFound hs (take (at + 1) hs) (record { at = at; shared = false })
found_less hs at l h k a b within is also off here there below f =
    let less : IsBelow (current h.entries) (current k.entries) =
    subst (λ (x : Entry). IsBelow x (current k.entries)) here (subst (IsBelow a) there below) in
    let low = f.least.least k also in
    lesser_on hs at h within is off
    (all_weaker (IsNotAbove (current k.entries)) (IsNotAbove (current h.entries))
    (λ x before. lower (current h.entries) (current k.entries) x less before) (take at hs) low)
    (none_next (current h.entries) (current k.entries) (take at hs) less low)

-- ---- one alone has it

idle_is : (bs : List Bool) (hs : List Head) → AreIdle bs → length bs ≡ length hs → bs ≡ no_flags hs
idle_is [] [] idle same = refl
idle_is [] (h ∷ hs) idle same = absurd (omega (arith, same))
idle_is (b ∷ bs) [] idle same = absurd (omega (arith, same))
idle_is (b ∷ bs) (h ∷ hs) idle same = rw (idle.0, idle_is bs hs idle.1 (omega (arith, same))) refl

pub alone_holds : (hs : List Head) (bs : List Bool) (l : Least) → AreIdle bs → length bs ≡ length hs → IsFound hs hs l
    → l.shared ≡ false → AreHolders hs (set bs l.at true) l.at
alone_holds hs bs l idle same f off h is =
    ap (λ (xs : List Bool). set xs l.at true) (idle_is bs hs idle same) ∙ sym (f.alone h is off)

-- ---- its next entry alone is read

no_flags_idle : (hs : List Head) → AreIdle (no_flags hs)
no_flags_idle [] = tt
no_flags_idle (h ∷ hs) = (refl, no_flags_idle hs)

idle_taken : (bs : List Bool) (n : ℕ) → AreIdle bs → AreIdle (take n bs)
idle_taken bs zero idle = tt
idle_taken [] (suc n) idle = tt
idle_taken (b ∷ bs) (suc n) idle = (idle.0, idle_taken bs n idle.1)

idle_set : (bs : List Bool) (n : ℕ) → AreIdle bs → AreIdle (set bs n false)
idle_set [] n idle = tt
idle_set (b ∷ bs) zero idle = (refl, idle.1)
idle_set (b ∷ bs) (suc n) idle = (idle.0, idle_set bs n idle.1)

-- the flags are that of one head
alone_flags : (hs : List Head) (bs : List Bool) (l : Least) → IsFound hs hs l → AreHolders hs bs l.at → l.shared ≡ false
    → bs ≡ only l.at hs
alone_flags hs bs l f holders off = let h = at_number hs l.at f.least.within in holders h.0 h.1 ∙ f.alone h.0 h.1 off

pub alone_before : (hs : List Head) (bs : List Bool) (l : Least) → IsFound hs hs l → AreHolders hs bs l.at
    → l.shared ≡ false → AreIdle (take l.at bs)
alone_before hs bs l f holders off =
    subst AreIdle (sym (ap (take l.at) (alone_flags hs bs l f holders off) ∙ take-set (no_flags hs) l.at true))
    (idle_taken (no_flags hs) l.at (no_flags_idle hs))

pub alone_after : (hs : List Head) (bs cs : List Bool) (l : Least) → IsFound hs hs l → AreHolders hs bs l.at
    → l.shared ≡ false → cs ≡ set bs l.at false → AreIdle cs
alone_after hs bs cs l f holders off is =
    subst AreIdle (sym (is ∙ ap (λ (xs : List Bool). set xs l.at false) (alone_flags hs bs l f holders off)
    ∙ set-set (no_flags hs) l.at true false)) (idle_set (no_flags hs) l.at (no_flags_idle hs))
