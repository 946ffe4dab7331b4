-- What a call that joins archives did at its end.
use Rattle.std.proofs.Common.{◌≡◌, ℕ, Bool, true, false, List, [], ◌∷◌, length, map, Option, refl, sym, ap, subst, inl, inr, arith}
use Rattle.std.proofs.Common.{true≢false}
use Rattle.std.specs.Prelude.{◌⊎◌}
use Rattle.std.specs.List.{AllByRecursion}
use Rattle.std.specs.Io.KnownBytes.{Appends}
use Rattle.std.proofs.KnownBytes.{Appends-nil, Consumes-nil}
use Rattle.octet_devices.specs.Device.{InputState}
use Rattle.octet_devices.specs.Held.{Carries, Held, StopsWithin}
use Rattle.octet_devices.proofs.Carrying.{Carries-new}
use Rattle.archive_text.specs.Entries.{Entry, Has, IsBelow}
use Rattle.archive_text.proofs.Members.{all_weaker, has_either, has_left}
use Rattle.archive_text.proofs.Orders.{below_irreflexive, below_transitive}
use Rattle.archive_streams.specs.Entries.{Reads}
use Rattle.archive_streams.specs.Joining.{IsWithin}
use Rattle.archive_streams.specs.declared.entries.ArchiveEntries.{ArchiveEntries}
use Rattle.archive_sets.specs.Selections.{IsSelection}
use Rattle.archive_join.specs.Heads.{AreClosed, IsNew, Place}
use Rattle.archive_join.specs.Holders.{AreKeptUpTo, holders, IsHeld, kept_text}
use Rattle.archive_join.specs.Inputs.{AreGiven, AreWhole}
use Rattle.archive_join.specs.Joined.{IsCauseIn, IsFirstFault, Joined, Stopped, StopsUpTo}
use Rattle.archive_join.specs.Joining.{Collects, Halted, IsFresh, IsUnderWay, IsUnionOf, Joining}
use Rattle.archive_join.specs.Sides.{AreFurther, GoBeyond, GoesBeyond, Halting, IsPlaced, Side, Standing}
use Rattle.archive_join.specs.declared.fault.JoinFault.{JoinFault}
use Rattle.archive_join.specs.declared.fault.JoinFault.TheVariants.{Archive, Read, Endless, Write, Memory}
use Rattle.archive_join.specs.declared.head.Head.{Head}
use Rattle.archive_join.specs.declared.joining.Join.{Join}
use Rattle.archive_join.proofs.Fronts.{IsFurtherSide, are_further, fewer_first, side_further}
use Rattle.archive_join.proofs.Holders.{has_same, texts_same}

-- ---- fronts that go on behind what was joined

held_on : (ws : List Entry) (e : Entry) (tss fss : List (List Entry)) → GoBeyond ws tss fss → IsHeld tss e → IsHeld fss e
held_on ws e [] fss g h = absurd h
held_on ws e (ts ∷ tss) [] g h = absurd g
held_on ws e (ts ∷ tss) (fs ∷ fss) (g, gs) (inl h) =
    inl (subst (λ (l : List Entry). Has l e) (sym g.1) (has_left ts g.0 e h))
held_on ws e (ts ∷ tss) (fs ∷ fss) (g, gs) (inr h) = inr (held_on ws e tss fss gs h)

-- what is not above all that was joined is no later one
not_later : (ws later : List Entry) (e : Entry) → ((x w : Entry) → Has later x → Has ws w → IsBelow w x)
    → IsWithin ws e → ¬ (Has later e)
not_later ws later e above (m, has, inl same) h =
    below_irreflexive m (subst (IsBelow m) same (above e m h has))
not_later ws later e above (m, has, inr less) h =
    below_irreflexive m (below_transitive m e m (above e m h has) less)

front_has : (ws ts fs : List Entry) (e : Entry) → GoesBeyond ws ts fs → IsWithin ws e → Has fs e → Has ts e
front_has ws ts fs e g within h = go (has_either ts g.0 e (subst (λ (l : List Entry). Has l e) g.1 h))
  where
    go : Has ts e ⊎ Has g.0 e → Has ts e
    go (inl early) = early
    go (inr late) = absurd (not_later ws g.0 e g.2 within late)

held_already : (ws : List Entry) (e : Entry) (tss fss : List (List Entry)) → GoBeyond ws tss fss → IsWithin ws e
    → IsHeld fss e → IsHeld tss e
held_already ws e [] [] g within h = absurd h
held_already ws e [] (fs ∷ fss) g within h = absurd g
held_already ws e (ts ∷ tss) [] g within h = absurd g
held_already ws e (ts ∷ tss) (fs ∷ fss) (g, gs) within (inl h) = inl (front_has ws ts fs e g within h)
held_already ws e (ts ∷ tss) (fs ∷ fss) (g, gs) within (inr h) = inr (held_already ws e tss fss gs within h)

holders_on : (ws : List Entry) (e : Entry) (tss fss : List (List Entry)) → GoBeyond ws tss fss → IsWithin ws e
    → holders fss e ≡ holders tss e
holders_on ws e [] [] g within = refl
holders_on ws e [] (fs ∷ fss) g within = absurd g
holders_on ws e (ts ∷ tss) [] g within = absurd g
holders_on ws e (ts ∷ tss) (fs ∷ fss) (g, gs) within =
    rw (
      has_same fs ts e (front_has ws ts fs e g within)
          (λ h. subst (λ (l : List Entry). Has l e) (sym g.1) (has_left ts g.0 e h)),
      holders_on ws e tss fss gs within,
    ) refl

-- ---- a fault

is_within : (ws : List Entry) (w : Entry) → Has ws w → IsWithin ws w
is_within ws w h = (w, h, inl refl)

within_held : (bound ws : List Entry) (e : Entry) → ((x : Entry) → Has bound x → Has ws x) → IsWithin bound e → IsWithin ws e
within_held bound ws e held (m, has, below) = (m, held m has, below)

-- an entry is not above one that is within a list
within_within : (bound ws : List Entry) (e : Entry) → ((w : Entry) → Has ws w → IsWithin bound w) → Has ws e
    → IsWithin bound e
within_within bound ws e all h = all e h

kept_up_to : (keeps : List Bool → Type 0) (tss fss : List (List Entry)) (ws ys bound : List Entry) → GoBeyond ws tss fss
    → IsUnionOf tss ws → IsSelection (λ (e : Entry). keeps (holders tss e)) ws ys
    → ((e : Entry) → Has bound e → IsHeld tss e) → ((w : Entry) → Has ws w → IsWithin bound w)
    → AreKeptUpTo keeps fss bound ys
kept_up_to keeps tss fss ws ys bound g u k held all = record {
  ascending = k.ascending;
  members = λ e. (λ h. there e ((k.members e).0 h), λ h. back e h.0 h.1 h.2);
}
  where
    there : (e : Entry) → Has ws e × keeps (holders tss e) → IsHeld fss e × IsWithin bound e × keeps (holders fss e)
    there e (has, keep) = (
      held_on ws e tss fss g ((u.members e).0 has),
      all e has,
      subst keeps (sym (holders_on ws e tss fss g (is_within ws e has))) keep,
    )

    back : (e : Entry) → IsHeld fss e → IsWithin bound e → keeps (holders fss e) → Has ys e
    back e has within keep =
        let near = within_held bound ws e (λ x h. (u.members x).1 (held x h)) within in
        (k.members e).1 (
          (u.members e).1 (held_already ws e tss fss g near has),
          subst keeps (holders_on ws e tss fss g near) keep,
        )

pub stops_up_to : (keeps : List Bool → Type 0) (text : List Bool → Entry → List ℕ) (fault : JoinFault)
    (ds es : List InputState) (tss : List (List Entry)) (ws ys bound : List Entry) (P : List ℕ → Type 0)
    → (f : AreFurther ds es tss ws) → IsUnionOf tss ws → IsSelection (λ (e : Entry). keeps (holders tss e)) ws ys
    → ((e : Entry) → Has bound e → IsHeld tss e) → ((w : Entry) → Has ws w → IsWithin bound w)
    → IsCauseIn fault ds es bound → IsFirstFault fault bound f.given → P (kept_text text tss ys)
    → StopsUpTo keeps text fault ds es P
stops_up_to keeps text fault ds es tss ws ys bound P f u k held all cause first p = record {
  given = f.given;
  bound = bound;
  read = f.read;
  cause = cause;
  first = first;
  written = λ fss fronts. go fss (f.beyond fss fronts);
}
  where
    go : (fss : List (List Entry)) → GoBeyond ws tss fss
        → (zs : List Entry) × AreKeptUpTo keeps fss bound zs × P (kept_text text fss zs)
    go fss g = (
      ys,
      kept_up_to keeps tss fss ws ys bound g u k held all,
      subst P (sym (texts_same text fss tss ys (λ y h.
          holders_on ws y tss fss g (is_within ws y ((k.members y).0 h).0)))) p,
    )

first_of_fewer : (fault : JoinFault) (bound ws : List Entry) (given : List (List ℕ))
    → ((e : Entry) → Has bound e → Has ws e) → IsFirstFault fault ws given → IsFirstFault fault bound given
first_of_fewer (Archive input fault) bound ws given fewer first = fewer_first input bound ws given fewer first
first_of_fewer (Read input) bound ws given fewer first = fewer_first input bound ws given fewer first
first_of_fewer (Endless input) bound ws given fewer first = fewer_first input bound ws given fewer first
first_of_fewer (Write sent) bound ws given fewer first = tt
first_of_fewer Memory bound ws given fewer first = tt

-- of an input, as the next entries are read
pub halted_at : (keeps : List Bool → Type 0) (text : List Bool → Entry → List ℕ) (fault : JoinFault)
    (ds es : List InputState) (tss : List (List Entry)) (ws : List Entry) (held : Held) (count : ℕ)
    (start now : Option (List ℕ)) → ((text : List ℕ) → Carries start now held text → IsUnderWay fault held start now text)
    → Halting fault ds es tss ws → Collects keeps text tss ws held count start now
    → Halted keeps text fault held ds es start now
halted_at keeps text fault ds es tss ws held count start now back h c =
    stops_up_to keeps text fault ds es tss ws c.ys h.bound (IsUnderWay fault held start now) h.further c.union c.kept
    h.bound_held h.all_within h.cause
    (first_of_fewer fault h.bound ws h.further.given (λ e has. (c.union.members e).1 (h.bound_held e has)) h.first)
    (back (kept_text text tss c.ys) c.carries)

pub standing_further : (hs : List Head) (bs : List Bool) (ds es : List InputState) (tss : List (List Entry))
    (ws : List Entry) → Standing hs bs ds es tss ws → AreFurther ds es tss ws
standing_further hs bs ds es tss ws st =
    are_further ds es tss ws st.sides st.befores st.nows st.joined
    (all_weaker (IsPlaced ws) (IsFurtherSide ws) (side_further ws) st.sides st.placed)

-- of the writer
pub writer_stops : (keeps : List Bool → Type 0) (text : List Bool → Entry → List ℕ) (sent : ℕ) (hs : List Head)
    (bs : List Bool) (ds es : List InputState) (tss : List (List Entry)) (ws ys : List Entry) (P : List ℕ → Type 0)
    → Standing hs bs ds es tss ws → IsUnionOf tss ws → IsSelection (λ (e : Entry). keeps (holders tss e)) ws ys
    → P (kept_text text tss ys) → StopsUpTo keeps text (Write sent) ds es P
writer_stops keeps text sent hs bs ds es tss ws ys P st u k p =
    stops_up_to keeps text (Write sent) ds es tss ws ys ws P (standing_further hs bs ds es tss ws st) u k
    (λ e h. (u.members e).0 h) (is_within ws) tt tt p

-- at the end of all
pub stopped_end : (keeps : List Bool → Type 0) (text : List Bool → Entry → List ℕ) (j : Join) (sent : ℕ)
    (ds es : List InputState) (start now after : Option (List ℕ))
    → ((text : List ℕ) → Carries start now j.held text → StopsWithin start after text sent)
    → Joining keeps text j ds es start now → Stopped keeps text (Write sent) ds es start after
stopped_end keeps text j sent ds es start now after stops g =
    writer_stops keeps text sent j.heads.items j.holders.items ds es g.tss g.ws g.collects.ys
    (λ (t : List ℕ). StopsWithin start after t sent) g.standing g.collects.union g.collects.kept
    (stops (kept_text text g.tss g.collects.ys) g.collects.carries)

-- the rest is written before a fault is told
pub stopped_then : (keeps : List Bool → Type 0) (text : List Bool → Entry → List ℕ) (fault : JoinFault)
    (ds es : List InputState) (P Q : List ℕ → Type 0) → ((t : List ℕ) → P t → Q t)
    → StopsUpTo keeps text fault ds es P → StopsUpTo keeps text fault ds es Q
stopped_then keeps text fault ds es P Q then h = record {
  given = h.given;
  bound = h.bound;
  read = h.read;
  cause = h.cause;
  first = h.first;
  written = λ fss fronts. let w = h.written fss fronts in (w.0, w.1, then (kept_text text fss w.0) w.2);
}

-- or the writer fails then
pub stopped_before : (keeps : List Bool → Type 0) (text : List Bool → Entry → List ℕ) (fault : JoinFault) (sent : ℕ)
    (ds es : List InputState) (P Q : List ℕ → Type 0) → ((t : List ℕ) → P t → Q t)
    → StopsUpTo keeps text fault ds es P → StopsUpTo keeps text (Write sent) ds es Q
stopped_before keeps text fault sent ds es P Q then h = record {
  given = h.given;
  bound = h.bound;
  read = h.read;
  cause = tt;
  first = tt;
  written = λ fss fronts. let w = h.written fss fronts in (w.0, w.1, then (kept_text text fss w.0) w.2);
}

-- ---- the end of all

whole_place : (closed due : Bool) (ws : List Entry) (s : ArchiveEntries) (d e : InputState) (ts : List Entry)
    → closed ≡ true → Place closed due ws s d e ts → Place true due ws s d e ts
whole_place true due ws s d e ts on p = p
whole_place false due ws s d e ts on p = absurd (true≢false (sym on))

all_whole : (ws : List Entry) (sides : List Side) → AllByRecursion (IsPlaced ws) sides
    → AreClosed (map (λ (s : Side). s.head) sides)
    → AreWhole (map (λ (s : Side). s.before) sides) (map (λ (s : Side). s.now) sides) (map (λ (s : Side). s.joined) sides)
all_whole ws [] placed closed = tt
all_whole ws (s ∷ sides) placed closed = (
  (whole_place s.head.closed s.due ws s.head.entries s.before s.now s.joined closed.0 placed.0).1,
  all_whole ws sides placed.1 closed.1,
)

standing_whole : (hs : List Head) (bs : List Bool) (ds es : List InputState) (tss : List (List Entry)) (ws : List Entry)
    → AreClosed hs → Standing hs bs ds es tss ws → AreWhole ds es tss
standing_whole hs bs ds es tss ws closed st =
    rw (st.befores, st.nows, st.joined) (all_whole ws st.sides st.placed (subst AreClosed st.heads closed))

pub joined_all : (keeps : List Bool → Type 0) (text : List Bool → Entry → List ℕ) (j : Join) (ds es : List InputState)
    (start now after : Option (List ℕ)) → AreClosed j.heads.items
    → ((text : List ℕ) → Carries start now j.held text → Appends start after text)
    → Joining keeps text j ds es start now → Joined keeps text ds es start after j.count
joined_all keeps text j ds es start now after closed whole g = record {
  xss = g.tss;
  ys = g.collects.ys;
  whole = standing_whole j.heads.items j.holders.items ds es g.tss g.ws closed g.standing;
  kept = record {
    ascending = g.collects.kept.ascending;
    members = λ e. (
      λ h. let k = (g.collects.kept.members e).0 h in ((g.collects.union.members e).0 k.0, k.1),
      λ h. (g.collects.kept.members e).1 ((g.collects.union.members e).1 h.0, h.1),
    );
  };
  written = whole (kept_text text g.tss g.collects.ys) g.collects.carries;
  count = g.collects.count_is;
}

-- ---- the start

new_place : (closed : Bool) (s : ArchiveEntries) (d : InputState) → closed ≡ false → Reads s d d []
    → Place closed true [] s d d []
new_place true s d off reads = absurd (true≢false off)
new_place false s d off reads = (reads, λ w h. absurd h)

abbrev nothing_of : Head → List Entry
nothing_of h = []

new_standing : (hs : List Head) (ds : List InputState) → AllByRecursion IsNew hs → length ds ≡ length hs
    → Standing hs (map (λ (h : Head). true) hs) ds ds (map nothing_of hs) []
new_standing [] [] new same = record {
  sides = [];
  heads = refl;
  due = refl;
  befores = refl;
  nows = refl;
  joined = refl;
  placed = tt;
}
new_standing [] (d ∷ ds) new same = absurd (omega (arith, same))
new_standing (h ∷ hs) [] new same = absurd (omega (arith, same))
new_standing (h ∷ hs) (d ∷ ds) new same =
    let rest = new_standing hs ds new.1 (omega (arith, same)) in
    let s : Side = record { head = h; due = true; before = d; now = d; joined = [] } in
    record {
      sides = s ∷ rest.sides;
      heads = ap (λ l. h ∷ l) rest.heads;
      due = ap (λ l. true ∷ l) rest.due;
      befores = ap (λ l. d ∷ l) rest.befores;
      nows = ap (λ l. d ∷ l) rest.nows;
      joined = ap (λ l. [] ∷ l) rest.joined;
      placed = (new_place h.closed h.entries d new.0.unclosed (new.0.none_read d), rest.placed);
    }

none_held : (hs : List Head) (e : Entry) → ¬ (IsHeld (map nothing_of hs) e)
none_held [] e h = h
none_held (x ∷ hs) e (inl h) = h
none_held (x ∷ hs) e (inr h) = none_held hs e h

pub joining_fresh : (keeps : List Bool → Type 0) (text : List Bool → Entry → List ℕ) (j : Join) (ds : List InputState)
    (start : Option (List ℕ)) → IsFresh j → length ds ≡ length j.heads.items → Joining keeps text j ds ds start start
joining_fresh keeps text j ds start fresh same = record {
  tss = map nothing_of j.heads.items;
  ws = [];
  standing = subst (λ (bs : List Bool). Standing j.heads.items bs ds ds (map nothing_of j.heads.items) [])
      (sym fresh.due) (new_standing j.heads.items ds fresh.heads same);
  collects = record {
    ys = [];
    union = record { ascending = tt; members = λ e. (λ h. absurd h, λ h. absurd (none_held j.heads.items e h)) };
    kept = record { ascending = tt; members = λ e. (λ h. absurd h, λ h. absurd h.0) };
    carries = Carries-new start j.held fresh.none_held;
    count_is = omega (arith, fresh.count);
  };
}

-- nothing was read or written
none_given : (ds : List InputState) → AreGiven ds ds (map (λ (d : InputState). []) ds)
none_given [] = tt
none_given (d ∷ ds) = (
  record {
    consumed = Consumes-nil d.left;
    few = record { calls = λ low. omega arith; octets = λ low. omega arith; ends = λ low. omega arith };
  },
  none_given ds,
)

pub stopped_none : (keeps : List Bool → Type 0) (text : List Bool → Entry → List ℕ) (ds : List InputState)
    (start : Option (List ℕ)) → Stopped keeps text Memory ds ds start start
stopped_none keeps text ds start = record {
  given = map (λ (d : InputState). []) ds;
  bound = [];
  read = none_given ds;
  cause = tt;
  first = tt;
  written = λ xss fronts. (
    [],
    record { ascending = tt; members = λ e. (λ h. absurd h, λ h. absurd h.1.1) },
    Appends-nil start,
  );
}
