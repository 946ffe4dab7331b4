-- The fronts of inputs, behind what was joined of them.
use Rattle.std.proofs.Common.{◌≡◌, ◌∙◌, ℕ, zero, suc, Bool, true, false, List, [], ◌∷◌, ◌++◌, length, map, refl, sym, ap, subst, inl, inr, arith}
use Rattle.std.proofs.Common.{append_assoc, append-nil, true≢false}
use Rattle.std.specs.Prelude.{◌⊎◌}
use Rattle.std.specs.List.{AllByRecursion, AllZip}
use Rattle.octet_devices.specs.Device.{InputState}
use Rattle.archive_text.specs.Entries.{Entry, Has, IsAscending, IsBelow}
use Rattle.archive_text.specs.Faults.{IsLongestArchive}
use Rattle.archive_text.specs.Text.{text_of}
use Rattle.archive_text.specs.declared.limits.TheConstants.{ENTRY_MAX}
use Rattle.archive_text.proofs.Ascending.{ascending_across}
use Rattle.archive_text.proofs.Members.{has_either, has_left, has_right}
use Rattle.archive_text.proofs.Prefixes.{archive_has_no_fault, longest_whole, one_longest, front_goes_on}
use Rattle.archive_streams.specs.Entries.{current, IsBegun, IsCutShort, IsWhole}
use Rattle.archive_streams.specs.Joining.{IsWithin}
use Rattle.archive_streams.specs.Pieces.{HasFewLargeCalls}
use Rattle.std.specs.Io.KnownBytes.{Consumes}
use Rattle.archive_streams.specs.declared.entries.ArchiveEntries.{ArchiveEntries}
use Rattle.archive_streams.specs.declared.fault.SideFault.{SideFault}
use Rattle.archive_streams.proofs.EntrySteps.{begun}
use Rattle.archive_join.specs.Heads.{Place}
use Rattle.archive_join.specs.Inputs.{IsMetFirst, MayBeFront, MayBeFronts, ReachesAsFar, ReachesFarther}
use Rattle.archive_join.specs.Sides.{AreFurther, AreIdle, GoBeyond, GoesBeyond, IsPlaced, Side}
use Rattle.archive_streams.proofs.Joining.{within_below}

-- what was given of one input, and its fronts
pub record IsFurther (due : Bool) (ws : List Entry) (d e : InputState) (ts : List Entry) : Type 0 where
  pub given : List ℕ
  pub consumed : Consumes d.left e.left given
  pub few : HasFewLargeCalls d e given
  pub beyond : (fs : List Entry) → MayBeFront e given fs → GoesBeyond ws ts fs
  pub as_far : ReachesAsFar ws given
  pub farther : due ≡ false → ReachesFarther ws given

-- of an input `es` were read, of which `ts` were joined
further_begun : (due : Bool) (ws : List Entry) (d e : InputState) (ts ahead es : List Entry) → es ≡ ts ++ ahead → IsBegun d e es
    → ((w : Entry) → Has ws w → IsWithin es w) → ((x w : Entry) → Has ahead x → Has ws w → IsBelow w x)
    → (due ≡ false → (m : Entry) × Has es m × ((w : Entry) → Has ws w → IsBelow w m)) → IsFurther due ws d e ts
further_begun due ws d e ts ahead es split b within above next = record {
  given = b.given;
  consumed = b.consumed;
  few = b.few;
  beyond = λ fs front. go fs front.0 front.1 front.3;
  as_far = λ fault fs rest wrong f w h. as_far fs rest f w (within w h);
  farther = λ idle fault fs rest wrong f. farther fs rest f (next idle);
}
  where
    as_far : (fs : List Entry) (rest : List ℕ) → IsLongestArchive ENTRY_MAX b.given fs rest → (w : Entry) → IsWithin es w
        → IsWithin fs w
    as_far fs rest f w (m, has, below) =
        let on = front_goes_on b.given b.rest rest es fs b.archive b.parts f in
        (m, subst (λ (l : List Entry). Has l m) (sym on.1) (has_left es on.0 m has), below)

    farther : (fs : List Entry) (rest : List ℕ) → IsLongestArchive ENTRY_MAX b.given fs rest
        → (m : Entry) × Has es m × ((w : Entry) → Has ws w → IsBelow w m)
        → (m : Entry) × Has fs m × ((w : Entry) → Has ws w → IsBelow w m)
    farther fs rest f (m, has, over) =
        let on = front_goes_on b.given b.rest rest es fs b.archive b.parts f in
        (m, subst (λ (l : List Entry). Has l m) (sym on.1) (has_left es on.0 m has), over)

    go : (fs : List Entry) (more rest : List ℕ) → IsLongestArchive ENTRY_MAX (b.given ++ more) fs rest
        → GoesBeyond ws ts fs
    go fs more rest f =
        let on = front_goes_on (b.given ++ more) (b.rest ++ more) rest es fs b.archive
        (ap (λ (t : List ℕ). t ++ more) b.parts ∙ append_assoc (text_of es) b.rest more) f in
        let up : IsAscending (es ++ on.0) = subst IsAscending on.1 f.archive.ascending in (
          ahead ++ on.0,
          on.1 ∙ ap (λ (l : List Entry). l ++ on.0) split ∙ append_assoc ts ahead on.0,
          λ x w h k. later on.0 up x w k (has_either ahead on.0 x h),
        )
      where
        later : (gs : List Entry) → IsAscending (es ++ gs) → (x w : Entry) → Has ws w → Has ahead x ⊎ Has gs x
            → IsBelow w x
        later gs up x w k (inl early) = above x w early k
        later gs up x w k (inr late) =
            within_below es w x (within w k) (λ m has. ascending_across es gs m x up has late)

-- it was read to its end
pub further_whole : (due : Bool) (ws : List Entry) (d e : InputState) (ts : List Entry) → IsWhole d e ts
    → IsFurther due ws d e ts
further_whole due ws d e ts w = record {
  given = text_of ts;
  consumed = w.consumed;
  few = w.few;
  beyond = λ fs front. go fs front.0 front.1 (front.2 w.none_left) front.3;
  as_far = λ fault fs rest wrong f v h. absurd (archive_has_no_fault ENTRY_MAX ts fault w.archive wrong);
  farther = λ idle fault fs rest wrong f. absurd (archive_has_no_fault ENTRY_MAX ts fault w.archive wrong);
}
  where
    go : (fs : List Entry) (more rest : List ℕ) → more ≡ []
        → IsLongestArchive ENTRY_MAX (text_of ts ++ more) fs rest → GoesBeyond ws ts fs
    go fs more rest none f =
        let all : text_of ts ++ more ≡ text_of ts =
        ap (λ (t : List ℕ). text_of ts ++ t) none ∙ append-nil (text_of ts) in
        let same = one_longest ENTRY_MAX (text_of ts) fs ts rest [] (omega arith)
        (subst (λ (t : List ℕ). IsLongestArchive ENTRY_MAX t fs rest) all f)
        (longest_whole ENTRY_MAX (text_of ts) ts (omega arith) w.archive refl) in
        ([], same.0 ∙ sym (append-nil ts), λ x v h k. absurd h)

-- no entry comes next, and all of its front is joined
pub further_cut : (fault : SideFault) (ws : List Entry) (d e : InputState) (ts : List Entry) → IsCutShort fault d e ts
    → ((w : Entry) → Has ws w → IsWithin ts w) → IsFurther true ws d e ts
further_cut fault ws d e ts c within =
    further_begun true ws d e ts [] ts (sym (append-nil ts)) (record {
      given = c.given;
      rest = c.rest;
      consumed = c.consumed;
      parts = c.front.parts;
      archive = c.front.archive;
      few = c.few;
      short = c.short;
    }) within (λ x w h k. absurd h) (λ idle. absurd (true≢false idle))

-- wherever it stands
pub further_placed : (closed due : Bool) (ws : List Entry) (s : ArchiveEntries) (d e : InputState) (ts : List Entry)
    → Place closed due ws s d e ts → IsFurther due ws d e ts
further_placed true due ws s d e ts p = further_whole due ws d e ts p.1
further_placed false true ws s d e ts p =
    further_begun true ws d e ts [] ts (sym (append-nil ts)) (begun s d e ts p.0) p.1
    (λ x w h k. absurd h) (λ idle. absurd (true≢false idle))
further_placed false false ws s d e ts p =
    further_begun false ws d e ts (current s ∷ []) (ts ++ current s ∷ []) refl
    (begun s d e (ts ++ current s ∷ []) p.0)
    (λ w k. (current s, has_right ts (current s ∷ []) (current s) (inl refl), inr (p.1 w k)))
    (λ x w h k. alone x w h (p.1 w k))
    (λ idle. (current s, has_right ts (current s ∷ []) (current s) (inl refl), p.1))
  where
    alone : (x w : Entry) → Has (current s ∷ []) x → IsBelow w (current s) → IsBelow w x
    alone x w (inl same) below = subst (IsBelow w) same below
    alone x w (inr none) below = absurd none

-- ---- of all inputs

abbrev pub IsFurtherSide : List Entry → Side → Type 0
IsFurtherSide ws s = IsFurther s.due ws s.before s.now s.joined

no_fronts : (ws : List Entry) (fss : List (List Entry)) → MayBeFronts [] [] fss → GoBeyond ws [] fss
no_fronts ws [] h = tt
no_fronts ws (fs ∷ fss) h = absurd h

more_fronts : (ws ts : List Entry) (e : InputState) (given : List ℕ) (es : List InputState) (all : List (List ℕ))
    (tss fss : List (List Entry)) → ((fs : List Entry) → MayBeFront e given fs → GoesBeyond ws ts fs)
    → ((gss : List (List Entry)) → MayBeFronts es all gss → GoBeyond ws tss gss)
    → MayBeFronts (e ∷ es) (given ∷ all) fss → GoBeyond ws (ts ∷ tss) fss
more_fronts ws ts e given es all tss [] one more h = absurd h
more_fronts ws ts e given es all tss (fs ∷ fss) one more h = (one fs h.0, more fss h.1)

-- what the flags tell of what was given
abbrev pub Tells : List Entry → Bool → List ℕ → Type 0
Tells ws due given = (due ≡ false → ReachesFarther ws given) × ReachesAsFar ws given

abbrev pub AreFurtherBy : List Bool → List InputState → List InputState → List (List Entry) → List Entry → Type 0
AreFurtherBy bs ds es tss ws = (f : AreFurther ds es tss ws) × AllZip (Tells ws) bs f.given

abbrev due_in : List Side → List Bool
due_in sides = map (λ (s : Side). s.due) sides

all_further : (ws : List Entry) (sides : List Side) → AllByRecursion (IsFurtherSide ws) sides
    → AreFurtherBy (due_in sides) (map (λ (s : Side). s.before) sides) (map (λ (s : Side). s.now) sides)
    (map (λ (s : Side). s.joined) sides) ws
all_further ws [] all = (record { given = []; read = tt; beyond = no_fronts ws }, tt)
all_further ws (s ∷ sides) all =
    let rest = all_further ws sides all.1 in (
      record {
        given = all.0.given ∷ rest.0.given;
        read = (record { consumed = all.0.consumed; few = all.0.few }, rest.0.read);
        beyond = λ fss.
            more_fronts ws s.joined s.now all.0.given (map (λ (t : Side). t.now) sides) rest.0.given
            (map (λ (t : Side). t.joined) sides) fss all.0.beyond rest.0.beyond;
      },
      ((all.0.farther, all.0.as_far), rest.1),
    )

pub further_by : (ds es : List InputState) (tss : List (List Entry)) (ws : List Entry) (sides : List Side)
    → ds ≡ map (λ (s : Side). s.before) sides → es ≡ map (λ (s : Side). s.now) sides
    → tss ≡ map (λ (s : Side). s.joined) sides → AllByRecursion (IsFurtherSide ws) sides
    → AreFurtherBy (due_in sides) ds es tss ws
further_by ds es tss ws sides befores nows joined all =
    subst (λ (l : List InputState). AreFurtherBy (due_in sides) l es tss ws) (sym befores)
    (subst (λ (l : List InputState). AreFurtherBy (due_in sides) (map (λ (s : Side). s.before) sides) l tss ws) (sym nows)
    (subst (λ (l : List (List Entry)). AreFurtherBy (due_in sides) (map (λ (s : Side). s.before) sides)
    (map (λ (s : Side). s.now) sides) l ws) (sym joined) (all_further ws sides all)))

pub are_further : (ds es : List InputState) (tss : List (List Entry)) (ws : List Entry) (sides : List Side)
    → ds ≡ map (λ (s : Side). s.before) sides → es ≡ map (λ (s : Side). s.now) sides
    → tss ≡ map (λ (s : Side). s.joined) sides → AllByRecursion (IsFurtherSide ws) sides → AreFurther ds es tss ws
are_further ds es tss ws sides befores nows joined all = (further_by ds es tss ws sides befores nows joined all).0

pub side_further : (ws : List Entry) (s : Side) → IsPlaced ws s → IsFurtherSide ws s
side_further ws s p = further_placed s.head.closed s.due ws s.head.entries s.before s.now s.joined p

-- ---- which fault is met first

all_as_far : (ws : List Entry) (bs : List Bool) (given : List (List ℕ)) → AllZip (Tells ws) bs given
    → AllByRecursion (ReachesAsFar ws) given
all_as_far ws [] [] told = tt
all_as_far ws [] (x ∷ given) told = absurd told
all_as_far ws (b ∷ bs) [] told = absurd told
all_as_far ws (b ∷ bs) (x ∷ given) told = (told.0.1, all_as_far ws bs given told.1)

pub met_first : (ws : List Entry) (front back : List Bool) (b : Bool) (given : List (List ℕ)) → AreIdle front
    → AllZip (Tells ws) (front ++ b ∷ back) given → IsMetFirst (length front) ws given
met_first ws [] back b [] idle told = absurd told
met_first ws [] back b (x ∷ given) idle told = all_as_far ws back given told.1
met_first ws (f ∷ front) back b [] idle told = absurd told
met_first ws (f ∷ front) back b (x ∷ given) idle told =
    (told.0.0 idle.0, met_first ws front back b given idle.1 told.1)

-- of fewer entries too
fewer_as_far : (bound ws : List Entry) (x : List ℕ) → ((e : Entry) → Has bound e → Has ws e) → ReachesAsFar ws x
    → ReachesAsFar bound x
fewer_as_far bound ws x fewer far fault fs rest wrong f w h = far fault fs rest wrong f w (fewer w h)

fewer_all : (bound ws : List Entry) (given : List (List ℕ)) → ((e : Entry) → Has bound e → Has ws e)
    → AllByRecursion (ReachesAsFar ws) given → AllByRecursion (ReachesAsFar bound) given
fewer_all bound ws [] fewer all = tt
fewer_all bound ws (x ∷ given) fewer all =
    (fewer_as_far bound ws x fewer all.0, fewer_all bound ws given fewer all.1)

pub fewer_first : (input : ℕ) (bound ws : List Entry) (given : List (List ℕ)) → ((e : Entry) → Has bound e → Has ws e)
    → IsMetFirst input ws given → IsMetFirst input bound given
fewer_first input bound ws [] fewer first = absurd first
fewer_first zero bound ws (x ∷ given) fewer first = fewer_all bound ws given fewer first
fewer_first (suc input) bound ws (x ∷ given) fewer first = (
  λ fault fs rest wrong f. let m = first.0 fault fs rest wrong f in (m.0, m.1, λ w h. m.2 w (fewer w h)),
  fewer_first input bound ws given fewer first.1,
)
