-- Archives on their way into one, as their next entries are read.
use Rattle.std.proofs.Common.{◌≡◌, ◌∙◌, ℕ, ◌+◌, ◌<◌, ◌≤◌, Bool, true, false, List, [], ◌∷◌, ◌++◌, length, map, take}
use Rattle.std.proofs.Common.{drop, get_or, set, refl, sym, ap, subst, inl, inr, arith}
use Rattle.std.specs.List.{AllByRecursion, AllZip}
use Rattle.std.proofs.Common.{add-zero, drop-drop, drop-set-lt, eq-or-lt_of_le, get_or-drop}
use Rattle.std.specs.Prelude.{◌⊎◌}
use Rattle.std.proofs.lemmas.Bool.{false≢true}
use Rattle.std.proofs.lemmas.List.{get_or_default, length-map, map-append, set-get_or, take_at, take_more_set}
use Rattle.std.proofs.lemmas.List.Sums.{sum_by-set}
use Rattle.octet_devices.specs.Device.{InputState}
use Rattle.archive_text.specs.Entries.{Entry, Has}
use Rattle.archive_text.proofs.Members.{all_append, all_weaker}
use Rattle.archive_streams.specs.Entries.{IsCutShort}
use Rattle.archive_streams.specs.declared.fault.InputFault.TheVariants.{Device, Endless}
use Rattle.archive_streams.specs.declared.fault.SideFault.{SideFault}
use Rattle.archive_streams.specs.declared.fault.SideFault.TheVariants.{Archive, Input}
use Rattle.archive_join.specs.Heads.{Fails, IsAt, Moves, Place, fault_of, height, total}
use Rattle.archive_join.specs.Holders.{IsHeld}
use Rattle.archive_join.specs.Inputs.{IsCutAt, IsMetFirst}
use Rattle.archive_join.specs.Joined.{IsCauseIn, IsFirstFault}
use Rattle.archive_join.specs.Sides.{AdvanceHalts, Advances, AreIdle, IsPlaced, NearsAt, Side, Standing}
use Rattle.archive_join.specs.declared.head.Head.{Head}
use Rattle.archive_join.proofs.Fronts.{IsFurtherSide, Tells, further_by, further_cut, met_first, side_further}
use Rattle.archive_join.proofs.NextEntries.{one_at}
use Rattle.archive_join.proofs.Lists.{all_here, all_replaced, mapped_at, mapped_same, mapped_set, parted}

abbrev pub head_of : Side → Head
head_of s = s.head

abbrev pub due_of : Side → Bool
due_of s = s.due

abbrev pub before_of : Side → InputState
before_of s = s.before

abbrev pub now_of : Side → InputState
now_of s = s.now

abbrev pub joined_of : Side → List Entry
joined_of s = s.joined

-- a side whose next entry is due, in terms of what code knows of it
due_place : (ws : List Entry) (s : Side) (h : Head) (e : InputState) → h ≡ s.head → true ≡ s.due → e ≡ s.now
    → IsPlaced ws s → Place h.closed true ws h.entries s.before e s.joined
due_place ws s h e head due now p =
    subst (λ (x : Head). Place x.closed true ws x.entries s.before e s.joined) (sym head)
    (subst (λ (b : Bool). Place s.head.closed b ws s.head.entries s.before e s.joined) (sym due)
    (subst (λ (x : InputState). Place s.head.closed s.due ws s.head.entries s.before x s.joined) (sym now) p))

-- the next entry of one archive is read
pub advanced : (hs : List Head) (bs : List Bool) (es : List InputState) (at : ℕ) (h k : Head) (e f : InputState)
    → at < length hs → at < length bs → IsAt hs at h → get_or bs at false ≡ true → e ≡ get_or es at e → Moves h k e f
    → Advances hs bs (set hs at k) (set bs at false) es (set es at f)
advanced hs bs es at h k e f within also is due here moves ds tss ws st =
    let few : at < length st.sides = omega (arith, within, ap length st.heads, length-map st.sides head_of) in
    let p = parted st.sides at few in
    let s = p.here in
    let heads = st.heads ∙ ap (map head_of) p.parts in
    let dues = st.due ∙ ap (map due_of) p.parts in
    let nows = st.nows ∙ ap (map now_of) p.parts in
    let all = subst (AllByRecursion (IsPlaced ws)) p.parts st.placed in
    let place = due_place ws s h e (mapped_at head_of hs p.front p.back s h at heads p.size is)
    (mapped_at due_of bs p.front p.back s true at dues p.size (sym due ∙ get_or_default bs at false true also))
    (mapped_at now_of es p.front p.back s e at nows p.size here) (all_here (IsPlaced ws) p.front p.back s all) in
    let z : Side = record { head = k; due = false; before = s.before; now = f; joined = s.joined } in
    record {
      sides = p.front ++ z ∷ p.back;
      heads = mapped_set head_of hs p.front p.back s z k at heads p.size refl;
      due = mapped_set due_of bs p.front p.back s z false at dues p.size refl;
      befores = mapped_same before_of ds p.front p.back s z (st.befores ∙ ap (map before_of) p.parts) refl;
      nows = mapped_set now_of es p.front p.back s z f at nows p.size refl;
      joined = mapped_same joined_of tss p.front p.back s z (st.joined ∙ ap (map joined_of) p.parts) refl;
      placed = all_replaced (IsPlaced ws) p.front p.back s z all (moves s.before s.joined ws place);
    }

-- none of it is due
pub advanced_not : (hs : List Head) (bs : List Bool) (es : List InputState) (at : ℕ) → get_or bs at false ≡ false
    → Advances hs bs hs (set bs at false) es es
advanced_not hs bs es at off ds tss ws st =
    subst (λ (l : List Bool). Standing hs l ds es tss ws)
    (sym (ap (λ (b : Bool). set bs at b) (sym off) ∙ set-get_or bs at false)) st

-- ---- or there is none

cut_at : (fault : SideFault) (front back : List Side) (z : Side) → IsCutShort fault z.before z.now z.joined
    → IsCutAt fault (length front) (map before_of (front ++ z ∷ back)) (map now_of (front ++ z ∷ back)) z.joined
cut_at fault [] back z cut = cut
cut_at fault (s ∷ front) back z cut = cut_at fault front back z cut

cause_of : (fault : SideFault) (at : ℕ) (ds es : List InputState) (xs : List Entry) → IsCutAt fault at ds es xs
    → IsCauseIn (fault_of at fault) ds es xs
cause_of (Archive fault) at ds es xs cut = cut
cause_of (Input Device) at ds es xs cut = cut
cause_of (Input Endless) at ds es xs cut = cut

held_here : (front back : List Side) (z : Side) (x : Entry) → Has z.joined x
    → IsHeld (map joined_of (front ++ z ∷ back)) x
held_here [] back z x h = inl h
held_here (s ∷ front) back z x h = inr (held_here front back z x h)

-- the fault is met first, where nothing before it is due
first_of : (fault : SideFault) (at : ℕ) (ws : List Entry) (given : List (List ℕ)) → IsMetFirst at ws given
    → IsFirstFault (fault_of at fault) ws given
first_of (Archive fault) at ws given first = first
first_of (Input Device) at ws given first = first
first_of (Input Endless) at ws given first = first

first_at : (bs : List Bool) (at : ℕ) (front back : List Side) (s z : Side) (ws : List Entry) (given : List (List ℕ))
    → AreIdle (take at bs) → bs ≡ map due_of (front ++ s ∷ back) → length front ≡ at
    → AllZip (Tells ws) (map due_of (front ++ z ∷ back)) given → IsMetFirst at ws given
first_at bs at front back s z ws given idle dues size told =
    let flags : length (map due_of front) ≡ at = length-map front due_of ∙ size in
    let before : take at bs ≡ map due_of front =
    ap (take at) (dues ∙ map-append due_of front (s ∷ back)) ∙ take_at (map due_of front) (map due_of (s ∷ back)) at flags
    in
    subst (λ (n : ℕ). IsMetFirst n ws given) flags
    (met_first ws (map due_of front) (map due_of back) z.due given (subst AreIdle before idle)
    (subst (λ (l : List Bool). AllZip (Tells ws) l given) (map-append due_of front (z ∷ back)) told))

pub advance_halts : (hs : List Head) (bs : List Bool) (es : List InputState) (at : ℕ) (h : Head) (e f : InputState)
    (fault : SideFault) → at < length hs → at < length bs → AreIdle (take at bs) → IsAt hs at h
    → get_or bs at false ≡ true → e ≡ get_or es at e → Fails fault h e f
    → AdvanceHalts (fault_of at fault) hs bs es (set es at f)
advance_halts hs bs es at h e f fault within also idle is due here fails ds tss ws st =
    let few : at < length st.sides = omega (arith, within, ap length st.heads, length-map st.sides head_of) in
    let p = parted st.sides at few in
    let s = p.here in
    let heads = st.heads ∙ ap (map head_of) p.parts in
    let dues = st.due ∙ ap (map due_of) p.parts in
    let nows = st.nows ∙ ap (map now_of) p.parts in
    let all = subst (AllByRecursion (IsPlaced ws)) p.parts st.placed in
    let place = due_place ws s h e (mapped_at head_of hs p.front p.back s h at heads p.size is)
    (mapped_at due_of bs p.front p.back s true at dues p.size (sym due ∙ get_or_default bs at false true also))
    (mapped_at now_of es p.front p.back s e at nows p.size here) (all_here (IsPlaced ws) p.front p.back s all) in
    let cut = fails s.before s.joined ws place in
    let z : Side = record { head = s.head; due = true; before = s.before; now = f; joined = s.joined } in
    let befores = mapped_same before_of ds p.front p.back s z (st.befores ∙ ap (map before_of) p.parts) refl in
    let after = mapped_set now_of es p.front p.back s z f at nows p.size refl in
    let joined = mapped_same joined_of tss p.front p.back s z (st.joined ∙ ap (map joined_of) p.parts) refl in
    let far = further_by ds (set es at f) tss ws (p.front ++ z ∷ p.back) befores after joined
    (all_replaced (IsFurtherSide ws) p.front p.back s z
    (all_weaker (IsPlaced ws) (IsFurtherSide ws) (side_further ws) (p.front ++ s ∷ p.back) all)
    (further_cut fault ws s.before f s.joined cut.0 cut.1)) in
    record {
      further = far.0;
      bound = s.joined;
      cause = cause_of fault at ds (set es at f) s.joined
          (subst (λ (l : List InputState). IsCutAt fault at l (set es at f) s.joined) (sym befores)
          (subst (λ (l : List InputState). IsCutAt fault at (map before_of (p.front ++ z ∷ p.back)) l s.joined) (sym after)
          (subst (λ (n : ℕ). IsCutAt fault n (map before_of (p.front ++ z ∷ p.back))
          (map now_of (p.front ++ z ∷ p.back)) s.joined) p.size (cut_at fault p.front p.back z cut.0))));
      first = first_of fault at ws far.0.given
          (first_at bs at p.front p.back s z ws far.0.given idle dues p.size far.1);
      bound_held = λ x has. subst (λ (l : List (List Entry)). IsHeld l x) (sym joined)
          (held_here p.front p.back z x has);
      all_within = cut.1;
    }

-- ---- what is due no more

pub idle_more : (bs : List Bool) (at : ℕ) → at < length bs → AreIdle (take at bs) → AreIdle (take (at + 1) (set bs at false))
idle_more bs at within all =
    subst AreIdle (sym (take_more_set bs at false within))
    (all_append (λ (b : Bool). b ≡ false) (take at bs) (false ∷ []) all (refl, tt))

-- ---- nearer to the ends

same_at : (hs ls : List Head) (at : ℕ) (h : Head) → drop at ls ≡ drop at hs → IsAt hs at h → IsAt ls at h
same_at hs ls at h same is =
    is ∙ ap (λ (n : ℕ). get_or hs n h) (sym (add-zero at)) ∙ sym (get_or-drop at hs 0 h)
    ∙ ap (λ (l : List Head). get_or l 0 h) (sym same) ∙ get_or-drop at ls 0 h
    ∙ ap (λ (n : ℕ). get_or ls n h) (add-zero at)

same_flag : (bs cs : List Bool) (at : ℕ) → drop at cs ≡ drop at bs → get_or bs at false ≡ true → get_or cs at false ≡ true
same_flag bs cs at same on =
    ap (λ (n : ℕ). get_or cs n false) (sym (add-zero at)) ∙ sym (get_or-drop at cs 0 false)
    ∙ ap (λ (l : List Bool). get_or l 0 false) same ∙ get_or-drop at bs 0 false
    ∙ ap (λ (n : ℕ). get_or bs n false) (add-zero at) ∙ on

pub nearer_more : (hs ls ks : List Head) (bs cs : List Bool) (at : ℕ) → drop at ls ≡ drop at hs
    → drop at cs ≡ drop at bs → total ls ≤ total hs
    → ((k : ℕ) (h : Head) → k < at → IsAt hs k h → h.closed ≡ false → get_or bs k false ≡ true → total ls < total hs)
    → NearsAt ls cs ks at → (k : ℕ) (h : Head) → k < at + 1 → IsAt hs k h → h.closed ≡ false → get_or bs k false ≡ true
    → total ks < total hs
nearer_more hs ls ks bs cs at heads flags few before near k h low is off on = go (eq-or-lt_of_le (omega arith))
  where
    go : (k ≡ at) ⊎ (k < at) → total ks < total hs
    go (inr early) = omega (arith, near.no_farther, before k h early is off on)
    go (inl here) =
        omega (
          arith,
          few,
          near.nearer h (same_at hs ls at h heads (subst (λ (n : ℕ). IsAt hs n h) here is)) off
              (same_flag bs cs at flags (subst (λ (n : ℕ). get_or bs n false ≡ true) here on)),
        )

-- what lies behind
pub behind_more : {X : Type 0} (xs ys : List X) (at : ℕ) → drop at xs ≡ drop at ys → drop (at + 1) xs ≡ drop (at + 1) ys
behind_more xs ys at same = sym (drop-drop 1 at xs) ∙ ap (λ l. drop 1 l) same ∙ drop-drop 1 at ys

-- one archive is nearer, where its head is
pub near_at : (hs : List Head) (bs : List Bool) (at : ℕ) (h k : Head) → at < length hs → IsAt hs at h
    → height k ≤ height h → (h.closed ≡ false → height k < height h) → NearsAt hs bs (set hs at k) at
near_at hs bs at h k within is few less = record {
  no_farther = omega (arith, few, sum_by-set height hs at k h within, ap height is);
  nearer = λ x also off on.
      let same : h ≡ x = one_at hs at h x within is also in
      omega (
        arith,
        less (ap (λ (y : Head). y.closed) same ∙ off),
        sum_by-set height hs at k h within,
        ap height is,
      );
  others = drop-set-lt (at + 1) hs at k (omega arith);
}

pub near_not : (hs : List Head) (bs : List Bool) (at : ℕ) → get_or bs at false ≡ false → NearsAt hs bs hs at
near_not hs bs at off = record {
  no_farther = omega arith;
  nearer = λ x also unclosed on. absurd (false≢true (sym off ∙ on));
  others = refl;
}

-- a flag that was read
pub flag_at : (bs : List Bool) (at : ℕ) (b v : Bool) → at < length bs → b ≡ get_or bs at b → b ≡ v → get_or bs at false ≡ v
flag_at bs at b v within is on = get_or_default bs at false b within ∙ sym is ∙ on
