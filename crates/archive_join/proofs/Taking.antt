-- The least of the next entries is joined.
use Rattle.std.proofs.Common.{◌≡◌, ◌∙◌, ℕ, ◌+◌, ◌<◌, Bool, true, false, not, ◌&&◌, List, [], ◌∷◌, ◌++◌, length, map, refl, sym, ap, subst, inl, inr, arith}
use Rattle.std.proofs.Common.{Option, append-nil, true≢false}
use Rattle.std.specs.Prelude.{◌⊎◌, if◌then◌else◌}
use Rattle.std.specs.List.{AllByRecursion}
use Rattle.std.proofs.lemmas.Grind.{flat_map-append}
use Rattle.std.proofs.lemmas.List.{length-append, length-map}
use Rattle.octet_devices.specs.Device.{InputState}
use Rattle.octet_devices.specs.Held.{Carries, Held, counted}
use Rattle.archive_text.specs.Entries.{Entry, Has, IsBelow}
use Rattle.archive_text.proofs.Ascending.{ascending_appended}
use Rattle.archive_text.proofs.Members.{has_either, has_left, has_right, of_all}
use Rattle.archive_text.proofs.Orders.{below_irreflexive}
use Rattle.archive_streams.specs.Entries.{current, Reads}
use Rattle.archive_streams.specs.declared.entries.ArchiveEntries.{ArchiveEntries}
use Rattle.archive_sets.specs.Selections.{IsSelection}
use Rattle.archive_sets.proofs.Selecting.{selection_passes, selection_takes}
use Rattle.archive_join.specs.Heads.{IsAt, IsLeast, IsNotAbove, Place, is_next}
use Rattle.archive_join.specs.Holders.{has_entry, holders, IsHeld, is_same, kept_text}
use Rattle.archive_join.specs.Joining.{Collects, IsUnionOf}
use Rattle.archive_join.specs.Sides.{AreIdle, IsPlaced, Side, Standing}
use Rattle.archive_join.specs.declared.head.Head.{Head}
use Rattle.archive_join.proofs.Holders.{has_decides, has_not, has_same, same_decides, texts_same}
use Rattle.archive_join.proofs.Lists.{all_here, mapped_at, parted}
use Rattle.archive_join.proofs.Sides.{before_of, due_of, head_of, joined_of, now_of}

-- ---- an archive

-- what is joined of it with an entry that may be its next one
abbrev grown : Bool → List Entry → Entry → List Entry
grown has ts e = if has then ts ++ e ∷ [] else ts

abbrev with_entry : Entry → Side → List Entry
with_entry e s = grown (is_next e s.head) s.joined e

abbrev taken : Entry → Side → Side
taken e s = record {
  head = s.head;
  due = is_next e s.head;
  before = s.before;
  now = s.now;
  joined = with_entry e s;
}

place_taken : (closed same : Bool) (ws ts : List Entry) (e : Entry) (s : ArchiveEntries) (d f : InputState)
    → (same ≡ true → current s ≡ e) → (current s ≡ e → same ≡ true) → Place closed false ws s d f ts
    → (closed ≡ false → (e ≡ current s) ⊎ IsBelow e (current s)) → ((w : Entry) → Has ws w → IsBelow w e)
    → Place closed (not closed && same) (ws ++ e ∷ []) s d f (grown (not closed && same) ts e)
place_taken true same ws ts e s d f is was p least above = (refl, p.1)
place_taken false true ws ts e s d f is was p least above = (
  subst (λ (x : Entry). Reads s d f (ts ++ x ∷ [])) (is refl) p.0,
  λ w h. (e, has_right ts (e ∷ []) e (inl refl), low w (has_either ws (e ∷ []) w h)),
)
  where
    low : (w : Entry) → Has ws w ⊎ Has (e ∷ []) w → (w ≡ e) ⊎ IsBelow w e
    low w (inl early) = inr (above w early)
    low w (inr (inl same)) = inl (sym same)
    low w (inr (inr none)) = absurd none
place_taken false false ws ts e s d f is was p least above = (p.0, λ w h. low w (has_either ws (e ∷ []) w h))
  where
    next : (e ≡ current s) ⊎ IsBelow e (current s) → IsBelow e (current s)
    next (inl same) = absurd (true≢false (sym (was (sym same))))
    next (inr below) = below

    low : (w : Entry) → Has ws w ⊎ Has (e ∷ []) w → IsBelow w (current s)
    low w (inl early) = p.1 w early
    low w (inr (inl same)) = subst (λ (x : Entry). IsBelow x (current s)) same (next (least refl))
    low w (inr (inr none)) = absurd none

side_taken : (ws : List Entry) (e : Entry) (s : Side) → IsPlaced ws s → s.due ≡ false → IsNotAbove e s.head
    → ((w : Entry) → Has ws w → IsBelow w e) → IsPlaced (ws ++ e ∷ []) (taken e s)
side_taken ws e s p idle least above =
    place_taken s.head.closed (is_same (current s.head.entries) e) ws s.joined e s.head.entries s.before s.now
    (same_decides (current s.head.entries) e).0 (same_decides (current s.head.entries) e).1
    (subst (λ (b : Bool). Place s.head.closed b ws s.head.entries s.before s.now s.joined) idle p) least above

-- ---- all of them

all_taken : (ws : List Entry) (e : Entry) (sides : List Side) → AllByRecursion (IsPlaced ws) sides
    → AreIdle (map due_of sides) → AllByRecursion (IsNotAbove e) (map head_of sides)
    → ((w : Entry) → Has ws w → IsBelow w e) → AllByRecursion (IsPlaced (ws ++ e ∷ [])) (map (taken e) sides)
all_taken ws e [] placed idle least above = tt
all_taken ws e (s ∷ sides) placed idle least above = (
  side_taken ws e s placed.0 idle.0 least.0 above,
  all_taken ws e sides placed.1 idle.1 least.1 above,
)

mapped_twice : {X Y Z : Type 0} (f : Y → Z) (g : X → Y) (xs : List X) → map f (map g xs) ≡ map (λ (x : X). f (g x)) xs
mapped_twice f g [] = refl
mapped_twice f g (x ∷ xs) = ap (λ l. f (g x) ∷ l) (mapped_twice f g xs)

-- what is joined of each then
abbrev joined_with : Entry → List Side → List (List Entry)
joined_with e sides = map (with_entry e) sides

grown_has : (has : Bool) (ts : List Entry) (e x : Entry) → Has ts x → Has (grown has ts e) x
grown_has true ts e x h = has_left ts (e ∷ []) x h
grown_has false ts e x h = h

grown_from : (has : Bool) (ts : List Entry) (e x : Entry) → Has (grown has ts e) x → (e ≡ x) ⊎ Has ts x
grown_from false ts e x h = inr h
grown_from true ts e x h = go (has_either ts (e ∷ []) x h)
  where
    go : Has ts x ⊎ Has (e ∷ []) x → (e ≡ x) ⊎ Has ts x
    go (inl early) = inr early
    go (inr (inl same)) = inl same
    go (inr (inr none)) = absurd none

held_still : (e x : Entry) (sides : List Side) → IsHeld (map joined_of sides) x → IsHeld (joined_with e sides) x
held_still e x [] h = absurd h
held_still e x (s ∷ sides) (inl h) = inl (grown_has (is_next e s.head) s.joined e x h)
held_still e x (s ∷ sides) (inr h) = inr (held_still e x sides h)

held_before : (e x : Entry) (sides : List Side) → IsHeld (joined_with e sides) x
    → (e ≡ x) ⊎ IsHeld (map joined_of sides) x
held_before e x [] h = absurd h
held_before e x (s ∷ sides) (inl h) = go (grown_from (is_next e s.head) s.joined e x h)
  where
    go : (e ≡ x) ⊎ Has s.joined x → (e ≡ x) ⊎ (Has s.joined x ⊎ IsHeld (map joined_of sides) x)
    go (inl same) = inl same
    go (inr early) = inr (inl early)
held_before e x (s ∷ sides) (inr h) = go (held_before e x sides h)
  where
    go : (e ≡ x) ⊎ IsHeld (map joined_of sides) x → (e ≡ x) ⊎ (Has s.joined x ⊎ IsHeld (map joined_of sides) x)
    go (inl same) = inl same
    go (inr early) = inr (inr early)

held_new : (e : Entry) (front back : List Side) (s : Side) → is_next e s.head ≡ true
    → IsHeld (joined_with e (front ++ s ∷ back)) e
held_new e [] back s on =
    inl (subst (λ (b : Bool). Has (grown b s.joined e) e) (sym on) (has_right s.joined (e ∷ []) e (inl refl)))
held_new e (t ∷ front) back s on = inr (held_new e front back s on)

union_grown : (ws : List Entry) (e : Entry) (sides : List Side) → IsUnionOf (map joined_of sides) ws
    → ((w : Entry) → Has ws w → IsBelow w e) → IsHeld (joined_with e sides) e
    → IsUnionOf (joined_with e sides) (ws ++ e ∷ [])
union_grown ws e sides u above new = record {
  ascending = ascending_appended ws e u.ascending (of_all (λ x. IsBelow x e) ws above);
  members = λ x. (λ h. there x (has_either ws (e ∷ []) x h), λ h. back x (held_before e x sides h));
}
  where
    there : (x : Entry) → Has ws x ⊎ Has (e ∷ []) x → IsHeld (joined_with e sides) x
    there x (inl early) = held_still e x sides ((u.members x).0 early)
    there x (inr (inl same)) = subst (IsHeld (joined_with e sides)) same new
    there x (inr (inr none)) = absurd none

    back : (x : Entry) → (e ≡ x) ⊎ IsHeld (map joined_of sides) x → Has (ws ++ e ∷ []) x
    back x (inl same) = has_right ws (e ∷ []) x (inl same)
    back x (inr early) = has_left ws (e ∷ []) x ((u.members x).1 early)

-- who has what was joined before
grown_old : (has : Bool) (ts : List Entry) (e w : Entry) → ¬ (e ≡ w) → has_entry (grown has ts e) w ≡ has_entry ts w
grown_old has ts e w other =
    has_same (grown has ts e) ts w (λ h. go (grown_from has ts e w h)) (grown_has has ts e w)
  where
    go : (e ≡ w) ⊎ Has ts w → Has ts w
    go (inl same) = absurd (other same)
    go (inr early) = early

holders_old : (e w : Entry) (sides : List Side) → ¬ (e ≡ w)
    → holders (joined_with e sides) w ≡ holders (map joined_of sides) w
holders_old e w [] other = refl
holders_old e w (s ∷ sides) other =
    rw (grown_old (is_next e s.head) s.joined e w other, holders_old e w sides other) refl

-- and who has the entry
grown_new : (has : Bool) (ts : List Entry) (e : Entry) → ¬ (Has ts e) → has_entry (grown has ts e) e ≡ has
grown_new true ts e none = (has_decides (ts ++ e ∷ []) e).1 (has_right ts (e ∷ []) e (inl refl))
grown_new false ts e none = has_not ts e none

holders_new : (e : Entry) (sides : List Side) → ¬ (IsHeld (map joined_of sides) e)
    → holders (joined_with e sides) e ≡ map (λ (s : Side). is_next e s.head) sides
holders_new e [] none = refl
holders_new e (s ∷ sides) none =
    rw (grown_new (is_next e s.head) s.joined e (λ h. none (inl h)), holders_new e sides (λ h. none (inr h))) refl

-- ---- the step

-- the archives go on behind an entry
pub record TakesEntry (hs : List Head) (ds es : List InputState) (tss : List (List Entry)) (ws : List Entry)
    (e : Entry) : Type 0 where
  pub grown_all : List (List Entry)
  pub standing : Standing hs (map (is_next e) hs) ds es grown_all (ws ++ e ∷ [])
  pub union : IsUnionOf tss ws → IsUnionOf grown_all (ws ++ e ∷ [])
  pub above : (w : Entry) → Has ws w → IsBelow w e
  pub old : (w : Entry) → Has ws w → holders grown_all w ≡ holders tss w
  pub new : IsUnionOf tss ws → holders grown_all e ≡ map (is_next e) hs

pub least_next : (hs : List Head) (least : ℕ) (h : Head) → IsLeast hs hs least → IsAt hs least h
    → is_next (current h.entries) h ≡ true
least_next hs least h is at = go h.closed (is_same (current h.entries) (current h.entries)) (is.unclosed h at)
    ((same_decides (current h.entries) (current h.entries)).1 refl)
  where
    go : (closed same : Bool) → closed ≡ false → same ≡ true → (not closed && same) ≡ true
    go true same off on = absurd (true≢false off)
    go false same off on = on

place_above : (closed due : Bool) (ws : List Entry) (s : ArchiveEntries) (d f : InputState) (ts : List Entry)
    → closed ≡ false → due ≡ false → Place closed due ws s d f ts → (w : Entry) → Has ws w → IsBelow w (current s)
place_above true due ws s d f ts off idle p w h = absurd (true≢false off)
place_above false true ws s d f ts off idle p w h = absurd (true≢false idle)
place_above false false ws s d f ts off idle p w h = p.1 w h

idle_here : (front back : List Side) (s : Side) → AreIdle (map due_of (front ++ s ∷ back)) → s.due ≡ false
idle_here [] back s idle = idle.0
idle_here (t ∷ front) back s idle = idle_here front back s idle.1

pub takes_entry : (hs : List Head) (bs : List Bool) (ds es : List InputState) (tss : List (List Entry))
    (ws : List Entry) (least : ℕ) (h : Head) → AreIdle bs → IsLeast hs hs least → IsAt hs least h
    → Standing hs bs ds es tss ws → TakesEntry hs ds es tss ws (current h.entries)
takes_entry hs bs ds es tss ws least h idle is at st =
    let e = current h.entries in
    let few : least < length st.sides = omega (arith, is.within, ap length st.heads, length-map st.sides head_of) in
    let p = parted st.sides least few in
    let s = p.here in
    let all_idle = subst AreIdle st.due idle in
    let here : h ≡ s.head = mapped_at head_of hs p.front p.back s h least (st.heads ∙ ap (map head_of) p.parts) p.size at
    in
    let still : s.due ≡ false = idle_here p.front p.back s
    (subst (λ (l : List Side). AreIdle (map due_of l)) p.parts all_idle) in
    let placed : IsPlaced ws s =
    all_here (IsPlaced ws) p.front p.back s (subst (AllByRecursion (IsPlaced ws)) p.parts st.placed) in
    let above : (w : Entry) → Has ws w → IsBelow w e =
    subst (λ (x : Head). (w : Entry) → Has ws w → IsBelow w (current x.entries)) (sym here)
    (place_above s.head.closed s.due ws s.head.entries s.before s.now s.joined
    (ap (λ (x : Head). x.closed) (sym here) ∙ is.unclosed h at) still placed) in
    let low : AllByRecursion (IsNotAbove e) (map head_of st.sides) =
    subst (AllByRecursion (IsNotAbove e)) st.heads (is.least h at) in
    let next : is_next e s.head ≡ true = subst (λ (x : Head). is_next e x ≡ true) here (least_next hs least h is at) in
    let flags : map (is_next e) hs ≡ map (λ (t : Side). is_next e t.head) st.sides =
    ap (map (is_next e)) st.heads ∙ mapped_twice (is_next e) head_of st.sides in
    let was : (x : Entry) → Has ws x → ¬ (e ≡ x) = λ x has same. below_irreflexive e
    (subst (λ (y : Entry). IsBelow y e) (sym same) (above x has)) in
    record {
      grown_all = joined_with e st.sides;
      standing = record {
        sides = map (taken e) st.sides;
        heads = st.heads ∙ sym (mapped_twice head_of (taken e) st.sides);
        due = flags ∙ sym (mapped_twice due_of (taken e) st.sides);
        befores = st.befores ∙ sym (mapped_twice before_of (taken e) st.sides);
        nows = st.nows ∙ sym (mapped_twice now_of (taken e) st.sides);
        joined = sym (mapped_twice joined_of (taken e) st.sides);
        placed = all_taken ws e st.sides st.placed all_idle low above;
      };
      union = λ u.
          union_grown ws e st.sides (subst (λ (l : List (List Entry)). IsUnionOf l ws) st.joined u) above
          (subst (λ (l : List Side). IsHeld (joined_with e l) e) (sym p.parts) (held_new e p.front p.back s next));
      above = above;
      old = λ w has. holders_old e w st.sides (was w has) ∙ ap (λ (l : List (List Entry)). holders l w) (sym st.joined);
      new = λ u.
          holders_new e st.sides (λ held. was e
          ((u.members e).1 (subst (λ (l : List (List Entry)). IsHeld l e) (sym st.joined) held)) refl) ∙ sym flags;
    }

-- ---- what is kept of it

-- of the entries before the same are kept
kept_still : (P Q : Entry → Type 0) (ws ys : List Entry) → ((w : Entry) → Has ws w → P w → Q w)
    → ((w : Entry) → Has ws w → Q w → P w) → IsSelection P ws ys → IsSelection Q ws ys
kept_still P Q ws ys there back s = record {
  ascending = s.ascending;
  members = λ x. (
    λ h. let k = (s.members x).0 h in (k.0, there x k.0 k.1),
    λ h. (s.members x).1 (h.0, back x h.0 h.1),
  );
}

text_push : (text : List Bool → Entry → List ℕ) (xss : List (List Entry)) (ys : List Entry) (e : Entry)
    → kept_text text xss (ys ++ e ∷ []) ≡ kept_text text xss ys ++ text (holders xss e) e
text_push text xss ys e =
    flat_map-append (λ (x : Entry). text (holders xss x) x) ys (e ∷ [])
    ∙ ap (λ (t : List ℕ). kept_text text xss ys ++ t) (append-nil (text (holders xss e) e))

still_kept : (keeps : List Bool → Type 0) (tss uss : List (List Entry)) (ws ys : List Entry)
    → ((w : Entry) → Has ws w → holders uss w ≡ holders tss w)
    → IsSelection (λ (e : Entry). keeps (holders tss e)) ws ys
    → IsSelection (λ (e : Entry). keeps (holders uss e)) ws ys
still_kept keeps tss uss ws ys old s =
    kept_still (λ (e : Entry). keeps (holders tss e)) (λ (e : Entry). keeps (holders uss e)) ws ys
    (λ w h k. subst keeps (sym (old w h)) k) (λ w h k. subst keeps (old w h) k) s

same_texts : (text : List Bool → Entry → List ℕ) (P : Entry → Type 0) (tss uss : List (List Entry))
    (ws ys : List Entry) → ((w : Entry) → Has ws w → holders uss w ≡ holders tss w) → IsSelection P ws ys
    → kept_text text uss ys ≡ kept_text text tss ys
same_texts text P tss uss ws ys old s = texts_same text uss tss ys (λ y h. old y ((s.members y).0 h).0)

-- it is not kept
pub passed_by : (keeps : List Bool → Type 0) (text : List Bool → Entry → List ℕ) (hs : List Head)
    (ds es : List InputState) (tss : List (List Entry)) (ws : List Entry) (e : Entry) (held : Held) (count : ℕ)
    (start now : Option (List ℕ)) → (t : TakesEntry hs ds es tss ws e) → ¬ (keeps (map (is_next e) hs))
    → Collects keeps text tss ws held count start now
    → Collects keeps text t.grown_all (ws ++ e ∷ []) held count start now
passed_by keeps text hs ds es tss ws e held count start now t fails c = record {
  ys = c.ys;
  union = t.union c.union;
  kept = selection_passes (λ (x : Entry). keeps (holders t.grown_all x)) ws c.ys e
      (still_kept keeps tss t.grown_all ws c.ys t.old c.kept) (λ k. fails (subst keeps (t.new c.union) k));
  carries = subst (Carries start now held)
      (sym (same_texts text (λ (x : Entry). keeps (holders tss x)) tss t.grown_all ws c.ys t.old c.kept)) c.carries;
  count_is = c.count_is;
}

-- it is
pub kept_union : (keeps : List Bool → Type 0) (text : List Bool → Entry → List ℕ) (hs : List Head)
    (ds es : List InputState) (tss : List (List Entry)) (ws : List Entry) (e : Entry) (held : Held) (count : ℕ)
    (start now : Option (List ℕ)) → (t : TakesEntry hs ds es tss ws e) → keeps (map (is_next e) hs)
    → (c : Collects keeps text tss ws held count start now)
    → IsSelection (λ (x : Entry). keeps (holders t.grown_all x)) (ws ++ e ∷ []) (c.ys ++ e ∷ [])
kept_union keeps text hs ds es tss ws e held count start now t holds c =
    selection_takes (λ (x : Entry). keeps (holders t.grown_all x)) ws c.ys e (t.union c.union).ascending
    (still_kept keeps tss t.grown_all ws c.ys t.old c.kept) (subst keeps (sym (t.new c.union)) holds)

pub kept_words : (keeps : List Bool → Type 0) (text : List Bool → Entry → List ℕ) (hs : List Head)
    (ds es : List InputState) (tss : List (List Entry)) (ws : List Entry) (e : Entry) (held : Held) (count : ℕ)
    (start now : Option (List ℕ)) → (t : TakesEntry hs ds es tss ws e)
    → (c : Collects keeps text tss ws held count start now)
    → kept_text text tss c.ys ++ text (map (is_next e) hs) e ≡ kept_text text t.grown_all (c.ys ++ e ∷ [])
kept_words keeps text hs ds es tss ws e held count start now t c =
    ap (λ (l : List ℕ). l ++ text (map (is_next e) hs) e)
    (sym (same_texts text (λ (x : Entry). keeps (holders tss x)) tss t.grown_all ws c.ys t.old c.kept))
    ∙ ap (λ (l : List Bool). kept_text text t.grown_all c.ys ++ text l e) (sym (t.new c.union))
    ∙ sym (text_push text t.grown_all c.ys e)

pub put_on : (keeps : List Bool → Type 0) (text : List Bool → Entry → List ℕ) (hs : List Head)
    (ds es : List InputState) (tss : List (List Entry)) (ws : List Entry) (e : Entry) (held kept : Held) (count more : ℕ)
    (start a b : Option (List ℕ)) → (t : TakesEntry hs ds es tss ws e) → keeps (map (is_next e) hs)
    → more ≡ counted (count + 1)
    → ((before : List ℕ) → Carries start a held before → Carries start b kept (before ++ text (map (is_next e) hs) e))
    → Collects keeps text tss ws held count start a
    → Collects keeps text t.grown_all (ws ++ e ∷ []) kept more start b
put_on keeps text hs ds es tss ws e held kept count more start a b t holds one puts c = record {
  ys = c.ys ++ e ∷ [];
  union = t.union c.union;
  kept = kept_union keeps text hs ds es tss ws e held count start a t holds c;
  carries = subst (Carries start b kept) (kept_words keeps text hs ds es tss ws e held count start a t c)
      (puts (kept_text text tss c.ys) c.carries);
  count_is = omega (arith, one, c.count_is, length-append c.ys (e ∷ []));
}
