-- Lists of runs, and the set that they hold.
use Rattle.std.proofs.Common.{◌≡◌, ◌∙◌, ℕ, List, [], ◌∷◌, ◌++◌, take, drop, map, refl, sym, ap, subst, inl, inr}
use Rattle.std.proofs.lemmas.List.{map-append}
use Rattle.std.proofs.lemmas.Grind.{common_steps}
use Rattle.std.proofs.Common.{arith, length, Ok, Err, OnOk}
use Rattle.std.proofs.lemmas.Bool.{eqb-true}
use Rattle.std.specs.Prelude.{Result, true, ◌==◌}
use Rattle.archive_text.proofs.Ascending.{same_members}
use Rattle.archive_spill.specs.Runs.{AreSame}
use Rattle.std.specs.Prelude.{◌⊎◌, ◌↔◌}
use Rattle.octet_devices.specs.Device.{InputState}
use Rattle.archive_text.specs.Entries.{Entry, Has}
use Rattle.archive_text.specs.Text.{IsArchive}
use Rattle.archive_text.specs.declared.limits.TheConstants.{ENTRY_MAX}
use Rattle.archive_join.specs.Holders.{IsHeld}
use Rattle.archive_spill.specs.Runs.{AreKeptIn, AreRunsOf, AreUnited, IsRunOf}
use Rattle.archive_join.proofs.JoinLaws.{held_left, held_right, held_either}

-- ---- who has an entry

-- ---- runs one behind the other

runs_append : (ds es : List InputState) (xss yss : List (List Entry)) → AreRunsOf ds xss → AreRunsOf es yss
    → AreRunsOf (ds ++ es) (xss ++ yss)
runs_append [] es [] yss h k = k
runs_append [] es (xs ∷ xss) yss h k = absurd h
runs_append (d ∷ ds) es [] yss h k = absurd h
runs_append (d ∷ ds) es (xs ∷ xss) yss h k = (h.0, runs_append ds es xss yss h.1 k)

-- what the first runs hold, and what the others do
record Parted (ds es : List InputState) (xss : List (List Entry)) : Type 0 where
  first : List (List Entry)
  later : List (List Entry)
  parts : xss ≡ first ++ later
  of_first : AreRunsOf ds first
  of_later : AreRunsOf es later

parted : (ds es : List InputState) (xss : List (List Entry)) → AreRunsOf (ds ++ es) xss → Parted ds es xss
parted [] es xss h = record { first = []; later = xss; parts = refl; of_first = tt; of_later = h }
parted (d ∷ ds) es [] h = absurd h
parted (d ∷ ds) es (xs ∷ xss) h =
    let p = parted ds es xss h.1 in
    record {
      first = xs ∷ p.first;
      later = p.later;
      parts = ap (λ (l : List (List Entry)). xs ∷ l) p.parts;
      of_first = (h.0, p.of_first);
      of_later = p.of_later;
    }

-- ---- what is kept

-- nothing is
pub kept_none : AreKeptIn [] [] []
kept_none = record { xss = []; runs = tt; members = λ e. (λ h. absurd h, λ h. elim h [ inl k ↦ k | inr k ↦ k ]) }

-- an entry comes to the pages
pub kept_added : (ds : List InputState) (pages more es : List Entry) (e : Entry)
    → ((x : Entry) → Has more x ↔ ((e ≡ x) ⊎ Has pages x)) → AreKeptIn ds pages es → AreKeptIn ds more (e ∷ es)
kept_added ds pages more es e adds k = record {
  xss = k.xss;
  runs = k.runs;
  members = λ x. (there x, back x);
}
  where
    there : (x : Entry) → Has (e ∷ es) x → IsHeld (more ∷ k.xss) x
    there x (inl same) = inl ((adds x).1 (inl same))
    there x (inr has) = elim ((k.members x).0 has) [ inl page ↦ inl ((adds x).1 (inr page)) | inr run ↦ inr run ]

    page_back : (x : Entry) → (e ≡ x) ⊎ Has pages x → Has (e ∷ es) x
    page_back x (inl same) = inl same
    page_back x (inr page) = inr ((k.members x).1 (inl page))

    back : (x : Entry) → IsHeld (more ∷ k.xss) x → Has (e ∷ es) x
    back x (inl page) = page_back x ((adds x).0 page)
    back x (inr run) = inr ((k.members x).1 (inr run))

-- the pages go out
pub kept_spilled : (ds : List InputState) (d : InputState) (pages es : List Entry) → IsRunOf d pages
    → AreKeptIn ds pages es → AreKeptIn (ds ++ d ∷ []) [] es
kept_spilled ds d pages es run k = record {
  xss = k.xss ++ pages ∷ [];
  runs = runs_append ds (d ∷ []) k.xss (pages ∷ []) k.runs (run, tt);
  members = λ x. (there x, back x);
}
  where
    there : (x : Entry) → Has es x → IsHeld ([] ∷ k.xss ++ pages ∷ []) x
    there x has =
        elim ((k.members x).0 has) [
          | inl page ↦ inr (held_right k.xss (pages ∷ []) x (inl page))
          | inr old ↦ inr (held_left k.xss (pages ∷ []) x old)
        ]

    behind : (x : Entry) → IsHeld k.xss x ⊎ IsHeld (pages ∷ []) x → Has es x
    behind x (inl old) = (k.members x).1 (inr old)
    behind x (inr (inl page)) = (k.members x).1 (inl page)
    behind x (inr (inr none)) = absurd none

    back : (x : Entry) → IsHeld ([] ∷ k.xss ++ pages ∷ []) x → Has es x
    back x (inl none) = absurd none
    back x (inr h) = behind x (held_either k.xss (pages ∷ []) x h)

-- the last runs become one
pub kept_joined : (ds bs : List InputState) (d : InputState) (pages es : List Entry)
    → ((xss : List (List Entry)) → AreRunsOf bs xss → (ys : List Entry) × IsRunOf d ys × AreUnited xss ys)
    → AreKeptIn (ds ++ bs) pages es → AreKeptIn (ds ++ d ∷ []) pages es
kept_joined ds bs d pages es joins k =
    let p = parted ds bs k.xss k.runs in
    let j = joins p.later p.of_later in
    joined p.first p.later j.0 p.parts p.of_first j.1 j.2
  where
    joined : (first later : List (List Entry)) (ys : List Entry) → k.xss ≡ first ++ later → AreRunsOf ds first
        → IsRunOf d ys → AreUnited later ys → AreKeptIn (ds ++ d ∷ []) pages es
    joined first later ys parts before run united = record {
      xss = first ++ ys ∷ [];
      runs = runs_append ds (d ∷ []) first (ys ∷ []) before (run, tt);
      members = λ x. (there x, back x);
    }
      where
        from_runs : (x : Entry) → IsHeld first x ⊎ IsHeld later x → IsHeld (first ++ ys ∷ []) x
        from_runs x (inl old) = held_left first (ys ∷ []) x old
        from_runs x (inr new) = held_right first (ys ∷ []) x (inl ((united x).1 new))

        there : (x : Entry) → Has es x → IsHeld (pages ∷ first ++ ys ∷ []) x
        there x has =
            elim ((k.members x).0 has) [
              | inl page ↦ inl page
              | inr old ↦ inr (from_runs x (held_either first later x
                  (subst (λ (l : List (List Entry)). IsHeld l x) parts old)))
            ]

        to_runs : (x : Entry) → IsHeld first x ⊎ IsHeld (ys ∷ []) x → IsHeld (first ++ later) x
        to_runs x (inl old) = held_left first later x old
        to_runs x (inr (inl new)) = held_right first later x ((united x).0 new)
        to_runs x (inr (inr none)) = absurd none

        back : (x : Entry) → IsHeld (pages ∷ first ++ ys ∷ []) x → Has es x
        back x (inl page) = (k.members x).1 (inl page)
        back x (inr h) = (k.members x).1 (inr (subst (λ (l : List (List Entry)). IsHeld l x) (sym parts)
            (to_runs x (held_either first (ys ∷ []) x h))))

-- ---- the same of runs as they are kept

-- the pages go out, and are empty then
pub spilled_kept : {R : Type 0} (state : R → InputState) (old new : List R) (run : R) (pages more es : List Entry)
    → new ≡ old ++ run ∷ [] → more ≡ [] → IsRunOf (state run) pages → AreKeptIn (map state old) pages es
    → AreKeptIn (map state new) more es
spilled_kept state old new run pages more es is none of_pages k =
    subst (λ (l : List InputState). AreKeptIn l more es) (sym (ap (map state) is ∙ map-append state old (run ∷ [])))
    (subst (λ (l : List Entry). AreKeptIn (map state old ++ state run ∷ []) l es) (sym none)
    (kept_spilled (map state old) (state run) pages es of_pages k))

take_drop : {R : Type 0} (n : ℕ) (l : List R) → l ≡ take n l ++ drop n l
take_drop n l = grind (arith, common_steps)

-- the runs behind the first ones become one
pub joined_kept : {R : Type 0} (state : R → InputState) (n : ℕ) (old cut new : List R) (run : R) (pages es : List Entry)
    → cut ≡ take n old → new ≡ cut ++ run ∷ []
    → ((xss : List (List Entry)) → AreRunsOf (map state (drop n old)) xss
    → (ys : List Entry) × IsRunOf (state run) ys × AreUnited xss ys)
    → AreKeptIn (map state old) pages es → AreKeptIn (map state new) pages es
joined_kept state n old cut new run pages es is_cut is joins k =
    let parts = ap (map state) (take_drop n old) ∙ map-append state (take n old) (drop n old) in
    let whole = ap (map state) (is ∙ ap (λ l. l ++ run ∷ []) is_cut) ∙ map-append state (take n old) (run ∷ []) in
    subst (λ (l : List InputState). AreKeptIn l pages es) (sym whole)
    (kept_joined (map state (take n old)) (map state (drop n old)) (state run) pages es joins
    (subst (λ (l : List InputState). AreKeptIn l pages es) parts k))

-- a part of a list was written over, and it was all of it
pub written_back : {R : Type 0} (n : ℕ) (old new : List R) → length new ≡ n → length old ≡ n
    → take n (new ++ drop (length new) old) ≡ new
written_back n old new is_new is_old = grind (arith, common_steps)

-- what holds at Ok, and what follows from it
pub on_ok : {T E : Type 0} (r : Result T E) (P Q : Type 0) → (P → Q) → OnOk r P → OnOk r Q
on_ok (Ok x) P Q f h = f h
on_ok (Err x) P Q f h = tt

-- no run is there
pub only_pages : (ds : List InputState) (pages es ys : List Entry) → ds ≡ [] → IsArchive ENTRY_MAX pages
    → IsArchive ENTRY_MAX ys → AreKeptIn ds pages es → AreSame es ys → pages ≡ ys
only_pages (d ∷ ds) pages es ys none p y k same = absurd (cc none)
only_pages [] pages es ys none p y k same = go k.xss k.runs k.members
  where
    back : (xs : List Entry) (x : Entry) → Has xs x ⊎ IsHeld [] x → Has xs x
    back xs x (inl page) = page
    back xs x (inr none) = absurd none

    go : (xss : List (List Entry)) → AreRunsOf [] xss → AreUnited (pages ∷ xss) es → pages ≡ ys
    go (xs ∷ xss) runs members = absurd runs
    go [] runs members = same_members pages ys p.ascending y.ascending (λ x h. (same x).0 ((members x).1 (inl h)))
        (λ x h. back pages x ((members x).0 ((same x).1 h)))

-- no entry is in the pages
pub only_runs : (ds : List InputState) (pages es ys : List Entry) → pages ≡ [] → (k : AreKeptIn ds pages es)
    → AreSame es ys → AreUnited k.xss ys
only_runs ds (p ∷ pages) es ys none k same = absurd (cc none)
only_runs ds [] es ys none k same = λ x. (
  λ h. run x ((k.members x).0 ((same x).1 h)),
  λ h. (same x).0 ((k.members x).1 (inr h)),
)
  where
    run : (x : Entry) → Has [] x ⊎ IsHeld k.xss x → IsHeld k.xss x
    run x (inl nothing) = absurd nothing
    run x (inr h) = h

-- a list of length zero has no items
pub none_mapped : {R : Type 0} (state : R → InputState) (n : ℕ) (l : List R) → n ≡ length l → true ≡ (n == 0)
    → map state l ≡ []
none_mapped state n [] is zero_is = refl
none_mapped state n (x ∷ l) is zero_is = absurd (omega (arith, is, eqb-true n 0 (sym zero_is)))
