-- A table grows by an entry.
use Rattle.std.proofs.Common.{◌≡◌, ℕ, ◌^◌, ◌<◌, ◌≤◌, List, [], ◌∷◌, ◌++◌, Option, None, Some, true, false, length, refl, sym, ap}
use Rattle.std.proofs.Common.{subst, ◌∙◌, inl, inr, arith}
use Rattle.std.specs.Prelude.{◌⊎◌, ◌≢◌, ◌==◌, Bool, IsSome, Vec}
use Rattle.std.proofs.lemmas.Bool.Decides.{nat_tests}
use Rattle.std.specs.BTreeMap.{BTreeMap, UpdatesBy, get_by, is_at}
use Rattle.std.specs.Map.{KeepsOthers, lookup}
use Rattle.std.specs.Cmp.Lexicographic.{slice_cmp}
use Rattle.std.specs.Ordering.{is_eq, nat_cmp}
use Rattle.std.specs.declared.cmp.Ordering.{Ordering}
use Rattle.std.specs.declared.cmp.Ordering.TheVariants.{Less, Equal, Greater}
use Rattle.std.proofs.lemmas.Cmp.{eq_by_cmp_equiv, nat_list_cmp_total}
use Rattle.syslog_value.specs.Order.{OctetsBelow}
use Rattle.syslog_value.proofs.Octets.{below_itself, octets_ranked}
use Rattle.archive_text.specs.Entries.{Entry, Has, IsAscending}
use Rattle.archive_text.specs.Text.{text_of}
use Rattle.archive_text.proofs.Members.{has_either}
use Rattle.archive_text.proofs.Orders.{octets_total}
use Rattle.archive_text.proofs.Texts.{text_length}
use Rattle.archive_sets.proofs.Selecting.{selection_nil, selection_passes, selection_takes}
use Rattle.archive_counts.specs.Tables.{AddsTo, IsRowOf, IsTableOf, IsTallyAt, IsWorded, tally_at}
use Rattle.archive_counts.specs.Tallies.{IsTallyOf}
use Rattle.archive_counts.specs.Words.{HasText}
use Rattle.archive_counts.specs.declared.key.CountKey.{CountKey}
use Rattle.archive_counts.specs.declared.table.Table.{Table}
use Rattle.archive_counts.specs.declared.tally.Tally.{Tally}
use Rattle.archive_counts.proofs.WordTexts.{one_text}

-- ---- octets are the same, or they are not

decide : (a b : List ℕ) → (a ≡ b) ⊎ (a ≢ b)
decide a b = by_order (octets_total a b)
  where
    by_order : OctetsBelow a b ⊎ ((a ≡ b) ⊎ OctetsBelow b a) → (a ≡ b) ⊎ (a ≢ b)
    by_order (inl less) = inr (λ same. below_itself b (subst (λ (l : List ℕ). OctetsBelow l b) same less))
    by_order (inr (inl same)) = inl same
    by_order (inr (inr more)) = inr (λ same. below_itself b (subst (OctetsBelow b) same more))

equal_ranked : (a b : List ℕ) (o : Ordering) → o ≡ slice_cmp nat_cmp a b → is_eq o ≡ true → a ≡ b
equal_ranked a b Less e h = absurd cc
equal_ranked a b Equal e h = octets_ranked a b Equal e
equal_ranked a b Greater e h = absurd cc

pub equal_octets : (a b : List ℕ) → is_eq (slice_cmp nat_cmp a b) ≡ true → a ≡ b
equal_octets a b h = equal_ranked a b (slice_cmp nat_cmp a b) refl h

no_other : (a b k : List ℕ) (r : Bool) → r ≡ is_eq (slice_cmp nat_cmp b k) → b ≢ a → is_eq (slice_cmp nat_cmp a k) ≡ true
    → r ≡ false
no_other a b k true e apart here = absurd (apart (equal_octets b k (sym e) ∙ sym (equal_octets a k here)))
no_other a b k false e apart here = refl

-- ---- a map under octets

-- what another query finds stays
pub others_stay : {X Y : Type 0} (m n : BTreeMap (Vec ℕ Y) X) (text : List ℕ) (w : Option X)
    → UpdatesBy (λ (x y : Vec ℕ Y). slice_cmp nat_cmp x.items y.items) (λ k. slice_cmp nat_cmp text k.items) m n w
    → (other : List ℕ) → other ≢ text
    → get_by (λ (k : Vec ℕ Y). slice_cmp nat_cmp other k.items) n
    ≡ get_by (λ (k : Vec ℕ Y). slice_cmp nat_cmp other k.items) m
unfolding KeepsOthers
others_stay {X = X} {Y = Y} m n text w h other apart =
    h.3 (is_at (λ (k : Vec ℕ Y). slice_cmp nat_cmp other k.items))
    (λ x y. (eq_by_cmp_equiv nat_list_cmp_total).congr other x.items y.items)
    (λ k here. no_other text other k.items (is_eq (slice_cmp nat_cmp other k.items)) refl apart here)

-- ---- an entry is added

tally_here : (o : Option Tally) (u : Tally) (es : List Entry) → o ≡ Some u → IsTallyOf u es → IsTallyAt o es
tally_here o u es is h = subst (λ (x : Option Tally). IsTallyAt x es) (sym is) h

pub some_here : (o : Option Tally) (u : Tally) → o ≡ Some u → IsSome o
some_here o u is = subst (λ (x : Option Tally). IsSome x) (sym is) refl

-- what becomes of a tally with an entry more
abbrev pub TallyGrows : Option Tally → Tally → Entry → Type 0
TallyGrows o u e =
    (es : List Entry) → IsAscending (es ++ e ∷ []) → length (text_of (es ++ e ∷ [])) < 2 ^ 64 → IsTallyAt o es
    → IsTallyOf u (es ++ e ∷ [])

-- a new tally, of no entries before
pub grows_from_none : (o : Option Tally) (s u : Tally) (e : Entry) → o ≡ None → IsTallyOf s []
    → ((es : List Entry) → IsAscending (es ++ e ∷ []) → length (text_of (es ++ e ∷ [])) < 2 ^ 64 → IsTallyOf s es
    → IsTallyOf u (es ++ e ∷ []))
    → TallyGrows o u e
grows_from_none o s u e is new grows es up short h =
    let none : es ≡ [] = subst (λ (x : Option Tally). IsTallyAt x es) is h in
    grows es up short (subst (IsTallyOf s) (sym none) new)

pub grows_from_some : (o : Option Tally) (s u : Tally) (e : Entry) → o ≡ Some s
    → ((es : List Entry) → IsAscending (es ++ e ∷ []) → length (text_of (es ++ e ∷ [])) < 2 ^ 64 → IsTallyOf s es
    → IsTallyOf u (es ++ e ∷ []))
    → TallyGrows o u e
grows_from_some o s u e is grows es up short h =
    grows es up short (subst (λ (x : Option Tally). IsTallyAt x es) is h)

adds_at : (s t : Table) (text : List ℕ) (e : Entry) (u : Tally)
    → UpdatesBy (λ x y. slice_cmp nat_cmp x.items y.items) (λ k. slice_cmp nat_cmp text k.items) s.rows t.rows (Some u)
    → TallyGrows (tally_at s text) u e → AddsTo s t text e
adds_at s t text e u h grows = record {
  some = some_here (tally_at t text) u h.1;
  here = λ es up short at. tally_here (tally_at t text) u (es ++ e ∷ []) h.1 (grows es up short at);
  others = λ other apart. others_stay s.rows t.rows text (Some u) h other apart;
}

-- the map may have been lent meanwhile
pub adds_to : (s t m : Table) (key text : List ℕ) (e : Entry) (u : Tally) → m.rows ≡ s.rows → key ≡ text
    → UpdatesBy (λ x y. slice_cmp nat_cmp x.items y.items) (λ k. slice_cmp nat_cmp key k.items) m.rows t.rows (Some u)
    → TallyGrows (tally_at s text) u e → AddsTo s t text e
adds_to s t m key text e u same is h grows =
    adds_at s t text e u
    (subst (λ (l : List ℕ).
    UpdatesBy (λ x y. slice_cmp nat_cmp x.items y.items) (λ k. slice_cmp nat_cmp l k.items) s.rows t.rows (Some u)) is
    (subst (λ r. UpdatesBy (λ x y. slice_cmp nat_cmp x.items y.items) (λ k. slice_cmp nat_cmp key k.items) r t.rows
    (Some u)) same h)) grows

-- ---- the table of entries

-- of no entries
pub table_none : (keys : List CountKey) (t : Table) → ((text : List ℕ) → IsTallyAt (tally_at t text) [])
    → ((text : List ℕ) → IsSome (tally_at t text) → (keys ≡ []) × (text ≡ []))
    → (keys ≡ [] → IsSome (tally_at t [])) → IsTableOf keys t []
table_none keys t at needed alone = record {
  rows = λ text. record {
    es = [];
    selection = selection_nil (HasText keys text);
    short = omega arith;
    tally = at text;
    needed = λ some. inr (needed text some);
  };
  all = λ e h. absurd h;
  alone = alone;
}

none_there : (t : Table) (text : List ℕ) → t.rows.entries ≡ [] → tally_at t text ≡ None
none_there t text none = ap (lookup (is_at (λ k. slice_cmp nat_cmp text k.items))) none

at_none : (o : Option Tally) → o ≡ None → IsTallyAt o []
at_none o is = subst (λ (x : Option Tally). IsTallyAt x []) (sym is) refl

not_some : (o : Option Tally) → o ≡ None → ¬ (IsSome o)
not_some o is some = let clash : IsSome {T = Tally} None = subst (λ (x : Option Tally). IsSome x) is some in absurd cc

pub table_empty : (keys : List CountKey) (t : Table) → t.rows.entries ≡ [] → keys ≢ [] → IsTableOf keys t []
table_empty keys t none some =
    table_none keys t (λ text. at_none (tally_at t text) (none_there t text none))
    (λ text h. absurd (not_some (tally_at t text) (none_there t text none) h)) (λ h. absurd (some h))

-- without keys
table_alone_at : (keys : List CountKey) (s t : Table) (u : Tally) → s.rows.entries ≡ [] → keys ≡ [] → IsTallyOf u []
    → UpdatesBy (λ x y. slice_cmp nat_cmp x.items y.items) (λ k. slice_cmp nat_cmp [] k.items) s.rows t.rows (Some u)
    → IsTableOf keys t []
table_alone_at keys s t u none no_keys new h =
    table_none keys t (λ text. at text (decide text [])) (λ text some. (no_keys, needed text some (decide text [])))
    (λ k. some_here (tally_at t []) u h.1)
  where
    there : (text : List ℕ) → text ≢ [] → tally_at t text ≡ None
    there text apart = others_stay s.rows t.rows [] (Some u) h text apart ∙ none_there s text none

    at : (text : List ℕ) → (text ≡ []) ⊎ (text ≢ []) → IsTallyAt (tally_at t text) []
    at text (inl same) =
        subst (λ (l : List ℕ). IsTallyAt (tally_at t l) []) (sym same) (tally_here (tally_at t []) u [] h.1 new)
    at text (inr apart) = at_none (tally_at t text) (there text apart)

    needed : (text : List ℕ) → IsSome (tally_at t text) → (text ≡ []) ⊎ (text ≢ []) → text ≡ []
    needed text some (inl same) = same
    needed text some (inr apart) = absurd (not_some (tally_at t text) (there text apart) some)

pub table_alone : (keys : List CountKey) (s t : Table) (u : Tally) (key : List ℕ) → s.rows.entries ≡ [] → keys ≡ []
    → IsTallyOf u [] → key ≡ []
    → UpdatesBy (λ x y. slice_cmp nat_cmp x.items y.items) (λ k. slice_cmp nat_cmp key k.items) s.rows t.rows (Some u)
    → IsTableOf keys t []
table_alone keys s t u key none no_keys new is h =
    table_alone_at keys s t u none no_keys new
    (subst (λ (l : List ℕ).
    UpdatesBy (λ x y. slice_cmp nat_cmp x.items y.items) (λ k. slice_cmp nat_cmp l k.items) s.rows t.rows (Some u)) is h)

no_longer : (es xs : List Entry) (x : Entry) → length (text_of es) ≤ length (text_of xs)
    → length (text_of (es ++ x ∷ [])) ≤ length (text_of (xs ++ x ∷ []))
no_longer es xs x short = omega (arith, short, text_length xs (x ∷ []), text_length es (x ∷ []))

some_entries : (es : List Entry) (x : Entry) → es ++ x ∷ [] ≢ []
some_entries [] x e = absurd cc
some_entries (y ∷ es) x e = absurd cc

-- the row under its words
row_here : (keys : List CountKey) (s t : Table) (xs : List Entry) (x : Entry) (text : List ℕ) → IsAscending (xs ++ x ∷ [])
    → length (text_of (xs ++ x ∷ [])) < 2 ^ 64 → HasText keys text x → AddsTo s t text x
    → IsRowOf keys xs text (tally_at s text) → IsRowOf keys (xs ++ x ∷ []) text (tally_at t text)
row_here keys s t xs x text up short has adds r =
    let selection = selection_takes (HasText keys text) xs r.es x up r.selection has in
    let less = no_longer r.es xs x r.short in
    record {
      es = r.es ++ x ∷ [];
      selection = selection;
      short = less;
      tally = adds.here r.es selection.ascending (omega (arith, less, short)) r.tally;
      needed = λ some. inl (some_entries r.es x);
    }

-- and each other row
row_there : (keys : List CountKey) (s t : Table) (xs : List Entry) (x : Entry) (text other : List ℕ)
    → HasText keys text x → AddsTo s t text x → other ≢ text
    → IsRowOf keys xs other (tally_at s other) → IsRowOf keys (xs ++ x ∷ []) other (tally_at t other)
row_there keys s t xs x text other has adds apart r =
    subst (IsRowOf keys (xs ++ x ∷ []) other) (sym (adds.others other apart)) (record {
      es = r.es;
      selection = selection_passes (HasText keys other) xs r.es x r.selection
          (λ also. apart (one_text keys other text x also has));
      short = omega (arith, r.short, text_length xs (x ∷ []));
      tally = r.tally;
      needed = r.needed;
    })

alone_still : (s t : Table) (x : Entry) (text : List ℕ) → AddsTo s t text x → IsSome (tally_at s [])
    → ([] ≡ text) ⊎ ([] ≢ text) → IsSome (tally_at t [])
alone_still s t x text adds some (inl same) = subst (λ (l : List ℕ). IsSome (tally_at t l)) (sym same) adds.some
alone_still s t x text adds some (inr apart) =
    subst (λ (o : Option Tally). IsSome o) (sym (adds.others [] apart)) some

pub table_takes : (keys : List CountKey) (s t : Table) (xs : List Entry) (x : Entry) (text : List ℕ)
    → IsAscending (xs ++ x ∷ []) → length (text_of (xs ++ x ∷ [])) < 2 ^ 64 → HasText keys text x → AddsTo s t text x
    → IsTableOf keys s xs → IsTableOf keys t (xs ++ x ∷ [])
table_takes keys s t xs x text up short has adds h = record {
  rows = λ other. which other (decide other text);
  all = λ e among. worded e (has_either xs (x ∷ []) e among);
  alone = λ none. alone_still s t x text adds (h.alone none) (decide [] text);
}
  where
    which : (other : List ℕ) → (other ≡ text) ⊎ (other ≢ text) → IsRowOf keys (xs ++ x ∷ []) other (tally_at t other)
    which other (inl same) =
        subst (λ (l : List ℕ). IsRowOf keys (xs ++ x ∷ []) l (tally_at t l)) (sym same)
        (row_here keys s t xs x text up short has adds (h.rows text))
    which other (inr apart) = row_there keys s t xs x text other has adds apart (h.rows other)

    worded : (e : Entry) → Has xs e ⊎ Has (x ∷ []) e → IsWorded keys e
    worded e (inl early) = h.all e early
    worded e (inr (inl same)) = (text, subst (HasText keys text) same has)
    worded e (inr (inr none)) = absurd none

pub no_keys : (keys : List CountKey) (b : Bool) → b ≡ (length keys == 0) → b ≡ true → keys ≡ []
no_keys [] b is h = refl
no_keys (k ∷ keys) b is h = let some : (length (k ∷ keys) == 0) ≡ true = sym is ∙ h in absurd (grind (arith, nat_tests, some))
