-- An archive has one digest.
use Rattle.std.proofs.Common.{◌≡◌, ℕ, List, [], ◌∷◌, ◌++◌, ◌∙◌, refl, sym, ap, subst, inl}
use Rattle.std.specs.Prelude.{◌≢◌}
use Rattle.std.specs.List.{AllByRecursion}
use Rattle.std.proofs.lemmas.List.{append_cancel_left}
use Rattle.archive_text.specs.Entries.{Entry, Has}
use Rattle.archive_sets.specs.Selections.{IsSelection}
use Rattle.archive_sets.proofs.SelectionLaws.{one_selection}
use Rattle.archive_digest.specs.Digests.{Part, IsDivided, IsPartOf, entries_of}
use Rattle.archive_text.specs.Periods.{IsIn}
use Rattle.archive_text.specs.declared.period.Period.{Period}
use Rattle.archive_text.proofs.Names.{one_name}
use Rattle.archive_digest.proofs.Parts.{part}

-- lists that begin with entries begin alike
same_first : (es fs xs ys : List Entry) → es ≢ [] → fs ≢ [] → es ++ xs ≡ fs ++ ys
    → (e : Entry) × Has es e × Has fs e
same_first [] fs xs ys some any same = absurd (some refl)
same_first (a ∷ es) [] xs ys some any same = absurd (any refl)
same_first (a ∷ es) (b ∷ fs) xs ys some any same = (a, inl refl, inl (let e : b ≡ a = cc in e))

same_part : (period : Period) (xs : List Entry) (p q : Part) (e : Entry) → IsPartOf period xs p → IsPartOf period xs q
    → Has p.entries e → Has q.entries e → p ≡ q
same_part period xs p q e h k first also =
    let name : p.name ≡ q.name = one_name period e.instant p.name q.name ((h.selection.members e).0 first).1
    ((k.selection.members e).0 also).1 in
    let entries : p.entries ≡ q.entries = one_selection (IsIn period q.name) xs p.entries q.entries
    (subst (λ (n : List ℕ). IsSelection (IsIn period n) xs p.entries) name h.selection) k.selection in
    let f : List ℕ → Part = λ n. part n p.entries in
    let g : List Entry → Part = λ es. part q.name es in
    ap f name ∙ ap g entries

none : (es xs : List Entry) → es ≢ [] → es ++ xs ≡ [] → ⊥
none [] xs some same = some refl
none (a ∷ es) xs some same = cc

same_parts : (period : Period) (xs : List Entry) (ps qs : List Part) → AllByRecursion (IsPartOf period xs) ps
    → AllByRecursion (IsPartOf period xs) qs → entries_of ps ≡ entries_of qs → ps ≡ qs
same_parts period xs [] [] h k same = refl
same_parts period xs [] (q ∷ qs) h k same = absurd (none q.entries (entries_of qs) k.0.some (sym same))
same_parts period xs (p ∷ ps) [] h k same = absurd (none p.entries (entries_of ps) h.0.some same)
same_parts period xs (p ∷ ps) (q ∷ qs) h k same =
    let e = same_first p.entries q.entries (entries_of ps) (entries_of qs) h.0.some k.0.some same in
    let first : p ≡ q = same_part period xs p q e.0 h.0 k.0 e.1 e.2 in
    let rest : entries_of ps ≡ entries_of qs = append_cancel_left q.entries (entries_of ps) (entries_of qs)
    (ap (λ (r : Part). r.entries ++ entries_of ps) (sym first) ∙ same) in
    ap (λ (r : Part). r ∷ ps) first ∙ ap (λ (rs : List Part). q ∷ rs) (same_parts period xs ps qs h.1 k.1 rest)

pub one_division : (period : Period) (xs : List Entry) (ps qs : List Part) → IsDivided period xs ps
    → IsDivided period xs qs → ps ≡ qs
one_division period xs ps qs h k = same_parts period xs ps qs h.each k.each (sym h.all ∙ k.all)
