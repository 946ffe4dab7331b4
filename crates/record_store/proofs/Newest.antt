-- The greatest number of a journal.
use Rattle.std.proofs.Common.{◌≡◌, ⊎_elim, ℕ, ◌<◌, ◌^◌, List, [], ◌∷◌, ◌++◌, sym, ap, subst, ◌∙◌, arith}
use Rattle.std.specs.Prelude.{Contains, Option, None, Some, IfNone, IfSome, IsNone}
use Rattle.std.proofs.lemmas.List.Elements.{Contains-append_left, Contains-push, Contains-push_cases}
use Rattle.record_store.specs.Names.{IsGreater, IsJournal, IsNewest, IsUpTo, NoneAbove, journal_name}
use Rattle.record_store.proofs.Named.{other_number}

none_contained : (x : List ℕ) → Contains [] x → ⊥
none_contained x (k, below, same) = omega (arith, below)

pub newest_none : IsNewest [] None
newest_none = record {
  some = λ n is. absurd (cc is);
  none_above = λ n small has. none_contained (journal_name n) has;
}

module _ (names : List (List ℕ)) (name : List ℕ) where
  -- no journal's name is among the first ones
  first_above : (a : Option ℕ) (m n : ℕ) → NoneAbove names a → IsUpTo a m → m < n → n < 2 ^ 64
      → Contains names (journal_name n) → ⊥
  first_above None m n none up above small has = none n small has
  first_above (Some k) m n none up above small has = none n (omega (arith, up, above)) small has

  last_above : (b : Option ℕ) (m n : ℕ) → IfSome b (λ k. name ≡ journal_name k) → IfNone b (¬ (IsJournal name))
      → IsUpTo b m → m < n → n < 2 ^ 64 → name ≡ journal_name n → ⊥
  last_above None m n some none up above small is = none (record { number = n; small = small; name_is = is })
  last_above (Some k) m n some none up above small is =
      let same : n ≡ k = other_number n k small (omega (arith, up, above, small)) (sym is ∙ some) in
      omega (arith, same, up, above)

  first_none : (a : Option ℕ) (n : ℕ) → NoneAbove names a → IsNone a → n < 2 ^ 64 → Contains names (journal_name n) → ⊥
  first_none None n none is small has = none n small has
  first_none (Some k) n none is small has = cc is

  last_none : (b : Option ℕ) (n : ℕ) → IfNone b (¬ (IsJournal name)) → IsNone b → n < 2 ^ 64 → name ≡ journal_name n
      → ⊥
  last_none None n none is small same = none (record { number = n; small = small; name_is = same })
  last_none (Some k) n none is small same = cc is

  more_above : (a b found : Option ℕ) → NoneAbove names a → IfSome b (λ k. name ≡ journal_name k)
      → IfNone b (¬ (IsJournal name)) → IsGreater a b found → NoneAbove (names ++ name ∷ []) found
  more_above a b None before some none greater = λ n small has. ⊎_elim
      (λ first. first_none a n before greater.left small first)
      (λ last. last_none b n none greater.right small last)
      (Contains-push_cases names name (journal_name n) has)
  more_above a b (Some m) before some none greater = λ n above small has. ⊎_elim
      (λ first. first_above a m n before greater.left above small first)
      (λ last. last_above b m n some none greater.right above small last)
      (Contains-push_cases names name (journal_name n) has)

  named_last : (b : Option ℕ) (n : ℕ) → IfSome b (λ k. name ≡ journal_name k) → b ≡ Some n → name ≡ journal_name n
  named_last None n some is = absurd (cc is)
  named_last (Some k) n some is = let same : k ≡ n = cc is in some ∙ ap journal_name same

  pub newest_more : (a b found : Option ℕ) → IsNewest names a → IfSome b (λ k. name ≡ journal_name k)
      → IfNone b (¬ (IsJournal name)) → IsGreater a b found → IsNewest (names ++ name ∷ []) found
  newest_more a b found before some none greater = record {
    some = λ n is. ⊎_elim
        (λ first. Contains-append_left names (name ∷ []) (journal_name n) (before.some n (sym first ∙ is)))
        (λ last. subst (Contains (names ++ name ∷ [])) (named_last b n some (sym last ∙ is))
        (Contains-push names name))
        greater.one;
    none_above = more_above a b found before.none_above some none greater;
  }
