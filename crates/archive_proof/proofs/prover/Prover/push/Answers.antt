use Rattle.std.proofs.Common.{◌<◌, ◌+◌, ◌^◌, ◌++◌, ◌∷◌, ◌∙◌, [], List, ℕ, length, refl, sym, ap, subst, arith}
use Rattle.archive_text.specs.Entries.{Entry}
use Rattle.archive_text.specs.EntryViews.{entry_of}
use Rattle.archive_tree.proofs.Archives.{count_of_texts, texts_append}
use Rattle.archive_tree.specs.Trees.{HasTaken}
use Rattle.archive_tree.specs.declared.stream.TreeStream.{TreeStream}
use Rattle.archive_tree.specs.Archives.{texts_of}
use Rattle.archive_proof.proofs.Makings.{all_pushed, placed_same, written_back}
use Rattle.archive_proof.proofs.prover.Prover.push.Goals as goal

pub returns : goal.returns
returns c =
    λ rs xs room archive h.
    let t : TreeStream = c.args.self.now.tree in
    let x : Entry = entry_of c.args.entry.now in
    let looked = c.in_ok-look_all.ensures t xs h.taken refl
    (placed_same t xs xs _ _ _ _ _ _ (sym c.as_slice.ensures.value) (sym c.as_mut_slice.ensures.value)
    (sym c.as_mut_slice-2.ensures.value) h.placed) in
    let searches = written_back _ _ c.look_all.new.searches (c.look_all.auto.searches ∙ c.as_mut_slice.ensures.len)
    (ap length (sym c.as_mut_slice.ensures.value) ∙ c.as_mut_slice.ensures.len) in
    let paths = written_back _ _ c.look_all.new.paths (c.look_all.auto.paths ∙ c.as_mut_slice-2.ensures.len)
    (ap length (sym c.as_mut_slice-2.ensures.value) ∙ c.as_mut_slice-2.ensures.len) in
    let pushed = all_pushed t c.push.new.self x (xs ++ x ∷ []) xs room c.args.self.now.asked.items
    c.look_all.new.searches c.as_mut_slice-3.result.now c.push.new.paths c.push.ensures.followed c.push.auto.paths
    (placed_same t (xs ++ x ∷ []) xs _ _ _ _ _ _ c.as_slice.ensures.value refl
    (sym (c.as_mut_slice-3.ensures.value ∙ paths)) looked) in
    let again = written_back _ _ c.push.new.paths (c.push.auto.paths ∙ c.as_mut_slice-3.ensures.len)
    (ap length (sym c.as_mut_slice-3.ensures.value) ∙ c.as_mut_slice-3.ensures.len) in
    let fits : length (texts_of xs) + 1 < 2 ^ 64 = omega (arith, count_of_texts xs, room) in
    record {
      asked = h.asked;
      archive = archive;
      taken = subst (λ (l : List (List ℕ)). HasTaken c.push.new.self l) (sym (texts_append xs x))
          (c.push.ensures.taken (texts_of xs) fits h.taken);
      placed = placed_same c.push.new.self (xs ++ x ∷ []) (xs ++ x ∷ []) _ _ _ _ _ _ refl (sym searches) (sym again)
          pushed;
    }
