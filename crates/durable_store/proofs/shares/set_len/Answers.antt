use Rattle.std.proofs.Common.{◌++◌, ◌∷◌, [], List, ap, arith, append_assoc, sym, ◌∙◌, length}
use Rattle.std.proofs.lemmas.List.{append-nil}
use Rattle.archive_pages.specs.Paged.{entries_from}
use Rattle.archive_text.specs.Entries.{Entry}
use Rattle.archive_text.specs.EntryViews.{entry_of}
use Rattle.archive_text.specs.Text.{text_of}
use Rattle.durable_store.proofs.Growth.{more_counted, set_fits}
use Rattle.durable_store.proofs.shares.set_len.Goals as goal

pub entries-init : goal.entries-init
entries-init c = record {
  done = [];
  parts = sym (c.first-place.ensures c.args.set.now);
  len_is = omega arith;
}

pub entries-preserved : goal.entries-preserved
entries-preserved c =
    let so_far = c.entries.invariant in
    let e = entry_of c.in-Some.entry in
    record {
      done = so_far.done ++ e ∷ [];
      parts = so_far.parts ∙ ap (λ (l : List Entry). so_far.done ++ l) c.in-Some.ensures.some
          ∙ sym (append_assoc so_far.done (e ∷ []) (entries_from c.args.set.now c.in-Some.next));
      len_is = c.saturating_add-len.ensures ∙ more_counted c.entries.len c.entry_len.result so_far.done e so_far.len_is
          c.entry_len.ensures;
    }

pub returns : goal.returns
returns c =
    let so_far = c.entries.invariant in
    let whole = so_far.parts ∙ ap (λ (l : List Entry). so_far.done ++ l) c.in_default.ensures.none
    ∙ append-nil so_far.done in
    omega (arith, so_far.len_is, ap (λ (l : List Entry). length (text_of l)) whole, set_fits c.args.set.now)
