use Rattle.std.proofs.Common.{◌++◌, ◌∷◌, [], List, ap, append_assoc, refl, sym, ◌∙◌}
use Rattle.archive_text.specs.Periods.{IsIn}
use Rattle.archive_text.specs.declared.period.Period.TheVariants.{Day}
use Rattle.archive_pages.specs.Paged.{entries_from}
use Rattle.archive_text.specs.Entries.{Entry}
use Rattle.archive_text.specs.EntryViews.{entry_of}
use Rattle.archive_text.proofs.Members.{all_append}
use Rattle.durable_store.proofs.Growth.{first_counted, more_counted}
use Rattle.durable_store.proofs.shares.day_len.Goals as goal

pub entries-init : goal.entries-init
entries-init c = record {
  front = [];
  parts = refl;
  days = tt;
  len_is = first_counted c.entry_len-len.result (entry_of c.args.first.now) c.entry_len-len.ensures;
}

pub entries-preserved : goal.entries-preserved
entries-preserved c =
    let so_far = c.entries.invariant in
    let first = entry_of c.args.first.now in
    let e = entry_of c.in-Some.entry in
    let found = c.in-Some.ensures.some in
    record {
      front = so_far.front ++ e ∷ [];
      parts = so_far.parts ∙ ap (λ (l : List Entry). so_far.front ++ l) found.0
          ∙ sym (append_assoc so_far.front (e ∷ []) (entries_from c.args.set.now c.in-Some.next));
      days = all_append (IsIn Day c.args.day.now) so_far.front (e ∷ []) so_far.days (found.1, tt);
      len_is = c.saturating_add-len.ensures
          ∙ more_counted c.entries.len c.entry_len.result (first ∷ so_far.front) e so_far.len_is c.entry_len.ensures;
    }

pub returns : goal.returns
returns c =
    let so_far = c.entries.invariant in
    record {
      front = so_far.front;
      parts = so_far.parts;
      days = so_far.days;
      ends = c.in_default.ensures.none;
      len_is = so_far.len_is;
    }
