use Rattle.std.proofs.Common.{◌∙◌, ◌++◌, ◌∷◌, [], List, refl, sym, subst}
use Rattle.archive_text.specs.Entries.{Entry, IsBelow}
use Rattle.archive_text.specs.EntryViews.{entry_of}
use Rattle.archive_proof.specs.Asking.{asked_entry}
use Rattle.archive_proof.specs.Proving.{IsPlaced}
use Rattle.archive_proof.specs.declared.search.Place.{Place}
use Rattle.archive_proof.specs.declared.search.Place.TheVariants.{Passed}
use Rattle.archive_proof.specs.declared.search.Search.{Search}
use Rattle.archive_proof.proofs.Makings.{seek_above, seek_below, seek_found}
use Rattle.archive_proof.proofs.search.Search.seek.Goals as goal

pub returns-in_ok-keep-in-Less : goal.returns-in_ok-keep-in-Less
returns-in_ok-keep-in-Less c =
    λ t xs taken counted was h.
    let r : Entry = asked_entry c.args.sought.now in
    let all : List Entry = xs ++ entry_of c.args.entry.now ∷ [] in
    let n : Search = record {
      place = c.args.self.now.place;
      before = c.keep.new.kept;
      behind = c.args.self.now.behind;
    } in
    let below : IsBelow (entry_of c.args.entry.now) r =
    subst (λ (e : Entry). IsBelow (entry_of c.args.entry.now) e) c.entry.ensures c.in-Less.ensures in
    subst (λ (l : Place). IsPlaced l r t n c.new-path.result c.args.behind.now all xs) (sym was)
    (seek_below r (entry_of c.args.entry.now) c.args.self.now n t c.args.before.now c.args.behind.now c.new-path.result
    c.args.index xs taken counted c.new-path.ensures.begins
    (subst (λ (l : Place). IsPlaced l r t c.args.self.now c.args.before.now c.args.behind.now xs xs) was h) below refl
    c.in_ok-keep-in-Less.ensures)

pub returns-in-Equal : goal.returns-in-Equal
returns-in-Equal c =
    λ t xs taken counted was h.
    seek_found (asked_entry c.args.sought.now) (entry_of c.args.entry.now) c.args.self.now c.args.self.now t
    c.args.before.now
    c.args.behind.now c.new-path.result c.args.index xs taken counted c.new-path.ensures.begins
    (c.in-Equal.ensures ∙ c.entry.ensures)

pub returns-in_ok-keep-in-Greater : goal.returns-in_ok-keep-in-Greater
returns-in_ok-keep-in-Greater c =
    λ t xs taken counted was h.
    let r : Entry = asked_entry c.args.sought.now in
    let n : Search = record {
      place = Passed;
      before = c.args.self.now.before;
      behind = c.keep-in-Greater.new.kept;
    } in
    let above : IsBelow r (entry_of c.args.entry.now) =
    subst (λ (e : Entry). IsBelow e (entry_of c.args.entry.now)) c.entry.ensures c.in-Greater.ensures in
    seek_above r (entry_of c.args.entry.now) c.args.self.now n t c.args.before.now c.args.behind.now c.new-path.result
    c.args.index xs taken counted c.new-path.ensures.begins
    (subst (λ (l : Place). IsPlaced l r t c.args.self.now c.args.before.now c.args.behind.now xs xs) was h) above refl
    c.in_ok-keep-in-Greater.ensures
