use Rattle.std.proofs.Common.{rules, ◌≡◌, IsTrue, false, refl, sym, subst}
use Rattle.archive_text.specs.Entries.{Entry}
use Rattle.archive_text.specs.EntryViews.{entry_of}
use Rattle.archive_streams.specs.Entries.{current}
use Rattle.archive_sets.proofs.Steps.{passes, put_stops, takes}
use Rattle.archive_sets.proofs.selection.Selection.keep.Goals as goal

pub returns-then-not-holds-clause-keeps : goal.returns-then-not-holds-clause-keeps
returns-then-not-holds-clause-keeps g c = λ d e start w.
    let meets : Entry → Type 0 = g.C.Condition.meets c.args.condition.now in
    let s = c.args.self.now in
    let off : c.holds.result ≡ false = search rules in
    let fails : ¬ (meets (current s.entries)) =
    λ met. (let on : IsTrue c.holds.result = c.holds.ensures.1 (subst meets (sym c.entry-entry.ensures) met) in
    absurd cc) in
    passes meets s d e start _ fails w

pub returns-in-Ok-clause-keeps : goal.returns-in-Ok-clause-keeps
returns-in-Ok-clause-keeps g c = λ d e start w.
    let on : IsTrue c.holds.result = search rules in
    takes (g.C.Condition.meets c.args.condition.now) c.args.self.now _ (entry_of c.entry-entry.result) d e start _ _
    c.entry-entry.ensures (c.holds.ensures.0 on) refl refl (λ text h. c.in-Ok.ensures.carries start text h) w

pub returns-in-Err-clause-fault : goal.returns-in-Err-clause-fault
returns-in-Err-clause-fault g c = λ d e start w.
    let on : IsTrue c.holds.result = search rules in
    put_stops (g.C.Condition.meets c.args.condition.now) c.args.self.now _ (entry_of c.entry-entry.result) d e start _ _
    c.in-Err.field-0.sent c.entry-entry.ensures (c.holds.ensures.0 on)
    (λ text h. c.in-Err.ensures.stops start text h) w
