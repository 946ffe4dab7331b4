use Rattle.std.proofs.Common.{rules, ◌≡◌, ◌++◌, Bool, IsTrue, List, false, refl, sym, subst, arith}
use Rattle.octet_devices.specs.Held.{Carries, StopsWithin}
use Rattle.archive_text.specs.EntryViews.{entry_of}
use Rattle.archive_join.proofs.Turns.{taken_not, taken_put, taken_stops}
use Rattle.archive_join.proofs.joining.Join.take.Goals as goal

pub returns-then-not-is_kept-clause-takes : goal.returns-then-not-is_kept-clause-takes
returns-then-not-is_kept-clause-takes g c = λ bs ds es start idle before.
    let keeps = g.K.Kept.keeps c.args.kept.now in
    let off : c.is_kept.result ≡ false = search rules in
    let fails : ¬ (keeps c.args.self.now.holders.items) =
    λ k. (let on : IsTrue c.is_kept.result = c.is_kept.ensures.1 (subst keeps (sym c.deref.ensures.value) k) in
    absurd cc) in
    taken_not keeps (g.K.Kept.text c.args.kept.now) c.args.self.now _ c.args.least bs ds es start _ c.requires.least
    c.requires.holders fails refl refl refl refl idle before

pub returns-in-Ok-clause-takes : goal.returns-in-Ok-clause-takes
returns-in-Ok-clause-takes g c = λ bs ds es start idle before.
    let keeps = g.K.Kept.keeps c.args.kept.now in
    let text = g.K.Kept.text c.args.kept.now in
    let x = entry_of c.entry-entry.result in
    let on : IsTrue c.is_kept.result = search rules in
    let holds = subst keeps c.deref.ensures.value (c.is_kept.ensures.0 on) in
    taken_put keeps text c.args.self.now _ c.args.least c.index.result.now x bs ds es start _ _ c.requires.least
    c.requires.holders c.index.ensures c.entry-entry.ensures holds refl refl
    (omega (arith, c.saturating_add-self.ensures))
    (λ t h. subst (λ (l : List Bool). Carries start (g.W.Output.state c.put.new.writer).taken c.put.new.held (t ++ text l x)) c.deref-2.ensures.value
    (c.in-Ok.ensures.carries start t h)) idle before

pub returns-in-Err-clause-halts : goal.returns-in-Err-clause-halts
returns-in-Err-clause-halts g c = λ bs ds es start idle before.
    let keeps = g.K.Kept.keeps c.args.kept.now in
    let text = g.K.Kept.text c.args.kept.now in
    let x = entry_of c.entry-entry.result in
    let on : IsTrue c.is_kept.result = search rules in
    let holds = subst keeps c.deref.ensures.value (c.is_kept.ensures.0 on) in
    taken_stops keeps text c.args.self.now c.put.new.held c.args.least c.index.result.now x c.in-Err.field-0.sent bs ds es start _ _
    c.requires.least c.requires.holders c.index.ensures c.entry-entry.ensures holds
    (λ t h. subst (λ (l : List Bool). StopsWithin start (g.W.Output.state c.put.new.writer).taken (t ++ text l x) c.in-Err.field-0.sent) c.deref-2.ensures.value
    (c.in-Err.ensures.stops start t h)) idle before
