use Rattle.std.proofs.Common.{◌≡◌, IsTrue, List, [], refl}
use Rattle.std.specs.Prelude.{◌⊎◌}
use Rattle.archive_text.specs.Entries.{Entry}
use Rattle.archive_text.specs.EntryViews.{entry_of}
use Rattle.archive_digest.specs.Sums.{IsTallyOf}
use Rattle.archive_digest.proofs.Steps.{count_stops, counts_next, counts_on}
use Rattle.archive_digest.proofs.digesting.Digesting.count.Goals as goal

pub returns-then-goes_on-clause-counts : goal.returns-then-goes_on-clause-counts
returns-then-goes_on-clause-counts g c = λ roots d e start w.
    let x = entry_of c.entry-entry.result in
    counts_on roots c.args.period c.args.self.now _ x c.of-name.result d e start _
    (record { entry = c.entry-entry.ensures; lies = c.of-name.ensures }) refl refl refl
    (λ xs latest a b h. c.add.ensures roots xs latest x refl a b h)
    (λ xs latest h. (c.goes_on.ensures roots xs latest h).0 c.if-goes_on.true) w

pub returns-in-Ok-clause-counts : goal.returns-in-Ok-clause-counts
returns-in-Ok-clause-counts g c = λ roots d e start w.
    let x = entry_of c.entry-entry.result in
    let off : (xs latest : List Entry) → IsTallyOf roots c.args.self.now.tally xs latest
    → ¬ ((xs ≡ []) ⊎ (c.of-name.result ≡ c.args.self.now.name)) = λ xs latest h on.
    (let yes : IsTrue c.goes_on.result = (c.goes_on.ensures roots xs latest h).1 on in absurd cc) in
    counts_next roots c.args.period c.args.self.now _ x c.of-name.result c.octets.result.now c.in-Ok.ensures.text
    c.latest.result.now d e start _ _
    (record { entry = c.entry-entry.ensures; lies = c.of-name.ensures }) refl refl
    (λ xs latest a b h. c.add-in-Ok.ensures roots xs [] x refl a b (c.begin.ensures roots xs latest h)) off
    (λ xs latest h. c.latest.ensures roots xs latest h) c.octets.ensures (λ es h. c.in-Ok.ensures.line roots es h)
    c.in-Ok.ensures.puts w

pub returns-in-Ok-clause-told : goal.returns-in-Ok-clause-told
returns-in-Ok-clause-told g c = c.in-Ok.ensures.puts.no_failure

pub returns-in-Err-clause-fault : goal.returns-in-Err-clause-fault
returns-in-Err-clause-fault g c = λ roots d e start w.
    let x = entry_of c.entry-entry.result in
    let off : (xs latest : List Entry) → IsTallyOf roots c.args.self.now.tally xs latest
    → ¬ ((xs ≡ []) ⊎ (c.of-name.result ≡ c.args.self.now.name)) = λ xs latest h on.
    (let yes : IsTrue c.goes_on.result = (c.goes_on.ensures roots xs latest h).1 on in absurd cc) in
    count_stops roots c.args.period c.args.self.now _ x c.of-name.result c.octets.result.now c.in-Err.ensures.text
    c.latest.result.now d e start _ _ c.in-Err.field-0.sent
    (record { entry = c.entry-entry.ensures; lies = c.of-name.ensures }) off
    (λ xs latest h. c.latest.ensures roots xs latest h) c.octets.ensures (λ es h. c.in-Err.ensures.line roots es h)
    c.in-Err.ensures.puts w

pub returns-in-Err-clause-told : goal.returns-in-Err-clause-told
returns-in-Err-clause-told g c = c.in-Err.ensures.puts.cause
