use Rattle.std.proofs.Common.{◌≡◌, ◌∙◌, ap, length, rules, subst, take, List, ℕ}
use Rattle.std.proofs.lemmas.List.{take_at}
use Rattle.syslog_reading.specs.IdKeys.{Offered, offsets}
use Rattle.syslog_reading.proofs.Sorted.{differ, ends_there}
use Rattle.syslog_reading.proofs.distinct.differ_up_to.Goals as goal

pub returns-clause-differ : goal.returns-clause-differ
returns-clause-differ c =
    let prefix = c.split_at_mut-found.result.0.now in
    let size : length prefix ≡ c.fill_keys-count.result.0 = search rules in
    let taken : take c.fill_keys-count.result.0 c.fill_keys-count.new.keys ≡ prefix =
    ap (take c.fill_keys-count.result.0) c.split_at_mut-found.ensures.value
    ∙ take_at prefix c.split_at_mut-found.result.1.now c.fill_keys-count.result.0 size in
    let offered = c.fill_keys-count.ensures.offered in
    differ c.args.elements.now offered.0 (offsets prefix) (offsets c.sort_keys.new.keys) c.fill_keys-count.result.1
    c.first_met.result offered.1
    (subst (λ (u : List ℕ). Offered c.args.elements.now offered.0 (offsets u)) taken offered.2)
    c.sort_keys.ensures c.first_met.ensures.within c.first_met.ensures.met

pub returns-clause-end : goal.returns-clause-end
returns-clause-end c =
    let prefix = c.split_at_mut-found.result.0.now in
    let size : length prefix ≡ c.fill_keys-count.result.0 = search rules in
    let taken : take c.fill_keys-count.result.0 c.fill_keys-count.new.keys ≡ prefix =
    ap (take c.fill_keys-count.result.0) c.split_at_mut-found.ensures.value
    ∙ take_at prefix c.split_at_mut-found.result.1.now c.fill_keys-count.result.0 size in
    let offered = c.fill_keys-count.ensures.offered in
    ends_there c.args.elements.now offered.0 (offsets prefix) (offsets c.sort_keys.new.keys) c.fill_keys-count.result.1
    c.first_met.result offered.1
    (subst (λ (u : List ℕ). Offered c.args.elements.now offered.0 (offsets u)) taken offered.2)
    c.sort_keys.ensures c.first_met.ensures.one
